use Rattle.std.proofs.Common.{◌≡◌, ◌<◌, length, refl, sym, ◌∙◌, arith}
use Rattle.std.proofs.lemmas.Bool.{eqb-true, eqb-false}
use Rattle.paw_author.specs.declared.fragment.Origin.{Origin}
use Rattle.paw_author.specs.Parts.{first_part}
use Rattle.paw_author.proofs.CutLines.{part_more, no_part}
use Rattle.paw_author.proofs.parts.line_parts.Goals as goal

pub loop-left-preserved : goal.loop-left-preserved
loop-left-preserved c =
    let left = c.loop-left.left.now in
    let k = c.part_len.result in
    let some : 0 < length left = omega (arith, eqb-false (length left) 0 (sym c.is_empty.ensures ∙ c.loop-left-test.true)) in
    let origin : Origin = record { file = c.args.file; line = c.args.number; column = c.loop-left.column } in
    let x : c.in_ok-part.field-0 ≡ first_part origin k left = c.in_ok-part.ensures.value ∙ rw c.split_at.ensures.front refl in
    record {
      same = rw (c.in_ok-push.ensures.items, c.split_at.ensures.front_len, c.split_at.ensures.back)
          (part_more c.loop-left.parts.items c.in_ok-part.field-0 origin k left _ some c.part_len.ensures.value x c.loop-left.invariant.same);
      within = omega arith;
    }

pub returns : goal.returns
returns c =
    let empty : length c.loop-left.left.now ≡ 0 = eqb-true (length c.loop-left.left.now) 0 (sym c.is_empty.ensures ∙ c.loop-left-test.false) in
    record { value = no_part c.loop-left.parts.items (record { file = c.args.file; line = c.args.number; column = c.loop-left.column }) c.loop-left.left.now _ empty c.loop-left.invariant.same }
