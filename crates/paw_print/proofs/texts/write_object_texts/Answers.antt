use Rattle.std.proofs.Common.{ℕ, [], ◌∷◌, ◌++◌, ◌∙◌, sym, ap, arith}
use Rattle.std.specs.Prelude.{codes}
use Rattle.std.proofs.lemmas.List.{take_all}
use Rattle.paw_base.specs.Bytes.{Lines}
use Rattle.paw_game.specs.declared.parts.ObjectRow.{ObjectRow}
use Rattle.paw_print.specs.Lines.{text_lines}
use Rattle.paw_print.specs.Canonical.{numbered_lines, with_line_ends}
use Rattle.paw_print.proofs.Growing.{numbered_more, numbered-map}
use Rattle.paw_print.proofs.texts.write_object_texts.Goals as goal

abbrev text_rows : ℕ → ObjectRow → Lines
text_rows n o = text_lines n o.text

pub loop-number-preserved : goal.loop-number-preserved
loop-number-preserved c =
    numbered_more text_rows (codes "/OTX" ∷ []) c.args.objects.now c.loop-number.number c.index-objects-number.result
    c.args.out.now.items c.loop-number.out.items _
    (omega arith) c.index-objects-number.is c.loop-number.invariant c.in_ok-write_text.ensures.writes

pub returns : goal.returns
returns c =
    let all = take_all c.loop-number.number c.args.objects.now (omega arith) in
    record {
      writes =
          c.loop-number.invariant
          ∙ ap (λ (ls : Lines). c.args.out.now.items ++ with_line_ends (codes "/OTX" ∷ ls))
          (ap (numbered_lines text_rows 0) all ∙ sym (numbered-map text_lines (λ (o : ObjectRow). o.text) 0 c.args.objects.now));
    }
