use Rattle.std.proofs.Common.{ℕ, Bool, not, sym, ap, ◌∙◌}
use Rattle.std.specs.List.{list_any}
use Rattle.std.proofs.lemmas.List.{take_all}
use Rattle.std.proofs.lemmas.List.Folds.{list_any_more}
use Rattle.paw_base.specs.Bytes.{Bytes}
use Rattle.paw_lex.specs.Bytes.{is_allowed}
use Rattle.paw_lex.proofs.bytes.any_is_forbidden.Goals as goal

pub loop-byte-preserved : goal.loop-byte-preserved
loop-byte-preserved c =
    let forbidden : ℕ → Bool = λ b. not (is_allowed c.args.text b) in
    let more = list_any_more forbidden c.args.line.now c.loop-byte.byte-index 0 c.loop-byte-test.true in
    rw (c.loop-byte.invariant, c.is_allowed.ensures.value) (sym more)

pub returns : goal.returns
returns c =
    let forbidden : ℕ → Bool = λ b. not (is_allowed c.args.text b) in
    let all = take_all c.loop-byte.byte-index c.args.line.now c.loop-byte-test.false in
    record { value = c.loop-byte.invariant ∙ ap (λ (bs : Bytes). list_any forbidden bs) all }
