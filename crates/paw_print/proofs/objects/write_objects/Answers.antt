use Rattle.std.proofs.Common.{[], ◌∷◌, ◌++◌, ◌∙◌, sym, ap, arith}
use Rattle.std.specs.Prelude.{codes}
use Rattle.std.proofs.lemmas.List.{append-nil}
use Rattle.paw_base.specs.Bytes.{Text}
use Rattle.paw_game.specs.declared.parts.ObjectRow.{ObjectRow}
use Rattle.paw_print.specs.Lines.{object_tokens, tokens_spaced}
use Rattle.paw_print.proofs.Growing.{numbered_more}
use Rattle.paw_print.proofs.objects.write_objects.Goals as goal

pub loop-number-preserved : goal.loop-number-preserved
loop-number-preserved c =
    numbered_more (λ n (o : ObjectRow). tokens_spaced (object_tokens c.args.vocabulary.now n o.facts) ∷ [])
    (codes "/OBJ" ∷ []) c.args.objects.now c.loop-number.number
    c.index-objects-number.result c.args.out.now.items c.loop-number.out.items _
    (omega arith) c.index-objects-number.is c.loop-number.invariant
    (c.in_ok-write_object.ensures.writes ∙ ap (λ (t : Text). c.loop-number.out.items ++ t) (sym (append-nil _)))
