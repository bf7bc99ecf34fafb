use Rattle.std.proofs.Common.{◌≡◌, ◌++◌, ◌∷◌, take}
use Rattle.std.specs.Prelude.{codes}
use Rattle.paw_print.specs.Lines.{text_lines}
use Rattle.paw_print.specs.Canonical.{numbered_lines, with_line_ends}
use Rattle.paw_print.proofs.texts.write_object_texts.Given as goal

abbrev pub invariant-loop-number : goal.invariant-loop-number
invariant-loop-number l =
    l.out.items ≡ l.fn.out.items ++ with_line_ends (codes "/OTX" ∷ numbered_lines (λ n o. text_lines n o.text) 0 (take l.number l.objects))
