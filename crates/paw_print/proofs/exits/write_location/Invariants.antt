use Rattle.std.proofs.Common.{◌≡◌, ◌++◌, [], ◌∷◌, map, take}
use Rattle.std.specs.Prelude.{decimal}
use Rattle.paw_print.specs.Lines.{item_token, verb_token, tokens_spaced}
use Rattle.paw_print.specs.Canonical.{with_line_ends}
use Rattle.paw_print.proofs.exits.write_location.Given as goal

abbrev pub invariant-loop-exit : goal.invariant-loop-exit
invariant-loop-exit l =
    l.out.items ≡ l.fn.out.items
    ++ with_line_ends (item_token l.number ∷ map (λ y. tokens_spaced (verb_token l.vocabulary y.verb ∷ decimal y.to ∷ [])) (take l.exit-index l.exits))
