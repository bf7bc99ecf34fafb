use Rattle.std.proofs.Common.{◌≡◌, ◌++◌, [], drop}
use Rattle.std.specs.List.{flat_map}
use Rattle.paw_author.specs.NameRows.{flags_in_line}
use Rattle.paw_author.proofs.name_rows.add_more_flags.Given as goal

abbrev pub invariant-loop-line : goal.invariant-loop-line
invariant-loop-line l =
    l.flags.items ++ flat_map (λ more. flags_in_line [] more) (drop l.line-index l.lines)
    ≡ l.initial.flags.items ++ flat_map (λ more. flags_in_line [] more) l.lines
