use Rattle.std.proofs.Common.{◌≡◌, ◌++◌, drop}
use Rattle.paw_author.specs.Hooks.{lines_for}
use Rattle.paw_author.proofs.hooks.add_lines_for.Given as goal

abbrev pub invariant-loop-u : goal.invariant-loop-u
invariant-loop-u l = l.out.items ++ lines_for l.name (drop l.u-index l.all) ≡ l.initial.out.items ++ lines_for l.name l.all
