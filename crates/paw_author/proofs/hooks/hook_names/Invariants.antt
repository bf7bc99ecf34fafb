use Rattle.std.proofs.Common.{◌≡◌, ◌++◌, drop}
use Rattle.paw_author.specs.Hooks.{hook_names}
use Rattle.paw_author.proofs.hooks.hook_names.Given as goal

abbrev pub invariant-loop-u : goal.invariant-loop-u
invariant-loop-u l = l.names.items ++ hook_names (drop l.u-index l.all) ≡ hook_names l.all
