use Rattle.std.proofs.Common.{◌≡◌, [], take, drop}
use Rattle.paw_author.specs.Hooks.{hooks_known}
use Rattle.paw_author.proofs.hooks.hooks_known.Given as goal

abbrev pub invariant-loop-i : goal.invariant-loop-i
invariant-loop-i l = hooks_known l.hooks (take l.i l.all) (drop l.i l.all) ≡ hooks_known l.hooks [] l.all
