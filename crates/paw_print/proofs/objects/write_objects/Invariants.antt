use Rattle.std.proofs.Common.{◌≡◌, ◌++◌, take}
use Rattle.paw_print.specs.Canonical.{objects_lines, with_line_ends}
use Rattle.paw_print.proofs.objects.write_objects.Given as goal

abbrev pub invariant-loop-number : goal.invariant-loop-number
invariant-loop-number l = l.out.items ≡ l.fn.out.items ++ with_line_ends (objects_lines l.vocabulary (take l.number l.objects))
