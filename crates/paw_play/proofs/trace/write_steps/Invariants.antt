use Rattle.paw_play.proofs.Names.{◌≡◌, ◌*◌, ◌≤◌, length, take, flat_map, step_line}
use Rattle.paw_play.proofs.trace.write_steps.Given as goal

-- The lines so far, each of at most 27 bytes.
abbrev pub invariant-loop-step : goal.invariant-loop-step
invariant-loop-step l = record {
  lines : l.text ≡ flat_map step_line (take l.step-index l.step-items);
  short : length l.text ≤ 27 * l.step-index;
}
