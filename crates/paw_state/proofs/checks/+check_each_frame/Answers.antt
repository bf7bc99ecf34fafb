use Rattle.std.proofs.Common.{rules}
use Rattle.paw_state.proofs.Scans.{no_frames, frame_stops, frame_passes}
use Rattle.paw_state.proofs.checks.+check_each_frame.Goals as goal

pub returns-in_default : goal.returns-in_default
returns-in_default g t c = record {
  value = no_frames (g.T.Tables.game c.args.tables.now) c.args.code c.args.caller c.args.used c.args.at c.args.rows.now (search rules);
}

pub returns-in_err-check_frame : goal.returns-in_err-check_frame
returns-in_err-check_frame g t c =
    let h = frame_stops (g.T.Tables.game c.args.tables.now) c.args.code c.args.caller c.args.used c.args.at _ c.args.rows.now c.in-Some.row.now
    c.in-Some.rest.now
    c.in-Some.ensures.cases.0 c.in_err-check_frame.ensures.value in
    record { value = rw (← h) (search rules) }

pub returns : goal.returns
returns g t c =
    let h = frame_passes (g.T.Tables.game c.args.tables.now) c.args.code c.args.caller c.args.used c.args.at c.args.rows.now c.in-Some.row.now
    c.in-Some.rest.now
    c.in-Some.ensures.cases.0 c.in_ok-check_frame.ensures.value in
    record { value = rw (c.check_each_frame.ensures.value, c.parameter_of-called.ensures.value, c.condact.ensures.value, c.saturating_sub-left.ensures) h }
