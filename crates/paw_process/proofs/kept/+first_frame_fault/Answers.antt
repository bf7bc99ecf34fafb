use Rattle.std.proofs.Common.{sym, add-one}
use Rattle.paw_process.proofs.Restored.{no_frames, first_frame, later_frame}
use Rattle.paw_process.proofs.kept.+first_frame_fault.Goals as goal

pub returns-in-None : goal.returns-in-None
returns-in-None g t c = record {
  value = no_frames (g.T.Tables.game c.args.tables.now) c.args.code c.args.caller c.args.used c.args.depth c.args.rows.now c.in-None.ensures.cases;
}

pub returns-then-not-frame_stands : goal.returns-then-not-frame_stands
returns-then-not-frame_stands g t c = record {
  value =
      first_frame (g.T.Tables.game c.args.tables.now)
      c.args.code c.args.caller c.args.used c.args.depth c.args.rows.now c.in-Some.f.now c.in-Some.rest.now c.in-Some.ensures.cases.0
      (sym c.if-not-frame_stands.ensures.value);
}

pub returns-else-not-frame_stands : goal.returns-else-not-frame_stands
returns-else-not-frame_stands g t c = record {
  value =
      rw (c.first_frame_fault.ensures.value, c.parameter_of-called.ensures.value, c.condact.ensures.value, c.saturating_sub-left.ensures, add-one)
      (later_frame (g.T.Tables.game c.args.tables.now)
      c.args.code c.args.caller c.args.used c.args.depth c.args.rows.now c.in-Some.f.now c.in-Some.rest.now c.in-Some.ensures.cases.0
      (sym c.if-not-frame_stands.ensures.value));
}
