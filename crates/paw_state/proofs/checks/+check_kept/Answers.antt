use Rattle.std.proofs.Common.{rules}
use Rattle.paw_state.proofs.Scans.{kept_none, kept_stops, kept_passes}
use Rattle.paw_state.proofs.checks.+check_kept.Goals as goal

pub returns-in_default : goal.returns-in_default
returns-in_default g t c = record {
  value = kept_none (g.T.Tables.game c.args.tables.now) c.args.at c.args.kept.now (search rules);
}

pub returns-in_err-check_position : goal.returns-in_err-check_position
returns-in_err-check_position g t c =
    let h = kept_stops (g.T.Tables.game c.args.tables.now) c.args.at _ c.args.kept.now c.in-Some.position.now c.in-Some.rest.now
    c.in-Some.ensures.cases.0 c.in_err-check_position.ensures.value in
    record { value = rw (← h) (search rules) }

pub returns : goal.returns
returns g t c =
    let h = kept_passes (g.T.Tables.game c.args.tables.now) c.args.at c.args.kept.now c.in-Some.position.now c.in-Some.rest.now
    c.in-Some.ensures.cases.0 c.in_ok-check_position.ensures.value in
    record { value = rw c.check_kept.ensures.value h }
