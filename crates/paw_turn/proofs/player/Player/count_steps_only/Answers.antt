use Rattle.std.proofs.Common.{ap, sym, subst, ◌∙◌}
use Rattle.paw_process.specs.inner.OpenTables.{OpenTables}
use Rattle.paw_turn.specs.inner.Player.{step_of, PlayerView, IsSeated, IsNew, only_counting_player}
use Rattle.paw_turn.proofs.Seating.{counting_seated, counting_new}
use Rattle.paw_turn.proofs.player.Player.count_steps_only.Goals as goal

pub returns-clause-value : goal.returns-clause-value
returns-clause-value g c =
    ap (λ (m : OpenTables). record {
      game = g.T.Tables.game c.self.inside.rules.tables.now;
      routines = c.self.inside.rules.routines.now;
      world = c.self.inside.state.surroundings.world;
      pending = c.self.inside.state.surroundings.pending;
      machine = m;
      piece = c.self.inside.state.surroundings.piece;
      last = step_of c.self.inside.last;
    }) c.count_steps_only.ensures.value
    ∙ ap (λ (p : PlayerView g.row.F.Denot). only_counting_player p) c.self.view_is

pub returns-clause-seated : goal.returns-clause-seated
returns-clause-seated g c seated =
    subst (λ (p : PlayerView g.row.F.Denot). IsSeated p) (sym (returns-clause-value g c)) (counting_seated c.args.self.now seated)

pub returns-clause-new : goal.returns-clause-new
returns-clause-new g c seed new =
    subst (λ (p : PlayerView g.row.F.Denot). IsNew p seed) (sym (returns-clause-value g c)) (counting_new c.args.self.now seed new)
