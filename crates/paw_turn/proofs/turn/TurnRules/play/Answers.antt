use Rattle.std.proofs.Common.{arith, suc, refl, ◌∙◌}
use Rattle.paw_reading.specs.Turn.{turn}
use Rattle.paw_turn.specs.inner.Phases.{at_phase}
use Rattle.paw_effects.specs.Story.{Story, story_of}
use Rattle.paw_turn.specs.declared.phase.Next.TheVariants as next
use Rattle.paw_turn.proofs.Playing.{plays_none, plays_on}
use Rattle.paw_turn.proofs.Falling.{reads_read}
use Rattle.paw_turn.proofs.turn.TurnRules.play.Goals as goal

pub loop-phase-init : goal.loop-phase-init
loop-phase-init g c = record {
  playable = c.requires.may.ready.playable;
  read = c.requires.may.read;
  plays = λ X answers. plays_none (story_of (g.T.Tables.game c.args.self.now.tables.now) X) c.args.first c.args.state.now;
  stays = record {
    stays = record { world = c.requires.may.ready.playable.world; left = omega arith; draws = omega arith; most = refl };
    machine = c.requires.may.ready.closed;
  };
}

pub loop-phase-preserved : goal.loop-phase-preserved
loop-phase-preserved g c =
    let v = c.loop-phase.invariant in
    let e = c.in-Go.ensures in
    let phase = c.loop-phase.phase in
    let before = c.loop-phase.state in
    let after = c.phase.new.state in
    let own : Story = story_of (g.T.Tables.game c.args.self.now.tables.now) c.requires.may.answers.0 in
    record {
      playable = record { world = e.stays.stays.world; budget = omega arith; draws = omega arith };
      read = reads_read own (λ n r. turn own (suc n) (at_phase phase) r) before (next.Go c.in-Go.next) after
          (e.meaning c.requires.may.answers.0 c.requires.may.answers.1) v.read;
      plays = λ X answers.
          plays_on (story_of (g.T.Tables.game c.args.self.now.tables.now) X) c.args.first phase c.args.state.now before after
          (next.Go c.in-Go.next) (v.plays X answers) (e.meaning X answers);
      stays = record {
        stays = record {
          world = e.stays.stays.world;
          left = omega arith;
          draws = omega arith;
          most = e.stays.stays.most ∙ v.stays.stays.most;
        };
        machine = e.stays.machine;
      };
    }

pub returns-in-Stop-clause-meaning : goal.returns-in-Stop-clause-meaning
returns-in-Stop-clause-meaning g c X answers =
    plays_on (story_of (g.T.Tables.game c.args.self.now.tables.now) X) c.args.first c.loop-phase.phase c.args.state.now c.loop-phase.state c.phase.new.state
    (next.Stop c.in-Stop.stop) (c.loop-phase.invariant.plays X answers) (c.in-Stop.ensures.meaning X answers)
