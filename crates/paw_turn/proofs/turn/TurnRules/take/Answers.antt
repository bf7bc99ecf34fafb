use Rattle.std.proofs.Common.{arith}
use Rattle.paw_effects.specs.Story.{story_of}
use Rattle.paw_turn.proofs.Playing.{plays_then}
use Rattle.paw_turn.proofs.Falling.{plays_read}
use Rattle.paw_turn.specs.declared.phase.Next.TheVariants as next
use Rattle.paw_turn.specs.inner.Phases.{from_prompt}
use Rattle.paw_turn.proofs.turn.TurnRules.take.Goals as goal

pub returns-in-Go-clause-meaning : goal.returns-in-Go-clause-meaning
returns-in-Go-clause-meaning g c X answers =
    plays_then (story_of (g.T.Tables.game c.args.self.now.tables.now) X) _ c.in-Go.phase c.args.state.now c.hear.new.state c.play.new.state
    (next.Stop c.play.result) (c.in-Go.ensures.meaning X answers) (c.play.ensures.meaning X answers)

pub play-requires : goal.play-requires
play-requires g c =
    let own = story_of (g.T.Tables.game c.args.self.now.tables.now) c.requires.answers.0 in
    let stays = c.in-Go.ensures.stays in
    let playable = c.requires.ready.playable in
    record {
      may = record {
        answers = c.requires.answers;
        read = plays_read own (from_prompt own c.args.prompt c.args.state.now c.args.line.now) c.args.state.now
            (next.Go c.in-Go.phase) c.hear.new.state (c.in-Go.ensures.meaning c.requires.answers.0 c.requires.answers.1) c.requires.ready.read;
        ready = record {
          playable = record {
            world = stays.stays.world;
            budget = omega (arith, stays.stays.left, playable.budget);
            draws = omega (arith, stays.stays.draws, playable.draws);
          };
          closed = stays.machine;
        };
      };
    }
