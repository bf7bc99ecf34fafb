use Rattle.std.proofs.Common.{ap, subst}
use Rattle.paw_effects.specs.Story.{story_of}
use Rattle.paw_reading.specs.Turn.{table_done, turn}
use Rattle.paw_process.specs.inner.Meaning.{ComesTo}
use Rattle.paw_process.specs.declared.Turned.{Turned}
use Rattle.paw_process.specs.declared.Turned.TheVariants as turned
use Rattle.paw_turn.specs.inner.Phases.{run_now}
use Rattle.paw_turn.proofs.turn.PlayState.after_table.Goals as goal

pub returns-in-Halted-clause-meaning : goal.returns-in-Halted-clause-meaning
returns-in-Halted-clause-meaning g c X past n lines x comes =
    let game = story_of (g.T.Tables.game c.args.tables.now) X in
    let r = run_now c.args.self.now past lines in
    let k : ComesTo game (turned.Halted c.in-Halted.halt) c.args.self.now.machine.frames r x =
    subst (λ (t : Turned). ComesTo game t c.args.self.now.machine.frames r x) c.in-Halted.is comes in
    rw (c.halt_next.ensures.value, k.0) (k.1, ap (table_done game (turn game n) c.args.table) k.2, k.3)
