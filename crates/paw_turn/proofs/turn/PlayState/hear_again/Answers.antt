use Rattle.std.proofs.Common.{ap, sym, ◌∙◌, refl, subst, arith}
use Rattle.paw_effects.specs.Story.{story_of}
use Rattle.paw_phrase.specs.Pending.{PendingLine}
use Rattle.paw_world.specs.World.{World, world_restarted}
use Rattle.paw_effects.specs.Worlds.{IsOf}
use Rattle.paw_reading.specs.Run.{begins_with, with_timeout}
use Rattle.paw_process.specs.inner.OpenTables.{OpenTables}
use Rattle.paw_turn.proofs.Renewing.{again_restarts, again_told, restarted_of, changed_of}
use Rattle.paw_process.proofs.Readings.{moved_none}
use Rattle.paw_turn.proofs.turn.PlayState.hear_again.Goals as goal

pub returns-then-not-begins_with-clause-meaning : goal.returns-then-not-begins_with-clause-meaning
returns-then-not-begins_with-clause-meaning g c X =
    again_restarts (story_of (g.T.Tables.game c.args.tables.now) X) c.args.self.now
    (record { surroundings = record c.args.self.now.surroundings { world = c.restart.new.self; pending = c.set.new.self }; machine = c.close.new.self })
    c.args.line.now c.requires.waits.tables.tables.some c.requires.heard
    (sym (c.if-not-begins_with.ensures.value ∙ ap (begins_with 78) c.reply.ensures.value))
    (c.restart.ensures.change ∙ ap world_restarted
    (c.set_timeout.ensures.value ∙ ap (λ b. with_timeout b c.args.self.now.surroundings.world) c.is_timeout.ensures.value))
    (ap (λ (p : PendingLine). p.bytes) c.set.ensures.value) (ap (λ (p : PendingLine). p.earlier) c.set.ensures.value)
    (ap (λ (m : OpenTables). m.turning) c.close.ensures.value)
    (moved_none _ _ _ _ _ c.close.ensures.value) refl

pub returns-then-not-begins_with-clause-stays : goal.returns-then-not-begins_with-clause-stays
returns-then-not-begins_with-clause-stays g c =
    let draws = ap (λ (w : World). w.draws) c.restart.ensures.change in
    let left = ap (λ (m : OpenTables). m.left) c.close.ensures.value in
    let of = restarted_of _ c.set_timeout.new.world
    (changed_of _ c.args.self.now.surroundings.world c.set_timeout.new.world c.requires.playable.world c.set_timeout.ensures.only) in
    let world = subst (IsOf (g.T.Tables.game c.args.tables.now)) (sym c.restart.ensures.change) of in
    let most = ap (λ (m : OpenTables). m.steps.most) c.close.ensures.value in
    record { stays = record { world = world; left = omega arith; draws = omega arith; most = most }; machine = c.close.ensures.closed }

pub returns-clause-meaning : goal.returns-clause-meaning
returns-clause-meaning g c X =
    rw (c.or_spent.ensures.value, c.halt_next.ensures.value) (again_told (story_of (g.T.Tables.game c.args.tables.now) X) c.args.self.now
    (record {
      surroundings = record { world = c.set_timeout.new.world; pending = c.drop_line.new.self; piece = c.say-said.new.piece };
      machine = c.close.new.self;
    })
    c.args.line.now c.set_timeout.new.world c.say-said.result c.requires.waits.tables.tables.some c.requires.heard
    (sym (c.if-not-begins_with.ensures.value ∙ ap (begins_with 78) c.reply.ensures.value))
    (c.set_timeout.ensures.value ∙ ap (λ b. with_timeout b c.args.self.now.surroundings.world) c.is_timeout.ensures.value)
    c.say-said.ensures.puts refl (ap (λ (p : PendingLine). p.bytes) c.drop_line.ensures.value)
    (ap (λ (p : PendingLine). p.earlier) c.drop_line.ensures.value) (ap (λ (m : OpenTables). m.turning) c.close.ensures.value)
    (moved_none _ _ _ _ _ c.close.ensures.value))
