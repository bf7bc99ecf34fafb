use Rattle.paw_play.proofs.Names.{◌∙◌, ◌++◌, ◌-◌, ap, length, base_length, state_length, zeros, state_bytes, state_of, kept_bytes}
use Rattle.paw_play.proofs.States.{cut, same_parts}
use Rattle.paw_play.proofs.line.state_after.Goals as goal

pub returns-clause-state : goal.returns-clause-state
unfolding kept_bytes
returns-clause-state g c =
    cut (state_bytes (state_of c.parts-parts.result.world.now c.parts-parts.result.machine.now
    c.parts-parts.result.pending.now c.parts-parts.result.prompt c.args.events (length c.piece.result.now)))
    (zeros (base_length - state_length)) c.write_state.result state_length c.write_state.ensures.value c.write_state.ensures.length
    ∙ same_parts _ _ _ _ _ _ _ _ c.args.events _ _ c.parts-parts.ensures.world c.parts-parts.ensures.machine
    c.parts-parts.ensures.pending c.parts-parts.ensures.prompt
    (ap length c.piece.ensures.value)

pub returns-clause-base : goal.returns-clause-base
unfolding kept_bytes
returns-clause-base g c =
    c.write_state.ensures.value
    ∙ ap (λ x. x ++ zeros (base_length - state_length))
    (same_parts _ _ _ _ _ _ _ _ c.args.events _ _ c.parts-parts.ensures.world c.parts-parts.ensures.machine
    c.parts-parts.ensures.pending c.parts-parts.ensures.prompt (ap length c.piece.ensures.value))

pub returns-clause-piece : goal.returns-clause-piece
returns-clause-piece g c = c.write_state.ensures.piece ∙ ap length c.piece.ensures.value
