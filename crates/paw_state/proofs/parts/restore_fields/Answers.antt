use Rattle.paw_state.proofs.Ruled.{sound_of, frames_right}
use Rattle.paw_state.proofs.parts.restore_fields.Goals as goal

pub machine_in-requires : goal.machine_in-requires
machine_in-requires g c = record {
  sound = rw c.prompt_of-prompt.ensures.value
      (frames_right (g.T.Tables.game c.args.tables.now) c.args.fields.now (sound_of (g.T.Tables.game c.args.tables.now) c.args.fields.now c.requires.sound));
}
