use Rattle.std.proofs.Common.{◌≡◌, ℕ, ◌+◌, ◌-◌, [], ◌∷◌, ◌++◌, length, map, ap, ◌∙◌, refl, arith}
use Rattle.std.proofs.lemmas.List.{append_assoc, length-append}
use Rattle.std.proofs.lemmas.List.Folds.{flat_map-map}
use Rattle.std.specs.Prelude.{flat_map}
use Rattle.std.specs.Int.{w64, to_le_bytes}
use Rattle.paw_base.specs.Bytes.{Bytes}
use Rattle.paw_base.specs.declared.layout.TheConstants.{STATE_LENGTH}
use Rattle.paw_game.specs.Image.{two_bytes}
use Rattle.paw_process.specs.declared.kept.Frames.{Frames}
use Rattle.paw_state.specs.declared.fields.TheConstants.{STATE_ROOM, KEPT, SEED, PROMPT, EARLIER}
use Rattle.paw_state.specs.State.{State, FitsFields, fields_of, frame_field_of, zeros}
use Rattle.paw_state.specs.inner.Fields.{frame_shape, loop_shape, position_shape, after_piece}
use Rattle.paw_state.specs.inner.State.{state_with, frame_bytes}
use Rattle.paw_state.specs.inner.Writer.{WritesField}
use Rattle.paw_state.proofs.Told.{IsWritten, fields_written}
use Rattle.paw_state.proofs.writing.write_state.Goals as goal

-- Fields that were written one after the other.
all_written : (w0 w1 w2 w3 w4 w5 a b c n p r s e l y k : Bytes) → w0 ≡ [] → w1 ≡ w0 ++ (a ++ (b ++ c)) → w2 ≡ w1 ++ n →
    w3 ≡ w2 ++ (p ++ (r ++ e)) → w4 ≡ w3 ++ (l ++ y) → w5 ≡ w4 ++ k → s ≡ r
    → w5 ≡ a ++ (b ++ (c ++ (n ++ (p ++ (s ++ (e ++ (l ++ (y ++ k))))))))
all_written w0 w1 w2 w3 w4 w5 a b c n p r s e l y k e0 e1 e2 e3 e4 e5 same = rw (e5, e4, e3, e2, e1, e0, same) (simp append_assoc)

-- What was written of the parts of a state.
record IsPutTogether (s : State) (w1 w2 w3 w4 w5 : Bytes) : Type 0 where
  pub world : WritesField (s.world.flags ++ ((fields_of s).places ++ position_shape.bytes (fields_of s).saved)) SEED [] w1
  pub numbers : WritesField (to_le_bytes w64 s.world.seed ++ (to_le_bytes w64 s.world.draws ++ to_le_bytes w64 s.events)) (PROMPT - SEED) w1 w2
  pub tables : WritesField (((fields_of s).prompt ∷ s.frames.count ∷ [])
      ++ (flat_map frame_bytes s.frames.rows ++ ((fields_of s).looping ∷ loop_shape.bytes (fields_of s).turning)))
      (EARLIER - PROMPT) w2 w3
  pub pending : WritesField (((fields_of s).earlier ∷ (fields_of s).pending ∷ (fields_of s).line) ++ two_bytes s.piece) (KEPT - EARLIER) w3 w4
  pub kept : WritesField (after_piece (fields_of s)) (STATE_LENGTH - KEPT) w4 w5

-- A state that was put together is written.
put_together : (s : State) (k : Frames) (w1 w2 w3 w4 w5 last : Bytes) → FitsFields s → s.frames ≡ k → IsPutTogether s w1 w2 w3 w4 w5
    → last ≡ w5 ++ zeros (STATE_ROOM - length w5) → length last ≡ STATE_ROOM → IsWritten (record s { frames = k }) last
put_together s k w1 w2 w3 w4 w5 last fits frames is whole room =
    let f = fields_of s in
    let size : length w5 ≡ STATE_LENGTH = omega (arith, is.world.long, is.numbers.long, is.tables.long, is.pending.long, is.kept.long) in
    let later : length (after_piece f) ≡ STATE_LENGTH - KEPT = omega (arith, ap length is.kept.puts, length-append w4 (after_piece f), is.kept.long) in
    let all = all_written [] w1 w2 w3 w4 w5 f.flags f.places (position_shape.bytes f.saved)
    (to_le_bytes w64 f.seed ++ (to_le_bytes w64 f.draws ++ to_le_bytes w64 f.events)) (f.prompt ∷ f.count ∷ [])
    (flat_map frame_bytes s.frames.rows) (flat_map frame_shape.bytes f.rows) (f.looping ∷ loop_shape.bytes f.turning)
    (f.earlier ∷ f.pending ∷ f.line) (two_bytes f.piece) (after_piece f) refl is.world.puts is.numbers.puts is.tables.puts is.pending.puts
    is.kept.puts (flat_map-map frame_shape.bytes frame_field_of s.frames.rows) in
    fields_written s k f last fits frames refl
    (whole ∙ (ap (λ (i : ℕ). w5 ++ zeros (STATE_ROOM - i)) size ∙ ap (λ (l : Bytes). l ++ zeros (STATE_ROOM - STATE_LENGTH)) all)) room later

pub returns : goal.returns
returns c =
    let s = state_with c.args.world.now c.frames.result c.args.pending.now c.args.prompt c.args.events c.args.piece in
    let fits : FitsFields s = record {
      flags = c.put_world.ensures.bytes.0;
      places = c.put_world.ensures.bytes.1.0;
      saved = c.put_world.ensures.bytes.1.1;
      kept = c.put_kept.ensures.bytes;
      seed = c.put_numbers.ensures.fits.0;
      draws = c.put_numbers.ensures.fits.1.0;
      events = c.put_numbers.ensures.fits.1.1;
      earlier = c.put_pending.ensures.fits.0;
      line = c.put_pending.ensures.fits.1;
      piece = c.ranges.piece.fits;
    } in
    let is : IsPutTogether s c.put_world.new.writer c.put_numbers.new.writer c.put_tables.new.writer c.put_pending.new.writer
    c.put_kept.new.writer = record {
      world = rw (← c.new-writer.ensures.value) c.put_world.ensures.writes;
      numbers = c.put_numbers.ensures.writes;
      tables = c.put_tables.ensures.writes;
      pending = c.put_pending.ensures.writes;
      kept = c.put_kept.ensures.writes;
    } in
    let w = put_together s _ _ _ _ _ _ c.finish.result fits c.frames.ensures.value is c.finish.ensures.value c.finish.ensures.room in
    record {
      value = w.value;
      fits = record {
        flags = fits.flags;
        places = fits.places;
        saved = fits.saved;
        kept = fits.kept;
        seed = fits.seed;
        draws = fits.draws;
        events = fits.events;
        earlier = fits.earlier;
        line = fits.line;
        piece = fits.piece;
      };
      length = w.long;
      piece = w.piece;
    }
