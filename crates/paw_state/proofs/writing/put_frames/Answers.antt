use Rattle.std.proofs.Common.{◌≡◌, ℕ, ◌+◌, ◌<◌, List, ◌∷◌, ◌++◌, length, take, get_or, add-one, ap, sym, ◌∙◌, arith}
use Rattle.std.proofs.Math.Seq.{take-suc}
use Rattle.std.proofs.lemmas.List.{take_all, flat_map_more}
use Rattle.std.specs.Prelude.{flat_map}
use Rattle.paw_base.specs.Bytes.{Bytes}
use Rattle.paw_reading.specs.declared.frames.Frame.{Frame}
use Rattle.paw_state.specs.inner.State.{frame_bytes}
use Rattle.paw_state.proofs.writing.put_frames.Goals as goal

-- A frame more.
one_more : (rows : List Frame) (old written new : Bytes) (i : ℕ) (d : Frame) → i < length rows
    → written ≡ old ++ flat_map frame_bytes (take i rows) → new ≡ written ++ frame_bytes (get_or rows i d)
    → new ≡ old ++ flat_map frame_bytes (take (i + 1) rows)
one_more rows old written new i d low so more =
    rw add-one (more ∙ (ap (λ (l : Bytes). l ++ frame_bytes (get_or rows i d)) so
    ∙ (flat_map_more frame_bytes old (take i rows) (get_or rows i d)
    ∙ ap (λ (l : List Frame). old ++ flat_map frame_bytes l) (sym (take-suc rows i d low)))))

pub loop-row-preserved : goal.loop-row-preserved
loop-row-preserved c = record {
  written = one_more c.args.rows.now c.args.writer.now c.loop-row.writer c.put_frame.new.writer c.loop-row.row-index _ (omega arith)
      c.loop-row.invariant.written c.put_frame.ensures.writes.puts;
  long = omega (arith, c.loop-row.invariant.long, c.put_frame.ensures.writes.long);
}

pub returns : goal.returns
returns c = record {
  writes = record {
    puts = c.loop-row.invariant.written
        ∙ ap (λ (l : List Frame). c.args.writer.now ++ flat_map frame_bytes l) (take_all c.loop-row.row-index c.args.rows.now (omega arith));
    long = omega (arith, c.loop-row.invariant.long);
  };
}
