-- Reading closes one piece for each line, and one before them.
use Rattle.std.proofs.Common.{◌≡◌, ℕ, suc, ◌+◌, [], ◌∷◌, refl, length, arith, length-append}
use Rattle.paw_effects.specs.Story.{Story}
use Rattle.paw_effects.specs.declared.act.Prompt.TheVariants as prompt
use Rattle.paw_reading.specs.Run.{Run, piece_closed, without_loop, line_dropped}
use Rattle.paw_reading.specs.Turn.{AtDescribe, Ending, WaitsAt, Halted, Unended, phases_left, opening, reading}
use Rattle.paw_reading.specs.inner.Pieces.{count, Counted, PiecesOfLines}
use Rattle.paw_reading.proofs.RunInduction.{RunClaim, RunCarries, TurnCarries, TurnEnds, between, turn_ends}

-- There were v pieces and lines.
abbrev pub claim : ℕ → RunClaim
claim v = record {
  on = λ r. count r ≡ v;
  acted = λ r. count r ≡ v;
  closed = λ r lines. length r.pieces + length lines ≡ suc v;
  wait = λ p path r. Counted v (WaitsAt prompt.Main path r);
  anew = λ r. count r ≡ v;
  halt = λ halt r. Counted v (Halted halt r);
}

-- Closing a piece counts one more.
closed_counts : (r : Run) → count (piece_closed r) ≡ suc (count r)
closed_counts r = let e : length (piece_closed r).pieces ≡ length r.pieces + 1 = length-append r.pieces (r.current ∷ []) in omega (arith, e)

carries : (g : Story) (v : ℕ) → RunCarries g (claim v)
carries g v = record {
  printed = λ r text k said fit. k;
  tested = λ f c b r stands k few. k;
  acts = λ f c r stands k few fit. k;
  reads_on = λ r k. k;
  sentence = λ r s left k is. k;
  unknown = λ r left k is. k;
  taken = λ l o r few k. k;
  no_loop = λ r k. k;
  closes = λ r k. omega (arith, closed_counts r, k);
  waits = λ p f r k. (refl, k);
  ignored = λ r line lines k. omega (arith, closed_counts (record r { events = lines }), k);
  heard = λ r line lines k. omega (arith, k);
  above = λ p f path r k. k;
  exhausted = λ r k. k;
  too_long = λ r k. k;
  unfit = λ f c r k few. k;
  too_deep = λ u r k. k;
  redescribed = λ r k. k;
  restarted = λ r k. k;
  ended = λ r k. omega (arith, closed_counts (without_loop (line_dropped r)), k);
}

turns : (g : Story) (v : ℕ) → TurnCarries g (claim v)
turns g v = record {
  begins = λ r k. k;
  described = λ r k. k;
  passed = λ r k. k;
  went = λ r to k is. k;
  counted = λ r k. k;
  dropped = λ r k. k;
  set = λ r line lines k. omega (arith, k);
  awaits = λ r k. (refl, k);
}

counted : (v : ℕ) (e : Ending) → TurnEnds (claim v) e → Counted v e
counted v (WaitsAt p path r) k = k
counted v (Halted halt r) k = k
counted v Unended k = tt

pub pieces_of_lines : PiecesOfLines
pieces_of_lines g seed es =
    counted (length es) (reading g seed es)
    (turn_ends g (claim (length es)) (between g (claim (length es)) (carries g (length es))) (turns g (length es))
    (phases_left (opening g seed es)) AtDescribe (opening g seed es) (omega arith))
