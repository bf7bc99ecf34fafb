-- A line that is cut.
use Rattle.std.proofs.Common.{◌≡◌, ◌≤◌, ◌⊎◌, ℕ, ◌++◌, length, take, min, inl, inr, ap, sym, ◌∙◌, arith}
use Rattle.std.proofs.lemmas.List.{length-take, take_all}
use Rattle.std.proofs.Math.Seq.{take-append_seam}
use Rattle.paw_base.specs.Bytes.{Bytes, Line}
use Rattle.paw_base.specs.declared.limits.TheConstants.{LINE_LIMIT}
use Rattle.paw_stage.specs.Stage.{IsCut}

-- No more than 255 bytes are cut.
take_cut : (line : Line) (n : ℕ) → n ≡ min (length line) LINE_LIMIT → take n line ≡ take LINE_LIMIT line
take_cut line n e = elim (below_or (length line)) [
  | inl low ↦ take_all n line (omega arith) ∙ sym (take_all LINE_LIMIT line low)
  | inr high ↦ let all : n ≡ LINE_LIMIT = omega arith in ap (λ k. take k line) all
]
  where
    below_or : (k : ℕ) → (k ≤ LINE_LIMIT) ⊎ (LINE_LIMIT ≤ k)
    below_or k = grind arith

pub is_cut : (line bytes rest : Bytes) (n : ℕ) → n ≡ min (length line) LINE_LIMIT → bytes ≡ take n line
    → IsCut line (bytes ++ rest) n
is_cut line bytes rest n e b =
    let n_is : n ≡ length bytes = omega (arith, ap length b, length-take n line) in
    record { short = omega arith; same = rw n_is (take-append_seam bytes rest) ∙ (b ∙ take_cut line n e) }
