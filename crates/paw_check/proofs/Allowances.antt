-- How much the phrases of a line may take.
use Rattle.std.proofs.Common.{◌≡◌, ℕ, suc, ◌+◌, ◌*◌, ◌/◌, ◌≤◌, inl, inr, length, arith}
use Rattle.std.proofs.lemmas.Nat.{mul-le}
use Rattle.paw_base.specs.Bytes.{Bytes}
use Rattle.paw_base.specs.declared.limits.TheConstants.{LINE_LIMIT}
use Rattle.paw_phrase.specs.inner.Leaving.{IsTwoLess}

-- The most phrases in a number of bytes.
phrases_in : ℕ → ℕ
phrases_in p = (p + 1) / 2

-- What they take, where each takes w.
pub for_phrases : ℕ → ℕ → ℕ
for_phrases w p = phrases_in p * w

rounds_le : (w a b : ℕ) → a ≤ b → a * w ≤ b * w
rounds_le w a b h = mul-le a w b w h (omega arith)

-- Fewer bytes take no more.
pub fewer_bytes : (w p q : ℕ) → p ≤ q → for_phrases w p ≤ for_phrases w q
unfolding for_phrases phrases_in
fewer_bytes w p q h = rounds_le w ((p + 1) / 2) ((q + 1) / 2) (omega arith)

one_more : (w a b : ℕ) → suc a ≤ b → a * w + w ≤ b * w
one_more w a b h = let more : suc a * w ≡ a * w + w = omega arith in omega (arith, rounds_le w (suc a) b h)

-- A phrase takes its share of the allowance, and leaves what the phrases after it take.
pub phrase_less : (w : ℕ) (pending rest : Bytes) → 1 ≤ length pending → IsTwoLess pending rest →
    for_phrases w (length rest) + w ≤ for_phrases w (length pending)
unfolding for_phrases phrases_in
phrase_less w pending rest some (inl none) = rw none (one_more w 0 ((length pending + 1) / 2) (omega arith))
phrase_less w pending rest some (inr less) = one_more w ((length rest + 1) / 2) ((length pending + 1) / 2) (omega arith)

-- All phrases of a line, and one more.
pub whole_line : (w p : ℕ) → p ≤ LINE_LIMIT → for_phrases w p + w ≤ 129 * w
unfolding for_phrases phrases_in
whole_line w p h = one_more w ((p + 1) / 2) 129 (omega arith)
