-- Where a byte stands first.
use Rattle.std.proofs.Common.{◌≡◌, ℕ, ◌<◌, ◌==◌, false, length, get_or, Option, Some, None, sym, arith}
use Rattle.std.specs.List.{position_or_len}
use Rattle.std.specs.Option.{unwrap_or}
use Rattle.std.proofs.lemmas.Bool.{false_from_ne_true}
use Rattle.std.proofs.lemmas.List.Sums.{position_or_len_is}
use Rattle.memchr.specs.Find.{IsFirstByte, is_byte}
use Rattle.paw_base.specs.Bytes.{Bytes}

-- The offset that a search gives, or the length.
pub first_offset : (byte : ℕ) (bytes : Bytes) (r : Option ℕ) → IsFirstByte (is_byte byte) bytes r
    → unwrap_or r (length bytes) ≡ position_or_len (λ b. b == byte) bytes
first_offset byte bytes None h =
    let differs : (k : ℕ) → k < length bytes → (get_or bytes k 0 == byte) ≡ false = λ k lt. false_from_ne_true _ (h k (omega arith) lt) in
    sym (position_or_len_is (λ b. b == byte) bytes (length bytes) 0 (omega arith) differs (λ lt. absurd (omega (arith, lt))))
first_offset byte bytes (Some at) h =
    let differs : (k : ℕ) → k < at → (get_or bytes k 0 == byte) ≡ false = λ k lt. false_from_ne_true _ (h.0.before k (omega arith) lt) in
    sym (position_or_len_is (λ b. b == byte) bytes at 0 (omega (arith, h.0.high)) differs (λ _. h.1))
