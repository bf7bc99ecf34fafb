-- Where the first underscore of a text stands, and what the text is with a name in place of each underscore.
use Rattle.std.proofs.Common.{◌≡◌, ℕ, zero, suc, ◌<◌, ◌==◌, Bool, false, [], ◌∷◌, ◌++◌, length, take, drop, refl}
use Rattle.std.proofs.Common.{ap, arith}
use Rattle.std.proofs.lemmas.Bool.{false_from_ne_true, or_parts}
use Rattle.std.specs.List.{list_any}
use Rattle.memchr.specs.Find.{Passes, is_byte, Nowhere}
use Rattle.paw_base.specs.Bytes.{Bytes, Text}
use Rattle.paw_effects.specs.Texts.{with_name}

-- Whether an underscore stands in a text.
abbrev pub stands_in : Text → Bool
stands_in text = list_any (λ b. b == 95) text

-- Where none stands the text stays as it is.
pub same_without : (name text : Bytes) → stands_in text ≡ false → with_name name text ≡ text
same_without name [] none = refl
same_without name (b ∷ bs) none =
    let both = or_parts (b == 95) (stands_in bs) none in
    rw both.0 (ap (λ t. b ∷ t) (same_without name bs both.1))

-- Where no byte is an underscore the text stays as it is.
pub same_whole : (name text : Bytes) → Nowhere (Passes (is_byte 95) text) 0 (length text) → with_name name text ≡ text
same_whole name [] none = refl
same_whole name (b ∷ bs) none =
    let later : Nowhere (Passes (is_byte 95) bs) 0 (length bs) = λ k _ lt. none (suc k) (omega arith) (omega (arith, lt)) in
    let differs : (b == 95) ≡ false = false_from_ne_true _ (none 0 (omega arith) (omega arith)) in
    rw differs (ap (λ t. b ∷ t) (same_whole name bs later))

-- Where the first underscore stands at place n the text before it stays, and the name comes in its place.
pub replaced_at : (name text : Bytes) (n : ℕ) → n < length text → Nowhere (Passes (is_byte 95) text) 0 n → Passes (is_byte 95) text n →
    with_name name text ≡ (take n text ++ name) ++ with_name name (drop (suc n) text)
replaced_at name [] n within _ _ = absurd (omega (arith, within))
replaced_at name (b ∷ bs) zero within none at = rw at refl
replaced_at name (b ∷ bs) (suc n) within none at =
    let later : Nowhere (Passes (is_byte 95) bs) 0 n = λ k _ lt. none (suc k) (omega arith) (omega (arith, lt)) in
    let differs : (b == 95) ≡ false = false_from_ne_true _ (none 0 (omega arith) (omega arith)) in
    rw differs (ap (λ t. b ∷ t) (replaced_at name bs n (omega (arith, within)) later at))
