-- What holds of each row of the list of meanings holds of what each code means.
use Rattle.std.proofs.Common.{ℕ, zero, suc, List, [], ◌∷◌}
use Rattle.std.specs.List.{slice_index_or}
use Rattle.paw_effects.specs.Meanings.{Meaning, changing, meanings, meaning_of}

-- A fact of each row of a list, by the row's place.
abbrev pub Each : (ℕ → Meaning → Type 0) → List Meaning → Type 0
Each P [] = Unit {0}
Each P (m ∷ ms) = P 0 m × Each (λ n. P (suc n)) ms

infixr 10 ◌&◌
-- The fact of a row, and those of the rows after it.
abbrev pub ◌&◌ : {A B : Type 0} → A → B → A × B
one & others = (one, others)

each_at : (P : ℕ → Meaning → Type 0) (ms : List Meaning) (past : Meaning) → Each P ms → ((n : ℕ) → P n past) → (n : ℕ) → P n (slice_index_or ms n past)
each_at P [] past rows beyond n = beyond n
each_at P (m ∷ ms) past rows beyond zero = rows.0
each_at P (m ∷ ms) past rows beyond (suc n) = each_at (λ k. P (suc k)) ms past rows.1 (λ k. beyond (suc k)) n

pub each_meaning : (P : ℕ → Meaning → Type 0) → Each P meanings → ((code : ℕ) → P code (changing (λ w c. w))) → (code : ℕ) → P code (meaning_of code)
unfolding meaning_of
each_meaning P rows beyond code = each_at P meanings _ rows beyond code
