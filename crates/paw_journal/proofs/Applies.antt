-- Change records that are applied one after the other.
use Rattle.std.proofs.Common.{◌≡◌, ◌≢◌, ℕ, ◌+◌, ◌*◌, ◌≤◌, ◌<◌, false, List, [], ◌∷◌, length, refl, sym, ap, ◌∙◌, arith}
use Rattle.std.proofs.Common.{get_or}
use Rattle.std.specs.Prelude.{Some, None, not, if◌then◌else◌}
use Rattle.std.specs.List.{position_from}
use Rattle.std.proofs.lemmas.Iterator.Adapters.{position_from-zero}
use Rattle.std.proofs.lemmas.Bool.Decides.{nat_tests}
use Rattle.paw_base.specs.Bytes.{Bytes}
use Rattle.paw_journal.specs.Session.{Change, changes, with_changes, is_sound, first_unsound}
use Rattle.paw_journal.specs.Session.{base_length}

-- This number of records was sound and is applied, and these bytes hold the others.
pub record Applies (all old : Bytes) (number : ℕ) (rest now : Bytes) : Type 0 where
  pub few : 4 * number + length rest ≤ length all
  pub unsound : position_from (λ c. not (is_sound c)) 0 (changes all) ≡ position_from (λ c. not (is_sound c)) number (changes rest)
  pub applied : with_changes (changes all) old ≡ with_changes (changes rest) now

first_is : (all : List Change) → first_unsound all ≡ position_from (λ c. not (is_sound c)) 0 all
first_is all = position_from-zero (λ c. not (is_sound c)) all

pub unsound_end : (all old : Bytes) (number : ℕ) (rest now : Bytes) → Applies all old number rest now → length rest < 4 → None ≡ first_unsound (changes all)
unsound_end all old number rest now h low =
    sym (first_is (changes all) ∙ (h.unsound
    ∙ ap (λ r. position_from (λ c. not (is_sound c)) number r) (none rest low)))
  where
    none : (rest : Bytes) → length rest < 4 → changes rest ≡ []
    none [] low = refl
    none (a ∷ []) low = refl
    none (a ∷ b ∷ []) low = refl
    none (a ∷ b ∷ c ∷ []) low = refl
    none (a ∷ b ∷ c ∷ d ∷ rest) low = absurd (omega arith)

unsound_here : (all old : Bytes) (number a b c d : ℕ) (rest now : Bytes) →
    Applies all old number (a ∷ b ∷ c ∷ d ∷ rest) now →
    is_sound (record { at = a + 256 * b; byte = c; last = d }) ≡ false → Some number ≡ first_unsound (changes all)
unsound_here all old number a b c d rest now h e =
    sym (first_is (changes all) ∙ (h.unsound
    ∙ ap (λ t. if not t then Some number else position_from (λ c. not (is_sound c)) (number + 1) (changes rest)) e))

pub unsound_offset : (all old : Bytes) (number : ℕ) (rest now : Bytes) → Applies all old number rest now →
    4 ≤ length rest → base_length ≤ get_or rest 0 0 + 256 * get_or rest 1 0 → Some number ≡ first_unsound (changes all)
unsound_offset all old number (a ∷ b ∷ c ∷ d ∷ rest) now h low e = unsound_here all old number a b c d rest now h (grind (arith, nat_tests))
unsound_offset all old number [] now h low e = absurd (omega arith)
unsound_offset all old number (a ∷ []) now h low e = absurd (omega arith)
unsound_offset all old number (a ∷ b ∷ []) now h low e = absurd (omega arith)
unsound_offset all old number (a ∷ b ∷ c ∷ []) now h low e = absurd (omega arith)

pub unsound_last : (all old : Bytes) (number : ℕ) (rest now : Bytes) → Applies all old number rest now →
    4 ≤ length rest → get_or rest 3 0 ≢ 0 → Some number ≡ first_unsound (changes all)
unsound_last all old number (a ∷ b ∷ c ∷ d ∷ rest) now h low e = unsound_here all old number a b c d rest now h (grind (arith, nat_tests))
unsound_last all old number [] now h low e = absurd (omega arith)
unsound_last all old number (a ∷ []) now h low e = absurd (omega arith)
unsound_last all old number (a ∷ b ∷ []) now h low e = absurd (omega arith)
unsound_last all old number (a ∷ b ∷ c ∷ []) now h low e = absurd (omega arith)
