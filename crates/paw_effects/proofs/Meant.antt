-- Which codes test, and which act.
use Rattle.std.proofs.Common.{◌≡◌, ℕ, ◌≤◌, ◌<◌, Bool, true, false, not, length, refl, sym, ◌∙◌, nat_lt, nat_le}
use Rattle.std.proofs.lemmas.Bool.{leb-true, ltb-true}
use Rattle.paw_base.specs.declared.codes.TheConstants.{INVEN}
use Rattle.paw_base.specs.inner.Condacts.{IsPlainCode}
use Rattle.paw_base.specs.Condacts.{condact_lines, plain_line, plain_code}
use Rattle.paw_base.proofs.Table.{below, each_plain, acts_alike}
use Rattle.paw_effects.specs.Meanings.{meanings, meaning_of, is_test}
use Rattle.paw_effects.specs.inner.Meant.{EachActsAsItsRowSays, EachCodeHasAMeaning}
use Rattle.paw_effects.proofs.Carried.{plain_code_plain}

same : Bool → Bool → Bool
same true b = b
same false b = not b

equal : (a b : Bool) → same a b ≡ true → a ≡ b
unfolding same
equal true true h = refl
equal true false h = cc
equal false true h = cc
equal false false h = refl

all_so : below (λ code. same (plain_line code).acts (not (is_test (meaning_of code)))) (length meanings) ≡ true
unfolding condact_lines plain_line meanings meaning_of below same
all_so = refl

plain_acts : (code : ℕ) → IsPlainCode code → (plain_line code).acts ≡ not (is_test (meaning_of code))
unfolding meanings
plain_acts code is =
    equal (plain_line code).acts (not (is_test (meaning_of code)))
    (each_plain (λ k. same (plain_line k).acts (not (is_test (meaning_of k)))) all_so code is)

pub each_acts : EachActsAsItsRowSays
each_acts code is = acts_alike code ∙ plain_acts (plain_code code) (plain_code_plain code is)

pub each_has_a_meaning : EachCodeHasAMeaning
unfolding meanings condact_lines
each_has_a_meaning = refl

-- ---- plain conditions come before plain actions ----

all_low : below (λ code. same (is_test (meaning_of code)) (nat_lt code INVEN)) (length meanings) ≡ true
unfolding meanings meaning_of below same
all_low = refl

-- A code tests exactly where it comes before the first action.
pub low_is : (code : ℕ) → IsPlainCode code → is_test (meaning_of code) ≡ nat_lt code INVEN
unfolding meanings
low_is code is =
    equal (is_test (meaning_of code)) (nat_lt code INVEN) (each_plain (λ k. same (is_test (meaning_of k)) (nat_lt k INVEN)) all_low code is)

all_high : below (λ code. same (is_test (meaning_of code)) (not (nat_le INVEN code))) (length meanings) ≡ true
unfolding meanings meaning_of below same
all_high = refl

high_is : (code : ℕ) → IsPlainCode code → is_test (meaning_of code) ≡ not (nat_le INVEN code)
unfolding meanings
high_is code is =
    equal (is_test (meaning_of code)) (not (nat_le INVEN code)) (each_plain (λ k. same (is_test (meaning_of k)) (not (nat_le INVEN k))) all_high code is)

flipped : (b : Bool) → not b ≡ false → b ≡ true
flipped true h = refl
flipped false h = cc

-- A condition comes before the first action.
pub tests_low : (code : ℕ) → IsPlainCode code → is_test (meaning_of code) ≡ true → code < INVEN
tests_low code is h = ltb-true code INVEN (sym (low_is code is) ∙ h)

-- An action isn't one of those before it.
pub acts_high : (code : ℕ) → IsPlainCode code → is_test (meaning_of code) ≡ false → INVEN ≤ code
acts_high code is h = leb-true INVEN code (flipped (nat_le INVEN code) (sym (high_is code is) ∙ h))
