-- How answers are measured: those of one routine grow one by one, and a message grows by those of each routine.
use Rattle.std.proofs.Common.{◌≡◌, ◌<◌, ◌+◌, ℕ, [], ◌∷◌, ◌++◌, Option, Some, length, take, get_or, set, inl, inr}
use Rattle.std.proofs.Common.{sym, ap, ◌∙◌, arith, slice_get}
use Rattle.std.specs.Fn.{Shared}
use Rattle.std.specs.List.{concat}
use Rattle.std.proofs.lemmas.Bool.{cases_eq}
use Rattle.std.proofs.lemmas.Grind.{get_or-set_at, same_number_lists}
use Rattle.std.proofs.lemmas.List.{append-nil, get_or-set_other, take_more}
use Rattle.std.proofs.lemmas.List.Folds.{concat-append}
use Rattle.std.proofs.lemmas.Option.{same_Some, get_or_from_slice_get, slice_get-get_or, slice_get_within}
use Rattle.paw_base.specs.Bytes.{RoutineAnswers, Bytes}
use Rattle.paw_routines.specs.Answers.{StandFor, value_in, value_at}

-- The first values of a list, up to this number, are the first answers of routine n.
abbrev pub AreValues : RoutineAnswers → ℕ → ℕ → Bytes → Type 0
AreValues answers n count own = (x : ℕ) → x < count → value_at answers n x ≡ Some (get_or own x 0)

-- With the next value put in its place there is one more.
values_more : (answers : RoutineAnswers) (n x : ℕ) (own : Bytes) (y : ℕ) → AreValues answers n x own → x < length own → value_at answers n x ≡ Some y
    → AreValues answers n (x + 1) (set own x y)
values_more answers n x own y values fits at = λ k low. elim (cases_eq k x) [
  | inl same ↦ ap (value_at answers n) same ∙ at ∙ ap (λ (z : ℕ). Some z) (sym (get_or-set_at own x k y 0 same fits))
  | inr other ↦ values k (omega (arith, low, other)) ∙ ap (λ (z : ℕ). Some z) (sym (get_or-set_other own x k y 0 other))
]

-- With the next answer put in its place there is one more.
pub answer_more : {F : Type 0} (calls : Shared F (ℕ × (ℕ × Unit {0})) ℕ) (f : F) (count : ℕ) (answers : RoutineAnswers) → StandFor calls f count answers
    → (n x : ℕ) (own : Bytes) (y : ℕ) → n < count → x < 256 → y < 256 → length own ≡ 256 → calls.post f (n, (x, tt)) y
    → AreValues answers n x own → AreValues answers n (x + 1) (set own x y)
answer_more calls f count answers stand n x own y below small byte size called values =
    values_more answers n x own y values (omega (arith, small, size)) (stand.agree n x y below small byte called)

-- A list with all the answers of routine n is the list of these.
pub all_answers : {F : Type 0} (calls : Shared F (ℕ × (ℕ × Unit {0})) ℕ) (f : F) (count : ℕ) (answers : RoutineAnswers) → StandFor calls f count answers
    → (n : ℕ) (own : Bytes) → n < count → length own ≡ 256 → AreValues answers n 256 own → slice_get answers n ≡ Some own
all_answers calls f count answers stand n own below size values =
    let r = get_or answers n own in
    let low : n < length answers = omega (arith, below, stand.one_each) in
    let found : slice_get answers n ≡ Some r = slice_get-get_or answers n own low in
    let long : length r ≡ 256 = stand.whole n own low in
    let each : (k : ℕ) → k < length r → get_or r k 0 ≡ get_or own k 0 = λ k less.
    same_Some _ _ (sym (ap (λ (o : Option Bytes). value_in o k) found) ∙ values k (omega (arith, less, long))) in
    found ∙ ap (λ (l : Bytes). Some l) (same_number_lists r own (long ∙ sym size) each)

-- The answers of the first routines and of the next one, in order.
pub concat-more : (answers : RoutineAnswers) (n : ℕ) (own : Bytes) → slice_get answers n ≡ Some own →
    concat (take (n + 1) answers) ≡ concat (take n answers) ++ own
concat-more answers n own at =
    ap concat (take_more answers n own (slice_get_within answers n own at) ∙ ap (λ r. take n answers ++ r ∷ []) (get_or_from_slice_get answers n own own at))
    ∙ concat-append (take n answers) (own ∷ [])
    ∙ ap (λ r. concat (take n answers) ++ r) (append-nil own)
