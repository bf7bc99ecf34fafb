-- The lines of steps, and how long they are.
use Rattle.paw_play.proofs.Names.{◌≡◌, ℕ, zero, suc, ◌+◌, ◌-◌, ◌||◌, ◌≤◌, ◌<◌, Bool, true, false, List, [], ◌∷◌, ◌++◌, refl, ap, inl, inr, length, arith, length-append, nat_le, ◌^◌, codes, decimal, if◌then◌else◌, slice_index_or, list_all, leb-true, cases_lt, lt-ltb, get_or_past, Bytes, Text, CondactLine, is_indirect, no_line, indirect_line, name_of, Puts, PIECE_LIMIT, StepRow, step_address, answer_text, step_line, more_line, length-decimal-le, INDIRECT, is_plain_code, condact_lines, plain_line, line_of, IsCode, plain_is, first_of_and, second_of_and}

-- What fits is put.
pub put_whole : (ok : Bool) (old new text : Bytes) → Puts old new ok text → length old + length text ≤ PIECE_LIMIT
    → new ≡ old ++ text
put_whole true old new text puts fits = puts.0
put_whole false old new text puts fits = absurd (omega (arith, puts, fits))

-- ---- names ----

all_short : list_all (λ (l : CondactLine). nat_le (length l.name) 8) condact_lines ≡ true
unfolding condact_lines
all_short = refl

short_at : (lines : List CondactLine) (n : ℕ) → list_all (λ (l : CondactLine). nat_le (length l.name) 8) lines ≡ true →
    length (slice_index_or lines n no_line).name ≤ 8
short_at [] n h = omega arith
short_at (l ∷ lines) zero h = leb-true (length l.name) 8 (first_of_and (nat_le (length l.name) 8) _ h)
short_at (l ∷ lines) (suc n) h = short_at lines n (second_of_and (nat_le (length l.name) 8) _ h)

plain_short : (code : ℕ) → length (plain_line code).name ≤ 8
unfolding plain_line
plain_short code = short_at condact_lines code all_short

name_short : (code : ℕ) → length (name_of code) ≤ 8
unfolding line_of
name_short code = go (is_indirect code)
  where
    go : (b : Bool) → length (if b then indirect_line (code - INDIRECT) else plain_line code).name ≤ 8
    go true = plain_short (code - INDIRECT)
    go false = plain_short code

or_true : (b : Bool) → (b || true) ≡ true
or_true true = refl
or_true false = refl

indirect_is : (code : ℕ) → is_indirect code ≡ true → IsCode code
indirect_is code e = rw e (or_true (is_plain_code code))

no_plain_name : (code : ℕ) → ¬ IsCode code → (plain_line code).name ≡ []
unfolding plain_line is_plain_code
no_plain_name code none = elim (cases_lt code (length condact_lines)) [
  | inl low ↦ absurd (none (plain_is code (lt-ltb code (length condact_lines) low)))
  | inr past ↦ ap (λ (l : CondactLine). l.name) (get_or_past condact_lines code no_line past)
]

-- What is no code has no name.
pub no_name : (code : ℕ) → ¬ IsCode code → name_of code ≡ []
unfolding line_of
no_name code none = go (is_indirect code) refl
  where
    go : (b : Bool) → is_indirect code ≡ b → (if b then indirect_line (code - INDIRECT) else plain_line code).name ≡ []
    go true e = absurd (none (indirect_is code e))
    go false e = no_plain_name code none

-- ---- lines ----

answer_short : (yes : Bool) → length (answer_text yes) ≤ 5
answer_short true = omega arith
answer_short false = omega arith

pub address_short : (table entry at : ℕ) → table < 2 ^ 8 → entry < 2 ^ 16 → at < 2 ^ 8 → length (step_address table entry at) ≤ 13
address_short table entry at low few under =
    let t : length (decimal table) ≤ 3 = length-decimal-le 3 table (omega arith) (omega (arith, low)) (omega (arith, low)) in
    let e : length (decimal entry) ≤ 5 = length-decimal-le 5 entry (omega arith) (omega (arith, few)) (omega (arith, few)) in
    let a : length (decimal at) ≤ 3 = length-decimal-le 3 at (omega arith) (omega (arith, under)) (omega (arith, under)) in
    let dot : length (codes ".") ≡ 1 = refl in
    omega (arith, t, e, a, dot, length-append {A = ℕ})

-- A line of a step is of at most 27 bytes.
pub line_short : (step : StepRow) → length (step_address step.table step.entry step.at) ≤ 13 → length (step_line step) ≤ 27
line_short step place =
    let text : Text = step_address step.table step.entry step.at in
    let one = length-append text (codes " " ++ (name_of step.code ++ answer_text step.yes)) in
    let two = length-append (codes " ") (name_of step.code ++ answer_text step.yes) in
    let three = length-append (name_of step.code) (answer_text step.yes) in
    let blank : length (codes " ") ≡ 1 = refl in
    omega (arith, place, name_short step.code, answer_short step.yes, one, two, three, blank)

-- The line with the number of further steps is short too.
pub more_short : (n : ℕ) → n < 2 ^ 32 → length (more_line n) ≤ 27
more_short zero small = omega arith
more_short (suc n) small =
    let d : length (decimal (suc n)) ≤ 10 = length-decimal-le 10 (suc n) (omega arith) (omega (arith, small)) (omega (arith, small)) in
    let one = length-append (codes "[") (decimal (suc n) ++ codes " more]\n") in
    let two = length-append (decimal (suc n)) (codes " more]\n") in
    let before : length (codes "[") ≡ 1 = refl in
    let behind : length (codes " more]\n") ≡ 7 = refl in
    omega (arith, d, one, two, before, behind)
