-- What stands at an offset of bytes: the head of an entry, or a condact.
use Rattle.std.proofs.Common.{◌≡◌, ℕ, zero, suc, ◌+◌, ◌<◌, [], ◌∷◌, length, drop, get_or, Some, None, Ok, refl, sym, ap, ◌∙◌}
use Rattle.std.proofs.Common.{Bool, true, false, inl, inr, arith}
use Rattle.std.specs.Prelude.{slice_get, IfSome, ◌≤◌}
use Rattle.std.proofs.lemmas.List.{drop-drop}
use Rattle.std.proofs.lemmas.Option.{none-some, same_Some, slice_get_past}
use Rattle.std.proofs.lemmas.Bool.{cases_lt, false_from_ne_true}
use Rattle.paw_base.specs.Bytes.{Bytes}
use Rattle.paw_base.specs.declared.parts.Condact.{Condact}
use Rattle.paw_base.specs.declared.rows.ParamKind.{ParamKind}
use Rattle.paw_base.specs.declared.rows.ParamKind.TheVariants as kind
use Rattle.paw_base.specs.Condacts.{is_code, first_kind, second_kind, param_count, plain_code}
use Rattle.paw_base.specs.inner.Condacts.{IsCode}
use Rattle.paw_base.proofs.Table.{as_many}
use Rattle.paw_read_error.specs.Bind.{◌>>=◌}
use Rattle.paw_image.specs.Reading.{Reading, byte_at}
use Rattle.paw_image.specs.inner.Reading.{IsFault, leading_condact, parameter_at}
use Rattle.paw_image.specs.inner.Rows.{head_here, condact_among, nth_condact, value_of}
use Rattle.paw_image.specs.inner.Views.{CondactsStand, EntryStands}
use Rattle.paw_image.proofs.Faults.{fault_first, no_value}

-- ---- the head of an entry ----

head_from : (p : ℕ) (bytes : Bytes) (count : ℕ) → slice_get bytes (suc (suc p)) ≡ Some count
    → head_here (drop p bytes) ≡ Some ((get_or bytes p 0, get_or bytes (suc p) 0), count)
unfolding head_here
head_from p [] count h = absurd (none-some count h)
head_from zero (b ∷ []) count h = absurd (none-some count h)
head_from zero (b ∷ c ∷ []) count h = absurd (none-some count h)
head_from zero (b ∷ c ∷ d ∷ bytes) count h = rw (same_Some d count h) refl
head_from (suc p) (b ∷ bytes) count h = head_from p bytes count h

no_head_from : (p : ℕ) (bytes : Bytes) → slice_get bytes (suc (suc p)) ≡ None → head_here (drop p bytes) ≡ None
unfolding head_here
no_head_from zero [] h = refl
no_head_from (suc p) [] h = refl
no_head_from zero (b ∷ []) h = refl
no_head_from zero (b ∷ c ∷ []) h = refl
no_head_from zero (b ∷ c ∷ d ∷ bytes) h = absurd (none-some d (sym h))
no_head_from (suc p) (b ∷ bytes) h = no_head_from p bytes h

pub head_is : (p : ℕ) (bytes : Bytes) (count : ℕ) → slice_get bytes (p + 2) ≡ Some count
    → head_here (drop p bytes) ≡ Some ((get_or bytes p 0, get_or bytes (p + 1) 0), count)
head_is p bytes count h =
    let one : p + 1 ≡ suc p = omega arith in
    let two : p + 2 ≡ suc (suc p) = omega arith in
    rw one (head_from p bytes count (rw two at h))

pub no_head : (p : ℕ) (bytes : Bytes) → slice_get bytes (p + 2) ≡ None → head_here (drop p bytes) ≡ None
no_head p bytes h = let two : p + 2 ≡ suc (suc p) = omega arith in no_head_from p bytes (rw two at h)

-- The third byte of a row is the number in its head.
pub few_in_row : (row same : Bytes) (n : ℕ) → same ≡ row → 3 ≤ length same → n ≤ get_or same 2 0 → IfSome (head_here row) (λ x. n ≤ x.1)
unfolding head_here
few_in_row [] same n e long few = tt
few_in_row (b ∷ []) same n e long few = tt
few_in_row (b ∷ c ∷ []) same n e long few = tt
few_in_row (b ∷ c ∷ d ∷ row) same n e long few = rw e at few

-- ---- the first condact of an entry ----

among_head : (row : Bytes) (head : ℕ × ℕ) (left k : ℕ) → head_here row ≡ Some (head, left)
    → condact_among k left (drop 3 row) ≡ nth_condact k row
unfolding head_here nth_condact
among_head [] head left k h = absurd (none-some (head, left) h)
among_head (b ∷ []) head left k h = absurd (none-some (head, left) h)
among_head (b ∷ c ∷ []) head left k h = absurd (none-some (head, left) h)
among_head (b ∷ c ∷ d ∷ bytes) head left k h =
    let same = ap (λ (x : (ℕ × ℕ) × ℕ). x.1) (same_Some ((b, c), d) (head, left) h) in
    rw same refl

-- The condacts of an entry begin after its head.
pub stands_at_first : (bytes : Bytes) (t e start : ℕ) (head : ℕ × ℕ) (left : ℕ) → EntryStands bytes t e start
    → head_here (drop start bytes) ≡ Some (head, left) → CondactsStand bytes t e 0 left (start + 3)
stands_at_first bytes t e start head left there h k =
    let none : 0 + k ≡ k = omega arith in
    rw (none, ← drop-drop 3 start bytes) (among_head (drop start bytes) head left k h ∙ there k)

-- ---- a condact ----

here_from : (p : ℕ) (bytes : Bytes) (b : ℕ) → slice_get bytes p ≡ Some b → drop p bytes ≡ b ∷ drop (suc p) bytes
here_from p [] b h = absurd (none-some b h)
here_from zero (x ∷ bytes) b h = rw (same_Some x b h) refl
here_from (suc p) (x ∷ bytes) b h = here_from p bytes b h

-- The byte at an offset is the first of the bytes from there on.
pub here : (p : ℕ) (bytes : Bytes) (b : ℕ) → slice_get bytes p ≡ Some b → drop p bytes ≡ b ∷ drop (p + 1) bytes
here p bytes b h = let next : p + 1 ≡ suc p = omega arith in rw next (here_from p bytes b h)

nothing_here : (p : ℕ) (bytes : Bytes) → slice_get bytes p ≡ None → drop p bytes ≡ []
nothing_here zero [] h = refl
nothing_here (suc p) [] h = refl
nothing_here zero (x ∷ bytes) h = absurd (none-some x (sym h))
nothing_here (suc p) (x ∷ bytes) h = nothing_here p bytes h

by_kind : (k : ParamKind) (bytes : Bytes) → (k ≡ kind.Absent → ⊥) → parameter_at k bytes ≡ byte_at bytes
by_kind kind.Absent bytes other = absurd (other refl)
by_kind kind.Location bytes other = refl
by_kind kind.Place bytes other = refl
by_kind kind.Object bytes other = refl
by_kind kind.Flag bytes other = refl
by_kind kind.Number bytes other = refl
by_kind kind.Message bytes other = refl
by_kind kind.System bytes other = refl
by_kind kind.Table bytes other = refl
by_kind kind.Adverb bytes other = refl
by_kind kind.Noun bytes other = refl
by_kind kind.Adjective bytes other = refl
by_kind kind.Preposition bytes other = refl

pub parameter_is : (k : ParamKind) (p : ℕ) (bytes : Bytes) (b : ℕ) → (k ≡ kind.Absent → ⊥) → slice_get bytes p ≡ Some b
    → parameter_at k (drop p bytes) ≡ Ok (b, drop (p + 1) bytes)
parameter_is k p bytes b other h = rw (by_kind k (drop p bytes) other, here p bytes b h) refl

pub no_parameter : (k : ParamKind) (p : ℕ) (bytes : Bytes) → (k ≡ kind.Absent → ⊥) → slice_get bytes p ≡ None → IsFault (parameter_at k (drop p bytes))
no_parameter k p bytes other h = rw (by_kind k (drop p bytes) other, nothing_here p bytes h) tt

-- A byte that can be read is there.
byte_there : (p : ℕ) (bytes : Bytes) → (slice_get bytes p ≡ None → ⊥) → p < length bytes
byte_there p bytes h =
    elim (cases_lt p (length bytes)) [
      | inl lt ↦ lt
      | inr le ↦ absurd (h (slice_get_past bytes p le))
    ]

pub parameter_there : (k : ParamKind) (p : ℕ) (bytes : Bytes) → (k ≡ kind.Absent → ⊥) → (IsFault (parameter_at k (drop p bytes)) → ⊥) → p < length bytes
parameter_there k p bytes other h = byte_there p bytes (λ none. h (no_parameter k p bytes other none))

abbrev by_count : ℕ → Bytes → Reading ℕ
by_count zero bytes = Ok (0, bytes)
by_count (suc n) bytes = byte_at bytes

counted_parameter : (k : ParamKind) (bytes : Bytes) → parameter_at k bytes ≡ by_count (param_count k) bytes
counted_parameter kind.Absent bytes = refl
counted_parameter kind.Location bytes = refl
counted_parameter kind.Place bytes = refl
counted_parameter kind.Object bytes = refl
counted_parameter kind.Flag bytes = refl
counted_parameter kind.Number bytes = refl
counted_parameter kind.Message bytes = refl
counted_parameter kind.System bytes = refl
counted_parameter kind.Table bytes = refl
counted_parameter kind.Adverb bytes = refl
counted_parameter kind.Noun bytes = refl
counted_parameter kind.Adjective bytes = refl
counted_parameter kind.Preposition bytes = refl

-- Of a kind only whether it stands for a parameter decides what is read.
same_parameter : (k l : ParamKind) (bytes : Bytes) → param_count k ≡ param_count l → parameter_at k bytes ≡ parameter_at l bytes
same_parameter k l bytes e =
    counted_parameter k bytes ∙ ap (λ (n : ℕ). by_count n bytes) e ∙ sym (counted_parameter l bytes)

-- The parameters of a code are read as those of its plain one.
pub plain_first : (code : ℕ) (k : ParamKind) (bytes : Bytes) → IsCode code → k ≡ first_kind (plain_code code)
    → parameter_at (first_kind code) bytes ≡ parameter_at k bytes
plain_first code k bytes is e = same_parameter (first_kind code) k bytes ((as_many code is).0 ∙ ap param_count (sym e))

pub plain_second : (code : ℕ) (k : ParamKind) (bytes : Bytes) → IsCode code → k ≡ second_kind (plain_code code)
    → parameter_at (second_kind code) bytes ≡ parameter_at k bytes
plain_second code k bytes is e = same_parameter (second_kind code) k bytes ((as_many code is).1 ∙ ap param_count (sym e))

-- What is read of a condact from its code on.
abbrev parameters_at : ℕ → Bytes → Reading Condact
parameters_at code bytes =
    parameter_at (first_kind code) bytes >>= λ a. parameter_at (second_kind code) a.1 >>= λ b.
    Ok (record { code = code; a = a.0; b = b.0 }, b.1)

not_not : (b : Bool) → ((b ≡ true → ⊥) → ⊥) → b ≡ true
not_not true h = refl
not_not false h = absurd (h (λ e. absurd cc))

module _ (p : ℕ) (bytes : Bytes) (code : ℕ) (h : slice_get bytes p ≡ Some code) where
  pub no_code : (IsCode code → ⊥) → value_of (leading_condact (drop p bytes)) ≡ None
  unfolding leading_condact
  no_code other = rw (here p bytes code h, false_from_ne_true (is_code code) other) refl

  -- Where a condact can be read its code is that of one.
  pub is_the_code : (value_of (leading_condact (drop p bytes)) ≡ None → ⊥) → IsCode code
  is_the_code there = not_not (is_code code) (λ other. there (no_code other))

  from_code : IsCode code → leading_condact (drop p bytes) ≡ parameters_at code (drop (p + 1) bytes)
  unfolding leading_condact
  from_code is = rw (here p bytes code h, is) refl

  pub condact_is : IsCode code → (a b after next : ℕ) → parameter_at (first_kind code) (drop (p + 1) bytes) ≡ Ok (a, drop after bytes)
      → parameter_at (second_kind code) (drop after bytes) ≡ Ok (b, drop next bytes)
      → leading_condact (drop p bytes) ≡ Ok (record { code = code; a = a; b = b }, drop next bytes)
  condact_is is a b after next first second = rw (from_code is, first, second) refl

  pub no_first : IsCode code → IsFault (parameter_at (first_kind code) (drop (p + 1) bytes)) → value_of (leading_condact (drop p bytes)) ≡ None
  no_first is fault =
      no_value (leading_condact (drop p bytes)) (rw (from_code is) (fault_first (parameter_at (first_kind code) (drop (p + 1) bytes)) _ fault))

  pub no_second : IsCode code → (a after : ℕ) → parameter_at (first_kind code) (drop (p + 1) bytes) ≡ Ok (a, drop after bytes)
      → IsFault (parameter_at (second_kind code) (drop after bytes)) → value_of (leading_condact (drop p bytes)) ≡ None
  no_second is a after first fault =
      no_value (leading_condact (drop p bytes))
      (rw (from_code is, first) (fault_first (parameter_at (second_kind code) (drop after bytes)) _ fault))

pub nothing_read : (p : ℕ) (bytes : Bytes) → slice_get bytes p ≡ None → value_of (leading_condact (drop p bytes)) ≡ None
unfolding leading_condact
nothing_read p bytes h = rw (nothing_here p bytes h) refl

pub code_there : (p : ℕ) (bytes : Bytes) → (value_of (leading_condact (drop p bytes)) ≡ None → ⊥) → p < length bytes
code_there p bytes h = byte_there p bytes (λ none. h (nothing_read p bytes none))
