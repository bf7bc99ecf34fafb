-- Condacts that are walked over, and the milestones that say where they go on.
use Rattle.std.proofs.Common.{◌≡◌, ℕ, zero, suc, ◌+◌, ◌-◌, ◌*◌, ◌/◌, ◌<◌, ◌≤◌, List, [], ◌∷◌, ◌++◌, length}
use Rattle.std.proofs.Common.{get_or, take, drop, Result, Some, Ok, Err, refl, sym, ap, subst, ◌∙◌, inl, inr}
use Rattle.std.proofs.Common.{arith, suc-mul}
use Rattle.std.specs.Prelude.{◌^◌, slice_get, OnOk}
use Rattle.std.proofs.lemmas.Bool.{cases_lt}
use Rattle.std.proofs.lemmas.List.{length-append, get_or_append_left, take_all}
use Rattle.std.proofs.Math.Seq.{get_or-append_seam}
use Rattle.std.proofs.lemmas.Option.{none-some, same_Some, slice_get_within}
use Rattle.paw_base.specs.Bytes.{Bytes}
use Rattle.paw_base.specs.declared.parts.Condact.{Condact}
use Rattle.paw_base.specs.declared.rows.ParamKind.{ParamKind}
use Rattle.paw_base.specs.declared.rows.ParamKind.TheVariants as kind
use Rattle.paw_base.specs.Condacts.{first_kind, second_kind}
use Rattle.paw_game.specs.Image.{parameter_image, condact_image}
use Rattle.paw_image.specs.inner.Milestones.{IsEnd, GoesOnAt, AreMilestones, BeginsWithList, EntryMilestones}
use Rattle.paw_image.specs.inner.Milestones.{EntriesMilestones}
use Rattle.paw_image.specs.Damage.{ImagePreface, Passing, each, after_condact}
use Rattle.paw_read_error.specs.Bind.{◌>>=◌}
use Rattle.paw_image.specs.Reading.{byte_at}
use Rattle.paw_read_error.specs.inner.Gives.{Fails}
use Rattle.paw_image.specs.inner.Rows.{past_condact}
use Rattle.paw_read_error.specs.declared.read_error.ReadError.{ReadError}
use Rattle.paw_image.proofs.EndLaws.{end_whole, end_taken, end_of_end}
use Rattle.paw_image.proofs.Faults.{fails_next}
use Rattle.paw_image.proofs.FieldLaws.{IsBytes, at_ok, bind_then}
use Rattle.paw_image.proofs.RowLaws.{condact_takes}
use Rattle.paw_image.proofs.SoundRows.{condact_sound}
use Rattle.paw_image.proofs.Stands.{taken_length}

-- ---- n rows, and then more ----

bind_bind : {A B C : Type 0} (r : Result A ℕ) (f : A → Result B ℕ) (g : B → Result C ℕ) (h : A → Result C ℕ)
    → ((x : A) → h x ≡ (f x >>= g)) → (r >>= h) ≡ ((r >>= f) >>= g)
bind_bind (Ok x) f g h same = same x
bind_bind (Err left) f g h same = refl

-- To pass over m rows and then over n is to pass over m + n.
pub each_add : (pass : Bytes → Passing) (m n : ℕ) (bytes : Bytes) → each pass (m + n) bytes ≡ (each pass m bytes >>= each pass n)
unfolding each
each_add pass zero n bytes = let k : 0 + n ≡ n = omega arith in rw k refl
each_add pass (suc m) n bytes =
    let k : suc m + n ≡ suc (m + n) = omega arith in
    rw k (bind_bind (pass bytes) (each pass m) (each pass n) (each pass (m + n)) (λ b. each_add pass m n b))

pub each_none : (pass : Bytes → Passing) (bytes : Bytes) → each pass 0 bytes ≡ Ok bytes
unfolding each
each_none pass bytes = refl

pub each_more : (pass : Bytes → Passing) (m n k : ℕ) (bytes rest : Bytes) → k ≡ m + n → each pass m bytes ≡ Ok rest
    → each pass k bytes ≡ each pass n rest
each_more pass m n k bytes rest sum e = rw (sum, each_add pass m n bytes, e) refl

-- ---- condacts ----

parameter_most : (k : ParamKind) (x : ℕ) → length (parameter_image k x) ≤ 1
parameter_most kind.Absent x = omega arith
parameter_most kind.Location x = omega arith
parameter_most kind.Place x = omega arith
parameter_most kind.Object x = omega arith
parameter_most kind.Flag x = omega arith
parameter_most kind.Number x = omega arith
parameter_most kind.Message x = omega arith
parameter_most kind.System x = omega arith
parameter_most kind.Table x = omega arith
parameter_most kind.Adverb x = omega arith
parameter_most kind.Noun x = omega arith
parameter_most kind.Adjective x = omega arith
parameter_most kind.Preposition x = omega arith

condact_most : (c : Condact) → length (condact_image c) ≤ 3
condact_most c =
    let a = parameter_image (first_kind c.code) c.a in
    let b = parameter_image (second_kind c.code) c.b in
    omega (arith, length-append a b, parameter_most (first_kind c.code) c.a, parameter_most (second_kind c.code) c.b)

-- Condacts that were passed over are read without their rules and end at the same offset, after at most three bytes
-- each.
pub record Walked (n : ℕ) (bytes rest : Bytes) : Type 0 where
  pub past : each past_condact n bytes ≡ Ok rest
  pub end : IsEnd bytes rest
  pub short : length bytes ≤ length rest + n * 3

pub condacts_walked : (d : ImagePreface) (n : ℕ) (bytes rest : Bytes) → IsBytes bytes → each (after_condact d) n bytes ≡ Ok rest
    → Walked n bytes rest
unfolding each
condacts_walked d zero bytes rest fits e =
    at_ok (λ (r : Bytes). Walked 0 bytes r) bytes rest e (record { past = refl; end = end_whole bytes; short = omega arith })
condacts_walked d (suc n) bytes rest fits e =
    bind_then _ (after_condact d bytes) _ rest e (λ after after_ok e.
    let first = condact_sound d bytes after fits after_ok in
    let taken = condact_takes bytes (first.value, after) fits first.reads in
    let others = condacts_walked d n after rest taken.rest_fits e in
    let len = taken_length bytes (condact_image first.value) after taken in
    record {
      past = rw first.reads others.past;
      end = end_of_end bytes after rest (end_taken bytes (condact_image first.value) after taken) others.end;
      short = omega (arith, len, condact_most first.value, others.short, suc-mul n 3);
    })

-- ---- lists that grow ----

pub same_before : {A : Type 0} (xs ys : List A) (k : ℕ) (x : A) → slice_get xs k ≡ Some x → slice_get (xs ++ ys) k ≡ Some x
same_before [] ys k x e = absurd (none-some x e)
same_before (y ∷ xs) ys zero x e = e
same_before (y ∷ xs) ys (suc k) x e = same_before xs ys k x e

pub before_it : {A : Type 0} (xs ys : List A) (k : ℕ) → k < length xs → slice_get (xs ++ ys) k ≡ slice_get xs k
before_it [] ys k lt = absurd (omega arith)
before_it (x ∷ xs) ys zero lt = refl
before_it (x ∷ xs) ys (suc k) lt = before_it xs ys k (omega (arith, lt))

pub last_of : {A : Type 0} (xs : List A) (x : A) (k : ℕ) → k ≡ length xs → slice_get (xs ++ x ∷ []) k ≡ Some x
last_of [] x k e = rw e refl
last_of (y ∷ xs) x k e = rw e (last_of xs x (length xs) refl)

get_drop : {A : Type 0} (n : ℕ) (xs : List A) (k : ℕ) → slice_get (drop n xs) k ≡ slice_get xs (n + k)
get_drop zero xs k = let same : 0 + k ≡ k = omega arith in rw same refl
get_drop (suc n) [] k = refl
get_drop (suc n) (x ∷ xs) k = let at : suc n + k ≡ suc (n + k) = omega arith in rw at (get_drop n xs k)

-- ---- milestones ----

-- From a number on, there is a milestone after each of this many eights.
abbrev pub MilestonesSoFar : List ℕ → (start eights : ℕ) → Bytes → Type 0
MilestonesSoFar milestones start eights condacts =
    (k : ℕ) → k < eights → (milestone : ℕ) × (slice_get milestones (start + k) ≡ Some milestone) × GoesOnAt (suc k * 8) condacts milestone

pub one_more_milestone : (milestones : List ℕ) (condacts : Bytes) (start eights milestone : ℕ) → length milestones ≡ start + eights
    → MilestonesSoFar milestones start eights condacts
    → GoesOnAt (suc eights * 8) condacts milestone → MilestonesSoFar (milestones ++ milestone ∷ []) start (eights + 1) condacts
one_more_milestone milestones condacts start eights milestone len so_far goes_on k lt =
    elim (cases_lt k eights) [
      | inl before ↦
          let m = so_far k before in
          (m.0, same_before milestones (milestone ∷ []) (start + k) m.0 m.1, m.2)
      | inr le ↦
          let same : k ≡ eights = omega (arith, lt, le) in (
            milestone,
            last_of milestones milestone (start + k) (omega (arith, same, len)),
            subst (λ (n : ℕ). GoesOnAt (suc n * 8) condacts milestone) (sym same) goes_on,
          )
    ]

pub all_milestones : (milestones : List ℕ) (condacts : Bytes) (start count : ℕ) → MilestonesSoFar milestones start ((count - 1) / 8) condacts
    → AreMilestones (drop start milestones) count condacts
all_milestones milestones condacts start count so_far k lt =
    let m = so_far k (omega (arith, lt)) in
    (m.0, get_drop start milestones k ∙ m.1, m.2)

-- The milestone after the condacts that were passed over.
pub milestone_is : (d : ImagePreface) (n : ℕ) (bytes rest : Bytes) → IsBytes bytes → each (after_condact d) n bytes ≡ Ok rest
    → GoesOnAt n bytes (length bytes - length rest)
milestone_is d n bytes rest fits e =
    let walked = condacts_walked d n bytes rest fits e in
    walked.past ∙ ap (λ (r : Bytes). Ok r) (sym walked.end)

-- A longer list of milestones holds those of the same entry.
pub entry_same : (first : ℕ) (milestones more : List ℕ) (bytes : Bytes) → BeginsWithList milestones more
    → EntryMilestones (drop first milestones) bytes → EntryMilestones (drop first more) bytes
entry_same first milestones more [] extends h = tt
entry_same first milestones more (verb ∷ []) extends h = tt
entry_same first milestones more (verb ∷ noun ∷ []) extends h = tt
entry_same first milestones more (verb ∷ noun ∷ count ∷ condacts) extends h = λ k lt.
    let m = h k lt in
    (m.0, get_drop first more k ∙ extends (first + k) m.0 (sym (get_drop first milestones k) ∙ m.1), m.2)

pub one_more_entry : (all : Bytes) (offsets firsts milestones more : List ℕ) (p : ℕ) → length offsets ≡ length firsts
    → EntriesMilestones all offsets firsts milestones → BeginsWithList milestones more → EntryMilestones (drop (length milestones) more) (drop p all)
    → EntriesMilestones all (offsets ++ p ∷ []) (firsts ++ length milestones ∷ []) more
one_more_entry all offsets firsts milestones more p same so_far extends last e q found =
    elim (cases_lt e (length offsets)) [
      | inl before ↦
          let first : get_or (firsts ++ length milestones ∷ []) e 0 ≡ get_or firsts e 0 =
          get_or_append_left firsts (length milestones ∷ []) 0 e (omega (arith, before, same)) in
          let there = sym (before_it offsets (p ∷ []) e before) ∙ found in
          rw first (entry_same (get_or firsts e 0) milestones more (drop q all) extends (so_far e q there))
      | inr le ↦
          let within = slice_get_within (offsets ++ p ∷ []) e q found in
          let at : e ≡ length offsets = omega (arith, le, within, length-append offsets (p ∷ [])) in
          let first : get_or (firsts ++ length milestones ∷ []) e 0 ≡ length milestones = rw (at ∙ same) (get_or-append_seam firsts (length milestones) [] 0) in
          let is : p ≡ q = same_Some p q (sym (last_of offsets p e at) ∙ found) in
          rw (first, sym is) last
    ]

-- ---- a condact by its milestone ----

-- A condact that isn't among the first eight has the milestone of its eight.
pub milestone_of : (milestones : List ℕ) (condacts : Bytes) (count at eights : ℕ) → AreMilestones milestones count condacts → at < count → at / 8 ≡ suc eights
    → (milestone : ℕ) × (slice_get milestones eights ≡ Some milestone) × GoesOnAt (at / 8 * 8) condacts milestone
milestone_of milestones condacts count at eights are lt e =
    let m = are eights (omega (arith, lt, e)) in
    (m.0, m.1, subst (λ (n : ℕ). GoesOnAt (n * 8) condacts m.0) (sym e) m.2)

-- The milestones of the entry at the front, whose first three bytes are its verb, its noun and its number of condacts.
pub milestones_at : (milestones : List ℕ) (row : Bytes) → 3 ≤ length row → EntryMilestones milestones row
    → AreMilestones milestones (get_or row 2 0) (take (length row - 3) (drop 3 row))
milestones_at milestones [] le h = absurd (omega (arith, le))
milestones_at milestones (verb ∷ []) le h = absurd (omega (arith, le))
milestones_at milestones (verb ∷ noun ∷ []) le h = absurd (omega (arith, le))
milestones_at milestones (verb ∷ noun ∷ count ∷ condacts) le h =
    subst (AreMilestones milestones count) (sym (take_all (length (verb ∷ noun ∷ count ∷ condacts) - 3) condacts (omega arith))) h

-- ---- as they are passed over ----

-- The first fault of eight rows after some others is that of all.
pub eights_fail : (pass : Bytes → Passing) (i count : ℕ) (bytes rest : Bytes) (e : ReadError ℕ) → i * 8 + 8 ≤ count
    → each pass (i * 8) bytes ≡ Ok rest → Fails e (each pass 8 rest) → Fails e (each pass count bytes)
eights_fail pass i count bytes rest e le so_far h =
    let n = count - (i * 8 + 8) in
    let all = each_more pass (i * 8) (8 + n) count bytes rest (omega (arith, le)) so_far ∙ each_add pass 8 n rest in
    subst (λ (p : Passing). Fails e p) (sym all) (fails_next e (each pass 8 rest) (each pass n) h)

pub milestone_small : (d : ImagePreface) (n : ℕ) (bytes rest : Bytes) → IsBytes bytes → each (after_condact d) n bytes ≡ Ok rest → n ≤ 255
    → length bytes - length rest < 2 ^ 16
milestone_small d n bytes rest fits e le = omega (arith, (condacts_walked d n bytes rest fits e).short, le)

byte_is : (bytes : Bytes) (b : ℕ) (rest : Bytes) → byte_at bytes ≡ Ok (b, rest) → bytes ≡ b ∷ rest
byte_is [] b rest e = absurd cc
byte_is (x ∷ xs) b rest e = at_ok (λ (y : ℕ × Bytes). x ∷ xs ≡ y.0 ∷ y.1) (x, xs) (b, rest) e refl

pub milestones_of_entry : (milestones : List ℕ) (bytes nouns counts rest : Bytes) (verb noun count : ℕ) → byte_at bytes ≡ Ok (verb, nouns)
    → byte_at nouns ≡ Ok (noun, counts) → byte_at counts ≡ Ok (count, rest) → AreMilestones milestones count rest → EntryMilestones milestones bytes
milestones_of_entry milestones bytes nouns counts rest verb noun count e1 e2 e3 h =
    rw (byte_is bytes verb nouns e1, byte_is nouns noun counts e2, byte_is counts count rest e3) h

pub on_ok : {T E : Type 0} {P : Type 0} (r : Result T E) → P → OnOk r P
on_ok (Ok x) p = p
on_ok (Err e) p = tt

pub on_ok_then : {T E : Type 0} {P Q : Type 0} (r : Result T E) → (P → Q) → OnOk r P → OnOk r Q
on_ok_then (Ok x) f p = f p
on_ok_then (Err e) f p = tt
