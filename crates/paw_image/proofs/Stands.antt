-- What is read by its rules is read without them too, and follows them.
use Rattle.std.proofs.Common.{◌≡◌, ℕ, zero, suc, ◌+◌, ◌-◌, ◌≤◌, ◌&&◌, Bool, true, ltb, List, [], ◌∷◌}
use Rattle.std.proofs.Common.{◌++◌, length, Result, Ok, refl, sym, ap, subst, ◌∙◌, append_assoc, arith}
use Rattle.std.specs.List.{flat_map, list_all}
use Rattle.std.proofs.lemmas.Bool.{ltb-false, and_parts}
use Rattle.std.proofs.lemmas.List.{length-take, length-append}
use Rattle.paw_base.specs.Bytes.{Bytes}
use Rattle.paw_read_error.specs.Bind.{◌>>=◌}
use Rattle.paw_image.specs.Reading.{Reading, bytes_at}
use Rattle.paw_image.specs.inner.Reading.{leading_rows}
use Rattle.paw_image.specs.Damage.{Passing, checked_field, each}
use Rattle.paw_image.specs.inner.Offsets.{offsets, begins}
use Rattle.paw_image.proofs.FieldLaws.{IsBytes, Takes, Takes-then, read_ok, at_ok, bind_then, guard_ok, follows_ok}
use Rattle.paw_image.proofs.ListLaws.{TakesRow}

pub and_true : (a b : Bool) → a ≡ true → b ≡ true → (a && b) ≡ true
and_true a b p q = rw (p, q) refl

-- What follows from a field that followed its rule.
pub follows_then : {A B : Type 0} (P : Type 0) (rule : A → Bool) (field : Bytes → Reading A) (bytes : Bytes)
    (f : A × Bytes → Result B ℕ) (y : B) → (checked_field rule field bytes >>= f) ≡ Ok y
    → ((x : A × Bytes) → field bytes ≡ Ok x → rule x.0 ≡ true → f x ≡ Ok y → P) → P
follows_then {A} P rule field bytes f y e go =
    bind_then P (checked_field rule field bytes) f y e (λ x x_ok e.
    bind_then P (field bytes) _ x x_ok (λ z z_ok e2.
    let both = follows_ok (rule z.0) (Ok z) (length bytes) x e2 in
    go z z_ok both.0 (at_ok (λ (w : A × Bytes). f w ≡ Ok y) x z (sym both.1) e)))

pub bytes_length : (n : ℕ) (bytes : Bytes) (x : Bytes × Bytes) → bytes_at n bytes ≡ Ok x → length x.0 ≡ n
bytes_length n bytes x e =
    let is_long = guard_ok (ltb (length bytes) n) _ _ x e in
    let long : n ≤ length bytes = ltb-false _ _ is_long.0 in
    at_ok (λ (y : Bytes × Bytes). length y.0 ≡ n) _ x is_long.1 (omega (arith, length-take n bytes))

-- What was read follows the rule, and this is what is left.
pub record Stands {A : Type 0} (reading : Reading A) (rule : A → Bool) (rest : Bytes) : Type 0 where
  pub value : A
  pub reads : reading ≡ Ok (value, rest)
  pub follows : rule value ≡ true

-- Bytes that a row passes are read as a row that follows its rule.
abbrev pub SoundRow : {A : Type 0} → (Bytes → Passing) → (Bytes → Reading A) → (A → Bool) → Type 0
SoundRow pass row rule = (bytes rest : Bytes) → IsBytes bytes → pass bytes ≡ Ok rest → Stands (row bytes) rule rest

-- The image of a row that follows its rule is passed.
abbrev pub PassesRow : {A : Type 0} → (Bytes → Passing) → (A → Bytes) → (A → Bool) → Type 0
PassesRow {A} pass image rule = (x : A) (rest : Bytes) → rule x ≡ true → pass (image x ++ rest) ≡ Ok rest

pub rest_fits : {A : Type 0} (row : Bytes → Reading A) (image : A → Bytes) (rule : A → Bool) → TakesRow row image
    → (bytes rest : Bytes) → IsBytes bytes → Stands (row bytes) rule rest → IsBytes rest
rest_fits row image rule takes bytes rest fits s = (takes bytes (s.value, rest) fits s.reads).rest_fits

pub taken_length : (bytes text rest : Bytes) → Takes bytes text rest → length bytes ≡ length text + length rest
taken_length bytes text rest t = ap (λ (l : Bytes). length l) t.parts ∙ length-append text rest

-- What was taken ends where what is left begins, in the last of `total` bytes.
pub taken_ends : (bytes text rest : Bytes) (total start : ℕ) → Takes bytes text rest → start + length bytes ≡ total
    → start + length text + length rest ≡ total
taken_ends bytes text rest total start t h = omega (arith, h, taken_length bytes text rest t)

-- These n rows follow the rule and stand there, with where they begin in the last of `total` bytes.
pub record Begins {A : Type 0} (pass : Bytes → Passing) (image : A → Bytes) (n : ℕ) (bytes : Bytes)
    (reading : Reading (List A)) (rule : A → Bool) (rest : Bytes) : Type 0 where
  pub value : List A
  pub reads : reading ≡ Ok (value, rest)
  pub follows : list_all rule value ≡ true
  pub taken : Takes bytes (flat_map image value) rest
  pub many : length value ≡ n
  pub begin : (total start : ℕ) → start + length bytes ≡ total → begins pass total n bytes ≡ offsets image start value

pub each_sound : {A : Type 0} (pass : Bytes → Passing) (row : Bytes → Reading A) (image : A → Bytes)
    (rule : A → Bool) → TakesRow row image → SoundRow pass row rule → (n : ℕ) (bytes rest : Bytes) → IsBytes bytes
    → each pass n bytes ≡ Ok rest → Begins pass image n bytes (leading_rows row n bytes) rule rest
unfolding each leading_rows begins
each_sound {A} pass row image rule takes sound zero bytes rest fits e =
    let same : bytes ≡ rest = at_ok (λ (t : Bytes). bytes ≡ t) bytes rest e refl in
    record {
      value = [];
      reads = ap (λ (t : Bytes). read_ok ([], t)) same;
      follows = refl;
      taken = record { parts = same; rest_fits = subst IsBytes same fits };
      many = refl;
      begin = λ total start h. refl;
    }
each_sound {A} pass row image rule takes sound (suc n) bytes rest fits e =
    bind_then _ (pass bytes) _ rest e (λ after after_ok e.
    let first = sound bytes after fits after_ok in
    let first_taken = takes bytes (first.value, after) fits first.reads in
    let others = each_sound pass row image rule takes sound n after rest first_taken.rest_fits e in
    record {
      value = first.value ∷ others.value;
      reads = rw (first.reads, others.reads) refl;
      follows = and_true (rule first.value) _ first.follows others.follows;
      taken = Takes-then (image first.value) (flat_map image others.value) first_taken others.taken;
      many = ap suc others.many;
      begin = λ total start h.
          let at : total - length bytes ≡ start = omega (arith, h) in
          let ends = taken_ends bytes (image first.value) after total start first_taken h in
          let later = others.begin total (start + length (image first.value)) ends in
          rw (at, after_ok) (ap (λ (l : List ℕ). start ∷ l) later);
    })

pub each_passes : {A : Type 0} (pass : Bytes → Passing) (image : A → Bytes) (rule : A → Bool) → PassesRow pass image rule
    → (xs : List A) (rest : Bytes) → list_all rule xs ≡ true → each pass (length xs) (flat_map image xs ++ rest) ≡ Ok rest
unfolding each
each_passes pass image rule passes [] rest h = refl
each_passes pass image rule passes (x ∷ xs) rest h =
    let both = and_parts (rule x) (list_all rule xs) h in
    rw (append_assoc (image x) (flat_map image xs) rest, passes x (flat_map image xs ++ rest) both.0) (each_passes pass image rule passes xs rest both.1)
