-- The laws of shapes: a value has its bytes, stands where they are, and bytes are those of the value that stands in
-- them.
use Rattle.std.proofs.Common.{◌≡◌, ℕ, zero, suc, ◌+◌, ◌-◌, ◌*◌, ◌<◌, ◌≤◌, List, [], ◌∷◌, ◌++◌, length, take, drop}
use Rattle.std.proofs.Common.{refl, sym, ap, ◌∙◌, set, subst, add-one, arith}
use Rattle.std.specs.Prelude.{All, flat_map, slice_range}
use Rattle.std.specs.Int.{w16, w64, from_le_bytes, to_le_bytes}
use Rattle.std.proofs.lemmas.Nat.{from_le_bytes-to_le_bytes_2, from_le_bytes-to_le_bytes_8, le_bytes_2, le_bytes_8}
use Rattle.std.proofs.lemmas.List.{append_assoc, length-append, take_all}
use Rattle.std.proofs.lemmas.List.Elements.{All-cons, All-nil}
use Rattle.std.proofs.Math.Seq.{take-suc-set}
use Rattle.paw_base.specs.declared.limits.TheConstants.{FLAG_COUNT, OBJECT_LIMIT}
use Rattle.paw_base.specs.Bytes.{Bytes}
use Rattle.paw_game.specs.Image.{two_bytes}
use Rattle.paw_state.specs.State.{AreBytes}
use Rattle.paw_state.specs.inner.Shapes.{Shape, one_byte, two_byte, eight_byte, array, pair, values_at, times, through}
use Rattle.paw_state.specs.inner.Shapes.{FieldRows, field, last_field, made_of}
use Rattle.paw_state.specs.declared.fields.TheConstants.{POSITION_LENGTH}
use Rattle.paw_state.specs.declared.position_field.PositionField.{PositionField}
use Rattle.paw_state.specs.Fields.{IsSizedPosition}
use Rattle.paw_state.specs.inner.Fields.{frame_shape, loop_shape, position_shape}
use Rattle.paw_state.proofs.Pieces.{range_is, behind, byte_is, range_join, byte_range, length_range, range_bytes}
use Rattle.paw_state.proofs.Pieces.{each_byte}

pub record IsSound {A : Type 0} (c : Shape A) : Type 0 where
  pub long : (a : A) → c.fits a → length (c.bytes a) ≡ c.size
  pub back : (a : A) (bytes q : Bytes) (at : ℕ) → c.fits a → drop at bytes ≡ c.bytes a ++ q → c.value bytes at ≡ a
  pub read : (bytes : Bytes) (at : ℕ) → at + c.size ≤ length bytes → AreBytes bytes → c.bytes (c.value bytes at) ≡ slice_range bytes at (at + c.size)
  pub fit : (bytes : Bytes) (at : ℕ) → at + c.size ≤ length bytes → AreBytes bytes → c.fits (c.value bytes at)

pub one_byte_sound : IsSound one_byte
one_byte_sound = record {
  long = λ a h. refl;
  back = λ a bytes q at h e. byte_is bytes q at a e;
  read = λ bytes at low h. byte_range bytes at (omega (arith, low));
  fit = λ bytes at low h. tt;
}

pub two_byte_sound : IsSound two_byte
two_byte_sound = record {
  long = λ a h. refl;
  back = λ a bytes q at h e. ap (from_le_bytes w16) (range_is bytes (two_bytes a) q at 2 e refl) ∙ from_le_bytes-to_le_bytes_2 a h;
  read = λ bytes at low h. le_bytes_2 (slice_range bytes at (at + 2)) _ (omega (arith, low, length_range bytes at (at + 2) (omega arith) low))
      (each_byte (slice_range bytes at (at + 2)) (range_bytes bytes at (at + 2) h)) refl;
  fit = λ bytes at low h. let e = each_byte (slice_range bytes at (at + 2)) (range_bytes bytes at (at + 2) h) in omega (arith, e 0, e 1);
}

pub eight_byte_sound : IsSound eight_byte
eight_byte_sound = record {
  long = λ a h. refl;
  back = λ a bytes q at h e. ap (from_le_bytes w64) (range_is bytes (to_le_bytes w64 a) q at 8 e refl) ∙ from_le_bytes-to_le_bytes_8 a h;
  read = λ bytes at low h. le_bytes_8 (slice_range bytes at (at + 8)) _ (omega (arith, low, length_range bytes at (at + 8) (omega arith) low))
      (each_byte (slice_range bytes at (at + 8)) (range_bytes bytes at (at + 8) h)) refl;
  fit = λ bytes at low h. let e = each_byte (slice_range bytes at (at + 8)) (range_bytes bytes at (at + 8) h) in
      omega (arith, e 0, e 1, e 2, e 3, e 4, e 5, e 6, e 7);
}

pub array_sound : (n : ℕ) → IsSound (array n)
array_sound n = record {
  long = λ a h. h;
  back = λ a bytes q at h e. range_is bytes a q at n e h;
  read = λ bytes at low h. refl;
  fit = λ bytes at low h. omega (arith, low, length_range bytes at (at + n) (omega arith) low);
}

pub pair_sound : {A B : Type 0} → (c : Shape A) (d : Shape B) → IsSound c → IsSound d → IsSound (pair c d)
pair_sound {A = A} {B = B} c d s t = record {
  long = λ p h. length-append (c.bytes p.0) (d.bytes p.1) ∙ omega (arith, s.long p.0 h.0, t.long p.1 h.1);
  back = λ p bytes q at h e.
      let split : drop at bytes ≡ c.bytes p.0 ++ (d.bytes p.1 ++ q) = e ∙ append_assoc (c.bytes p.0) (d.bytes p.1) q in
      let left = s.back p.0 bytes (d.bytes p.1 ++ q) at h.0 split in
      let right = t.back p.1 bytes q (at + c.size) h.1 (behind bytes (c.bytes p.0) (d.bytes p.1 ++ q) at c.size split (s.long p.0 h.0)) in
      let both : ◌≡◌ {A = A × B} (c.value bytes at, d.value bytes (at + c.size)) (p.0, p.1) = cc in
      both;
  read = λ bytes at low h.
      let end : at + c.size + d.size ≡ at + (c.size + d.size) = omega arith in
      ap (λ (l : Bytes). l ++ d.bytes (d.value bytes (at + c.size))) (s.read bytes at (omega (arith, low)) h)
      ∙ (ap (λ (l : Bytes). slice_range bytes at (at + c.size) ++ l) (t.read bytes (at + c.size) (omega (arith, low)) h)
      ∙ (range_join bytes at (at + c.size) (at + c.size + d.size) (omega arith) (omega arith) ∙ ap (slice_range bytes at) end));
  fit = λ bytes at low h. (s.fit bytes at (omega (arith, low)) h, t.fit bytes (at + c.size) (omega (arith, low)) h);
}

pub through_sound : {A B : Type 0} → (made : A → B) (parts : B → A) (c : Shape A) → ((b : B) → made (parts b) ≡ b) → ((a : A) → parts (made a) ≡ a)
    → IsSound c → IsSound (through made parts c)
through_sound made parts c there again s = record {
  long = λ b h. s.long (parts b) h;
  back = λ b bytes q at h e. ap made (s.back (parts b) bytes q at h e) ∙ there b;
  read = λ bytes at low h. ap c.bytes (again (c.value bytes at)) ∙ s.read bytes at low h;
  fit = λ bytes at low h. rw (again (c.value bytes at)) (s.fit bytes at low h);
}

-- ---- several ----

length-values : {A : Type 0} → (c : Shape A) (n : ℕ) (bytes : Bytes) (at : ℕ) → length (values_at c n bytes at) ≡ n
unfolding values_at
length-values c zero bytes at = refl
length-values c (suc n) bytes at = ap suc (length-values c n bytes (at + c.size))

times_long : {A : Type 0} → (c : Shape A) → IsSound c → (l : List A) → All c.fits l → length (flat_map c.bytes l) ≡ length l * c.size
times_long c s [] h = omega arith
times_long c s (a ∷ later) h =
    length-append (c.bytes a) (flat_map c.bytes later)
    ∙ omega (arith, s.long a (h 0 a (omega arith)), times_long c s later (λ k d low. h (suc k) d (omega (arith, low))))

times_back : {A : Type 0} → (c : Shape A) → IsSound c → (l : List A) (bytes q : Bytes) (at : ℕ) → All c.fits l → drop at bytes ≡ flat_map c.bytes l ++ q
    → values_at c (length l) bytes at ≡ l
unfolding values_at
times_back c s [] bytes q at h e = refl
times_back c s (a ∷ later) bytes q at h e =
    let split : drop at bytes ≡ c.bytes a ++ (flat_map c.bytes later ++ q) = e ∙ append_assoc (c.bytes a) (flat_map c.bytes later) q in
    let fits = h 0 a (omega arith) in
    let left = s.back a bytes (flat_map c.bytes later ++ q) at fits split in
    let right = times_back c s later bytes q (at + c.size) (λ k d low. h (suc k) d (omega (arith, low)))
    (behind bytes (c.bytes a) (flat_map c.bytes later ++ q) at c.size split (s.long a fits)) in
    cc

times_read : {A : Type 0} → (c : Shape A) → IsSound c → (n : ℕ) (bytes : Bytes) (at : ℕ) → at + n * c.size ≤ length bytes → AreBytes bytes
    → flat_map c.bytes (values_at c n bytes at) ≡ slice_range bytes at (at + n * c.size)
unfolding values_at
times_read c s zero bytes at low h =
    let none : at + 0 * c.size - at ≡ 0 = omega arith in
    ap (λ (i : ℕ). take i (drop at bytes)) (sym none)
times_read c s (suc n) bytes at low h =
    let end : at + c.size + n * c.size ≡ at + suc n * c.size = omega arith in
    ap (λ (l : Bytes). l ++ flat_map c.bytes (values_at c n bytes (at + c.size))) (s.read bytes at (omega (arith, low)) h)
    ∙ (ap (λ (l : Bytes). slice_range bytes at (at + c.size) ++ l) (times_read c s n bytes (at + c.size) (omega (arith, low)) h)
    ∙ (range_join bytes at (at + c.size) (at + c.size + n * c.size) (omega arith) (omega arith) ∙ ap (slice_range bytes at) end))

times_fit : {A : Type 0} → (c : Shape A) → IsSound c → (n : ℕ) (bytes : Bytes) (at : ℕ) → at + n * c.size ≤ length bytes → AreBytes bytes
    → All c.fits (values_at c n bytes at)
unfolding values_at
times_fit c s zero bytes at low h = All-nil c.fits
times_fit c s (suc n) bytes at low h =
    All-cons c.fits (c.value bytes at) (values_at c n bytes (at + c.size)) (s.fit bytes at (omega (arith, low)) h)
    (times_fit c s n bytes (at + c.size) (omega (arith, low)) h)

pub times_sound : {A : Type 0} → (n : ℕ) (c : Shape A) → IsSound c → IsSound (times n c)
times_sound n c s = record {
  long = λ l h. times_long c s l h.1 ∙ ap (λ (k : ℕ). k * c.size) h.0;
  back = λ l bytes q at h e. ap (λ (k : ℕ). values_at c k bytes at) (sym h.0) ∙ times_back c s l bytes q at h.1 e;
  read = λ bytes at low h. times_read c s n bytes at low h;
  fit = λ bytes at low h. (length-values c n bytes at, times_fit c s n bytes at low h);
}

-- ---- values that are read one by one ----

pub no_values : {A : Type 0} → (c : Shape A) (bytes : Bytes) (at : ℕ) → [] ≡ values_at c 0 bytes at
unfolding values_at
no_values c bytes at = refl

values_more : {A : Type 0} → (c : Shape A) (n : ℕ) (bytes : Bytes) (at : ℕ) →
    values_at c (suc n) bytes at ≡ values_at c n bytes at ++ c.value bytes (at + n * c.size) ∷ []
unfolding values_at
values_more c zero bytes at =
    let here : at ≡ at + 0 * c.size = omega arith in
    ap (λ (i : ℕ). c.value bytes i ∷ []) here
values_more {A = A} c (suc n) bytes at =
    let next : at + c.size + n * c.size ≡ at + suc n * c.size = omega arith in
    ap (λ (l : List A). c.value bytes at ∷ l) (values_more c n bytes (at + c.size)
    ∙ ap (λ (i : ℕ). values_at c n bytes (at + c.size) ++ c.value bytes i ∷ []) next)

-- One value more is read.
pub value_read : {A : Type 0} → (c : Shape A) (l : List A) (n : ℕ) (a : A) (bytes : Bytes) (at : ℕ) → n < length l →
    take n l ≡ values_at c n bytes at → a ≡ c.value bytes (at + n * c.size) → take (n + 1) (set l n a) ≡ values_at c (n + 1) bytes at
value_read {A = A} c l n a bytes at low h e =
    rw (add-one, e) (take-suc-set l n (c.value bytes (at + n * c.size)) low
    ∙ (ap (λ (l : List A). l ++ c.value bytes (at + n * c.size) ∷ []) h ∙ sym (values_more c n bytes at)))

pub values_read : {A : Type 0} → (c : Shape A) (l : List A) (n m : ℕ) (bytes : Bytes) (at : ℕ) → length l ≡ m → n ≡ m →
    take n l ≡ values_at c n bytes at → l ≡ values_at c m bytes at
values_read c l n m bytes at k e h = sym (take_all m l (omega (arith, k))) ∙ subst (λ (i : ℕ). take i l ≡ values_at c i bytes at) e h

-- ---- records, a row for each field ----

pub record AreSoundRows {R P F M : Type 0} (rows : FieldRows R P F M) : Type 0 where
  pub values : IsSound rows.shape

pub last_sound : {R A M : Type 0} → (get : R → A) (c : Shape A) → IsSound c → AreSoundRows (last_field {M = M} get c)
last_sound get c s = record { values = s }

pub field_sound : {R A P F M : Type 0} → (get : R → A) (c : Shape A) (rows : FieldRows R P F M) → IsSound c → AreSoundRows rows
    → AreSoundRows (field get c rows)
field_sound get c rows s later = record { values = pair_sound c rows.shape s later.values }

-- A record that is made of its values again, with values that are those of the record made of them.
pub made_of_sound : {R P F : Type 0} → (f : F) (rows : FieldRows R P F R) → ((r : R) → rows.make f (rows.values r) ≡ r)
    → ((p : P) → rows.values (rows.make f p) ≡ p) → AreSoundRows rows → IsSound (made_of f rows)
made_of_sound f rows there again s = through_sound (rows.make f) rows.values rows.shape there again s.values

-- ---- the shapes of frames, loops and positions ----

pub frame_shape_sound : IsSound frame_shape
frame_shape_sound =
    made_of_sound _ _ (λ f. refl) (λ p. refl)
    (field_sound _ _ _ one_byte_sound
    (field_sound _ _ _ two_byte_sound
    (field_sound _ _ _ one_byte_sound
    (last_sound _ _ one_byte_sound))))

pub loop_shape_sound : IsSound loop_shape
loop_shape_sound =
    made_of_sound _ _ (λ l. refl) (λ p. refl)
    (field_sound _ _ _ one_byte_sound
    (field_sound _ _ _ one_byte_sound
    (field_sound _ _ _ two_byte_sound
    (field_sound _ _ _ one_byte_sound
    (field_sound _ _ _ one_byte_sound
    (last_sound _ _ one_byte_sound))))))

pub held_shape_sound : IsSound position_shape
held_shape_sound =
    made_of_sound _ _ (λ h. refl) (λ p. refl)
    (field_sound _ _ _ one_byte_sound
    (field_sound _ _ _ (array_sound FLAG_COUNT)
    (last_sound _ _ (array_sound OBJECT_LIMIT))))

pub held_fits : (h : PositionField) → IsSizedPosition h → position_shape.fits h
held_fits h s = (tt, (s.flags, s.places))

pub length-held : (h : PositionField) → IsSizedPosition h → length (position_shape.bytes h) ≡ POSITION_LENGTH
length-held h s = held_shape_sound.long h (held_fits h s)

pub same_held : (a b : PositionField) → a.there ≡ b.there → a.flags ≡ b.flags → a.places ≡ b.places → a ≡ b
same_held a b there flags places =
    let e : ◌≡◌ {A = PositionField} (record { there = a.there; flags = a.flags; places = a.places })
    (record { there = b.there; flags = b.flags; places = b.places }) = cc in e
