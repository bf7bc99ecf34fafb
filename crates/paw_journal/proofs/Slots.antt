-- A slot that is put together, and one that is read.
use Rattle.std.proofs.Common.{◌≡◌, ℕ, ◌+◌, ◌-◌, ◌*◌, ◌≤◌, ◌<◌, min, List, [], ◌∷◌, ◌++◌, get_or, length, take, drop, zero, suc}
use Rattle.std.proofs.Common.{replicate, refl, sym, ap, ◌∙◌, subst, true, false}
use Rattle.std.proofs.Common.{arith, lit≤}
use Rattle.std.specs.Prelude.{slice_set, Bool, ◌&&◌, Option, Some, None, is_none, Result, Ok, is_ok}
use Rattle.std.specs.Prelude.{if◌then◌else◌, nat_le}
use Rattle.std.proofs.lemmas.Bool.Decides.{nat_tests}
use Rattle.std.proofs.lemmas.List.{drop-replicate}
use Rattle.std.specs.List.{list_all, slice_index_or}
use Rattle.std.proofs.lemmas.Bool.{leb-true, and_parts}
use Rattle.std.proofs.lemmas.List.{length-append, take-replicate, length-take-le, length-set, get_or-take}
use Rattle.std.proofs.lemmas.List.{get_or_append_left, get_or_read_under, take_all, take_at}
use Rattle.std.proofs.Math.Seq.{take-append-add}
use Rattle.paw_base.specs.Bytes.{Bytes, Text}
use Rattle.paw_base.specs.declared.layout.TheConstants.{FORM_LENGTHS, PIECE_LENGTH_AT}
use Rattle.paw_journal.specs.declared.layout.Slot.{Slot}
use Rattle.paw_journal.specs.declared.layout.Slot.TheVariants as which
use Rattle.paw_journal.specs.declared.drafting.SlotState.{SlotState}
use Rattle.paw_journal.specs.declared.refusal.SessionPart.TheVariants as part
use Rattle.paw_journal.specs.Session.{Change, Digests, Damaged, Shown, piece_length, state_length, first_length}
use Rattle.paw_journal.specs.Session.{is_current, slot_piece, stretch, two_byte_number, base}
use Rattle.paw_journal.specs.Session.{changes, with_changes, first_unsound, slot_changes, slot_state, slot_shows}
use Rattle.paw_journal.specs.Session.{shown_unless, most_changes, slot}
use Rattle.paw_journal.specs.Session.{has_state, form_length, slot_version, shown_state}
use Rattle.paw_journal.specs.Session.{slot_length, header_length, session_length, zeros}
use Rattle.paw_journal.specs.inner.Room.{Room, kept_slot, with_slot_kept}
use Rattle.paw_journal.specs.declared.layout.TheConstants.{BASE_AT, CHANGES_AT, PIECE_AT}
use Rattle.paw_base.specs.declared.layout.TheConstants.{VERSION}
use Rattle.paw_base.specs.declared.limits.TheConstants.{PIECE_LIMIT}
use Rattle.paw_journal.specs.Session.{base_length}
use Rattle.paw_journal.proofs.Kept.{has_state_is, state_has, kept_shows, sound_shows, kept_of_both, kept_of_older}
use Rattle.paw_journal.proofs.Kept.{kept_of_broken}
use Rattle.paw_journal.proofs.Puts.{stretch_long}
use Rattle.paw_journal.proofs.Makes.{length_zeros}
use Rattle.paw_journal.proofs.Parts.{length_stretch}

-- A list that is longer by a number of zeros.
pub added_zeros : {T E : Type 0} {r : Result T E} {x : T} (was now : Bytes) (n k count : ℕ) → k ≡ length was →
    n ≡ k + count → r ≡ Ok x → now ≡ (if is_ok r then take n was ++ replicate (n - k) 0 else was) →
    now ≡ was ++ zeros count
unfolding zeros
added_zeros was now n k count l e ok is =
    let m : n - k ≡ count = omega arith in
    is ∙ (ap (λ b. if is_ok b then take n was ++ replicate (n - k) 0 else was) ok
    ∙ (ap (λ y. y ++ replicate (n - k) 0) (take_all n was (omega arith)) ∙ ap (λ j. was ++ replicate j 0) m))

-- What a read of a slot gives.
pub read_slot : (k at n m : ℕ) (into rest whole : Bytes) → k < 2 → at ≡ header_length + slot_length * k →
    n ≡ slot_length → m ≡ slot_length → length whole ≡ session_length → into ≡ take m (drop at whole) →
    take n (into ++ rest) ≡ slot k whole
read_slot k at n m into rest whole low e p q long r =
    let s : into ≡ slot k whole = r ∙ (ap (λ j. take j (drop at whole)) q ∙ ap (λ j. stretch j slot_length whole) e) in
    let l : length into ≡ n = slot_is_whole (length into) k n (length whole) low p long
    (ap length s ∙ length_stretch (header_length + slot_length * k) slot_length whole) in
    take_at into rest n l ∙ s
  where
    slot_is_whole : (l k n size : ℕ) → k < 2 → n ≡ slot_length → size ≡ session_length → l ≡ min slot_length (size - (header_length + slot_length * k)) → l ≡ n
    slot_is_whole l k n size low p long e = omega arith

-- What a slot shows, by its change records.
pub too_many : (digests : Digests) (bytes : Bytes) (count : ℕ) → count ≡ two_byte_number 0 bytes → most_changes < count →
    slot_shows digests bytes ≡ Damaged part.Slot 0
unfolding slot_shows
too_many digests bytes count e h =
    let f : nat_le (two_byte_number 0 bytes) most_changes ≡ false = above (two_byte_number 0 bytes) count e h in
    ap (λ b. if b then shown_unless digests bytes (first_unsound (slot_changes bytes)) else Damaged part.Slot 0) f
  where
    above : (n count : ℕ) → count ≡ n → most_changes < count → nat_le n most_changes ≡ false
    above n count e h = grind (arith, nat_tests)

pub few_changes : (digests : Digests) (bytes records : Bytes) (count : ℕ) (first : Option ℕ) → count ≡ two_byte_number 0 bytes →
    count ≤ most_changes → records ≡ stretch CHANGES_AT (4 * count) bytes → first ≡ first_unsound (changes records) →
    slot_shows digests bytes ≡ shown_unless digests bytes first
unfolding slot_shows
few_changes digests bytes records count first e h r u =
    let f : nat_le (two_byte_number 0 bytes) most_changes ≡ true = below (two_byte_number 0 bytes) count e h in
    ap (λ b. if b then shown_unless digests bytes (first_unsound (slot_changes bytes)) else Damaged part.Slot 0) f
    ∙ ap (shown_unless digests bytes) (sym (u ∙ (ap (λ l. first_unsound (changes l)) r
    ∙ ap (λ n. first_unsound (changes (stretch CHANGES_AT (4 * n) bytes))) e)))
  where
    below : (n count : ℕ) → count ≡ n → count ≤ most_changes → nat_le n most_changes ≡ true
    below n count e h = grind (arith, nat_tests)

pub state_is : (bytes records old now : Bytes) (count : ℕ) → count ≡ two_byte_number 0 bytes →
    records ≡ stretch CHANGES_AT (4 * count) bytes → old ≡ base bytes → now ≡ with_changes (changes records) old →
    now ≡ slot_state bytes
state_is bytes records old now count e r b n =
    n ∙ (ap (λ l. with_changes (changes l) old) (r ∙ ap (λ n. stretch CHANGES_AT (4 * n) bytes) e)
    ∙ ap (with_changes (slot_changes bytes)) b)

pub broken_many : (bytes : Bytes) (count : ℕ) → count ≡ two_byte_number 0 bytes → most_changes < count → has_state bytes ≡ false
broken_many bytes count e h = above (two_byte_number 0 bytes) count (is_none (first_unsound (slot_changes bytes))) e h
  where
    above : (n count : ℕ) (b : Bool) → count ≡ n → most_changes < count → (nat_le n most_changes && b) ≡ false
    above n count b e h = let f : nat_le n most_changes ≡ false = grind (arith, nat_tests) in ap (λ t. t && b) f

same_unsound : (bytes records : Bytes) (count : ℕ) (first : Option ℕ) → count ≡ two_byte_number 0 bytes →
    records ≡ stretch CHANGES_AT (4 * count) bytes → first ≡ first_unsound (changes records) →
    first_unsound (slot_changes bytes) ≡ first
same_unsound bytes records count first e r u =
    sym (u ∙ (ap (λ l. first_unsound (changes l)) r
    ∙ ap (λ n. first_unsound (changes (stretch CHANGES_AT (4 * n) bytes))) e))

pub broken_record : (bytes records : Bytes) (count number : ℕ) → count ≡ two_byte_number 0 bytes →
    records ≡ stretch CHANGES_AT (4 * count) bytes → Some number ≡ first_unsound (changes records) →
    has_state bytes ≡ false
broken_record bytes records count number e r u =
    ap (λ o. nat_le (two_byte_number 0 bytes) most_changes && is_none o)
    (same_unsound bytes records count (Some number) e r u) ∙ never (nat_le (two_byte_number 0 bytes) most_changes)
  where
    never : (b : Bool) → (b && false) ≡ false
    never true = refl
    never false = refl

pub whole_slot : (bytes records : Bytes) (count : ℕ) → count ≡ two_byte_number 0 bytes → count ≤ most_changes →
    records ≡ stretch CHANGES_AT (4 * count) bytes → None ≡ first_unsound (changes records) → has_state bytes ≡ true
whole_slot bytes records count e low r u = has_state_is bytes (omega (arith, e)) (same_unsound bytes records count None e r u)

pub whole_state : (bytes records old now : Bytes) (count : ℕ) → count ≡ two_byte_number 0 bytes →
    records ≡ stretch CHANGES_AT (4 * count) bytes → old ≡ base bytes → now ≡ with_changes (changes records) old →
    ◌≡◌ {A = SlotState} (record { records = count; state = now })
    (record { records = two_byte_number 0 bytes; state = slot_state bytes })
whole_state bytes records old now count e r b n = let s = state_is bytes records old now count e r b n in cc (e, s)

pub records_are : (count : ℕ) (held bytes : Bytes) → held ≡ bytes →
    take (CHANGES_AT + 4 * count - CHANGES_AT) (drop CHANGES_AT held) ≡ stretch CHANGES_AT (4 * count) bytes
records_are count held bytes e = let n : CHANGES_AT + 4 * count - CHANGES_AT ≡ 4 * count = omega arith in
    ap (λ k. take k (drop CHANGES_AT held)) n ∙ ap (stretch CHANGES_AT (4 * count)) e

-- There is room for state and piece after the head of a slot, and for as many zeros after these.
pub room_for_body : (r s : Room) (piece : Text) → s.slot ≡ 0 ∷ 0 ∷ VERSION ∷ [] → s.piece ≡ piece →
    r ≡ record s { slot = s.slot ++ zeros 61 } → length piece ≤ PIECE_LIMIT →
    length r.slot + base_length + length r.piece ≤ slot_length
room_for_body r s piece f g e few = omega (
  arith,
  ap (λ x. length x.slot) e,
  ap (λ x. length x.piece) e,
  ap length f,
  ap length g,
  length-append s.slot
      (zeros 61),
  length_zeros 61,
)

pub room_behind : (q r s : Room) (state piece : Bytes) (n : ℕ) → s.slot ≡ 0 ∷ 0 ∷ VERSION ∷ [] → s.state ≡ state →
    s.piece ≡ piece → r ≡ record s { slot = s.slot ++ zeros 61 } → length state ≡ base_length
    → length piece ≤ PIECE_LIMIT →
    q ≡ record r { slot = r.slot ++ r.state ++ r.piece } → n ≡ length piece → length q.slot + (slot_length - PIECE_AT - n) ≤ slot_length
room_behind q r s state piece n a b d e long few f k =
    omega (
      arith,
      ap (λ x. length x.slot) f,
      length-append (r.slot ++ r.state) r.piece,
      length-append r.slot r.state,
      ap
          (λ x. length x.slot) e,
      ap (λ x. length x.state) e,
      ap (λ x. length x.piece) e,
      ap length a,
      ap length b,
      ap length
          d,
      length-append s.slot (zeros 61),
      length_zeros 61,
    )

-- What is shown stays in the room while slots are kept in it.
pub state_stays : (w : Slot) (kept : Option SlotState) (room : Room) → (with_slot_kept w kept room).state ≡ room.state
state_stays which.First kept room = refl
state_stays which.Second kept room = refl

pub piece_stays : (w : Slot) (kept : Option SlotState) (room : Room) → (with_slot_kept w kept room).piece ≡ room.piece
piece_stays which.First kept room = refl
piece_stays which.Second kept room = refl

length-changed : (all : List Change) (bytes : Bytes) → length (with_changes all bytes) ≡ length bytes
length-changed [] bytes = refl
length-changed (c ∷ all) bytes = length-changed all (slice_set bytes c.at c.byte) ∙ length-set bytes c.at c.byte

pub state_long : (bytes : Bytes) → length bytes ≡ slot_length → length (slot_state bytes) ≡ base_length
state_long bytes n =
    length-changed (slot_changes bytes) (base bytes)
    ∙ stretch_long BASE_AT base_length bytes (omega arith)

-- ---- how many bytes of a state a slot has ----

-- This number of bytes of a state has those up to the piece's length, and is no more than a state has.
abbrev IsLength : ℕ → Type 0
IsLength n = (first_length ≤ n) × (n ≤ state_length)

abbrev is_length : ℕ → Bool
is_length n = nat_le first_length n && nat_le n state_length

length_is : (n : ℕ) → is_length n ≡ true → IsLength n
length_is n h =
    let p = and_parts (nat_le first_length n) (nat_le n state_length) h in
    (leb-true first_length n p.0, leb-true n state_length p.1)

in_list : (l : List ℕ) (i : ℕ) → list_all is_length l ≡ true → IsLength (slice_index_or l i first_length)
in_list [] i h = (lit≤ tt, lit≤ tt)
in_list (n ∷ ns) zero h = length_is n (and_parts (is_length n) (list_all is_length ns) h).0
in_list (n ∷ ns) (suc i) h = in_list ns i (and_parts (is_length n) (list_all is_length ns) h).1

-- That of any version.
pub form_bounds : (version : ℕ) → (first_length ≤ form_length version) × (form_length version ≤ state_length)
form_bounds version = in_list FORM_LENGTHS (version - 1) refl

-- A length that is found in the list.
pub form_few : (i n : ℕ) → n ≡ slice_index_or FORM_LENGTHS i n → i < length FORM_LENGTHS → n ≤ state_length
form_few i n is low =
    let same : n ≡ slice_index_or FORM_LENGTHS i first_length = get_or_read_under FORM_LENGTHS i (length FORM_LENGTHS) n first_length is low refl in
    subst (λ (k : ℕ). k ≤ state_length) (sym same) (in_list FORM_LENGTHS i refl).1

-- The first n bytes of a state, and zeros.
brought_shown : (n : ℕ) (state : Bytes) → n ≤ state_length → length state ≡ base_length →
    take state_length (take n state ++ zeros (base_length - n)) ≡ take n state ++ zeros (state_length - n)
unfolding zeros
brought_shown n state few long =
    let l : length (take n state) ≡ n = length-take-le n state (omega arith) in
    let e : state_length ≡ length (take n state) + (state_length - n) = omega arith in
    let left : Bytes = replicate (base_length - n) 0 in
    ap (λ k. take k (take n state ++ left)) e
    ∙ (take-append-add (take n state) left (state_length - n)
    ∙ ap (λ z. take n state ++ z) (take-replicate (state_length - n) (base_length - n) 0 (omega arith)))

-- These are what is put together of them.
pub brought_is : (n k : ℕ) (front state : Bytes) → k ≡ n → front ≡ take k state →
    front ++ drop k (replicate base_length 0) ≡ take n state ++ zeros (base_length - n)
unfolding zeros
brought_is n k front state e f =
    ap (λ l. l ++ drop k (replicate base_length 0)) f
    ∙ (ap (λ l. take k state ++ l) (drop-replicate k base_length 0) ∙ ap (λ m. take m state ++ replicate (base_length - m) 0) e)

-- They give the piece's length, whatever number of zeros stands after them.
pub form_names : (n count : ℕ) (state : Bytes) → first_length ≤ n → n ≤ state_length → length state ≡ base_length →
    piece_length (take n state ++ zeros count) ≡ piece_length state
form_names n count state many few long =
    let l : length (take n state) ≡ n = length-take-le n state (omega arith) in
    let a : get_or (take n state ++ zeros count) PIECE_LENGTH_AT 0 ≡ get_or state PIECE_LENGTH_AT 0 =
    get_or_append_left (take n state) (zeros count) 0 PIECE_LENGTH_AT (omega arith)
    ∙ get_or-take n state PIECE_LENGTH_AT 0 (omega arith) in
    let b : get_or (take n state ++ zeros count) (PIECE_LENGTH_AT + 1) 0 ≡ get_or state (PIECE_LENGTH_AT + 1) 0 =
    get_or_append_left (take n state) (zeros count) 0 (PIECE_LENGTH_AT + 1) (omega arith)
    ∙ get_or-take n state (PIECE_LENGTH_AT + 1) 0 (omega arith) in
    omega (arith, a, b)

-- A slot that was read, and the state that was taken out of it.
module _ (w : Slot) (kept : SlotState) (old shown now : Room) (n : length old.slot ≡ slot_length)
    (t : has_state old.slot ≡ true) (k : kept ≡ record { records = two_byte_number 0 old.slot; state = slot_state old.slot })
  where
    told : kept.state ≡ slot_state old.slot
    told = ap (λ x. x.state) k

    -- Of the version that is written.
    pub taken_shows : (digests : Digests) → is_current old.slot ≡ true →
        shown ≡ record old { state = kept.state; piece = stretch PIECE_AT (piece_length kept.state) old.slot } →
        now ≡ with_slot_kept w (Some kept) shown →
        slot_shows digests old.slot ≡ Shown digests (take state_length now.state) now.piece
    taken_shows digests e s f =
        let a : now.state ≡ slot_state old.slot = ap (λ r. r.state) f ∙ (state_stays w (Some kept) shown ∙ (ap (λ r. r.state) s ∙ told)) in
        let b : now.piece ≡ stretch PIECE_AT (piece_length (slot_state old.slot)) old.slot =
        ap (λ r. r.piece) f ∙ (piece_stays w (Some kept) shown
        ∙ (ap (λ r. r.piece) s ∙ ap (λ l. stretch PIECE_AT (piece_length l) old.slot) told)) in
        kept_shows digests old.slot (two_byte_number 0 old.slot) (slot_state old.slot) (state_has old.slot e t)
        ∙ (ap (λ l. Shown digests (take state_length l) (stretch PIECE_AT (piece_length (slot_state old.slot)) old.slot))
        (sym a) ∙ ap (Shown digests (take state_length now.state)) (sym b))

    pub taken_kept : is_current old.slot ≡ true →
        shown ≡ record old { state = kept.state; piece = stretch PIECE_AT (piece_length kept.state) old.slot } →
        now ≡ with_slot_kept w (Some kept) shown →
        now ≡ with_slot_kept w (kept_slot old.slot) (record old { state = now.state; piece = now.piece })
    taken_kept e s f =
        let a : now.state ≡ kept.state = ap (λ r. r.state) f ∙ (state_stays w (Some kept) shown ∙ ap (λ r. r.state) s) in
        let b : now.piece ≡ stretch PIECE_AT (piece_length kept.state) old.slot =
        ap (λ r. r.piece) f ∙ (piece_stays w (Some kept) shown ∙ ap (λ r. r.piece) s) in
        let q : Some kept ≡ kept_slot old.slot = ap Some k ∙ sym (kept_of_both old.slot e t) in
        let r : shown ≡ record old { state = now.state; piece = now.piece } =
        s ∙ (ap (λ l. record old { state = l; piece = stretch PIECE_AT (piece_length kept.state) old.slot }) (sym a)
        ∙ ap (λ l. record old { state = now.state; piece = l }) (sym b)) in
        f ∙ (ap (λ x. with_slot_kept w x shown) q ∙ ap (with_slot_kept w (kept_slot old.slot)) r)

    -- Of any version.
    pub brought_shows : (digests : Digests) (state : Bytes) →
        state ≡ take (form_length (slot_version old.slot)) kept.state ++ zeros (base_length - form_length (slot_version old.slot)) →
        shown ≡ record old { state = state; piece = stretch PIECE_AT (piece_length state) old.slot } →
        now ≡ with_slot_kept w None shown → slot_shows digests old.slot ≡ Shown digests (take state_length now.state) now.piece
    brought_shows digests state i s f =
        let m = form_length (slot_version old.slot) in
        let bounds = form_bounds (slot_version old.slot) in
        let long : length (slot_state old.slot) ≡ base_length = state_long old.slot n in
        let st : state ≡ take m (slot_state old.slot) ++ zeros (base_length - m) =
        i ∙ ap (λ l. take m l ++ zeros (base_length - m)) told in
        let a : now.state ≡ state = ap (λ r. r.state) f ∙ (state_stays w None shown ∙ ap (λ r. r.state) s) in
        let b : now.piece ≡ stretch PIECE_AT (piece_length state) old.slot =
        ap (λ r. r.piece) f ∙ (piece_stays w None shown ∙ ap (λ r. r.piece) s) in
        let c : take state_length now.state ≡ shown_state old.slot =
        ap (take state_length) (a ∙ st) ∙ brought_shown m (slot_state old.slot) bounds.1 long in
        let names = form_names m (base_length - m) (slot_state old.slot) bounds.0 bounds.1 long in
        let p : now.piece ≡ slot_piece old.slot = b ∙ ap (λ m. stretch PIECE_AT m old.slot) (ap piece_length st ∙ names) in
        sound_shows digests old.slot t
        ∙ (ap (λ l. Shown digests l (slot_piece old.slot)) (sym c) ∙ ap (Shown digests (take state_length now.state)) (sym p))

    -- Of an older one.
    pub brought_kept : (state : Bytes) → is_current old.slot ≡ false →
        shown ≡ record old { state = state; piece = stretch PIECE_AT (piece_length state) old.slot } →
        now ≡ with_slot_kept w None shown → now
        ≡ with_slot_kept w (kept_slot old.slot) (record old { state = now.state; piece = now.piece })
    brought_kept state e s f =
        let a : now.state ≡ state = ap (λ r. r.state) f ∙ (state_stays w None shown ∙ ap (λ r. r.state) s) in
        let b : now.piece ≡ stretch PIECE_AT (piece_length state) old.slot =
        ap (λ r. r.piece) f ∙ (piece_stays w None shown ∙ ap (λ r. r.piece) s) in
        let r : shown ≡ record old { state = now.state; piece = now.piece } =
        s ∙ (ap (λ l. record old { state = l; piece = stretch PIECE_AT (piece_length state) old.slot }) (sym a)
        ∙ ap (λ l. record old { state = now.state; piece = l }) (sym b)) in
        f ∙ (ap (λ x. with_slot_kept w x shown) (sym (kept_of_older old.slot e)) ∙ ap (with_slot_kept w (kept_slot old.slot)) r)

-- What is kept of a slot that was read.
pub kept_is_none : (bytes : Bytes) → has_state bytes ≡ false → None ≡ kept_slot bytes
kept_is_none bytes e = sym (kept_of_broken bytes e)

pub kept_is_some : (bytes : Bytes) (kept : SlotState) → is_current bytes ≡ true → has_state bytes ≡ true →
    kept ≡ record { records = two_byte_number 0 bytes; state = slot_state bytes } → Some kept ≡ kept_slot bytes
kept_is_some bytes kept e f k = ap Some k ∙ sym (kept_of_both bytes e f)

pub kept_is_older : (bytes : Bytes) → is_current bytes ≡ false → None ≡ kept_slot bytes
kept_is_older bytes e = sym (kept_of_older bytes e)
