-- What a slot holds, and what it holds once a commit has written it.
use Rattle.std.proofs.Common.{◌≡◌, ℕ, ◌+◌, ◌-◌, ◌*◌, ◌/◌, ◌%◌, ◌≤◌, ◌<◌, Bool, true, false, ◌++◌, length, take}
use Rattle.std.proofs.Common.{refl, sym, ap, subst, ◌∙◌, arith}
use Rattle.std.specs.Prelude.{◌==◌, Option, Some, None, if◌then◌else◌, is_none, nat_le, ◌&&◌}
use Rattle.std.proofs.lemmas.Bool.Decides.{nat_tests}
use Rattle.std.proofs.lemmas.List.{append-nil}
use Rattle.paw_stage.specs.Disk.{put_at}
use Rattle.paw_journal.specs.declared.refusal.SessionPart.TheVariants as part
use Rattle.paw_journal.specs.declared.drafting.SlotState.{SlotState}
use Rattle.paw_journal.specs.declared.drafting.CommitDraft.{CommitDraft}
use Rattle.paw_journal.specs.Session.{Digests, Damaged, Shown, stretch, two_byte_number, base, changes, with_changes}
use Rattle.paw_journal.specs.Session.{first_unsound, slot_changes, slot_state}
use Rattle.paw_journal.specs.Session.{has_state, differing, differences, slot_head, slot_rewritten, records_with}
use Rattle.paw_journal.specs.Session.{takes_changes, committed_slot}
use Rattle.paw_journal.specs.Session.{is_current, form_length, slot_version}
use Rattle.paw_journal.specs.Session.{shown_state, zeros, slot_piece, slot_shows, shown_unless, most_changes}
use Rattle.paw_journal.specs.Session.{piece_length, state_length}
use Rattle.paw_journal.specs.inner.Room.{kept_slot}
use Rattle.paw_journal.specs.inner.Written.{most_written}
use Rattle.paw_journal.specs.inner.Writes.{ChangesInto, Drafts}
use Rattle.paw_journal.specs.declared.layout.TheConstants.{BASE_AT, CHANGES_AT, PIECE_AT}
use Rattle.paw_base.specs.Bytes.{Bytes, Text}
use Rattle.paw_base.specs.declared.layout.TheConstants.{VERSION}
use Rattle.paw_base.specs.declared.limits.TheConstants.{PIECE_LIMIT}
use Rattle.paw_journal.specs.Session.{base_length, slot_length}
use Rattle.paw_journal.proofs.Puts.{stretch_long, put_long, stretch_past, stretch_before, stretch_written}
use Rattle.paw_journal.proofs.Puts.{stretch_behind}
use Rattle.paw_journal.proofs.Changing.{changes-append, changed-append, sound-append}

-- A slot of the version that is written has this state, after this number of change records.
pub record IsKept (bytes : Bytes) (records : ℕ) (state : Bytes) : Type 0 where
  pub current : is_current bytes ≡ true
  pub number : two_byte_number 0 bytes ≡ records
  pub few : records ≤ most_changes
  pub sound : first_unsound (changes (stretch CHANGES_AT (4 * records) bytes)) ≡ None
  pub told : with_changes (changes (stretch CHANGES_AT (4 * records) bytes)) (base bytes) ≡ state

holds_state : (bytes : Bytes) (n : ℕ) (unsound : Option ℕ) → n ≤ most_changes → unsound ≡ None →
    (nat_le n most_changes && is_none unsound) ≡ true
holds_state bytes n unsound low e = ap (λ o. nat_le n most_changes && is_none o) e ∙ grind (arith, nat_tests)

pub has_state_is : (bytes : Bytes) → two_byte_number 0 bytes ≤ most_changes →
    first_unsound (slot_changes bytes) ≡ None → has_state bytes ≡ true
has_state_is bytes low e = holds_state bytes (two_byte_number 0 bytes) (first_unsound (slot_changes bytes)) low e

pub kept_of_both : (bytes : Bytes) → is_current bytes ≡ true → has_state bytes ≡ true →
    kept_slot bytes ≡ Some (record { records = two_byte_number 0 bytes; state = slot_state bytes })
kept_of_both bytes e f = both (is_current bytes) (has_state bytes) (Some (record { records = two_byte_number 0 bytes; state = slot_state bytes })) e f
  where
    both : (a b : Bool) (x : Option SlotState) → a ≡ true → b ≡ true → (if a && b then x else None) ≡ x
    both a b x e f = ap (λ t. if t && b then x else None) e ∙ ap (λ t. if t then x else None) f

pub kept_of_older : (bytes : Bytes) → is_current bytes ≡ false → kept_slot bytes ≡ None
kept_of_older bytes e = ap (λ t. if t && has_state bytes then Some (record { records = two_byte_number 0 bytes; state = slot_state bytes }) else None) e

pub kept_of_broken : (bytes : Bytes) → has_state bytes ≡ false → kept_slot bytes ≡ None
kept_of_broken bytes e = neither (is_current bytes) (has_state bytes) (Some (record { records = two_byte_number 0 bytes; state = slot_state bytes })) e
  where
    neither : (a b : Bool) (x : Option SlotState) → b ≡ false → (if a && b then x else None) ≡ None
    neither true b x e = ap (λ t. if t then x else None) e
    neither false b x e = refl

pub kept_is : (bytes : Bytes) (records : ℕ) (state : Bytes) → IsKept bytes records state →
    kept_slot bytes ≡ Some (record { records = records; state = state })
kept_is bytes records state h =
    let r : stretch CHANGES_AT (4 * two_byte_number 0 bytes) bytes ≡ stretch CHANGES_AT (4 * records) bytes =
    ap (λ n. stretch CHANGES_AT (4 * n) bytes) h.number in
    let t : has_state bytes ≡ true = has_state_is bytes (omega (arith, h.number, h.few)) (ap (λ l. first_unsound (changes l)) r ∙ h.sound) in
    let s : slot_state bytes ≡ state = ap (λ l. with_changes (changes l) (base bytes)) r ∙ h.told in
    kept_of_both bytes h.current t
    ∙ (ap (λ n. Some (record { records = n; state = slot_state bytes })) h.number ∙ ap (λ l. Some (record { records = records; state = l })) s)

tests : (n : ℕ) (unsound : Option ℕ) → (nat_le n most_changes && is_none unsound) ≡ true →
    (n ≤ most_changes) × (unsound ≡ None)
tests n None e = (grind (arith, nat_tests), refl)
tests n (Some k) e = absurd (never (nat_le n most_changes) e)
  where
    never : (b : Bool) → (b && false) ≡ true → ⊥
    never true e = cc
    never false e = cc

pub state_has : (bytes : Bytes) → is_current bytes ≡ true → has_state bytes ≡ true → IsKept bytes (two_byte_number 0 bytes) (slot_state bytes)
state_has bytes f e =
    let t = tests (two_byte_number 0 bytes) (first_unsound (slot_changes bytes)) e in
    record { current = f; number = refl; few = t.0; sound = t.1; told = refl }

kept_some : (a b : Bool) (x : SlotState) (records : ℕ) (state : Bytes) →
    (if a && b then Some x else None) ≡ Some (record { records = records; state = state }) →
    (a ≡ true) × (b ≡ true) × (x.records ≡ records) × (x.state ≡ state)
kept_some true true x records state e = (refl, refl, cc, cc)
kept_some true false x records state e = absurd (cc e)
kept_some false b x records state e = absurd (cc e)

pub is_kept : (bytes : Bytes) (records : ℕ) (state : Bytes) →
    kept_slot bytes ≡ Some (record { records = records; state = state }) → IsKept bytes records state
is_kept bytes records state e =
    let k = kept_some (is_current bytes) (has_state bytes) (record { records = two_byte_number 0 bytes; state = slot_state bytes }) records state e in
    let h = state_has bytes k.0 k.1 in
    let r : stretch CHANGES_AT (4 * records) bytes ≡ stretch CHANGES_AT (4 * two_byte_number 0 bytes) bytes =
    ap (λ n. stretch CHANGES_AT (4 * n) bytes) (sym k.2) in
    record {
      current = k.0;
      number = k.2;
      few = omega (arith, k.2, h.few);
      sound = ap (λ l. first_unsound (changes l)) r ∙ h.sound;
      told = ap (λ l. with_changes (changes l) (base bytes)) r ∙ k.3;
    }

-- A slot that has a state shows it, in the form of its version.
pub sound_shows : (digests : Digests) (bytes : Bytes) → has_state bytes ≡ true →
    slot_shows digests bytes ≡ Shown digests (shown_state bytes) (slot_piece bytes)
unfolding slot_shows
sound_shows digests bytes e =
    let t = tests (two_byte_number 0 bytes) (first_unsound (slot_changes bytes)) e in
    ap (λ b. if b then shown_unless digests bytes (first_unsound (slot_changes bytes)) else Damaged part.Slot 0) (low (two_byte_number 0 bytes) t.0)
    ∙ ap (shown_unless digests bytes) t.1
  where
    low : (n : ℕ) → n ≤ most_changes → nat_le n most_changes ≡ true
    low n h = grind (arith, nat_tests)

-- Of the version that is written, it shows all bytes of its state.
current_shown : (bytes : Bytes) → is_current bytes ≡ true → shown_state bytes ≡ take state_length (slot_state bytes)
unfolding zeros
current_shown bytes e =
    ap (λ v. take (form_length v) (slot_state bytes) ++ zeros (state_length - form_length v)) (is_written (slot_version bytes) e)
    ∙ append-nil (take state_length (slot_state bytes))
  where
    is_written : (v : ℕ) → (v == VERSION) ≡ true → v ≡ VERSION
    is_written v e = grind (arith, nat_tests)

pub kept_shows : (digests : Digests) (bytes : Bytes) (records : ℕ) (state : Bytes) → IsKept bytes records state →
    slot_shows digests bytes ≡ Shown digests (take state_length state) (stretch PIECE_AT (piece_length state) bytes)
kept_shows digests bytes records state h =
    let r : stretch CHANGES_AT (4 * two_byte_number 0 bytes) bytes ≡ stretch CHANGES_AT (4 * records) bytes =
    ap (λ n. stretch CHANGES_AT (4 * n) bytes) h.number in
    let t : has_state bytes ≡ true = has_state_is bytes (omega (arith, h.number, h.few)) (ap (λ l. first_unsound (changes l)) r ∙ h.sound) in
    let s : slot_state bytes ≡ state = ap (λ l. with_changes (changes l) (base bytes)) r ∙ h.told in
    sound_shows digests bytes t
    ∙ (ap (λ l. Shown digests l (slot_piece bytes)) (current_shown bytes h.current)
    ∙ ap (λ l. Shown digests (take state_length l) (stretch PIECE_AT (piece_length l) bytes)) s)

-- ---- a slot that was written ----

head_number : (records : ℕ) (bytes : Bytes) → records < 65536 → two_byte_number 0 (put_at 0 (slot_head records) bytes) ≡ records
head_number records bytes low = whole records (records % 256) (records / 256) refl refl
  where
    whole : (n a b : ℕ) → a ≡ n % 256 → b ≡ n / 256 → a + 256 * b ≡ n
    whole n a b e f = omega arith

module _ (records at : ℕ) (bytes piece old : Bytes) (long : length old ≡ slot_length) (fits : at + length bytes ≤ slot_length)
    (short : length piece ≤ PIECE_LIMIT) (few : records ≤ most_changes) where
  one : length (put_at at bytes old) ≡ slot_length
  one = put_long at bytes old (omega arith) ∙ long

  two : length (put_at PIECE_AT piece (put_at at bytes old)) ≡ slot_length
  two = put_long PIECE_AT piece (put_at at bytes old) (omega (arith, one)) ∙ one

  now : Bytes
  now = put_at 0 (slot_head records) (put_at PIECE_AT piece (put_at at bytes old))

  pub written_number : two_byte_number 0 (put_at 0 (slot_head records) (put_at PIECE_AT piece (put_at at bytes old))) ≡ records
  written_number = head_number records (put_at PIECE_AT piece (put_at at bytes old)) (omega arith)

  -- The piece of a slot that was written.
  pub written_piece : stretch PIECE_AT (length piece) (put_at 0 (slot_head records) (put_at PIECE_AT piece (put_at at bytes old))) ≡ piece
  written_piece =
      stretch_past PIECE_AT (length piece) 0 (slot_head records) (put_at PIECE_AT piece (put_at at bytes old)) (omega arith) (omega (arith, two))
      ∙ stretch_written PIECE_AT piece (put_at at bytes old) (omega (arith, one))

  pub written_base : stretch BASE_AT base_length (put_at 0 (slot_head records) (put_at PIECE_AT piece (put_at at bytes old)))
      ≡ stretch BASE_AT base_length (put_at at bytes old)
  written_base =
      stretch_past BASE_AT base_length 0 (slot_head records) (put_at PIECE_AT piece (put_at at bytes old)) (omega arith) (omega (arith, two))
      ∙ stretch_before BASE_AT base_length PIECE_AT piece (put_at at bytes old) (omega arith) (omega (arith, one))

  pub written_records : (n : ℕ) →
      stretch CHANGES_AT n (put_at 0 (slot_head records) (put_at PIECE_AT piece (put_at at bytes old))) ≡ stretch CHANGES_AT n (put_at at bytes old)
  written_records n =
      stretch_past CHANGES_AT n 0 (slot_head records) (put_at PIECE_AT piece (put_at at bytes old)) (omega arith) (omega (arith, two))
      ∙ stretch_past CHANGES_AT n PIECE_AT piece (put_at at bytes old) (omega arith) (omega (arith, one))

-- The base whole.
whole_gives : (state piece old : Bytes) → length state ≡ base_length → length old ≡ slot_length →
    length piece ≤ PIECE_LIMIT →
    IsKept (put_at 0 (slot_head 0) (put_at PIECE_AT piece (put_at BASE_AT state old))) 0 state
whole_gives state piece old n long short = record {
  current = refl;
  number = written_number 0 BASE_AT state piece old long (omega arith) short (omega arith);
  few = omega arith;
  sound = refl;
  told = written_base 0 BASE_AT state piece old long (omega arith) short (omega arith)
      ∙ (ap (λ k. stretch BASE_AT k (put_at BASE_AT state old)) (sym n) ∙ stretch_written BASE_AT state old (omega arith));
}

-- Change records are added after those that are there.
behind_gives : (n c : ℕ) (was state records piece old : Bytes) → IsKept old n was → ChangesInto was state records →
    length records ≡ 4 * c → n + c ≤ most_changes → length old ≡ slot_length → length piece ≤ PIECE_LIMIT →
    IsKept (put_at 0 (slot_head (n + c)) (put_at PIECE_AT piece (put_at (CHANGES_AT + 4 * n) records old))) (n + c) state
behind_gives n c was state records piece old h t l few long short =
    let at = CHANGES_AT + 4 * n in
    let fits : at + length records ≤ slot_length = omega (arith, l) in
    let m : 4 * (n + c) ≡ 4 * n + length records = omega (arith, l) in
    let r : stretch CHANGES_AT (4 * (n + c)) (put_at 0 (slot_head (n + c)) (put_at PIECE_AT piece (put_at at records old)))
    ≡ stretch CHANGES_AT (4 * n) old ++ records =
    written_records (n + c) at records piece old long fits short few (4 * (n + c))
    ∙ (ap (λ k. stretch CHANGES_AT k (put_at at records old)) m
    ∙ stretch_behind CHANGES_AT (4 * n) at records old refl (omega (arith, long))) in
    let q : length (stretch CHANGES_AT (4 * n) old) ≡ 4 * n =
    stretch_long CHANGES_AT (4 * n) old (omega (arith, h.few, long)) in
    let all : changes (stretch CHANGES_AT (4 * (n + c)) (put_at 0 (slot_head (n + c)) (put_at PIECE_AT piece (put_at at records old))))
    ≡ changes (stretch CHANGES_AT (4 * n) old) ++ changes records =
    ap changes r ∙ changes-append n (stretch CHANGES_AT (4 * n) old) records q in
    let b : base (put_at 0 (slot_head (n + c)) (put_at PIECE_AT piece (put_at at records old))) ≡ base old =
    written_base (n + c) at records piece old long fits short few
    ∙ stretch_before BASE_AT base_length at records old (omega arith) (omega (arith, long)) in
    record {
      current = refl;
      number = written_number (n + c) at records piece old long fits short few;
      few = few;
      sound = ap first_unsound all
          ∙ sound-append (changes (stretch CHANGES_AT (4 * n) old)) (changes records) h.sound t.sound;
      told =
          ap (λ cs. with_changes cs (base (put_at 0 (slot_head (n + c)) (put_at PIECE_AT piece (put_at at records old))))) all
          ∙ (ap (with_changes (changes (stretch CHANGES_AT (4 * n) old) ++ changes records)) b
          ∙ (changed-append (changes (stretch CHANGES_AT (4 * n) old)) (changes records) (base old)
          ∙ (ap (with_changes (changes records)) h.told ∙ t.made)));
    }

-- ---- what a commit makes of a slot ----

takes_none : (a b c : Bool) (x : SlotState) → (if a && b then Some x else None) ≡ None → (a && b && c) ≡ false
takes_none true true c x e = absurd (cc e)
takes_none true false c x e = refl
takes_none false b c x e = refl

-- It adds change records where there is room for them.
takes_as : (n : ℕ) (was state old : Bytes) → kept_slot old ≡ Some (record { records = n; state = was }) →
    takes_changes state old ≡ nat_le (n + differing was state) most_changes
takes_as n was state old is =
    let k = kept_some (is_current old) (has_state old) (record { records = two_byte_number 0 old; state = slot_state old }) n was is in
    ap (λ b. b && has_state old && nat_le (records_with state old) most_changes) k.0
    ∙ (ap (λ b. true && b && nat_le (records_with state old) most_changes) k.1
    ∙ (ap (λ m. nat_le (m + differing (slot_state old) state) most_changes) k.2
    ∙ ap (λ l. nat_le (n + differing l state) most_changes) k.3))

exact_base : (state bytes piece old : Bytes) → bytes ≡ state → takes_changes state old ≡ false →
    slot_rewritten BASE_AT bytes 0 piece old ≡ committed_slot state piece old
unfolding committed_slot
exact_base state bytes piece old e t =
    ap (λ b. slot_rewritten BASE_AT b 0 piece old) e
    ∙ sym (ap (λ b. if b then slot_rewritten (CHANGES_AT + 4 * two_byte_number 0 old) (differences (slot_state old) state) (records_with state old) piece old
    else slot_rewritten BASE_AT state 0 piece old) t)

exact_behind : (n c : ℕ) (was state bytes piece old : Bytes) → bytes ≡ differences was state → differing was state ≡ c →
    n + c ≤ most_changes → kept_slot old ≡ Some (record { records = n; state = was }) →
    slot_rewritten (CHANGES_AT + 4 * n) bytes (n + c) piece old ≡ committed_slot state piece old
unfolding committed_slot
exact_behind n c was state bytes piece old e d few is =
    let k = kept_some (is_current old) (has_state old) (record { records = two_byte_number 0 old; state = slot_state old }) n was is in
    let t = takes_as n was state old is ∙ low n c (differing was state) d few in
    sym (ap (λ b. if b then slot_rewritten (CHANGES_AT + 4 * two_byte_number 0 old) (differences (slot_state old) state) (records_with state old) piece old
    else slot_rewritten BASE_AT state 0 piece old) t
    ∙ (ap (λ m. slot_rewritten (CHANGES_AT + 4 * m) (differences (slot_state old) state) (m + differing (slot_state old) state) piece old) k.2
    ∙ (ap (λ l. slot_rewritten (CHANGES_AT + 4 * n) (differences l state) (n + differing l state) piece old) k.3
    ∙ (ap (λ m. slot_rewritten (CHANGES_AT + 4 * n) (differences was state) (n + m) piece old) d
    ∙ ap (λ b. slot_rewritten (CHANGES_AT + 4 * n) b (n + c) piece old) (sym e)))))
  where
    low : (n c d : ℕ) → d ≡ c → n + c ≤ most_changes → nat_le (n + d) most_changes ≡ true
    low n c d e few = grind (arith, nat_tests)

-- What a commit writes.
pub drafts_whole : (kept : Option SlotState) (state bytes : Bytes) → bytes ≡ state → length state ≡ base_length →
    ((piece : Text) → 4224 + length piece ≤ most_written kept state piece) →
    ((old : Bytes) → kept_slot old ≡ kept → takes_changes state old ≡ false) →
    Drafts kept state bytes (record { at = BASE_AT; records = 0 })
drafts_whole kept state bytes e n most takes = record {
  inside = omega (arith, ap length e);
  exact = λ old piece is. exact_base state bytes piece old e (takes old is);
  gives = λ old piece long is short. kept_is (put_at 0 (slot_head 0) (put_at PIECE_AT piece (put_at BASE_AT bytes old))) 0 state
      (let h = whole_gives state piece old n long short in rw e h);
  few = λ piece. omega (arith, most piece, ap length e);
}

pub drafts_behind : (n c : ℕ) (was state bytes : Bytes) → ChangesInto was state bytes → length bytes ≡ 4 * c →
    n + c ≤ most_changes →
    Drafts (Some (record { records = n; state = was })) state bytes (record { at = CHANGES_AT + 4 * n; records = n + c })
drafts_behind n c was state bytes t l few = record {
  inside = omega (arith, l);
  exact = λ old piece is. exact_behind n c was state bytes piece old t.exact (omega (arith, l, t.many)) few is;
  gives = λ old piece long is short. kept_is
      (put_at 0 (slot_head (n + c)) (put_at PIECE_AT piece (put_at (CHANGES_AT + 4 * n) bytes old))) (n + c) state
      (behind_gives n c was state bytes piece old (is_kept old n was is) t l few long short);
  few = λ piece. let d : differing was state ≡ c = omega (arith, l, t.many) in most n c (differing was state) (length bytes) (length piece) d l few;
}
  where
    most : (n c d b p : ℕ) → d ≡ c → b ≡ 4 * c → n + c ≤ most_changes →
        b + p + 4 ≤ (if nat_le (n + d) most_changes then 128 + p + 4 * d else 4224 + p)
    most n c d b p e l few = let h : nat_le (n + d) most_changes ≡ true = grind (arith, nat_tests) in rw h (omega arith)

-- Where there is no state, or there are too many changes, the base is written whole.
pub drafts_base : (state bytes : Bytes) → bytes ≡ state → length state ≡ base_length →
    Drafts None state bytes (record { at = BASE_AT; records = 0 })
drafts_base state bytes e n = drafts_whole None state bytes e n (λ piece. omega arith)
    (λ old is. takes_none (is_current old) (has_state old) (nat_le (records_with state old) most_changes)
    (record { records = two_byte_number 0 old; state = slot_state old }) is)

pub drafts_whole_as : (state bytes : Bytes) (kept : Option SlotState) (draft : CommitDraft) → bytes ≡ state →
    length state ≡ base_length → kept ≡ None → draft ≡ record { at = BASE_AT; records = 0 } → Drafts kept state bytes draft
drafts_whole_as state bytes kept draft e n is at = rw (is, at) (drafts_base state bytes e n)

pub drafts_many : (kept : SlotState) (s m : ℕ) (state records bytes : Bytes) (draft : CommitDraft) →
    ChangesInto kept.state state records → s ≡ kept.records → m ≡ length records → base_length < s + m / 4 → bytes ≡ state →
    length state ≡ base_length → draft ≡ record { at = BASE_AT; records = 0 } → Drafts (Some kept) state bytes draft
drafts_many kept s m state records bytes draft t e f many b l at =
    let d : differing kept.state state ≡ m / 4 = omega (arith, t.many) in
    rw at (drafts_whole (Some kept) state bytes b l (λ piece. most kept.records s (m / 4) (differing kept.state state) (length piece) d e many)
    (λ old is. takes_as kept.records kept.state state old is ∙ above kept.records s (m / 4) (differing kept.state state) d e many))
  where
    above : (n s c d : ℕ) → d ≡ c → s ≡ n → base_length < s + c → nat_le (n + d) most_changes ≡ false
    above n s c d e f many = grind (arith, nat_tests)

    most : (n s c d p : ℕ) → d ≡ c → s ≡ n → most_changes < s + c →
        4224 + p ≤ (if nat_le (n + d) most_changes then 128 + p + 4 * d else 4224 + p)
    most n s c d p e f many = let h : nat_le (n + d) most_changes ≡ false = grind (arith, nat_tests) in rw h (omega arith)

pub drafts_few : (kept : SlotState) (s m : ℕ) (state bytes : Bytes) → ChangesInto kept.state state bytes → s ≡ kept.records →
    m ≡ length bytes → s + m / 4 ≤ base_length →
    Drafts (Some kept) state bytes (record { at = CHANGES_AT + 4 * s; records = s + m / 4 })
drafts_few kept s m state bytes t e f few =
    subst (λ n. Drafts (Some kept) state bytes (record { at = CHANGES_AT + 4 * n; records = n + m / 4 })) (sym e)
    (drafts_behind kept.records (m / 4) kept.state state bytes t (omega (arith, t.many)) (omega arith))
