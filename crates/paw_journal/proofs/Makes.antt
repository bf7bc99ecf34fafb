-- A session that is being made, and what a crash leaves of it.
use Rattle.std.proofs.Common.{◌≡◌, ℕ, suc, ◌+◌, ◌-◌, ◌≤◌, ◌<◌, max, false, List, [], ◌∷◌, ◌++◌, length, take, drop}
use Rattle.std.proofs.Common.{refl, sym, ap, subst, ◌∙◌, arith, get_or, inl}
use Rattle.std.proofs.Common.{inr, ◌⊎◌, append_assoc}
use Rattle.std.specs.Prelude.{replicate, Result, Ok}
use Rattle.std.proofs.lemmas.Bool.{cases_eq}
use Rattle.std.proofs.lemmas.Bool.Decides.{nat_tests}
use Rattle.std.proofs.lemmas.List.{length-append, length-drop, length-replicate, take_all, take_at, drop_at, ext_get_or}
use Rattle.paw_stage.specs.declared.Stage.{Ghosts}
use Rattle.paw_stage.specs.declared.StageCall.{StageCall}
use Rattle.paw_stage.specs.Disk.{Range, Disk, is_dirty, IsInWrite, put_at, stable, IsStable, disk_written}
use Rattle.paw_stage.specs.Stage.{Standing, with_disk, with_written}
use Rattle.paw_stage.specs.Stage.{InWrite, InSync}
use Rattle.paw_base.specs.Bytes.{Bytes}
use Rattle.paw_base.specs.declared.layout.TheConstants.{VERSION}
use Rattle.paw_journal.specs.declared.layout.TheConstants.{HEADER_LENGTH, GAME_AT, ROUTINES_AT, DIGEST_LENGTH}
use Rattle.paw_journal.specs.Session.{Digests, IsUnmade, recover, session_mark, zeros, made_mark, session_length}
use Rattle.paw_journal.specs.Session.{made_header}
use Rattle.paw_journal.specs.inner.Session.{digests_of}
use Rattle.paw_journal.specs.inner.Store.{ChangesStoreOnly, InStore, CrashLeavesSuch, LeavesUnmade, LeavesMarked}
use Rattle.paw_journal.specs.inner.Store.{HoldsPut, InWriteAndSync}
use Rattle.paw_journal.specs.inner.Writes.{IsBlank, IsWithin, LaysBlank}
use Rattle.paw_journal.specs.inner.Calls.{WritesStore}
use Rattle.paw_journal.proofs.Calls.{writes_then, writes_weaker}
use Rattle.paw_journal.proofs.Parts.{put_below, put_end}
use Rattle.paw_journal.proofs.Recovers.{unmade}
use Rattle.paw_journal.proofs.Disks.{within_long, within_same}
use Rattle.paw_journal.proofs.Moved.{beside_none, beside_wrote, in_write, in_sync, in_later, moved_none}
use Rattle.paw_journal.proofs.Moved.{moved_wrote, in_moved_write, in_moved_sync}

-- A store that can't be longer than one byte holds no session.
short_leaves : (d : Disk) → d.longest ≤ 1 → CrashLeavesSuch IsUnmade d
short_leaves d h image l = unmade image (inl (λ q. omega (arith, l.no_longer)))

short_write : (old d : Disk) → old.longest ≤ 1 → IsInWrite 0 1 old d → d.longest ≤ 1
short_write old d h (inl e) = subst (λ x. x.longest ≤ 1) (sym e) h
short_write old d h (inr q) = let e : d.longest ≡ max old.longest 1 = ap (λ x. x.longest) q.2 in omega arith

pub empty_is_short : (d : Disk) → IsStable d → length d.bytes ≡ 0 → d.longest ≤ 1
empty_is_short d h n = omega (arith, h.longest)

in_beginning : (s m : Standing) → s.disk.longest ≤ 1 → InWrite s 0 1 m → InStore s (CrashLeavesSuch IsUnmade) m
in_beginning s m h w = in_write s 0 1 (CrashLeavesSuch IsUnmade) m (λ d i. short_leaves d (short_write s.disk d h i)) w

in_begun : (x n : ℕ) (s t : Standing) (m : Standing) → s.disk.longest ≤ 1 →
    t ≡ with_disk s (disk_written 0 1 (x ∷ []) s.disk) n → InSync t m → InStore s (CrashLeavesSuch IsUnmade) m
in_begun x n s t m h e w =
    let l : t.disk.longest ≤ 1 = let q : t.disk.longest ≡ max s.disk.longest 1 = ap (λ x. x.disk.longest) e in omega arith in
    in_later s t (CrashLeavesSuch IsUnmade) (CrashLeavesSuch IsUnmade) m (beside_wrote s t _ n e) (λ d p. p) (in_sync t IsUnmade m (short_leaves t.disk l) w)

-- Byte 0 is written to a store that can't be longer, and made to last.
pub in_first_byte : (x : ℕ) (s m : Standing) → s.disk.longest ≤ 1 → InWriteAndSync 0 (x ∷ []) s m → LeavesUnmade s m
in_first_byte x s m h o = elim o [ inl w ↦ in_beginning s m h w | inr w ↦ in_begun x 1 s _ m h refl w ]

-- Where byte 0 is stable and 0, no crash leaves a session.
pub blank_leaves : (held : Bytes) (d : Disk) → IsBlank held d → CrashLeavesSuch IsUnmade d
blank_leaves held d h image l =
    let z : session_mark image ≡ 0 = l.clean 0 (omega (arith, h.long)) h.clean ∙ h.blank in
    unmade image (inr (λ q. omega arith))

pub blank_now : (held : Bytes) (d : Disk) → IsBlank held d → IsBlank d.bytes d
blank_now held d h = record { bytes = refl; long = h.long; blank = h.blank; clean = h.clean }

blank_touched : (at n : ℕ) (new : Bytes) (d : Disk) → IsBlank d.bytes d → 1 ≤ at → at ≤ length d.bytes →
    IsBlank (put_at at new d.bytes) (disk_written at n new d)
blank_touched at n new d h low high = record {
  bytes = refl;
  long = h.long;
  blank = put_below at new d.bytes 0 high (omega arith) ∙ h.blank;
  clean = not_first at n d.dirty low h.clean;
}
  where
    not_first : (at n : ℕ) (ranges : List Range) → 1 ≤ at → is_dirty ranges 0 ≡ false → is_dirty (record { from = at; to = at + n } ∷ ranges) 0 ≡ false
    not_first at n ranges low c = grind (arith, nat_tests)

pub blank_write : (at n : ℕ) (d m : Disk) → IsBlank d.bytes d → 1 ≤ at → at ≤ length d.bytes → IsInWrite at n d m → IsBlank m.bytes m
blank_write at n d m h low high (inl e) = subst (λ x. IsBlank x.bytes x) (sym e) h
blank_write at n d m h low high (inr q) = subst (λ x. IsBlank x.bytes x) (sym q.2) (blank_touched at n q.0 d h low high)

pub in_blank_write : (at n : ℕ) (s t : Standing) (m : Standing) → ChangesStoreOnly s t → IsBlank t.disk.bytes t.disk → 1 ≤ at →
    at ≤ length t.disk.bytes → InWrite t at n m → InStore s (CrashLeavesSuch IsUnmade) m
in_blank_write at n s t m b h low high w =
    in_later s t (CrashLeavesSuch IsUnmade) (CrashLeavesSuch IsUnmade) m b (λ d p. p)
    (in_write t at n (CrashLeavesSuch IsUnmade) m (λ d i. blank_leaves d.bytes d (blank_write at n t.disk d h low high i)) w)

pub in_blank_sync : (s t : Standing) (m : Standing) → ChangesStoreOnly s t → IsBlank t.disk.bytes t.disk → InSync t m → InStore s (CrashLeavesSuch IsUnmade) m
in_blank_sync s t m b h w =
    in_later s t (CrashLeavesSuch IsUnmade) (CrashLeavesSuch IsUnmade) m b (λ d p. p) (in_sync t IsUnmade m (blank_leaves t.disk.bytes t.disk h) w)

pub blank_wrote : (at : ℕ) (new : Bytes) (s t : Standing) (n c : ℕ) → IsBlank s.disk.bytes s.disk → 1 ≤ at →
    at ≤ length s.disk.bytes → t ≡ with_disk s (disk_written at n new s.disk) c → IsBlank (put_at at new s.disk.bytes) t.disk
blank_wrote at new s t n c h low high e =
    subst (λ d. IsBlank (put_at at new s.disk.bytes) d) (sym (ap (λ x. x.disk) e)) (blank_touched at n new s.disk h low high)

pub length_zeros : (n : ℕ) → length (zeros n) ≡ n
unfolding zeros
length_zeros n = length-replicate n 0

-- Both digests have 32 bytes.
abbrev pub AreLong : Digests → Type 0
AreLong digests = (length digests.game ≡ DIGEST_LENGTH) × (length digests.routines ≡ DIGEST_LENGTH)

pub length_header : (first : ℕ) (digests : Digests) → AreLong digests → length (made_header first digests) ≡ HEADER_LENGTH
length_header first digests n = header (first ∷ 0 ∷ VERSION ∷ zeros 29) digests.game digests.routines (zeros 32)
    (omega (arith, length_zeros 29)) n.0 n.1 (length_zeros 32)
  where
    header : (head game routines behind : Bytes) → length head ≡ GAME_AT → length game ≡ DIGEST_LENGTH →
        length routines ≡ DIGEST_LENGTH → length behind ≡ 32 → length (head ++ game ++ routines ++ behind) ≡ HEADER_LENGTH
    header head game routines behind h n m b = omega (
      arith,
      length-append (head ++ game ++ routines) behind,
      length-append (head ++ game) routines,
      length-append head game,
    )

-- Bytes written over as many others.
put_over : (at : ℕ) (a b c new : Bytes) → length a ≡ at → length new ≡ length b → put_at at new (a ++ b ++ c) ≡ a ++ new ++ c
put_over at a b c new n m =
    ap (λ x. x ++ new ++ drop (at + length new) (a ++ b ++ c)) (ap (take at) (append_assoc a b c) ∙ take_at a (b ++ c) at n)
    ∙ ap (λ x. a ++ new ++ x) (drop_at (a ++ b) c (at + length new) (omega (arith, length-append a b)))

-- The digests written into a header that has none.
pub header_is : (game routines : Bytes) → length game ≡ DIGEST_LENGTH → length routines ≡ DIGEST_LENGTH →
    put_at ROUTINES_AT routines (put_at GAME_AT game (0 ∷ 0 ∷ VERSION ∷ replicate 125 0)) ≡ made_header 0 (digests_of game routines)
unfolding zeros
header_is game routines n m =
    over (0 ∷ 0 ∷ VERSION ∷ replicate 29 0) (replicate DIGEST_LENGTH 0) (replicate DIGEST_LENGTH 0) (replicate 32 0) refl refl n m
  where
    over : (head one two behind : Bytes) → length head ≡ GAME_AT → length one ≡ DIGEST_LENGTH → length game ≡ DIGEST_LENGTH →
        length routines ≡ length two →
        put_at ROUTINES_AT routines (put_at GAME_AT game (head ++ one ++ two ++ behind)) ≡ head ++ game ++ routines ++ behind
    over head one two behind h o n m =
        ap (λ x. put_at ROUTINES_AT routines (put_at GAME_AT game x)) (append_assoc (head ++ one) two behind)
        ∙ (ap (put_at ROUTINES_AT routines) (put_over GAME_AT head one (two ++ behind) game h (n ∙ sym o))
        ∙ (ap (put_at ROUTINES_AT routines) (sym (append_assoc (head ++ game) two behind))
        ∙ put_over ROUTINES_AT (head ++ game) two behind routines (omega (arith, length-append head game)) m))

-- The header without its first byte is written after that byte.
pub header_written : (digests : Digests) (header old : Bytes) → AreLong digests → header ≡ made_header 0 digests →
    old ≡ 0 ∷ [] → put_at 1 (take (HEADER_LENGTH - 1) (drop 1 header)) old ≡ made_header 0 digests
header_written digests header old n e o =
    let l : length (drop 1 (made_header 0 digests)) ≤ HEADER_LENGTH - 1 =
    omega (arith, length-drop 1 (made_header 0 digests), length_header 0 digests n) in
    ap (λ x. put_at 1 (take (HEADER_LENGTH - 1) (drop 1 header)) x) o
    ∙ (put_end 1 (take (HEADER_LENGTH - 1) (drop 1 header)) (0 ∷ []) refl
    ∙ (ap (λ h. 0 ∷ take (HEADER_LENGTH - 1) (drop 1 h)) e
    ∙ ap (λ x. 0 ∷ x) (take_all (HEADER_LENGTH - 1) (drop 1 (made_header 0 digests)) l)))

-- While the mark is written a crash leaves no session, or the one that is marked.
pub marking : (old : Bytes) (d : Disk) → length old ≡ session_length → IsWithin 0 1 old d →
    CrashLeavesSuch (λ r. IsUnmade r ⊎ (r ≡ recover (made_mark ∷ drop 1 old))) d
marking old d long h image l =
    elim (cases_eq (session_mark image) made_mark) [
      | inl e ↦ inr
          (ap recover (marked image old (within_long 0 1 old image d h l) long
          (λ i b. within_same 0 1 old image d h l (suc i) b (inr (omega arith))) e))
      | inr ne ↦ inl (unmade image (inr ne))
    ]
  where
    marked : (image old : Bytes) → length image ≡ length old → length old ≡ session_length →
        ((i : ℕ) → suc i < length old → get_or image (suc i) 0 ≡ get_or old (suc i) 0) → get_or image 0 0 ≡ made_mark →
        image ≡ made_mark ∷ drop 1 old
    marked image [] n long same e = absurd (omega arith)
    marked [] (y ∷ old) n long same e = absurd (omega arith)
    marked (x ∷ image) (y ∷ old) n long same e = let f : image ≡ old =
        ext_get_or 0 image old (omega arith) (λ i b. same i (omega arith)) in
        ap (λ a. a ∷ image) e ∙ ap (λ l. made_mark ∷ l) f

in_marking : (s m : Standing) → length s.disk.bytes ≡ session_length → IsStable s.disk →
    InWrite s 0 1 m → InStore s (CrashLeavesSuch (λ r. IsUnmade r ⊎ (r ≡ recover (made_mark ∷ drop 1 s.disk.bytes)))) m
in_marking s m long h w = in_moved_write 0 1 0 1 s s
    (CrashLeavesSuch (λ r. IsUnmade r ⊎ (r ≡ recover (made_mark ∷ drop 1 s.disk.bytes)))) m (moved_none 0 1 s h) (omega arith)
    (omega arith) (omega arith) (λ d i. marking s.disk.bytes d long i) w

in_marked : (x c : ℕ) (s t : Standing) (m : Standing) → length s.disk.bytes ≡ session_length → IsStable s.disk →
    t ≡ with_disk s (disk_written 0 1 (x ∷ []) s.disk) c → InSync t m →
    InStore s (CrashLeavesSuch (λ r. IsUnmade r ⊎ (r ≡ recover (made_mark ∷ drop 1 s.disk.bytes)))) m
in_marked x c s t m long h e w =
    in_moved_sync 0 1 s t (λ r. IsUnmade r ⊎ (r ≡ recover (made_mark ∷ drop 1 s.disk.bytes))) m
    (moved_wrote 0 1 0 1 c (x ∷ []) s s t (moved_none 0 1 s h) (omega arith) (omega arith) (omega arith) (omega arith) e)
    (λ d i. marking s.disk.bytes d long i) w

-- The mark of a session that is made is written, and made to last.
pub in_mark : (s m : Standing) → length s.disk.bytes ≡ session_length → IsStable s.disk →
    InWriteAndSync 0 (made_mark ∷ []) s m → LeavesMarked s m
in_mark s m long h o = elim o [ inl w ↦ in_marking s m long h w | inr w ↦ in_marked made_mark 1 s _ m long h refl w ]

-- ---- calls ----

-- A call of which no crash leaves a session was done, and then another.
pub unmade_then : {S A B : Type 0} {g : Ghosts S} {x : A} {result : Result B StageCall} {P Q R : Standing → Standing → Type 0}
    {old mid new : S} → WritesStore g (Ok x) P LeavesUnmade old mid → WritesStore g result Q LeavesUnmade mid new →
    (g.Tells old → P (g.standing old) (g.standing mid) → Q (g.standing mid) (g.standing new) → R (g.standing old) (g.standing new)) →
    WritesStore g result R LeavesUnmade old new
unmade_then h k post =
    writes_then h k post (λ tells m i. i)
    (λ tells p beside m. in_later _ _ (CrashLeavesSuch IsUnmade) (CrashLeavesSuch IsUnmade) m beside (λ d q. q))

-- A store that was empty, once its first byte was written.
pub begun_blank : (s u : Standing) → length s.disk.bytes ≡ 0 → HoldsPut 0 (0 ∷ []) s u → LaysBlank (0 ∷ []) s u
begun_blank s u n holds = subst (λ d. IsBlank (0 ∷ []) d) (sym holds) (begun s.disk.bytes n)
  where
    begun : (bytes : Bytes) → length bytes ≡ 0 → IsBlank (0 ∷ []) (stable (put_at 0 (0 ∷ []) bytes))
    begun [] n = record { bytes = refl; long = omega arith; blank = refl; clean = refl }
    begun (x ∷ bytes) n = absurd (omega arith)

-- Bytes are written at the end of a store of which no crash leaves a session.
pub appends : {S A : Type 0} {g : Ghosts S} {result : Result A StageCall} (at : ℕ) (bytes : Bytes) {old new : S} →
    WritesStore g result (λ s t. t ≡ with_written at bytes s) (λ s. InWrite s at (length bytes)) old new → 1 ≤ at →
    (g.Tells old → IsBlank (g.standing old).disk.bytes (g.standing old).disk) →
    (g.Tells old → at ≡ length (g.standing old).disk.bytes) →
    WritesStore g result (λ s. LaysBlank (s.disk.bytes ++ bytes) s) LeavesUnmade old new
appends {g = g} at bytes {old = old} {new = new} call low blank end =
    writes_weaker call
    (λ tells w. blank_end at bytes (g.standing old) (g.standing new) (length bytes) (length bytes) (blank tells) low (end tells) w)
    (λ tells m. in_blank_write at (length bytes) (g.standing old) (g.standing old) m (beside_none (g.standing old)) (blank tells) low
    (omega (arith, end tells)))
  where
    blank_end : (at : ℕ) (new : Bytes) (s t : Standing) (n c : ℕ) → IsBlank s.disk.bytes s.disk → 1 ≤ at →
        at ≡ length s.disk.bytes → t ≡ with_disk s (disk_written at n new s.disk) c → IsBlank (s.disk.bytes ++ new) t.disk
    blank_end at new s t n c h low e w =
        subst (λ l. IsBlank l t.disk) (put_end at new s.disk.bytes (sym e)) (blank_wrote at new s t n c h low (omega (arith, e)) w)

-- And again.
pub appends_twice : {S A B : Type 0} {g : Ghosts S} {x : A} {result : Result B StageCall} (a b : ℕ) (bytes : Bytes) {old mid new : S} →
    WritesStore g (Ok x) (λ s t. t ≡ with_written a bytes s) (λ s. InWrite s a (length bytes)) old mid →
    WritesStore g result (λ s t. t ≡ with_written b bytes s) (λ s. InWrite s b (length bytes)) mid new → 1 ≤ a →
    (g.Tells old → IsBlank (g.standing old).disk.bytes (g.standing old).disk) →
    (g.Tells old → a ≡ length (g.standing old).disk.bytes) → b ≡ a + length bytes →
    WritesStore g result (λ s. LaysBlank (s.disk.bytes ++ bytes ++ bytes) s) LeavesUnmade old new
appends_twice {g = g} a b bytes {old = old} {new = new} one two low blank end next =
    let first = appends a bytes one low blank end in
    unmade_then first
    (appends b bytes two (omega (arith, low, next)) (λ later. blank_now _ _ (first.post (first.serves.tells.1 later)))
    (λ later.
    let tells = first.serves.tells.1 later in
    omega (arith, next, end tells, ap length (first.post tells).bytes, length-append (g.standing old).disk.bytes bytes)))
    (λ tells p q. subst (λ l. IsBlank l (g.standing new).disk) (ap (λ l. l ++ bytes) p.bytes) q)
