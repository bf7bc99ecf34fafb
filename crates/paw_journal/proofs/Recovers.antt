-- What bytes stand for, by the parts that decide it.
use Rattle.std.proofs.Common.{◌≡◌, ◌≢◌, ℕ, ◌+◌, ◌*◌, ◌≤◌, ◌<◌, Bool, true, false, length, refl, ap, ◌∙◌, arith}
use Rattle.std.proofs.Common.{get_or, ◌⊎◌, inl, inr}
use Rattle.std.specs.Prelude.{if◌then◌else◌, ◌==◌, ◌&&◌}
use Rattle.std.proofs.lemmas.Bool.Decides.{nat_tests}
use Rattle.paw_base.specs.Bytes.{Bytes}
use Rattle.paw_journal.specs.declared.layout.TheConstants.{GAME_AT, ROUTINES_AT, DIGEST_LENGTH}
use Rattle.paw_journal.specs.declared.refusal.SessionPart.TheVariants as part
use Rattle.paw_journal.specs.Session.{Recovered, Unmade, Damaged, Shown, IsUnmade, recover, recover_by, slot_shows}
use Rattle.paw_journal.specs.Session.{slot, slot_in_use, session_mark, version}
use Rattle.paw_journal.specs.Session.{is_version}
use Rattle.paw_journal.specs.Session.{Digests, kept_digests, stretch, session_length, slot_length, header_length}
use Rattle.paw_journal.specs.Session.{made_mark}
use Rattle.paw_journal.specs.inner.Session.{digests_of}
use Rattle.paw_journal.specs.inner.Writes.{IsMade}
use Rattle.paw_journal.proofs.Parts.{stretch_same}

pub recover_is : (k : ℕ) (a : Bytes) → slot_in_use a ≡ k → recover a ≡ recover_by k a
unfolding recover
recover_is k a e = ap (λ j. recover_by j a) e

-- Digests are the same where both are.
pub both_digests : (g h r s : Bytes) → g ≡ h → r ≡ s → digests_of g r ≡ digests_of h s
both_digests g h r s e f = ap (λ x. digests_of x r) e ∙ ap (digests_of h) f

-- So bytes 32 to 95 alone say whose session it is.
pub same_digests : (a b : Bytes) → length a ≡ length b →
    ((i : ℕ) → GAME_AT ≤ i → i < ROUTINES_AT + DIGEST_LENGTH → get_or a i 0 ≡ get_or b i 0) → kept_digests a ≡ kept_digests b
same_digests a b n same = both_digests (stretch GAME_AT DIGEST_LENGTH a) (stretch GAME_AT DIGEST_LENGTH b)
    (stretch ROUTINES_AT DIGEST_LENGTH a) (stretch ROUTINES_AT DIGEST_LENGTH b)
    (stretch_same GAME_AT DIGEST_LENGTH a b n (λ i low high. same i low (omega arith)))
    (stretch_same ROUTINES_AT DIGEST_LENGTH a b n (λ i low high. same i (omega arith) high))

-- These parts alone decide what bytes stand for.
pub recover_by_parts : (k : ℕ) (a b : Bytes) → length a ≡ length b → session_mark a ≡ session_mark b → version a ≡ version b →
    kept_digests a ≡ kept_digests b → slot k a ≡ slot k b → recover_by k a ≡ recover_by k b
unfolding recover_by
recover_by_parts k a b n m v d s = cc

-- So they are the same where the header, but for the selector, and the slot are.
pub recover_by_same : (k : ℕ) (a b : Bytes) → length a ≡ length b →
    ((i : ℕ) → i < header_length → i ≢ 1 → get_or a i 0 ≡ get_or b i 0) →
    ((i : ℕ) → header_length + slot_length * k ≤ i → i < header_length + slot_length * k + slot_length →
    get_or a i 0 ≡ get_or b i 0) → recover_by k a ≡ recover_by k b
recover_by_same k a b n header slots =
    recover_by_parts k a b n (header 0 (omega arith) (λ e. omega arith)) (header 2 (omega arith) (λ e. omega arith))
    (same_digests a b n (λ i low high. header i (omega arith) (λ e. omega arith)))
    (stretch_same _ _ a b n slots)

-- A session that is made stands for what its slot shows.
pub recover_made : (k : ℕ) (a : Bytes) → IsMade a → recover_by k a ≡ slot_shows (kept_digests a) (slot k a)
unfolding recover_by
recover_made k a h = rw (h.long, h.marked, h.versioned) refl

-- Bytes of another length, or without the mark, are no session.
pub unmade_is : (a : Bytes) → (length a ≢ session_length) ⊎ (session_mark a ≢ made_mark) → recover a ≡ Unmade (length a) (session_mark a)
unfolding recover recover_by
unmade_is a h = unless (length a == session_length) (session_mark a == made_mark) _ _
    (elim h [ inl n ↦ inl (grind (arith, nat_tests)) | inr m ↦ inr (grind (arith, nat_tests)) ])
  where
    unless : (p q : Bool) (x y : Recovered) → (p ≡ false) ⊎ (q ≡ false) → (if p && q then x else y) ≡ y
    unless true true x y (inl e) = cc
    unless true true x y (inr e) = cc
    unless true false x y e = refl
    unless false q x y e = refl

pub unmade : (a : Bytes) → (length a ≢ session_length) ⊎ (session_mark a ≢ made_mark) → IsUnmade (recover a)
unmade a h = let e = unmade_is a h in rw e tt

-- Bytes that show a state and a piece are those of a session that is made.
pub shown_made : (bytes : Bytes) (digests : Digests) (state piece : Bytes) → recover bytes ≡ Shown digests state piece → IsMade bytes
unfolding recover recover_by
shown_made bytes digests state piece e =
    let t = tests (length bytes == session_length) (session_mark bytes == made_mark) (is_version (version bytes)) _ _ _ _ _ _ e in
    record { long = is_true _ _ t.0; marked = is_true _ _ t.1; versioned = t.2 }
  where
    tests : (a b c : Bool) (x : Recovered) (n m : ℕ) (digests : Digests) (state piece : Bytes) →
        (if a && b then (if c then x else Damaged part.Header 2) else Unmade n m) ≡ Shown digests state piece →
        (a ≡ true) × (b ≡ true) × (c ≡ true)
    tests true true true x n m digests state piece e = (refl, refl, refl)
    tests true true false x n m digests state piece e = cc
    tests true false c x n m digests state piece e = cc
    tests false b c x n m digests state piece e = cc

    is_true : (x y : ℕ) → (x == y) ≡ true → x ≡ y
    is_true x y e = grind (arith, nat_tests)
