-- What the first bytes of a store say of it.
use Rattle.std.proofs.Common.{◌≡◌, ◌≢◌, ℕ, ◌%◌, ◌<◌, true, false, [], length, take, refl, sym, ap, ◌∙◌, arith}
use Rattle.std.proofs.Common.{get_or, inl, inr}
use Rattle.std.proofs.lemmas.List.{get_or-take, nil_from_length}
use Rattle.paw_base.specs.Bytes.{Bytes}
use Rattle.paw_journal.specs.declared.layout.TheConstants.{GAME_AT, ROUTINES_AT, DIGEST_LENGTH}
use Rattle.paw_journal.specs.declared.refusal.SessionPart.TheVariants as part
use Rattle.paw_journal.specs.Session.{Unmade, Damaged, recover, recover_by, slot, session_mark, version, is_version}
use Rattle.paw_journal.specs.Session.{stretch, header_length, session_length}
use Rattle.paw_journal.specs.Session.{made_mark}
use Rattle.paw_journal.specs.inner.Session.{digests_of}
use Rattle.paw_journal.specs.inner.Writes.{Introduces}
use Rattle.paw_journal.proofs.Parts.{stretch_stretch}
use Rattle.paw_journal.proofs.Recovers.{unmade_is, both_digests}

first_byte : (n i : ℕ) (bytes whole : Bytes) → i < n → bytes ≡ take n whole → get_or bytes i 0 ≡ get_or whole i 0
first_byte n i bytes whole low e = ap (λ l. get_or l i 0) e ∙ get_or-take n whole i 0 low

pub no_bytes : (whole : Bytes) (size : ℕ) → size ≡ length whole → size ≡ 0 → recover whole ≡ Unmade 0 0
no_bytes whole size e z = let n : whole ≡ [] = nil_from_length whole (sym e ∙ z) in ap recover n ∙ unmade_is [] (inl (λ q. omega arith))

pub other_length : (size : ℕ) (bytes whole : Bytes) → size ≡ length whole → size ≢ session_length →
    bytes ≡ take 1 whole → recover whole ≡ Unmade size (get_or bytes 0 0)
other_length size bytes whole e ne b =
    unmade_is whole (inl (λ q. ne (e ∙ q)))
    ∙ (ap (λ n. Unmade n (session_mark whole)) (sym e) ∙ ap (Unmade size) (sym (first_byte 1 0 bytes whole (omega arith) b)))

pub other_mark : (bytes whole : Bytes) → length whole ≡ session_length → bytes ≡ take header_length whole →
    get_or bytes 0 0 ≢ made_mark → recover whole ≡ Unmade session_length (get_or bytes 0 0)
other_mark bytes whole n b ne =
    let m : get_or bytes 0 0 ≡ session_mark whole = first_byte header_length 0 bytes whole (omega arith) b in
    unmade_is whole (inr (λ q. ne (m ∙ q)))
    ∙ (ap (λ n. Unmade n (session_mark whole)) n ∙ ap (Unmade session_length) (sym m))

pub other_version : (bytes whole : Bytes) → length whole ≡ session_length → bytes ≡ take header_length whole →
    get_or bytes 0 0 ≡ made_mark → is_version (get_or bytes 2 0) ≡ false → recover whole ≡ Damaged part.Header 2
unfolding recover recover_by
other_version bytes whole n b m ne =
    let k : session_mark whole ≡ made_mark = sym (first_byte header_length 0 bytes whole (omega arith) b) ∙ m in
    let v : is_version (version whole) ≡ false = ap is_version (sym (first_byte header_length 2 bytes whole (omega arith) b)) ∙ ne in
    rw (n, k, v) refl

pub introduces : (slot : ℕ) (game routines bytes whole : Bytes) → length whole ≡ session_length →
    bytes ≡ take header_length whole → get_or bytes 0 0 ≡ made_mark → is_version (get_or bytes 2 0) ≡ true →
    slot ≡ get_or bytes 1 0 % 2 → game ≡ stretch GAME_AT DIGEST_LENGTH bytes → routines ≡ stretch ROUTINES_AT DIGEST_LENGTH bytes →
    Introduces slot (digests_of game routines) whole
introduces slot game routines bytes whole n b m v s d e = record {
  made = record {
    long = n;
    marked = sym (first_byte header_length 0 bytes whole (omega arith) b) ∙ m;
    versioned =
        ap is_version (sym (first_byte header_length 2 bytes whole (omega arith) b)) ∙ v;
  };
  slot = s ∙ ap (λ x. x % 2) (first_byte header_length 1 bytes whole (omega arith) b);
  digests = both_digests _ _ _ _ (d ∙ (ap (stretch GAME_AT DIGEST_LENGTH) b ∙ stretch_stretch GAME_AT DIGEST_LENGTH 0 header_length whole (omega arith)))
      (e ∙ (ap (stretch ROUTINES_AT DIGEST_LENGTH) b ∙ stretch_stretch ROUTINES_AT DIGEST_LENGTH 0 header_length whole (omega arith)));
}
