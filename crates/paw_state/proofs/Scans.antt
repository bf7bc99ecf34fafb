-- Looking through bytes and rows one by one.
use Rattle.std.proofs.Common.{◌≡◌, ℕ, suc, ◌+◌, ◌-◌, ◌<◌, ◌≤◌, Bool, true, false, List, [], ◌∷◌}
use Rattle.std.proofs.Common.{Option}
use Rattle.std.proofs.Common.{Some, None, length, drop, get_or, refl, sym, ap, ◌∙◌, add-one, arith}
use Rattle.std.specs.Prelude.{if◌then◌else◌}
use Rattle.std.proofs.Math.Seq.{drop-cons}
use Rattle.std.proofs.lemmas.List.{drop_all}
use Rattle.paw_base.specs.Bytes.{Bytes}
use Rattle.paw_game.specs.Game.{GameLists}
use Rattle.paw_state.specs.declared.fields.TheConstants.{POSITION_LENGTH, FRAME_LENGTH}
use Rattle.paw_state.specs.declared.fields.FrameField.{FrameField}
use Rattle.paw_state.specs.declared.position_field.PositionField.{PositionField}
use Rattle.std.specs.Option.{option_or}
use Rattle.paw_state.specs.inner.Faults.{rule, first_not, position_fault, kept_fault, frame_fault, frame_fields_fault}
use Rattle.paw_state.specs.inner.Faults.{called_table}

-- ---- bytes ----

-- The bytes from number i on have the first fault of all.
abbrev pub Looked : (ℕ → Bool) → ℕ → ℕ → Bytes → Type 0
Looked p at i bytes = first_not p (at + i) (drop i bytes) ≡ first_not p at bytes

one : (p : ℕ → Bool) (at b : ℕ) (bs : Bytes) → first_not p at (b ∷ bs) ≡ (if p b then first_not p (suc at) bs else Some at)
unfolding first_not
one p at b bs = refl

next : (p : ℕ → Bool) (at i : ℕ) (bytes : Bytes) → i < length bytes → Looked p at i bytes
    → (if p (get_or bytes i 0) then first_not p (suc (at + i)) (drop (suc i) bytes) else Some (at + i)) ≡ first_not p at bytes
next p at i bytes low h =
    sym (one p (at + i) (get_or bytes i 0) (drop (suc i) bytes))
    ∙ (ap (first_not p (at + i)) (sym (drop-cons bytes i 0 low)) ∙ h)

pub stops : (p : ℕ → Bool) (at i x : ℕ) (bytes : Bytes) → i < length bytes → Looked p at i bytes
    → Some x ≡ rule (at + i) (p (get_or bytes i 0)) → Some x ≡ first_not p at bytes
stops p at i x bytes low h e = go (p (get_or bytes i 0)) (next p at i bytes low h) e
  where
    go : (t : Bool) → (if t then first_not p (suc (at + i)) (drop (suc i) bytes) else Some (at + i)) ≡ first_not p at bytes
        → Some x ≡ rule (at + i) t → Some x ≡ first_not p at bytes
    go true q k = cc
    go false q k = k ∙ q

pub goes_on : (p : ℕ → Bool) (at i : ℕ) (bytes : Bytes) → i < length bytes → Looked p at i bytes
    → None ≡ rule (at + i) (p (get_or bytes i 0)) → Looked p at (i + 1) bytes
goes_on p at i bytes low h e = go (p (get_or bytes i 0)) (next p at i bytes low h) e
  where
    go : (t : Bool) → (if t then first_not p (suc (at + i)) (drop (suc i) bytes) else Some (at + i)) ≡ first_not p at bytes
        → ◌≡◌ {A = Option ℕ} None (rule (at + i) t) → Looked p at (i + 1) bytes
    go true q k = let a : at + (i + 1) ≡ suc (at + i) = omega arith in rw (a, add-one) q
    go false q k = cc

none_left : (p : ℕ → Bool) (at : ℕ) → first_not p at [] ≡ None
unfolding first_not
none_left p at = refl

pub at_end : (p : ℕ → Bool) (at i : ℕ) (bytes : Bytes) → length bytes ≤ i → Looked p at i bytes → None ≡ first_not p at bytes
at_end p at i bytes low h = sym (none_left p (at + i)) ∙ (ap (first_not p (at + i)) (sym (drop_all i bytes low)) ∙ h)

-- ---- rows ----

pub no_frames : (g : GameLists) (code : ℕ) (caller : Option ℕ) (n at : ℕ) (rows : List FrameField) → length rows ≡ 0 → None
    ≡ frame_fields_fault g code caller n at rows
unfolding frame_fields_fault
no_frames g code caller n at [] h = refl
no_frames g code caller n at (r ∷ rs) h = absurd (omega arith)

first_frame : (g : GameLists) (code : ℕ) (caller : Option ℕ) (n at : ℕ) (rows : List FrameField) (r : FrameField) (rs : List FrameField) → rows ≡ r ∷ rs
    → option_or (frame_fault g code caller n at r) (frame_fields_fault g code (called_table g r) (n - 1) (at + FRAME_LENGTH) rs)
    ≡ frame_fields_fault g code caller n at rows
unfolding frame_fields_fault
first_frame g code caller n at rows r rs e = rw e refl

pub frame_stops : (g : GameLists) (code : ℕ) (caller : Option ℕ) (n at x : ℕ) (rows : List FrameField) (r : FrameField) (rs : List FrameField) → rows ≡ r ∷ rs
    → Some x ≡ frame_fault g code caller n at r → Some x ≡ frame_fields_fault g code caller n at rows
frame_stops g code caller n at x rows r rs e h =
    ap (λ (o : Option ℕ). option_or o (frame_fields_fault g code (called_table g r) (n - 1) (at + FRAME_LENGTH) rs)) h
    ∙ first_frame g code caller n at rows r rs e

pub frame_passes : (g : GameLists) (code : ℕ) (caller : Option ℕ) (n at : ℕ) (rows : List FrameField) (r : FrameField) (rs : List FrameField) → rows ≡ r ∷ rs
    → None ≡ frame_fault g code caller n at r
    → frame_fields_fault g code (called_table g r) (n - 1) (at + FRAME_LENGTH) rs ≡ frame_fields_fault g code caller n at rows
frame_passes g code caller n at rows r rs e h =
    ap (λ (o : Option ℕ). option_or o (frame_fields_fault g code (called_table g r) (n - 1) (at + FRAME_LENGTH) rs)) h
    ∙ first_frame g code caller n at rows r rs e

-- ---- kept positions ----

pub kept_none : (g : GameLists) (at : ℕ) (kept : List PositionField) → length kept ≡ 0 → None ≡ kept_fault g at kept
unfolding kept_fault
kept_none g at [] h = refl
kept_none g at (k ∷ ks) h = absurd (omega arith)

first_kept : (g : GameLists) (at : ℕ) (kept : List PositionField) (k : PositionField) (ks : List PositionField) → kept ≡ k ∷ ks
    → option_or (position_fault g at k) (kept_fault g (at + POSITION_LENGTH) ks) ≡ kept_fault g at kept
unfolding kept_fault
first_kept g at kept k ks e = rw e refl

pub kept_stops : (g : GameLists) (at x : ℕ) (kept : List PositionField) (k : PositionField) (ks : List PositionField) → kept ≡ k ∷ ks → Some x
    ≡ position_fault g at k
    → Some x ≡ kept_fault g at kept
kept_stops g at x kept k ks e h = ap (λ (o : Option ℕ). option_or o (kept_fault g (at + POSITION_LENGTH) ks)) h ∙ first_kept g at kept k ks e

pub kept_passes : (g : GameLists) (at : ℕ) (kept : List PositionField) (k : PositionField) (ks : List PositionField) → kept ≡ k ∷ ks → None ≡ position_fault g at k
    → kept_fault g (at + POSITION_LENGTH) ks ≡ kept_fault g at kept
kept_passes g at kept k ks e h = ap (λ (o : Option ℕ). option_or o (kept_fault g (at + POSITION_LENGTH) ks)) h ∙ first_kept g at kept k ks e
