-- The frames of a state as they are kept, and those of a machine.
use Rattle.std.proofs.Common.{◌≡◌, ℕ, zero, suc, ◌+◌, ◌-◌, ◌≤◌, ◌&&◌, ◌==◌, Bool, true, false, not, List}
use Rattle.std.proofs.Common.{[], ◌∷◌, Option, Some, None, map, is_some, option_map, nat_le, refl, ap, arith}
use Rattle.std.specs.Prelude.{if◌then◌else◌, slice_get}
use Rattle.std.proofs.lemmas.Bool.{eqb-true, leb-true}
use Rattle.paw_base.specs.declared.codes.TheConstants.{PROCESS}
use Rattle.paw_game.specs.declared.parts.Entry.{Entry}
use Rattle.paw_game.specs.Game.{GameLists}
use Rattle.paw_game.specs.Tables.{condacts_of, entry_at, head_at, condact_at}
use Rattle.paw_reading.specs.declared.frames.Frame.{Frame}
use Rattle.paw_process.specs.Kept.{may_open, has_code, parameter_of}
use Rattle.paw_process.specs.inner.Kept.{condact_at_frame, is_unused, frame_stands}
use Rattle.paw_process.specs.inner.Kept.{first_frame_fault as machine_fault}
use Rattle.paw_process.proofs.Restored.{first_of, second}
use Rattle.paw_state.specs.declared.fields.TheConstants.{FRAME_ENTRY, FRAME_AT, FRAME_ACTED, FRAME_LENGTH}
use Rattle.paw_state.specs.declared.fields.FrameField.{FrameField}
use Rattle.paw_state.specs.State.{frame_field_of}
use Rattle.paw_state.specs.inner.Parts.{frame_in}
use Rattle.std.specs.Option.{option_or}
use Rattle.paw_state.specs.inner.Faults.{rule, first, unused_fault, used_fault, frame_fault, frame_fields_fault}
use Rattle.paw_state.specs.inner.Faults.{called_table}
use Rattle.paw_state.proofs.Found.{rule_holds, no_rule, no_first, none_first}

pub both : (a b : Bool) → a ≡ true → b ≡ true → (a && b) ≡ true
both a b h k = rw (h, k) refl

pub four : (a b c d : Option ℕ) → first (a ∷ b ∷ c ∷ d ∷ []) ≡ None → (a ≡ None) × (b ≡ None) × (c ≡ None) × (d ≡ None)
four a b c d h =
    let p0 = no_first a (first (b ∷ c ∷ d ∷ [])) h in
    let p1 = no_first b (first (c ∷ d ∷ [])) p0.1 in
    let p2 = no_first c (option_or d None) p1.1 in
    (p0.0, p1.0, p2.0, (no_first d None p2.1).0)

pub four_none : (a b c d : Option ℕ) → a ≡ None → b ≡ None → c ≡ None → d ≡ None → first (a ∷ b ∷ c ∷ d ∷ []) ≡ None
four_none a b c d ka kb kc kd =
    none_first a (first (b ∷ c ∷ d ∷ [])) ka (none_first b (first (c ∷ d ∷ [])) kb (none_first c (option_or d None) kc (none_first d None kd refl)))

-- ---- rows without a fault ----

record IsUnusedFrame (r : FrameField) : Type 0 where
  table : (r.table == 0) ≡ true
  entry : (r.entry == 0) ≡ true
  at : (r.at == 0) ≡ true
  acted : (r.acted == 0) ≡ true

unused_frame : (at : ℕ) (r : FrameField) → unused_fault at r ≡ None → IsUnusedFrame r
unused_frame at r h =
    let p = four (rule at (r.table == 0)) (rule (at + FRAME_ENTRY) (r.entry == 0)) (rule (at + FRAME_AT) (r.at == 0))
    (rule (at + FRAME_ACTED) (r.acted == 0)) h in
    record {
      table = rule_holds at (r.table == 0) p.0;
      entry = rule_holds (at + FRAME_ENTRY) (r.entry == 0) p.1;
      at = rule_holds (at + FRAME_AT) (r.at == 0) p.2;
      acted = rule_holds (at + FRAME_ACTED) (r.acted == 0) p.3;
    }

record IsUsedFrame (g : GameLists) (code : ℕ) (caller : Option ℕ) (r : FrameField) : Type 0 where
  table : may_open caller r.table ≡ true
  condact : has_code code (condact_at g r.table r.entry r.at) ≡ true
  acted : nat_le r.acted 1 ≡ true

used_frame : (g : GameLists) (code : ℕ) (caller : Option ℕ) (at : ℕ) (r : FrameField) → used_fault g code caller at r ≡ None → IsUsedFrame g code caller r
used_frame g code caller at r h =
    let p = four (rule at (may_open caller r.table)) (rule (at + FRAME_ENTRY) (is_some (head_at g r.table r.entry)))
    (rule (at + FRAME_AT) (has_code code (condact_at g r.table r.entry r.at))) (rule (at + FRAME_ACTED) (nat_le r.acted 1)) h in
    record {
      table = rule_holds at (may_open caller r.table) p.0;
      condact = rule_holds (at + FRAME_AT) (has_code code (condact_at g r.table r.entry r.at)) p.2;
      acted = rule_holds (at + FRAME_ACTED) (nat_le r.acted 1) p.3;
    }

no_action : (acted : ℕ) → (acted == 0) ≡ true → not (acted == 1) ≡ true
no_action acted h = let z : acted ≡ 0 = eqb-true acted 0 h in rw z refl

-- A row without a fault stands as a frame.
frame_field_sound : (g : GameLists) (code : ℕ) (caller : Option ℕ) (n at : ℕ) (r : FrameField) → frame_fault g code caller n at r ≡ None
    → frame_stands g code caller n (frame_in r) ≡ true
frame_field_sound g code caller n at r h = go (n == 0) h
  where
    go : (b : Bool) → (if b then unused_fault at r else used_fault g (if n == 1 then code else PROCESS) caller at r) ≡ None
        → (if b then is_unused (frame_in r)
        else may_open caller r.table && has_code (if n == 1 then code else PROCESS) (condact_at_frame g (frame_in r))) ≡ true
    go true k =
        let u = unused_frame at r k in
        both (r.table == 0) _ u.table (both (r.entry == 0) _ u.entry (both (r.at == 0) _ u.at (no_action r.acted u.acted)))
    go false k =
        let u = used_frame g (if n == 1 then code else PROCESS) caller at r k in
        both (may_open caller r.table) _ u.table u.condact

-- And its byte for an action is 0 or 1.
frame_field_acted : (g : GameLists) (code : ℕ) (caller : Option ℕ) (n at : ℕ) (r : FrameField) → frame_fault g code caller n at r ≡ None → r.acted ≤ 1
frame_field_acted g code caller n at r h = go (n == 0) h
  where
    go : (b : Bool) → (if b then unused_fault at r else used_fault g (if n == 1 then code else PROCESS) caller at r) ≡ None → r.acted ≤ 1
    go true k = let z : r.acted ≡ 0 = eqb-true r.acted 0 (unused_frame at r k).acted in omega arith
    go false k = leb-true r.acted 1 (used_frame g (if n == 1 then code else PROCESS) caller at r k).acted

acted_back : (acted : ℕ) → acted ≤ 1 → (if acted == 1 then 1 else 0) ≡ acted
acted_back zero low = refl
acted_back (suc zero) low = refl
acted_back (suc (suc n)) low = absurd (omega (arith, low))

frame_field_back : (r : FrameField) → r.acted ≤ 1 → frame_field_of (frame_in r) ≡ r
frame_field_back r low = ap (λ (acted : ℕ). record { table = r.table; entry = r.entry; at = r.at; acted = acted }) (acted_back r.acted low)

pub frame_fields_sound : (g : GameLists) (code : ℕ) (caller : Option ℕ) (n at d : ℕ) (rows : List FrameField)
    → frame_fields_fault g code caller n at rows ≡ None
    → machine_fault g code caller n d (map frame_in rows) ≡ None
unfolding frame_fields_fault machine_fault
frame_fields_sound g code caller n at d [] h = refl
frame_fields_sound g code caller n at d (r ∷ rs) h =
    let p = no_first (frame_fault g code caller n at r) (frame_fields_fault g code (called_table g r) (n - 1) (at + FRAME_LENGTH) rs) h in
    rw (frame_field_sound g code caller n at r p.0) (frame_fields_sound g code (called_table g r) (n - 1) (at + FRAME_LENGTH) (suc d) rs p.1)

pub frame_fields_back : (g : GameLists) (code : ℕ) (caller : Option ℕ) (n at : ℕ) (rows : List FrameField) → frame_fields_fault g code caller n at rows ≡ None
    → map frame_field_of (map frame_in rows) ≡ rows
unfolding frame_fields_fault
frame_fields_back g code caller n at [] h = refl
frame_fields_back g code caller n at (r ∷ rs) h =
    let p = no_first (frame_fault g code caller n at r) (frame_fields_fault g code (called_table g r) (n - 1) (at + FRAME_LENGTH) rs) h in
    let e : frame_field_of (frame_in r) ≡ r = frame_field_back r (frame_field_acted g code caller n at r p.0) in
    let q = frame_fields_back g code (called_table g r) (n - 1) (at + FRAME_LENGTH) rs p.1 in
    cc

-- ---- frames that stand ----

-- A condact that is there stands in an entry.
pub head_there : (g : GameLists) (code t e k : ℕ) → has_code code (condact_at g t e k) ≡ true → is_some (head_at g t e) ≡ true
head_there g code t e k h = go (entry_at g t e) h
  where
    go : (o : Option Entry) → has_code code (slice_get (condacts_of o) k) ≡ true
        → is_some (option_map {U = ℕ × ℕ} (λ (en : Entry). (en.verb, en.noun)) o) ≡ true
    go None q = cc
    go (Some en) q = refl

acted_low : (acted : Bool) → nat_le (if acted then 1 else 0) 1 ≡ true
acted_low true = refl
acted_low false = refl

acted_zero : (acted : Bool) → not acted ≡ true → ((if acted then 1 else 0) == 0) ≡ true
acted_zero true h = cc
acted_zero false h = refl

frame_sound : (g : GameLists) (code : ℕ) (caller : Option ℕ) (n at : ℕ) (f : Frame) → frame_stands g code caller n f ≡ true
    → frame_fault g code caller n at (frame_field_of f) ≡ None
frame_sound g code caller n at f h = go (n == 0) h
  where
    go : (b : Bool) → (if b then is_unused f else may_open caller f.table && has_code (if n == 1 then code else PROCESS) (condact_at_frame g f)) ≡ true
        → (if b then unused_fault at (frame_field_of f) else used_fault g (if n == 1 then code else PROCESS) caller at (frame_field_of f)) ≡ None
    go true k =
        let l1 = second (f.table == 0) _ k in
        let l2 = second (f.entry == 0) _ l1 in
        four_none (rule at (f.table == 0)) (rule (at + FRAME_ENTRY) (f.entry == 0)) (rule (at + FRAME_AT) (f.at == 0))
        (rule (at + FRAME_ACTED) ((if f.acted then 1 else 0) == 0))
        (no_rule at _ (first_of (f.table == 0) _ k)) (no_rule (at + FRAME_ENTRY) _ (first_of (f.entry == 0) _ l1))
        (no_rule (at + FRAME_AT) _ (first_of (f.at == 0) _ l2))
        (no_rule (at + FRAME_ACTED) _ (acted_zero f.acted (second (f.at == 0) _ l2)))
    go false k =
        let c = second (may_open caller f.table) _ k in
        four_none (rule at (may_open caller f.table)) (rule (at + FRAME_ENTRY) (is_some (head_at g f.table f.entry)))
        (rule (at + FRAME_AT) (has_code (if n == 1 then code else PROCESS) (condact_at g f.table f.entry f.at)))
        (rule (at + FRAME_ACTED) (nat_le (if f.acted then 1 else 0) 1))
        (no_rule at _ (first_of (may_open caller f.table) _ k))
        (no_rule (at + FRAME_ENTRY) _ (head_there g (if n == 1 then code else PROCESS) f.table f.entry f.at c))
        (no_rule (at + FRAME_AT) _ c) (no_rule (at + FRAME_ACTED) _ (acted_low f.acted))

pub frames_sound : (g : GameLists) (code : ℕ) (caller : Option ℕ) (n at d : ℕ) (frames : List Frame) → machine_fault g code caller n d frames ≡ None
    → frame_fields_fault g code caller n at (map frame_field_of frames) ≡ None
unfolding frame_fields_fault machine_fault
frames_sound g code caller n at d [] h = refl
frames_sound g code caller n at d (f ∷ fs) h = go (frames_sound g code (Some (parameter_of (condact_at_frame g f))) (n - 1) (at + FRAME_LENGTH) (suc d) fs)
    (frame_stands g code caller n f) refl h
  where
    go : (machine_fault g code (Some (parameter_of (condact_at_frame g f))) (n - 1) (suc d) fs ≡ None
        → frame_fields_fault g code (Some (parameter_of (condact_at_frame g f))) (n - 1) (at + FRAME_LENGTH) (map frame_field_of fs) ≡ None)
        → (b : Bool) → frame_stands g code caller n f ≡ b
        → ◌≡◌ {A = Option ℕ} (if b then machine_fault g code (Some (parameter_of (condact_at_frame g f))) (n - 1) (suc d) fs else Some d) None
        → option_or (frame_fault g code caller n at (frame_field_of f)) (frame_fields_fault g code (called_table g (frame_field_of f)) (n - 1)
        (at + FRAME_LENGTH) (map frame_field_of fs)) ≡ None
    go later true e q = none_first (frame_fault g code caller n at (frame_field_of f)) _ (frame_sound g code caller n at f e) (later q)
    go later false e q = cc

acted_again : (acted : Bool) → ((if acted then 1 else 0) == 1) ≡ acted
acted_again true = refl
acted_again false = refl

pub frames_back : (frames : List Frame) → map frame_in (map frame_field_of frames) ≡ frames
frames_back [] = refl
frames_back (f ∷ fs) =
    let e : frame_in (frame_field_of f) ≡ f = ap (λ (acted : Bool). record { table = f.table; entry = f.entry; at = f.at; acted = acted })
    (acted_again f.acted) in
    let q = frames_back fs in
    cc
