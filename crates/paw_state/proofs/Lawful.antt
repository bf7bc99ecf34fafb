-- The laws of a state's bytes, proved.
use Rattle.std.proofs.Common.{◌≡◌, ℕ, ◌≤◌, [], ◌++◌, Some, None, length, take, drop, sym, ap, ◌∙◌, subst}
use Rattle.std.proofs.lemmas.List.{take-append-drop, take_at}
use Rattle.paw_base.specs.Bytes.{Bytes}
use Rattle.paw_base.specs.declared.layout.TheConstants.{STATE_LENGTH}
use Rattle.paw_game.specs.Game.{GameLists}
use Rattle.paw_game.specs.Valid.{Valid}
use Rattle.paw_process.specs.inner.Kept.{machine_kept}
use Rattle.paw_process.specs.inner.Kept.{machine_restored, waiting_at, WaitsAtPrompt}
use Rattle.paw_state.specs.State.{State, IsValidState, FitsFields, AreBytes}
use Rattle.paw_state.specs.State.{fields_of, state_bytes}
use Rattle.paw_state.specs.inner.Fields.{field_bytes}
use Rattle.paw_state.specs.inner.Fields.{fields_at}
use Rattle.paw_state.specs.inner.Faults.{fields_fault}
use Rattle.paw_state.specs.inner.State.{FollowsEachRule}
use Rattle.paw_state.specs.inner.Fields.{parts_fault}
use Rattle.paw_state.specs.inner.State.{state_in}
use Rattle.paw_state.specs.declared.parts.Restored.{Restored}
use Rattle.paw_state.specs.Fit.{Fit, Unfit}
use Rattle.paw_state.specs.inner.Fit.{unfit}
use Rattle.paw_state.specs.inner.Fit.{state_read, IsRead}
use Rattle.paw_state.specs.inner.Laws.{FieldsStand, OneFault, FitOrUnfit, BytesTellTheState, WrittenIsFit}
use Rattle.paw_state.proofs.EachField.{fields_join, fields_cut, length-later, length-fields, sized_at, bytes_same}
use Rattle.paw_state.proofs.EachField.{state_same, lengths_sized}
use Rattle.paw_state.proofs.Ruled.{AreSound, faults_same, sound_of, each_of, valid_of, follows_in, state_back}
use Rattle.paw_state.proofs.Ruled.{fields_back, fits_at, sized_of}
use Rattle.paw_state.proofs.Told.{AreLong}

pub fields_stand : FieldsStand
fields_stand f rest s = ap (λ (l : Bytes). fields_at (l ++ rest)) (bytes_same f) ∙ fields_cut f rest s

pub one_fault : OneFault
one_fault g bytes at u =
    let split : bytes ≡ field_bytes u.fields ++ drop STATE_LENGTH bytes =
    sym (take-append-drop STATE_LENGTH bytes) ∙ ap (λ (l : Bytes). l ++ drop STATE_LENGTH bytes) (u.are ∙ bytes_same u.fields) in
    ap (fields_fault g) (ap fields_at split ∙ fields_cut u.fields (drop STATE_LENGTH bytes) u.sized) ∙ u.fault

-- A fault of the fields at their offsets is the one of the bytes.
pub is_unfit : (g : GameLists) (bytes : Bytes) (at : ℕ) → STATE_LENGTH ≤ length bytes → AreBytes bytes → unfit g bytes ≡ Some at → Unfit g bytes at
is_unfit g bytes at n b h =
    record { fields = fields_at bytes; sized = sized_at bytes n b; are = sym (fields_join bytes n b) ∙ sym (bytes_same (fields_at bytes)); fault = h }

-- The fields that stand in bytes of which the first are a state's.
fields_there : (g : GameLists) (s : State) (bytes : Bytes) → Valid g → FollowsEachRule g s → FitsFields s → take STATE_LENGTH bytes ≡ state_bytes s
    → fields_at bytes ≡ fields_of s
fields_there g s bytes v k h e =
    let split : bytes ≡ field_bytes (fields_of s) ++ drop STATE_LENGTH bytes =
    sym (take-append-drop STATE_LENGTH bytes) ∙ ap (λ (l : Bytes). l ++ drop STATE_LENGTH bytes) (e ∙ state_same s) in
    ap fields_at split ∙ fields_cut (fields_of s) (drop STATE_LENGTH bytes) (sized_of g s v k h)

pub fit_has_none : (g : GameLists) (bytes : Bytes) → Valid g → Fit g bytes → unfit g bytes ≡ None
fit_has_none g bytes v h = ap (fields_fault g) (fields_there g h.state bytes v (each_of g h.state h.valid) h.fits h.are) ∙ h.valid.fields

-- The fault that is found part by part.
pub unfit_parts : (g : GameLists) (bytes : Bytes) → STATE_LENGTH ≤ length bytes → AreBytes bytes → unfit g bytes ≡ parts_fault g (fields_at bytes)
unfit_parts g bytes n b = faults_same g (fields_at bytes) (lengths_sized (fields_at bytes) (sized_at bytes n b))

sound_at : (g : GameLists) (bytes : Bytes) → STATE_LENGTH ≤ length bytes → AreBytes bytes → unfit g bytes ≡ None → AreSound g (fields_at bytes)
sound_at g bytes n b h = sound_of g (fields_at bytes) (sym (unfit_parts g bytes n b) ∙ h)

-- Bytes without a fault are those of the state that their fields say.
pub bytes_are : (g : GameLists) (bytes : Bytes) → Valid g → STATE_LENGTH ≤ length bytes → AreBytes bytes → unfit g bytes ≡ None
    → take STATE_LENGTH bytes ≡ state_bytes (state_in g (fields_at bytes))
bytes_are g bytes v n b h =
    sym (state_same (state_in g (fields_at bytes))
    ∙ (ap field_bytes (state_back g (fields_at bytes) v (sized_at bytes n b) (sound_at g bytes n b h)) ∙ fields_join bytes n b))

pub state_right : (g : GameLists) (bytes : Bytes) → Valid g → STATE_LENGTH ≤ length bytes → AreBytes bytes → unfit g bytes ≡ None
    → IsValidState g (state_in g (fields_at bytes))
state_right g bytes v n b h =
    valid_of g (state_in g (fields_at bytes)) (follows_in g (fields_at bytes) v (sized_at bytes n b) (sound_at g bytes n b h))

pub none_is_fit : (g : GameLists) (bytes : Bytes) → Valid g → STATE_LENGTH ≤ length bytes → AreBytes bytes → unfit g bytes ≡ None → Fit g bytes
none_is_fit g bytes v n b h = record {
  state = state_in g (fields_at bytes);
  valid = state_right g bytes v n b h;
  fits = fits_at g bytes n b;
  are = bytes_are g bytes v n b h;
}

pub fit_or_unfit : FitOrUnfit
fit_or_unfit g bytes v n b = (none_is_fit g bytes v n b, fit_has_none g bytes v)

-- ---- one state ----

pub bytes_give_the_state : BytesTellTheState
bytes_give_the_state g s t v ks hs kt ht e =
    let es = each_of g s ks in
    let et = each_of g t kt in
    let a = fields_cut (fields_of s) [] (sized_of g s v es hs) in
    let b = fields_cut (fields_of t) [] (sized_of g t v et ht) in
    let same : field_bytes (fields_of s) ≡ field_bytes (fields_of t) = sym (state_same s) ∙ (e ∙ state_same t) in
    let f : fields_of s ≡ fields_of t = sym a ∙ (ap (λ (l : Bytes). fields_at (l ++ [])) same ∙ b) in
    sym (fields_back g s es) ∙ (ap (state_in g) f ∙ fields_back g t et)

pub long_state : (g : GameLists) (s : State) → Valid g → IsValidState g s → FitsFields s → AreLong s
long_state g s v k h =
    let z = sized_of g s v (each_of g s k) h in
    record { all = ap length (state_same s) ∙ length-fields (fields_of s) z; behind = length-later (fields_of s) z }

pub written_is_fit : WrittenIsFit
written_is_fit g s rest v k h =
    let n = (long_state g s v k h).all in
    (n, record { state = s; valid = k; fits = h; are = take_at (state_bytes s) rest STATE_LENGTH n })

-- ---- what is read ----

pub is_read : (g : GameLists) (bytes : Bytes) (r : Restored) → Valid g → STATE_LENGTH ≤ length bytes → AreBytes bytes → unfit g bytes ≡ None
    → state_read r ≡ state_in g (fields_at bytes) → r.machine ≡ machine_restored (machine_kept r.machine) (waiting_at r.prompt) →
    WaitsAtPrompt r.prompt r.machine →
    IsRead g bytes r
is_read g bytes r v n b h e machine at = record {
  are = bytes_are g bytes v n b h ∙ ap state_bytes (sym e);
  valid = subst (IsValidState g) (sym e) (state_right g bytes v n b h);
  fits = subst FitsFields (sym e) (fits_at g bytes n b);
  machine = machine;
  stands = at;
}
