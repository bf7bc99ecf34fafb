-- Files by name.
use Rattle.std.proofs.Common.{◌≡◌, ◌≢◌, Bool, true, false, refl, sym, ap}
use Rattle.std.specs.Prelude.{Option, Some, None, if◌then◌else◌}
use Rattle.std.specs.Str.{bytes_eq}
use Rattle.std.proofs.lemmas.Slice.Eq.{bytes_eq-Decides}
use Rattle.paw_base.specs.Bytes.{Name, Bytes}
use Rattle.paw_stage.specs.Stage.{Files, file_holding, store_holding}

if_not : (b : Bool) (P : Type 0) (x y : Option Bytes) → (b ≡ true → P) → (P → ⊥) → (if b then x else y) ≡ y
if_not true P x y h n = absurd (n (h refl))
if_not false P x y h n = refl

-- Another file is as it was.
pub holds_other : (name n : Name) (bytes : Option Bytes) (files : Files) → n ≢ name → file_holding name bytes files n ≡ files n
holds_other name n bytes files ne = if_not (bytes_eq n name) (n ≡ name) bytes (files n) (bytes_eq-Decides n name).0 ne

-- The file of this name is what it was made.
pub holds_same : (name : Name) (bytes : Option Bytes) (files : Files) → file_holding name bytes files name ≡ bytes
holds_same name bytes files = ap (λ b. if b then bytes else files name) ((bytes_eq-Decides name name).1 refl)

-- Another file than the attached store's is as it was.
pub held_other : (attached : Option Name) (n bytes : Bytes) (files : Files) → attached ≢ Some n → store_holding attached bytes files n ≡ files n
held_other None n bytes files ne = refl
held_other (Some name) n bytes files ne = holds_other name n (Some bytes) files (λ e. ne (ap Some (sym e)))
