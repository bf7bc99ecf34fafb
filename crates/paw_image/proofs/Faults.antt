-- Where a first step has no value, what follows it has none.
use Rattle.std.proofs.Common.{◌≡◌, ℕ, suc, ◌+◌, ◌-◌, ◌<◌, None, Result, Ok, Err, refl, sym, subst, ◌∙◌, arith}
use Rattle.paw_base.specs.Bytes.{Bytes}
use Rattle.paw_read_error.specs.declared.read_error.ReadError.{ReadError}
use Rattle.paw_read_error.specs.declared.read_error.ReadError.TheVariants as fault
use Rattle.paw_image.specs.Damage.{Passing, each}
use Rattle.paw_read_error.specs.Bind.{◌>>=◌}
use Rattle.paw_image.specs.Reading.{Reading}
use Rattle.paw_read_error.specs.inner.Gives.{Fails}
use Rattle.paw_image.specs.inner.Reading.{IsFault}
use Rattle.paw_image.specs.inner.Rows.{value_of}

pub fault_first : {A B : Type 0} (r : Result A ℕ) (f : A → Result B ℕ) → IsFault r → IsFault (r >>= f)
fault_first (Ok x) f h = absurd h
fault_first (Err left) f h = tt

-- What follows a step with a value has none where its own first step has none.
pub fault_next : {A B : Type 0} (r : Result A ℕ) (f : A → Result B ℕ) (x : A) → r ≡ Ok x → IsFault (f x) → IsFault (r >>= f)
fault_next r f x e h = rw e h

-- That a fault of a first step, or of the second, is one of both.
pub ruleset fault_steps = (fault_first, fault_next)

pub no_value : {A : Type 0} (r : Reading A) → IsFault r → value_of r ≡ None
no_value (Ok x) h = absurd h
no_value (Err left) h = refl

-- A fault of a first step is one of what follows it.
pub fails_next : {A B : Type 0} (e : ReadError ℕ) (r : Result A ℕ) (f : A → Result B ℕ) → Fails e r → Fails e (r >>= f)
fails_next fault.Memory r f h = tt
fails_next (fault.Fault left) r f h = rw h refl

-- Where one row has no value, all of them together have none.
pub each_fault : (pass : Bytes → Passing) (count i : ℕ) (bytes : Bytes) (total : Passing) → i < count
    → IsFault (pass bytes) → each pass (count - i) bytes ≡ total → IsFault total
unfolding each
each_fault pass count i bytes total lt h so_far =
    let k : count - i ≡ suc (count - (i + 1)) = omega arith in
    let one : each pass (count - i) bytes ≡ (pass bytes >>= each pass (count - (i + 1))) = rw k refl in
    subst (λ (p : Passing). IsFault p) (sym one ∙ so_far) (fault_first (pass bytes) (each pass (count - (i + 1))) h)
