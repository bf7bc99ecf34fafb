-- Looking for the exit of a verb, as a loop does.
use Rattle.std.proofs.Common.{◌≡◌, ℕ, suc, ◌+◌, ◌-◌, ◌<◌, ◌≤◌, Some, None, refl, arith}
use Rattle.paw_base.specs.Bytes.{Bytes}
use Rattle.paw_game.specs.declared.parts.Exit.{Exit}
use Rattle.paw_image.specs.inner.Rows.{exit_here, exit_or_next, exit_in}

pub exit_next : (verb count i : ℕ) (bytes : Bytes) (x : Exit × Bytes) → i < count → exit_here bytes ≡ Some x
    → exit_in verb (count - i) bytes ≡ exit_or_next verb (exit_in verb (count - (i + 1))) (Some x)
unfolding exit_in
exit_next verb count i bytes x lt h =
    let k : count - i ≡ suc (count - (i + 1)) = omega arith in
    rw (k, h) refl

pub exit_none : (verb count i : ℕ) (bytes : Bytes) → i < count → exit_here bytes ≡ None → exit_in verb (count - i) bytes ≡ None
unfolding exit_in
exit_none verb count i bytes lt h =
    let k : count - i ≡ suc (count - (i + 1)) = omega arith in
    rw (k, h) refl

pub exit_past : (verb count i : ℕ) (bytes : Bytes) → count ≤ i → exit_in verb (count - i) bytes ≡ None
unfolding exit_in
exit_past verb count i bytes le =
    let k : count - i ≡ 0 = omega arith in
    rw k refl
