-- Which bytes are an image, and what a refusal says of them: definitions for contracts and proofs, besides those of
-- specs/Images.antt.
use Rattle.std.specs.Prelude.{ℕ, ◌<◌, slice_index, Result, Ok, Err}
use Rattle.paw_base.specs.Bytes.{Bytes}
use Rattle.paw_image.specs.declared.refusal.ImageRefusal.{ImageRefusal}
use Rattle.paw_image.specs.declared.refusal.ImageRefusal.TheVariants as refusal

-- Each number is a byte.
abbrev pub EachIsByte : Bytes → Type 0
EachIsByte bytes = (i : ℕ) → slice_index bytes i < 256

-- A fact of the offset that a refusal names.
abbrev pub AtDamage : ImageRefusal → (ℕ → Type 0) → Type 0
AtDamage refusal.Memory P = Unit {0}
AtDamage (refusal.Damaged at) P = P at

-- A fact of the offset in the answer Damaged.
abbrev pub IfDamaged : {T : Type 0} → Result T ImageRefusal → (ℕ → Type 0) → Type 0
IfDamaged (Ok x) P = Unit {0}
IfDamaged (Err e) P = AtDamage e P
