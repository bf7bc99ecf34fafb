-- Names that differ.
use Rattle.std.proofs.Common.{◌≡◌, ◌≢◌, Bool, true, false, refl, bytes_eq}
use Rattle.std.proofs.lemmas.Slice.Eq.{bytes_eq-Decides}
use Rattle.paw_base.specs.Bytes.{Bytes}

is_false : (b : Bool) → b ≢ true → b ≡ false
is_false true never = absurd (never refl)
is_false false never = refl

pub other : (name word : Bytes) → name ≢ word → bytes_eq name word ≡ false
other name word differ = is_false (bytes_eq name word) (λ e. differ ((bytes_eq-Decides name word).0 e))
