-- What a load gives is the whole file.
use Rattle.std.proofs.Common.{◌≡◌, ℕ, ◌+◌, ◌<◌, ◌≤◌, List, [], ◌∷◌, length, take, map, string_bytes, sym, ap, ◌∙◌, arith}
use Rattle.std.specs.Prelude.{◌^◌, Some, None, slice_get, min}
use Rattle.std.specs.declared.string.String.{String}
use Rattle.std.proofs.lemmas.List.{length-take, take_all}
use Rattle.std.proofs.lemmas.Option.{none-some, same_Some}
use Rattle.paw_base.specs.Bytes.{Bytes}
use Rattle.paw_stage.specs.Stage.{Standing}
use Rattle.paw_page.specs.Stands.{file_left}

pub given_whole : (n : ℕ) (given bytes : Bytes) → given ≡ take n bytes → length given < n → given ≡ bytes
given_whole n given bytes same short =
    let long = ap length same ∙ length-take n bytes in
    same ∙ take_all n bytes (omega (arith, long, short))

-- The third word is the name.
pub third_named : {Z : Type 0} (words : List (String Z)) (name : String Z) (s : Standing) → slice_get words 2 ≡ Some name →
    file_left (map string_bytes words) s ≡ s.files (string_bytes name)
third_named [] name s h = absurd (none-some name h)
third_named (a ∷ []) name s h = absurd (none-some name h)
third_named (a ∷ (b ∷ [])) name s h = absurd (none-some name h)
third_named (a ∷ (b ∷ (n ∷ words))) name s h = ap (λ w. s.files (string_bytes w)) (same_Some n name h)
