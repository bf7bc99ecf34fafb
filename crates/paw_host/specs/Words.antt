-- The words of a call.
use Rattle.std.specs.Prelude.{List, [], ◌∷◌, length, map, nat_lt, string_bytes}
use Rattle.std.specs.Prelude.{Option, None, if◌then◌else◌}
use Rattle.std.specs.Option.{option_map}
use Rattle.std.specs.declared.string.String.{String}
use Rattle.paw_base.specs.Bytes.{Bytes, Name, Seed}
use Rattle.paw_play.specs.Numbers.{seed_of}

-- What a call asks for: to host the game of this image, and to begin new sessions with this seed.
pub record HostCall : Type 0 where
  pub image : Name
  pub seed : Seed

-- The call that these words make: the name of a file, which has at least one byte, and a seed.
abbrev pub host_call_of : List Bytes → Option HostCall
host_call_of (image ∷ seed ∷ []) =
    if nat_lt 0 (length image) then option_map (λ n. record { image = image; seed = n }) (seed_of seed) else None
host_call_of _ = None

-- What the words of a call ask for.
abbrev pub asked_call : {Z : Type 0} → List (String Z) → Option HostCall
asked_call words = host_call_of (map string_bytes words)
