-- Referring to an object.
use Rattle.std.specs.Prelude.{ℕ, Bool, Option, Some, None, slice_get, if◌then◌else◌}
use Rattle.paw_base.specs.declared.flags.TheConstants.{REFERRED_FLAG, REFERRED_PLACE_FLAG, REFERRED_WEIGHT_FLAG}
use Rattle.paw_base.specs.declared.flags.TheConstants.{REFERRED_CONTAINER_FLAG, REFERRED_WEARABLE_FLAG, FACT_HOLDS}
use Rattle.paw_base.specs.declared.places.TheConstants.{NOT_CREATED_PLACE}
use Rattle.paw_base.specs.declared.words.TheConstants.{NO_WORD}
use Rattle.paw_base.specs.declared.parts.ObjectFacts.{ObjectFacts}
use Rattle.paw_world.specs.World.{World, place, with_flag}
use Rattle.paw_world.specs.Weight.{weight}

-- The value of a flag for a fact about an object: 128 where it holds, and 0 where it doesn't.
abbrev pub flag_of_fact : Bool → ℕ
flag_of_fact b = if b then FACT_HOLDS else 0

-- The world whose flags say of an object, by its facts, how heavy it is, whether it is a container and whether it may
-- be worn; the same world where there is no such object.
abbrev pub with_referred_facts : World → ℕ → Option ObjectFacts → World
with_referred_facts w o None = w
with_referred_facts w o (Some f) =
    let weighed = with_flag w REFERRED_WEIGHT_FLAG (weight w o) in
    let held = with_flag weighed REFERRED_CONTAINER_FLAG (flag_of_fact f.container) in
    with_flag held REFERRED_WEARABLE_FLAG (flag_of_fact f.wearable)

-- Refers to an object: flags become its number, place and weight, and say whether it is a container and may be worn.
abbrev pub object_referred : World → ℕ → World
object_referred w o =
    with_referred_facts (with_flag (with_flag w REFERRED_FLAG o) REFERRED_PLACE_FLAG (place w o)) o
    (slice_get w.facts o)

-- Refers to no object: its number is none, its place is not created, and the other flags are 0.
abbrev pub referred_to_none : World → World
referred_to_none w =
    let none = with_flag (with_flag w REFERRED_FLAG NO_WORD) REFERRED_PLACE_FLAG NOT_CREATED_PLACE in
    with_flag (with_flag (with_flag none REFERRED_WEIGHT_FLAG 0) REFERRED_CONTAINER_FLAG 0) REFERRED_WEARABLE_FLAG 0
