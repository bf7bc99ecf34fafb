-- The sets of the objects that stand at each place.
use Rattle.std.specs.Prelude.{◌≡◌, ℕ, ◌==◌, ◌<◌, ◌≤◌, List, length, slice_index, if◌then◌else◌, []}
use Rattle.std.specs.List.{slice_index_or}
use Rattle.paw_base.specs.Bytes.{ObjectPlaces}
use Rattle.paw_base.specs.declared.limits.TheConstants.{OBJECT_LIMIT}
use Rattle.paw_world.specs.inner.ObjectSet.{member}

-- Sets of objects, one for each place, each kept as four words of 64 bits.
abbrev pub ObjectSets : Type 0
ObjectSets = List (List ℕ)

-- Whether object o is in the set of place p.
abbrev pub stands_in : ObjectSets → ℕ → ℕ → ℕ
stands_in sets p o = member (slice_index_or sets p []) o

-- There is room for all objects that a game may have, of which `count` are there, and a set for each byte as a place:
-- an object is in the set of its own place and in no other, and no set has a number that isn't below the count.
pub record AreSetsOf (sets : ObjectSets) (count : ℕ) (places : ObjectPlaces) : Type 0 where
  pub few : count ≤ OBJECT_LIMIT
  pub room : length places ≡ OBJECT_LIMIT
  pub for_each : length sets ≡ 256
  pub inside : (p o : ℕ) → p < 256 → o < count → stands_in sets p o ≡ (if slice_index places o == p then 1 else 0)
  pub beyond : (p o : ℕ) → p < 256 → count ≤ o → o < 256 → stands_in sets p o ≡ 0
