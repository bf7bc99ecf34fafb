-- The weight of objects.
use Rattle.std.specs.Prelude.{ℕ, zero, suc, ◌+◌, ◌==◌, ◌&&◌, not, List, length, filter, sum_by, min}
use Rattle.std.specs.Prelude.{Option, None, Some, slice_get, if◌then◌else◌}
use Rattle.std.specs.List.{range_with_len}
use Rattle.std.specs.Option.{option_map_or}
use Rattle.paw_base.specs.declared.limits.TheConstants.{WEIGHT_LEVELS}
use Rattle.paw_base.specs.declared.places.TheConstants.{WORN_PLACE, CARRIED_PLACE}
use Rattle.paw_base.specs.declared.parts.ObjectFacts.{ObjectFacts}
use Rattle.paw_world.specs.World.{World, place}

-- The objects at a place, in rising order of their numbers.
abbrev pub objects_at : World → ℕ → List ℕ
objects_at w p = filter (λ o. place w o == p) (range_with_len 0 (length w.places))

-- The weight of an object with these facts, where its contents have this weight. In a container whose own weight isn't
-- 0 the contents count too, and both together are at most 255. Where there is no such object it is 0.
abbrev pub filled_weight : Option ObjectFacts → ℕ → ℕ
filled_weight None contents = 0
filled_weight (Some f) contents = if f.container && not (f.weight == 0) then min 255 (f.weight + contents) else f.weight

-- The weight of an object where contents count down to n levels below it. What stands at place o is in object o.
unfoldable pub weight_down : World → ℕ → ℕ → ℕ
weight_down w zero o = option_map_or (λ f. f.weight) (slice_get w.facts o) 0
weight_down w (suc n) o = filled_weight (slice_get w.facts o) (sum_by (weight_down w n) (objects_at w o))

-- The weight of an object, with its contents down to ten levels.
abbrev pub weight : World → ℕ → ℕ
weight w o = weight_down w WEIGHT_LEVELS o

-- The weight of all that is worn or carried, at most 255.
abbrev pub carried_weight : World → ℕ
carried_weight w =
    min 255 (sum_by (weight w) (objects_at w WORN_PLACE) + sum_by (weight w) (objects_at w CARRIED_PLACE))
