-- Positions of a game.
use Rattle.std.proofs.Common.{◌≡◌, ℕ, Option, None, Some, length, ◌∙◌}
use Rattle.std.specs.Prelude.{All, IfSome}
use Rattle.paw_base.specs.declared.limits.TheConstants.{FLAG_COUNT}
use Rattle.paw_game.specs.Game.{GameLists}
use Rattle.paw_world.specs.World.{Position, IsSavedFor}
use Rattle.paw_effects.specs.inner.Worlds.{ArePlacesOf, StandsIn}
use Rattle.paw_state.specs.State.{State}
use Rattle.paw_state.specs.inner.State.{FollowsEachRule}

-- 256 flags, and each object at a place.
pub record IsPositionOf (g : GameLists) (q : Position) : Type 0 where
  pub flags : length q.flags ≡ FLAG_COUNT
  pub each : length q.places ≡ length g.objects
  pub places : ArePlacesOf g q.places

-- A position, where there is one, is one of the game.
abbrev pub IsHeldOf : GameLists → Option Position → Type 0
IsHeldOf g o = IfSome o (IsPositionOf g)

-- ---- from the rules of a state ----

held_from : (g : GameLists) (n : ℕ) (o : Option Position) → n ≡ length g.objects → IsSavedFor n o → StandsIn g o → IsHeldOf g o
held_from g n None same alike placed = tt
held_from g n (Some q) same alike placed = record { flags = alike.flags; each = alike.places ∙ same; places = placed }

pub saved_held : (g : GameLists) (s : State) → FollowsEachRule g s → IsHeldOf g s.world.saved
saved_held g s k = held_from g (length s.world.places) s.world.saved k.world.places k.sound.saved k.places.1.0

pub kept_held : (g : GameLists) (s : State) → FollowsEachRule g s → All (IsHeldOf g) s.world.kept
kept_held g s k = λ i d low. held_from g (length s.world.places) _ k.world.places (k.sound.kept.each i d low) (k.places.1.1 i d low)

-- ---- to these rules ----

pub held_size_for : (g : GameLists) (o : Option Position) → IsHeldOf g o → IsSavedFor (length g.objects) o
held_size_for g None h = tt
held_size_for g (Some q) h = record { flags = h.flags; places = h.each }

pub held_placed : (g : GameLists) (o : Option Position) → IsHeldOf g o → StandsIn g o
held_placed g None h = tt
held_placed g (Some q) h = h.places
