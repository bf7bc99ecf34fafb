-- Flags and numbers stay bytes in every state of play.
use Rattle.std.proofs.Common.{ℕ, List, Option, Some, None}
use Rattle.std.specs.Prelude.{get_or}
use Rattle.paw_base.specs.Bytes.{Seed}
use Rattle.paw_game.specs.Game.{GameLists}
use Rattle.paw_game.specs.Valid.{Valid}
use Rattle.paw_world.specs.World.{Position}
use Rattle.paw_effects.specs.Standing.{AreBytes}
use Rattle.paw_effects.specs.inner.Worlds.{ArePlacesOf}
use Rattle.paw_effects.specs.inner.Standing.{MayBePosition}
use Rattle.paw_effects.proofs.Worlds.{place_small}
use Rattle.paw_reading.specs.Run.{Run}
use Rattle.paw_reading.specs.Turn.{AtDescribe, Ending, WaitsAt, Halted, Unended, phases_left, opening, reading, going_on_from}
use Rattle.paw_reading.specs.inner.Always.{EndsIn, MayBeOfBytes, HasOnlyBytes, ReadingsHoldBytes, GoingOnHoldsBytes}
use Rattle.paw_reading.proofs.Kept.{turn_kept, goes_on_kept}
use Rattle.paw_reading.proofs.Sounding.{IsSound, are_lines, sound_kept, opening_so}
use Rattle.paw_reading.proofs.Rightly.{rests}

module _ (g : GameLists) (v : Valid g) where
  small : (places : List ℕ) → ArePlacesOf g places → AreBytes places
  small places all = λ k d low. place_small g v (get_or places k d) (all k d low)

  position : (q : Option Position) → MayBePosition g q → MayBeOfBytes q
  position None k = tt
  position (Some q) k = record { flags = k.bytes; places = small q.places k.places }

  holds_bytes : (seed : Seed) (base : ℕ) (r : Run) → IsSound g seed base r → HasOnlyBytes r
  holds_bytes seed base r k = record {
    flags = k.world.flags;
    places = small r.world.places k.world.places;
    saved = position r.world.saved k.world.saved;
    kept = λ i d low. position (get_or r.world.kept i d) (k.world.kept i d low);
    line = k.line.bytes;
    earlier = k.earlier;
  }

  in_ending : (seed : Seed) (base : ℕ) (e : Ending) → EndsIn (IsSound g seed base) e → EndsIn HasOnlyBytes e
  in_ending seed base (WaitsAt p path r) k = holds_bytes seed base r k
  in_ending seed base (Halted halt r) k = holds_bytes seed base r k
  in_ending seed base Unended k = tt

pub readings_hold_bytes : ReadingsHoldBytes
readings_hold_bytes g seed es valid lines =
    in_ending g.game valid.game seed 0 (reading g seed es)
    (turn_kept g (IsSound g.game seed 0) (sound_kept g valid seed 0) (phases_left (opening g seed es)) AtDescribe (opening g seed es)
    (opening_so g valid seed 0 es (are_lines es lines)))

pub going_on_holds_bytes : GoingOnHoldsBytes
going_on_holds_bytes g seed n p path r valid lines at bound =
    in_ending g.game valid.game seed n (going_on_from g p path r)
    (goes_on_kept g (IsSound g.game seed n) (sound_kept g valid seed n) (phases_left r) p path r (rests g.game seed n p path r at bound lines).sound)
