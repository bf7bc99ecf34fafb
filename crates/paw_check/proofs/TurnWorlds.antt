-- What a turn does beside its tables leaves the world one of the game.
use Rattle.std.proofs.Common.{◌≡◌, ℕ, ◌<◌, Bool, Some, refl, map, length}
use Rattle.std.proofs.Common.{arith}
use Rattle.paw_base.specs.Bytes.{RoutineAnswers, Seed, Bytes}
use Rattle.paw_base.specs.declared.flags.TheConstants.{LOCATION_FLAG, VERB_FLAG}
use Rattle.paw_game.specs.Game.{GameLists}
use Rattle.paw_game.specs.Tables.{exit_at}
use Rattle.paw_game.specs.Valid.{Valid}
use Rattle.paw_world.specs.World.{World, flag, with_flag, starting_world}
use Rattle.paw_phrase.specs.declared.Sentence.{Sentence}
use Rattle.paw_phrase.specs.Sentence.{IsSentence}
use Rattle.paw_phrase.proofs.SentenceBytes.{AreBytes as AreWords}
use Rattle.paw_effects.specs.inner.Standing.{IsWorldOf}
use Rattle.paw_effects.proofs.Worlds.{IsWorldAt, world_at, world_is, start_so}
use Rattle.paw_reading.specs.Run.{Run, with_timeout, with_sentence}
use Rattle.paw_reading.specs.Reading.{coming_phrase}
use Rattle.paw_reading.specs.Turn.{location_described, time_frame_passed, turn_counted}
use Rattle.paw_reading.specs.declared.frames.OpenLoop.{OpenLoop}
use Rattle.paw_reading.specs.Reading.{object_taken}
use Rattle.paw_reading.proofs.WorldSteps.{described_so, time_frame_so, went_so, counted_so, timeout_so, taken_so, spoken_so, phrase_words}

module _ (g : GameLists) (v : Valid g) where
  -- What keeps the world one of the game after this number of draws keeps it one of the game.
  pub of_game : (w u : World) → IsWorldOf g w → (IsWorldAt g w.seed w.draws w → IsWorldAt g w.seed w.draws u) → IsWorldOf g u
  of_game w u k h = world_is g w.seed w.draws u (h (world_at g w.seed w.draws w k refl (omega arith)))

  pub described_of : (w : World) → IsWorldOf g w → IsWorldOf g (location_described w)
  described_of w k = of_game w (location_described w) k (described_so g v w.seed w.draws w)

  pub time_frame_of : (w : World) → IsWorldOf g w → IsWorldOf g (time_frame_passed w)
  time_frame_of w k = of_game w (time_frame_passed w) k (time_frame_so g v w.seed w.draws w)

  pub exit_of : (w : World) → IsWorldOf g w → (to : ℕ) → exit_at g (flag w LOCATION_FLAG) (flag w VERB_FLAG) ≡ Some to
      → IsWorldOf g (with_flag w LOCATION_FLAG to)
  exit_of w k to e = of_game w (with_flag w LOCATION_FLAG to) k (λ so. went_so g v w.seed w.draws w so to e)

  pub counted_of : (w : World) → IsWorldOf g w → IsWorldOf g (turn_counted w)
  counted_of w k = of_game w (turn_counted w) k (counted_so g v w.seed w.draws w)

  pub timeout_of : (b : Bool) (w : World) → IsWorldOf g w → IsWorldOf g (with_timeout b w)
  timeout_of b w k = of_game w (with_timeout b w) k (timeout_so g v w.seed w.draws b w)

  -- A loop takes its next object.
  pub taken_of : (l : OpenLoop) (o : ℕ) (r : Run) → o < 256 → IsWorldOf g r.world → IsWorldOf g (object_taken g l o r).world
  taken_of l o r small k = of_game r.world (object_taken g l o r).world k (taken_so g v r.world.seed r.world.draws l o r small)

  -- The world in which the sentence of the line's next phrase stands, and its verb is a byte.
  pub phrase_of : (answers : RoutineAnswers) (r : Run) → IsWorldOf g r.world → r.earlier < 256 → (s : Sentence) (left : Bytes) →
      coming_phrase (record { game = g; answers = answers }) r ≡ IsSentence s left → IsWorldOf g (with_sentence s r.world) × (s.verb < 256)
  phrase_of answers r k early s left e =
      let w : World = r.world in
      let words : AreWords s = phrase_words g v w.seed w.draws answers r (world_at g w.seed w.draws w k refl (omega arith)) early s left e in
      (of_game w (with_sentence s w) k (spoken_so g v w.seed w.draws s w words), words.verb)

  -- ---- the start ----

  pub start_of : (seed : Seed) → IsWorldOf g (starting_world (map (λ o. o.facts) g.objects) (length g.locations) seed)
  start_of seed = world_is g seed 0 _ (start_so g v seed)
