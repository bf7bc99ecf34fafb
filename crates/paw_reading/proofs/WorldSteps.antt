-- The world of a game stays one where a loop takes an object, a phrase or a line is heard, and a turn goes from phase to phase.
use Rattle.std.proofs.Common.{◌≡◌, ℕ, ◌+◌, ◌-◌, ◌<◌, ◌≤◌, ◌/◌, ◌%◌, Bool, true, false}
use Rattle.std.proofs.Common.{Option, Some}
use Rattle.std.proofs.Common.{None, refl, min, arith}
use Rattle.std.proofs.Math.Nat.{min-le_left}
use Rattle.paw_base.specs.Bytes.{RoutineAnswers, Bytes, Seed}
use Rattle.paw_base.specs.declared.parts.ObjectFacts.{ObjectFacts}
use Rattle.paw_base.specs.declared.flags.TheConstants.{TIMED_OUT_FLAG, PRONOUN_NOUN_FLAG, PRONOUN_ADJECTIVE_FLAG}
use Rattle.paw_base.specs.declared.flags.TheConstants.{NOUN_FLAG, ADJECTIVE_FLAG, LOOP_FLAG, LOW_TURNS_FLAG}
use Rattle.paw_base.specs.declared.flags.TheConstants.{HIGH_TURNS_FLAG, LOCATION_FLAG, VERB_FLAG, PREPOSITION_FLAG}
use Rattle.paw_base.specs.declared.flags.TheConstants.{ADVERB_FLAG, SECOND_NOUN_FLAG, SECOND_ADJECTIVE_FLAG}
use Rattle.paw_base.specs.declared.flags.TheConstants.{TIMED_OUT_BIT, UNLIT_VIEW_FLAG, DARK_VIEW_FLAG, VIEW_FLAG}
use Rattle.paw_base.specs.declared.flags.TheConstants.{LAST_FRAME_FLAG, FIRST_FRAME_FLAG, UNLIT_FRAME_FLAG}
use Rattle.paw_base.specs.declared.flags.TheConstants.{DARK_FRAME_FLAG}
use Rattle.paw_game.specs.Game.{GameLists}
use Rattle.paw_game.specs.Tables.{exit_at, facts_at}
use Rattle.paw_game.specs.Valid.{Valid}
use Rattle.paw_game.proofs.ValidGames.{exit-leads}
use Rattle.paw_world.specs.World.{World, flag, with_flag, is_dark, is_unlit, flag_lowered, flag_lowered_if}
use Rattle.paw_phrase.specs.declared.Sentence.{Sentence}
use Rattle.paw_phrase.specs.Sentence.{IsSentence}
use Rattle.paw_phrase.proofs.SentenceBytes.{AreBytes as AreWords, parsed-bytes}
use Rattle.paw_effects.specs.Counts.{turns_taken}
use Rattle.paw_reading.specs.declared.frames.OpenLoop.{OpenLoop}
use Rattle.paw_reading.specs.Run.{Run}
use Rattle.paw_reading.specs.Run.{with_timeout, with_sentence}
use Rattle.paw_reading.specs.Reading.{object_named, object_taken}
use Rattle.paw_reading.specs.Reading.{coming_phrase}
use Rattle.paw_reading.specs.Turn.{location_described, time_frame_passed}
use Rattle.paw_reading.specs.Turn.{turn_counted}
use Rattle.paw_effects.proofs.Worlds.{IsWorldAt, few_locations, facts_small, flag_small, flagged}
use Rattle.paw_effects.proofs.Changes.{referred_so}
use Rattle.paw_game.specs.Game.{GameLists}

module _ (g : GameLists) (v : Valid g) (seed : Seed) (n : ℕ) where
  abbrev pub IsSo : World → Type 0
  IsSo w = IsWorldAt g seed n w

  flag_set : (w : World) → IsSo w → (f x : ℕ) → x < 256 → IsSo (with_flag w f x)
  flag_set w k f x small = flagged g v seed n w k f x small

  -- ---- flags that fall, turns and timeouts ----

  pub fallen_so : (f : ℕ) (w : World) → IsSo w → IsSo (flag_lowered f w)
  fallen_so f w k = flag_set w k f (flag w f - 1) (omega (arith, flag_small g v seed n w k f))

  pub fallen_if_so : (b : Bool) (f : ℕ) (w : World) → IsSo w → IsSo (flag_lowered_if b f w)
  fallen_if_so true f w k = fallen_so f w k
  fallen_if_so false f w k = k

  pub described_so : (w : World) → IsSo w → IsSo (location_described w)
  described_so w k =
      fallen_if_so (is_unlit w) UNLIT_VIEW_FLAG (flag_lowered_if (is_dark w) DARK_VIEW_FLAG (flag_lowered VIEW_FLAG w))
      (fallen_if_so (is_dark w) DARK_VIEW_FLAG (flag_lowered VIEW_FLAG w) (fallen_so VIEW_FLAG w k))

  pub time_frame_so : (w : World) → IsSo w → IsSo (time_frame_passed w)
  time_frame_so w k =
      let first : World = flag_lowered LAST_FRAME_FLAG (flag_lowered 7 (flag_lowered 6 (flag_lowered FIRST_FRAME_FLAG w))) in
      fallen_if_so (is_unlit w) UNLIT_FRAME_FLAG (flag_lowered_if (is_dark w) DARK_FRAME_FLAG first) (fallen_if_so (is_dark w) DARK_FRAME_FLAG first
      (fallen_so LAST_FRAME_FLAG _ (fallen_so 7 _ (fallen_so 6 _ (fallen_so FIRST_FRAME_FLAG w k)))))

  pub counted_so : (w : World) → IsSo w → IsSo (turn_counted w)
  counted_so w k =
      let turns_now : ℕ = min 65535 (turns_taken w + 1) in
      flag_set (with_flag w LOW_TURNS_FLAG (turns_now % 256))
      (flag_set w k LOW_TURNS_FLAG (turns_now % 256) (low turns_now)) HIGH_TURNS_FLAG
      (turns_now / 256)
      (high turns_now (min-le_left 65535 (turns_taken w + 1)))
    where
      low : (x : ℕ) → x % 256 < 256
      low x = omega arith

      high : (x : ℕ) → x ≤ 65535 → x / 256 < 256
      high x most = omega arith

  pub went_so : (w : World) → IsSo w → (to : ℕ) → exit_at g (flag w LOCATION_FLAG) (flag w VERB_FLAG) ≡ Some to →
      IsSo (with_flag w LOCATION_FLAG to)
  went_so w k to is =
      flag_set w k LOCATION_FLAG to
      (omega (arith, exit-leads g v (flag w LOCATION_FLAG) (flag w VERB_FLAG) to is, (few_locations g v).1))

  pub timeout_so : (b : Bool) (w : World) → IsSo w → IsSo (with_timeout b w)
  timeout_so true w k = flag_set w k TIMED_OUT_FLAG (TIMED_OUT_BIT + flag w TIMED_OUT_FLAG % TIMED_OUT_BIT)
      (low (flag w TIMED_OUT_FLAG))
    where
      low : (x : ℕ) → 128 + x % 128 < 256
      low x = omega arith
  timeout_so false w k = flag_set w k TIMED_OUT_FLAG (flag w TIMED_OUT_FLAG % TIMED_OUT_BIT)
      (low (flag w TIMED_OUT_FLAG))
    where
      low : (x : ℕ) → x % 128 < 256
      low x = omega arith

  -- ---- objects and phrases ----

  pub named_so : (w : World) → IsSo w → (o : ℕ) (f : Option ObjectFacts) → facts_at g o ≡ f →
      IsSo (object_named w f)
  named_so w k o None e = k
  named_so w k o (Some f) e =
      let small = facts_small g v o f e in
      flag_set (with_flag w NOUN_FLAG f.noun) (flag_set w k NOUN_FLAG f.noun small.noun)
      ADJECTIVE_FLAG f.adjective small.adjective

  -- A loop takes its next object.
  pub taken_so : (l : OpenLoop) (o : ℕ) (r : Run) → o < 256 → IsSo r.world → IsSo (object_taken g l o r).world
  taken_so l o r small k =
      let w : World = object_named r.world (facts_at g o) in
      referred_so g v seed n (with_flag w LOOP_FLAG o)
      (flag_set w (named_so r.world k o (facts_at g o) refl) LOOP_FLAG o small) o small

  pub spoken_so : (s : Sentence) (w : World) → AreWords s → IsSo w → IsSo (with_sentence s w)
  spoken_so s w b k =
      flag_set _ (flag_set _ (flag_set _ (flag_set _ (flag_set _ (flag_set _ (flag_set _ (flag_set _
      (flag_set w k VERB_FLAG s.verb b.verb) NOUN_FLAG s.noun b.noun)
      ADJECTIVE_FLAG s.adjective b.adjective) ADVERB_FLAG s.adverb b.adverb)
      PREPOSITION_FLAG s.preposition b.preposition) SECOND_NOUN_FLAG s.second_noun b.second_noun)
      SECOND_ADJECTIVE_FLAG s.second_adjective b.second_adjective)
      PRONOUN_NOUN_FLAG s.pronoun_noun b.pronoun_noun) PRONOUN_ADJECTIVE_FLAG s.pronoun_adjective b.pronoun_adjective

  -- The words of the phrase that is taken are bytes.
  pub phrase_words : (answers : RoutineAnswers) (r : Run) → IsSo r.world → r.earlier < 256 → (s : Sentence) (left : Bytes) →
      coming_phrase (record { game = g; answers = answers }) r ≡ IsSentence s left → AreWords s
  phrase_words answers r k early s left e =
      parsed-bytes g r.pending r.earlier (flag r.world PRONOUN_NOUN_FLAG) (flag r.world PRONOUN_ADJECTIVE_FLAG) s left v early
      (flag_small g v seed n r.world k PRONOUN_NOUN_FLAG) (flag_small g v seed n r.world k PRONOUN_ADJECTIVE_FLAG) e
