-- What the bytes of a session's state count.
use Rattle.std.proofs.Common.{◌≡◌, ℕ, ◌<◌, ◌++◌, length, get_or, take, sym, ap, ◌∙◌, arith}
use Rattle.std.specs.Prelude.{slice_index, codes, decimal}
use Rattle.std.proofs.lemmas.List.{get_or_append_left, get_or-take}
use Rattle.paw_base.specs.Bytes.{Bytes, Text}
use Rattle.paw_base.specs.declared.flags.TheConstants.{LOW_TURNS_FLAG, HIGH_TURNS_FLAG, LOCATION_FLAG, CARRIED_FLAG}
use Rattle.paw_base.specs.declared.limits.TheConstants.{FLAG_COUNT}
use Rattle.paw_game.specs.Game.{GameLists}
use Rattle.paw_reading.specs.Turn.{Ending, WaitsAt}
use Rattle.paw_journal.specs.Session.{Digests, Recovered, Shown, recover, state_length}
use Rattle.paw_state.specs.State.{State}
use Rattle.paw_state.specs.State.{state_at}
use Rattle.paw_state.proofs.EachField.{state_same}
use Rattle.paw_play.specs.Session.{kept_bytes, IsKept}
use Rattle.paw_play.specs.Stands.{Stands}
use Rattle.paw_play.proofs.Going.{IsSettled}
use Rattle.paw_play.proofs.Settling.{reading_settles}
use Rattle.paw_gen.specs.Trial.{trial_game, trial_lines, location_count, object_count, line_count}
use Rattle.paw_trial.specs.declared.Tally.{Tally}
use Rattle.paw_trial.specs.Trial.{trial_story, trial_reading}
use Rattle.paw_trial.specs.inner.Trial.{IsTextOf}
use Rattle.paw_trial.specs.inner.Session.{Waits, IsTallyOf, tally_in, tally_of}
use Rattle.paw_trial.proofs.Lines.{plays_all, few_lines}

-- The flags come first in a state's bytes.
flags_first : (s : State) (i : ℕ) → i < length s.world.flags → slice_index (kept_bytes s) i ≡ slice_index s.world.flags i
unfolding kept_bytes
flags_first s i low = ap (λ (l : Bytes). get_or l i 0) (state_same s) ∙ get_or_append_left s.world.flags _ 0 i low

same_state : (d e : Digests) (s p t q : Bytes) → Shown d s p ≡ Shown e t q → s ≡ t
same_state d e s p t q h = cc

module _ (g : GameLists) (n : ℕ) (buffer piece : Bytes) (r : Recovered) (digests : Digests) (is : r ≡ Shown digests (take state_length buffer) piece) where
  counts : (e : Ending) (own : Digests) → IsSettled g n e → Waits e → IsKept own n e r → IsTallyOf e (tally_in buffer)
  counts (WaitsAt p path s) own settled w kept =
      let same : take state_length buffer ≡ kept_bytes (state_at n p path s) = same_state _ _ _ _ _ _ (sym is ∙ kept.shown) in
      let size : length s.world.flags ≡ FLAG_COUNT = settled.valid.world.flags in
      let flag_at : (i : ℕ) → i < FLAG_COUNT → slice_index buffer i ≡ slice_index s.world.flags i = λ i low.
      sym (get_or-take state_length buffer i 0 (omega (arith, low)))
      ∙ (ap (λ xs. get_or xs i 0) same ∙ flags_first (state_at n p path s) i (omega (arith, low, size))) in
      let a = flag_at LOW_TURNS_FLAG (omega arith) in
      let b = flag_at HIGH_TURNS_FLAG (omega arith) in
      let c = flag_at LOCATION_FLAG (omega arith) in
      let d = flag_at CARRIED_FLAG (omega arith) in
      cc
  counts _ own settled w kept = absurd w

pub trial_counts : (n : ℕ) (bytes buffer piece : Bytes) (digests : Digests) → n < 65536 → Waits (trial_reading n) →
    Stands (trial_story n) n (trial_lines n) bytes →
    recover bytes ≡ Shown digests (take state_length buffer) piece → IsTallyOf (trial_reading n) (tally_in buffer)
trial_counts n bytes buffer piece digests low waits stands is =
    counts (trial_game n) (length (trial_lines n)) buffer piece (recover bytes) digests is (trial_reading n) stands.digests
    (reading_settles (trial_story n) n (trial_lines n) (plays_all n low) (omega (arith, few_lines n))) waits stands.keeps

record Counted : Type 0 where
  locations : ℕ
  objects : ℕ
  events : ℕ
  tally : Tally

all_counted : (n locations objects events : ℕ) (t u : Tally) → locations ≡ location_count n → objects ≡ object_count n → events ≡ line_count n → t ≡ u →
    ◌≡◌ {A = Counted} (record { locations = locations; objects = objects; events = events; tally = t })
    (record { locations = location_count n; objects = object_count n; events = line_count n; tally = u })
all_counted n locations objects events t u l o ev e = cc

-- The line of what a session counts.
pub told_counts : (n locations objects events : ℕ) (e : Ending) (t : Tally) (text : Text) → IsTallyOf e t → locations ≡ location_count n →
    objects ≡ object_count n → events ≡ line_count n →
    text ≡ codes "TRIAL " ++ (decimal n ++ (codes ": " ++ (decimal locations ++ (codes " locations, " ++ (decimal objects ++ (codes " objects, "
    ++ (decimal events
    ++ (codes " events, " ++ (decimal t.turns ++ (codes " turns, at " ++ (decimal t.at ++ (codes " with " ++ (decimal t.carried ++ codes "\n"))))))))))))) →
    IsTextOf n e text
told_counts n locations objects events (WaitsAt p path r) t text is l o ev e =
    e ∙ ap (λ (x : Counted). codes "TRIAL "
    ++ (decimal n ++ (codes ": " ++ (decimal x.locations ++ (codes " locations, " ++ (decimal x.objects ++ (codes " objects, "
    ++ (decimal x.events
    ++ (codes " events, "
    ++ (decimal x.tally.turns ++ (codes " turns, at " ++ (decimal x.tally.at ++ (codes " with " ++ (decimal x.tally.carried ++ codes "\n"))))))))))))))
    (all_counted n locations objects events t (tally_of r.world) l o ev is)
told_counts n locations objects events _ t text is l o ev e = absurd is
