-- How playing the two halves of a trial ends.
use Rattle.std.proofs.Common.{◌≡◌, ℕ, ◌+◌, ◌<◌, ◌≤◌, [], ◌++◌, Some, length, drop, refl, sym, ap, ◌∙◌, subst}
use Rattle.std.proofs.Common.{arith, append-nil}
use Rattle.std.specs.Prelude.{◌-◌, All}
use Rattle.std.proofs.lemmas.List.{drop_all}
use Rattle.paw_base.specs.Bytes.{Bytes, Lines}
use Rattle.paw_base.specs.declared.limits.TheConstants.{EVENT_LIMIT}
use Rattle.paw_stage.specs.Disk.{IsStable}
use Rattle.paw_stage.specs.inner.Memory.{Memory, empty, standing_of}
use Rattle.paw_stage.specs.Stage.{Standing, bytes_or_none}
use Rattle.paw_reading.specs.declared.halt.Halt.{Halt}
use Rattle.paw_reading.specs.declared.halt.Halt.TheVariants as halt
use Rattle.paw_reading.specs.Run.{Run}
use Rattle.paw_reading.specs.Turn.{Halted, reading}
use Rattle.paw_reading.specs.Bounds.{IsLine}
use Rattle.paw_play.specs.declared.PlayEnd.{PlayEnd}
use Rattle.paw_play.specs.declared.PlayEnd.TheVariants as play
use Rattle.paw_play.proofs.Halts.{ends_by_halt}
use Rattle.paw_play.specs.Walk.{end_halt, first_lines, WalkHalts}
use Rattle.paw_play.specs.inner.OnTheWay.{end_of_halt}
use Rattle.paw_play.specs.Stands.{Stands}
use Rattle.paw_play.specs.Played.{PlayedSession, session_begun, from_lines, from_played}
use Rattle.paw_play.specs.Keeping.{KeptBy}
use Rattle.paw_play.specs.Play.{PlaysOn, MadeAndPlayed, memory, halts, unmade, plays, unattached, occupied, starts_play}
use Rattle.paw_play.specs.Play.{NewSession, PlaysAgain, GoesOn}
use Rattle.paw_play.specs.Play.{store_bytes, attached_to, with_store}
use Rattle.paw_play.specs.Play as of
use Rattle.paw_play.proofs.Standing.{begun_stands, later_stands, again_goes_on}
use Rattle.paw_gen.specs.Trial.{trial_lines}
use Rattle.paw_trial.specs.declared.TrialEnd.{TrialEnd}
use Rattle.paw_trial.specs.Trial.{trial_story, trial_reading}
use Rattle.paw_trial.specs.inner.Trial.{trial_end, TrialStopsAs}
use Rattle.paw_trial.specs.declared.setup.Half.{Half}
use Rattle.paw_trial.specs.declared.setup.Half.TheVariants as half
use Rattle.paw_trial.specs.inner.Session.{Waits, first_half, second_half, half_lines, lines_by, IsReadyFor, PlaysHalf}
use Rattle.paw_trial.specs.inner.Session.{HoldsOrStops, stop_of, trial_store}
use Rattle.paw_trial.proofs.Lines.{first_are, second_are, both_halves, plays_first, all_taken, taken_and_left}
use Rattle.paw_trial.proofs.Stops.{stops_later, stops_since, waits_since}

-- ---- lines that are added ----

module _ (old new : Memory) (lines : Lines) (is : new ≡ record old { lines = old.lines ++ lines }) where
  added_lines : old.lines ≡ [] → (standing_of new).lines ≡ lines
  added_lines none = ap (λ (m : Memory). m.lines) is ∙ ap (λ l. l ++ lines) none

  pub added_stable : IsStable (standing_of old).disk → IsStable (standing_of new).disk
  added_stable stable = subst (λ (m : Memory). IsStable (standing_of m).disk) (sym is) stable

  added_bytes : store_bytes (standing_of old) trial_store ≡ store_bytes (standing_of new) trial_store
  added_bytes = ap (λ (m : Memory). store_bytes (standing_of m) trial_store) (sym is)

-- Nothing is unsynced at a stage that is ready for a half.
pub ready_stable : (h : Half) (n : ℕ) (m : Memory) → IsReadyFor h n m → IsStable (standing_of m).disk
ready_stable half.First n m is = subst (λ (x : Memory). IsStable (standing_of x).disk) (sym is) (record { same = refl; longest = refl; dirty = refl })
ready_stable half.Second n m holds = holds.stable

-- A trial stops as the reading does that has ended in this way.
stops_as : (halt : Halt) (r : Run) → TrialStopsAs (trial_end halt) (Halted halt r)
stops_as halt.Over r = refl
stops_as (halt.Spent kind) r = refl
stops_as (halt.TooDeep table) r = refl

-- Where play has ended in this way a trial stops.
stops_by : (halt : Halt) → stop_of (end_of_halt halt) ≡ Some (trial_end halt)
stops_by halt.Over = refl
stops_by (halt.Spent kind) = refl
stops_by (halt.TooDeep table) = refl

stop_halted : (o : PlayEnd) (halt : Halt) → end_halt o ≡ Some halt → stop_of o ≡ Some (trial_end halt)
stop_halted o halt e = ap stop_of (ends_by_halt o halt e) ∙ stops_by halt

-- Lines are played after others, with more lines after them, by a session of the store whose reading ends as that of
-- the others and these; what it keeps stands for them.
module _ (n : ℕ) (es lines rest : Lines) (all : (es ++ lines) ++ rest ≡ trial_lines n) (are : All IsLine lines) (s : PlayedSession)
    (named : s.name ≡ trial_store)
    (stops : (stop : TrialEnd) (fs : Lines) → TrialStopsAs stop (s.whole fs) → TrialStopsAs stop (reading (trial_story n) n (es ++ fs)))
    (waits : (fs : Lines) → Waits (s.whole fs) → Waits (reading (trial_story n) n (es ++ fs)))
    (stands : (k : ℕ) (bytes : Bytes) → k ≤ length lines → s.before + k ≤ EVENT_LIMIT → KeptBy s lines k bytes →
    Stands (trial_story n) n (es ++ first_lines k lines) bytes) where
  -- A trial that stops after k of them.
  stopped : (stop : TrialEnd) (k : ℕ) → TrialStopsAs stop (s.whole (first_lines k lines)) → TrialStopsAs stop (trial_reading n)
  stopped stop k h = stops_later n (es ++ first_lines k lines) (drop k lines ++ rest) stop
      (taken_and_left es lines rest k are ∙ all) (stops stop (first_lines k lines) h)

  halted : (halt : Halt) (most : ℕ) (old new : Standing) → old.lines ≡ lines → WalkHalts s.whole most (with_store new old) new halt →
      TrialStopsAs (trial_end halt) (trial_reading n)
  halted halt most old new is shows =
      stopped (trial_end halt) shows.0
      (subst (TrialStopsAs (trial_end halt)) (sym (sym (ap (λ x. s.whole (first_lines shows.0 x)) is) ∙ shows.4.reading))
      (stops_as halt shows.2))

  half_comes : (most : ℕ) (old new : Standing) (o : PlayEnd) → old.lines ≡ lines → PlaysOn s most old new o → HoldsOrStops n (es ++ lines) new (stop_of o)
  half_comes most old new play.InputEnded is p =
      let reads = p.shows.1.3 in
      let count : p.session.0 ≡ length lines = omega (arith, p.session.1, ap (λ (x : Standing). x.asked) reads.stands, ap length is) in
      let rests = p.session.2 in
      let taken : first_lines (length lines) lines ≡ lines = all_taken lines are in
      let read : first_lines (length old.lines) old.lines ≡ lines = ap (λ (x : Lines). first_lines (length x) x) is ∙ taken in
      let kept : Stands (trial_story n) n (es ++ lines) new.disk.bytes =
      subst (λ fs. Stands (trial_story n) n (es ++ fs) new.disk.bytes) (ap (λ k. first_lines k lines) count ∙ taken)
      (stands p.session.0 new.disk.bytes (omega (arith, count)) rests.few
      (subst (λ l. KeptBy s l p.session.0 new.disk.bytes) is rests.keeps)) in
      record {
        stable = rests.stable;
        none = ap (λ (x : Standing). x.lines) reads.stands ∙ drop_all (length old.lines) old.lines (omega arith);
        waits = waits lines (subst Waits (sym (sym (ap s.whole read) ∙ reads.reading)) tt);
        stands = subst (Stands (trial_story n) n (es ++ lines))
            (sym (ap bytes_or_none (subst (λ x. new.files x ≡ Some new.disk.bytes) named rests.file))) kept;
      }
  half_comes most old new play.Ended is p = halted halt.Over most old new is p.shows
  half_comes most old new (play.Spent kind) is p = halted (halt.Spent kind) most old new is p.shows
  half_comes most old new (play.TooDeep table) is p = halted (halt.TooDeep table) most old new is p.shows
  half_comes most old new (play.Occupied size) is p = tt
  half_comes most old new (play.Refused r) is p = tt
  half_comes most old new (play.State at) is p = tt
  half_comes most old new (play.Long events) is p = tt
  half_comes most old new (play.Outside c) is p = tt
  half_comes most old new play.Memory is p = tt

-- ---- the first half ----

module _ (n : ℕ) (old new : Standing) (is : old.lines ≡ first_half n) where
  made : (o : PlayEnd) → MadeAndPlayed (session_begun (trial_story n) n trial_store) old new o → HoldsOrStops n (first_half n) new (stop_of o)
  made _ (memory e) = tt
  made _ (halts o halt r by cut e same) =
      subst (λ x. HoldsOrStops n (first_half n) new x) (sym (stop_halted o halt by))
      (stops_later n [] (trial_lines n) (trial_end halt) refl (subst (TrialStopsAs (trial_end halt)) (sym e) (stops_as halt r)))
  made _ (unmade c w e stays) = tt
  made _ (plays o p) =
      half_comes n [] (first_half n) (second_half n) (both_halves n) (first_are n) (session_begun (trial_story n) n trial_store) refl
      (λ stop fs h. h) (λ fs h. h) (λ k bytes there few kept. begun_stands (trial_story n) n (first_half n) trial_store k bytes there (omega (arith, few)) kept)
      EVENT_LIMIT old new o is p

first_comes : (n : ℕ) (old new : Standing) (o : PlayEnd) → old.lines ≡ first_half n →
    NewSession (session_begun (trial_story n) n trial_store) old new o → HoldsOrStops n (first_half n) new (stop_of o)
first_comes n old new _ is (unattached u) = tt
first_comes n old new _ is (occupied some e) = tt
first_comes n old new _ is (starts_play o empty p) = made n (attached_to old trial_store) new is o p

-- ---- the second half ----

module _ (n : ℕ) (old new : Standing) (is : old.lines ≡ second_half n) (stands : Stands (trial_story n) n (first_half n) (store_bytes old trial_store)) where
  taken_up : (o : PlayEnd) → GoesOn (from_lines (trial_story n) n (first_half n) stands.digests trial_store) old new o →
      HoldsOrStops n (first_half n ++ second_half n) new (stop_of o)
  taken_up _ (of.unattached u) = tt
  taken_up _ (of.unread e) = tt
  taken_up _ (of.memory e) = tt
  taken_up _ (of.plays o p) =
      half_comes n (first_half n) (second_half n) [] (append-nil (first_half n ++ second_half n) ∙ both_halves n)
      (second_are n) (from_lines (trial_story n) n (first_half n) stands.digests trial_store) refl
      (λ stop fs h. stops_since (length (first_half n)) stop (reading (trial_story n) n (first_half n ++ fs)) h)
      (λ fs h. waits_since (length (first_half n)) (reading (trial_story n) n (first_half n ++ fs)) h)
      (λ k bytes there few kept. later_stands (trial_story n) n (first_half n) (second_half n) stands.digests trial_store k bytes stands.belongs there few kept)
      (EVENT_LIMIT - length (first_half n)) (attached_to old trial_store) new o is p

second_comes : (n : ℕ) (old new : Standing) (o : PlayEnd) → n < 65536 → old.lines ≡ second_half n →
    Stands (trial_story n) n (first_half n) (store_bytes old trial_store) →
    PlaysAgain (trial_story n) trial_store old new o → HoldsOrStops n (trial_lines n) new (stop_of o)
second_comes n old new o low is stands p =
    let played = plays_first n low in
    subst (λ lines. HoldsOrStops n lines new (stop_of o)) (both_halves n)
    (taken_up n old new is stands o
    (again_goes_on (trial_story n) trial_store old new (from_lines (trial_story n) n (first_half n) stands.digests trial_store) played.valid.game
    (from_played n (first_half n) played stands) o p))

-- ---- either half ----

pub played_half : (h : Half) (n : ℕ) (old added : Memory) (new : Standing) (o : PlayEnd) → n < 65536 → IsReadyFor h n old →
    added ≡ record old { lines = old.lines ++ half_lines h n } → PlaysHalf h n (standing_of added) new o →
    HoldsOrStops n (lines_by h n) new (stop_of o)
played_half half.First n old added new o low is e p =
    first_comes n (standing_of added) new o (added_lines old added (first_half n) e (ap (λ (m : Memory). m.lines) is)) p
played_half half.Second n old added new o low holds e p =
    second_comes n (standing_of added) new o low (added_lines old added (second_half n) e holds.none)
    (subst (Stands (trial_story n) n (first_half n)) (added_bytes old added (second_half n) e) holds.stands) p
