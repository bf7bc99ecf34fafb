-- Rounds of a session, one after the other.
use Rattle.paw_play.proofs.Names.{◌⊎◌, ◌≡◌, inl, inr, ℕ, zero, suc, ◌+◌, ◌<◌, ◌≤◌, List, [], ◌∷◌, ◌++◌, Some, None, refl, sym, ap, ◌∙◌, subst, length, take, append_assoc, append-nil, arith, ◌-◌, All, length-take, All-append, All-map, All-take, Bytes, Line, Lines, Name, Seed, EVENT_LIMIT, LINE_LIMIT, MayLeave, Standing, Files, Unattached, bytes_or_none, StageCall, IsOneOf, AreBytes, Story, IsLine, writing_calls, IsUnmade, recover, PlayEnd, first_lines, Stands, IsPlayedWith, PlayedSession, session_begun, from_lines, KeptBy, IsUpToDateWith, InPlay, InNewSession, RestsWith, PlaysOn, MadeAndPlayed, NewSession, GoesOn, NotYet, attached_to, store_bytes, memory, halts, unmade, plays, unattached, occupied, starts_play, unread, RoundStop, cut_at, came_to, Round, MayBeLeft, BeginsOver, FailsAtMoment, StopsWith, AreRounds, left_after, AreKept, AreKeptOf, RoundsStand}
use Rattle.paw_journal.proofs.Recovers.{unmade as no_session}
use Rattle.paw_stage.specs.declared.StageCall.TheVariants as call
use Rattle.paw_play.specs.declared.PlayEnd.TheVariants as end
use Rattle.paw_play.proofs.{Attaching.store_attached, Standing.begun_stands, Standing.later_stands}

-- ---- the bytes of the file ----

-- An attach leaves the bytes of its file.
attached_bytes : (old : Standing) (name : Name) → store_bytes (attached_to old name) name ≡ store_bytes old name
attached_bytes old name = ap bytes_or_none (store_attached old name).file

bytes_of : (old new : Standing) (name : Name) → new ≡ attached_to old name → store_bytes new name ≡ store_bytes old name
bytes_of old new name e = ap (λ (q : Standing). store_bytes q name) e ∙ attached_bytes old name

-- So does one that failed.
unattached_bytes : (old new : Standing) (name : Name) → Unattached old new → store_bytes new name ≡ store_bytes old name
unattached_bytes old new name (inl e) = ap (λ (q : Standing). store_bytes q name) e
unattached_bytes old new name (inr e) = ap (λ (q : Standing). store_bytes q name) e

-- And nothing is asked in either.
unattached_asked : (old new : Standing) → Unattached old new → new.asked ≡ old.asked + 0 + 0
unattached_asked old new (inl e) = ap (λ (q : Standing). q.asked) e ∙ omega arith
unattached_asked old new (inr e) = ap (λ (q : Standing). q.asked) e ∙ omega arith

attached_asked : (old new : Standing) (name : Name) → new ≡ attached_to old name → new.asked ≡ old.asked + 0 + 0
attached_asked old new name e = ap (λ (q : Standing). q.asked) e ∙ omega arith

-- Before the attach a crash leaves what the file had.
files_left : (old : Standing) (name left : Bytes) (m : Standing) → NotYet name old m → left ≡ bytes_or_none (m.files name) → left ≡ store_bytes old name
files_left old name left m n e = elim n.files [
  | inl same ↦ e ∙ ap (λ (f : Files). bytes_or_none (f name)) same
  | inr made ↦ e ∙ ap (λ (f : Files). bytes_or_none (f name)) made ∙ attached_bytes old name
]

not_yet_left : (r : Round) (bytes : Bytes) (m : Standing) → BeginsOver bytes r → NotYet r.name r.old m → MayBeLeft r.name m r.left → r.left ≡ bytes
not_yet_left r bytes m begins n (inr apart) = files_left r.old r.name r.left m n apart.1 ∙ begins.has
not_yet_left r bytes m begins n (inl is) = elim n.store [
  | inl before ↦ begins.settled r.left (inl (sym before.0 ∙ is.0, subst (λ d. MayLeave d r.left) before.1 is.1))
  | inr none ↦ absurd (let apart : Some r.name ≡ None = sym is.0 ∙ none in cc)
]

-- Of the attached store a crash leaves what the disk may leave.
store_left : (name left : Bytes) (m : Standing) → m.attached ≡ Some name → MayBeLeft name m left → MayLeave m.disk left
store_left name left m is (inl may) = may.1
store_left name left m is (inr apart) = absurd (apart.0 is)

-- ---- the lines of a round ----

-- Play ended with the store at rest: no write and no sync of it failed.
abbrev AtRest : PlayEnd → Type 0
AtRest (end.Outside call.Write) = ⊥
AtRest (end.Outside call.Sync) = ⊥
AtRest o = Unit {0}

-- n lines are kept of a round, and there is room for them; the bytes that it left keep them.
abbrev KeptOf : PlayedSession → Standing → RoundStop → Bytes → Type 0
KeptOf s old stop left = (n : ℕ) × AreKept old stop n × (n ≤ length old.lines) × (s.before + n ≤ EVENT_LIMIT) × KeptBy s old.lines n left

module _ (s : PlayedSession) (old : Standing) where
  -- Of one that a crash cut off all that were taken, or all but the last.
  kept_up : (m : Standing) (n : ℕ) (text left : Bytes) → n ≤ length old.lines → s.before + n ≤ EVENT_LIMIT → m.asked ≡ old.asked + n →
      IsUpToDateWith s old.lines n text left → KeptOf s old (cut_at m) left
  kept_up m zero text left there few asked kept = (0, inl asked, there, few, kept.0)
  kept_up m (suc n) text left there few asked (inl kept) = (suc n, inl asked, there, few, kept.0)
  kept_up m (suc n) text left there few asked (inr kept) = (n, inr asked, omega (arith, there), omega (arith, few), kept.0)

  cut_keeps : (m : Standing) (left : Bytes) → InPlay s old m → MayBeLeft s.name m left → KeptOf s old (cut_at m) left
  cut_keeps m left i may = kept_up m i.taken i.text left i.there i.few i.asked (i.leaves left (store_left s.name left m i.attached may))

  -- Of a round that ended by itself, all lines but those that are lost by its end.
  at_rest : (new : Standing) (o : PlayEnd) (n : ℕ) → AreKept old (came_to new o) n → RestsWith s (attached_to old s.name) new n →
      KeptOf s old (came_to new o) (store_bytes new s.name)
  at_rest new o n asked r = (n, asked, r.there, r.few, subst (KeptBy s old.lines n) (sym (ap bytes_or_none r.file)) r.keeps)

  came_keeps : (most : ℕ) (new : Standing) (o : PlayEnd) → PlaysOn s most (attached_to old s.name) new o → AtRest o →
      KeptOf s old (came_to new o) (store_bytes new s.name)
  came_keeps most new end.Ended p rest = at_rest new end.Ended p.session.0 (omega (arith, p.session.1)) p.session.2
  came_keeps most new end.InputEnded p rest = at_rest new end.InputEnded p.session.0 (omega (arith, p.session.1)) p.session.2
  came_keeps most new (end.Long events) p rest = at_rest new (end.Long events) p.session.0 (omega (arith, p.session.1)) p.session.2
  came_keeps most new (end.Outside call.Ask) p rest = at_rest new (end.Outside call.Ask) p.session.0 (omega (arith, p.session.1)) p.session.2
  came_keeps most new (end.Outside call.Show) p rest = at_rest new (end.Outside call.Show) p.session.0 (omega (arith, p.session.1)) p.session.2
  came_keeps most new (end.Spent kind) p rest = at_rest new (end.Spent kind) p.session.0 (omega (arith, p.session.1)) p.session.2
  came_keeps most new (end.TooDeep table) p rest = at_rest new (end.TooDeep table) p.session.0 (omega (arith, p.session.1)) p.session.2
  came_keeps most new (end.Outside call.Write) p rest = absurd rest
  came_keeps most new (end.Outside call.Sync) p rest = absurd rest
  came_keeps most new _ p rest = absurd p.shows

-- ---- the first round ----

empty_unmade : (left : Bytes) → left ≡ [] → IsUnmade (recover left)
empty_unmade left e = no_session left (inl (λ q. omega (arith, q, ap length e)))

no_writing : (c : StageCall) → IsOneOf writing_calls c → ¬ AtRest (end.Outside c)
no_writing c (inl e) = rw e (λ rest. rest)
no_writing c (inr (inl e)) = rw e (λ rest. rest)
no_writing c (inr (inr h)) = absurd h

module _ (g : Story) (seed : Seed) (r : Round) (begins : BeginsOver [] r) (made : ¬ IsUnmade (recover r.left)) where
  first_cut : (m : Standing) → (NotYet r.name r.old m ⊎ InNewSession (session_begun g seed r.name) r.old m) → MayBeLeft r.name m r.left →
      KeptOf (session_begun g seed r.name) r.old (cut_at m) r.left
  first_cut m (inl n) may = absurd (made (empty_unmade r.left (not_yet_left r [] m begins n may)))
  first_cut m (inr (inl i)) may = elim (i.leaves r.left (store_left r.name r.left m i.attached may)) [
    | inl none ↦ absurd (made none)
    | inr kept ↦ (0, inl (i.asked ∙ omega arith), omega arith, omega arith, kept)
  ]
  first_cut m (inr (inr i)) may = cut_keeps (session_begun g seed r.name) r.old m r.left i may

  still_empty : (new : Standing) → r.left ≡ store_bytes new r.name → store_bytes new r.name ≡ store_bytes r.old r.name → ⊥
  still_empty new left same = made (empty_unmade r.left (left ∙ same ∙ begins.has))

  first_in : (new : Standing) (o : PlayEnd) → MadeAndPlayed (session_begun g seed r.name) (attached_to r.old r.name) new o → AtRest o →
      r.left ≡ store_bytes new r.name → KeptOf (session_begun g seed r.name) r.old (came_to new o) (store_bytes new r.name)
  first_in new _ (memory e) rest left = absurd (still_empty new left (bytes_of r.old new r.name e))
  first_in new _ (halts o halt run by cut is e) rest left = absurd (still_empty new left (bytes_of r.old new r.name e))
  first_in new _ (unmade c is e stays) rest left = absurd (no_writing c is rest)
  first_in new _ (plays o p) rest left = came_keeps (session_begun g seed r.name) r.old EVENT_LIMIT new o p rest

  first_came : (new : Standing) (o : PlayEnd) → NewSession (session_begun g seed r.name) r.old new o → AtRest o → r.left ≡ store_bytes new r.name →
      KeptOf (session_begun g seed r.name) r.old (came_to new o) (store_bytes new r.name)
  first_came new _ (unattached u) rest left = absurd (still_empty new left (unattached_bytes r.old new r.name u))
  first_came new _ (occupied some e) rest left = absurd (omega (arith, some, ap length begins.has))
  first_came new _ (starts_play o empty p) rest left = first_in new o p rest left

  first_ended : (new : Standing) (o : PlayEnd) → NewSession (session_begun g seed r.name) r.old new o →
      FailsAtMoment (λ m. NotYet r.name r.old m ⊎ InNewSession (session_begun g seed r.name) r.old m) r.name new o →
      r.left ≡ store_bytes new r.name → KeptOf (session_begun g seed r.name) r.old (came_to new o) r.left
  first_ended new (end.Outside call.Write) comes now left =
      first_cut new now.moment (subst (MayBeLeft r.name new) (sym left) now.left)
  first_ended new (end.Outside call.Sync) comes now left =
      first_cut new now.moment (subst (MayBeLeft r.name new) (sym left) now.left)
  first_ended new o comes now left =
      subst (KeptOf (session_begun g seed r.name) r.old (came_to new o)) (sym left) (first_came new o comes tt left)

  first_stops : (stop : RoundStop) → StopsWith (λ m. NotYet r.name r.old m ⊎ InNewSession (session_begun g seed r.name) r.old m)
      (NewSession (session_begun g seed r.name) r.old) r.name r.left stop → KeptOf (session_begun g seed r.name) r.old stop r.left
  first_stops (cut_at m) stopped = first_cut m stopped.0 stopped.1
  first_stops (came_to new o) stopped = first_ended new o stopped.0 stopped.1 stopped.2

-- ---- a later round ----

-- n lines are kept of a round, and the bytes that it left stand for those before and these.
abbrev StandsBehind : Story → ℕ → Lines → Standing → RoundStop → Bytes → Type 0
StandsBehind g seed es old stop left = (n : ℕ) × AreKept old stop n × Stands g seed (es ++ first_lines n old.lines) left

module _ (g : Story) (seed : Seed) (es : Lines) (bytes : Bytes) (r : Round) (begins : BeginsOver bytes r) (stands : Stands g seed es bytes) where
  -- With no line more it stands for those before.
  none_more : (left : Bytes) → left ≡ bytes → Stands g seed (es ++ first_lines 0 r.old.lines) left
  none_more left e = subst (λ q. Stands g seed (es ++ []) q) (sym e) (subst (λ q. Stands g seed q bytes) (sym (append-nil es)) stands)

  -- What is kept of the session stands for those before and its own.
  more_stand : (stop : RoundStop) (left : Bytes) → KeptOf (from_lines g seed es stands.digests r.name) r.old stop left →
      StandsBehind g seed es r.old stop left
  more_stand stop left k =
      (k.0, k.1, later_stands g seed es r.old.lines stands.digests r.name k.0 left stands.belongs k.2 k.3 k.4)

  later_cut : (m : Standing) → (NotYet r.name r.old m ⊎ InPlay (from_lines g seed es stands.digests r.name) r.old m) → MayBeLeft r.name m r.left →
      StandsBehind g seed es r.old (cut_at m) r.left
  later_cut m (inl n) may = (0, inl (n.asked ∙ omega arith), none_more r.left (not_yet_left r bytes m begins n may))
  later_cut m (inr i) may = more_stand (cut_at m) r.left (cut_keeps (from_lines g seed es stands.digests r.name) r.old m r.left i may)

  later_came : (new : Standing) (o : PlayEnd) → GoesOn (from_lines g seed es stands.digests r.name) r.old new o → AtRest o →
      StandsBehind g seed es r.old (came_to new o) (store_bytes new r.name)
  later_came new _ (unattached u) rest =
      (0, unattached_asked r.old new u, none_more (store_bytes new r.name) (unattached_bytes r.old new r.name u ∙ begins.has))
  later_came new _ (unread e) rest =
      (0, attached_asked r.old new r.name e, none_more (store_bytes new r.name) (bytes_of r.old new r.name e ∙ begins.has))
  later_came new _ (memory e) rest =
      (0, attached_asked r.old new r.name e, none_more (store_bytes new r.name) (bytes_of r.old new r.name e ∙ begins.has))
  later_came new _ (plays o p) rest =
      more_stand (came_to new o) (store_bytes new r.name)
      (came_keeps (from_lines g seed es stands.digests r.name) r.old (EVENT_LIMIT - length es) new o p rest)

  later_ended : (new : Standing) (o : PlayEnd) → GoesOn (from_lines g seed es stands.digests r.name) r.old new o →
      FailsAtMoment (λ m. NotYet r.name r.old m ⊎ InPlay (from_lines g seed es stands.digests r.name) r.old m) r.name new o →
      r.left ≡ store_bytes new r.name → StandsBehind g seed es r.old (came_to new o) r.left
  later_ended new (end.Outside call.Write) comes now left =
      later_cut new now.moment (subst (MayBeLeft r.name new) (sym left) now.left)
  later_ended new (end.Outside call.Sync) comes now left =
      later_cut new now.moment (subst (MayBeLeft r.name new) (sym left) now.left)
  later_ended new o comes now left = subst (StandsBehind g seed es r.old (came_to new o)) (sym left) (later_came new o comes tt)

  later_stops : (stop : RoundStop) → StopsWith (λ m. NotYet r.name r.old m ⊎ InPlay (from_lines g seed es stands.digests r.name) r.old m)
      (GoesOn (from_lines g seed es stands.digests r.name) r.old) r.name r.left stop → StandsBehind g seed es r.old stop r.left
  later_stops (cut_at m) stopped = later_cut m stopped.0 stopped.1
  later_stops (came_to new o) stopped = later_ended new o stopped.0 stopped.1 stopped.2

-- ---- all rounds ----

cut_is_line : (line : Line) → AreBytes line → IsLine (take LINE_LIMIT line)
cut_is_line line are = record {
  short = omega (arith, length-take LINE_LIMIT line);
  bytes = All-take (λ b. b < 256) LINE_LIMIT line are;
}

first_are_lines : (n : ℕ) (lines : Lines) → All AreBytes lines → All IsLine (first_lines n lines)
first_are_lines n lines are = All-map IsLine (take LINE_LIMIT) (take n lines)
    (λ k d low. cut_is_line _ (All-take AreBytes n lines are k d low))

-- Rounds over bytes that stand.
later_rounds : (g : Story) (seed : Seed) (es : Lines) (bytes : Bytes) (rounds : List Round) →
    IsPlayedWith g seed es → Stands g seed es bytes → AreRounds g seed bytes rounds →
    (kept : Lines) × AreKeptOf rounds kept × Stands g seed (es ++ kept) (left_after bytes rounds)
later_rounds g seed es bytes [] played stands rounds = ([], refl, subst (λ fs. Stands g seed fs bytes) (sym (append-nil es)) stands)
later_rounds g seed es bytes (r ∷ more) played stands rounds =
    let is = rounds.0 in
    let kept = later_stops g seed es bytes r is.0 stands r.stop (is.1 es played stands) in
    let fs : Lines = first_lines kept.0 r.old.lines in
    let longer : IsPlayedWith g seed (es ++ fs) = record {
      valid = played.valid;
      fits = played.fits;
      lines = All-append IsLine es fs played.lines (first_are_lines kept.0 r.old.lines is.0.lines);
    } in
    let rest = later_rounds g seed (es ++ fs) r.left more longer kept.2 rounds.1 in
    (fs ++ rest.0, (kept.0, rest.0, kept.1, refl, rest.1), subst (λ all. Stands g seed all (left_after r.left more)) (append_assoc es fs rest.0) rest.2)

pub rounds_stand : RoundsStand
rounds_stand g seed first rounds valid fits is made more =
    let kept = first_stops g seed first is.0 made first.stop is.1 in
    let fs : Lines = first_lines kept.0 first.old.lines in
    let stands : Stands g seed fs first.left = begun_stands g seed first.old.lines first.name kept.0 first.left kept.2 (omega (arith, kept.3)) kept.4 in
    let played : IsPlayedWith g seed fs = record { valid = valid; fits = fits; lines = first_are_lines kept.0 first.old.lines is.0.lines } in
    let rest = later_rounds g seed fs first.left rounds played stands more in
    (fs ++ rest.0, (kept.0, rest.0, kept.1, refl, rest.1), rest.2)
