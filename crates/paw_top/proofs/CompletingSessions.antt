-- A session whose calls don't fail.
use Rattle.std.proofs.Common.{◌≡◌, ◌≢◌, ◌⊎◌, ℕ, ◌<◌, [], ◌∷◌, length, take, Some, refl, sym, ap, ◌∙◌, subst}
use Rattle.std.proofs.Common.{arith, inl, inr}
use Rattle.paw_base.specs.Bytes.{Bytes, Name, RoutineAnswers, Seed, zeros, Text}
use Rattle.paw_game.specs.Game.{GameLists}
use Rattle.paw_effects.specs.Story.{Story, story_of}
use Rattle.paw_state.specs.State.{State}
use Rattle.paw_state.specs.Fit.{Fit}
use Rattle.paw_stage.specs.Stage.{Standing}
use Rattle.paw_stage.specs.declared.StageCall.{StageCall}
use Rattle.paw_stage.specs.declared.StageCall.TheVariants as call
use Rattle.paw_journal.specs.Session.{Digests, BelongsTo, Recovered, Unmade, Damaged, Shown, recover, state_length}
use Rattle.paw_stage.specs.AcrossCalls.{IsOneOf}
use Rattle.paw_journal.specs.Journal.{writing_calls}
use Rattle.paw_journal.specs.declared.refusal.JournalRefusal.{JournalRefusal}
use Rattle.paw_journal.specs.declared.refusal.JournalRefusal.TheVariants as refusal
use Rattle.paw_play.specs.Session.{IsOfStory, kept_bytes, story_digests}
use Rattle.paw_reading.specs.declared.halt.Halt.{Halt}
use Rattle.paw_reading.specs.declared.halt.Halt.TheVariants as halt
use Rattle.paw_play.proofs.Halts.{ends_by_halt}
use Rattle.paw_play.specs.inner.OnTheWay.{end_of_halt}
use Rattle.paw_play.specs.Walk.{end_halt, EndingOf}
use Rattle.paw_play.specs.Play as session
use Rattle.paw_play.specs.Play.{ShowsAs, MadeAndPlayed, NewSession, Resumed, PlaysAgain, Refuses, attached_to}
use Rattle.paw_play.specs.Play.{store_bytes}
use Rattle.paw_play.specs.Played.{PlayedSession, ShowsState, session_begun}
use Rattle.paw_play.specs.declared.PlayEnd.{PlayEnd}
use Rattle.paw_play.specs.declared.PlayEnd.TheVariants as end
use Rattle.paw_top.specs.Completes.{IsUnhindered}
use Rattle.paw_top.specs.inner.Completes.{IsWalked, halted, out_of_lines, full, no_memory, Comes, CompletesNew}
use Rattle.paw_top.specs.inner.Completes.{CompletesAgain, CompletesImage}
use Rattle.paw_top.specs.Ends.{outcome_of, refused_as}
use Rattle.paw_top.specs.Sessions.{PlaysNewIn, PlaysAgainIn}
use Rattle.paw_top.specs.declared.outcome.Outcome.{Outcome}
use Rattle.paw_top.specs.declared.outcome.Outcome.TheVariants as outcome
use Rattle.paw_top.specs.declared.outcome.MemoryAt.{MemoryAt}
use Rattle.paw_top.specs.declared.outcome.MemoryAt.TheVariants as memory
use Rattle.paw_top.proofs.Completing.{hindered, completes_file}

-- Playing on ends.
plays_on : (whole : EndingOf) (most : ℕ) (old new : Standing) (o : PlayEnd) → ShowsAs whole most old new o →
    IsUnhindered (outcome_of o) → IsWalked (outcome_of o)
plays_on whole most old new (end.Outside call.Write) s free = absurd (hindered call.Write (λ q. cc) free)
plays_on whole most old new (end.Outside call.Sync) s free = absurd (hindered call.Sync (λ q. cc) free)
plays_on whole most old new end.Ended s free = halted halt.Over
plays_on whole most old new end.InputEnded s free = out_of_lines
plays_on whole most old new (end.Occupied n) s free = absurd s
plays_on whole most old new (end.Refused r) s free = absurd s
plays_on whole most old new (end.State at) s free = absurd s
plays_on whole most old new (end.Spent kind) s free = halted (halt.Spent kind)
plays_on whole most old new (end.TooDeep table) s free = halted (halt.TooDeep table)
plays_on whole most old new (end.Long events) s free = full events
plays_on whole most old new end.Memory s free = absurd s
plays_on whole most old new (end.Outside call.Ask) s free = absurd (hindered call.Ask (λ q. cc) free)
plays_on whole most old new (end.Outside call.Show) s free = absurd (hindered call.Show (λ q. cc) free)
plays_on whole most old new (end.Outside call.Load) s free = absurd s
plays_on whole most old new (end.Outside call.LoadAbsent) s free = absurd s
plays_on whole most old new (end.Outside call.Save) s free = absurd s
plays_on whole most old new (end.Outside call.Attach) s free = absurd s
plays_on whole most old new (end.Outside call.Read) s free = absurd s

-- ---- a new session ----

-- A session isn't made where a write or a sync fails.
no_writing : (c : StageCall) → IsOneOf writing_calls c → c ≢ call.LoadAbsent
no_writing c (inl h) = λ q. cc
no_writing c (inr (inl h)) = λ q. cc
no_writing c (inr (inr h)) = absurd h

-- A halt ends a walk.
halted_walked : (o : PlayEnd) (ended : Halt) → end_halt o ≡ Some ended → IsWalked (outcome_of o)
halted_walked o ended e = subst (λ x. IsWalked (outcome_of x)) (sym (ends_by_halt o ended e)) (walked ended)
  where
    walked : (h : Halt) → IsWalked (outcome_of (end_of_halt h))
    walked halt.Over = halted halt.Over
    walked (halt.Spent kind) = halted (halt.Spent kind)
    walked (halt.TooDeep table) = halted (halt.TooDeep table)

starts_play : (s : PlayedSession) (old new : Standing) (o : PlayEnd) → MadeAndPlayed s old new o → IsUnhindered (outcome_of o) → IsWalked (outcome_of o)
starts_play s old new _ (session.memory e) free = no_memory memory.Play
starts_play s old new _ (session.halts o halt r by cut is e) free = halted_walked o halt by
starts_play s old new _ (session.unmade c w e stays) free = absurd (hindered c (no_writing c w) free)
starts_play s old new _ (session.plays o p) free = plays_on _ _ old new o p.shows free

-- A store with bytes is refused for their number.
occupied_so : (bytes : Bytes) → 0 < length bytes → CompletesNew bytes (outcome.Occupied (length bytes))
occupied_so [] h = absurd (omega (arith, h))
occupied_so (b ∷ bytes) h = refl

plays_new : (s : PlayedSession) (old new : Standing) (o : PlayEnd) → NewSession s old new o → IsUnhindered (outcome_of o) →
    CompletesNew (store_bytes old s.name) (outcome_of o)
plays_new s old new _ (session.unattached u) free = absurd (hindered call.Attach (λ q. cc) free)
plays_new s old new _ (session.occupied h e) free = occupied_so (store_bytes old s.name) h
plays_new s old new _ (session.starts_play o e p) free =
    subst (λ bytes. CompletesNew bytes (outcome_of o)) (sym e) (starts_play s _ new o p free)

new_memory : (bytes : Bytes) (at : MemoryAt) → CompletesNew bytes (outcome.Memory at)
new_memory [] at = no_memory at
new_memory (b ∷ bytes) at = tt

pub completes_play : (answers : RoutineAnswers) (name store : Bytes) (seed : Seed) (old new : Standing)
    (o : Outcome) → PlaysNewIn answers name store seed old new o →
    IsUnhindered o → CompletesImage name (λ g. CompletesNew (store_bytes old store)) old o
completes_play answers name store seed old new o p free =
    completes_file name (λ g. CompletesNew (store_bytes old store)) old new o p
    (λ g end q free. plays_new (session_begun (story_of g answers) seed store) old new end q free)
    (λ g at. new_memory (store_bytes old store) at) free

-- ---- a session that is taken up again ----

-- Bytes show one session: its digests, its state and its piece.
same_digests : (d c : Digests) (s t p q : Bytes) (r : Recovered) → r ≡ Shown d s p → r ≡ Shown c t q → d ≡ c
same_digests d c s t p q r h k = let e : Shown d s p ≡ Shown c t q = sym h ∙ k in cc

same_state : (d c : Digests) (s t p q : Bytes) → Shown d s p ≡ Shown c t q → s ≡ t
same_state d c s t p q e = cc

same_piece : (d c : Digests) (s t p q : Bytes) (r : Recovered) → r ≡ Shown d s p → r ≡ Shown c t q → p ≡ q
same_piece d c s t p q r h k = let e : Shown d s p ≡ Shown c t q = sym h ∙ k in cc

-- Equal digests name the same game.
game_of : (d c : Digests) → d ≡ c → d.game ≡ c.game
game_of d c e = ap (λ (x : Digests). x.game) e

routines_of : (d c : Digests) → d ≡ c → d.routines ≡ c.routines
routines_of d c e = ap (λ (x : Digests). x.routines) e

-- Routines that the session doesn't keep, or that are the story's, aren't others.
no_others : (kept own : Bytes) → (kept ≡ zeros 32) ⊎ (kept ≡ own) → kept ≢ zeros 32 → kept ≢ own → ⊥
no_others kept own (inl h) none other = none h
no_others kept own (inr h) none other = other h

-- Bytes that give no session of the story show none.
not_shown : (own d : Digests) (bytes state piece : Bytes) (r : JournalRefusal) → BelongsTo own.game own.routines d → Refuses own bytes r →
    recover bytes ≡ Shown d state piece → ⊥
not_shown own d bytes state piece (refusal.Unmade n mark) b h is = let e : Unmade n mark ≡ Shown d state piece = sym h ∙ is in cc
not_shown own d bytes state piece (refusal.Damaged p at) b h is = let e : Damaged p at ≡ Shown d state piece = sym h ∙ is in cc
not_shown own d bytes state piece (refusal.WrongGame kept found) b h is =
    h.5 (h.4 ∙ game_of h.0 d (same_digests h.0 d h.1 state h.2 piece (recover bytes) h.3 is) ∙ b.of_game)
not_shown own d bytes state piece (refusal.WrongRoutines kept found) b h is =
    let mine : kept ≡ d.routines = h.5 ∙ routines_of h.0 d (same_digests h.0 d h.1 state h.2 piece (recover bytes) h.3 is) in
    no_others d.routines own.routines b.of_routines (λ q. h.6 (mine ∙ q)) (λ q. h.7 (mine ∙ q))
not_shown own d bytes state piece (refusal.Outside c) b h is = h

-- Bytes are refused in one way.
one_refusal : (own : Digests) (bytes : Bytes) (r q : JournalRefusal) → Refuses own bytes r → Refuses own bytes q → r ≡ q
one_refusal own bytes (refusal.Unmade n mark) (refusal.Unmade m other) h k = let e : Unmade n mark ≡ Unmade m other = sym h ∙ k in cc
one_refusal own bytes (refusal.Unmade n mark) (refusal.Damaged p at) h k = let e : Unmade n mark ≡ Damaged p at = sym h ∙ k in cc
one_refusal own bytes (refusal.Unmade n mark) (refusal.WrongGame kept found) h k = let e : Unmade n mark ≡ Shown k.0 k.1 k.2 = sym h ∙ k.3 in cc
one_refusal own bytes (refusal.Unmade n mark) (refusal.WrongRoutines kept found) h k = let e : Unmade n mark ≡ Shown k.0 k.1 k.2 = sym h ∙ k.3 in cc
one_refusal own bytes (refusal.Damaged p at) (refusal.Unmade m other) h k = let e : Damaged p at ≡ Unmade m other = sym h ∙ k in cc
one_refusal own bytes (refusal.Damaged p at) (refusal.Damaged q place) h k = let e : Damaged p at ≡ Damaged q place = sym h ∙ k in cc
one_refusal own bytes (refusal.Damaged p at) (refusal.WrongGame kept found) h k = let e : Damaged p at ≡ Shown k.0 k.1 k.2 = sym h ∙ k.3 in cc
one_refusal own bytes (refusal.Damaged p at) (refusal.WrongRoutines kept found) h k = let e : Damaged p at ≡ Shown k.0 k.1 k.2 = sym h ∙ k.3 in cc
one_refusal own bytes (refusal.WrongGame kept found) (refusal.Unmade m other) h k = let e : Shown h.0 h.1 h.2 ≡ Unmade m other = sym h.3 ∙ k in cc
one_refusal own bytes (refusal.WrongGame kept found) (refusal.Damaged q place) h k = let e : Shown h.0 h.1 h.2 ≡ Damaged q place = sym h.3 ∙ k in cc
one_refusal own bytes (refusal.WrongGame kept found) (refusal.WrongGame other place) h k =
    let e : kept ≡ other = h.4 ∙ game_of h.0 k.0 (same_digests h.0 k.0 h.1 k.1 h.2 k.2 (recover bytes) h.3 k.3) ∙ sym k.4 in
    let f : found ≡ place = h.6 ∙ sym k.6 in
    cc
one_refusal own bytes (refusal.WrongGame kept found) (refusal.WrongRoutines other place) h k =
    absurd (h.5 (h.4 ∙ game_of h.0 k.0 (same_digests h.0 k.0 h.1 k.1 h.2 k.2 (recover bytes) h.3 k.3) ∙ k.4))
one_refusal own bytes (refusal.WrongRoutines kept found) (refusal.Unmade m other) h k = let e : Shown h.0 h.1 h.2 ≡ Unmade m other = sym h.3 ∙ k in cc
one_refusal own bytes (refusal.WrongRoutines kept found) (refusal.Damaged q place) h k = let e : Shown h.0 h.1 h.2 ≡ Damaged q place = sym h.3 ∙ k in cc
one_refusal own bytes (refusal.WrongRoutines kept found) (refusal.WrongGame other place) h k =
    absurd (k.5 (k.4 ∙ game_of k.0 h.0 (same_digests k.0 h.0 k.1 h.1 k.2 h.2 (recover bytes) k.3 h.3) ∙ h.4))
one_refusal own bytes (refusal.WrongRoutines kept found) (refusal.WrongRoutines other place) h k =
    let e : kept ≡ other = h.5 ∙ routines_of h.0 k.0 (same_digests h.0 k.0 h.1 k.1 h.2 k.2 (recover bytes) h.3 k.3) ∙ sym k.5 in
    let f : found ≡ place = h.8 ∙ sym k.8 in
    cc
one_refusal own bytes (refusal.Outside c) q h k = absurd h
one_refusal own bytes r (refusal.Outside c) h k = absurd k

-- A refusal that is due came.
comes_so : (r q : JournalRefusal) → r ≡ q → Comes (refused_as q) (refused_as r)
comes_so r (refusal.Unmade n mark) e = rw e refl
comes_so r (refusal.Damaged p at) e = rw e refl
comes_so r (refusal.WrongGame kept found) e = rw e refl
comes_so r (refusal.WrongRoutines kept found) e = rw e refl
comes_so r (refusal.Outside c) e = rw e refl

again_memory : (g : Story) (bytes : Bytes) (at : MemoryAt) → CompletesAgain g bytes (outcome.Memory at)
again_memory g bytes at = record { shown = λ d st piece b h. no_memory at; refused = λ r h. tt; no_state = λ d state piece b is not. (0, tt) }

-- A session of no state of the game shows none.
is_unfit : (g : GameLists) (d c : Digests) (bytes state piece : Bytes) → recover bytes ≡ Shown d (take state_length state) piece → ¬ Fit g state →
    (st : State) (p : Text) → ShowsState g c bytes st p → ⊥
unfolding kept_bytes
is_unfit g d c bytes state piece is not st p h =
    let e : Shown d (take state_length state) piece ≡ Shown c (kept_bytes st) p = sym is ∙ h.shown in
    not (record { state = st; valid = h.valid; fits = h.fits; are = same_state _ _ _ _ _ _ e })

-- A session that shows a state shows no other bytes.
shows_other : (g : GameLists) (d c : Digests) (bytes state p q : Bytes) (st : State) → recover bytes ≡ Shown c state q → ShowsState g d bytes st p →
    ((s : State) → ¬ ShowsState g c bytes s q) → ⊥
shows_other g d c bytes state p q st is h not =
    not st (subst (λ x. ShowsState g c bytes st x) (same_piece d c _ _ _ _ (recover bytes) h.shown is)
    (subst (λ x. ShowsState g x bytes st p) (same_digests d c _ _ _ _ (recover bytes) h.shown is) h))

resumed : (g : Story) (d : Digests) (name : Name) (old new : Standing) (o : PlayEnd) → IsOfStory g d → Resumed g d name old new o →
    IsUnhindered (outcome_of o) → CompletesAgain g old.disk.bytes (outcome_of o)
resumed g d name old new _ mine (session.memory e) free = again_memory g old.disk.bytes memory.Play
resumed g d name old new _ mine (session.no_state at state piece is not fault e) free = record {
  shown = λ c st p b h. absurd (is_unfit g.game d c old.disk.bytes state piece is not st p h);
  refused = λ r h. absurd (not_shown (story_digests g) d old.disk.bytes (take state_length state) piece r mine h is);
  no_state = λ c s p b h k. (at, refl);
}
resumed g d name old new _ mine (session.plays_on o st piece h p) free = record {
  shown = λ c s q b k. plays_on _ _ old new o p.shows free;
  refused = λ r k. absurd (not_shown (story_digests g) d old.disk.bytes (kept_bytes st) piece r mine k h.shown);
  no_state = λ c s q b is k. absurd (shows_other g.game d c old.disk.bytes s piece q st is h k);
}

plays_again : (g : Story) (name : Name) (old new : Standing) (o : PlayEnd) → PlaysAgain g name old new o → IsUnhindered (outcome_of o) →
    CompletesAgain g (store_bytes old name) (outcome_of o)
plays_again g name old new _ (session.unattached u) free = absurd (hindered call.Attach (λ q. cc) free)
plays_again g name old new _ (session.unread e) free = absurd (hindered call.Read (λ q. cc) free)
plays_again g name old new _ (session.without_memory e) free = again_memory g (store_bytes old name) memory.Play
plays_again g name old new _ (session.refused r h e) free = record {
  shown = λ d st piece b k. absurd (not_shown (story_digests g) d (store_bytes old name) (kept_bytes st) piece r b h k.shown);
  refused = λ q k. comes_so r q (one_refusal (story_digests g) (store_bytes old name) r q h k);
  no_state = λ d state piece b is k. absurd (not_shown (story_digests g) d (store_bytes old name) state piece r b h is);
}
plays_again g name old new _ (session.resumes_play o d mine p) free = resumed g d name (attached_to old name) new o mine p free

pub completes_resume : (answers : RoutineAnswers) (name store : Bytes) (old new : Standing) (o : Outcome) → PlaysAgainIn answers name store old new o →
    IsUnhindered o → CompletesImage name (λ g. CompletesAgain (story_of g answers) (store_bytes old store)) old o
completes_resume answers name store old new o p free =
    completes_file name (λ h. CompletesAgain (story_of h answers) (store_bytes old store)) old new o p
    (λ g end q free. plays_again (story_of g answers) store old new end q free)
    (λ h at. again_memory (story_of h answers) (store_bytes old store) at) free
