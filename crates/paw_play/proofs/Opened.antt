-- An open session: what a piece that was played is in its reading, and what a commit keeps of it.
use Rattle.paw_play.proofs.Names.{◌≡◌, inl, inr, ℕ, suc, ◌+◌, ◌<◌, ◌≤◌, List, [], ◌∷◌, ◌++◌, Option, Some, None, refl, sym, ap, ◌∙◌, subst, arith, append_assoc, reverse, MatchOption, Ok, Err, concat, append-nil, Bytes, Line, Lines, Text, Texts, EVENT_LIMIT, Standing, Story, Prompt, StepRow, WaitsAt, Halted, going_on_from, text_of, PlayerView, PlaysTo, IsSeated, IsStanding, StandsClosed, run_at, Step, Digests, Recovered, Shown, recover, kept_digests, digests_of, PlayEnd, IsKept, EndingOf, PlayedSession, call_of_end, Plain, end_if_no_piece, CommitsPlayer, InCommit, MakesPlayer, InMake, seat_state, ReadsOn, HasPlayed, WaitsAfter, HaltsAfter, HoldsPlayer, KeepsAfter, IsOpen, StopsAt, TakesLineTo, InTaking, StopsAtOnce, PlaysFirst, BeginsTo, InBeginning, StopsAtState}
use Rattle.paw_reading.specs.declared.halt.Halt.TheVariants as halt
use Rattle.paw_turn.specs.declared.Step.TheVariants as step
use Rattle.paw_play.specs.declared.PlayEnd.TheVariants as end
use Rattle.paw_play.proofs.{Kept.step_kept, ShownSteps.shows_piece, Walking.on_waits, Walking.text_shown, Written.base_is, Written.piece_is, Written.committed_same, Written.made_same}

-- ---- a piece that was played ----

module _ {F : Type 0} (g : Story) (whole after : EndingOf) (now : Lines) (next : PlayerView F) (pieces : Texts) (traces : List (List StepRow))
    (seated : IsSeated next) (goes : (lines : Lines) → whole (now ++ lines) ≡ after lines) where
  read_all : whole now ≡ after []
  read_all = ap whole (sym (append-nil now)) ∙ goes []

  reads_on : (found : Step) → next.last ≡ found → IsStanding found → PlaysTo g after found next pieces traces →
      (ts : List (List StepRow)) × ReadsOn g (λ lines. whole (now ++ lines)) next.last next (pieces ++ next.piece ∷ []) ts
  reads_on (step.Waits p) last shows plays =
      let on = subst (λ s. ReadsOn g (λ lines. whole (now ++ lines)) s next (pieces ++ next.piece ∷ []) (traces ++ plays.0 ∷ [])) (sym last)
      (λ lines. goes lines ∙ plays.1.1 lines) in (traces ++ plays.0 ∷ [], on)
  reads_on step.Ended last shows plays =
      let on = subst (λ s. ReadsOn g (λ lines. whole (now ++ lines)) s next (pieces ++ next.piece ∷ []) (traces ++ plays.0 ∷ [])) (sym last)
      (λ lines. goes lines ∙ plays.1.1 lines) in (traces ++ plays.0 ∷ [], on)
  reads_on (step.Spent kind) last shows plays = absurd shows
  reads_on (step.TooDeep table) last shows plays = absurd shows

  module _ (found : Step) (last : next.last ≡ found) (shows : IsStanding found) (plays : PlaysTo g after found next pieces traces) where
    machine_stands : StandsClosed found next.machine
    machine_stands = subst (λ q. StandsClosed q next.machine) last seated.machine

    -- A session keeps it, once it shows the player.
    pub step_keeps : HoldsPlayer whole now next
    step_keeps digests events = subst (λ e. IsKept digests events e (Shown digests (seat_state events next) next.piece)) (sym read_all)
        (step_kept g digests events after found next pieces traces shows last machine_stands plays)

    pub step_played : (earlier : Text) → earlier ≡ concat pieces → HasPlayed g whole now next earlier next.piece
    step_played earlier before =
        let on = reads_on found last shows plays in
        let none : Digests = record { game = []; routines = [] } in
        record {
          pieces = pieces ++ next.piece ∷ [];
          traces = on.0;
          goes_on = on.1;
          text = ap text_of read_all ∙ text_shown Plain g after found next pieces traces tt tt shows machine_stands plays
              ∙ ap (λ t. t ++ next.piece) (sym before);
          last = sym (piece_is none 0 (whole now) (seat_state 0 next) next.piece (step_keeps none 0));
        }

-- A step without a piece ends the reading for good.
step_halts : {F : Type 0} (g : Story) (whole after : EndingOf) (now : Lines) (next : PlayerView F) (pieces : Texts) (traces : List (List StepRow))
    (text : Text) → (lines : Lines) → whole now ≡ after [] → text ≡ concat pieces → (found : Step) → (o : PlayEnd) → PlaysTo g after found next pieces traces →
    end_if_no_piece found ≡ Some o → (P : PlayEnd → Type 0) →
    ((kind : _) → HaltsAfter whole now text (halt.Spent kind) → P (end.Spent kind)) →
    ((table : ℕ) → HaltsAfter whole now text (halt.TooDeep table) → P (end.TooDeep table)) → P o
step_halts g whole after now next pieces traces text lines all is (step.Waits p) o plays e P spent deep = cc
step_halts g whole after now next pieces traces text lines all is step.Ended o plays e P spent deep = cc
step_halts g whole after now next pieces traces text lines all is (step.Spent kind) o plays e P spent deep =
    let k : end.Spent kind ≡ o = cc in
    let r = plays.1 [] in
    subst P k (spent kind (r.0, all ∙ r.1, r.4, ap concat r.2 ∙ sym is))
step_halts g whole after now next pieces traces text lines all is (step.TooDeep table) o plays e P spent deep =
    let k : end.TooDeep table ≡ o = cc in
    let r = plays.1 [] in
    subst P k (deep table (r.0, all ∙ r.1, r.4, ap concat r.2 ∙ sym is))

-- ---- where a player has played some lines ----

-- The line could be taken, and the player has played it too.
abbrev Brings : {F : Type 0} → Story → EndingOf → ℕ → Lines → Line → PlayerView F → Type 0
Brings g whole events taken line next = (events < EVENT_LIMIT) × WaitsAfter whole taken
    × HasPlayed g whole (taken ++ line ∷ []) next (text_of (whole taken)) next.piece × HoldsPlayer whole (taken ++ line ∷ []) next
    × (StopsAtState g.game events (whole taken) → StopsAtState g.game (events + 1) (whole (taken ++ line ∷ [])))

module _ {F : Type 0} {g : Story} {whole : EndingOf} {taken : Lines} {seat : PlayerView F} {earlier piece : Text}
    (h : HasPlayed g whole taken seat earlier piece) where
  goes_here : (p : Prompt) → seat.last ≡ step.Waits p → (lines : Lines) →
      whole (taken ++ lines) ≡ going_on_from g p (reverse seat.machine.frames) (run_at seat h.pieces h.traces lines)
  goes_here p last = subst (λ s. ReadsOn g (λ lines. whole (taken ++ lines)) s seat h.pieces h.traces) last h.goes_on

  pub waits_here : (p : Prompt) → seat.last ≡ step.Waits p → IsSeated seat →
      whole taken ≡ WaitsAt p (reverse seat.machine.frames) (run_at seat h.pieces h.traces [])
  waits_here p last seated =
      ap whole (sym (append-nil taken)) ∙ goes_here p last []
      ∙ on_waits g p seat.machine (run_at seat h.pieces h.traces []) (subst (λ s. StandsClosed s seat.machine) last seated.machine)

  pub over_here : seat.last ≡ step.Ended → whole taken ≡ Halted halt.Over (run_at seat h.pieces h.traces [])
  over_here last =
      ap whole (sym (append-nil taken))
      ∙ subst (λ s. ReadsOn g (λ lines. whole (taken ++ lines)) s seat h.pieces h.traces) last h.goes_on []

  pub over_stops : (events : ℕ) (line : Line) → seat.last ≡ step.Ended → StopsAt whole events taken line end.Ended
  over_stops events line last =
      let e = over_here last in (run_at seat h.pieces h.traces [], e, refl, ap text_of (sym e))

  pub full_stops : (events : ℕ) (line : Line) (p : Prompt) → seat.last ≡ step.Waits p → IsSeated seat → EVENT_LIMIT ≤ events →
      StopsAt whole events taken line (end.Long EVENT_LIMIT)
  full_stops events line p last seated full =
      (full, refl, (p, reverse seat.machine.frames, run_at seat h.pieces h.traces [], waits_here p last seated))

  -- One line more.
  module _ (p : Prompt) (last : seat.last ≡ step.Waits p) (seated : IsSeated seat) (events : ℕ) (few : events < EVENT_LIMIT) (line : Line)
      (found : Step) (next : PlayerView F) (is : next.last ≡ found) (then_seated : IsSeated next)
      (plays : PlaysTo g (λ lines. going_on_from g p (reverse seat.machine.frames) (run_at seat h.pieces h.traces (line ∷ lines))) found next
      h.pieces h.traces)
      (stays : IsStanding found → HasPlayed g whole (taken ++ line ∷ []) next (text_of (whole taken)) next.piece →
      StopsAtState g.game events (whole taken) → StopsAtState g.game (events + 1) (whole (taken ++ line ∷ []))) where
    goes_then : (lines : Lines) → whole ((taken ++ line ∷ []) ++ lines)
        ≡ going_on_from g p (reverse seat.machine.frames) (run_at seat h.pieces h.traces (line ∷ lines))
    goes_then lines = ap whole (append_assoc taken (line ∷ []) lines) ∙ goes_here p last (line ∷ lines)

    waits : WaitsAfter whole taken
    waits = (p, reverse seat.machine.frames, run_at seat h.pieces h.traces [], waits_here p last seated)

    text_is : text_of (whole taken) ≡ concat h.pieces
    text_is = ap text_of (waits_here p last seated)

    next_brings : IsStanding found → Brings g whole events taken line next
    next_brings shows =
        let more = step_played g whole _ (taken ++ line ∷ []) next h.pieces h.traces then_seated goes_then found is shows plays (text_of (whole taken)) text_is in
        let keeps = step_keeps g whole _ (taken ++ line ∷ []) next h.pieces h.traces then_seated goes_then found is shows plays in
        (few, waits, more, keeps, stays shows more)

    next_stops : (o : PlayEnd) → end_if_no_piece found ≡ Some o → StopsAt whole events taken line o
    next_stops o e =
        step_halts g whole _ (taken ++ line ∷ []) next h.pieces h.traces (text_of (whole taken)) []
        (ap whole (sym (append-nil (taken ++ line ∷ []))) ∙ goes_then []) text_is found o plays e (StopsAt whole events taken line)
        (λ kind k. (few, waits, k)) (λ table k. (few, waits, k))

    pub next_played : (o : Option PlayEnd) → o ≡ end_if_no_piece found → MatchOption o (Brings g whole events taken line next)
        (StopsAt whole events taken line)
    next_played None e = next_brings (shows_piece found e)
    next_played (Some o) e = next_stops o (sym e)

-- ---- the piece before the first line ----

module _ {F : Type 0} (g : Story) (whole : EndingOf) (found : Step) (next : PlayerView F) (is : next.last ≡ found) (seated : IsSeated next)
    (plays : PlaysTo g whole found next [] []) where
  pub first_brings : IsStanding found → HasPlayed g whole [] next [] next.piece × HoldsPlayer whole [] next
  first_brings shows =
      let more = step_played g whole whole [] next [] [] seated (λ lines. refl) found is shows plays [] refl in
      (more, step_keeps g whole whole [] next [] [] seated (λ lines. refl) found is shows plays)

  pub first_stops : (o : PlayEnd) → end_if_no_piece found ≡ Some o → StopsAtOnce whole o
  first_stops o e = step_halts g whole whole [] next [] [] [] [] refl refl found o plays e (StopsAtOnce whole) (λ kind k. (refl, k)) (λ table k. (refl, k))

  pub first_played : (o : Option PlayEnd) → o ≡ end_if_no_piece found → PlaysFirst g whole next o
  first_played None e = first_brings (shows_piece found e)
  first_played (Some o) e = first_stops o (sym e)

-- ---- digests ----

pub same_digests : {a b c d : Bytes} → a ≡ c → b ≡ d → digests_of a b ≡ digests_of c d
same_digests {a} {b} {c} {d} e f = ap (λ x. digests_of x b) e ∙ ap (digests_of c) f

-- ---- ends without a call that failed ----

pub stops_taking : (A : Type 0) {F : Type 0} (g : Story) (s : PlayedSession) (n events : ℕ) (taken : Lines) (line : Line) (old new : Standing) (seat : PlayerView F)
    (piece : Text) (o : PlayEnd) → call_of_end o ≡ None → events ≡ s.before + n → StopsAt s.whole events taken line o →
    TakesLineTo {A = A} g s n taken line old new seat piece (Err o)
stops_taking A g s n events taken line old new seat piece (end.Outside c) e count h = cc
stops_taking A g s n events taken line old new seat piece end.Ended e count h = h
stops_taking A g s n events taken line old new seat piece (end.Long most) e count h = (subst (λ k. EVENT_LIMIT ≤ k) count h.0, h.1, h.2)
stops_taking A g s n events taken line old new seat piece (end.Spent kind) e count h = (subst (λ k. k < EVENT_LIMIT) count h.0, h.1, h.2)
stops_taking A g s n events taken line old new seat piece (end.TooDeep table) e count h = (subst (λ k. k < EVENT_LIMIT) count h.0, h.1, h.2)
stops_taking A g s n events taken line old new seat piece _ e count h = absurd h

pub stops_beginning : (A : Type 0) {F : Type 0} (g : Story) (s : PlayedSession) (new : Standing) (seat : PlayerView F) (piece : Text) (o : PlayEnd) →
    call_of_end o ≡ None → StopsAtOnce s.whole o → BeginsTo {A = A} g s new seat piece (Err o)
stops_beginning A g s new seat piece (end.Outside c) e h = cc
stops_beginning A g s new seat piece _ e h = h

-- ---- what is committed ----

-- A player that is shown keeps the lines.
kept_as : {F : Type 0} (s : PlayedSession) (n events : ℕ) (now : Lines) (next : PlayerView F) (r : Recovered) → HoldsPlayer s.whole now next →
    events ≡ s.before + n → r ≡ Shown s.digests (seat_state events next) next.piece → KeepsAfter s n now r
kept_as s n events now next r keeps count e =
    subst (KeepsAfter s n now) (sym e) (subst (λ k. IsKept s.digests k (s.whole now) (Shown s.digests (seat_state events next) next.piece)) count
    (keeps s.digests events))

module _ {F : Type 0} {g : Story} {s : PlayedSession} {n events : ℕ} {taken : Lines} {seat next : PlayerView F} {earlier piece : Text}
    (line : Line) (old : Standing) (opened : IsOpen g s n taken seat earlier piece old.disk.bytes) (count : events ≡ s.before + n)
    (brings : Brings g s.whole events taken line next) where
  more : events + 1 ≡ s.before + suc n
  more = omega (arith, count)

  few : s.before + n < EVENT_LIMIT
  few = omega (arith, count, brings.0)

  stops_again : StopsAtState g.game (s.before + suc n) (s.whole (taken ++ line ∷ []))
  stops_again = subst (λ k. StopsAtState g.game k (s.whole (taken ++ line ∷ []))) more
      (brings.4 (subst (λ k. StopsAtState g.game k (s.whole taken)) (sym count) opened.stops))

  now_shown : (r : Recovered) → r ≡ Shown (kept_digests old.disk.bytes) (seat_state (events + 1) next) next.piece →
      KeepsAfter s (suc n) (taken ++ line ∷ []) r
  now_shown r e = kept_as s (suc n) (events + 1) (taken ++ line ∷ []) next r brings.3 more
      (e ∙ ap (λ d. Shown d (seat_state (events + 1) next) next.piece) opened.digests)

  -- Inside the commit.
  pub in_taking : (m : Standing) → InCommit (events + 1) next old m → InTaking g s n taken line old m
  in_taking m i = record {
    asked = i.asked;
    shown = i.shown;
    attached = i.attached;
    files = i.files;
    disk = λ image may. elim (i.disk image may) [
      | inl e ↦ inl (subst (KeepsAfter s n taken) (sym e) opened.keeps)
      | inr e ↦ inr (now_shown (recover image) e, (next.piece, brings.2.text), few, brings.1, stops_again)
    ];
  }

  -- Once it is committed.
  pub takes_to : (A : Type 0) (a : A) (new : Standing) (last : Text) → last ≡ next.piece → CommitsPlayer (events + 1) next old new →
      TakesLineTo g s n taken line old new next last (Ok a)
  takes_to A a new last is done =
      let kept : KeepsAfter s (suc n) (taken ++ line ∷ []) (Shown s.digests (seat_state (events + 1) next) next.piece) =
      kept_as s (suc n) (events + 1) (taken ++ line ∷ []) next _ brings.3 more refl in
      let open_more : IsOpen g s (suc n) (taken ++ line ∷ []) next (text_of (s.whole taken)) last new.disk.bytes = record {
        played = subst (HasPlayed g s.whole (taken ++ line ∷ []) next (text_of (s.whole taken))) (sym is) brings.2;
        keeps = now_shown (recover new.disk.bytes) done.shown;
        digests = done.digests ∙ opened.digests;
        stops = stops_again;
      } in
      let bytes = committed_same _ _ _ _ _ _ (base_is s.digests (s.before + suc n) (s.whole (taken ++ line ∷ [])) (seat_state (events + 1) next) next.piece kept)
      (piece_is s.digests (s.before + suc n) (s.whole (taken ++ line ∷ [])) (seat_state (events + 1) next) next.piece kept) refl in
      (few, brings.1, open_more, done.exact ∙ bytes)

module _ {F : Type 0} {g : Story} {next : PlayerView F} (s : PlayedSession) (none : s.before ≡ 0)
    (brings : HasPlayed g s.whole [] next [] next.piece × HoldsPlayer s.whole [] next) where
  first_shown : (r : Recovered) → r ≡ Shown s.digests (seat_state 0 next) next.piece → KeepsAfter s 0 [] r
  first_shown r e = kept_as s 0 0 [] next r brings.1 (omega (arith, none)) e

  -- Inside the making.
  pub in_beginning : (old m : Standing) → InMake s.digests next old m → InBeginning s old m
  in_beginning old m i = record {
    asked = i.asked;
    shown = i.shown;
    attached = i.attached;
    files = i.files;
    disk = λ image may. elim (i.disk image may) [
      | inl u ↦ inl ((brings.1 s.digests 0).played, u)
      | inr e ↦ inr (first_shown (recover image) e)
    ];
  }

  -- Once it is made.
  pub begins_to : (A : Type 0) (a : A) (old new : Standing) (last : Text) → StopsAtState g.game 0 (s.whole []) → last ≡ next.piece →
      MakesPlayer s.digests next old new → BeginsTo g s new next last (Ok a)
  begins_to A a old new last stops is done =
      let kept = brings.1 s.digests 0 in
      let begun : IsOpen g s 0 [] next [] last new.disk.bytes = record {
        played = subst (HasPlayed g s.whole [] next []) (sym is) brings.0;
        keeps = first_shown (recover new.disk.bytes) done.shown;
        digests = done.digests;
        stops = subst (λ k. StopsAtState g.game k (s.whole [])) (omega (arith, none)) stops;
      } in
      let bytes = made_same s.digests _ _ _ _ (base_is s.digests 0 (s.whole []) (seat_state 0 next) next.piece kept)
      (piece_is s.digests 0 (s.whole []) (seat_state 0 next) next.piece kept) in
      (begun, done.exact ∙ bytes)
