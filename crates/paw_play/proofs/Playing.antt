-- A session, line by line.
use Rattle.paw_play.proofs.Names.{◌≡◌, ℕ, zero, suc, ◌+◌, ◌-◌, ◌≤◌, ◌<◌, List, [], ◌∷◌, ◌++◌, Some, None, refl, sym, ap, ◌∙◌, subst, length, take, drop, arith, append_assoc, length-append, inl, inr, append-nil, take-append-drop, reverse, Result, Ok, Err, IfOk, IfErr, Bytes, Line, Lines, Text, Name, EVENT_LIMIT, LINE_LIMIT, IsStable, Standing, AsksTo, InAsk, InShow, IsOneOf, StageCall, Story, Prompt, Frame, Run, Halt, WaitsAt, Halted, text_of, PlayerView, IsSeated, run_at, prompt_at, writing_calls, recover, KeptIn, ChangesStoreOnly, stable_leaves, PlayEnd, first_lines, text_for, text_before, with_lines_taken, WalkWaits, WalkHalts, PlayedSession, bytes_before, KeptBy, AgreesWith, IsUpToDateWith, InPlay, StaysAttached, RestsWith, with_store, PlaysOn, call_of_end, IsPlaying, PlaysLineTo, IsRestingStore, ShowsOpen, OpenSession, IsOpen, KeepsAfter, TakesLineTo, InTaking, HaltsAfter, HoldsSession, bytes_with_commit, with_shown, Ending, KeepsAllButLast, Uncommitted, PartShown, TakesLines, Asked, Room, Journal, store_bytes_after}
use Rattle.paw_stage.specs.declared.Asked.TheVariants as asked
use Rattle.paw_stage.specs.declared.StageCall.TheVariants as call
use Rattle.paw_reading.specs.declared.halt.Halt.TheVariants as halt
use Rattle.paw_turn.specs.declared.Step.TheVariants as step
use Rattle.paw_play.specs.declared.PlayEnd.TheVariants as end
use Rattle.paw_play.proofs.{Opened.waits_here, Opened.over_here, Walking.drop_more, Walking.drop_all, Walking.lines_more}

-- ---- what stands ----

-- All but the store, by its parts.
stands_by : (first new : Standing) (n : ℕ) (text : Text) → new.lines ≡ drop n first.lines → new.asked ≡ first.asked + n →
    new.shown ≡ first.shown ++ text → new ≡ with_lines_taken (with_store new first) n text
stands_by first new n text l a s =
    ap (λ x. record new { lines = x }) l ∙ ap (λ x. record new { lines = drop n first.lines; asked = x }) a
    ∙ ap (λ x. record new { lines = drop n first.lines; asked = first.asked + n; shown = x }) s

-- Calls that change the store alone leave it attached, and no other file has changed.
pub stays_by : (name : Name) (first old new : Standing) → ChangesStoreOnly old new → StaysAttached name first old → StaysAttached name first new
stays_by name first old new b k = record {
  attached = b.attached ∙ k.attached;
  file = b.file name k.attached k.file;
  others = λ f other. b.files f (λ e. let a : Some name ≡ Some f = sym k.attached ∙ e in other (cc)) ∙ k.others f other;
}

-- Where it rests it is attached.
pub stays_at_rest : (name : Name) (s : Standing) → IsRestingStore name s → StaysAttached name s s
stays_at_rest name s r = record { attached = r.attached; file = r.file; others = λ f other. refl }

-- A store that rests, by what is known of it.
pub rests_by : (s : PlayedSession) (first now : Standing) (n : ℕ) → StaysAttached s.name first now → IsStable now.disk → n ≤ length first.lines →
    s.before + n ≤ EVENT_LIMIT → KeptBy s first.lines n now.disk.bytes →
    now.disk.bytes ≡ store_bytes_after s first.lines n (bytes_before s first.disk.bytes) → RestsWith s first now n
rests_by s first now n stays stable there few keeps bytes = record {
  there = there;
  few = few;
  attached = stays.attached;
  stable = stable;
  file = stays.file;
  others = stays.others;
  keeps = keeps;
  bytes = bytes;
}

-- Lines that are asked for and a text that is shown leave the store at rest.
rests_on : (s : PlayedSession) (first kept : Standing) (n : ℕ) (lines : Lines) (asked : ℕ) (text : Text) → RestsWith s first kept n →
    RestsWith s first (record kept { lines = lines; asked = asked; shown = text }) n
rests_on s first kept n lines asked text r = rests_by s first (record kept { lines = lines; asked = asked; shown = text }) n
    (record { attached = r.attached; file = r.file; others = r.others }) r.stable r.there r.few r.keeps r.bytes

keeps_all : (s : PlayedSession) (lines : Lines) (n : ℕ) (text bytes : Bytes) → AgreesWith s lines n text bytes →
    IsUpToDateWith s lines n text bytes
keeps_all s lines zero text bytes h = h
keeps_all s lines (suc n) text bytes h = inl h

-- What stands while the store rests is a moment of the session.
pub in_rest : (s : PlayedSession) (first m : Standing) (n : ℕ) (last rest : Text) → RestsWith s first m n → m.asked ≡ first.asked + n →
    m.shown ≡ first.shown ++ (text_before s.whole first.lines n ++ last) →
    (text_before s.whole first.lines n ++ last) ++ rest ≡ text_for s.whole first.lines n → InPlay s first m
in_rest s first m n last rest r asked shown part = record {
  taken = n;
  text = text_before s.whole first.lines n ++ last;
  last = last;
  there = r.there;
  few = r.few;
  asked = asked;
  shown = shown;
  before = refl;
  attached = r.attached;
  files = r.others;
  leaves = λ image may. keeps_all s first.lines n (text_before s.whole first.lines n ++ last) image
      (subst (KeptBy s first.lines n) (sym (stable_leaves m.disk image r.stable may)) r.keeps, (rest, part));
}

-- A reading that waits hasn't ended.
no_halt : {p : Prompt} {path : List Frame} {r q : Run} → WaitsAt p path r ≡ Halted halt.Over q → ⊥
no_halt e = cc

-- ---- a session that begins, or that is resumed ----

pub starts : {F : Type 0} (g : Story) (s : PlayedSession) (first now : Standing) (seat : PlayerView F) (piece : Text) → IsRestingStore s.name first →
    ChangesStoreOnly first now → IsOpen g s 0 [] seat [] piece now.disk.bytes → IsStable now.disk → s.before ≤ EVENT_LIMIT →
    now.disk.bytes ≡ bytes_before s first.disk.bytes → IsPlaying g s first now seat piece 0
starts g s first now seat piece store b opened stable few bytes = record {
  opened = opened;
  lines = b.lines;
  asked = b.asked ∙ omega arith;
  shown = b.shown ∙ sym (append-nil first.shown);
  rests = rests_by s first now 0 (stays_by s.name first first now b (stays_at_rest s.name first store)) stable (omega arith) (omega (arith, few))
      opened.keeps bytes;
}

-- ---- a session that is played ----

module _ {F : Type 0} {g : Story} {s : PlayedSession} {first now : Standing} {seat : PlayerView F} {piece : Text} {n : ℕ}
    (w : IsPlaying g s first now seat piece n) where
  shown_with : (part : Text) → now.shown ++ part ≡ first.shown ++ (text_before s.whole first.lines n ++ part)
  shown_with part = ap (λ t. t ++ part) w.shown ∙ append_assoc first.shown (text_before s.whole first.lines n) part

  part_is : (part rest : Text) → part ++ rest ≡ piece → (text_before s.whole first.lines n ++ part) ++ rest ≡ text_for s.whole first.lines n
  part_is part rest e = append_assoc (text_before s.whole first.lines n) part rest ∙ ap (λ t. text_before s.whole first.lines n ++ t) e
      ∙ sym w.opened.played.text

  -- This part of the last piece is shown.
  rests_with : (part : Text) → RestsWith s first (with_shown part now) n
  rests_with part = rests_on s first now n now.lines now.asked (now.shown ++ part) w.rests

  in_part : (part rest : Text) → part ++ rest ≡ piece → InPlay s first (with_shown part now)
  in_part part rest e =
      in_rest s first (with_shown part now) n part rest (rests_with part) w.asked (shown_with part) (part_is part rest e)

  pub in_show : (m : Standing) → InShow now piece m → InPlay s first m
  in_show m i = subst (InPlay s first) (sym i.1) (in_part (take i.0 piece) (drop i.0 piece) (take-append-drop i.0 piece))

  part_stands : (part : Text) → with_shown part now
      ≡ with_lines_taken (with_store (with_shown part now) first) n (text_before s.whole first.lines n ++ part)
  part_stands part =
      stands_by first (with_shown part now) n (text_before s.whole first.lines n ++ part) w.lines w.asked (shown_with part)

  -- The show failed.
  part_shown : (k : ℕ) → 0 < length piece → PlaysOn s (EVENT_LIMIT - s.before) first (with_shown (take k piece) now) (end.Outside call.Show)
  part_shown k some =
      let few : n ≤ EVENT_LIMIT - s.before = omega (arith, w.rests.few) in
      let part : PartShown s.whole (with_store (with_shown (take k piece) now) first) (with_shown (take k piece) now) n = record {
        shown = text_before s.whole first.lines n ++ take k piece;
        rest = drop k piece;
        part = part_is (take k piece) (drop k piece) (take-append-drop k piece);
        last = take k piece;
        before = refl;
        grows = omega (arith, some, ap length w.opened.played.text, length-append (text_before s.whole first.lines n) piece);
        there = w.rests.there;
        stands = part_stands (take k piece);
      } in
      record { shows = (n, few, part); session = (n, w.asked, rests_with (take k piece)) }

  -- ---- once it is shown ----

  takes : (e : Ending) → s.whole (first_lines n first.lines) ≡ e →
      TakesLines s.whole (with_store (with_shown piece now) first) (with_shown piece now) n e
  takes e is = record {
    reading = is;
    there = w.rests.there;
    stands = part_stands piece
        ∙ ap (with_lines_taken (with_store (with_shown piece now) first) n) (sym w.opened.played.text ∙ ap text_of is);
  }

  walk_waits : (k : ℕ) (p : Prompt) → seat.last ≡ step.Waits p → IsSeated seat → n ≡ k →
      WalkWaits s.whole (with_store (with_shown piece now) first) (with_shown piece now) k
  walk_waits k p last seated e =
      subst (WalkWaits s.whole (with_store (with_shown piece now) first) (with_shown piece now)) e
      (p, reverse seat.machine.frames, run_at seat w.opened.played.pieces w.opened.played.traces [], takes _ (waits_here w.opened.played p last seated))

  -- The game is over.
  over_plays : seat.last ≡ step.Ended → PlaysOn s (EVENT_LIMIT - s.before) first (with_shown piece now) end.Ended
  over_plays last =
      let few : n ≤ EVENT_LIMIT - s.before = omega (arith, w.rests.few) in
      let run : Run = run_at seat w.opened.played.pieces w.opened.played.traces [] in
      record { shows = (n, few, run, refl, takes (Halted halt.Over run) (over_here w.opened.played last)); session = (n, w.asked, rests_with piece) }

  -- Playing has ended with the show: also where the session has all the lines that it may have.
  pub shown_ends : (new : Standing) (events : ℕ) → IsSeated seat → events ≡ s.before + n → (o : PlayEnd) →
      ShowsOpen now new piece seat.last events (Some o) → PlaysOn s (EVENT_LIMIT - s.before) first new o
  shown_ends new events seated count end.Ended h =
      subst (λ q. PlaysOn s (EVENT_LIMIT - s.before) first q end.Ended) (sym h.1) (over_plays h.0)
  shown_ends new events seated count (end.Long most) h =
      subst (λ q. PlaysOn s (EVENT_LIMIT - s.before) first q (end.Long most)) (sym h.3) (record {
        shows = (h.2, walk_waits (EVENT_LIMIT - s.before) (prompt_at seat.last) h.0 seated (omega (arith, w.rests.few, h.1, count)));
        session = (n, w.asked, rests_with piece);
      })
  shown_ends new events seated count (end.Outside call.Show) h =
      subst (λ q. PlaysOn s (EVENT_LIMIT - s.before) first q (end.Outside call.Show)) (sym h.2) (part_shown h.1 h.0)
  shown_ends new events seated count _ h = absurd h

  module _ (mid : Standing) (shown : mid ≡ with_shown piece now) (seated : IsSeated seat) (few : s.before + n < EVENT_LIMIT) where
    at_prompt : (m : Standing) → m ≡ mid → InPlay s first m
    at_prompt m e = subst (InPlay s first) (sym (e ∙ shown)) (in_part piece [] (append-nil piece))

    -- No line is left, or none could be asked for.
    pub none_left : (p : Prompt) → seat.last ≡ step.Waits p → (new : Standing) → AsksTo mid new asked.End [] →
        PlaysOn s (EVENT_LIMIT - s.before) first new end.InputEnded
    none_left p last new e =
        let all : n ≡ length first.lines = drop_all first.lines n (sym w.lines ∙ ap (λ (q : Standing). q.lines) (sym shown) ∙ e.0) w.rests.there in
        subst (λ q. PlaysOn s (EVENT_LIMIT - s.before) first q end.InputEnded) (sym (e.1 ∙ shown)) (record {
          shows = (omega (arith, all, few), walk_waits (length first.lines) p last seated all);
          session = (n, w.asked, rests_with piece);
        })

    pub none_asked : (p : Prompt) → seat.last ≡ step.Waits p → (new : Standing) → new ≡ mid →
        PlaysOn s (EVENT_LIMIT - s.before) first new (end.Outside call.Ask)
    none_asked p last new e = subst (λ q. PlaysOn s (EVENT_LIMIT - s.before) first q (end.Outside call.Ask)) (sym (e ∙ shown)) (record {
      shows = (n, omega (arith, few), walk_waits n p last seated refl);
      session = (n, w.asked, rests_with piece);
    })

    -- ---- a line ----

    module _ (asking : Standing) (line given : Line) (there : mid.lines ≡ line ∷ asking.lines) (cut : given ≡ take LINE_LIMIT line)
        (took : asking ≡ record mid { lines = asking.lines; asked = mid.asked + 1 }) where
      next_is : drop n first.lines ≡ line ∷ asking.lines
      next_is = sym w.lines ∙ ap (λ (q : Standing). q.lines) (sym shown) ∙ there

      left : (drop (suc n) first.lines ≡ asking.lines) × (suc n ≤ length first.lines)
      left = drop_more first.lines n line asking.lines next_is

      same_lines : first_lines n first.lines ++ given ∷ [] ≡ first_lines (suc n) first.lines
      same_lines = ap (λ l. first_lines n first.lines ++ l ∷ []) cut ∙ sym (lines_more first.lines n line asking.lines [] next_is)
          ∙ append-nil (first_lines (suc n) first.lines)

      asking_is : asking ≡ record now { lines = asking.lines; asked = now.asked + 1; shown = now.shown ++ piece }
      asking_is = took ∙ ap (λ (q : Standing). record q { lines = asking.lines; asked = q.asked + 1 }) shown

      asked_is : asking.asked ≡ first.asked + suc n
      asked_is = ap (λ (q : Standing). q.asked) asking_is ∙ omega (arith, w.asked)

      shown_is : asking.shown ≡ first.shown ++ text_for s.whole first.lines n
      shown_is = ap (λ (q : Standing). q.shown) asking_is ∙ shown_with piece ∙ ap (λ t. first.shown ++ t) (sym w.opened.played.text)

      rests_asking : RestsWith s first asking n
      rests_asking =
          subst (λ q. RestsWith s first q n) (sym asking_is) (rests_on s first now n asking.lines (now.asked + 1) (now.shown ++ piece) w.rests)

      bytes_same : asking.disk.bytes ≡ now.disk.bytes
      bytes_same = ap (λ (q : Standing). q.disk.bytes) asking_is

      -- A moment at which it is taken: a crash leaves the lines before it, or it too.
      pub in_take : (m : Standing) → InTaking g s n (first_lines n first.lines) given asking m → InPlay s first m
      in_take m i = record {
        taken = suc n;
        text = text_for s.whole first.lines n;
        last = [];
        there = left.1;
        few = omega (arith, few);
        asked = i.asked ∙ asked_is;
        shown = i.shown ∙ shown_is;
        before = sym (append-nil (text_for s.whole first.lines n));
        attached = i.attached ∙ rests_asking.attached;
        files = λ f other. i.files f (λ e. let a : Some s.name ≡ Some f = sym rests_asking.attached ∙ e in other (cc)) ∙ rests_asking.others f other;
        leaves = λ image may. elim (i.disk image may) [
          | inl k ↦ inr (k, ([], append-nil (text_for s.whole first.lines n)))
          | inr k ↦ inl (
            subst (λ ls. KeepsAfter s (suc n) ls (recover image)) same_lines k.0,
            (k.1.0, sym k.1.1 ∙ ap (λ ls. text_of (s.whole ls)) same_lines),
          )
        ];
      }

      in_asked : (m : Standing) → m ≡ asking → InPlay s first m
      in_asked m e = subst (InPlay s first) (sym e) (in_take asking (record {
        asked = refl;
        shown = refl;
        attached = refl;
        files = λ f other. refl;
        disk = λ image may. inl (subst (KeptBy s first.lines n) (sym (stable_leaves asking.disk image rests_asking.stable may)) rests_asking.keeps);
      }))

      pub open_still : IsOpen g s n (first_lines n first.lines) seat (text_before s.whole first.lines n) piece asking.disk.bytes
      open_still = subst (IsOpen g s n (first_lines n first.lines) seat (text_before s.whole first.lines n) piece) (sym bytes_same) w.opened

      -- What it leads to.
      module _ (kept : Standing) (next : PlayerView F) (brought : Text) (beside : ChangesStoreOnly asking kept) where
        stays : StaysAttached s.name first kept
        stays = stays_by s.name first asking kept beside
            (record { attached = rests_asking.attached; file = rests_asking.file; others = rests_asking.others })

        line_stands : (text : Text) → kept.shown ≡ first.shown ++ text → kept ≡ with_lines_taken (with_store kept first) (suc n) text
        line_stands text e = stands_by first kept (suc n) text (beside.lines ∙ sym left.0) (beside.asked ∙ asked_is) e

        takes_on : IsOpen g s (suc n) (first_lines n first.lines ++ given ∷ []) next (text_for s.whole first.lines n) brought
            kept.disk.bytes → kept.disk.bytes ≡ bytes_with_commit s (suc n) (first_lines n first.lines ++ given ∷ []) asking.disk.bytes → IsStable kept.disk →
            IsPlaying g s first kept next brought (suc n)
        takes_on opened bytes stable =
            let open_more : IsOpen g s (suc n) (first_lines (suc n) first.lines) next (text_for s.whole first.lines n) brought kept.disk.bytes =
            subst (λ ls. IsOpen g s (suc n) ls next (text_for s.whole first.lines n) brought kept.disk.bytes) same_lines opened in
            record {
              opened = open_more;
              lines = beside.lines ∙ sym left.0;
              asked = beside.asked ∙ asked_is;
              shown = beside.shown ∙ shown_is;
              rests = rests_by s first kept (suc n) stays stable left.1 (omega (arith, few)) open_more.keeps
                  (bytes ∙ ap (λ ls. bytes_with_commit s (suc n) ls asking.disk.bytes) same_lines
                  ∙ ap (bytes_with_commit s (suc n) (first_lines (suc n) first.lines)) rests_asking.bytes);
            }

        -- The call that commits it failed.
        fails : (c : StageCall) → IsOneOf writing_calls c → PlaysOn s (EVENT_LIMIT - s.before) first kept (end.Outside c)
        fails c h =
            let lost : Uncommitted s.whole (EVENT_LIMIT - s.before) first kept =
            (n, omega (arith, few), left.1, line_stands (text_for s.whole first.lines n) (beside.shown ∙ shown_is)) in elim h [
              | inl e ↦ rw e (record { shows = lost; session = stays })
              | inr (inl e) ↦ rw e (record { shows = lost; session = stays })
              | inr (inr none) ↦ absurd none
            ]

        -- Its piece isn't closed.
        line_halts : (halt : Halt) → HaltsAfter s.whole (first_lines n first.lines ++ given ∷ []) (text_for s.whole first.lines n) halt →
            WalkHalts s.whole (EVENT_LIMIT - s.before) (with_store kept first) kept halt
        line_halts halt h =
            let still_shown : kept.shown ≡ first.shown ++ text_of (Halted halt h.0) = beside.shown ∙ shown_is ∙ ap (λ t. first.shown ++ t) (sym h.3) in
            let read : s.whole (first_lines (suc n) first.lines) ≡ Halted halt h.0 = ap s.whole (sym same_lines) ∙ h.1 in
            (suc n, omega (arith, few), h.0, h.2, record { reading = read; there = left.1; stands = line_stands _ still_shown })

        line_lost : kept ≡ asking → KeepsAllButLast s first kept
        line_lost still = (n, beside.asked ∙ asked_is, subst (λ q. RestsWith s first q n) (sym still) rests_asking)

        line_comes : (A : Type 0) (p : Prompt) → seat.last ≡ step.Waits p → (o : PlayEnd) →
            TakesLineTo {A = A} g s n (first_lines n first.lines) given asking kept next brought (Err o) → (call_of_end o ≡ None → kept ≡ asking) →
            PlaysOn s (EVENT_LIMIT - s.before) first kept o
        line_comes A p last (end.Outside c) h still = fails c h
        line_comes A p last (end.Spent kind) h still = record { shows = line_halts (halt.Spent kind) h.2; session = line_lost (still refl) }
        line_comes A p last (end.TooDeep table) h still = record { shows = line_halts (halt.TooDeep table) h.2; session = line_lost (still refl) }
        line_comes A p last end.Ended h still = absurd (no_halt (sym (waits_here w.opened.played p last seated) ∙ h.1))
        line_comes A p last (end.Long k) h still = absurd (omega (arith, h.0, few))
        line_comes A p last _ h still = absurd h

        pub comes_to : (p : Prompt) → seat.last ≡ step.Waits p → (result : Result OpenSession PlayEnd) →
            TakesLineTo g s n (first_lines n first.lines) given asking kept next brought result → {tells : Type 0} (events : ℕ) (room : Room) →
            IfOk result (HoldsSession tells events room kept) → tells → {Still : Type 0} → IfErr result (λ o. call_of_end o ≡ None → Still) →
            (Still → kept ≡ asking) → PlaysLineTo g s n first kept next brought result
        comes_to p last (Ok a) h events room holds t still to = takes_on h.2 h.3 (holds.kept t).rests.stable
        comes_to p last (Err o) h events room holds t still to = line_comes OpenSession p last o h (λ e. to (still e))

    -- Inside the ask.
    pub in_ask : (new : Standing) (a : Asked) (into : Bytes) → AsksTo mid new a into → (m : Standing) → InAsk mid new m → InPlay s first m
    in_ask new a into asks m (inl e) = at_prompt m e
    in_ask new (asked.Line k) into asks m (inr e) = in_asked new asks.0 (take LINE_LIMIT asks.0) asks.1 refl asks.3 m e
    in_ask new asked.End into asks m (inr e) = at_prompt m (e ∙ asks.1)
    in_ask new asked.Failed into asks m (inr e) = at_prompt m (e ∙ asks)

-- ---- what the journal keeps ----

-- A text that was shown and a line that was asked for change nothing of it.
pub keeps_standing : (journal : Journal) (room : Room) (now mid asking : Standing) {text : Text} {lines : Lines} {asked : ℕ} → KeptIn journal room now →
    mid ≡ record now { shown = text } → asking ≡ record mid { lines = lines; asked = asked } → KeptIn journal room asking
keeps_standing journal room now mid asking {text} {lines} {asked} k e f =
    subst (KeptIn journal room) (sym (f ∙ ap (λ (q : Standing). record q { lines = lines; asked = asked }) e)) (record {
      rests = record { attached = k.rests.attached; stable = k.rests.stable };
      chosen = k.chosen;
      shown = k.shown;
      slots = k.slots;
    })

pub holds_since : (result : Result OpenSession PlayEnd) {before after : Type 0} (events : ℕ) (room : Room) (now : Standing) → (before → after) →
    IfOk result (HoldsSession after events room now) → IfOk result (HoldsSession before events room now)
holds_since (Ok a) events room now f h = record { events = h.events; kept = λ t. h.kept (f t) }
holds_since (Err o) events room now f h = tt
