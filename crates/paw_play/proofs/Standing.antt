-- What a store that stands for some lines shows, and what comes of taking it up again.
use Rattle.paw_play.proofs.Names.{◌≡◌, ◌≢◌, inl, inr, ℕ, ◌+◌, ◌≤◌, List, [], ◌∷◌, ◌++◌, refl, sym, ap, ◌∙◌, subst, length, take, drop, arith, ◌-◌, length-append, length-map, length-take-le, Bytes, Lines, Text, Name, Seed, Texts, EVENT_LIMIT, LINE_LIMIT, GameLists, Valid, Standing, StepRow, Ending, WaitsAt, Halted, Unended, reading, pieces_of, ending_with_past, Counted, pieces_of_lines, State, state_bytes, Fit, Digests, Shown, recover, kept_digests, state_length, JournalRefusal, PlayEnd, last_piece, state_at, story_digests, IsOfStory, IsKept, EndingOf, first_lines, Stands, IsPlayedWith, ending_since, reading_since, PlayedSession, ShowsState, GoesOnFrom, from_shown, from_played, session_begun, from_lines, from_state, going_on, resumed_run, KeptBy, KeepsAfter, IsOpen, ResumesTo, call_of_end, OpenSession, PlayerView, None, Ok, Err, PlaysOn, Refuses, Resumed, no_state, plays_on, PlaysAgain, refused, without_memory, resumes_play, GoesOn, memory, unattached, unread, plays, attached_to, store_bytes, StandingShows, StandingGoesOn, KeptLinesStand, GoingOnIsTheReading, Story, fun_ext, going_on_ends, kept_bytes}
use Rattle.paw_effects.specs.declared.act.Prompt.TheVariants as prompt
use Rattle.paw_reading.specs.declared.halt.Halt.TheVariants as halt
use Rattle.paw_journal.specs.declared.refusal.JournalRefusal.TheVariants as refusal
use Rattle.paw_play.specs.declared.PlayEnd.TheVariants as end
use Rattle.paw_play.proofs.{Going.IsSettled, Going.Settles, Going.goes_on, Going.since_past, Going.waiting_goes, Going.whole_kept, Settling.reading_settles, Showing.one_state, Written.same_shown}

-- ---- what a store shows ----

ending_shows : (g : GameLists) (digests : Digests) (n : ℕ) (bytes : Bytes) (e : Ending) → IsSettled g n e → IsKept digests n e (recover bytes) →
    (st : State) × (piece : Text) × ShowsState g digests bytes st piece
ending_shows g digests n bytes (WaitsAt p path r) k kept =
    (state_at n p path r, last_piece r.pieces, record { valid = k.valid; fits = k.fits; shown = kept.shown })
ending_shows g digests n bytes (Halted halt.Over r) k kept =
    (state_at n prompt.Over [] r, last_piece r.pieces, record { valid = k.valid; fits = k.fits; shown = kept.shown })
ending_shows g digests n bytes _ k kept = absurd kept.played

-- In the session whose lines they are.
shown_of : (g : Story) (seed : Seed) (es : Lines) (bytes : Bytes) → IsPlayedWith g seed es → (stands : Stands g seed es bytes) →
    (st : State) × (piece : Text) × ShowsState g.game stands.digests bytes st piece
shown_of g seed es bytes played stands =
    ending_shows g.game stands.digests (length es) bytes (reading g seed es) (reading_settles g seed es played stands.few) stands.keeps

pub standing_shows : StandingShows
standing_shows g seed es bytes played stands =
    let shown = shown_of g seed es bytes played stands in
    record { digests = stands.digests; belongs = stands.belongs; state = shown.0; piece = shown.1; shows = shown.2 }

pub standing_goes_on : StandingGoesOn
standing_goes_on g seed es fs bytes digests st piece played stands shows =
    goes_on g seed es fs (reading_settles g seed es played stands.few) bytes digests st piece played.valid.game stands shows

-- ---- going on from where a reading waits ----

-- The pieces after those that were closed before.
pieces_with_past : (ps : Texts) (ts : List (List StepRow)) (last : Text) (x : Ending) → ending_with_past (last ∷ []) [] x ≢ Unended →
    pieces_of (ending_with_past ps ts x) ≡ ps ++ drop 1 (pieces_of (ending_with_past (last ∷ []) [] x))
pieces_with_past ps ts last (WaitsAt p path r) ends = refl
pieces_with_past ps ts last (Halted halt r) ends = refl
pieces_with_past ps ts last Unended ends = absurd (ends refl)

-- Going on from a state ends.
goes_to_an_end : (g : Story) (st : State) (piece : Text) (fs : Lines) → going_on g st piece fs ≢ Unended
goes_to_an_end g st piece fs = going_on_ends g st.prompt (take st.frames.count st.frames.rows) (resumed_run st piece fs)

pub going_on_is_the_reading : GoingOnIsTheReading
going_on_is_the_reading g seed es fs p path r played few is =
    let settled : Settles g.game (length es) p path r = subst (IsSettled g.game (length es)) is (reading_settles g seed es played few) in
    let counted : Counted (length es) (WaitsAt p path r) = subst (Counted (length es)) is (pieces_of_lines g seed es) in
    let goes = waiting_goes g seed es fs p path r is settled counted in
    let st : State = state_at (length es) p path r in
    let last : Text = last_piece r.pieces in
    let ended : ending_with_past (last ∷ []) [] goes.2 ≢ Unended = λ none. goes_to_an_end g st last fs (goes.4 ∙ none) in
    record {
      valid = settled.valid;
      fits = settled.fits;
      ends = goes.4 ∙ sym (ap (ending_since (length es)) goes.3 ∙ since_past (length es) r.pieces r.traces goes.0 goes.1 goes.2);
      pieces = ap pieces_of goes.3 ∙ pieces_with_past r.pieces r.traces last goes.2 ended
          ∙ ap (λ e. r.pieces ++ drop 1 (pieces_of e)) (sym goes.4)
          ∙ ap (λ e. pieces_of e ++ drop 1 (pieces_of (going_on g st last fs))) (sym is);
    }

-- ---- what a session keeps stands for its lines ----

count_lines : (n : ℕ) (lines : Lines) → n ≤ length lines → length (first_lines n lines) ≡ n
count_lines n lines there = length-map (take n lines) (take LINE_LIMIT) ∙ length-take-le n lines there

-- Those that a session took, which is begun.
pub begun_keeps : (g : Story) (seed : Seed) (taken : Lines) (name : Name) (n : ℕ) (bytes : Bytes) → n ≡ length taken → n ≤ EVENT_LIMIT →
    KeepsAfter (session_begun g seed name) n taken (recover bytes) → Stands g seed taken bytes
begun_keeps g seed taken name n bytes count few kept = record {
  few = omega (arith, count, few);
  digests = story_digests g;
  belongs = record { of_game = refl; of_routines = inr refl };
  keeps = subst (λ k. IsKept (story_digests g) k (reading g seed taken) (recover bytes)) (omega (arith, count)) kept;
}

pub begun_stands : (g : Story) (seed : Seed) (lines : Lines) (name : Name) (n : ℕ) (bytes : Bytes) → n ≤ length lines → n ≤ EVENT_LIMIT →
    KeptBy (session_begun g seed name) lines n bytes → Stands g seed (first_lines n lines) bytes
begun_stands g seed lines name n bytes there few kept =
    begun_keeps g seed (first_lines n lines) name n bytes (sym (count_lines n lines there)) few kept

-- Those that it went on after, and these.
pub later_keeps : (g : Story) (seed : Seed) (es taken : Lines) (digests : Digests) (name : Name) (n : ℕ) (bytes : Bytes) → IsOfStory g digests →
    n ≡ length taken → length es + n ≤ EVENT_LIMIT → KeepsAfter (from_lines g seed es digests name) n taken (recover bytes) →
    Stands g seed (es ++ taken) bytes
later_keeps g seed es taken digests name n bytes belongs count few kept =
    let all : length (es ++ taken) ≡ length es + n = omega (arith, length-append es taken, count) in
    record {
      few = omega (arith, all, few);
      digests = digests;
      belongs = belongs;
      keeps = whole_kept digests (length es) (length (es ++ taken)) (length (es ++ taken)) (reading g seed (es ++ taken)) (recover bytes)
          (pieces_of_lines g seed (es ++ taken)) (omega (arith, all))
          (subst (λ m. IsKept digests m (reading_since g seed es taken) (recover bytes)) (sym all) kept);
    }

pub later_stands : (g : Story) (seed : Seed) (es lines : Lines) (digests : Digests) (name : Name) (n : ℕ) (bytes : Bytes) → IsOfStory g digests →
    n ≤ length lines → length es + n ≤ EVENT_LIMIT → KeptBy (from_lines g seed es digests name) lines n bytes → Stands g seed (es ++ first_lines n lines) bytes
later_stands g seed es lines digests name n bytes belongs there few kept =
    later_keeps g seed es (first_lines n lines) digests name n bytes belongs (sym (count_lines n lines there)) few kept

pub kept_lines_stand : KeptLinesStand
kept_lines_stand = record { first = begun_stands; later = later_stands }

-- ---- taking it up again ----

-- The bytes show the state that a session goes on from.
pub record IsShown (g : Story) (name bytes : Bytes) (s : PlayedSession) : Type 0 where
  pub digests : Digests
  pub belongs : IsOfStory g digests
  pub state : State
  pub piece : Text
  pub shows : ShowsState g.game digests bytes state piece
  pub same : from_state g state piece digests name ≡ s

same_session : (whole by : EndingOf) (before past : ℕ) (digests : Digests) (name : Name) → whole ≡ by → before ≡ past →
    ◌≡◌ {A = PlayedSession} (record { whole = whole; before = before; digests = digests; name = name })
    (record { whole = by; before = past; digests = digests; name = name })
same_session whole by before past digests name e f = cc

pub is_shown : (g : Story) (name bytes : Bytes) (s : PlayedSession) → GoesOnFrom g name bytes s → IsShown g name bytes s
is_shown g name bytes _ (from_shown st piece digests belongs shows) =
    record { digests = digests; belongs = belongs; state = st; piece = piece; shows = shows; same = refl }
is_shown g name bytes _ (from_played seed es played stands) =
    let shown = shown_of g seed es bytes played stands in
    let goes = λ (fs : Lines). standing_goes_on g seed es fs bytes stands.digests shown.0 shown.1 played stands shown.2 in
    record {
      digests = stands.digests;
      belongs = stands.belongs;
      state = shown.0;
      piece = shown.1;
      shows = shown.2;
      same = same_session (going_on g shown.0 shown.1) (reading_since g seed es) shown.0.events (length es) stands.digests name
          (fun_ext (λ fs. (goes fs).1)) (goes []).0;
    }

-- ---- it is never refused ----

never_refused : (g : Story) (digests : Digests) (bytes state piece : Bytes) (r : JournalRefusal) → IsOfStory g digests →
    recover bytes ≡ Shown digests state piece → ¬ Refuses (story_digests g) bytes r
never_refused g digests bytes state piece (refusal.Unmade n mark) of is h = cc
never_refused g digests bytes state piece (refusal.Damaged part at) of is h = cc
never_refused g digests bytes state piece (refusal.WrongGame kept found) of is h =
    let one : h.0 ≡ digests = (same_shown h.0 digests h.1 h.2 state piece (sym h.3 ∙ is)).0 in
    h.5 (h.4 ∙ ap (λ (d : Digests). d.game) one ∙ of.of_game)
never_refused g digests bytes state piece (refusal.WrongRoutines kept found) of is h =
    let one : h.0 ≡ digests = (same_shown h.0 digests h.1 h.2 state piece (sym h.3 ∙ is)).0 in
    let mine : kept ≡ digests.routines = h.5 ∙ ap (λ (d : Digests). d.routines) one in
    elim of.of_routines [
      | inl none ↦ h.6 (mine ∙ none)
      | inr own ↦ h.7 (mine ∙ own)
    ]
never_refused g digests bytes state piece (refusal.Outside c) of is h = h

-- A buffer that begins with the bytes of a state is fit.
is_fit : (g : GameLists) (d e : Digests) (bytes buffer piece q : Bytes) (st : State) → ShowsState g d bytes st q →
    recover bytes ≡ Shown e (take state_length buffer) piece → Fit g buffer
unfolding kept_bytes
is_fit g d e bytes buffer piece q st shows is =
    record {
      state = st;
      valid = shows.valid;
      fits = shows.fits;
      are = (same_shown e d (take state_length buffer) piece (state_bytes st) q (sym is ∙ shows.shown)).1;
    }

-- A session that goes on from these bytes.
module _ {F : Type 0} (g : Story) (name : Name) (bytes : Bytes) (s : PlayedSession) (valid : Valid g.game) (from : GoesOnFrom g name bytes s)
    (seat : PlayerView F) (piece : Text) where
  -- Resuming it opens it.
  pub same_again : (o : OpenSession) (r : ResumesTo g bytes seat piece (Ok o)) → from_state g r.1 piece (kept_digests bytes) name ≡ s
  same_again o r =
      let k = is_shown g name bytes s from in
      one_state g (kept_digests bytes) k.digests bytes name r.1 k.state piece k.piece valid r.2 k.shows ∙ k.same

  pub open_from : (o : OpenSession) → ResumesTo g bytes seat piece (Ok o) → IsOpen g s 0 [] seat [] piece bytes × (o.events ≡ s.before)
  open_from o r =
      let same = same_again o r in
      (subst (λ q. IsOpen g q 0 [] seat [] piece bytes) same (r.4 name), r.3 ∙ ap (λ (q : PlayedSession). q.before) same)

  -- It isn't refused.
  pub refuses_none : (o : PlayEnd) → ResumesTo g bytes seat piece (Err o) → call_of_end o ≡ None → ⊥
  refuses_none (end.Refused r) h e =
      let k = is_shown g name bytes s from in
      never_refused g k.digests bytes (kept_bytes k.state) k.piece r k.belongs k.shows.shown h
  refuses_none (end.State at) h e =
      let k = is_shown g name bytes s from in
      h.4 (is_fit g.game k.digests (kept_digests bytes) bytes h.1 h.2 k.piece k.state k.shows h.3)
  refuses_none (end.Outside c) h e = cc
  refuses_none _ h e = h

module _ (g : Story) (name : Name) (old new : Standing) (valid : Valid g.game) (d : Digests) (of : IsOfStory g d) (st : State) (piece : Text)
    (shows : ShowsState g.game d (store_bytes old name) st piece) where
  goes_up : (e : Digests) (o : PlayEnd) → Resumed g e name (attached_to old name) new o → GoesOn (from_state g st piece d name) old new o
  goes_up e _ (memory is) = memory is
  goes_up e _ (no_state at state q is unfit fault same) =
      absurd (unfit (is_fit g.game d e (store_bytes old name) state q piece st shows is))
  goes_up e _ (plays_on o t q other p) =
      plays o (subst (λ (s : PlayedSession). PlaysOn s (EVENT_LIMIT - s.before) (attached_to old name) new o)
      (one_state g e d (store_bytes old name) name t st q piece valid other shows) p)

  goes_again : (o : PlayEnd) → PlaysAgain g name old new o → GoesOn (from_state g st piece d name) old new o
  goes_again _ (unattached u) = unattached u
  goes_again _ (unread e) = unread e
  goes_again _ (without_memory e) = memory e
  goes_again _ (refused r h e) = absurd (never_refused g d (store_bytes old name) (kept_bytes st) piece r of shows.shown h)
  goes_again _ (resumes_play o e mine up) = goes_up e o up

-- How resuming a session that goes on from the bytes of its store ends.
pub again_goes_on : (g : Story) (name : Name) (old new : Standing) (s : PlayedSession) → Valid g.game → GoesOnFrom g name (store_bytes old name) s →
    (o : PlayEnd) → PlaysAgain g name old new o → GoesOn s old new o
again_goes_on g name old new s valid from o p =
    let k = is_shown g name (store_bytes old name) s from in
    subst (λ q. GoesOn q old new o) k.same (goes_again g name old new valid k.digests k.belongs k.state k.piece k.shows o p)
