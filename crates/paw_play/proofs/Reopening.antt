-- A session that is open again, by what its store shows.
use Rattle.paw_play.proofs.Names.{◌≡◌, ℕ, ◌+◌, ◌≤◌, ◌*◌, [], ◌∷◌, refl, sym, ap, subst, inl, inr, IfSome, Err, sha256, Bytes, Name, Text, READ_LIMIT, GameLists, image, Valid, World, PendingLine, IsOneOf, HaveAnswers, Story, Prompt, OpenTables, only_counting, PlayerView, IsSeated, IsStanding, prompt_step, seat_at, Digests, BelongsTo, recover, kept_digests, digests_of, session_shown, IsSessionRefused, outside, JournalRefusal, IsValidState, Restored, IsRead, state_read, state_of, each_of, story_digests, IsOfStory, kept_bytes, ShowsState, going_on, from_state, end_of, ReadsOn, IsOpen, ResumesTo, MayTake, StaysSeated, measure, Routines}
use Rattle.paw_stage.specs.declared.StageCall.TheVariants as call
use Rattle.paw_effects.specs.declared.act.Prompt.TheVariants as prompt
use Rattle.paw_journal.specs.declared.refusal.JournalRefusal.TheVariants as refusal
use Rattle.paw_play.proofs.{Resuming.goes_on_from, Showing.shows_kept, Showing.state_kept, Showing.state_comes, Written.piece_is}

-- What was read of a store's state is shown there.
pub read_shows : (g : GameLists) (digests : Digests) (bytes state buffer piece : Bytes) (r : Restored) →
    recover bytes ≡ session_shown digests state piece → buffer ≡ state → IsRead g buffer r → ShowsState g digests bytes (state_read r) piece
read_shows g digests bytes state buffer piece r shown same read = record {
  valid = read.valid;
  fits = read.fits;
  shown = shows_kept digests bytes buffer piece (state_read r) (subst (λ x. recover bytes ≡ session_shown digests x piece) (sym same) shown) read.are;
}

-- ---- the player ----

reads_at : {F : Type 0} (g : Story) (routines : Routines F) (w : World) (m : OpenTables) (p : PendingLine) (events n : ℕ) (piece : Text) (at : Prompt) →
    ReadsOn g (going_on g (state_of w m p at events n) piece) (prompt_step at) (seat_at g.game routines w (only_counting m) p at) (piece ∷ []) []
reads_at g routines w m p events n piece prompt.Main = λ lines. goes_on_from g w m p prompt.Main events n piece lines
reads_at g routines w m p events n piece prompt.Quit = λ lines. goes_on_from g w m p prompt.Quit events n piece lines
reads_at g routines w m p events n piece prompt.Again = λ lines. goes_on_from g w m p prompt.Again events n piece lines
reads_at g routines w m p events n piece prompt.Key = λ lines. goes_on_from g w m p prompt.Key events n piece lines
reads_at g routines w m p events n piece prompt.Over = λ lines. goes_on_from g w m p prompt.Over events n piece lines

stands_step : (at : Prompt) → IsStanding (prompt_step at)
stands_step prompt.Main = tt
stands_step prompt.Quit = tt
stands_step prompt.Again = tt
stands_step prompt.Key = tt
stands_step prompt.Over = tt

module _ {F : Type 0} (g : Story) (r : Restored) (routines : Routines F) (seat : PlayerView F)
    (is : seat ≡ seat_at g.game routines r.world (only_counting r.machine) r.pending r.prompt) where
  -- The session is open, with a player that stands where its state was read.
  pub state_open : (bytes : Bytes) (name : Name) (piece : Text) → Valid g.game → ShowsState g.game (kept_digests bytes) bytes (state_read r) piece →
      IsOpen g (from_state g (state_read r) piece (kept_digests bytes) name) 0 [] seat [] piece bytes
  state_open bytes name piece valid shows =
      let comes = state_comes g (kept_digests bytes) bytes (state_read r) piece valid shows in
      record {
        played = record {
          pieces = piece ∷ [];
          traces = [];
          goes_on = rw is (reads_at g routines r.world r.machine r.pending r.events r.piece piece r.prompt);
          text = comes.text;
          last = sym (piece_is (kept_digests bytes) (r.events + 0) (going_on g (state_read r) piece []) (kept_bytes (state_read r)) piece comes.keeps);
        };
        keeps = state_kept g (kept_digests bytes) bytes (state_read r) piece valid shows;
        digests = refl;
        stops = comes.stops (shows.valid, shows.fits);
      }

  pub seat_may : (calls : _) → IsSeated seat → HaveAnswers calls routines → IsValidState g.game (state_read r) → MayTake calls r.events seat
  seat_may calls seated answers valid = record {
    seated = seated;
    answers = subst (HaveAnswers calls) (sym (ap (λ (q : PlayerView F). q.routines) is)) answers;
    standing = subst IsStanding (sym (ap (λ (q : PlayerView F). q.last) is)) (stands_step r.prompt);
    drew = subst (λ (w : World). w.draws ≤ READ_LIMIT * (r.events + 1)) (sym (ap (λ (q : PlayerView F). q.world) is)) (each_of g.game (state_read r) valid).draws;
    few = (each_of g.game (state_read r) valid).events;
  }

pub stays_at : {F : Type 0} (w : World) (m : OpenTables) (p : PendingLine) (at : Prompt) (old new : PlayerView F) → IsSeated new →
    new ≡ seat_at old.game old.routines w m p at → StaysSeated old new
stays_at {F} w m p at old new seated is =
    record { seated = seated; game = ap (λ (q : PlayerView F). q.game) is; routines = ap (λ (q : PlayerView F). q.routines) is }

-- ---- where there is no session ----

-- The digests are those of the story.
pub of_story : (g : Story) (game rules bytes : Bytes) → game ≡ sha256 (image g.game) → rules ≡ measure g.answers →
    BelongsTo game rules (kept_digests bytes) → IsOfStory g (kept_digests bytes)
of_story g game rules bytes e f b = subst (λ x. BelongsTo x (measure g.answers) (kept_digests bytes)) e (subst (λ x. BelongsTo game x (kept_digests bytes)) f b)

pub refused_story : (g : Story) (game rules bytes : Bytes) (r : JournalRefusal) → game ≡ sha256 (image g.game) → rules ≡ measure g.answers →
    IsSessionRefused (recover bytes) game rules r → IsSessionRefused (recover bytes) (sha256 (image g.game)) (measure g.answers) r
refused_story g game rules bytes r e f h =
    subst (λ x. IsSessionRefused (recover bytes) x (measure g.answers) r) e (subst (λ x. IsSessionRefused (recover bytes) game x r) f h)

pub resumes_none : {F : Type 0} (g : Story) (bytes : Bytes) (seat : PlayerView F) (piece : Text) (r : JournalRefusal) →
    IsSessionRefused (recover bytes) (sha256 (image g.game)) (measure g.answers) r → IfSome (outside r) (IsOneOf (call.Read ∷ [])) →
    ResumesTo g bytes seat piece (Err (end_of r))
resumes_none g bytes seat piece (refusal.Unmade n mark) h c = h
resumes_none g bytes seat piece (refusal.Damaged part at) h c = h
resumes_none g bytes seat piece (refusal.WrongGame kept found) h c = (digests_of kept h.0, h.1, h.2, h.3, refl, h.4, h.5)
resumes_none g bytes seat piece (refusal.WrongRoutines kept found) h c =
    (digests_of (story_digests g).game kept, h.0, h.1, h.2, refl, refl, h.3, h.4, h.5)
resumes_none g bytes seat piece (refusal.Outside q) h (inl c) = c
resumes_none g bytes seat piece (refusal.Outside q) h (inr c) = absurd c
