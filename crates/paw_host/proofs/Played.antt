-- The session that is played for a name: what it says at once, and what a text brings there.
use Rattle.paw_host.proofs.Cited.{◌≡◌, inl, inr, ℕ, ◌+◌, ◌<◌, [], ◌∷◌, ◌++◌, refl, sym, ap, ◌∙◌, subst, false, List, length, length-append, arith, Some, None, Ok, Err, append-nil, le-leb, lt-leb, Bytes, Lines, Seed, Text, EVENT_LIMIT, Standing, Story, Prompt, Frame, Run, Halt, Ending, WaitsAt, Halted, Unended, reading, pieces_of, Counted, pieces_of_lines, PlayerView, Digests, Recovered, Shown, recover, last_piece, PlayEnd, story_digests, IsOfStory, IsKept, IsPlayed, Stands, ending_since, PlayedSession, going_on, session_begun, call_of_end, BeginsTo, HaltsAfter, InBeginning, InTaking, IsOpen, KeepsAfter, StopsAtState, TakesLineTo, WaitsAfter, whole_kept, begun_keeps, later_keeps, NamedSession, Absent, At, From, Answer, from_end, gone_on, unless_closed, begun_answer, is_over, Stores, IsPlayedAs, begun, after_lines, after_state, end_word, TakesTexts, ending_with, session_with, Answers, InFile, LeftOfBeginning, StoresEither, answer}
use Rattle.paw_reading.specs.declared.halt.Halt.TheVariants as halt
use Rattle.paw_play.specs.declared.PlayEnd.TheVariants as end
use Rattle.paw_host.proofs.Reaching.{in_file}

-- ---- answers by how a reading ended ----

pub same_piece : (d : Digests) (a p : Bytes) (e : Digests) (b q : Bytes) → Shown d a p ≡ Shown e b q → p ≡ q
same_piece d a p e b q h = cc

-- A reading that a session keeps is answered with the last piece.
kept_gone : (digests : Digests) (n : ℕ) (old new : NamedSession) (e : Ending) (r : Recovered) → IsKept digests n e r →
    gone_on old new e ≡ record { body = last_piece (pieces_of e); session = new }
kept_gone digests n old new (WaitsAt p path s) r k = refl
kept_gone digests n old new (Halted halt.Over s) r k = refl
kept_gone digests n old new _ r k = absurd k.played

-- The last piece is shown.
pub piece_shown : {d e : Digests} {n m : ℕ} {x y : Ending} {r : Recovered} → IsKept d n x r → IsKept e m y r → last_piece (pieces_of x) ≡ last_piece (pieces_of y)
piece_shown h k = same_piece _ _ _ _ _ _ (sym h.shown ∙ k.shown)

-- A reading that is followed from some piece on halts as it does from its first.
same_halt : (n : ℕ) (e : Ending) (halt : Halt) (r : Run) → ending_since n e ≡ Halted halt r → (s : Run) × (e ≡ Halted halt s)
same_halt n (WaitsAt p path s) halt r h = cc
same_halt n (Halted other s) halt r h = let k : other ≡ halt = cc in (s, ap (λ x. Halted x s) k)
same_halt n Unended halt r h = cc

-- And waits as it does.
same_wait : (n : ℕ) (e : Ending) (p : Prompt) (path : List Frame) (r : Run) → ending_since n e ≡ WaitsAt p path r → is_over e ≡ false
same_wait n (WaitsAt q fs s) p path r h = refl
same_wait n (Halted halt s) p path r h = cc
same_wait n Unended p path r h = cc

-- ---- the session that is played ----

pub takes_texts : {g : Story} {a : NamedSession} {s : PlayedSession} → IsPlayedAs g a s → TakesTexts a
takes_texts (begun seed name) = tt
takes_texts (after_lines seed es digests name of) = tt
takes_texts (after_state st piece digests name of) = tt

-- The answer to a text.
open_answer : {g : Story} {a : NamedSession} {s : PlayedSession} → IsPlayedAs g a s → (seed : Seed) (text : Text) → answer g seed a (Some text)
    ≡ unless_closed a (ending_with g a []) s.before (gone_on a (session_with g a text) (ending_with g a (text ∷ [])))
unfolding answer
open_answer (begun own name) seed text = refl
open_answer {g} (after_lines own es digests name of) seed text =
    ap (λ l. unless_closed (At own es) (reading g own l) (length es) (gone_on (At own es) (At own (es ++ text ∷ [])) (reading g own (es ++ text ∷ []))))
    (sym (append-nil es))
open_answer (after_state st piece digests name of) seed text = refl

-- What it keeps of the lines that follow, the session of the name keeps of all.
kept_all : {g : Story} {a : NamedSession} {s : PlayedSession} → IsPlayedAs g a s → (m : ℕ) (fs : Lines) (r : Recovered) → IsKept s.digests m (s.whole fs) r →
    IsKept s.digests m (ending_with g a fs) r
kept_all (begun seed name) m fs r k = k
kept_all {g} (after_lines seed es digests name of) m fs r k =
    whole_kept digests (length es) m (length es + length fs) (reading g seed (es ++ fs)) r
    (subst (λ n. Counted n (reading g seed (es ++ fs))) (length-append es fs) (pieces_of_lines g seed (es ++ fs))) (omega arith) k
kept_all (after_state st piece digests name of) m fs r k = k

halts_all : {g : Story} {a : NamedSession} {s : PlayedSession} → IsPlayedAs g a s → (fs : Lines) (text : Text) (halt : Halt) → HaltsAfter s.whole fs text halt →
    (r : Run) × (ending_with g a fs ≡ Halted halt r)
halts_all (begun seed name) fs text halt h = (h.0, h.1)
halts_all {g} (after_lines seed es digests name of) fs text halt h = same_halt (length es) (reading g seed (es ++ fs)) halt h.0 h.1
halts_all (after_state st piece digests name of) fs text halt h = (h.0, h.1)

waits_all : {g : Story} {a : NamedSession} {s : PlayedSession} → IsPlayedAs g a s → WaitsAfter s.whole [] → is_over (ending_with g a []) ≡ false
waits_all (begun seed name) w = ap is_over w.3
waits_all {g} (after_lines seed es digests name of) w = same_wait (length es) (reading g seed (es ++ [])) w.0 w.1 w.2 w.3
waits_all (after_state st piece digests name of) w = ap is_over w.3

-- ---- what a store keeps of it ----

-- Bytes that keep where a reading stopped at a state of the game are of the session that goes on from there.
from_stores : (g : Story) (digests : Digests) (n : ℕ) (e : Ending) (bytes : Bytes) → IsOfStory g digests → StopsAtState g.game n e →
    IsKept digests n e (recover bytes) → Stores g (from_end n e) bytes
from_stores g digests n (WaitsAt p path r) bytes of stops k =
    record { digests = digests; belongs = of; shows = record { valid = stops.0; fits = stops.1; shown = k.shown } }
from_stores g digests n (Halted halt.Over r) bytes of stops k =
    record { digests = digests; belongs = of; shows = record { valid = stops.0; fits = stops.1; shown = k.shown } }
from_stores g digests n _ bytes of stops k = absurd k.played

text_stores : {g : Story} {a : NamedSession} {s : PlayedSession} → IsPlayedAs g a s → (text : Text) (bytes : Bytes) → s.before + 0 < EVENT_LIMIT →
    StopsAtState g.game (s.before + 1) (s.whole (text ∷ [])) → KeepsAfter s 1 (text ∷ []) (recover bytes) → Stores g (session_with g a text) bytes
text_stores {g} (begun seed name) text bytes few stops k = begun_keeps g seed (text ∷ []) name 1 bytes refl (omega (arith, few)) k
text_stores {g} (after_lines seed es digests name of) text bytes few stops k =
    later_keeps g seed es (text ∷ []) digests name 1 bytes of refl (omega (arith, few)) k
text_stores {g} (after_state st piece digests name of) text bytes few stops k =
    from_stores g digests (st.events + 1) (going_on g st piece (text ∷ [])) bytes of stops k

-- Bytes that show the same are of the same session.
alike : (g : Story) (a : NamedSession) (bytes left : Bytes) → TakesTexts a → Stores g a bytes → recover left ≡ recover bytes → Stores g a left
alike g (At seed es) bytes left is h e = record { few = h.few; digests = h.digests; belongs = h.belongs; keeps = rw e h.keeps }
alike g (From st piece) bytes left is h e = record {
  digests = h.digests;
  belongs = h.belongs;
  shows = record { valid = h.shows.valid; fits = h.shows.fits; shown = e ∙ h.shows.shown };
}
alike g _ bytes left is h e = absurd is

-- ---- a text ----

module _ {g : Story} {a : NamedSession} {s : PlayedSession} (plays : IsPlayedAs g a s) (seed : Seed) (text : Text) where
  taken_is : s.before + 0 < EVENT_LIMIT → WaitsAfter s.whole [] →
      answer g seed a (Some text) ≡ gone_on a (session_with g a text) (ending_with g a (text ∷ []))
  taken_is few waits = open_answer plays seed text ∙ rw (waits_all plays waits, lt-leb EVENT_LIMIT s.before (omega (arith, few))) refl

  -- A text that brings no piece is answered with a word.
  pub text_refused : (A : Type 0) {F : Type 0} (old new : Standing) (seat : PlayerView F) (piece : Text) (o : PlayEnd) →
      TakesLineTo {A = A} g s 0 [] text old new seat piece (Err o) → call_of_end o ≡ None →
      answer g seed a (Some text) ≡ record { body = end_word o; session = a }
  text_refused A old new seat piece end.Ended h none =
      open_answer plays seed text ∙ rw (ap is_over (halts_all plays [] _ halt.Over h).1) refl
  text_refused A old new seat piece (end.Long most) h none =
      open_answer plays seed text ∙ rw (waits_all plays h.2, le-leb EVENT_LIMIT s.before (omega (arith, h.0))) refl
  text_refused A old new seat piece (end.Spent kind) h none =
      taken_is h.0 h.1 ∙ ap (gone_on a (session_with g a text)) (halts_all plays (text ∷ []) _ (halt.Spent kind) h.2).1
  text_refused A old new seat piece (end.TooDeep table) h none =
      taken_is h.0 h.1 ∙ ap (gone_on a (session_with g a text)) (halts_all plays (text ∷ []) _ (halt.TooDeep table) h.2).1
  text_refused A old new seat piece (end.Outside c) h none = cc
  text_refused A old new seat piece _ h none = absurd h

  kept_is : s.before + 0 < EVENT_LIMIT → WaitsAfter s.whole [] → (r : Recovered) → KeepsAfter s 1 (text ∷ []) r →
      answer g seed a (Some text) ≡ record { body = last_piece (pieces_of (ending_with g a (text ∷ []))); session = session_with g a text }
  kept_is few waits r k = taken_is few waits ∙ kept_gone s.digests (s.before + 1) a (session_with g a text) (ending_with g a (text ∷ [])) r
      (kept_all plays (s.before + 1) (text ∷ []) r k)

  -- One that brings a piece is answered with that.
  pub text_taken : (A : Type 0) {F : Type 0} (x : A) (old new : Standing) (seat : PlayerView F) (piece before after : Text) →
      TakesLineTo g s 0 [] text old new seat piece (Ok x) → after ≡ before ++ piece → Answers g (answer g seed a (Some text)) before after new.disk.bytes
  text_taken A x old new seat piece before after h grown =
      let is = kept_is h.0 h.1 (recover new.disk.bytes) h.2.keeps in
      let last : last_piece (pieces_of (ending_with g a (text ∷ []))) ≡ piece =
      piece_shown (kept_all plays (s.before + 1) (text ∷ []) (recover new.disk.bytes) h.2.keeps) h.2.keeps ∙ h.2.played.last in
      rw is (record {
        body = grown ∙ ap (λ x. before ++ x) (sym last);
        stores = text_stores plays text new.disk.bytes h.0 h.2.stops h.2.keeps;
      })

  -- While it is taken.
  pub text_in_file : (old m : Standing) → Stores g a old.disk.bytes → KeepsAfter s 0 [] (recover old.disk.bytes) → InTaking g s 0 [] text old m →
      InFile (StoresEither g a (answer g seed a (Some text)).session) old m
  text_in_file old m stores keeps i = in_file i (λ left h. elim h [
    | inl k ↦ inl (alike g a old.disk.bytes left (takes_texts plays) stores (k.shown ∙ sym keeps.shown))
    | inr k ↦ inr (subst (λ (x : Answer). Stores g x.session left) (sym (kept_is k.2 k.3 (recover left) k.0)) (text_stores plays text left k.2 k.4 k.0))
  ])

-- ---- a session that is begun ----

module _ (g : Story) (seed : Seed) where
  -- Its first piece isn't closed.
  pub first_refused : (A : Type 0) {F : Type 0} (new : Standing) (seat : PlayerView F) (piece : Text) (o : PlayEnd) →
      BeginsTo {A = A} g (session_begun g seed []) new seat piece (Err o) → call_of_end o ≡ None →
      begun_answer g seed ≡ record { body = end_word o; session = Absent }
  first_refused A new seat piece (end.Spent kind) h none = ap (gone_on Absent (At seed [])) h.1.1
  first_refused A new seat piece (end.TooDeep table) h none = ap (gone_on Absent (At seed [])) h.1.1
  first_refused A new seat piece end.Ended h none = let e = h.0 in cc
  first_refused A new seat piece (end.Outside c) h none = cc
  first_refused A new seat piece _ h none = absurd h

  played_begins : (e : Ending) → IsPlayed e → (gone_on Absent (At seed []) e).session ≡ At seed []
  played_begins (WaitsAt p path r) k = refl
  played_begins (Halted halt.Over r) k = refl
  played_begins _ k = absurd k

  module _ {F : Type 0} {seat : PlayerView F} {piece bytes : Text} (opened : IsOpen g (session_begun g seed []) 0 [] seat [] piece bytes) where
    pub first_stands : Stands g seed [] bytes
    first_stands = begun_keeps g seed [] [] 0 bytes refl (omega arith) opened.keeps

    -- It is closed.
    pub first_answer : begun_answer g seed ≡ record { body = piece; session = At seed [] }
    first_answer = kept_gone (story_digests g) 0 Absent (At seed []) (reading g seed []) (recover bytes) opened.keeps
        ∙ ap (λ x. record { body = x; session = At seed [] }) opened.played.last

  -- While it is begun.
  pub first_in_file : (old m : Standing) → InBeginning (session_begun g seed []) old m → InFile (LeftOfBeginning g seed) old m
  first_in_file old m i = in_file i (λ left h. elim h [
    | inl u ↦ inr (played_begins (reading g seed []) u.0, inl u.1)
    | inr k ↦ inr (played_begins (reading g seed []) k.played, inr (begun_keeps g seed [] [] 0 left refl (omega arith) k))
  ])
