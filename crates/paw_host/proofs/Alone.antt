-- Each plays as if alone.
use Rattle.paw_host.proofs.Cited.{◌≡◌, inl, inr, suc, ◌+◌, ◌≤◌, List, [], ◌∷◌, ◌++◌, Option, Some, None, refl, sym, ap, ◌∙◌, subst, length, map, arith, append_assoc, if◌then◌else◌, append-nil, length-append, Lines, Text, Texts, Name, Seed, Story, Prompt, Frame, Run, StepRow, Ending, WaitsAt, Halted, Unended, reading, pieces_of, ending_followed, ending_with_past, goes_on_with, Counted, pieces_of_lines, going_on_is_reading, longer_reading, last_piece, Request, request_of, Absent, At, Sessions, Answer, gone_on, sessions_with, asked_first, answered_first, EachPlaysAlone, PiecesAreAnswered, asked_of, answered_to, session_after, answers_of, answer, sessions_after}
use Rattle.paw_reading.specs.declared.halt.Halt.TheVariants as halt
use Rattle.paw_host.proofs.{Named.by_name, Texts.StaysOrGoes, Texts.line_goes}

-- ---- one name among others ----

session_first : (g : Story) (seed : Seed) (sessions : Sessions) (name : Name) (o : Option Request) (later : List (Option Text)) →
    session_after g seed (sessions_with g seed sessions o name) later ≡ session_after g seed (sessions name) (asked_first name o later)
unfolding session_after
session_first g seed sessions name None later = refl
session_first g seed sessions name (Some r) later =
    by_name (λ b. session_after g seed (if b then (answer g seed (sessions r.name) r.text).session else sessions name) later
    ≡ session_after g seed (sessions name) (if b then r.text ∷ later else later)) name r.name
    (λ same. ap (λ n. session_after g seed (answer g seed (sessions n) r.text).session later) (sym same)) (λ other. refl)

session_alone : (g : Story) (seed : Seed) (sessions : Sessions) (name : Name) (lines : Lines) →
    sessions_after g seed sessions lines name ≡ session_after g seed (sessions name) (asked_of name lines)
unfolding sessions_after session_after asked_of
session_alone g seed sessions name [] = refl
session_alone g seed sessions name (line ∷ lines) =
    session_alone g seed (sessions_with g seed sessions (request_of line)) name lines
    ∙ session_first g seed sessions name (request_of line) (asked_of name lines)

answers_first : (g : Story) (seed : Seed) (sessions : Sessions) (name : Name) (o : Option Request) (later : List (Option Text)) →
    answered_first g seed sessions name o (answers_of g seed (sessions_with g seed sessions o name) later)
    ≡ answers_of g seed (sessions name) (asked_first name o later)
unfolding answers_of
answers_first g seed sessions name None later = refl
answers_first g seed sessions name (Some r) later =
    by_name (λ b. (if b then (answer g seed (sessions r.name) r.text).body ∷ answers_of g seed
    (if b then (answer g seed (sessions r.name) r.text).session else sessions name) later
    else answers_of g seed (if b then (answer g seed (sessions r.name) r.text).session else sessions name) later)
    ≡ answers_of g seed (sessions name) (if b then r.text ∷ later else later)) name r.name
    (λ same. ap (λ n. (answer g seed (sessions n) r.text).body ∷ answers_of g seed (answer g seed (sessions n) r.text).session later) (sym same))
    (λ other. refl)

answers_alone : (g : Story) (seed : Seed) (sessions : Sessions) (name : Name) (lines : Lines) →
    answered_to g seed sessions name lines ≡ answers_of g seed (sessions name) (asked_of name lines)
unfolding answered_to answers_of asked_of
answers_alone g seed sessions name [] = refl
answers_alone g seed sessions name (line ∷ lines) =
    ap (answered_first g seed sessions name (request_of line)) (answers_alone g seed (sessions_with g seed sessions (request_of line)) name lines)
    ∙ answers_first g seed sessions name (request_of line) (asked_of name lines)

pub each_plays_alone : EachPlaysAlone
each_plays_alone = record { session = session_alone; answers = answers_alone }

-- ---- readings that wait ----

waits_by : (g : Story) (fs : Lines) (e : Ending) (p : Prompt) (path : List Frame) (r : Run) → ending_followed g fs e ≡ WaitsAt p path r →
    (q : Prompt) × (at : List Frame) × (s : Run) × (e ≡ WaitsAt q at s)
waits_by g fs (WaitsAt q at s) p path r h = (q, at, s, refl)
waits_by g fs (Halted halt s) p path r h = cc
waits_by g fs Unended p path r h = cc

-- Where the reading of more lines waits, that of some does.
waits_before : (g : Story) (seed : Seed) (es fs : Lines) (p : Prompt) (path : List Frame) (r : Run) → reading g seed (es ++ fs) ≡ WaitsAt p path r →
    (q : Prompt) × (at : List Frame) × (s : Run) × (reading g seed es ≡ WaitsAt q at s)
waits_before g seed es fs p path r h = waits_by g fs (reading g seed es) p path r (sym (going_on_is_reading g seed es fs) ∙ h)

-- ---- one piece for each text ----

last_more : (pieces : Texts) (piece : Text) → last_piece (pieces ++ piece ∷ []) ≡ piece
last_more [] piece = refl
last_more (x ∷ []) piece = refl
last_more (x ∷ y ∷ pieces) piece = last_more (y ∷ pieces) piece

one_piece : (pieces : Texts) → length pieces ≡ 1 → pieces ≡ last_piece pieces ∷ []
one_piece [] h = absurd (omega (arith, h))
one_piece (x ∷ []) h = refl
one_piece (x ∷ y ∷ pieces) h = absurd (omega (arith, h))

-- A reading that waits has one piece for each line, and one before them.
pieces_count : (g : Story) (seed : Seed) (es : Lines) (p : Prompt) (path : List Frame) (r : Run) → reading g seed es ≡ WaitsAt p path r →
    length r.pieces ≡ suc (length es)
pieces_count g seed es p path r h =
    let counted : Counted (length es) (WaitsAt p path r) = subst (Counted (length es)) h (pieces_of_lines g seed es) in
    let none : length r.events ≡ 0 = ap length counted.0 in
    omega (arith, counted.1, none)

past_by : (pieces : Texts) (e x : Ending) (p : Prompt) (path : List Frame) (r : Run) (traces : List (List StepRow)) →
    e ≡ ending_with_past pieces traces x → e ≡ WaitsAt p path r →
    (more : Texts) × (r.pieces ≡ pieces ++ more)
past_by pieces e (WaitsAt q at s) p path r traces h k =
    let same : WaitsAt p path r ≡ ending_with_past pieces traces (WaitsAt q at s) = sym k ∙ h in
    (s.pieces, ap pieces_of same)
past_by pieces e (Halted halt s) p path r traces h k =
    let clash : WaitsAt p path r ≡ ending_with_past pieces traces (Halted halt s) = sym k ∙ h in cc
past_by pieces e Unended p path r traces h k =
    let clash : WaitsAt p path r ≡ ending_with_past pieces traces Unended = sym k ∙ h in cc

-- With one line more the reading has one piece more, the last one.
one_more : (g : Story) (seed : Seed) (es : Lines) (text : Text) (p q : Prompt) (path at : List Frame) (r s : Run) →
    reading g seed es ≡ WaitsAt p path r →
    reading g seed (es ++ text ∷ []) ≡ WaitsAt q at s → s.pieces ≡ r.pieces ++ last_piece s.pieces ∷ []
one_more g seed es text p q path at r s h k =
    let more = past_by r.pieces _ (goes_on_with g p path (text ∷ []) r) q at s r.traces (longer_reading g seed es (text ∷ []) p path r h) k in
    let before = pieces_count g seed es p path r h in
    let after = pieces_count g seed (es ++ text ∷ []) q at s k in
    let long : length (r.pieces ++ more.0) ≡ length s.pieces = ap length (sym more.1) in
    let one : length more.0 ≡ 1 = omega (arith, before, after, long, length-append r.pieces more.0, length-append es (text ∷ [])) in
    let is = one_piece more.0 one in
    let last : last_piece s.pieces ≡ last_piece more.0 = ap last_piece (more.1 ∙ ap (λ m. r.pieces ++ m) is) ∙ last_more r.pieces (last_piece more.0) in
    more.1 ∙ ap (λ m. r.pieces ++ m) is ∙ ap (λ m. r.pieces ++ m ∷ []) (sym last)

-- ---- texts that were all taken ----

-- A text isn't taken, or its piece is the answer.
answered_by : (g : Story) (seed : Seed) (es : Lines) (text : Text) → StaysOrGoes (At seed es) (At seed (es ++ text ∷ []))
    (last_piece (pieces_of (reading g seed (es ++ text ∷ [])))) (answer g seed (At seed es) (Some text))
unfolding answer
answered_by g seed es text = line_goes g seed es text

same_lines : (seed : Seed) (es fs : Lines) → At seed es ≡ At seed fs → es ≡ fs
same_lines seed es fs h = cc

-- No more lines than texts are taken.
at_most : (g : Story) (seed : Seed) (es texts lines : Lines) → session_after g seed (At seed es) (map Some texts) ≡ At seed lines →
    length lines ≤ length es + length texts
unfolding session_after
at_most g seed es [] lines h = let same = ap length (same_lines seed es lines h) in omega (arith, same)
at_most g seed es (text ∷ texts) lines h = elim (answered_by g seed es text) [
  | inl stays ↦ let k = at_most g seed es texts lines (subst (λ s. session_after g seed s (map Some texts) ≡ At seed lines) stays h) in omega (arith, k)
  | inr goes ↦ let k = at_most g seed (es ++ text ∷ []) texts lines
      (subst (λ (a : Answer). session_after g seed a.session (map Some texts) ≡ At seed lines) goes h) in
      omega (arith, k, length-append es (text ∷ []))
]

-- A text that was taken has a piece of its own.
text_piece : (g : Story) (seed : Seed) (es texts : Lines) (text : Text) (p : Prompt) (path : List Frame) (r : Run) →
    reading g seed ((es ++ text ∷ []) ++ texts) ≡ WaitsAt p path r →
    pieces_of (reading g seed (es ++ text ∷ [])) ≡ pieces_of (reading g seed es) ++ last_piece (pieces_of (reading g seed (es ++ text ∷ []))) ∷ []
text_piece g seed es texts text p path r h =
    let here = waits_before g seed (es ++ text ∷ []) texts p path r h in
    let before = waits_before g seed es (text ∷ []) here.0 here.1 here.2 here.3 in
    rw (here.3, before.3) (one_more g seed es text before.0 here.0 before.1 here.1 before.2 here.2 before.3 here.3)

answered_later : (g : Story) (seed : Seed) (es texts : Lines) (p : Prompt) (path : List Frame) (r : Run) →
    session_after g seed (At seed es) (map Some texts) ≡ At seed (es ++ texts) → reading g seed (es ++ texts) ≡ WaitsAt p path r →
    pieces_of (reading g seed (es ++ texts)) ≡ pieces_of (reading g seed es) ++ answers_of g seed (At seed es) (map Some texts)
unfolding session_after answers_of
answered_later g seed es [] p path r h k =
    ap (λ l. pieces_of (reading g seed l)) (append-nil es) ∙ sym (append-nil (pieces_of (reading g seed es)))
answered_later g seed es (text ∷ texts) p path r h k = elim (answered_by g seed es text) [
  | inl stays ↦ let few = at_most g seed es texts (es ++ text ∷ texts)
      (subst (λ s. session_after g seed s (map Some texts) ≡ At seed (es ++ text ∷ texts)) stays h) in
      absurd (omega (arith, few, length-append es (text ∷ texts)))
  | inr goes ↦
      let parts : (es ++ text ∷ []) ++ texts ≡ es ++ text ∷ texts = append_assoc es (text ∷ []) texts in
      let whole = ap (reading g seed) parts ∙ k in
      let session = subst (λ (a : Answer). session_after g seed a.session (map Some texts) ≡ At seed (es ++ text ∷ texts)) goes h ∙ ap (At seed) (sym parts) in
      let rest : Texts = answers_of g seed (At seed (es ++ text ∷ [])) (map Some texts) in
      ap (λ l. pieces_of (reading g seed l)) (sym parts)
      ∙ answered_later g seed (es ++ text ∷ []) texts p path r session whole
      ∙ ap (λ x. x ++ rest) (text_piece g seed es texts text p path r whole)
      ∙ append_assoc (pieces_of (reading g seed es)) (last_piece (pieces_of (reading g seed (es ++ text ∷ []))) ∷ []) rest
      ∙ ap (λ (a : Answer). pieces_of (reading g seed es) ++ a.body ∷ answers_of g seed a.session (map Some texts)) (sym goes)
]

-- The game is begun by the name alone.
begins : (g : Story) (seed : Seed) (p : Prompt) (path : List Frame) (r : Run) → reading g seed [] ≡ WaitsAt p path r →
    answer g seed Absent None ≡ record { body = last_piece r.pieces; session = At seed [] }
unfolding answer
begins g seed p path r h = ap (λ e. gone_on Absent (At seed []) e) h

answered_all : (g : Story) (seed : Seed) (texts : Texts) (p : Prompt) (path : List Frame) (r : Run) →
    session_after g seed Absent (None ∷ map Some texts) ≡ At seed texts → reading g seed texts ≡ WaitsAt p path r →
    answers_of g seed Absent (None ∷ map Some texts) ≡ pieces_of (reading g seed texts)
unfolding session_after answers_of
answered_all g seed texts p path r h k =
    let start = waits_before g seed [] texts p path r k in
    let first = begins g seed start.0 start.1 start.2 start.3 in
    let session = subst (λ (a : Answer). session_after g seed a.session (map Some texts) ≡ At seed texts) first h in
    let rest : Texts = answers_of g seed (At seed []) (map Some texts) in
    ap (λ (a : Answer). a.body ∷ answers_of g seed a.session (map Some texts)) first
    ∙ ap (λ x. x ++ rest) (sym (one_piece start.2.pieces (pieces_count g seed [] start.0 start.1 start.2 start.3)))
    ∙ ap (λ e. pieces_of e ++ rest) (sym start.3)
    ∙ sym (answered_later g seed [] texts p path r session k)

pub pieces_are_answered : PiecesAreAnswered
pieces_are_answered = record { later = answered_later; first = answered_all }
