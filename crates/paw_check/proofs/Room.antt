-- The room that a run has in its open piece.
use Rattle.std.proofs.Common.{◌≡◌, ℕ, zero, suc, ◌+◌, ◌≤◌, ◌<◌, false, List, [], ◌∷◌, ◌++◌, refl}
use Rattle.std.proofs.Common.{length, arith, length-append}
use Rattle.std.specs.Prelude.{All}
use Rattle.std.proofs.lemmas.List.Elements.{All-append}
use Rattle.paw_base.specs.Bytes.{Line, Lines, Seed, Bytes, Text}
use Rattle.paw_base.specs.declared.limits.TheConstants.{LINE_LIMIT}
use Rattle.paw_base.specs.declared.words.TheConstants.{NO_WORD}
use Rattle.paw_base.specs.declared.tables.TheConstants.{FRAME_TABLE}
use Rattle.paw_world.specs.World.{World}
use Rattle.paw_phrase.specs.declared.Sentence.{Sentence}
use Rattle.paw_phrase.specs.Sentence.{IsSentence}
use Rattle.paw_phrase.specs.inner.Leaving.{IsTwoLess}
use Rattle.paw_effects.specs.Story.{Story}
use Rattle.paw_effects.specs.inner.Standing.{IsWorldOf}
use Rattle.paw_reading.specs.Bounds.{IsLine, ValidStory}
use Rattle.paw_reading.specs.Run.{Run, piece_closed, text_printed, with_world, line_dropped, is_timeout, with_line_heard, with_timeout}
use Rattle.paw_reading.specs.Run.{with_sentence, taken_phrase}
use Rattle.paw_reading.specs.Reading.{Out, coming_phrase, table_read}
use Rattle.paw_reading.specs.Turn.{TurnPhase, AtDescribe, AtTimeFrame, AtPhrase, AtResponse, Ending, Unended}
use Rattle.paw_reading.specs.Turn.{view_text, turn_counted, prompt_text, timeout_text, refusal_text}
use Rattle.paw_reading.specs.Turn.{opening}
use Rattle.paw_reading.specs.inner.Parts.{line_set, unknown_text}
use Rattle.paw_check.specs.Promise.{EndsWithin}
use Rattle.paw_check.specs.inner.Within.{IsReadyWithin, HasUsed, TableWithin, LeavesDescribed}
use Rattle.paw_check.proofs.Allowances.{for_phrases, fewer_bytes, phrase_less}
use Rattle.paw_check.proofs.TurnWorlds.{counted_of, timeout_of, phrase_of, start_of}

-- What the parts of a turn take at most: each of its tables in condacts and in bytes, and what is said beside them.
pub record Takes : Type 0 where
  pub reads : ℕ → ℕ
  pub prints : ℕ → ℕ
  pub view : ℕ
  pub refusal : ℕ
  pub timeout : ℕ
  pub prompt : ℕ

-- Nothing is longer that is said beside the tables.
pub record Says (g : Story) (k : Takes) : Type 0 where
  pub view : (w : World) → length (view_text g.game w) ≤ k.view
  pub refused : (w : World) → length (refusal_text g.game w) ≤ k.refusal
  pub unknown : (w : World) → length (unknown_text g.game w) ≤ k.refusal
  pub timeout : (w : World) → length (timeout_text g.game w) ≤ k.timeout
  pub prompt : (w : World) → length (prompt_text g.game w) ≤ k.prompt

-- Each table of a turn takes no more, from each run with room for it.
abbrev pub TablesTake : Story → (condacts text : ℕ) → Takes → Type 0
TablesTake g condacts text k =
    (pending m n t : ℕ) (r : Run) → t ≤ FRAME_TABLE → IsReadyWithin condacts text pending g.game r → HasUsed m n r → m + k.reads t ≤ condacts
    → n + k.prints t ≤ text → TableWithin condacts text pending g.game (m + k.reads t) (n + k.prints t) (table_read g t r)

-- After table 0 the location may be described again.
abbrev pub DescribesOnly : ℕ → Out → Type 0
DescribesOnly zero x = Unit {0}
DescribesOnly (suc t) x = LeavesDescribed x

-- ---- phases ----

-- What a phase takes at most, up to the next phrase.
abbrev pub reads_of : Takes → TurnPhase → ℕ
reads_of k AtPhrase = 0
reads_of k AtTimeFrame = k.reads 2
reads_of k AtDescribe = k.reads 1 + k.reads 2
reads_of k AtResponse = k.reads 0 + (k.reads 1 + k.reads 2)

abbrev pub text_of : Takes → TurnPhase → ℕ
text_of k AtPhrase = 0
text_of k AtTimeFrame = k.prints 2
text_of k AtDescribe = k.view + (k.prints 1 + k.prints 2)
text_of k AtResponse = k.prints 0 + (k.refusal + (k.view + (k.prints 1 + k.prints 2)))

-- A round is all that a phrase leads to.
abbrev pub round_reads : Takes → ℕ
round_reads k = reads_of k AtResponse

abbrev pub round_text : Takes → ℕ
round_text k = text_of k AtResponse

-- What follows the table t, up to the next phrase.
abbrev pub reads_behind : Takes → ℕ → ℕ
reads_behind k zero = k.reads 1 + k.reads 2
reads_behind k (suc zero) = k.reads 2
reads_behind k (suc (suc t)) = 0

abbrev pub text_behind : Takes → ℕ → ℕ
text_behind k zero = k.refusal + (k.view + (k.prints 1 + k.prints 2))
text_behind k (suc zero) = k.prints 2
text_behind k (suc (suc t)) = 0

-- What comes of phases, which may be too few.
abbrev pub EndsSo : ℕ → ℕ → Ending → Type 0
EndsSo condacts text Unended = Unit {0}
EndsSo condacts text e = EndsWithin condacts text e

one_within : {A : Type 0} (most : ℕ) (piece : List A) → length piece ≤ most → All (λ q. length q ≤ most) (piece ∷ [])
one_within most piece short zero d low = short
one_within most piece short (suc i) d low = absurd (omega arith)

-- ---- runs ----

module _ (g : Story) (valid : ValidStory g) (condacts text : ℕ) where
  -- A run of which a line may be left.
  abbrev pub Ready : Run → Type 0
  Ready r = IsReadyWithin condacts text LINE_LIMIT g.game r

  abbrev pub Ends : Ending → Type 0
  Ends e = EndsSo condacts text e

  -- With another world, another line, another verb before it, other words in the open piece and other lines to come.
  pub changed : (r : Run) → Ready r → (w : World) → IsWorldOf g.game w → (line : Line) → length line ≤ LINE_LIMIT
      → (earlier : ℕ) → earlier < 256 →
      (words : Text) (lines : Lines) → All IsLine lines →
      Ready (record r { world = w; pending = line; earlier = earlier; current = words; events = lines })
  changed r h w world line short earlier early words lines are = record {
    world = world;
    earlier = early;
    line = short;
    loop = h.loop;
    lines = are;
    closed = record { pieces = h.closed.pieces; traces = h.closed.traces };
  }

  pub in_world : (r : Run) → Ready r → (w : World) → IsWorldOf g.game w → Ready (with_world w r)
  in_world r h w world = changed r h w world r.pending h.line r.earlier h.earlier r.current r.events h.lines

  pub with_line : (r : Run) → Ready r → (line : Line) → length line ≤ LINE_LIMIT
      → Ready (record r { pending = line })
  with_line r h line short = changed r h r.world h.world line short r.earlier h.earlier r.current r.events h.lines

  pub with_words : (r : Run) → Ready r → (words : Text) → Ready (record r { current = words })
  with_words r h words = changed r h r.world h.world r.pending h.line r.earlier h.earlier words r.events h.lines

  pub with_events : (r : Run) → Ready r → (lines : Lines) → All IsLine lines → Ready (record r { events = lines })
  with_events r h lines are = changed r h r.world h.world r.pending h.line r.earlier h.earlier r.current lines are

  pub heard_ready : (line : Line) (r : Run) → Ready r → Ready (with_line_heard line r)
  heard_ready line r h = in_world r h (with_timeout (is_timeout line) r.world) (timeout_of g.game valid.game (is_timeout line) r.world h.world)

  pub line_ready : (line : Line) (r : Run) → IsLine line → Ready r → Ready (line_set line r)
  line_ready line r is h =
      changed r h (with_timeout false r.world) (timeout_of g.game valid.game false r.world h.world) line is.short
      NO_WORD (omega arith) r.current r.events h.lines

  pub taken_ready : (r : Run) → Ready r → (s : Sentence) (left : Bytes) → length left < length r.pending → coming_phrase g r ≡ IsSentence s left →
      Ready (with_world (turn_counted (taken_phrase s left r).world) (taken_phrase s left r))
  taken_ready r h s left shorter e =
      let spoken_so = phrase_of g.game valid.game g.answers r h.world h.earlier s left e in
      changed r h (turn_counted (with_sentence s r.world)) (counted_of g.game valid.game (with_sentence s r.world) spoken_so.0) left
      (omega (arith, h.line)) s.verb spoken_so.1
      r.current r.events h.lines

  pub closed_ready : (r : Run) → Ready r → length r.read ≤ condacts → length r.current ≤ text → Ready (piece_closed r)
  closed_ready r h few short = record {
    world = h.world;
    earlier = h.earlier;
    line = h.line;
    loop = h.loop;
    lines = h.lines;
    closed = record {
      pieces = All-append (λ piece. length piece ≤ text) r.pieces (r.current ∷ []) h.closed.pieces (one_within text r.current short);
      traces = All-append (λ trace. length trace ≤ condacts) r.traces (r.read ∷ []) h.closed.traces (one_within condacts r.read few);
    };
  }

  pub opening_ready : (seed : Seed) (es : Lines) → All IsLine es → Ready (opening g seed es)
  opening_ready seed es are = record {
    world = start_of g.game valid.game seed;
    earlier = omega arith;
    line = omega arith;
    loop = refl;
    lines = are;
    closed = record { pieces = λ i d low. absurd (omega arith); traces = λ i d low. absurd (omega arith) };
  }

  -- ---- room ----

  module _ (k : Takes) where
    -- A run with room for a condacts and b bytes, and after them for all phrases of its line and the prompt.
    pub record HasRoom (a b : ℕ) (r : Run) : Type 0 where
      pub ready : Ready r
      pub few : length r.read + (a + for_phrases (round_reads k) (length r.pending)) ≤ condacts
      pub short : length r.current + (b + (for_phrases (round_text k) (length r.pending) + k.prompt)) ≤ text

    pub less : (a b c d : ℕ) (r : Run) → HasRoom a b r → c ≤ a → d ≤ b → HasRoom c d r
    less a b c d r h fewer shorter = record { ready = h.ready; few = omega (arith, h.few); short = omega (arith, h.short) }

    pub moved : (a b : ℕ) (r : Run) → HasRoom a b r → (w : World) → IsWorldOf g.game w → HasRoom a b (with_world w r)
    moved a b r h w world = record { ready = in_world r h.ready w world; few = h.few; short = h.short }

    -- Words are printed.
    pub said : (a b most : ℕ) (words : Text) (r : Run) → length words ≤ most → HasRoom a (most + b) r → HasRoom a b (text_printed words r)
    said a b most words r within h = record {
      ready = with_words r h.ready (r.current ++ words);
      few = h.few;
      short = omega (arith, length-append r.current words, h.short);
    }

    pub dropped : (a b : ℕ) (r : Run) → HasRoom a b r → HasRoom a b (line_dropped r)
    dropped a b r h =
        let fewer = fewer_bytes (round_reads k) 0 (length r.pending) (omega arith) in
        let shorter = fewer_bytes (round_text k) 0 (length r.pending) (omega arith) in
        record { ready = with_line r h.ready [] (omega arith); few = omega (arith, fewer, h.few); short = omega (arith, shorter, h.short) }

    -- What a table leaves of the room that a run has.
    pub left_room : (a b c d m n p : ℕ) (s : Run) → p ≤ LINE_LIMIT → IsReadyWithin condacts text p g.game s → HasUsed (m + c) (n + d) s →
        m + ((c + a) + for_phrases (round_reads k) p) ≤ condacts → n + ((d + b) + (for_phrases (round_text k) p + k.prompt)) ≤ text → HasRoom a b s
    left_room a b c d m n p s low h used few short =
        let fewer = fewer_bytes (round_reads k) (length s.pending) p h.line in
        let shorter = fewer_bytes (round_text k) (length s.pending) p h.line in
        record {
          ready = record { world = h.world; earlier = h.earlier; line = omega (arith, h.line); loop = h.loop; lines = h.lines; closed = h.closed };
          few = omega (arith, fewer, used.read);
          short = omega (arith, shorter, used.current);
        }

    -- A phrase is taken: its round comes of what the line's phrases may take.
    pub phrase_room : (r : Run) → HasRoom 0 0 r → (s : Run) → Ready s → length s.read ≤ length r.read → length s.current ≤ length r.current →
        length s.pending < length r.pending → IsTwoLess r.pending s.pending → HasRoom (round_reads k) (round_text k) s
    phrase_room r h s ready same_read same_current shorter two =
        let fewer = phrase_less (round_reads k) r.pending s.pending (omega arith) two in
        let fewer_words = phrase_less (round_text k) r.pending s.pending (omega arith) two in
        record { ready = ready; few = omega (arith, fewer, h.few); short = omega (arith, fewer_words, h.short) }
