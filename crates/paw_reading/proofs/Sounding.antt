-- What stays true through a reading: of the world, the line, the text and the lines to come.
use Rattle.std.proofs.Common.{◌≡◌, ℕ, zero, suc, ◌+◌, ◌*◌, ◌<◌, ◌≤◌, Bool, true, false, List, []}
use Rattle.std.proofs.Common.{◌∷◌, Option, Some}
use Rattle.std.proofs.Common.{None, refl, length, arith, length-append}
use Rattle.std.specs.Prelude.{if◌then◌else◌, All}
use Rattle.std.proofs.lemmas.Bool.{leb-true}
use Rattle.std.proofs.lemmas.List.Elements.{All-append}
use Rattle.paw_base.specs.Bytes.{Bytes, Line, Lines, Text, Seed}
use Rattle.paw_base.specs.declared.limits.TheConstants.{READ_LIMIT, PIECE_LIMIT}
use Rattle.paw_base.specs.declared.parts.Condact.{Condact}
use Rattle.paw_base.specs.declared.flags.TheConstants.{PRONOUN_NOUN_FLAG, PRONOUN_ADJECTIVE_FLAG}
use Rattle.paw_base.specs.declared.flags.TheConstants.{LOCATION_FLAG}
use Rattle.paw_base.specs.declared.words.TheConstants.{NO_WORD}
use Rattle.paw_game.specs.Game.{GameLists}
use Rattle.paw_game.specs.Valid.{Valid}
use Rattle.paw_game.proofs.ValidGames.{condact_follows}
use Rattle.paw_world.specs.World.{World, flag, with_flag}
use Rattle.paw_phrase.specs.declared.Sentence.{Sentence}
use Rattle.paw_phrase.specs.Sentence.{IsSentence, IsUnknown}
use Rattle.paw_phrase.proofs.Phrases.{IsRest as IsRestOf, rest-shorter, rest-all, sentence-rest, unknown-rest}
use Rattle.paw_phrase.proofs.SentenceBytes.{AreBytes as AreWords}
use Rattle.paw_effects.specs.Story.{Story}
use Rattle.paw_effects.specs.declared.act.Prompt.{Prompt}
use Rattle.paw_effects.specs.Holds.{holds}
use Rattle.paw_effects.specs.Effects.{Done, effect_of}
use Rattle.paw_reading.specs.declared.frames.Frame.{Frame}
use Rattle.paw_reading.specs.declared.frames.OpenLoop.{OpenLoop}
use Rattle.paw_reading.specs.Run.{Run, piece_closed, fits, text_printed, with_world, without_loop, line_dropped, anew, is_timeout}
use Rattle.paw_reading.specs.Run.{with_line_heard}
use Rattle.paw_reading.specs.Run.{with_timeout, with_sentence, taken_phrase}
use Rattle.paw_reading.specs.declared.halt.Halt.{Halt}
use Rattle.paw_reading.specs.declared.halt.Halt.TheVariants as halt
use Rattle.paw_reading.specs.Reading.{step_noted}
use Rattle.paw_reading.specs.Reading.{object_taken}
use Rattle.paw_reading.specs.Reading.{carried_out}
use Rattle.paw_reading.specs.Reading.{coming_phrase}
use Rattle.paw_reading.specs.Turn.{AtDescribe, Ending}
use Rattle.paw_reading.specs.Turn.{location_described, time_frame_passed}
use Rattle.paw_reading.specs.Turn.{turn_counted}
use Rattle.paw_reading.specs.Turn.{phases_left, opening, reading, going_on_from}
use Rattle.paw_reading.specs.inner.Parts.{line_set}
use Rattle.paw_reading.proofs.EachStep.{noted_printed}
use Rattle.paw_reading.proofs.WorldSteps.{described_so, time_frame_so, counted_so, went_so, timeout_so, taken_so, spoken_so, phrase_words}
use Rattle.paw_reading.proofs.Kept.{IsKept}
use Rattle.paw_reading.proofs.RunInduction.{RunClaim, RunCarries, TurnCarries, TurnEnds, between, turn_ends, goes_on_ends}
use Rattle.paw_reading.specs.Bounds.{IsLine, ValidStory}
use Rattle.paw_effects.proofs.Worlds.{IsWorldAt, few_objects, later}
use Rattle.paw_effects.proofs.Worlds.{start_so, anew_so}
use Rattle.paw_effects.proofs.EachRow.{effect_so, condition_so}

-- Each of these is a line.
abbrev pub AreLines : Lines → Type 0
AreLines [] = Unit {0}
AreLines (line ∷ lines) = IsLine line × AreLines lines

pub are_lines : (lines : Lines) → All IsLine lines → AreLines lines
are_lines [] all = tt
are_lines (line ∷ lines) all = (all 0 [] (omega arith), are_lines lines (λ k d low. all (suc k) d (omega arith)))

no_line : IsLine []
no_line = record { short = omega arith; bytes = λ k d low. absurd (omega arith) }

-- A run of a game that is played: each piece drew at most 200,000 words, and what is kept of the run are bytes.
pub record IsSound (g : GameLists) (seed : Seed) (base : ℕ) (r : Run) : Type 0 where
  pub world : IsWorldAt g seed (base + READ_LIMIT * length r.pieces + length r.read) r.world
  pub few : length r.read ≤ READ_LIMIT
  pub line : IsLine r.pending
  pub earlier : r.earlier < 256
  pub text : length r.current ≤ PIECE_LIMIT
  pub pieces : All (λ piece. length piece ≤ PIECE_LIMIT) r.pieces
  pub lines : AreLines r.events
  pub traced : length r.traces ≡ length r.pieces

-- Nothing of a piece is open.
pub record IsResting (g : GameLists) (seed : Seed) (base : ℕ) (r : Run) : Type 0 where
  pub sound : IsSound g seed base r
  pub current : r.current ≡ []
  pub read : r.read ≡ []

one_short : (piece : Text) → length piece ≤ PIECE_LIMIT → All (λ q. length q ≤ PIECE_LIMIT) (piece ∷ [])
one_short piece short zero d low = short
one_short piece short (suc k) d low = absurd (omega arith)

module _ (g : Story) (valid : ValidStory g) (seed : Seed) (base : ℕ) where
  abbrev v : Valid g.game
  v = valid.game

  abbrev pub Is : Run → Type 0
  Is r = IsSound g.game seed base r

  abbrev pub Rests : Run → Type 0
  Rests r = IsResting g.game seed base r

  abbrev bound : Run → ℕ
  bound r = base + READ_LIMIT * length r.pieces + length r.read

  -- ---- changes of a run ----

  -- With another world, another line, another verb before it and another loop.
  changed : (r : Run) → Is r → (w : World) → IsWorldAt g.game seed (bound r) w → (line : Line) → IsLine line → (earlier : ℕ) → earlier < 256 →
      (turning : Option OpenLoop) → Is (record r { world = w; pending = line; earlier = earlier; turning = turning })
  changed r k w world line is earlier small turning =
      record { world = world; few = k.few; line = is; earlier = small; text = k.text; pieces = k.pieces; lines = k.lines; traced = k.traced }

  in_world : (r : Run) → Is r → (w : World) → IsWorldAt g.game seed (bound r) w → Is (with_world w r)
  in_world r k w world = changed r k w world r.pending k.line r.earlier k.earlier r.turning

  no_loop : (r : Run) → Is r → (o : Option OpenLoop) → Is (record r { turning = o })
  no_loop r k o = changed r k r.world k.world r.pending k.line r.earlier k.earlier o

  with_pending : (r : Run) → Is r → (line : Line) → IsLine line → Is (record r { pending = line })
  with_pending r k line is = changed r k r.world k.world line is r.earlier k.earlier r.turning

  dropped : (r : Run) → Is r → Is (line_dropped r)
  dropped r k = with_pending r k [] no_line

  with_events : (r : Run) → Is r → (lines : Lines) → AreLines lines → Is (record r { events = lines })
  with_events r k lines are =
      record { world = k.world; few = k.few; line = k.line; earlier = k.earlier; text = k.text; pieces = k.pieces; lines = are; traced = k.traced }

  resting_events : (r : Run) → Rests r → (lines : Lines) → AreLines lines → Rests (record r { events = lines })
  resting_events r k lines are = record { sound = with_events r k.sound lines are; current = k.current; read = k.read }

  printed_so : (r : Run) (text : Text) → Is r → fits r text ≡ true → Is (text_printed text r)
  printed_so r text k fit = record {
    world = k.world;
    few = k.few;
    line = k.line;
    earlier = k.earlier;
    text = omega (arith, length-append r.current text, leb-true (length r.current + length text) PIECE_LIMIT fit);
    pieces = k.pieces;
    lines = k.lines;
    traced = k.traced;
  }

  noted_so : (r : Run) (f : Frame) (c : Condact) (b : Bool) (w : World) → Is r → length r.read < READ_LIMIT → IsWorldAt g.game seed (suc (bound r)) w →
      Is (step_noted f c b (with_world w r))
  noted_so r f c b w k few world =
      let size : length (step_noted f c b r).read ≡ length r.read + 1 = length-append r.read _ in
      record {
        world = later g.game v seed (suc (bound r)) w world (bound (step_noted f c b r)) (omega (arith, size));
        few = omega (arith, size);
        line = k.line;
        earlier = k.earlier;
        text = k.text;
        pieces = k.pieces;
        lines = k.lines;
        traced = k.traced;
      }

  pub closed_rests : (r : Run) → Is r → Rests (piece_closed r)
  closed_rests r k =
      let size : length (piece_closed r).pieces ≡ length r.pieces + 1 = length-append r.pieces (r.current ∷ []) in
      record {
        sound = record {
          world = later g.game v seed (bound r) r.world k.world (bound (piece_closed r)) (omega (arith, size, k.few));
          few = omega arith;
          line = k.line;
          earlier = k.earlier;
          text = omega arith;
          pieces = All-append (λ piece. length piece ≤ PIECE_LIMIT) r.pieces (r.current ∷ []) k.pieces
              (one_short r.current k.text);
          lines = k.lines;
          traced = omega (arith, size, length-append r.traces (r.read ∷ []), k.traced);
        };
        current = refl;
        read = refl;
      }

  heard_so : (line : Line) (r : Run) → Is r → Is (with_line_heard line r)
  heard_so line r k = in_world r k (with_timeout (is_timeout line) r.world) (timeout_so g.game v seed (bound r) (is_timeout line) r.world k.world)

  anew_run : (r : Run) → Is r → Is (anew r)
  anew_run r k = changed r k _ (anew_so g.game v seed (bound r) r.world k.world) [] no_line NO_WORD (omega arith) None

  left_line : (pending left : Bytes) → IsRestOf pending left → IsLine pending → IsLine left
  left_line pending left at k = record {
    short = omega (arith, rest-shorter pending left at, k.short);
    bytes = rest-all (λ b. b < 256) pending left at k.bytes;
  }

  -- The words of the phrase that is taken.
  phrase_so : (r : Run) → Is r → (s : Sentence) (left : Bytes) → coming_phrase g r ≡ IsSentence s left →
      Is (taken_phrase s left r)
  phrase_so r k s left e =
      let words : AreWords s = phrase_words g.game v seed (bound r) g.answers r k.world k.earlier s left e in
      changed r k (with_sentence s r.world) (spoken_so g.game v seed (bound r) s r.world words k.world) left
      (left_line r.pending left (sentence-rest g.game r.pending r.earlier (flag r.world PRONOUN_NOUN_FLAG)
      (flag r.world PRONOUN_ADJECTIVE_FLAG) s left e) k.line) s.verb words.verb r.turning

  unknown_so : (r : Run) → Is r → (left : Bytes) → coming_phrase g r ≡ IsUnknown left →
      Is (record r { pending = left })
  unknown_so r k left e =
      with_pending r k left (left_line r.pending left
      (unknown-rest g.game r.pending r.earlier (flag r.world PRONOUN_NOUN_FLAG) (flag r.world PRONOUN_ADJECTIVE_FLAG)
      left e) k.line)

  taken_sound : (l : OpenLoop) (o : ℕ) (r : Run) → o < 256 → Is r → Is (object_taken g.game l o r)
  taken_sound l o r small k =
      changed r k _ (taken_so g.game v seed (bound r) l o r small k.world) r.pending k.line r.earlier k.earlier (Some (record l { last = o }))

  -- ---- each step ----

  dropped_if : (b : Bool) (line : Line) → IsLine line → IsLine (if b then [] else line)
  dropped_if true line k = no_line
  dropped_if false line k = k

  carried_so : (d : Done) (r : Run) → Is r → IsWorldAt g.game seed (bound r) d.world → Is (carried_out d r)
  carried_so d r k world = changed r k d.world world _ (dropped_if d.act.drop_line r.pending k.line) r.earlier k.earlier _

  line_set_so : (line : Line) (r : Run) → IsLine line → Is r → Is (line_set line r)
  line_set_so line r is k = changed r k _ (timeout_so g.game v seed (bound r) false r.world k.world) line is NO_WORD
      (omega arith) r.turning

  -- Each step keeps a run sound.
  pub sound_kept : IsKept g Is
  sound_kept = record {
    printed = λ r text k said fit. printed_so r text k fit;
    tested = λ f c b r stands k few.
        noted_so r f c b (holds g.game r.world c).world k few (condition_so g.game v seed (bound r) r.world c k.world);
    noted = λ f c r k few.
        noted_so r f c true r.world k few (later g.game v seed (bound r) r.world k.world (suc (bound r)) (omega arith));
    acts = λ f c r stands k few fit.
        let d : Done = effect_of g r.world c in
        let world : IsWorldAt g.game seed (suc (bound r)) d.world =
        effect_so g.game v seed (bound r) g.answers r.world c valid.bytes k.world (condact_follows g.game v f.table f.entry f.at c stands) in
        let done : Is (step_noted f c true (with_world d.world r)) = noted_so r f c true d.world k few world in
        let s : Is (step_noted f c true r) =
        noted_so r f c true r.world k few (later g.game v seed (bound r) r.world k.world (suc (bound r)) (omega arith)) in
        carried_so d (noted_printed f c d.text r) (printed_so (step_noted f c true r) d.text s fit) done.world;
    sentence = λ r s left k is. phrase_so r k s left is;
    unknown = λ r left k is. unknown_so r k left is;
    dropped = λ r k. dropped r k;
    closed = λ r k. (closed_rests r k).sound;
    next = λ r line lines k. with_events (record r { events = line ∷ lines }) k lines k.lines.1;
    heard = λ line r k. heard_so line r k;
    set = λ r line lines k.
        line_set_so line (record r { events = lines }) k.lines.0 (with_events (record r { events = line ∷ lines }) k lines k.lines.1);
    taken = λ l o r few k. taken_sound l o r (omega (arith, few, few_objects g.game v)) k;
    no_loop = λ r k. no_loop r k None;
    described = λ r k. in_world r k (location_described r.world) (described_so g.game v seed (bound r) r.world k.world);
    passed = λ r k. in_world r k (time_frame_passed r.world) (time_frame_so g.game v seed (bound r) r.world k.world);
    went = λ r to k is.
        in_world r k (with_flag r.world LOCATION_FLAG to) (went_so g.game v seed (bound r) r.world k.world to is);
    counted = λ r k. in_world r k (turn_counted r.world) (counted_so g.game v seed (bound r) r.world k.world);
    anew = anew_run;
  }

  -- Where play is over nothing is open.
  abbrev pub HaltsSound : Halt → Run → Type 0
  HaltsSound halt.Over r = Rests r
  HaltsSound _ r = Unit {0}

  abbrev pub claim : RunClaim
  claim = record {
    on = Is;
    acted = Is;
    closed = λ r lines. Rests r × AreLines lines;
    wait = λ p path r. Rests r;
    anew = Is;
    halt = HaltsSound;
  }

  carries : RunCarries g claim
  carries = record {
    printed = sound_kept.printed;
    tested = sound_kept.tested;
    acts = sound_kept.acts;
    reads_on = λ r k. k;
    sentence = sound_kept.sentence;
    unknown = sound_kept.unknown;
    taken = sound_kept.taken;
    no_loop = sound_kept.no_loop;
    closes = λ r k. (closed_rests r k, k.lines);
    waits = λ p f r k. resting_events r k.0 [] tt;
    ignored = λ r line lines k. (closed_rests (record r { events = lines }) (with_events r k.0.sound lines k.1.1), k.1.1);
    heard = λ r line lines k. heard_so line (record r { events = lines }) (with_events r k.0.sound lines k.1.1);
    above = λ p f path r k. k;
    exhausted = λ r k. tt;
    too_long = λ r k. tt;
    unfit = λ f c r k few. tt;
    too_deep = λ u r k. tt;
    redescribed = sound_kept.no_loop;
    restarted = anew_run;
    ended = λ r k. closed_rests (without_loop (line_dropped r)) (no_loop (line_dropped r) (dropped r k) None);
  }

  turns : TurnCarries g claim
  turns = record {
    begins = λ r k. k;
    described = sound_kept.described;
    passed = sound_kept.passed;
    went = sound_kept.went;
    counted = sound_kept.counted;
    dropped = dropped;
    set = λ r line lines k. line_set_so line (record r { events = lines }) k.1.0 (with_events r k.0.sound lines k.1.1);
    awaits = λ r k. resting_events r k.0 [] tt;
  }

  abbrev pub EndsSound : Ending → Type 0
  EndsSound e = TurnEnds claim e

  pub opening_so : (es : Lines) → AreLines es → Is (opening g seed es)
  opening_so es are = record {
    world = later g.game v seed 0 _ (start_so g.game v seed) (bound (opening g seed es)) (omega arith);
    few = omega arith;
    line = no_line;
    earlier = omega arith;
    text = omega arith;
    pieces = λ k d low. absurd (omega arith);
    lines = are;
    traced = refl;
  }

  -- Where a reading stops the run is sound, and where it waits or is over nothing is open.
  pub reading_sounds : (es : Lines) → AreLines es → EndsSound (reading g seed es)
  reading_sounds es are =
      turn_ends g claim (between g claim carries) turns (phases_left (opening g seed es)) AtDescribe (opening g seed es) (opening_so es are)

  pub going_on_sounds : (p : Prompt) (path : List Frame) (r : Run) → Rests r → EndsSound (going_on_from g p path r)
  going_on_sounds p path r k = goes_on_ends g claim carries turns (phases_left r) p path r k.sound (k, k.sound.lines) k
