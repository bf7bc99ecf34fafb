-- What each step of play keeps of a run holds in each reading. Most laws of play need no more than this.
use Rattle.std.proofs.Common.{◌≡◌, ℕ, ◌<◌, ◌∷◌, List, Some, Bool, true, length}
use Rattle.paw_base.specs.Bytes.{Bytes, Line, Lines, Text}
use Rattle.paw_base.specs.declared.flags.TheConstants.{LOCATION_FLAG, VERB_FLAG}
use Rattle.paw_base.specs.declared.limits.TheConstants.{READ_LIMIT}
use Rattle.paw_base.specs.declared.parts.Condact.{Condact}
use Rattle.paw_game.specs.Tables.{exit_at}
use Rattle.paw_world.specs.World.{flag, with_flag}
use Rattle.paw_phrase.specs.declared.Sentence.{Sentence}
use Rattle.paw_phrase.specs.Sentence.{IsSentence, IsUnknown}
use Rattle.paw_effects.specs.Story.{Story}
use Rattle.paw_effects.specs.declared.act.Prompt.{Prompt}
use Rattle.paw_effects.specs.Holds.{holds}
use Rattle.paw_effects.specs.Effects.{effect_of}
use Rattle.paw_reading.specs.declared.frames.Frame.{Frame}
use Rattle.paw_reading.specs.declared.frames.OpenLoop.{OpenLoop}
use Rattle.paw_reading.specs.Run.{Run, piece_closed, fits, text_printed, with_world, without_loop, line_dropped, anew, with_line_heard}
use Rattle.paw_reading.specs.Run.{taken_phrase}
use Rattle.paw_reading.specs.Reading.{step_noted, object_taken, coming_phrase, carried_out}
use Rattle.paw_reading.specs.Turn.{TurnPhase, Ending, WaitsAt, Halted, Unended, location_described, time_frame_passed, turn_counted, turn}
use Rattle.paw_reading.specs.Turn.{goes_on}
use Rattle.paw_reading.specs.inner.Parts.{line_set}
use Rattle.paw_reading.specs.inner.Always.{EndsIn}
use Rattle.paw_reading.proofs.EachStep.{StandsAt, noted_printed}
use Rattle.paw_reading.proofs.Induction.{IsSaid}
use Rattle.paw_reading.proofs.RunInduction.{RunClaim, RunCarries, TurnCarries, TurnEnds, between, turn_ends, goes_on_ends}

-- Each step keeps what holds of a run.
pub record IsKept (g : Story) (P : Run → Type 0) : Type 0 where
  -- texts and condacts
  pub printed : (r : Run) (text : Text) → P r → IsSaid g.game text → fits r text ≡ true → P (text_printed text r)
  pub tested : (f : Frame) (c : Condact) (b : Bool) (r : Run) → StandsAt g f c → P r → length r.read < READ_LIMIT →
      P (step_noted f c b (with_world (holds g.game r.world c).world r))
  pub noted : (f : Frame) (c : Condact) (r : Run) → P r → length r.read < READ_LIMIT → P (step_noted f c true r)
  pub acts : (f : Frame) (c : Condact) (r : Run) → StandsAt g f c → P r → length r.read < READ_LIMIT →
      fits (step_noted f c true r) (effect_of g r.world c).text ≡ true →
      P (carried_out (effect_of g r.world c) (noted_printed f c (effect_of g r.world c).text r))
  -- phrases and lines
  pub sentence : (r : Run) (s : Sentence) (left : Bytes) → P r → coming_phrase g r ≡ IsSentence s left → P (taken_phrase s left r)
  pub unknown : (r : Run) (left : Bytes) → P r → coming_phrase g r ≡ IsUnknown left → P (record r { pending = left })
  pub dropped : (r : Run) → P r → P (line_dropped r)
  pub closed : (r : Run) → P r → P (piece_closed r)
  pub next : (r : Run) (line : Line) (lines : Lines) → P (record r { events = line ∷ lines }) → P (record r { events = lines })
  pub heard : (line : Line) (r : Run) → P r → P (with_line_heard line r)
  pub set : (r : Run) (line : Line) (lines : Lines) → P (record r { events = line ∷ lines }) → P (line_set line (record r { events = lines }))
  -- loops, turns and a new start
  pub taken : (l : OpenLoop) (o : ℕ) (r : Run) → o < length g.game.objects → P r → P (object_taken g.game l o r)
  pub no_loop : (r : Run) → P r → P (without_loop r)
  pub described : (r : Run) → P r → P (with_world (location_described r.world) r)
  pub passed : (r : Run) → P r → P (with_world (time_frame_passed r.world) r)
  pub went : (r : Run) (to : ℕ) → P r → exit_at g.game (flag r.world LOCATION_FLAG) (flag r.world VERB_FLAG) ≡ Some to →
      P (with_world (with_flag r.world LOCATION_FLAG to) r)
  pub counted : (r : Run) → P r → P (with_world (turn_counted r.world) r)
  pub anew : (r : Run) → P r → P (anew r)

module _ (g : Story) (P : Run → Type 0) (k : IsKept g P) where
  abbrev claim : RunClaim
  claim = record {
    on = P;
    acted = P;
    closed = λ r lines. P (record r { events = lines });
    wait = λ p path r. P r;
    anew = P;
    halt = λ halt r. P r;
  }

  carries : RunCarries g claim
  carries = record {
    printed = k.printed;
    tested = k.tested;
    acts = k.acts;
    reads_on = λ r on. on;
    sentence = k.sentence;
    unknown = k.unknown;
    taken = k.taken;
    no_loop = k.no_loop;
    closes = k.closed;
    waits = λ p f r on. on;
    ignored = λ r line lines on. k.closed (record r { events = lines }) (k.next r line lines on);
    heard = λ r line lines on. k.heard line (record r { events = lines }) (k.next r line lines on);
    above = λ p f path r on. on;
    exhausted = λ r on. on;
    too_long = λ r on. on;
    unfit = k.noted;
    too_deep = λ u r on. on;
    redescribed = k.no_loop;
    restarted = k.anew;
    ended = λ r on. k.closed (without_loop (line_dropped r)) (k.no_loop (line_dropped r) (k.dropped r on));
  }

  turns : TurnCarries g claim
  turns = record {
    begins = λ r on. on;
    described = k.described;
    passed = k.passed;
    went = k.went;
    counted = k.counted;
    dropped = k.dropped;
    set = k.set;
    awaits = λ r on. on;
  }

  in_ending : (e : Ending) → TurnEnds claim e → EndsIn P e
  in_ending (WaitsAt p path r) on = on
  in_ending (Halted halt r) on = on
  in_ending Unended on = tt

  -- So it holds wherever a turn ends, and where going on from a prompt does.
  pub turn_kept : (n : ℕ) (s : TurnPhase) (r : Run) → P r → EndsIn P (turn g n s r)
  turn_kept n s r on = in_ending (turn g n s r) (turn_ends g claim (between g claim carries) turns n s r on)

  pub goes_on_kept : (n : ℕ) (p : Prompt) (path : List Frame) (r : Run) → P r → EndsIn P (goes_on g n p path r)
  goes_on_kept n p path r on = in_ending (goes_on g n p path r) (goes_on_ends g claim carries turns n p path r on on on)
