-- A run of a game.
use Rattle.std.specs.Prelude.{ℕ, ◌+◌, ◌%◌, ◌==◌, ◌&&◌, ◌||◌, Bool, false, not, List, [], ◌∷◌}
use Rattle.std.specs.Prelude.{◌++◌, Option, None, length, find, nat_le, if◌then◌else◌}
use Rattle.std.specs.Option.{option_map_or}
use Rattle.std.specs.Str.{bytes_eq}
use Rattle.paw_base.specs.Bytes.{Bytes, Line, Lines, Text, Texts}
use Rattle.paw_base.specs.declared.flags.TheConstants.{VERB_FLAG, NOUN_FLAG, ADJECTIVE_FLAG, ADVERB_FLAG}
use Rattle.paw_base.specs.declared.flags.TheConstants.{PREPOSITION_FLAG, SECOND_NOUN_FLAG, SECOND_ADJECTIVE_FLAG}
use Rattle.paw_base.specs.declared.flags.TheConstants.{PRONOUN_NOUN_FLAG, PRONOUN_ADJECTIVE_FLAG, TIMEOUT_FLAG}
use Rattle.paw_base.specs.declared.flags.TheConstants.{TIMED_OUT_FLAG, TIMED_OUT_BIT}
use Rattle.paw_base.specs.declared.limits.TheConstants.{PIECE_LIMIT}
use Rattle.paw_base.specs.declared.words.TheConstants.{NO_WORD}
pub use Rattle.paw_base.specs.declared.steps.StepRow.{StepRow}
use Rattle.paw_world.specs.World.{World, flag, with_flag, world_restarted}
use Rattle.paw_phrase.specs.declared.Sentence.{Sentence}
use Rattle.paw_reading.specs.declared.frames.OpenLoop.{OpenLoop}

-- What stands at one time in play: the world; the unread bytes of the line, and the verb of the phrase before; the open
-- loop; text and steps of the open piece (each condact read in it, in order, with yes, or no for a condition that
-- failed); texts and steps of the closed pieces; and the lines not yet taken.
pub record Run : Type 0 where
  pub world : World
  pub pending : Bytes
  pub earlier : ℕ
  pub turning : Option OpenLoop
  pub current : Text
  pub read : List StepRow
  pub pieces : Texts
  pub traces : List (List StepRow)
  pub events : Lines

-- Closes the open piece, and begins the next one.
abbrev pub piece_closed : Run → Run
piece_closed r = record r {
  current = [];
  read = [];
  pieces = r.pieces ++ r.current ∷ [];
  traces =
      r.traces ++ r.read ∷ [];
}

-- Whether a text fits into the open piece, which holds at most 65,535 bytes.
abbrev pub fits : Run → Text → Bool
fits r text = nat_le (length r.current + length text) PIECE_LIMIT

-- The run with this text printed into its open piece.
abbrev pub text_printed : Text → Run → Run
text_printed text r = record r { current = r.current ++ text }

-- The run with this world in place of its own.
abbrev pub with_world : World → Run → Run
with_world w r = record r { world = w }

-- The run with no open loop.
abbrev pub without_loop : Run → Run
without_loop r = record r { turning = None }

-- The run with the rest of its line dropped.
abbrev pub line_dropped : Run → Run
line_dropped r = record r { pending = [] }

-- The game starts anew, with the rest of the line dropped and no loop open. Seed and draws, the saved and the kept
-- positions, all pieces and the lines to come stay.
abbrev pub anew : Run → Run
anew r = record r { world = world_restarted r.world; pending = []; earlier = NO_WORD; turning = None }

-- ---- lines ----

-- Whether a line stands for a timeout: it is ~ alone.
abbrev pub is_timeout : Line → Bool
is_timeout line = bytes_eq line (126 ∷ [])

-- Whether a line is ignored: it is a timeout, and the flag that lets prompts run out of time is 0.
abbrev pub is_ignored : World → Line → Bool
is_ignored w line = is_timeout line && (flag w TIMEOUT_FLAG == 0)

-- The world in which bit 7 of a flag says whether the last line was a timeout; the flag's other bits stay.
abbrev pub with_timeout : Bool → World → World
with_timeout b w =
    let rest = flag w TIMED_OUT_FLAG % TIMED_OUT_BIT in
    with_flag w TIMED_OUT_FLAG (if b then TIMED_OUT_BIT + rest else rest)

-- The run once it heard a line: a flag says whether it was a timeout.
abbrev pub with_line_heard : Line → Run → Run
with_line_heard line r = with_world (with_timeout (is_timeout line) r.world) r

-- The answer that a line gives to a question; a timeout gives an empty line.
abbrev pub reply : Line → Line
reply line = if is_timeout line then [] else line

-- Whether the first byte that isn't a space is this letter, as a capital or a small one.
abbrev pub begins_with : ℕ → Line → Bool
begins_with capital line =
    option_map_or (λ b. (b == capital) || (b == capital + 32)) (find (λ b. not (b == 32)) line) false

-- Whether an answer is yes: it begins with Y.
abbrev pub is_yes : Line → Bool
is_yes line = begins_with 89 line

-- Whether an answer is no: it begins with N.
abbrev pub is_no : Line → Bool
is_no line = begins_with 78 line

-- ---- sentences ----

-- The world with this sentence in its flags.
abbrev pub with_sentence : Sentence → World → World
with_sentence s w =
    let noun = with_flag (with_flag (with_flag w VERB_FLAG s.verb) NOUN_FLAG s.noun) ADJECTIVE_FLAG s.adjective in
    let first = with_flag (with_flag noun ADVERB_FLAG s.adverb) PREPOSITION_FLAG s.preposition in
    let second = with_flag (with_flag first SECOND_NOUN_FLAG s.second_noun) SECOND_ADJECTIVE_FLAG s.second_adjective in
    with_flag (with_flag second PRONOUN_NOUN_FLAG s.pronoun_noun) PRONOUN_ADJECTIVE_FLAG s.pronoun_adjective

-- The run once it took a phrase: its sentence is in the flags, and its verb is kept for the next phrase, which may lack
-- one.
abbrev pub taken_phrase : Sentence → Bytes → Run → Run
taken_phrase s rest r = record r { world = with_sentence s r.world; pending = rest; earlier = s.verb }
