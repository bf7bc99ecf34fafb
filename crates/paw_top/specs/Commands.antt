-- The commands: their words, what usage shows of them, and what each of them means.
use Rattle.std.specs.Prelude.{ℕ, List, [], ◌∷◌, ◌++◌, length, Bool, true, false, Option, Some, None}
use Rattle.std.specs.Prelude.{nat_lt, codes, map, string_bytes, if◌then◌else◌}
use Rattle.std.specs.declared.string.String.{String}
use Rattle.std.specs.Option.{option_map, option_and_then}
use Rattle.std.specs.Str.{bytes_eq}
use Rattle.paw_base.specs.Bytes.{Bytes, Name, RoutineAnswers, Seed, Text}
use Rattle.paw_reading.specs.Turn.{reading}
use Rattle.paw_stage.specs.Stage.{Standing}
use Rattle.paw_stage.specs.declared.StageCall.{StageCall}
use Rattle.paw_stage.specs.declared.StageCall.TheVariants as call
use Rattle.paw_play.specs.Calls.{walk_calls, session_calls}
use Rattle.paw_play.specs.Numbers.{number_of, seed_of}
use Rattle.paw_stage.specs.Loads.{load_calls}
use Rattle.paw_top.specs.Answers.{load_memory}
use Rattle.paw_top.specs.Compile.{Compiles}
use Rattle.paw_top.specs.Check.{Checks}
use Rattle.paw_top.specs.Decompile.{Decompiles}
use Rattle.paw_top.specs.Shows.{Wraps}
use Rattle.paw_top.specs.Walk.{WalksAs, reading_traced}
use Rattle.paw_top.specs.Sessions.{PlaysNewIn, ResumesIn, TwoParts, NewAtEachMoment, AgainAtEachMoment}
use Rattle.paw_top.specs.Tries.{Tries}
use Rattle.paw_top.specs.declared.outcome.Outcome.{Outcome}
use Rattle.paw_top.specs.declared.outcome.MemoryAt.{MemoryAt}
use Rattle.paw_top.specs.declared.outcome.MemoryAt.TheVariants as memory_at

-- What a call may ask for: to compile a source to an image; to show the source of an image; to walk through the game of
-- an image, with a seed; to play it, with a new session in a store; to go on with the session in a store; to trace a
-- walk; to play the trial of a number; to show what any play of the game of an image takes at most; to show a text in
-- columns of a width.
pub data Command : Type 0 where
  Compile : (source image : Name) → Command
  Decompile : (image : Name) → Command
  Walk : (image : Name) (seed : Seed) → Command
  Play : (image store : Name) (seed : Seed) → Command
  Resume : (image store : Name) → Command
  Trace : (image : Name) (seed : Seed) → Command
  Trial : (n : ℕ) → Command
  Check : (image : Name) → Command
  Wrap : (width : ℕ) (text : Name) → Command

-- ---- words ----

-- The words that follow the name of a command: none; or the name of a file, or a number that is read by this function,
-- and then the words of another form. Usage shows the name and the number by these letters.
pub data Form : Type 0 where
  End : Form
  File : (shown : Text) (others : Form) → Form
  Number : (shown : Text) (read : Bytes → Option ℕ) (others : Form) → Form

-- The function that makes a command from words of this form.
abbrev pub Makes : Form → Type 0
Makes End = Command
Makes (File shown others) = Name → Makes others
Makes (Number shown read others) = ℕ → Makes others

-- A command: its name, the form of the words after the name, and what makes it from them.
pub record CommandRow : Type 0 where
  pub name : Name
  pub form : Form
  pub makes : Makes form

-- The number of a trial that a word spells: 1 to 4 decimal digits.
abbrev pub trial_of : Bytes → Option ℕ
trial_of word = number_of 4 word

-- The byte that a word spells: 1 to 3 decimal digits, with a value below 256.
abbrev pub byte_of : Bytes → Option ℕ
byte_of word = option_and_then (λ n. if nat_lt n 256 then Some n else None) (number_of 3 word)

-- The width that a word spells: a byte that isn't 0.
abbrev pub width_of : Bytes → Option ℕ
width_of word = option_and_then (λ n. if nat_lt 0 n then Some n else None) (byte_of word)

-- All commands.
abbrev pub commands : List CommandRow
commands =
    record { name = codes "compile"; form = File (codes "S") (File (codes "I") End); makes = Compile }
    ∷ record { name = codes "decompile"; form = File (codes "I") End; makes = Decompile }
    ∷ record { name = codes "walk"; form = File (codes "I") (Number (codes "SEED") seed_of End); makes = Walk }
    ∷ record {
      name = codes "play";
      form = File (codes "I") (File (codes "F") (Number (codes "SEED") seed_of End));
      makes = Play;
    }
    ∷ record { name = codes "resume"; form = File (codes "I") (File (codes "F") End); makes = Resume }
    ∷ record { name = codes "trace"; form = File (codes "I") (Number (codes "SEED") seed_of End); makes = Trace }
    ∷ record { name = codes "trial"; form = Number (codes "N") trial_of End; makes = Trial }
    ∷ record { name = codes "check"; form = File (codes "I") End; makes = Check }
    ∷ record { name = codes "wrap"; form = Number (codes "N") width_of (File (codes "T") End); makes = Wrap }
    ∷ []

-- ---- what they mean ----

-- What a command means: the calls of the stage that it makes; where memory may be lacking for it; how it ends with
-- these answers of routines, and what it leaves; and what stands at each moment.
pub record CommandMeaning : Type 1 where
  pub calls : List StageCall
  pub memory : List MemoryAt
  pub comes : RoutineAnswers → Standing → Standing → Outcome → Type 0
  pub moments : TwoParts → RoutineAnswers → Standing → Type 0

-- The meaning of a command that attaches no store: only what stands afterwards is stated.
abbrev pub storeless : List StageCall → List MemoryAt → (RoutineAnswers → Standing → Standing → Outcome → Type 0) →
    CommandMeaning
storeless calls memory comes = record {
  calls = calls;
  memory = memory;
  comes = comes;
  moments = λ Come answers old. Unit {0};
}

-- The meaning of a command that plays with a session.
abbrev pub with_session : (RoutineAnswers → Standing → Standing → Outcome → Type 0)
    → (TwoParts → RoutineAnswers → Standing → Type 0) → CommandMeaning
with_session comes moments = record {
  calls = load_calls ++ session_calls;
  memory = memory_at.Play ∷ load_memory;
  comes = comes;
  moments = moments;
}

-- What each command means.
abbrev pub meaning : Command → CommandMeaning
meaning (Compile source image) =
    storeless (call.Save ∷ call.Show ∷ load_calls) (memory_at.Source ∷ load_memory) (λ answers. Compiles source image)
meaning (Decompile image) =
    storeless (call.Show ∷ load_calls) (memory_at.Print ∷ load_memory) (λ answers. Decompiles image)
meaning (Walk image seed) =
    storeless (load_calls ++ walk_calls) (memory_at.Play ∷ load_memory) (λ answers. WalksAs reading answers image seed)
meaning (Play image store seed) =
    with_session (λ answers. PlaysNewIn answers image store seed)
    (λ Come answers. NewAtEachMoment Come answers image store seed)
meaning (Resume image store) =
    with_session (λ answers. ResumesIn answers image store) (λ Come answers. AgainAtEachMoment Come answers image store)
meaning (Trace image seed) =
    storeless (load_calls ++ walk_calls) (memory_at.Play ∷ load_memory)
    (λ answers. WalksAs reading_traced answers image seed)
meaning (Trial n) = storeless (call.Show ∷ []) (memory_at.Trial ∷ []) (λ answers. Tries n)
meaning (Check image) = storeless (call.Show ∷ load_calls) (memory_at.Check ∷ load_memory) (λ answers. Checks image)
meaning (Wrap width text) =
    storeless (call.Show ∷ load_calls) (memory_at.Wrap ∷ load_memory) (λ answers. Wraps width text)

-- ---- from words to a command ----

-- Whether no more words come.
abbrev pub no_more : List Bytes → Bool
no_more [] = true
no_more (word ∷ words) = false

-- The name of a file, which has at least one byte, and the words after it.
abbrev pub next_file : List Bytes → Option (Name × List Bytes)
next_file [] = None
next_file (name ∷ words) = if nat_lt 0 (length name) then Some (name, words) else None

-- The number that the next word is read as, and the words after it.
abbrev pub next_number : (Bytes → Option ℕ) → List Bytes → Option (ℕ × List Bytes)
next_number read [] = None
next_number read (word ∷ words) = option_map (λ n. (n, words)) (read word)

-- The command that these words make in this form.
abbrev pub made_in : (form : Form) → Makes form → List Bytes → Option Command
made_in End command words = if no_more words then Some command else None
made_in (File shown others) makes words =
    option_and_then (λ next. made_in others (makes next.0) next.1) (next_file words)
made_in (Number shown read others) makes words =
    option_and_then (λ next. made_in others (makes next.0) next.1) (next_number read words)

-- The command with this name that the words after the name make.
abbrev pub command_named : List CommandRow → Name → List Bytes → Option Command
command_named [] name words = None
command_named (r ∷ rows) name words =
    if bytes_eq name r.name then made_in r.form r.makes words else command_named rows name words

-- The command that these words make, of which the first is its name.
abbrev pub command_of : List Bytes → Option Command
command_of [] = None
command_of (name ∷ words) = command_named commands name words

-- What the words of a call ask for.
abbrev pub asked_for : {Z : Type 0} → List (String Z) → Option Command
asked_for words = command_of (map string_bytes words)

-- ---- usage ----

-- The words after the name of a command, as usage shows them.
abbrev pub form_shown : Form → Text
form_shown End = []
form_shown (File shown others) = codes " " ++ (shown ++ form_shown others)
form_shown (Number shown read others) = codes " " ++ (shown ++ form_shown others)

-- The commands as usage shows them, with this before the first, and a bar before each other.
abbrev pub rows_shown : Text → List CommandRow → Text
rows_shown mark [] = codes "\n"
rows_shown mark (r ∷ rows) = mark ++ (r.name ++ (form_shown r.form ++ rows_shown (codes " | ") rows))

-- The line that shows every command.
unfoldable pub usage : Text
usage = rows_shown (codes "usage: paw ") commands
