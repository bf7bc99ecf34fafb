-- How showing the text of a command ends, and commands that only show something of a file.
use Rattle.std.specs.Prelude.{◌≡◌, ◌≤◌, ◌<◌, ℕ, length, Some, None}
use Rattle.paw_base.specs.Bytes.{Bytes, Name, Text}
use Rattle.paw_stage.specs.Stage.{Standing, with_shown, InShow}
use Rattle.paw_stage.specs.declared.StageCall.TheVariants as call
use Rattle.paw_stage.specs.AcrossCalls.{IsOneOf}
use Rattle.paw_wrap.specs.FirstFit.{first_fit}
use Rattle.paw_wrap.specs.declared.columns.TheConstants.{WRAP_LIMIT}
use Rattle.paw_top.specs.Answers.{load_memory}
use Rattle.paw_top.specs.declared.outcome.Outcome.{Outcome}
use Rattle.paw_top.specs.declared.outcome.Outcome.TheVariants as outcome
use Rattle.paw_top.specs.declared.outcome.MemoryAt.{MemoryAt}
use Rattle.paw_top.specs.declared.outcome.MemoryAt.TheVariants as memory

-- The whole text was shown; or a first part of it was, and the call failed. All else stays, every file included.
abbrev pub Shows : Text → Standing → Standing → Outcome → Type 0
Shows text old new outcome.Done = new ≡ with_shown text old
Shows text old new (outcome.Outside call.Show) = InShow old text new
Shows text old new _ = ⊥

-- ---- a text in columns ----

-- The file of this name holds this text, which is no longer than a text that is wrapped may be.
abbrev pub HoldsText : Standing → Name → Text → Type 0
HoldsText s name text = (s.files name ≡ Some text) × (length text ≤ WRAP_LIMIT)

-- How wrapping ends, and what it leaves.
pub data Wraps (width : ℕ) (name : Name) (old new : Standing) : Outcome → Type 0 where
  -- The file holds a text, and this was shown with its lines broken by first fit.
  done : (text : Text) → HoldsText old name text → new ≡ with_shown (first_fit width text).bytes old →
      Wraps width name old new outcome.Done
  -- The file is longer than a text may be; nothing is changed.
  too_long : (bytes : Bytes) → old.files name ≡ Some bytes → WRAP_LIMIT < length bytes → new ≡ old →
      Wraps width name old new outcome.TextTooLong
  -- There is no file; nothing is changed.
  absent : old.files name ≡ None → new ≡ old → Wraps width name old new (outcome.Outside call.LoadAbsent)
  -- The file couldn't be loaded; nothing is changed.
  unloaded : new ≡ old → Wraps width name old new (outcome.Outside call.Load)
  -- The text couldn't be shown: a first part of it was.
  unshown : (text : Text) → HoldsText old name text → InShow old (first_fit width text).bytes new →
      Wraps width name old new (outcome.Outside call.Show)
  -- Memory was lacking for the load; nothing is changed.
  without_memory : (at : MemoryAt) → IsOneOf load_memory at → new ≡ old → Wraps width name old new (outcome.Memory at)
  -- Memory was lacking for the breaks of the text; nothing is changed.
  unwrapped : (text : Text) → HoldsText old name text → new ≡ old →
      Wraps width name old new (outcome.Memory memory.Wrap)
