-- The answer for how playing ends.
use Rattle.std.specs.Option.{option_map_or}
use Rattle.paw_base.specs.Bytes.{Name}
use Rattle.paw_game.specs.Game.{GameLists}
use Rattle.paw_stage.specs.Stage.{Standing}
use Rattle.paw_journal.specs.declared.refusal.JournalRefusal.{JournalRefusal}
use Rattle.paw_journal.specs.declared.refusal.JournalRefusal.TheVariants as refusal
use Rattle.paw_journal.specs.declared.refusal.SessionPart.TheVariants as part
use Rattle.paw_reading.specs.declared.halt.Halt.{Halt}
use Rattle.paw_reading.specs.declared.halt.Halt.TheVariants as halt
use Rattle.paw_play.specs.Walk.{end_halt}
use Rattle.paw_play.specs.declared.PlayEnd.{PlayEnd}
use Rattle.paw_play.specs.declared.PlayEnd.TheVariants as end
use Rattle.paw_play.specs.ImageFiles.{Holds}
use Rattle.paw_top.specs.Opens.{Unopened}
use Rattle.paw_top.specs.declared.outcome.Outcome.{Outcome}
use Rattle.paw_top.specs.declared.outcome.Outcome.TheVariants as outcome
use Rattle.paw_top.specs.declared.outcome.MemoryAt.TheVariants as memory

-- The answer for a store that gives no session of the game.
abbrev pub refused_as : JournalRefusal → Outcome
refused_as (refusal.Unmade n mark) = outcome.Unmade n mark
refused_as (refusal.Damaged p at) = outcome.SessionDamaged p at
refused_as (refusal.WrongGame kept found) = outcome.WrongGame kept found
refused_as (refusal.WrongRoutines kept found) = outcome.WrongRoutines kept found
refused_as (refusal.Outside c) = outcome.Outside c

-- The answer for what ended play for good.
abbrev pub outcome_of_halt : Halt → Outcome
outcome_of_halt halt.Over = outcome.Ended
outcome_of_halt (halt.Spent kind) = outcome.Spent kind
outcome_of_halt (halt.TooDeep table) = outcome.TooDeep table

-- The answer for how playing ended: of those ends that have no row of their own, a halt has its answer, and the other
-- is lack of memory.
abbrev pub outcome_of : PlayEnd → Outcome
outcome_of end.InputEnded = outcome.InputEnded
outcome_of (end.Occupied n) = outcome.Occupied n
outcome_of (end.Refused r) = refused_as r
outcome_of (end.State at) = outcome.SessionDamaged part.State at
outcome_of (end.Long events) = outcome.Long events
outcome_of (end.Outside c) = outcome.Outside c
outcome_of o = option_map_or outcome_of_halt (end_halt o) (outcome.Memory memory.Play)

-- The game that this file holds is played, and ends in one of these ways; or it isn't played, and nothing is changed.
pub data PlaysFile (Comes : GameLists → PlayEnd → Type 0) (name : Name) (old new : Standing) : Outcome → Type 0 where
  plays : (g : GameLists) (end : PlayEnd) → Holds old name g → Comes g end →
      PlaysFile Comes name old new (outcome_of end)
  unopened : (o : Outcome) → Unopened name old new o → PlaysFile Comes name old new o
