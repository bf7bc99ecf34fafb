-- How walking through the game of an image ends, and what it leaves.
use Rattle.paw_base.specs.Bytes.{Name, RoutineAnswers, Seed}
use Rattle.paw_base.specs.declared.limits.TheConstants.{EVENT_LIMIT}
use Rattle.paw_effects.specs.Story.{Story, story_of}
use Rattle.paw_reading.specs.Turn.{reading}
use Rattle.paw_stage.specs.Stage.{Standing}
use Rattle.paw_play.specs.Traces.{traced_ending}
use Rattle.paw_play.specs.Walk.{EndingOf, Walks}
use Rattle.paw_top.specs.Ends.{PlaysFile}
use Rattle.paw_top.specs.declared.outcome.Outcome.{Outcome}

-- A walk through the game that this file holds, by this reading, with these answers of routines; or why there is none.
abbrev pub WalksAs : (Story → Seed → EndingOf) → RoutineAnswers → Name → Seed → Standing → Standing → Outcome → Type 0
WalksAs read answers name seed old new o =
    PlaysFile (λ g end. Walks (read (story_of g answers) seed) EVENT_LIMIT old new end) name old new o

-- The reading of a story as a trace shows it: the steps of each piece come before it.
abbrev pub reading_traced : Story → Seed → EndingOf
reading_traced s seed lines = traced_ending (reading s seed lines)
