-- What a trial shows.
use Rattle.std.specs.Prelude.{ℕ, [], ◌++◌, codes, decimal}
use Rattle.paw_base.specs.Bytes.{Text}
use Rattle.paw_base.specs.declared.flags.TheConstants.{CARRIED_FLAG, LOCATION_FLAG}
use Rattle.paw_world.specs.World.{World, flag}
use Rattle.paw_effects.specs.Counts.{turns_taken}
use Rattle.paw_effects.specs.Story.{Story, story_of}
use Rattle.paw_reading.specs.Turn.{Ending, reading}
use Rattle.paw_gen.specs.Trial.{trial_game, trial_lines, location_count, object_count, line_count}

-- The game of a trial, with no routines, since it calls none.
abbrev pub trial_story : ℕ → Story
trial_story n = story_of (trial_game n) []

-- How the reading of all lines of a trial ends; the trial's number is its seed.
abbrev pub trial_reading : ℕ → Ending
trial_reading n = reading (trial_story n) n (trial_lines n)

-- The line of a trial: its number; how many locations and objects its game has, how many lines were taken and how many
-- turns counted; where the player is at the end, and how many objects they carry.
abbrev pub trial_text : ℕ → World → Text
trial_text n w =
    codes "TRIAL " ++ (decimal n ++ (codes ": "
    ++ (decimal (location_count n) ++ (codes " locations, "
    ++ (decimal (object_count n) ++ (codes " objects, "
    ++ (decimal (line_count n) ++ (codes " events, "
    ++ (decimal (turns_taken w) ++ (codes " turns, at "
    ++ (decimal (flag w LOCATION_FLAG) ++ (codes " with "
    ++ (decimal (flag w CARRIED_FLAG) ++ codes "\n")))))))))))))
