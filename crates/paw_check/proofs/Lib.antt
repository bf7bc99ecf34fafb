mod EachPlain
mod Carried
mod Verb
mod Lengths
mod Listed
mod Signs
mod Spoken
mod ActionFacts
mod EachAction
pub mod PrintsWithin
pub mod VerbLeft
pub mod Capped
pub mod Cells
pub mod DecidingLaws
pub mod Entries
pub mod FoundLaws
pub mod Greatest
pub mod LevelLaws
pub mod MarkLaws
pub mod SpotLaws
pub mod RangeSums
pub mod ReachedLaws
pub mod RoundLaws
pub mod Rows
pub mod SetLaws
pub mod TurnWorlds
pub mod Said
pub mod Allowances
pub mod Room
pub mod Phases
pub mod Members
pub mod TableWorlds
pub mod Leading
pub mod Uses
pub mod Tables
pub mod TableCosts
pub mod Within
pub mod Alike
pub mod Reaching
pub mod Levels
pub mod Holds
pub mod EveryPlay
pub mod TextLaws
