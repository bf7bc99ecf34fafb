-- What is shown of a verdict.
use Rattle.std.specs.Prelude.{◌++◌, codes}
use Rattle.std.specs.Fmt.{decimal}
use Rattle.paw_base.specs.Bytes.{Name, Text}
use Rattle.paw_check.specs.declared.verdict.Cause.{Cause}
use Rattle.paw_check.specs.declared.verdict.Cause.TheVariants as cause
use Rattle.paw_check.specs.declared.verdict.Verdict.{Verdict}
use Rattle.paw_check.specs.declared.verdict.Verdict.TheVariants as verdict

-- The name of a cause for which a game has no bound.
abbrev pub cause_name : Cause → Name
cause_name cause.Calls = codes "Calls"
cause_name cause.Redescribe = codes "Redescribe"
cause_name cause.Condacts = codes "Condacts"
cause_name cause.Text = codes "Text"

-- What is shown of a game: its bound, or the first cause why there is none, with the table and the entry.
abbrev pub verdict_text : Verdict → Text
verdict_text (verdict.Bound levels condacts text) = codes "BOUND levels "
    ++ (decimal levels ++ (codes " condacts "
    ++ (decimal condacts ++ (codes " text " ++ (decimal text ++ codes "\n")))))
verdict_text (verdict.Unknown why table entry) = codes "UNKNOWN "
    ++ (cause_name why ++ (codes " at " ++ (decimal table ++ (codes "." ++ (decimal entry ++ codes "\n")))))
