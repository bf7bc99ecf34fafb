-- Going on from where a run waits inside tables: words that contracts between crates and proofs use besides those of
-- specs/GoingOn.antt.
use Rattle.std.specs.Prelude.{ℕ, suc, List, [], ◌∷◌, ◌++◌, length}
use Rattle.paw_base.specs.Bytes.{Lines}
use Rattle.paw_effects.specs.Story.{Story}
use Rattle.paw_reading.specs.declared.frames.Frame.{Frame}
use Rattle.paw_reading.specs.Run.{Run}
use Rattle.paw_reading.specs.Reading.{Out, Left, Waits, Stopped, after_call, rest_of_table}
use Rattle.paw_reading.specs.GoingOn.{on_path}

-- Goes on with what each open table was left with, the innermost first.
abbrev pub along : Story → List Frame → Out → Out
along g [] x = x
along g (f ∷ fs) x = along g fs (after_call f (rest_of_table g (length fs) f.table f.entry (suc f.at)) x)

-- The run with these lines after those that are left.
abbrev pub with_lines : Lines → Run → Run
with_lines lines r = record r { events = r.events ++ lines }

-- How reading at a level ends where these lines follow.
abbrev pub out_followed : Story → Lines → ℕ → Out → Out
out_followed g lines lv (Left a r) = Left a (with_lines lines r)
out_followed g lines lv (Waits p path r) = on_path g p lv path (with_lines lines r)
out_followed g lines lv (Stopped stop r) = Stopped stop (with_lines lines r)
