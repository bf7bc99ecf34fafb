-- Going on from where a run waits inside tables.
use Rattle.std.specs.Prelude.{ℕ, suc, true, List, [], ◌∷◌}
use Rattle.paw_effects.specs.Story.{Story}
use Rattle.paw_effects.specs.declared.act.Prompt.{Prompt}
use Rattle.paw_reading.specs.declared.frames.Frame.{Frame}
use Rattle.paw_reading.specs.Run.{Run}
use Rattle.paw_reading.specs.Reading.{Out, Left, after_call, next_object_or, prompt_asked, rest_of_loop, from_condact}
use Rattle.paw_reading.specs.Reading.{deeper}
use Rattle.paw_reading.specs.Reading.{rest_of_table}

-- Goes on along the path of a wait, from level lv on, the outermost frame first: the innermost frame takes the lines,
-- and each other goes on after its call. The last row is never used, and is there only because a list may be empty: the
-- path of a wait in a table has at least the frame at its prompt.
abbrev pub on_path : Story → Prompt → ℕ → List Frame → Run → Out
on_path g p lv (f ∷ []) r =
    next_object_or lv (rest_of_loop g (deeper g lv) lv)
    (prompt_asked g p f (from_condact g (deeper g lv) lv f.table f.entry (suc f.at)) r r.events)
on_path g p lv (f ∷ h ∷ path) r =
    after_call f (rest_of_table g lv f.table f.entry (suc f.at)) (on_path g p (suc lv) (h ∷ path) r)
on_path g p lv [] r = Left true r
