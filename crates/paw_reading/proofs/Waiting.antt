-- With no line left a run waits where it is.
use Rattle.std.proofs.Common.{◌≡◌, ℕ, suc, ◌<◌, List, [], ◌∷◌, length, refl, ap, subst, arith}
use Rattle.paw_effects.specs.Story.{Story}
use Rattle.paw_effects.specs.declared.act.Prompt.{Prompt}
use Rattle.paw_effects.specs.declared.act.Prompt.TheVariants as prompt
use Rattle.paw_reading.specs.declared.frames.Frame.{Frame}
use Rattle.paw_reading.specs.Run.{Run}
use Rattle.paw_reading.specs.Reading.{Waits, after_call, prompt_asked, rest_of_table}
use Rattle.paw_reading.specs.GoingOn.{on_path}
use Rattle.paw_reading.specs.Turn.{WaitsAt, at_main, table_done, turn, phases_left, first_table, going_on_from}
use Rattle.paw_reading.specs.inner.Turn.{MayWaitAlong, WaitsOn}

path_waits : (g : Story) (p : Prompt) (lv : ℕ) (f : Frame) (path : List Frame) (r : Run) →
    on_path g p lv (f ∷ path) (record r { events = [] }) ≡ Waits p (f ∷ path) (record r { events = [] })
unfolding prompt_asked
path_waits g p lv f [] r = refl
path_waits g p lv f (h ∷ path) r = ap (after_call f (rest_of_table g lv f.table f.entry (suc f.at))) (path_waits g p (suc lv) h path r)

-- Along some frames.
pub some_waits : (g : Story) (p : Prompt) (path : List Frame) (r : Run) → 0 < length path →
    on_path g p 0 path (record r { events = [] }) ≡ Waits p path (record r { events = [] })
some_waits g p [] r some = absurd (omega arith)
some_waits g p (f ∷ path) r some = path_waits g p 0 f path r

in_tables : (g : Story) (n : ℕ) (p : Prompt) (path : List Frame) (r : Run) → 0 < length path
    → table_done g (turn g n) (first_table path) (on_path g p 0 path (record r { events = [] })) ≡ WaitsAt p path (record r { events = [] })
in_tables g n p path r some = ap (table_done g (turn g n) (first_table path)) (some_waits g p path r some)

at_once : (g : Story) (p : Prompt) (path : List Frame) (r : Run) → MayWaitAlong p path →
    going_on_from g p path (record r { events = [] }) ≡ WaitsAt p path (record r { events = [] })
unfolding at_main
at_once g prompt.Main path r none = rw none refl
at_once g prompt.Quit path r some = in_tables g (phases_left (record r { events = [] })) prompt.Quit path r some
at_once g prompt.Again path r some = in_tables g (phases_left (record r { events = [] })) prompt.Again path r some
at_once g prompt.Key path r some = in_tables g (phases_left (record r { events = [] })) prompt.Key path r some
at_once g prompt.Over path r some = absurd some

pub waits_on : WaitsOn
waits_on g p path r may none =
    let same : record r { events = [] } ≡ r = rw none refl in subst (λ s. going_on_from g p path s ≡ WaitsAt p path s) same (at_once g p path r may)
