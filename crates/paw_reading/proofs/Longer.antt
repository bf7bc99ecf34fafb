-- Reading with more lines, over the definitions.
use Rattle.std.proofs.Common.{◌≡◌, ℕ, [], refl, ◌∙◌}
use Rattle.paw_base.specs.Bytes.{Lines}
use Rattle.paw_effects.specs.Story.{Story}
use Rattle.paw_reading.specs.Reading.{Out, Left, Waits, Stopped, rest_of_table}
use Rattle.paw_reading.specs.GoingOn.{on_path}
use Rattle.paw_reading.specs.inner.GoingOn.{out_followed}
use Rattle.paw_reading.specs.inner.Longer.{TablesGoOn, PathsGoOn}
use Rattle.paw_reading.proofs.Extends.{extends, rest_extends, path_extends}

pub extends_lines : (g : Story) (lines : Lines) (lv : ℕ) (x : Out) → extends g [] [] lines lv x ≡ out_followed g lines lv x
extends_lines g lines lv (Left a r) = refl
extends_lines g lines lv (Waits p path r) = refl
extends_lines g lines lv (Stopped stop r) = refl

pub tables_go_on : TablesGoOn
tables_go_on g lines lv t e k a r = rest_extends g [] [] lines lv t e k a r ∙ extends_lines g lines lv (rest_of_table g lv t e k a r)

pub paths_go_on : PathsGoOn
paths_go_on g lines p lv path r = path_extends g [] [] lines p lv path r ∙ extends_lines g lines lv (on_path g p lv path r)
