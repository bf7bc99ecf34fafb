-- What is handed down through the tables that are open.
use Rattle.std.proofs.Common.{◌≡◌, List, [], ◌∷◌, length, reverse, refl}
use mathlib.Core.List.{reverse_aux}
use Rattle.paw_effects.specs.Story.{Story}
use Rattle.paw_effects.specs.declared.act.Prompt.{Prompt}
use Rattle.paw_reading.specs.declared.frames.Frame.{Frame}
use Rattle.paw_reading.specs.Run.{Run}
use Rattle.paw_reading.specs.Reading.{Stop, Stopped}
use Rattle.paw_reading.specs.GoingOn.{on_path}
use Rattle.paw_reading.specs.inner.GoingOn.{along}

-- A stop is handed on as it is.
pub along_stopped : (g : Story) (fs : List Frame) (stop : Stop) (r : Run) → along g fs (Stopped stop r) ≡ Stopped stop r
along_stopped g [] stop r = refl
along_stopped g (f ∷ fs) stop r = along_stopped g fs stop r

-- Going on along a path is going on at its end, and then in the tables above, the innermost first.
on_path_above : (g : Story) (p : Prompt) (fs : List Frame) (f : Frame) (path : List Frame) (r : Run) →
    on_path g p 0 (reverse_aux fs (f ∷ path)) r ≡ along g fs (on_path g p (length fs) (f ∷ path) r)
on_path_above g p [] f path r = refl
on_path_above g p (h ∷ fs) f path r = on_path_above g p fs h (f ∷ path) r

pub on_path_reverse : (g : Story) (p : Prompt) (f : Frame) (fs : List Frame) (r : Run) →
    on_path g p 0 (reverse (f ∷ fs)) r ≡ along g fs (on_path g p (length fs) (f ∷ []) r)
on_path_reverse g p f fs r = on_path_above g p fs f [] r
