-- What holds of an ending that a test, an open loop or a text that fits decides.
use Rattle.std.proofs.Common.{◌≡◌, Bool, true, false, Option, Some, None, refl}
use Rattle.std.specs.Prelude.{if◌then◌else◌}
use Rattle.std.specs.Option.{option_map_or}
use Rattle.paw_base.specs.Bytes.{Text}
use Rattle.paw_base.specs.declared.fault.SpentKind.TheVariants as spent
use Rattle.paw_reading.specs.declared.frames.OpenLoop.{OpenLoop}
use Rattle.paw_reading.specs.declared.halt.Halt.TheVariants as halt
use Rattle.paw_reading.specs.Run.{Run, fits, text_printed}
use Rattle.paw_reading.specs.Reading.{Out, halts, printing}

-- What holds in both cases.
pub either : {A : Type 0} (P : A → Type 0) (b : Bool) (x y : A) → P x → P y → P (if b then x else y)
either P true x y h k = h
either P false x y h k = k

-- What holds in both cases, the first with its test.
pub by_test : (P : Out → Type 0) (b : Bool) (x y : Out) → (b ≡ true → P x) → P y → P (if b then x else y)
by_test P true x y h k = h refl
by_test P false x y h k = k

-- What holds between two endings in both cases, each with its test.
pub by_both : {A : Type 0} (P : A → A → Type 0) (b : Bool) (x y v w : A) → (b ≡ true → P x v) → (b ≡ false → P y w) →
    P (if b then x else y) (if b then v else w)
by_both P true x y v w h k = h refl
by_both P false x y v w h k = k refl

-- What holds after a print, whether its text fits or not.
pub prints : (P : Out → Type 0) (text : Text) (go : Run → Out) (r : Run) → P (go (text_printed text r)) →
    P (halts (halt.Spent spent.Text) r) → P (printing text go r)
prints P text go r h k = either P (fits r text) (go (text_printed text r)) (halts (halt.Spent spent.Text) r) h k

-- What holds with a loop or without.
pub open_or_not : (P : Out → Type 0) (next : OpenLoop → Out) (x : Out) (o : Option OpenLoop) → ((l : OpenLoop) → o ≡ Some l → P (next l)) →
    (o ≡ None → P x) → P (option_map_or next o x)
open_or_not P next x None h k = k refl
open_or_not P next x (Some l) h k = h l refl
