-- What is said, or doesn't fit.
use Rattle.std.proofs.Common.{◌≡◌, ◌+◌, ◌<◌, ◌≤◌, true, false, length, refl, arith}
use Rattle.std.specs.Prelude.{nat_le}
use Rattle.std.proofs.lemmas.Bool.Decides.{nat_tests}
use Rattle.paw_base.specs.Bytes.{Text}
use Rattle.paw_base.specs.declared.fault.SpentKind.TheVariants as spent
use Rattle.paw_base.specs.declared.limits.TheConstants.{PIECE_LIMIT}
use Rattle.paw_reading.specs.Run.{Run, text_printed}
use Rattle.paw_reading.specs.declared.halt.Halt.TheVariants as halt
use Rattle.paw_reading.specs.Turn.{Ending, Halted, saying}

-- A text that fits is printed.
pub said : (text : Text) (go : Run → Ending) (r : Run) → length r.current + length text ≤ PIECE_LIMIT
    → saying text go r ≡ go (text_printed text r)
said text go r h = let t : nat_le (length r.current + length text) PIECE_LIMIT ≡ true =
    grind (arith, nat_tests) in rw t refl

-- At one that doesn't the piece is spent.
pub unsaid : (text : Text) (go : Run → Ending) (r : Run) → PIECE_LIMIT < length r.current + length text →
    saying text go r ≡ Halted (halt.Spent spent.Text) r
unsaid text go r h = let t : nat_le (length r.current + length text) PIECE_LIMIT ≡ false =
    grind (arith, nat_tests) in rw t refl
