-- The digits of a number, one after another.
use Rattle.std.proofs.Common.{◌≡◌, ℕ, ◌<◌, ◌≤◌, ◌+◌, ◌-◌, ◌*◌, min, length, drop, get_or, if◌then◌else◌, Some, None}
use Rattle.std.proofs.Common.{refl, add-one, drop-cons}
use Rattle.std.specs.Char.{is_ascii_digit}
use Rattle.std.proofs.lemmas.List.{drop_all}
use Rattle.paw_base.specs.Bytes.{Bytes}
use Rattle.paw_author.specs.declared.sections.TheConstants.{TABLE_NUMBERS}
use Rattle.paw_author.specs.Sections.{number_after}

-- One digit more, if it is one.
pub one_digit : (n : ℕ) (word : Bytes) (i : ℕ) → i < length word
    → number_after n (drop i word)
    ≡ (if is_ascii_digit (get_or word i 0) then number_after (min (10 * n + (get_or word i 0 - 48)) TABLE_NUMBERS) (drop (i + 1) word)
    else None)
unfolding number_after
one_digit n word i h = rw (add-one, drop-cons word i 0) refl

-- No byte is left.
pub no_digit : (n : ℕ) (word : Bytes) (i : ℕ) → length word ≤ i → number_after n (drop i word) ≡ Some n
unfolding number_after
no_digit n word i h = rw (drop_all i word h) refl
