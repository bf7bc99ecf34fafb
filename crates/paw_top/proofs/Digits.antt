-- A number that is printed is read as that number.
use Rattle.std.proofs.Common.{◌≡◌, ℕ, ◌<◌, ◌≤◌, ◌^◌, Bool, true, false, eqb, leb, [], ◌∷◌, length}
use Rattle.std.proofs.Common.{Some, Ok, refl, sym, ap, ◌∙◌, arith}
use Rattle.std.specs.Fmt.{decimal}
use Rattle.std.specs.Char.{is_ascii_digit}
use Rattle.std.specs.List.{list_all}
use Rattle.std.proofs.lemmas.Bool.{and_from, and_parts, le-leb, leb-true, lt-ltb, ne_eqb, not_from_false}
use Rattle.std.proofs.lemmas.Fmt.{decimal_nonempty, digits_decimal, digits_value-decimal}
use Rattle.std.proofs.lemmas.List.{append-nil}
use Rattle.paw_base.specs.Bytes.{Tokens, Bytes}
use Rattle.paw_grammar.specs.Tokens.{begins_with_at}
use Rattle.paw_grammar.specs.Numbers.{number, number_with}
use Rattle.paw_grammar.specs.Spells.{begins_with_slash, after_line}
use Rattle.paw_grammar.specs.GrammarState.{Spelt}
use Rattle.paw_grammar.specs.GrammarHeads.{item_in, slash_line}
use Rattle.paw_play.proofs.Digits.{decimal_digits}
use Rattle.paw_print.specs.Lines.{item_token}
use Rattle.paw_top.proofs.Rows.{all_weaker, is_clean, is_plain, slash_next}

digit_clean : (d : ℕ) → is_ascii_digit d ≡ true → is_clean d ≡ true
digit_clean d h =
    let range = and_parts (leb 48 d) (leb d 57) h in
    let low : 48 ≤ d = leb-true 48 d range.0 in
    let high : d ≤ 57 = leb-true d 57 range.1 in
    let semicolon : eqb d 59 ≡ false = ne_eqb d 59 (λ e. omega arith) in
    and_from _ _ (and_from _ _ (le-leb 33 d (omega arith)) (le-leb d 126 (omega arith))) (not_from_false _ semicolon)

digits_clean : (ds : Bytes) → list_all is_ascii_digit ds ≡ true → list_all is_clean ds ≡ true
digits_clean ds h = all_weaker is_ascii_digit is_clean digit_clean ds h

some_plain : (ds : Bytes) → 0 < length ds → list_all is_clean ds ≡ true → is_plain ds ≡ true
some_plain [] some h = absurd (omega (arith, some))
some_plain (b ∷ bs) some h = h

decimal_clean : (n : ℕ) → n ≤ 65535 → list_all is_clean (decimal n) ≡ true
decimal_clean n h = digits_clean (decimal n) (digits_decimal decimal_digits n (omega arith))

-- Small numbers are read.
pub number-decimal : (n : ℕ) → n ≤ 65535 → number (decimal n) ≡ Some n
number-decimal n h =
    let small : n < 2 ^ 64 = omega arith in
    rw (lt-ltb 0 (length (decimal n)) (decimal_nonempty n small), digits_decimal decimal_digits n small) (ap Some (digits_value-decimal decimal_digits n small))

pub plain-decimal : (n : ℕ) → n ≤ 65535 → is_plain (decimal n) ≡ true
plain-decimal n h = some_plain (decimal n) (decimal_nonempty n (omega arith)) (decimal_clean n h)

-- And after a stroke.
pub plain-item : (n : ℕ) → n ≤ 65535 → is_plain (47 ∷ decimal n) ≡ true
plain-item n h = decimal_clean n h

-- And after `@`.
pub plain-flag : (n : ℕ) → n ≤ 65535 → is_plain (64 ∷ decimal n) ≡ true
plain-flag n h = decimal_clean n h

-- An item is begun in the section that is read.
pub item_begins : (p : ℕ) (d : Spelt) (n : ℕ) → n ≤ 65535 → after_line p d (item_token n) ≡ item_in d.section d n
item_begins p d n h =
    ap (after_line p d) (sym (append-nil (item_token n)))
    ∙ slash_next p d (decimal n) [] (rw (plain-item n h) refl)
    ∙ ap (λ x. slash_line d (47 ∷ decimal n) x []) (number-decimal n h)

-- A printed number that follows a rule.
pub number_with-decimal : (rule : ℕ → Bool) (n : ℕ) (ts : Tokens) → n ≤ 65535 → rule n ≡ true → number_with rule (decimal n ∷ ts) ≡ Ok (n, ts)
number_with-decimal rule n ts h keeps = rw (number-decimal n h, keeps) refl

-- No digit is a stroke.
slash_none : (ds : Bytes) → list_all is_ascii_digit ds ≡ true → begins_with_slash ds ≡ false
slash_none [] h = refl
slash_none (b ∷ bs) h =
    let digit = and_parts (is_ascii_digit b) _ h in
    let low : 48 ≤ b = leb-true 48 b (and_parts (leb 48 b) (leb b 57) digit.0).0 in
    ne_eqb b 47 (λ same. omega arith)

pub decimal-slash : (n : ℕ) → n ≤ 65535 → begins_with_slash (decimal n) ≡ false
decimal-slash n h = slash_none (decimal n) (digits_decimal decimal_digits n (omega arith))

-- And none is `@`.
at_none : (ds : Bytes) → list_all is_ascii_digit ds ≡ true → begins_with_at ds ≡ false
at_none [] h = refl
at_none (b ∷ bs) h =
    let digit = and_parts (is_ascii_digit b) _ h in
    let high : b ≤ 57 = leb-true b 57 (and_parts (leb 48 b) (leb b 57) digit.0).1 in
    ne_eqb b 64 (λ same. omega arith)

pub decimal-at : (n : ℕ) → n ≤ 65535 → begins_with_at (decimal n) ≡ false
decimal-at n h = at_none (decimal n) (digits_decimal decimal_digits n (omega arith))
