-- The letters of a token, one by one.
use Rattle.std.proofs.Common.{◌≡◌, ◌<◌, ◌≤◌, ◌+◌, ◌-◌, ℕ, suc, [], ◌∷◌, ◌++◌, length, take, replicate, map}
use Rattle.std.proofs.Common.{get_or, set, refl, sym, ap, ◌∙◌}
use Rattle.std.proofs.Common.{arith, length-append, append_assoc, add-one}
use Rattle.std.specs.Char.{to_ascii_uppercase}
use Rattle.std.proofs.Math.Seq.{take-suc}
use Rattle.std.proofs.lemmas.List.{length-take-le, length-map, map-append, take_all, take-append-le, set_at}
use Rattle.paw_base.specs.Bytes.{Bytes, Token}
use Rattle.paw_base.specs.declared.limits.TheConstants.{WORD_LENGTH}
use Rattle.paw_phrase.specs.Phrase.{five_letters}

-- The first n bytes, with small letters read as capitals.
abbrev pub letters_of : ℕ → Bytes → Token
letters_of n bytes = map to_ascii_uppercase (take n bytes)

pub length-letters_of : (n : ℕ) (bytes : Bytes) → n ≤ length bytes → length (letters_of n bytes) ≡ n
length-letters_of n bytes h = length-map (take n bytes) to_ascii_uppercase ∙ length-take-le n bytes h

pub letters_of-suc : (n : ℕ) (bytes : Bytes) → n < length bytes → letters_of (suc n) bytes ≡ letters_of n bytes ++ to_ascii_uppercase (get_or bytes n 0) ∷ []
letters_of-suc n bytes h =
    ap (map to_ascii_uppercase) (take-suc bytes n 0 h) ∙ map-append to_ascii_uppercase (take n bytes) (get_or bytes n 0 ∷ [])

letter_at : (run filling : Bytes) (letter x : ℕ) → (run ++ letter ∷ []) ++ filling ≡ set (run ++ x ∷ filling) (length run) letter
letter_at run filling letter x = append_assoc run (letter ∷ []) filling ∙ sym (set_at run x filling letter (length run) refl)

-- A letter among the first five is copied.
five_letters-copied : (run : Token) (letter : ℕ) → length run < WORD_LENGTH → five_letters (run ++ letter ∷ []) ≡ set (five_letters run) (length run) letter
five_letters-copied run letter h =
    let whole : take WORD_LENGTH (run ++ letter ∷ []) ≡ run ++ letter ∷ [] =
    take_all WORD_LENGTH (run ++ letter ∷ []) (omega (arith, length-append run (letter ∷ []))) in
    let short : take WORD_LENGTH run ≡ run = take_all WORD_LENGTH run (omega arith) in
    let spaces : WORD_LENGTH - length run ≡ suc (4 - length run) = omega arith in
    let fewer : WORD_LENGTH - length (run ++ letter ∷ []) ≡ 4 - length run = omega (arith, length-append run (letter ∷ [])) in
    rw (whole, fewer, short, spaces) (letter_at run (replicate (4 - length run) 32) letter 32)

-- Any other letter is not.
five_letters-cut : (run : Token) (letter : ℕ) → WORD_LENGTH ≤ length run → five_letters (run ++ letter ∷ []) ≡ five_letters run
five_letters-cut run letter h =
    let cut : take WORD_LENGTH (run ++ letter ∷ []) ≡ take WORD_LENGTH run = take-append-le WORD_LENGTH run (letter ∷ []) h in
    let none : WORD_LENGTH - length (run ++ letter ∷ []) ≡ WORD_LENGTH - length run = omega (arith, length-append run (letter ∷ [])) in
    rw (cut, none) refl

pub letter_copied : (bytes : Bytes) (n : ℕ) → n < length bytes → n < WORD_LENGTH
    → set (five_letters (letters_of n bytes)) n (to_ascii_uppercase (get_or bytes n 0)) ≡ five_letters (letters_of (n + 1) bytes)
letter_copied bytes n h five =
    let run = letters_of n bytes in
    let letter = to_ascii_uppercase (get_or bytes n 0) in
    let long : length run ≡ n = length-letters_of n bytes (omega arith) in
    let copied : five_letters (run ++ letter ∷ []) ≡ set (five_letters run) (length run) letter = five_letters-copied run letter (omega arith) in
    rw add-one (sym (ap five_letters (letters_of-suc n bytes h) ∙ copied ∙ ap (λ k. set (five_letters run) k letter) long))

pub letter_cut : (bytes : Bytes) (n : ℕ) → n < length bytes → WORD_LENGTH ≤ n → five_letters (letters_of n bytes) ≡ five_letters (letters_of (n + 1) bytes)
letter_cut bytes n h five =
    let run = letters_of n bytes in
    let letter = to_ascii_uppercase (get_or bytes n 0) in
    let long : length run ≡ n = length-letters_of n bytes (omega arith) in
    rw add-one (sym (ap five_letters (letters_of-suc n bytes h) ∙ five_letters-cut run letter (omega arith)))
