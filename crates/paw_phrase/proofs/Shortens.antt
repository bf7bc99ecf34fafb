-- A phrase takes at least two bytes, where something is left after it.
use Rattle.std.proofs.Common.{◌≡◌, ◌⊎◌, ◌<◌, ◌≤◌, ◌+◌, ℕ, Bool, true, false, cond, List, [], ◌∷◌, ◌++◌, None, length}
use Rattle.std.proofs.Common.{refl, sym, subst, inl, inr}
use Rattle.std.proofs.Common.{arith, length-append}
use Rattle.std.specs.Char.{to_ascii_uppercase, is_ascii_alphanumeric}
use Rattle.paw_base.specs.Bytes.{Bytes}
use Rattle.paw_game.specs.Game.{GameLists}
use Rattle.paw_phrase.specs.Phrase.{is_separator, Lexeme, token_lexeme, separator_lexeme, lexemes_from, lexemes}
use Rattle.paw_phrase.specs.Phrase.{is_parting}
use Rattle.paw_phrase.specs.Phrase.{from_phrase}
use Rattle.paw_phrase.specs.Phrase.{bytes_after}
use Rattle.paw_phrase.specs.Sentence.{parsed_lexemes, phrase_parsed}
use Rattle.paw_phrase.specs.inner.Leaving.{LeavesBytes, IsTwoLess, PhrasesTakeTwo}
use Rattle.paw_phrase.proofs.Phrases.{leaves}

-- Fewer bytes stand after each lexeme than after the one before, and fewer than n after the first.
abbrev Fall : ℕ → List Lexeme → Type 0
Fall n [] = Unit {0}
Fall n (m ∷ ms) = (length m.after < n) × Fall (length m.after) ms

Fall_up : (n k : ℕ) (ms : List Lexeme) → n ≤ k → Fall n ms → Fall k ms
Fall_up n k [] le h = tt
Fall_up n k (m ∷ ms) le h = (omega (arith, le, h.0), h.1)

-- The bytes s stand after a token.
token_lexeme-fall : (run s : Bytes) (ms ns : List Lexeme) → Fall (length s) (ms ++ ns) → Fall (length run + length s) (token_lexeme run s ++ ms ++ ns)
token_lexeme-fall [] s ms ns h = Fall_up _ _ (ms ++ ns) (omega arith) h
token_lexeme-fall (b ∷ bs) s ms ns h = (omega arith, h)

separator_lexeme-fall : (b : ℕ) (bs : Bytes) (ms : List Lexeme) → Fall (length bs) ms → Fall (length (b ∷ bs)) (separator_lexeme b bs ++ ms)
separator_lexeme-fall b bs ms h =
    elim (is_separator b) as (λ v. Fall (length (b ∷ bs)) (cond v (record { token = None; after = bs } ∷ []) [] ++ ms)) [
      | true ↦ (omega arith, h)
      | false ↦ Fall_up _ _ ms (omega arith) h
    ]

lexemes_from-fall : (bs run : Bytes) → Fall (length run + length bs) (lexemes_from run bs)
unfolding lexemes_from
lexemes_from-fall [] [] = tt
lexemes_from-fall [] (x ∷ xs) = (omega arith, tt)
lexemes_from-fall (b ∷ bs) run =
    let longer = run ++ to_ascii_uppercase b ∷ [] in
    elim (is_ascii_alphanumeric b) as (λ v. Fall (length run + length (b ∷ bs))
    (cond v (lexemes_from longer bs) (token_lexeme run (b ∷ bs) ++ separator_lexeme b bs ++ lexemes_from [] bs))) [
      | true ↦ Fall_up _ _ (lexemes_from longer bs) (omega (arith, length-append run (to_ascii_uppercase b ∷ []))) (lexemes_from-fall bs longer)
      | false ↦
          token_lexeme-fall run (b ∷ bs) (separator_lexeme b bs) (lexemes_from [] bs)
          (separator_lexeme-fall b bs (lexemes_from [] bs) (Fall_up _ _ (lexemes_from [] bs) (omega arith) (lexemes_from-fall bs [])))
    ]

-- The same after a later lexeme that separates phrases.
bytes_after-fall : (g : GameLists) (n : ℕ) (ms : List Lexeme) → Fall n ms → (bytes_after g ms ≡ []) ⊎ (length (bytes_after g ms) < n)
bytes_after-fall g n [] h = inl refl
bytes_after-fall g n (m ∷ ms) h =
    elim (is_parting g m.token) as (λ v. (cond v m.after (bytes_after g ms) ≡ []) ⊎ (length (cond v m.after (bytes_after g ms)) < n)) [
      | true ↦ inr h.0
      | false ↦ bytes_after-fall g n ms (Fall_up _ _ ms (omega (arith, h.0)) h.1)
    ]

two_less : (pending rest : Bytes) (n : ℕ) → n < length pending → (rest ≡ []) ⊎ (length rest < n) → IsTwoLess pending rest
two_less pending rest n less (inl none) = inl none
two_less pending rest n less (inr fewer) = inr (omega (arith, less, fewer))

-- The phrase begins at this lexeme, or after it where the lexeme separates phrases.
at_lexeme : (g : GameLists) (pending : Bytes) (e n a : ℕ) (m : Lexeme) (ms : List Lexeme) (v : Bool) → is_parting g m.token ≡ v
    → Fall (length pending) (m ∷ ms) → LeavesBytes (IsTwoLess pending) (parsed_lexemes g e n a (from_phrase g ms))
    → LeavesBytes (IsTwoLess pending) (parsed_lexemes g e n a (cond v (from_phrase g ms) (m ∷ ms)))
at_lexeme g pending e n a m ms true is h behind = behind
at_lexeme g pending e n a m ms false is h behind =
    leaves (IsTwoLess pending) _ _ (bytes_after g (m ∷ ms))
    (subst (λ v. IsTwoLess pending (cond v m.after (bytes_after g ms))) (sym is)
    (two_less pending (bytes_after g ms) (length m.after) h.0 (bytes_after-fall g (length m.after) ms h.1)))

parsed_lexemes-fall : (g : GameLists) (pending : Bytes) (e n a : ℕ) (ms : List Lexeme) → Fall (length pending) ms
    → LeavesBytes (IsTwoLess pending) (parsed_lexemes g e n a (from_phrase g ms))
parsed_lexemes-fall g pending e n a [] h = tt
parsed_lexemes-fall g pending e n a (m ∷ ms) h =
    at_lexeme g pending e n a m ms (is_parting g m.token) refl h
    (parsed_lexemes-fall g pending e n a ms (Fall_up _ _ ms (omega (arith, h.0)) h.1))

-- A phrase that is taken leaves nothing, or at least two bytes less.
pub phrases_take_two : PhrasesTakeTwo
unfolding phrase_parsed
phrases_take_two g pending e n a =
    parsed_lexemes-fall g pending e n a (lexemes pending) (Fall_up _ _ (lexemes pending) (omega arith) (lexemes_from-fall pending []))
