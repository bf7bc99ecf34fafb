-- What the rules say of the words of a valid game.
use Rattle.std.proofs.Common.{◌≡◌, ℕ, ◌≤◌, Bool, true, false, List, [], ◌∷◌, length, Option, Some, IsTrue, nat_le}
use Rattle.std.proofs.Common.{if◌then◌else◌}
use Rattle.std.specs.List.{list_all}
use Rattle.std.specs.Str.{bytes_eq}
use Rattle.std.proofs.lemmas.Bool.{leb-true}
use Rattle.std.proofs.lemmas.Option.{none-some, same_Some}
use Rattle.paw_base.specs.Bytes.{Letters}
use Rattle.paw_base.specs.declared.limits.TheConstants.{WORD_LIMIT}
use Rattle.paw_base.specs.declared.words.TheConstants.{PRONOUN_CLASS, LEAST_WORD, GREATEST_WORD}
use Rattle.paw_game.specs.declared.parts.Word.{Word}
use Rattle.paw_game.specs.Game.{GameLists}
use Rattle.paw_game.specs.Valid.{Valid, are_letters, is_within, is_word, words_rise}
use Rattle.paw_game.specs.Tables.{word_at, word_of}
use Rattle.paw_game.proofs.ValidGames.{first_of_and, second_of_and, option_map-Some}

word_next : (b : Bool) (here w : Word) (later : Option Word) → IsTrue (is_word here) → (later ≡ Some w → IsTrue (is_word w))
    → (if b then Some here else later) ≡ Some w → IsTrue (is_word w)
word_next true here w later h k e = rw (← same_Some here w e) h
word_next false here w later h k e = k e

word_in : (letters : Letters) (ws : List Word) (w : Word) → IsTrue (list_all is_word ws) → word_of letters ws ≡ Some w → IsTrue (is_word w)
word_in letters [] w h e = absurd (none-some w e)
word_in letters (x ∷ xs) w h e =
    word_next (bytes_eq x.letters letters) x w (word_of letters xs) (first_of_and (is_word x) _ h)
    (word_in letters xs w (second_of_and (is_word x) _ h)) e

pub word_follows : (g : GameLists) → Valid g → (letters : Letters) (w : Word) → word_of letters g.words ≡ Some w → IsTrue (is_word w)
word_follows g v letters w e = word_in letters g.words w (first_of_and _ (words_rise g.words) (second_of_and (nat_le (length g.words) WORD_LIMIT) _ v.words)) e

-- What a word means: a value from 2 to 254, and a class up to 6.
pub record IsMeaning (m : ℕ × ℕ) : Type 0 where
  pub low : LEAST_WORD ≤ m.0
  pub high : m.0 ≤ GREATEST_WORD
  pub class : m.1 ≤ PRONOUN_CLASS

pub meaning_follows : (g : GameLists) → Valid g → (letters : Letters) (m : ℕ × ℕ) → word_at g letters ≡ Some m → IsMeaning m
meaning_follows g v letters m e =
    let at = option_map-Some {B = ℕ × ℕ} (λ (w : Word). (w.value, w.class)) (word_of letters g.words) m e in
    let kept = second_of_and (are_letters at.0.letters) _ (word_follows g v letters at.0 at.1) in
    let value = first_of_and (is_within LEAST_WORD GREATEST_WORD at.0.value) (nat_le at.0.class PRONOUN_CLASS) kept in
    record {
      low = rw (← at.2) (leb-true LEAST_WORD at.0.value (first_of_and (nat_le LEAST_WORD at.0.value) _ value));
      high = rw (← at.2) (leb-true at.0.value GREATEST_WORD (second_of_and (nat_le LEAST_WORD at.0.value) _ value));
      class = rw (← at.2) (leb-true at.0.class PRONOUN_CLASS
          (second_of_and (is_within LEAST_WORD GREATEST_WORD at.0.value) _ kept));
    }

pub rising : (g : GameLists) → Valid g → IsTrue (words_rise g.words)
rising g v = second_of_and (list_all is_word g.words) _ (second_of_and (nat_le (length g.words) WORD_LIMIT) _ v.words)
