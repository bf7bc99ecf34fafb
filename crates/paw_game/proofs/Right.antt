-- Condacts that can be carried out.
use Rattle.std.proofs.Common.{arith, ◌≡◌, ℕ, ◌<◌, ◌==◌, ◌&&◌, List, [], ◌∷◌, length, Some, IsTrue, nat_le, nat_lt, inl}
use Rattle.std.proofs.Common.{inr}
use Rattle.std.specs.List.{list_all}
use Rattle.std.proofs.lemmas.Bool.{or_cases}
use Rattle.std.proofs.lemmas.Bool.Decides.{nat_tests}
use Rattle.paw_base.specs.Condacts.{first_kind, second_kind}
use Rattle.paw_base.specs.inner.Condacts.{IsCode}
use Rattle.paw_base.specs.declared.limits.TheConstants.{WORD_LIMIT}
use Rattle.paw_base.specs.declared.words.TheConstants.{ADVERB_CLASS, NOUN_CLASS, ADJECTIVE_CLASS, PREPOSITION_CLASS}
use Rattle.paw_base.specs.declared.words.TheConstants.{NO_WORD, LEAST_WORD, GREATEST_WORD}
use Rattle.paw_base.specs.declared.parts.Condact.{Condact}
use Rattle.paw_base.specs.declared.rows.ParamKind.{ParamKind}
use Rattle.paw_base.specs.declared.rows.ParamKind.TheVariants as kind
use Rattle.paw_game.specs.declared.parts.Word.{Word}
use Rattle.paw_game.specs.Game.{GameLists, counts_of}
use Rattle.paw_game.specs.Tables.{condact_at}
use Rattle.paw_game.specs.Valid.{Valid, are_letters, has_word, is_argument, is_condact, is_parameter, is_within}
use Rattle.paw_game.specs.Valid.{is_word, is_word_or_none, words_are_valid}
use Rattle.paw_game.specs.inner.Valid.{is_right}
use Rattle.paw_game.proofs.ValidGames.{first_of_and, second_of_and, code_follows, first_follows, second_follows, follows_other}
use Rattle.paw_game.proofs.ValidGames.{condact_follows}

small_value : (w : Word) (class value : ℕ) → IsTrue (is_word w) → IsTrue ((w.class == class) && (w.value == value)) → value < 256
small_value w class value kept same =
    let within = first_of_and (is_within LEAST_WORD GREATEST_WORD w.value) _
    (second_of_and (are_letters w.letters) _ kept) in
    let is = second_of_and (w.class == class) _ same in
    grind (arith, nat_tests)

has_small : (words : List Word) (class value : ℕ) → IsTrue (list_all is_word words) → IsTrue (has_word words class value) → value < 256
has_small [] class value kept has = cc
has_small (w ∷ ws) class value kept has =
    elim (or_cases ((w.class == class) && (w.value == value)) (has_word ws class value) has) [
      | inl here ↦ small_value w class value (first_of_and (is_word w) _ kept) here
      | inr later ↦ has_small ws class value (second_of_and (is_word w) _ kept) later
    ]

word_small : (words : List Word) (class x : ℕ) → IsTrue (words_are_valid words) → IsTrue (is_word_or_none words class x) → IsTrue (nat_lt x 256)
word_small words class x kept h =
    let each = first_of_and (list_all is_word words) _ (second_of_and (nat_le (length words) WORD_LIMIT) _ kept) in
    let small : x < 256 = elim (or_cases (x == NO_WORD) (has_word words class x) h) [
      | inl none ↦ grind (arith, nat_tests)
      | inr has ↦ has_small words class x each has
    ] in
    grind (arith, nat_tests)

right_argument : (g : GameLists) (k : ParamKind) (x : ℕ) → Valid g → IsTrue (is_parameter (counts_of g) g.words k x) → IsTrue (is_argument g k x)
right_argument g kind.Adverb x v h = word_small g.words ADVERB_CLASS x v.words h
right_argument g kind.Noun x v h = word_small g.words NOUN_CLASS x v.words h
right_argument g kind.Adjective x v h = word_small g.words ADJECTIVE_CLASS x v.words h
right_argument g kind.Preposition x v h = word_small g.words PREPOSITION_CLASS x v.words h
right_argument g k x v h = h

-- Each condact of a valid game can be carried out.
pub right_condact : (g : GameLists) (c : Condact) → Valid g → IsTrue (is_condact g c) → IsTrue (is_right g c)
right_condact g c v h = follows_other (is_parameter (counts_of g) g.words) (is_argument g) c (λ k x of. right_argument g k x v of) h

pub right_at : (g : GameLists) → Valid g → (t e k : ℕ) (c : Condact) → condact_at g t e k ≡ Some c → IsTrue (is_right g c)
right_at g v t e k c h = right_condact g c v (condact_follows g v t e k c h)

-- ---- the parts of a condact that can be carried out

pub right-code : (g : GameLists) (c : Condact) → IsTrue (is_right g c) → IsCode c.code
right-code g c h = code_follows (is_argument g) c h

pub right-first : (g : GameLists) (c : Condact) → IsTrue (is_right g c) → IsTrue (is_argument g (first_kind c.code) c.a)
right-first g c h = first_follows (is_argument g) c h

pub right-second : (g : GameLists) (c : Condact) → IsTrue (is_right g c) → IsTrue (is_argument g (second_kind c.code) c.b)
right-second g c h = second_follows (is_argument g) c h
