-- Each part of a sentence is a byte.
use Rattle.std.proofs.Common.{◌≡◌, ◌<◌, ◌&&◌, ℕ, Bool, true, false, cond, eqb, leb, ltb, length, List, [], ◌∷◌, Option}
use Rattle.std.proofs.Common.{Some, None, IsTrue, subst, arith, lit<}
use Rattle.std.specs.List.{list_all}
use Rattle.std.specs.Option.{option_map, option_map_or}
use Rattle.std.specs.Str.{bytes_eq}
use Rattle.std.proofs.lemmas.Bool.{and_parts, leb-true}
use Rattle.paw_base.specs.Bytes.{Bytes, Letters, Tokens}
use Rattle.paw_base.specs.declared.limits.TheConstants.{WORD_LIMIT}
use Rattle.paw_base.specs.declared.words.TheConstants.{ADJECTIVE_CLASS, PREPOSITION_CLASS, PRONOUN_CLASS, NO_WORD}
use Rattle.paw_base.specs.declared.words.TheConstants.{LEAST_WORD, GREATEST_WORD, FIRST_PLAIN_NOUN}
use Rattle.paw_game.specs.declared.parts.Word.{Word}
use Rattle.paw_game.specs.Game.{GameLists}
use Rattle.paw_game.specs.Valid.{are_letters, is_within, is_word, words_rise, Valid}
use Rattle.paw_game.specs.Tables.{word_of, word_at}
use Rattle.paw_phrase.specs.declared.Sentence.{Sentence}
use Rattle.paw_phrase.specs.Phrase.{Lexeme, lexemes, from_phrase, phrase_tokens, bytes_after}
use Rattle.paw_phrase.specs.Sentence.{blank, or_value, with_noun, with_adjective, with_pronoun, with_word, with_tokens}
use Rattle.paw_phrase.specs.Sentence.{with_verb, with_new_pronoun}
use Rattle.paw_phrase.specs.Sentence.{sentence_finished, Parsed, IsSentence, IsUnknown, IsNoPhrase, parsed_lexemes, phrase_parsed}

-- Each part of the sentence is a byte.
pub record AreBytes (s : Sentence) : Type 0 where
  pub verb : s.verb < 256
  pub noun : s.noun < 256
  pub adjective : s.adjective < 256
  pub adverb : s.adverb < 256
  pub preposition : s.preposition < 256
  pub second_noun : s.second_noun < 256
  pub second_adjective : s.second_adjective < 256
  pub pronoun_noun : s.pronoun_noun < 256
  pub pronoun_adjective : s.pronoun_adjective < 256

either : (P : Sentence → Type 0) (b : Bool) (s t : Sentence) → P s → P t → P (cond b s t)
either P true s t h k = h
either P false s t h k = k

or_value-byte : (old value : ℕ) → old < 256 → value < 256 → or_value old value < 256
or_value-byte old value h k = elim (eqb old NO_WORD) as (λ b. cond b value old < 256) [ true ↦ k | false ↦ h ]

blank-bytes : (n a : ℕ) → n < 256 → a < 256 → AreBytes (blank n a)
blank-bytes n a h k = record {
  verb = lit< tt;
  noun = lit< tt;
  adjective = lit< tt;
  adverb = lit< tt;
  preposition = lit< tt;
  second_noun = lit< tt;
  second_adjective = lit< tt;
  pronoun_noun = h;
  pronoun_adjective = k;
}

with_noun-bytes : (v : ℕ) (s : Sentence) → v < 256 → AreBytes s → AreBytes (with_noun v s)
with_noun-bytes v s h k =
    let kept = or_value-byte s.second_noun v k.second_noun h in
    let first : AreBytes (record s { noun = v }) = assumption in
    let second : AreBytes (record s { second_noun = or_value s.second_noun v }) = assumption in
    either AreBytes _ _ _ first second

with_adjective-bytes : (v : ℕ) (s : Sentence) → v < 256 → AreBytes s → AreBytes (with_adjective v s)
with_adjective-bytes v s h k =
    let kept = or_value-byte s.adjective v k.adjective h in
    let second_kept = or_value-byte s.second_adjective v k.second_adjective h in
    let first : AreBytes (record s { adjective = or_value s.adjective v }) = assumption in
    let second : AreBytes (record s { second_adjective = or_value s.second_adjective v }) = assumption in
    either AreBytes _ _ _ first second

with_pronoun-bytes : (s : Sentence) → AreBytes s → AreBytes (with_pronoun s)
with_pronoun-bytes s k =
    let first : AreBytes (record s { noun = s.pronoun_noun; adjective = s.pronoun_adjective }) = assumption in
    let second : AreBytes (record s { second_noun = s.pronoun_noun; second_adjective = s.pronoun_adjective }) = assumption in
    either AreBytes _ _ _ k (either AreBytes _ _ _ first (either AreBytes _ _ _ second k))

with_word-bytes : (v class : ℕ) (s : Sentence) → v < 256 → AreBytes s → AreBytes (with_word v class s)
with_word-bytes v class s h k =
    let kept = or_value-byte s.verb v k.verb h in
    let adverb_kept = or_value-byte s.adverb v k.adverb h in
    let preposition_kept = or_value-byte s.preposition v k.preposition h in
    let verb : AreBytes (record s { verb = or_value s.verb v }) = assumption in
    let adverb : AreBytes (record s { adverb = or_value s.adverb v }) = assumption in
    let preposition : AreBytes (record s { preposition = or_value s.preposition v }) = assumption in
    let pronoun = either AreBytes (eqb class PRONOUN_CLASS) (with_pronoun s) s (with_pronoun-bytes s k) k in
    let others = either AreBytes (eqb class ADJECTIVE_CLASS) _ _ (with_adjective-bytes v s h k)
    (either AreBytes (eqb class PREPOSITION_CLASS) _ _ preposition pronoun) in
    either AreBytes _ _ _ verb (either AreBytes _ _ _ adverb (either AreBytes _ _ _ (with_noun-bytes v s h k) others))

with_verb-bytes : (e : ℕ) (s : Sentence) → e < 256 → AreBytes s → AreBytes (with_verb e s)
with_verb-bytes e s h k =
    let stands_for : (b : Bool) → cond b s.noun e < 256 = λ b. elim b as (λ b. cond b s.noun e < 256) [ true ↦ k.noun | false ↦ h ] in
    let kept = or_value-byte s.verb _ k.verb (stands_for (ltb s.noun FIRST_PLAIN_NOUN)) in
    assumption

with_meaning-bytes : (s : Sentence) → AreBytes s → AreBytes (with_new_pronoun s)
with_meaning-bytes s k =
    let meant : AreBytes (record s { pronoun_noun = s.noun; pronoun_adjective = s.adjective }) = assumption in
    either AreBytes _ _ _ meant k

-- The value of a valid word.
value-byte : (w : Word) → IsTrue (is_word w) → w.value < 256
value-byte w h =
    let parts = and_parts (are_letters w.letters) (is_within LEAST_WORD GREATEST_WORD w.value && leb w.class PRONOUN_CLASS) h in
    let range = and_parts (is_within LEAST_WORD GREATEST_WORD w.value) (leb w.class PRONOUN_CLASS) parts.1 in
    let bounds = and_parts (leb LEAST_WORD w.value) (leb w.value GREATEST_WORD) range.0 in
    omega (arith, leb-true w.value GREATEST_WORD bounds.1)

-- A known word has a value.
abbrev HasByte : Option (ℕ × ℕ) → Type 0
HasByte None = Unit {0}
HasByte (Some word) = word.0 < 256

word_of-byte : (letters : Letters) (ws : List Word) → IsTrue (list_all is_word ws)
    → HasByte (option_map (λ (w : Word). (w.value, w.class)) (word_of letters ws))
word_of-byte letters [] h = tt
word_of-byte letters (w ∷ ws) h =
    let parts = and_parts (is_word w) (list_all is_word ws) h in
    elim (bytes_eq w.letters letters) as (λ b. HasByte (option_map (λ (v : Word). (v.value, v.class)) (cond b (Some w) (word_of letters ws)))) [
      | true ↦ value-byte w parts.0
      | false ↦ word_of-byte letters ws parts.1
    ]

word_at-byte : (g : GameLists) (letters : Letters) → Valid g → HasByte (word_at g letters)
word_at-byte g letters valid =
    let few = and_parts (leb (length g.words) WORD_LIMIT) (list_all is_word g.words && words_rise g.words) valid.words in
    word_of-byte letters g.words (and_parts (list_all is_word g.words) (words_rise g.words) few.1).0

with_known-bytes : (word : Option (ℕ × ℕ)) (s : Sentence) → HasByte word → AreBytes s
    → AreBytes (option_map_or (λ (w : ℕ × ℕ). with_word w.0 w.1 s) word s)
with_known-bytes None s h k = k
with_known-bytes (Some word) s h k = with_word-bytes word.0 word.1 s h k

with_tokens-bytes : (g : GameLists) (tokens : Tokens) (s : Sentence) → Valid g → AreBytes s → AreBytes (with_tokens g tokens s)
with_tokens-bytes g [] s valid k = k
with_tokens-bytes g (token ∷ tokens) s valid k =
    with_tokens-bytes g tokens _ valid (with_known-bytes (word_at g token) s (word_at-byte g token valid) k)

-- A sentence of bytes, where the bytes of the pronoun and the earlier verb are.
pub sentence-bytes : (g : GameLists) (tokens : Tokens) (earlier noun adjective : ℕ) → Valid g → earlier < 256 → noun < 256 → adjective < 256
    → AreBytes (sentence_finished earlier (with_tokens g tokens (blank noun adjective)))
sentence-bytes g tokens e n a valid he hn ha =
    let words = with_tokens g tokens (blank n a) in
    with_meaning-bytes (with_verb e words) (with_verb-bytes e words he (with_tokens-bytes g tokens (blank n a) valid (blank-bytes n a hn ha)))

-- A fact of the sentence, where there is one.
abbrev Gives : (Sentence → Type 0) → Parsed → Type 0
Gives P (IsSentence s rest) = P s
Gives P (IsUnknown rest) = Unit {0}
Gives P IsNoPhrase = Unit {0}

gives : (P : Sentence → Type 0) (b : Bool) (s : Sentence) (rest : Bytes) → P s → Gives P (cond b (IsSentence s rest) (IsUnknown rest))
gives P true s rest h = h
gives P false s rest h = tt

parsed_lexemes-bytes : (g : GameLists) (e n a : ℕ) → Valid g → e < 256 → n < 256 → a < 256 → (ms : List Lexeme) → Gives AreBytes (parsed_lexemes g e n a ms)
parsed_lexemes-bytes g e n a valid he hn ha [] = tt
parsed_lexemes-bytes g e n a valid he hn ha (m ∷ ms) =
    let tokens = phrase_tokens g (m ∷ ms) in
    gives AreBytes _ (sentence_finished e (with_tokens g tokens (blank n a))) (bytes_after g (m ∷ ms)) (sentence-bytes g tokens e n a valid he hn ha)

-- The sentence that is parsed is one of bytes.
pub parsed-bytes : (g : GameLists) (pending : Bytes) (earlier noun adjective : ℕ) (s : Sentence) (rest : Bytes) → Valid g → earlier < 256
    → noun < 256 → adjective < 256 → phrase_parsed g pending earlier noun adjective ≡ IsSentence s rest → AreBytes s
unfolding phrase_parsed
parsed-bytes g pending e n a s rest valid he hn ha is =
    subst (Gives AreBytes) is (parsed_lexemes-bytes g e n a valid he hn ha (from_phrase g (lexemes pending)))
