-- Reading a phrase lexeme by lexeme gives what the phrase is.
use Rattle.std.proofs.Common.{◌≡◌, ◌+◌, ◌-◌, ℕ, Bool, true, false, cond, eqb, List, [], ◌∷◌, ◌++◌, Option, Some, None}
use Rattle.std.proofs.Common.{length, take, drop, refl, sym}
use Rattle.std.proofs.Common.{ap, ◌∙◌, arith}
use Rattle.std.specs.List.{list_any}
use Rattle.std.specs.Option.{is_some, option_to_list}
use Rattle.std.proofs.lemmas.List.{take_rest, drop-drop, drop_all}
use Rattle.paw_base.specs.Bytes.{Bytes, Letters}
use Rattle.paw_base.specs.declared.words.TheConstants.{CONJUNCTION_CLASS}
use Rattle.paw_game.specs.Game.{GameLists}
use Rattle.paw_game.specs.Tables.{word_at}
use Rattle.paw_phrase.specs.declared.Sentence.{Sentence}
use Rattle.paw_phrase.specs.declared.Found.{Found}
use Rattle.paw_phrase.specs.declared.Found.TheVariants as found
use Rattle.paw_phrase.specs.declared.next.Part.{Part}
use Rattle.paw_phrase.specs.declared.next.Part.TheVariants as part
use Rattle.paw_phrase.specs.declared.next.PhraseDraft.{PhraseDraft}
use Rattle.paw_phrase.specs.Phrase.{Lexeme, lexemes, is_parting, from_phrase, phrase_tokens, bytes_after}
use Rattle.paw_phrase.specs.Sentence.{blank, with_word, with_tokens, sentence_finished, Parsed, IsSentence, IsUnknown}
use Rattle.paw_phrase.specs.Sentence.{IsNoPhrase, parsed_lexemes, phrase_parsed}
use Rattle.paw_phrase.specs.inner.Draft.{part_of_word, phrase_part_of, with_part, blank_draft, draft_outcome}

-- After a part the draft goes on, or its phrase has ended.
abbrev pub after_part : Option PhraseDraft → Parsed → (PhraseDraft → Parsed) → Parsed
after_part None stop go = stop
after_part (Some d) stop go = go d

-- What a draft ends as where it is read on over these lexemes.
unfoldable pub along : GameLists → ℕ → List Lexeme → PhraseDraft → Parsed
along g e [] d = draft_outcome e d []
along g e (m ∷ ms) d = after_part (with_part (phrase_part_of g m.token) d) (draft_outcome e d m.after) (along g e ms)

-- A token is a word of the game.
abbrev has_known : GameLists → List Letters → Bool
has_known g tokens = list_any (λ token. is_some (word_at g token)) tokens

-- What a part says of the tokens that begin with it.
abbrev Means : GameLists → Option Letters → Part → Type 0
Means g t part.Break = is_parting g t ≡ true
Means g t part.Unknown =
    (is_parting g t ≡ false) × ((ts : List Letters) (s : Sentence) → with_tokens g (option_to_list t ++ ts) s ≡ with_tokens g ts s)
    × ((ts : List Letters) → has_known g (option_to_list t ++ ts) ≡ has_known g ts)
Means g t (part.Word value class) =
    (is_parting g t ≡ false)
    × ((ts : List Letters) (s : Sentence) → with_tokens g (option_to_list t ++ ts) s ≡ with_tokens g ts (with_word value class s))
    × ((ts : List Letters) → has_known g (option_to_list t ++ ts) ≡ true)

known_means : (g : GameLists) (letters : Letters) (word : ℕ × ℕ) → word_at g letters ≡ Some word → (b : Bool) → eqb word.1 CONJUNCTION_CLASS ≡ b
    → Means g (Some letters) (cond b part.Break (part.Word word.0 word.1))
known_means g letters word e true parts = rw e parts
known_means g letters word e false parts = (rw e parts, λ ts s. rw e refl, λ ts. rw e refl)

word_means : (g : GameLists) (letters : Letters) → (word : Option (ℕ × ℕ)) → word_at g letters ≡ word → Means g (Some letters) (part_of_word word)
word_means g letters None e = (rw e refl, λ ts s. rw e refl, λ ts. rw e refl)
word_means g letters (Some word) e = known_means g letters word e (eqb word.1 CONJUNCTION_CLASS) refl

means : (g : GameLists) (t : Option Letters) → Means g t (phrase_part_of g t)
means g None = refl
means g (Some letters) = word_means g letters (word_at g letters) refl

abbrev draft : Found → Sentence → PhraseDraft
draft f s = record { found = f; words = s }

-- What the tokens of a phrase are, where s is filled before them.
abbrev parsed_tokens : GameLists → ℕ → Sentence → List Letters → Bytes → Parsed
parsed_tokens g e s ts rest = cond (has_known g ts) (IsSentence (sentence_finished e (with_tokens g ts s)) rest) (IsUnknown rest)

-- A part after a known word.
part_of_sentence : (g : GameLists) (e : ℕ) (m : Lexeme) (ms : List Lexeme)
    → ((s : Sentence) → along g e ms (draft found.Sentence s)
    ≡ IsSentence (sentence_finished e (with_tokens g (phrase_tokens g ms) s)) (bytes_after g ms))
    → (s : Sentence) (p : Part) → Means g m.token p
    → after_part (with_part p (draft found.Sentence s)) (draft_outcome e (draft found.Sentence s) m.after) (along g e ms)
    ≡ IsSentence (sentence_finished e (with_tokens g (phrase_tokens g (m ∷ ms)) s)) (bytes_after g (m ∷ ms))
part_of_sentence g e m ms again s part.Break h = rw h refl
part_of_sentence g e m ms again s part.Unknown h = again s ∙ rw (h.0)
    (ap (λ x. IsSentence (sentence_finished e x) (bytes_after g ms)) (sym (h.1 (phrase_tokens g ms) s)))
part_of_sentence g e m ms again s (part.Word value class) h =
    again (with_word value class s) ∙ rw (h.0) (ap (λ x. IsSentence (sentence_finished e x) (bytes_after g ms)) (sym (h.1 (phrase_tokens g ms) s)))

-- With a known word.
with_known_word : (g : GameLists) (e : ℕ) (ms : List Lexeme) (s : Sentence)
    → along g e ms (draft found.Sentence s) ≡ IsSentence (sentence_finished e (with_tokens g (phrase_tokens g ms) s)) (bytes_after g ms)
unfolding along
with_known_word g e [] s = refl
with_known_word g e (m ∷ ms) s = part_of_sentence g e m ms (with_known_word g e ms) s (phrase_part_of g m.token) (means g m.token)

parsed_tokens_are : (g : GameLists) (e : ℕ) (s x : Sentence) (ts : List Letters) (rest : Bytes) (b : Bool) → has_known g ts ≡ b
    → with_tokens g ts s ≡ x → parsed_tokens g e s ts rest ≡ cond b (IsSentence (sentence_finished e x) rest) (IsUnknown rest)
parsed_tokens_are g e s x ts rest b known words =
    ap (λ c. cond c (IsSentence (sentence_finished e (with_tokens g ts s)) rest) (IsUnknown rest)) known
    ∙ ap (λ y. cond b (IsSentence (sentence_finished e y) rest) (IsUnknown rest)) words

-- A part after unknown tokens alone.
part_of_unknown : (g : GameLists) (e : ℕ) (m : Lexeme) (ms : List Lexeme)
    → ((s : Sentence) → along g e ms (draft found.Nothing s) ≡ parsed_tokens g e s (phrase_tokens g ms) (bytes_after g ms))
    → (s : Sentence) (p : Part) → Means g m.token p
    → after_part (with_part p (draft found.Nothing s)) (draft_outcome e (draft found.Nothing s) m.after) (along g e ms)
    ≡ parsed_tokens g e s (phrase_tokens g (m ∷ ms)) (bytes_after g (m ∷ ms))
part_of_unknown g e m ms again s part.Break h = rw h refl
part_of_unknown g e m ms again s part.Unknown h =
    let ts = phrase_tokens g ms in
    again s
    ∙ rw (h.0) (sym (parsed_tokens_are g e s (with_tokens g ts s) (option_to_list m.token ++ ts) (bytes_after g ms) (has_known g ts) (h.2 ts) (h.1 ts s)))
part_of_unknown g e m ms again s (part.Word value class) h =
    let ts = phrase_tokens g ms in
    let word = with_word value class s in
    with_known_word g e ms word
    ∙ rw (h.0) (sym (parsed_tokens_are g e s (with_tokens g ts word) (option_to_list m.token ++ ts) (bytes_after g ms) true (h.2 ts) (h.1 ts s)))

-- With unknown tokens alone.
with_no_word : (g : GameLists) (e : ℕ) (ms : List Lexeme) (s : Sentence)
    → along g e ms (draft found.Nothing s) ≡ parsed_tokens g e s (phrase_tokens g ms) (bytes_after g ms)
unfolding along
with_no_word g e [] s = refl
with_no_word g e (m ∷ ms) s = part_of_unknown g e m ms (with_no_word g e ms) s (phrase_part_of g m.token) (means g m.token)

abbrev parsed_from : GameLists → ℕ → Sentence → List Lexeme → Parsed
parsed_from g e s [] = IsNoPhrase
parsed_from g e s (m ∷ ms) = parsed_tokens g e s (phrase_tokens g (m ∷ ms)) (bytes_after g (m ∷ ms))

parsed_from-token : (g : GameLists) (e : ℕ) (m : Lexeme) (ms : List Lexeme) (s : Sentence) → is_parting g m.token ≡ false
    → parsed_from g e s (from_phrase g (m ∷ ms)) ≡ parsed_tokens g e s (option_to_list m.token ++ phrase_tokens g ms) (bytes_after g ms)
parsed_from-token g e m ms s h = rw h (rw h refl)

-- A part before the phrase.
part_of_nothing : (g : GameLists) (e : ℕ) (m : Lexeme) (ms : List Lexeme)
    → ((s : Sentence) → along g e ms (draft found.Empty s) ≡ parsed_from g e s (from_phrase g ms))
    → (s : Sentence) (p : Part) → Means g m.token p
    → after_part (with_part p (draft found.Empty s)) (draft_outcome e (draft found.Empty s) m.after) (along g e ms)
    ≡ parsed_from g e s (from_phrase g (m ∷ ms))
part_of_nothing g e m ms again s part.Break h = again s ∙ rw h refl
part_of_nothing g e m ms again s part.Unknown h =
    let ts = phrase_tokens g ms in
    with_no_word g e ms s
    ∙ sym (parsed_from-token g e m ms s (h.0) ∙ parsed_tokens_are g e s (with_tokens g ts s) (option_to_list m.token ++ ts) (bytes_after g ms)
    (has_known g ts) (h.2 ts) (h.1 ts s))
part_of_nothing g e m ms again s (part.Word value class) h =
    let ts = phrase_tokens g ms in
    let word = with_word value class s in
    with_known_word g e ms word
    ∙ sym (parsed_from-token g e m ms s (h.0) ∙ parsed_tokens_are g e s (with_tokens g ts word)
    (option_to_list m.token ++ ts) (bytes_after g ms) true (h.2 ts) (h.1 ts s))

-- With no token.
with_no_token : (g : GameLists) (e : ℕ) (ms : List Lexeme) (s : Sentence)
    → along g e ms (draft found.Empty s) ≡ parsed_from g e s (from_phrase g ms)
unfolding along
with_no_token g e [] s = refl
with_no_token g e (m ∷ ms) s = part_of_nothing g e m ms (with_no_token g e ms) s (phrase_part_of g m.token) (means g m.token)

parsed_from-lexemes : (g : GameLists) (e n a : ℕ) (ms : List Lexeme) → parsed_from g e (blank n a) ms ≡ parsed_lexemes g e n a ms
parsed_from-lexemes g e n a [] = refl
parsed_from-lexemes g e n a (m ∷ ms) = refl

pub along-started : (g : GameLists) (bytes : Bytes) (e n a : ℕ) → along g e (lexemes bytes) (blank_draft n a) ≡ phrase_parsed g bytes e n a
unfolding phrase_parsed
along-started g bytes e n a = with_no_token g e (lexemes bytes) (blank n a) ∙ parsed_from-lexemes g e n a (from_phrase g (lexemes bytes))

-- One lexeme more is read, from the bytes from i on.
pub along-lexeme : (g : GameLists) (e : ℕ) (s : Bytes) (i k : ℕ) (t : Option Letters) (d : PhraseDraft) (p : Part) (next : Option PhraseDraft)
    (whole : Parsed) → whole ≡ along g e (lexemes (drop i s)) d
    → lexemes (take (length s - i) (drop i s))
    ≡ record { token = t; after = drop k (take (length s - i) (drop i s)) } ∷ lexemes (drop k (take (length s - i) (drop i s)))
    → p ≡ phrase_part_of g t → next ≡ with_part p d
    → whole ≡ after_part next (draft_outcome e d (drop (i + k) s)) (along g e (lexemes (drop (i + k) s)))
unfolding along
along-lexeme g e s i k t d p next whole so_far first is_part is_next =
    let here : lexemes (drop i s) ≡ record { token = t; after = drop (i + k) s } ∷ lexemes (drop (i + k) s) = rw (take_rest s i, drop-drop k i s) at first in
    let go = along g e (lexemes (drop (i + k) s)) in
    so_far
    ∙ ap (λ ms. along g e ms d) here
    ∙ ap (λ x. after_part x (draft_outcome e d (drop (i + k) s)) go) (sym (is_next ∙ ap (λ q. with_part q d) is_part))

-- No lexeme is left.
pub along-end : (g : GameLists) (e : ℕ) (s : Bytes) (i : ℕ) (d : PhraseDraft) (whole : Parsed) → whole ≡ along g e (lexemes (drop i s)) d
    → lexemes (take (length s - i) (drop i s)) ≡ [] → whole ≡ draft_outcome e d (drop (length s) s)
unfolding along
along-end g e s i d whole so_far none =
    let here : lexemes (drop i s) ≡ [] = rw take_rest at none in
    so_far ∙ ap (λ ms. along g e ms d) here ∙ ap (draft_outcome e d) (sym (drop_all (length s) s (omega arith)))
