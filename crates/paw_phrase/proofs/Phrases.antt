-- What the next phrase leaves of the pending bytes.
use Rattle.std.proofs.Common.{◌≡◌, ◌<◌, ◌≤◌, ◌+◌, ℕ, suc, Bool, true, false, cond, List, [], ◌∷◌, ◌++◌, None, length}
use Rattle.std.proofs.Common.{drop, refl, sym, ap, subst}
use Rattle.std.proofs.Common.{arith, length-drop}
use Rattle.std.specs.List.{All}
use Rattle.std.specs.Char.{to_ascii_uppercase, is_ascii_alphanumeric}
use Rattle.std.proofs.lemmas.List.{drop_all}
use Rattle.std.proofs.lemmas.List.Elements.{All-drop}
use Rattle.paw_base.specs.Bytes.{Bytes}
use Rattle.paw_game.specs.Game.{GameLists}
use Rattle.paw_phrase.specs.declared.Sentence.{Sentence}
use Rattle.paw_phrase.specs.Phrase.{is_separator, Lexeme, token_lexeme, separator_lexeme, lexemes_from, lexemes}
use Rattle.paw_phrase.specs.Phrase.{is_parting}
use Rattle.paw_phrase.specs.Phrase.{from_phrase}
use Rattle.paw_phrase.specs.Phrase.{bytes_after}
use Rattle.paw_phrase.specs.Sentence.{Parsed, IsSentence, IsUnknown, IsNoPhrase, parsed_lexemes, phrase_parsed}
use Rattle.paw_phrase.proofs.Lexemes.{lexemes-empty}
pub use Rattle.paw_phrase.specs.inner.Leaving.{LeavesBytes}

-- The bytes that stay pending: all after the first few.
pub record IsRest (pending rest : Bytes) : Type 0 where
  pub from : ℕ
  pub some : 0 < from
  pub within : from ≤ length pending
  pub is : rest ≡ drop from pending

pub rest-shorter : (pending rest : Bytes) → IsRest pending rest → length rest < length pending
rest-shorter pending rest h =
    let long : length rest ≡ length (drop h.from pending) = ap length h.is in
    omega (arith, length-drop h.from pending, h.some, h.within)

pub rest-all : (P : ℕ → Type 0) (pending rest : Bytes) → IsRest pending rest → All P pending → All P rest
rest-all P pending rest h all = subst (All P) (sym h.is) (All-drop P h.from pending all)

-- Bytes after a token or a separator, where a token's n bytes stand before s.
record IsBehind (n : ℕ) (s after : Bytes) : Type 0 where
  from : ℕ
  some : 0 < n + from
  within : from ≤ length s
  is : after ≡ drop from s

behind-more : (n m b : ℕ) (s after : Bytes) → IsBehind n s after → IsBehind m (b ∷ s) after
behind-more n m b s after h = record { from = suc h.from; some = omega arith; within = omega (arith, h.within); is = h.is }

abbrev Each : (Bytes → Type 0) → List Lexeme → Type 0
Each P [] = Unit {0}
Each P (m ∷ ms) = P m.after × Each P ms

Each-append : (P : Bytes → Type 0) (ms ns : List Lexeme) → Each P ms → Each P ns → Each P (ms ++ ns)
Each-append P [] ns h k = k
Each-append P (m ∷ ms) ns h k = (h.0, Each-append P ms ns h.1 k)

Each-map : (P Q : Bytes → Type 0) → ((after : Bytes) → P after → Q after) → (ms : List Lexeme) → Each P ms → Each Q ms
Each-map P Q f [] h = tt
Each-map P Q f (m ∷ ms) h = (f m.after h.0, Each-map P Q f ms h.1)

token_lexeme-behind : (run s : Bytes) → Each (IsBehind (length run) s) (token_lexeme run s)
token_lexeme-behind [] s = tt
token_lexeme-behind (b ∷ bs) s = (record { from = 0; some = omega arith; within = omega arith; is = refl }, tt)

separator_lexeme-behind : (n b : ℕ) (bs : Bytes) → Each (IsBehind n (b ∷ bs)) (separator_lexeme b bs)
separator_lexeme-behind n b bs =
    elim (is_separator b) as (λ v. Each (IsBehind n (b ∷ bs)) (cond v (record { token = None; after = bs } ∷ []) [])) [
      | true ↦ (record { from = 1; some = omega arith; within = omega arith; is = refl }, tt)
      | false ↦ tt
    ]

lexemes_from-behind : (bs run : Bytes) → Each (IsBehind (length run) bs) (lexemes_from run bs)
unfolding lexemes_from
lexemes_from-behind [] run = token_lexeme-behind run []
lexemes_from-behind (b ∷ bs) run =
    let longer = run ++ to_ascii_uppercase b ∷ [] in
    elim (is_ascii_alphanumeric b) as (λ v. Each (IsBehind (length run) (b ∷ bs))
    (cond v (lexemes_from longer bs) (token_lexeme run (b ∷ bs) ++ separator_lexeme b bs ++ lexemes_from [] bs))) [
      | true ↦ Each-map (IsBehind (length longer) bs) (IsBehind (length run) (b ∷ bs))
          (λ after. behind-more (length longer) (length run) b bs after) (lexemes_from longer bs) (lexemes_from-behind bs longer)
      | false ↦
          Each-append (IsBehind (length run) (b ∷ bs)) (token_lexeme run (b ∷ bs) ++ separator_lexeme b bs) (lexemes_from [] bs)
          (Each-append (IsBehind (length run) (b ∷ bs)) (token_lexeme run (b ∷ bs)) (separator_lexeme b bs)
          (token_lexeme-behind run (b ∷ bs)) (separator_lexeme-behind (length run) b bs))
          (Each-map (IsBehind 0 bs) (IsBehind (length run) (b ∷ bs)) (λ after. behind-more 0 (length run) b bs after) (lexemes_from [] bs)
          (lexemes_from-behind bs []))
    ]

rest_from : (s after : Bytes) → IsBehind 0 s after → IsRest s after
rest_from s after h = record { from = h.from; some = omega (arith, h.some); within = h.within; is = h.is }

lexemes-rest : (s : Bytes) → Each (IsRest s) (lexemes s)
lexemes-rest s = Each-map (IsBehind 0 s) (IsRest s) (rest_from s) (lexemes s) (lexemes_from-behind s [])

-- Where something may be left, nothing may be left too.
rest-none : (s after : Bytes) → IsRest s after → IsRest s []
rest-none s after h = record { from = length s; some = omega (arith, h.some, h.within); within = omega arith; is = sym (drop_all (length s) s (omega arith)) }

from_phrase-each : (P : Bytes → Type 0) (g : GameLists) (ms : List Lexeme) → Each P ms → Each P (from_phrase g ms)
from_phrase-each P g [] h = tt
from_phrase-each P g (m ∷ ms) h =
    elim (is_parting g m.token) as (λ v. Each P (cond v (from_phrase g ms) (m ∷ ms))) [ true ↦ from_phrase-each P g ms h.1 | false ↦ h ]

bytes_after-each : (P : Bytes → Type 0) (g : GameLists) (ms : List Lexeme) → P [] → Each P ms → P (bytes_after g ms)
bytes_after-each P g [] none h = none
bytes_after-each P g (m ∷ ms) none h =
    elim (is_parting g m.token) as (λ v. P (cond v m.after (bytes_after g ms))) [ true ↦ h.0 | false ↦ bytes_after-each P g ms none h.1 ]

pub leaves : (P : Bytes → Type 0) (b : Bool) (s : Sentence) (rest : Bytes) → P rest → LeavesBytes P (cond b (IsSentence s rest) (IsUnknown rest))
leaves P true s rest h = h
leaves P false s rest h = h

parsed_lexemes-rest : (g : GameLists) (pending : Bytes) (e n a : ℕ) (ms : List Lexeme) → Each (IsRest pending) ms
    → LeavesBytes (IsRest pending) (parsed_lexemes g e n a ms)
parsed_lexemes-rest g pending e n a [] h = tt
parsed_lexemes-rest g pending e n a (m ∷ ms) h =
    leaves (IsRest pending) _ _ (bytes_after g (m ∷ ms)) (bytes_after-each (IsRest pending) g (m ∷ ms) (rest-none pending m.after h.0) h)

-- What stays pending is what stands after the first few bytes.
pub parsed-rest : (g : GameLists) (pending : Bytes) (earlier noun adjective : ℕ) →
    LeavesBytes (IsRest pending) (phrase_parsed g pending earlier noun adjective)
unfolding phrase_parsed
parsed-rest g pending e n a = parsed_lexemes-rest g pending e n a (from_phrase g (lexemes pending))
    (from_phrase-each (IsRest pending) g (lexemes pending) (lexemes-rest pending))

leaves-map : (P Q : Bytes → Type 0) → ((rest : Bytes) → P rest → Q rest) → (p : Parsed) → LeavesBytes P p → LeavesBytes Q p
leaves-map P Q f (IsSentence s rest) h = f rest h
leaves-map P Q f (IsUnknown rest) h = f rest h
leaves-map P Q f IsNoPhrase h = tt

-- A phrase that is taken makes what is pending shorter.
pub parsed-shorter : (g : GameLists) (pending : Bytes) (earlier noun adjective : ℕ)
    → LeavesBytes (λ rest. length rest < length pending) (phrase_parsed g pending earlier noun adjective)
parsed-shorter g pending e n a =
    leaves-map (IsRest pending) (λ rest. length rest < length pending) (rest-shorter pending) (phrase_parsed g pending e n a) (parsed-rest g pending e n a)

-- The same for a phrase that is known to be a sentence, or unknown.
pub sentence-rest : (g : GameLists) (pending : Bytes) (earlier noun adjective : ℕ) (s : Sentence) (rest : Bytes)
    → phrase_parsed g pending earlier noun adjective ≡ IsSentence s rest → IsRest pending rest
sentence-rest g pending e n a s rest is = subst (LeavesBytes (IsRest pending)) is (parsed-rest g pending e n a)

pub unknown-rest : (g : GameLists) (pending : Bytes) (earlier noun adjective : ℕ) (rest : Bytes)
    → phrase_parsed g pending earlier noun adjective ≡ IsUnknown rest → IsRest pending rest
unknown-rest g pending e n a rest is = subst (LeavesBytes (IsRest pending)) is (parsed-rest g pending e n a)

-- No bytes have no phrase.
pub no_phrase : (g : GameLists) (pending : Bytes) (e n a : ℕ) → pending ≡ [] → phrase_parsed g pending e n a ≡ IsNoPhrase
unfolding phrase_parsed
no_phrase g pending e n a is = rw is (ap (λ ms. parsed_lexemes g e n a (from_phrase g ms)) lexemes-empty)
