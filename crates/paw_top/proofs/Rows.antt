-- The line that is printed for tokens is read as these tokens.
use Rattle.std.proofs.Common.{◌≡◌, ℕ, ◌≤◌, Bool, true, false, not, ◌&&◌, eqb, ltb, leb, List, [], ◌∷◌, ◌++◌, length}
use Rattle.std.proofs.Common.{refl, ap, ◌∙◌, arith}
use Rattle.std.specs.List.{list_all, list_any, join_with_byte}
use Rattle.std.proofs.lemmas.Bool.{and_parts, and_from, and_right, not-true, not_from_false, ne_eqb, leb-true, le-leb}
use Rattle.std.proofs.lemmas.Bool.{lt-ltb}
use Rattle.std.proofs.lemmas.List.{append-nil}
use Rattle.std.proofs.lemmas.List.Folds.{list_all-append}
use Rattle.paw_base.specs.Bytes.{Bytes, Token, Tokens, Line}
use Rattle.paw_lex.specs.Bytes.{is_printed_byte, is_allowed, is_comment, has_forbidden_byte}
use Rattle.paw_lex.specs.Tokens.{is_blank, tokens_of}
use Rattle.paw_lex.specs.inner.Tokens.{ends_token}
use Rattle.paw_lex.proofs.Printed.{is_token, tokens_of-join}
use Rattle.paw_lex.proofs.TokenCuts.{tokens_of-blank}
use Rattle.paw_grammar.specs.GrammarState.{Spelt}
use Rattle.paw_grammar.specs.GrammarTexts.{is_in_text}
use Rattle.paw_grammar.specs.GrammarHeads.{slash_line}
use Rattle.paw_grammar.specs.GrammarRows.{row_in}
use Rattle.paw_grammar.specs.Numbers.{number}
use Rattle.paw_grammar.specs.Spells.{after_line, begins_with_slash, is_text_line, text_added}
use Rattle.paw_print.specs.Lines.{after_spaces, tokens_spaced}

-- A byte that may stand in a token: printed, no space and no `;`.
abbrev pub is_clean : ℕ → Bool
is_clean b = (leb 33 b && leb b 126) && not (eqb b 59)

-- A token has such bytes alone, and one at least.
abbrev pub is_plain : Token → Bool
is_plain [] = false
is_plain (b ∷ bs) = is_clean b && list_all is_clean bs

-- What a clean byte is.
record Clean (b : ℕ) : Type 0 where
  printed : is_printed_byte b ≡ true
  no_end : ends_token b ≡ false
  no_blank : is_blank b ≡ false
  no_semicolon : eqb b 59 ≡ false

clean : (b : ℕ) → is_clean b ≡ true → Clean b
clean b h =
    let both = and_parts (leb 33 b && leb b 126) _ h in
    let range = and_parts (leb 33 b) _ both.0 in
    let low : 33 ≤ b = leb-true 33 b range.0 in
    let semicolon : eqb b 59 ≡ false = not-true _ both.1 in
    let space : eqb b 32 ≡ false = ne_eqb b 32 (λ e. omega arith) in
    let tab : eqb b 9 ≡ false = ne_eqb b 9 (λ e. omega arith) in
    let low32 : leb 32 b ≡ true = le-leb 32 b (omega arith) in
    record {
      printed = rw (low32, range.1) refl;
      no_end = rw (space, tab, semicolon) refl;
      no_blank = rw (space, tab) refl;
      no_semicolon = semicolon;
    }

pub all_weaker : (p q : ℕ → Bool) → ((b : ℕ) → p b ≡ true → q b ≡ true) → (s : List ℕ) → list_all p s ≡ true → list_all q s ≡ true
all_weaker p q gives [] h = refl
all_weaker p q gives (b ∷ bs) h =
    let both = and_parts (p b) (list_all p bs) h in
    and_from (q b) (list_all q bs) (gives b both.0) (all_weaker p q gives bs both.1)

pub plain_printed : (t : Token) → is_plain t ≡ true → list_all is_printed_byte t ≡ true
plain_printed [] h = refl
plain_printed (b ∷ bs) h = all_weaker is_clean is_printed_byte (λ c e. (clean c e).printed) (b ∷ bs) h

plain_token : (t : Token) → is_plain t ≡ true → is_token t ≡ true
plain_token [] h = absurd cc
plain_token (b ∷ bs) h =
    and_from (ltb 0 (length (b ∷ bs))) _ (lt-ltb 0 (length (b ∷ bs)) (omega arith))
    (all_weaker is_clean (λ c. not (ends_token c)) (λ c e. not_from_false (ends_token c) (clean c e).no_end) (b ∷ bs) h)

plain_tokens : (ts : Tokens) → list_all is_plain ts ≡ true → list_all is_token ts ≡ true
plain_tokens [] h = refl
plain_tokens (t ∷ ts) h =
    let both = and_parts (is_plain t) _ h in
    and_from (is_token t) _ (plain_token t both.0) (plain_tokens ts both.1)

-- ---- tokens ----

spaced-join : (t : Token) (ts : Tokens) → tokens_spaced (t ∷ ts) ≡ join_with_byte 32 (t ∷ ts)
spaced-join t [] = append-nil t
spaced-join t (u ∷ us) = ap (λ (s : Line). t ++ (32 ∷ s)) (spaced-join u us)

tokens_of-spaced : (t : Token) (ts : Tokens) → list_all is_plain (t ∷ ts) ≡ true → tokens_of (tokens_spaced (t ∷ ts)) ≡ t ∷ ts
tokens_of-spaced t ts h = ap tokens_of (spaced-join t ts) ∙ tokens_of-join (t ∷ ts) (plain_tokens (t ∷ ts) h)

tokens_of-behind : (t : Token) (ts : Tokens) → list_all is_plain (t ∷ ts) ≡ true → tokens_of (after_spaces (t ∷ ts)) ≡ t ∷ ts
tokens_of-behind t ts h = tokens_of-blank 32 (tokens_spaced (t ∷ ts)) refl ∙ tokens_of-spaced t ts h

pub printed-behind : (ts : Tokens) → list_all is_plain ts ≡ true → list_all is_printed_byte (after_spaces ts) ≡ true
printed-behind [] h = refl
printed-behind (t ∷ ts) h =
    let both = and_parts (is_plain t) _ h in
    list_all-append is_printed_byte t (after_spaces ts) ∙ and_from _ _ (plain_printed t both.0) (printed-behind ts both.1)

pub printed-spaced : (t : Token) (ts : Tokens) → list_all is_plain (t ∷ ts) ≡ true → list_all is_printed_byte (tokens_spaced (t ∷ ts)) ≡ true
printed-spaced t ts h = printed-behind (t ∷ ts) h

-- ---- bytes ----

none_forbidden : (text : Bool) (l : Line) → list_all is_printed_byte l ≡ true → list_any (λ b. not (is_allowed text b)) l ≡ false
none_forbidden text [] h = refl
none_forbidden text (b ∷ bs) h =
    let both = and_parts (is_printed_byte b) (list_all is_printed_byte bs) h in
    rw both.0 (none_forbidden text bs both.1)

pub no_forbidden_byte : (text : Bool) (l : Line) → list_all is_printed_byte l ≡ true → has_forbidden_byte text l ≡ false
no_forbidden_byte text l h = and_right (not (is_comment l)) _ (none_forbidden text l h)

-- ---- one line ----

-- A line of tokens, of which the first has no stroke.
pub row_next : (p : ℕ) (d : Spelt) (t : Token) (ts : Tokens) → list_all is_plain (t ∷ ts) ≡ true → begins_with_slash t ≡ false → is_in_text d ≡ false
    → after_line p d (tokens_spaced (t ∷ ts)) ≡ row_in d.section p d false (t ∷ ts)
unfolding after_line
row_next p d [] ts h slash out = absurd cc
row_next p d (b ∷ bs) ts h slash out =
    let all = and_parts (is_plain (b ∷ bs)) (list_all is_plain ts) h in
    let c = clean b (and_parts (is_clean b) (list_all is_clean bs) all.0).0 in
    let text : is_text_line d (tokens_spaced ((b ∷ bs) ∷ ts)) ≡ false = rw out refl in
    rw (
      c.no_semicolon,
      none_forbidden (is_text_line d (tokens_spaced ((b ∷ bs) ∷ ts))) (tokens_spaced ((b ∷ bs) ∷ ts))
          (printed-spaced (b ∷ bs) ts h),
      text,
      slash,
      c.no_blank,
      tokens_of-spaced (b ∷ bs) ts h,
    ) refl

-- A line of tokens after spaces.
pub more_next : (p : ℕ) (d : Spelt) (t : Token) (ts : Tokens) → list_all is_plain (t ∷ ts) ≡ true → is_in_text d ≡ false
    → after_line p d (after_spaces (t ∷ ts)) ≡ row_in d.section p d true (t ∷ ts)
unfolding after_line
more_next p d t ts h out =
    let l : Line = after_spaces (t ∷ ts) in
    let text : is_text_line d l ≡ false = rw out refl in
    rw (no_forbidden_byte (is_text_line d l) l (printed-behind (t ∷ ts) h), text, tokens_of-behind t ts h) refl

-- A line of tokens, of which the first begins with a stroke.
pub slash_next : (p : ℕ) (d : Spelt) (bs : Bytes) (ts : Tokens) → list_all is_plain ((47 ∷ bs) ∷ ts) ≡ true
    → after_line p d (tokens_spaced ((47 ∷ bs) ∷ ts)) ≡ slash_line d (47 ∷ bs) (number bs) ts
unfolding after_line
slash_next p d bs ts h =
    let l : Line = tokens_spaced ((47 ∷ bs) ∷ ts) in
    let text : is_text_line d l ≡ false = and_right (is_in_text d) false refl in
    rw (no_forbidden_byte (is_text_line d l) l (printed-spaced (47 ∷ bs) ts h), text, tokens_of-spaced (47 ∷ bs) ts h) refl

-- A line of a text: printed bytes, of which the first is neither `/` nor `;`.
pub text_next : (p : ℕ) (d : Spelt) (l : Line) → list_all is_printed_byte l ≡ true → begins_with_slash l ≡ false → is_comment l ≡ false → is_in_text d ≡ true
    → after_line p d l ≡ text_added d l
unfolding after_line
text_next p d l h slash comment text =
    let in_text : is_text_line d l ≡ true = rw (text, slash) refl in
    rw (comment, none_forbidden (is_text_line d l) l h, in_text) refl
