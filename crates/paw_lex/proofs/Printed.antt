-- Lines and tokens that were printed are read back.
use Rattle.std.proofs.Common.{◌≡◌, ℕ, ◌<◌, ◌-◌, Bool, true, false, not, ◌&&◌, eqb, ltb, [], ◌∷◌, ◌++◌, length}
use Rattle.std.proofs.Common.{get_or, refl, sym, ap, ◌∙◌, inl}
use Rattle.std.proofs.Common.{inr, one-add, arith}
use Rattle.std.specs.List.{before_first, position_or_len, slice_split, list_all, flat_map, join_with_byte, All}
use Rattle.std.specs.Str.Lines.{lines, lines_of_parts, strip_carriage_return}
use Rattle.std.proofs.lemmas.Bool.{leb-true, ltb-true, ne_eqb, and_parts, cases_lt}
use Rattle.std.proofs.lemmas.List.{append-nil, append_assoc, take_at, drop_at, get_or_past}
use Rattle.std.proofs.lemmas.List.Splits.{slice_split_at, length-slice_split}
use Rattle.std.proofs.lemmas.List.Sums.{AllPass-from_list_all}
use Rattle.paw_base.specs.Bytes.{Bytes, Line, Tokens, Lines, Token}
use Rattle.paw_lex.specs.Bytes.{is_printed_byte}
use Rattle.paw_lex.specs.Lines.{lines_of}
use Rattle.paw_lex.specs.Tokens.{tokens_of}
use Rattle.paw_lex.specs.inner.Tokens.{ends_token}
use Rattle.paw_lex.proofs.LineCuts.{lines_of_parts-cons}
use Rattle.paw_lex.proofs.Slices.{before_first-cons}
use Rattle.paw_lex.proofs.TokenCuts.{tokens_of-blank, token_first}

-- No printed byte is below the space.
printed_is_not : (n b : ℕ) → n < 32 → is_printed_byte b ≡ true → eqb b n ≡ false
printed_is_not n b h e =
    let above = leb-true 32 b (and_parts _ _ e).0 in
    ne_eqb b n (λ same. omega arith)

none_is : (n : ℕ) (line : Line) → n < 32 → list_all is_printed_byte line ≡ true → All (λ b. eqb b n ≡ false) line
none_is n line h e = λ k d l. printed_is_not n (get_or line k d) h (AllPass-from_list_all is_printed_byte line e k d l)

-- The text of a source goes on past printed bytes.
text-append : (line rest : Bytes) → list_all is_printed_byte line ≡ true
    → before_first (λ b. eqb b 26) (line ++ rest) ≡ line ++ before_first (λ b. eqb b 26) rest
text-append [] rest e = refl
text-append (b ∷ bs) rest e =
    let both = and_parts _ _ e in
    before_first-cons (λ b. eqb b 26) b (bs ++ rest) (printed_is_not 26 b (omega arith) both.0)
    ∙ ap (λ (bytes : Bytes). b ∷ bytes) (text-append bs rest both.1)

no_return : (line : Line) → list_all is_printed_byte line ≡ true → strip_carriage_return line ≡ line
no_return line e =
    let last : eqb (get_or line (length line - 1) 0) 13 ≡ false = elim (cases_lt (length line - 1) (length line)) [
      | inl h ↦ none_is 13 line (omega arith) e (length line - 1) 0 h
      | inr h ↦ rw (get_or_past line (length line - 1) 0 h) refl
    ] in
    rw last refl

-- A printed line and its LF are read as that line.
pub lines_of-line : (line rest : Bytes) → list_all is_printed_byte line ≡ true → lines_of (line ++ 10 ∷ rest) ≡ line ∷ lines_of rest
unfolding lines_of
lines_of-line line rest e =
    let text = before_first (λ b. eqb b 26) rest in
    let more : 0 < length (slice_split (λ b. eqb b 10) text) = omega (arith, length-slice_split (λ b. eqb b 10) text) in
    ap lines (text-append line (10 ∷ rest) e ∙ ap (λ (bytes : Bytes). line ++ bytes) (before_first-cons (λ b. eqb b 26) 10 rest refl))
    ∙ ap lines_of_parts (slice_split_at (λ b. eqb b 10) line 10 text (none_is 10 line (omega arith) e) refl)
    ∙ lines_of_parts-cons line (slice_split (λ b. eqb b 10) text) more
    ∙ ap (λ (bytes : Bytes). bytes ∷ lines text) (no_return line e)

-- Each line with its LF.
abbrev pub printed_lines : Lines → Bytes
printed_lines = flat_map (λ line. line ++ 10 ∷ [])

pub lines_of-printed_lines : (ls : Lines) → list_all (list_all is_printed_byte) ls ≡ true → lines_of (printed_lines ls) ≡ ls
unfolding lines_of
lines_of-printed_lines [] e = refl
lines_of-printed_lines (line ∷ ls) e =
    let both = and_parts _ _ e in
    ap lines_of (append_assoc line (10 ∷ []) (printed_lines ls))
    ∙ lines_of-line line (printed_lines ls) both.0
    ∙ ap (λ (rest : Lines). line ∷ rest) (lines_of-printed_lines ls both.1)

-- A token has a byte, and none that ends it.
abbrev pub is_token : Token → Bool
is_token token = ltb 0 (length token) && list_all (λ b. not (ends_token b)) token

end_of_token : (token rest : Bytes) → list_all (λ b. not (ends_token b)) token ≡ true → position_or_len ends_token rest ≡ 0
    → position_or_len ends_token (token ++ rest) ≡ length token
end_of_token [] rest e h = h
end_of_token (b ∷ bs) rest e h =
    let both = and_parts (not (ends_token b)) (list_all (λ c. not (ends_token c)) bs) e in
    rw (both.0, end_of_token bs rest both.1 h, one-add) refl

-- A token is read as the first one where nothing follows, or a byte that ends it.
pub tokens_of-token : (token rest : Bytes) → is_token token ≡ true → position_or_len ends_token rest ≡ 0 → tokens_of (token ++ rest) ≡ token ∷ tokens_of rest
tokens_of-token token rest e h =
    let both = and_parts _ _ e in
    let long = ltb-true 0 (length token) both.0 in
    token_first (token ++ rest) (length token) (sym (end_of_token token rest both.1 h)) long
    ∙ rw (take_at token rest (length token) refl, drop_at token rest (length token) refl) refl

-- Tokens with a space between each two are read as these tokens.
pub tokens_of-join : (ts : Tokens) → list_all is_token ts ≡ true → tokens_of (join_with_byte 32 ts) ≡ ts
unfolding tokens_of
tokens_of-join [] e = refl
tokens_of-join (t ∷ []) e =
    let both = and_parts _ _ e in
    ap tokens_of (sym (append-nil t)) ∙ tokens_of-token t [] both.0 refl
tokens_of-join (t ∷ u ∷ ts) e =
    let both = and_parts _ _ e in
    tokens_of-token t (32 ∷ join_with_byte 32 (u ∷ ts)) both.0 refl
    ∙ ap (λ (rest : Tokens). t ∷ rest) (tokens_of-blank 32 (join_with_byte 32 (u ∷ ts)) refl ∙ tokens_of-join (u ∷ ts) both.1)
