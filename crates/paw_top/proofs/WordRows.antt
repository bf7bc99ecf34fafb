-- The printed words of a game are read as its words.
use Rattle.std.proofs.Common.{◌≡◌, ℕ, zero, suc, ◌<◌, ◌≤◌, true, false, eqb, leb, List, [], ◌∷◌, ◌++◌, length, map}
use Rattle.std.proofs.Common.{Some, None, Result, Ok, refl, sym, ap, ◌∙◌}
use Rattle.std.proofs.Common.{bytes_eq, arith, length-append}
use Rattle.std.specs.Fmt.{decimal}
use Rattle.std.specs.List.{list_all}
use Rattle.std.specs.declared.cmp.Ordering.TheVariants.{Less}
use Rattle.std.specs.Ordering.{is_eq, is_lt, nat_cmp, ordering_reverse}
use Rattle.std.specs.Cmp.Lexicographic.{slice_cmp}
use Rattle.std.proofs.lemmas.Bool.{and_parts, leb-true, ne_eqb}
use Rattle.std.proofs.lemmas.Cmp.{nat_list_cmp_total}
use Rattle.std.proofs.lemmas.List.{append_assoc, append-nil}
use Rattle.std.proofs.lemmas.Map.Text.{is_eq-slice_cmp}
use Rattle.paw_base.specs.Bytes.{Tokens}
use Rattle.paw_base.specs.declared.limits.TheConstants.{WORD_LIMIT}
use Rattle.paw_base.specs.declared.words.TheConstants.{LEAST_WORD, GREATEST_WORD, PRONOUN_CLASS}
use Rattle.paw_base.specs.declared.fault.SourceKind.{SourceKind}
use Rattle.paw_game.specs.declared.parts.Word.{Word}
use Rattle.paw_game.specs.Valid.{are_letters, is_within, is_word, words_rise}
use Rattle.paw_game.specs.Tables.{word_of}
use Rattle.paw_grammar.specs.declared.section.Section.TheVariants as section
use Rattle.paw_read_error.specs.Bind.{◌>>=◌}
use Rattle.paw_grammar.specs.Vocabulary.{class_names, index_among, words_with}
use Rattle.paw_grammar.specs.GrammarState.{Spelt}
use Rattle.paw_grammar.specs.GrammarTexts.{is_in_text}
use Rattle.paw_grammar.specs.GrammarRows.{voc_row}
use Rattle.paw_print.specs.Lines.{spelled_letters, class_name, tokens_spaced}
use Rattle.paw_top.proofs.Rows.{is_plain, row_next, printed-spaced}
use Rattle.paw_top.proofs.Digits.{number-decimal, plain-decimal}
use Rattle.paw_top.proofs.Letters.{Spelling, spelling}
use Rattle.paw_top.proofs.KnownWords.{Less-from_is_lt, rest_rises}
use Rattle.paw_top.proofs.After.{LineReads, Reads, reads_none, reads_line}

-- ---- classes ----

record ClassName (c : ℕ) : Type 0 where
  plain : is_plain (class_name c) ≡ true
  read : index_among class_names (class_name c) ≡ Some c

class_back : (c : ℕ) → leb c PRONOUN_CLASS ≡ true → ClassName c
class_back zero h = record { plain = refl; read = refl }
class_back (suc zero) h = record { plain = refl; read = refl }
class_back (suc (suc zero)) h = record { plain = refl; read = refl }
class_back (suc (suc (suc zero))) h = record { plain = refl; read = refl }
class_back (suc (suc (suc (suc zero)))) h = record { plain = refl; read = refl }
class_back (suc (suc (suc (suc (suc zero))))) h = record { plain = refl; read = refl }
class_back (suc (suc (suc (suc (suc (suc zero)))))) h = record { plain = refl; read = refl }
class_back (suc (suc (suc (suc (suc (suc (suc n))))))) h = absurd (omega (arith, leb-true _ PRONOUN_CLASS h))

-- ---- a word after words that stand below it ----

-- A word stands above each one before it.
stands_above : (v : Word) (vs : List Word) (w : Word) (ws : List Word) → words_rise (v ∷ (vs ++ w ∷ ws)) ≡ true → slice_cmp nat_cmp v.letters w.letters ≡ Less
stands_above v [] w ws h = Less-from_is_lt _ (and_parts (is_lt (slice_cmp nat_cmp v.letters w.letters)) (words_rise (w ∷ ws)) h).0
stands_above v (u ∷ us) w ws h =
    let both = and_parts (is_lt (slice_cmp nat_cmp v.letters u.letters)) (words_rise (u ∷ (us ++ w ∷ ws))) h in
    nat_list_cmp_total.trans v.letters u.letters w.letters (Less-from_is_lt _ both.0) (stands_above u us w ws both.1)

not_declared : (vs : List Word) (w : Word) (ws : List Word) → words_rise (vs ++ w ∷ ws) ≡ true → word_of w.letters vs ≡ None
not_declared [] w ws h = refl
not_declared (v ∷ vs) w ws h =
    let differs : bytes_eq v.letters w.letters ≡ false = sym (is_eq-slice_cmp v.letters w.letters) ∙ ap is_eq (stands_above v vs w ws h) in
    rw differs (not_declared vs w ws (rest_rises v (vs ++ w ∷ ws) h))

put_last : (vs : List Word) (w : Word) (ws : List Word) → words_rise (vs ++ w ∷ ws) ≡ true → words_with w vs ≡ vs ++ w ∷ []
unfolding words_with
put_last [] w ws h = refl
put_last (v ∷ vs) w ws h =
    let below : slice_cmp nat_cmp w.letters v.letters ≡ ordering_reverse Less =
    nat_list_cmp_total.antisymm w.letters v.letters ∙ ap ordering_reverse (stands_above v vs w ws h) in
    rw below (ap (λ (us : List Word). v ∷ us) (put_last vs w ws (rest_rises v (vs ++ w ∷ ws) h)))

-- ---- a row ----

-- Letters, value, class.
abbrev pub word_tokens : Word → Tokens
word_tokens w = spelled_letters w ∷ decimal w.value ∷ class_name w.class ∷ []

-- The row of a word.
record WordRow (w : Word) : Type 0 where
  spelled : Spelling (spelled_letters w) w.letters
  value : is_within LEAST_WORD GREATEST_WORD w.value ≡ true
  small : w.value ≤ 65535
  class : ClassName w.class

word_row : (w : Word) → is_word w ≡ true → WordRow w
word_row w h =
    let letters = and_parts (are_letters w.letters) _ h in
    let value = and_parts (is_within LEAST_WORD GREATEST_WORD w.value) (leb w.class PRONOUN_CLASS) letters.1 in
    let high : w.value ≤ GREATEST_WORD = leb-true w.value GREATEST_WORD (and_parts (leb LEAST_WORD w.value) (leb w.value GREATEST_WORD) value.0).1 in
    record { spelled = spelling w.letters letters.0; value = value.0; small = omega arith; class = class_back w.class value.1 }

plain_row : (w : Word) → WordRow w → list_all is_plain (word_tokens w) ≡ true
plain_row w r = rw (r.spelled.plain, plain-decimal w.value r.small, r.class.plain) refl

voc_row-is : (vs : List Word) (w : Word) (ws : List Word) → WordRow w → words_rise (vs ++ w ∷ ws) ≡ true →
    length vs < WORD_LIMIT → voc_row vs (word_tokens w) ≡ Ok (vs ++ w ∷ [])
unfolding voc_row
voc_row-is vs w ws r rise few =
    let room : eqb (length vs) WORD_LIMIT ≡ false = ne_eqb (length vs) WORD_LIMIT (λ e. omega arith) in
    rw (r.spelled.word, r.spelled.is, number-decimal w.value r.small, r.value, r.class.read, not_declared vs w ws rise, room, put_last vs w ws rise) refl

-- ---- all rows ----

word_next : (p : ℕ) (d : Spelt) (vs : List Word) (w : Word) (ws : List Word) → d.section ≡ section.Voc →
    is_word w ≡ true → words_rise (vs ++ w ∷ ws) ≡ true → length vs < WORD_LIMIT
    → LineReads p (record d { words = vs }) (tokens_spaced (word_tokens w)) (record d { words = vs ++ w ∷ [] })
word_next p d vs w ws at h rise few =
    let r = word_row w h in
    let e : Spelt = record d { words = vs } in
    let out : is_in_text e ≡ false = rw at refl in
    record {
      is =
          row_next p e (spelled_letters w) (decimal w.value ∷ class_name w.class ∷ []) (plain_row w r) r.spelled.slash out
          ∙ rw at (ap (λ (x : Result (List Word) SourceKind). x >>= λ us. Ok (record d { section = section.Voc; words = us })) (voc_row-is vs w ws r rise few));
      printed = printed-spaced (spelled_letters w) (decimal w.value ∷ class_name w.class ∷ []) (plain_row w r);
    }

-- The rows of words after those that were read.
pub words_read : (p : ℕ) (d : Spelt) (vs ws : List Word) → d.section ≡ section.Voc → list_all is_word ws ≡ true →
    words_rise (vs ++ ws) ≡ true → length (vs ++ ws) ≤ WORD_LIMIT
    → Reads p (record d { words = vs }) (map (λ w. tokens_spaced (word_tokens w)) ws) (record d { words = vs ++ ws })
words_read p d vs [] at all rise few = rw (append-nil vs) (reads_none p (record d { words = vs }))
words_read p d vs (w ∷ ws) at all rise few =
    let both = and_parts (is_word w) (list_all is_word ws) all in
    let room : length vs < WORD_LIMIT = omega (arith, length-append vs (w ∷ ws), few) in
    let same : (vs ++ w ∷ []) ++ ws ≡ vs ++ w ∷ ws = append_assoc vs (w ∷ []) ws in
    let rest = words_read p d (vs ++ w ∷ []) ws at both.1 (ap words_rise same ∙ rise) (rw same few) in
    reads_line p _ _ _ _ _ (word_next p d vs w ws at both.0 rise room) (rw same at rest)
