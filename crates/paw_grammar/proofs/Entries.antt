-- Words in a map by their letters.
use Rattle.std.proofs.Common.{◌≡◌, Bool, true, false, cond, List, [], ◌∷◌, Option, Some, None, option_map, refl, sym}
use Rattle.std.proofs.Common.{ap, ◌∙◌, bytes_eq}
use Rattle.std.specs.declared.cmp.Ordering.TheVariants.{Less, Equal, Greater}
use Rattle.std.specs.Ordering.{nat_cmp, match_ordering, is_eq, is_lt}
use Rattle.std.specs.Cmp.Lexicographic.{slice_cmp}
use Rattle.std.specs.Map.{lookup}
use Rattle.std.specs.BTreeMap.{is_at, insert_entry}
use Rattle.std.proofs.lemmas.Bool.Decides.{same_from_decides, Decides-like}
use Rattle.std.proofs.lemmas.Slice.Eq.{bytes_eq-Decides}
use Rattle.std.proofs.lemmas.Map.Text.{is_eq-slice_cmp}
use Rattle.paw_base.specs.Bytes.{Letters}
use Rattle.paw_game.specs.declared.parts.Word.{Word}
use Rattle.paw_game.specs.Tables.{word_of}
use Rattle.paw_grammar.specs.declared.vocabulary.WordMeaning.{WordMeaning}
use Rattle.paw_grammar.specs.inner.WordMap.{word_from, words_in}
use Rattle.paw_grammar.specs.Vocabulary.{words_with}

abbrev Entry : Type 0
Entry = Letters × WordMeaning

bytes_eq-sym : (a b : Letters) → bytes_eq a b ≡ bytes_eq b a
bytes_eq-sym a b =
    same_from_decides (bytes_eq a b) (bytes_eq b a)
    (Decides-like (bytes_eq a b) (λ (e : a ≡ b). sym e) (λ (e : b ≡ a). sym e) (bytes_eq-Decides a b))
    (bytes_eq-Decides b a)

-- What the map holds at some letters is the word with these letters.
pub found : (es : List Entry) (k : Letters) → option_map (λ m. word_from (k, m)) (lookup (is_at (slice_cmp nat_cmp k)) es) ≡ word_of k (words_in es)
found [] k = refl
found (e ∷ es) k =
    rw (is_eq-slice_cmp k e.0, bytes_eq-sym e.0 k)
    (elim (bytes_eq k e.0) as (λ b. bytes_eq k e.0 ≡ b
    → option_map (λ m. word_from (k, m)) (cond b (Some e.1) (lookup (is_at (slice_cmp nat_cmp k)) es))
    ≡ cond b (Some (word_from e)) (word_of k (words_in es))) [
      | true ↦ λ h. ap (λ (x : Letters). Some (word_from (x, e.1))) ((bytes_eq-Decides k e.0).0 h)
      | false ↦ λ h. found es k
    ] refl)

none_here : (b : Bool) (w : Word) (rest : Option Word) → cond b (Some w) rest ≡ None → (b ≡ false) × (rest ≡ None)
none_here true w rest h = absurd cc
none_here false w rest h = (refl, h)

is_same : (k l : Letters) → slice_cmp nat_cmp k l ≡ Equal → bytes_eq l k ≡ true
is_same k l e = bytes_eq-sym l k ∙ sym (is_eq-slice_cmp k l) ∙ ap is_eq e

-- A word with new letters goes to its place.
pub put_in : (es : List Entry) (w : Word) → word_of w.letters (words_in es) ≡ None
    → words_in (insert_entry (slice_cmp nat_cmp) es w.letters (record { value = w.value; class = w.class })) ≡ words_with w (words_in es)
unfolding words_with
put_in [] w none = refl
put_in (e ∷ es) w none =
    let m : WordMeaning = record { value = w.value; class = w.class } in
    let two = none_here (bytes_eq e.0 w.letters) (word_from e) (word_of w.letters (words_in es)) none in
    elim (slice_cmp nat_cmp w.letters e.0) as (λ o. slice_cmp nat_cmp w.letters e.0 ≡ o
    → words_in (match_ordering o ((w.letters, m) ∷ e ∷ es) ((e.0, m) ∷ es)
    (e ∷ insert_entry (slice_cmp nat_cmp) es w.letters m))
    ≡ cond (is_lt o) (w ∷ word_from e ∷ words_in es) (word_from e ∷ words_with w (words_in es))) [
      | Less ↦ λ h. refl
      | Equal ↦ λ h. let same = is_same w.letters e.0 h in let other = two.0 in absurd cc
      | Greater ↦ λ h. ap (λ ws. word_from e ∷ ws) (put_in es w two.1)
    ] refl
