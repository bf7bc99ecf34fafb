-- Words that rise by their letters rise by their first letters, so that a search among those of one letter is enough.
use Rattle.std.proofs.Common.{◌≡◌, ℕ, zero, suc, ◌+◌, ◌-◌, ◌<◌, ◌≤◌, Bool, true, false, List, [], ◌∷◌, length, get_or, take, drop}
use Rattle.std.proofs.Common.{Option, Some, None, Ordering, IsTrue, refl, sym, ap, subst, ◌∙◌, inl, inr, arith, length-take, length-drop}
use Rattle.std.specs.declared.cmp.Ordering.TheVariants.{Less, Equal, Greater}
use Rattle.std.specs.Ordering.{nat_cmp, ordering_then}
use Rattle.std.specs.Cmp.{ranked}
use Rattle.std.specs.Cmp.Lexicographic.{slice_cmp}
use Rattle.std.specs.Option.{option_or}
use Rattle.std.specs.Str.{bytes_eq}
use Rattle.std.proofs.lemmas.Bool.{and_parts, cases_lt}
use Rattle.std.proofs.lemmas.List.{get_or-take, get_or-drop, get_or_default, take-append-drop}
use Rattle.std.proofs.lemmas.List.Folds.{find-append}
use Rattle.std.proofs.lemmas.List.Recursion.{found_nowhere}
use Rattle.std.proofs.lemmas.Slice.Eq.{bytes_eq-Decides}
use Rattle.paw_base.specs.Bytes.{Letters}
use Rattle.paw_game.specs.declared.parts.Word.{Word}
use Rattle.paw_game.specs.Tables.{word_of}
use Rattle.paw_game.specs.Valid.{words_rise}
use Rattle.paw_game.proofs.Search.{rises}
use Rattle.paw_image.specs.declared.word_index.TheConstants.{LAST_GROUP}
use Rattle.paw_image.specs.inner.Groups.{first_group, GroupsRise, AreBelowGroup, IsGroupStart, AreGroupStarts, IsGroup}

-- ---- the order of groups ----

-- Lists that rise have first numbers that don't fall.
first_of : (x y : ℕ) (o r : Ordering) → r ≡ nat_cmp x y → ordering_then r o ≡ Less → x ≤ y
first_of x y o Less e h = let lt : x < y = ranked x y Less e in omega (arith, lt)
first_of x y o Equal e h = let same : x ≡ y = ranked x y Equal e in omega (arith, same)
first_of x y o Greater e h = absurd cc

first_letters : (a b : Letters) → slice_cmp nat_cmp a b ≡ Less → get_or a 0 0 ≤ get_or b 0 0
first_letters [] b h = omega arith
first_letters (x ∷ xs) [] h = absurd cc
first_letters (x ∷ xs) (y ∷ ys) h = first_of x y (slice_cmp nat_cmp xs ys) (nat_cmp x y) refl h

-- Words that rise by their letters rise by their groups.
pub groups_rise : (ws : List Word) → IsTrue (words_rise ws) → GroupsRise ws
groups_rise ws h i j d le lt = elim (cases_lt i j) [
  | inl before ↦
      let first = first_letters (get_or ws i d).letters (get_or ws j d).letters (rises ws i j d h before lt) in
      omega (arith, first)
  | inr from ↦ let same : i ≡ j = omega (arith, le, from) in rw same (omega arith)
]

-- ---- parts of words that rise ----

pub drop_rises : (n : ℕ) (ws : List Word) → IsTrue (words_rise ws) → IsTrue (words_rise (drop n ws))
drop_rises zero ws h = h
drop_rises (suc n) [] h = h
drop_rises (suc zero) (w ∷ []) h = refl
drop_rises (suc (suc n)) (w ∷ []) h = refl
drop_rises (suc n) (w ∷ v ∷ vs) h = drop_rises n (v ∷ vs) (and_parts _ (words_rise (v ∷ vs)) h).1

pub take_rises : (n : ℕ) (ws : List Word) → IsTrue (words_rise ws) → IsTrue (words_rise (take n ws))
take_rises zero ws h = refl
take_rises (suc n) [] h = h
take_rises (suc zero) (w ∷ ws) h = refl
take_rises (suc (suc n)) (w ∷ []) h = h
take_rises (suc (suc n)) (w ∷ v ∷ vs) h =
    let p = and_parts _ (words_rise (v ∷ vs)) h in
    rw p.0 (take_rises (suc n) (v ∷ vs) p.1)

-- ---- the word with some letters ----

-- Letters of another group are others.
other_letters : (a b : Letters) → (first_group a ≡ first_group b → ⊥) → bytes_eq a b ≡ false
other_letters a b other = by (bytes_eq a b) refl
  where
    by : (t : Bool) → bytes_eq a b ≡ t → t ≡ false
    by false e = refl
    by true e = absurd (other (ap first_group ((bytes_eq-Decides a b).0 e)))

no_word : Word
no_word = record { letters = []; value = 0; class = 0 }

-- Among words of other groups there is none with these letters.
none_of : (letters : Letters) (ws : List Word) → ((k : ℕ) → k < length ws → first_group (get_or ws k no_word).letters ≡ first_group letters → ⊥)
    → word_of letters ws ≡ None
none_of letters ws others =
    found_nowhere (word_of letters) (λ w. bytes_eq w.letters letters) Some None refl (λ _ _. refl) ws no_word
    (λ k lt. other_letters (get_or ws k no_word).letters letters (others k lt))

or_none : {A : Type 0} (x : Option A) → option_or x None ≡ x
or_none (Some x) = refl
or_none None = refl

-- Words of other groups, before and after, make no difference.
past_others : (letters : Letters) (n : ℕ) (ws : List Word) → word_of letters (take n ws) ≡ None → word_of letters ws ≡ word_of letters (drop n ws)
past_others letters n ws none =
    ap (word_of letters) (sym (take-append-drop n ws))
    ∙ find-append (λ w. bytes_eq w.letters letters) (take n ws) (drop n ws)
    ∙ ap (λ (x : Option Word). option_or x (word_of letters (drop n ws))) none

before_others : (letters : Letters) (n : ℕ) (ws : List Word) → word_of letters (drop n ws) ≡ None → word_of letters ws ≡ word_of letters (take n ws)
before_others letters n ws none =
    ap (word_of letters) (sym (take-append-drop n ws))
    ∙ find-append (λ w. bytes_eq w.letters letters) (take n ws) (drop n ws)
    ∙ ap (λ (x : Option Word). option_or (word_of letters (take n ws)) x) none
    ∙ or_none (word_of letters (take n ws))

-- ---- a group ----

start_at : (words : List Word) (starts : List ℕ) → AreGroupStarts words starts → (group start : ℕ) → group ≤ LAST_GROUP + 1
    → start ≡ get_or starts group start → IsGroupStart words group start
start_at words starts a group start le e =
    subst (IsGroupStart words group) (get_or_default starts group 0 start (omega (arith, a.long)) ∙ sym e) (a.each group le)

-- The words of a group end where those of the next one begin.
starts_rise : (words : List Word) (group start end : ℕ) → IsGroupStart words group start → IsGroupStart words (group + 1) end → start ≤ end
starts_rise words group start end s e =
    elim (cases_lt end start) [
      | inl before ↦
          absurd (omega (arith, s.parts.0 end no_word (omega arith) before, e.parts.1 end no_word (omega arith) (omega (arith, s.within, before))))
      | inr le ↦ le
    ]

-- Between which indices the words of a group stand.
pub record GroupAt (words : List Word) (group start end : ℕ) : Type 0 where
  pub starts : IsGroupStart words group start
  pub ends : IsGroupStart words (group + 1) end
  pub rise : start ≤ end

pub group_at : (words : List Word) (starts : List ℕ) (group start end : ℕ) → AreGroupStarts words starts → group ≤ LAST_GROUP
    → start ≡ get_or starts group start → end ≡ get_or starts (group + 1) end → GroupAt words group start end
group_at words starts group start end are low s e =
    let first = start_at words starts are group start (omega (arith, low)) s in
    let last = start_at words starts are (group + 1) end (omega (arith, low)) e in
    record { starts = first; ends = last; rise = starts_rise words group start end first last }

pub group_is : (words : List Word) (group start end : ℕ) → IsTrue (words_rise words) → GroupAt words group start end
    → IsGroup words group (take (end - start) (drop start words))
group_is words group start end h at = record {
  rise = take_rises (end - start) (drop start words) (drop_rises start words h);
  same = λ letters is.
      let long = length-take start words in
      let rest = length-drop start words in
      let tail = length-drop (end - start) (drop start words) in
      let before = none_of letters (take start words) (λ k lt same.
      let here = get_or-take start words k no_word (omega (arith, long, lt)) in
      let low = at.starts.parts.0 k no_word (omega arith) (omega (arith, long, lt)) in
      let group_here = ap (λ (w : Word). first_group w.letters) here in
      omega (arith, low, group_here, same, is)) in
      let after = none_of letters (drop (end - start) (drop start words)) (λ k lt same.
      let here = get_or-drop (end - start) (drop start words) k no_word ∙ get_or-drop start words (end - start + k) no_word in
      let place : start + (end - start + k) ≡ end + k = omega (arith, at.rise) in
      let high = at.ends.parts.1 (end + k) no_word (omega arith) (omega (arith, tail, rest, lt, at.rise)) in
      let group_here = ap (λ (w : Word). first_group w.letters) (here ∙ ap (λ (i : ℕ). get_or words i no_word) place) in
      omega (arith, high, group_here, same, is)) in
      sym (past_others letters start words before ∙ before_others letters (end - start) (drop start words) after);
}

-- ---- as they are gone over ----

-- Words from the first one on that is no longer below a group are not below it.
pub start_found : (words : List Word) (group at : ℕ) (d : Word) → GroupsRise words → AreBelowGroup words group at → at < length words
    → group ≤ first_group (get_or words at d).letters → IsGroupStart words group at
start_found words group at d rise below lt high = record {
  within = below.0;
  parts = (
    below.1,
    λ k e le within.
        let here = ap (λ (w : Word). first_group w.letters) (get_or_default words at d e lt) in
        let up = rise at k e le within in
        omega (arith, high, here, up),
  );
}
