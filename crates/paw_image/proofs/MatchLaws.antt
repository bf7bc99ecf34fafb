-- The least match in order of verb and noun is the first entry that matches.
use Rattle.std.proofs.Common.{◌≡◌, ℕ, zero, suc, ◌+◌, ◌-◌, ◌<◌, ◌≤◌, eqb, false, List, [], ◌∷◌}
use Rattle.std.proofs.Common.{◌++◌, length, get_or, drop, Option, Some, refl, sym}
use Rattle.std.proofs.Common.{ap, subst, ◌∙◌, append_assoc, inl, inr, arith, add-zero}
use Rattle.std.specs.Prelude.{slice_get}
use Rattle.std.specs.List.{flat_map, All, Contains}
use Rattle.std.specs.List.Sorted.{IsPermutation}
use Rattle.std.proofs.lemmas.Bool.{cases_Bool, cases_eq, ne_eqb, false≢true}
use Rattle.std.proofs.lemmas.List.{get_or-drop}
use Rattle.std.proofs.lemmas.List.Elements.{All-cons, All-contains}
use Rattle.std.proofs.lemmas.List.Sorted.{Contains-permutation, IsPermutation-sym}
use Rattle.std.proofs.lemmas.Option.{none-some, same_Some, slice_get_within, get_or_from_slice_get, slice_get-get_or}
use Rattle.paw_base.specs.Bytes.{Bytes}
use Rattle.paw_base.specs.declared.limits.TheConstants.{ENTRY_LIMIT}
use Rattle.paw_base.specs.declared.words.TheConstants.{ANY_WORD, NO_WORD}
use Rattle.paw_game.specs.declared.parts.Entry.{Entry}
use Rattle.paw_game.specs.Image.{entry_image}
use Rattle.paw_game.specs.Tables.{is_for, matches}
use Rattle.paw_game.specs.Valid.{is_wildcard}
use Rattle.paw_game.specs.inner.Tables.{first_match}
use Rattle.paw_game.proofs.Matches.{IsFound, found_here, found_later, slice_get-drop}
use Rattle.paw_image.specs.declared.order.Order.{Order}
use Rattle.paw_image.specs.inner.Orders.{is_indexed_for, is_match, indexed_word, entry_rank, ranks_at, ranks_of, IsOrder, IsLeast}
use Rattle.paw_image.specs.inner.Orders.{IsMatch}
use Rattle.paw_image.specs.inner.Offsets.{offsets}
use Rattle.paw_image.proofs.OrderLaws.{IsLeast-same, one_least}
use Rattle.paw_image.proofs.RowStartLaws.{next_at}

-- ---- the words that are kept ----

indexed_small : (word : ℕ) → word < 256 → indexed_word word < 256
indexed_small word small =
    elim (cases_Bool (is_wildcard word)) [
      | inl wild ↦ rw wild (omega arith)
      | inr plain ↦ rw plain small
    ]

indexed_is_for_other : (word flag : ℕ) → eqb word ANY_WORD ≡ false → is_indexed_for (indexed_word word) flag ≡ is_for word flag
indexed_is_for_other word flag other =
    elim (cases_eq word NO_WORD) [
      | inl none ↦ rw none refl
      | inr plain ↦ let differs = ne_eqb word NO_WORD plain in rw (other, differs, differs) refl
    ]

-- A word that was kept matches where the word itself does.
indexed_is_for : (word flag : ℕ) → is_indexed_for (indexed_word word) flag ≡ is_for word flag
indexed_is_for word flag =
    elim (cases_eq word ANY_WORD) [
      | inl any ↦ rw any refl
      | inr other ↦ indexed_is_for_other word flag (ne_eqb word ANY_WORD other)
    ]

-- ---- ranks ----

byte_at_offset : (bytes front rest : Bytes) (at k : ℕ) → drop at bytes ≡ front ++ rest → get_or bytes (at + k) 0 ≡ get_or (front ++ rest) k 0
byte_at_offset bytes front rest at k e = sym (get_or-drop at bytes k 0) ∙ ap (λ (l : Bytes). get_or l k 0) e

module _ (bytes rest : Bytes) (x : Entry) (xs : List Entry) (at : ℕ) (e : drop at bytes ≡ flat_map entry_image (x ∷ xs) ++ rest) where
  others : Bytes
  others = flat_map entry_image xs ++ rest

  entry_first : drop at bytes ≡ entry_image x ++ others
  unfolding others
  entry_first = e ∙ append_assoc (entry_image x) (flat_map entry_image xs) rest

  verb_there : get_or bytes at 0 ≡ x.verb
  verb_there = ap (λ (i : ℕ). get_or bytes i 0) (sym (add-zero at)) ∙ byte_at_offset bytes (entry_image x) others at 0 entry_first

  noun_there : get_or bytes (at + 1) 0 ≡ x.noun
  noun_there = byte_at_offset bytes (entry_image x) others at 1 entry_first

  others_next : drop (at + length (entry_image x)) bytes ≡ flat_map entry_image xs ++ rest
  unfolding others
  others_next = next_at bytes (entry_image x) others at entry_first

-- The ranks read where entries begin are those of the entries.
ranks_same : (bytes rest : Bytes) (es : List Entry) (n at : ℕ) → drop at bytes ≡ flat_map entry_image es ++ rest
    → ranks_at bytes n (offsets entry_image at es) ≡ ranks_of n es
ranks_same bytes rest [] n at e = refl
ranks_same bytes rest (x ∷ xs) n at e =
    rw (
      verb_there bytes rest x xs at e,
      noun_there bytes rest x xs at e,
      ranks_same bytes rest xs (suc n) (at + length (entry_image x)) (others_next bytes rest x xs at e),
    ) refl

-- The nouns of the entries are bytes.
nouns_small : (bytes rest : Bytes) (es : List Entry) (at : ℕ) → ((i : ℕ) → get_or bytes i 0 < 256)
    → drop at bytes ≡ flat_map entry_image es ++ rest → All (λ x. x.noun < 256) es
nouns_small bytes rest [] at fits e = λ k d lt. absurd (omega arith)
nouns_small bytes rest (x ∷ xs) at fits e =
    let here : x.noun < 256 = rw (noun_there bytes rest x xs at e) at (fits (at + 1)) in
    All-cons (λ (y : Entry). y.noun < 256) x xs here
    (nouns_small bytes rest xs (at + length (entry_image x)) fits (others_next bytes rest x xs at e))

-- The entry of a rank.
record OfEntry (es : List Entry) (n k r : ℕ) : Type 0 where
  entry : Entry
  is : slice_get es k ≡ Some entry
  rank : r ≡ entry_rank (indexed_word entry.verb) (indexed_word entry.noun) (n + k)

entry_of_rank : (es : List Entry) (n k r : ℕ) → slice_get (ranks_of n es) k ≡ Some r → OfEntry es n k r
entry_of_rank [] n k r e = absurd (none-some r e)
entry_of_rank (x ∷ xs) n zero r e =
    let same = sym (same_Some _ r e) in
    record { entry = x; is = refl; rank = same ∙ ap (entry_rank (indexed_word x.verb) (indexed_word x.noun)) (sym (add-zero n)) }
entry_of_rank (x ∷ xs) n (suc k) r e =
    let o = entry_of_rank xs (suc n) k r e in
    let number : suc n + k ≡ n + suc k = omega arith in
    record { entry = o.entry; is = o.is; rank = o.rank ∙ ap (entry_rank (indexed_word o.entry.verb) (indexed_word o.entry.noun)) number }

rank_of_entry : (es : List Entry) (n k : ℕ) (x : Entry) → slice_get es k ≡ Some x
    → slice_get (ranks_of n es) k ≡ Some (entry_rank (indexed_word x.verb) (indexed_word x.noun) (n + k))
rank_of_entry [] n k x e = absurd (none-some x e)
rank_of_entry (y ∷ ys) n zero x e = rw (add-zero n, ← same_Some y x e) refl
rank_of_entry (y ∷ ys) n (suc k) x e =
    let number : suc n + k ≡ n + suc k = omega arith in
    rank_of_entry ys (suc n) k x e ∙ ap (λ (i : ℕ). Some (entry_rank (indexed_word x.verb) (indexed_word x.noun) i)) number

-- A rank gives the verb, the noun and the number.
parts_same : (v n e v' n' e' : ℕ) → entry_rank v n e ≡ entry_rank v' n' e' → n < 256 → e < 65536 → n' < 256 → e' < 65536
    → (v ≡ v') × ((n ≡ n') × (e ≡ e'))
parts_same v n e v' n' e' same a b c d =
    let third : e ≡ e' = omega (arith, same, a, b, c, d) in
    let second : n ≡ n' = omega (arith, same, third, a, c) in
    (omega (arith, same, second, third), (second, third))

-- ---- the first entry that matches ----

-- The first doesn't match, so it is a later one.
not_here : (n : ℕ) (x : Entry) (xs : List Entry) (verb noun e : ℕ) → matches verb noun x ≡ false
    → IsFound verb noun n (x ∷ xs) e → IsFound verb noun (suc n) xs e
not_here n x xs verb noun e differs f =
    elim (cases_eq e n) [
      | inl here ↦
          let place : e - n ≡ 0 = omega (arith, here) in
          let same = same_Some x f.entry (rw place at f.is) in
          absurd (false≢true (sym differs ∙ ap (matches verb noun) same ∙ f.matching))
      | inr other ↦
          let place : e - n ≡ suc (e - suc n) = omega (arith, f.reached, other) in
          record { reached = omega (arith, f.reached, other); entry = f.entry; is = rw place at f.is; matching = f.matching }
    ]

first_match_least : (verb noun n : ℕ) (es : List Entry) → IsLeast (IsFound verb noun n es) (first_match verb noun n es)
first_match_least verb noun n [] = λ e f. none-some f.entry f.is
first_match_least verb noun n (x ∷ xs) =
    elim (cases_Bool (matches verb noun x)) [
      | inl m ↦ rw m (found_here verb noun n x xs n m refl, λ e f. f.reached)
      | inr m ↦
          rw m (IsLeast-same (IsFound verb noun (suc n) xs) (IsFound verb noun n (x ∷ xs))
          (found_later verb noun n x xs) (λ e f. not_here n x xs verb noun e m f)
          (first_match verb noun (suc n) xs) (first_match_least verb noun (suc n) xs))
    ]

-- ---- in order ----

contains_at : {X : Type 0} (xs : List X) (k : ℕ) (x : X) → slice_get xs k ≡ Some x → Contains xs x
contains_at xs k x e = (k, slice_get_within xs k x e, get_or_from_slice_get xs k x x e)

at_contains : {X : Type 0} (xs : List X) (x : X) → Contains xs x → (k : ℕ) × (slice_get xs k ≡ Some x)
at_contains xs x c = (c.0, slice_get-get_or xs c.0 x c.1 ∙ ap Some c.2)

words_match : (x : Entry) (verb noun : ℕ) → is_match verb noun (indexed_word x.verb) (indexed_word x.noun) ≡ matches verb noun x
words_match x verb noun = rw (indexed_is_for x.verb verb, indexed_is_for x.noun noun) refl

module _ (es : List Entry) (ranks : List ℕ) (perm : IsPermutation (ranks_of 0 es) ranks) (small : All (λ x. x.noun < 256) es) (few : length es ≤ ENTRY_LIMIT)
    (verb from noun : ℕ) where
  -- The entry of a rank that matches.
  entry_found : (e : ℕ) → IsMatch ranks (is_match verb noun) from e → IsFound verb noun from (drop from es) e
  entry_found e m =
      let r = entry_rank m.verb m.noun e in
      let found = at_contains (ranks_of 0 es) r (Contains-permutation ranks (ranks_of 0 es) r (IsPermutation-sym (ranks_of 0 es) ranks perm) m.is) in
      let o = entry_of_rank es 0 found.0 r found.1 in
      let there = contains_at es found.0 o.entry o.is in
      let low = indexed_small o.entry.noun (All-contains (λ (x : Entry). x.noun < 256) es o.entry small there) in
      let short : found.0 < 65536 = omega (arith, slice_get_within es found.0 o.entry o.is, few) in
      let same = parts_same m.verb m.noun e (indexed_word o.entry.verb) (indexed_word o.entry.noun) (0 + found.0) o.rank m.low m.few low (omega (arith, short)) in
      let place : from + (e - from) ≡ found.0 = omega (arith, m.reached, same.1.1) in
      let kept = indexed_word o.entry.verb in
      let alike : is_match verb noun m.verb m.noun ≡ is_match verb noun kept (indexed_word o.entry.noun) =
      ap (λ (v : ℕ). is_match verb noun v m.noun) same.0 ∙ ap (λ (n : ℕ). is_match verb noun kept n) same.1.0 in
      record {
        reached = m.reached;
        entry = o.entry;
        is = slice_get-drop from es (e - from) ∙ ap (slice_get es) place ∙ o.is;
        matching = sym (words_match o.entry verb noun) ∙ (sym alike ∙ m.matching);
      }

  -- The rank of an entry that matches.
  rank_found : (e : ℕ) → IsFound verb noun from (drop from es) e → IsMatch ranks (is_match verb noun) from e
  rank_found e f =
      let place : e ≡ from + (e - from) = omega (arith, f.reached) in
      let is = ap (slice_get es) place ∙ sym (slice_get-drop from es (e - from)) ∙ f.is in
      let rank = λ (i : ℕ). entry_rank (indexed_word f.entry.verb) (indexed_word f.entry.noun) i in
      let number : 0 + e ≡ e = omega arith in
      let found = rank_of_entry es 0 e f.entry is ∙ ap (λ (i : ℕ). Some (rank i)) number in
      record {
        reached = f.reached;
        verb = indexed_word f.entry.verb;
        noun = indexed_word f.entry.noun;
        low = indexed_small f.entry.noun (All-contains (λ (x : Entry). x.noun < 256) es f.entry small (contains_at es e f.entry is));
        few = omega (arith, slice_get_within es e f.entry is, few);
        is = Contains-permutation (ranks_of 0 es) ranks (rank e) perm (contains_at (ranks_of 0 es) e (rank e) found);
        matching = words_match f.entry verb noun ∙ f.matching;
      }

  pub least_match : (r : Option ℕ) → IsLeast (IsMatch ranks (is_match verb noun) from) r → r ≡ first_match verb noun from (drop from es)
  least_match r least =
      one_least (IsFound verb noun from (drop from es)) r (first_match verb noun from (drop from es))
      (IsLeast-same (IsMatch ranks (is_match verb noun) from) (IsFound verb noun from (drop from es)) entry_found rank_found r least)
      (first_match_least verb noun from (drop from es))

offsets_long : (es : List Entry) (at : ℕ) → length (offsets entry_image at es) ≡ length es
offsets_long [] at = refl
offsets_long (x ∷ xs) at = ap suc (offsets_long xs (at + length (entry_image x)))

pub next_match_is : (bytes rest : Bytes) (es : List Entry) (at : ℕ) (order : Order)
    → IsOrder bytes (offsets entry_image at es) order → drop at bytes ≡ flat_map entry_image es ++ rest
    → (verb from noun : ℕ) (r : Option ℕ) → IsLeast (IsMatch order.ranks.items (is_match verb noun) from) r → r ≡ first_match verb noun from (drop from es)
next_match_is bytes rest es at order o e verb from noun r least =
    least_match es order.ranks.items
    (subst (λ (rs : List ℕ). IsPermutation rs order.ranks.items) (ranks_same bytes rest es 0 at e) o.same)
    (nouns_small bytes rest es at o.fits e) (omega (arith, o.few, offsets_long es at)) verb from noun r least
