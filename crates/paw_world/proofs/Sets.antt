-- The sets of the places, as objects are added and moved.
use Rattle.std.proofs.Common.{◌≡◌, ◌≢◌, ℕ, ◌+◌, ◌<◌, inl, inr, List, [], length, sym, ap, ◌∙◌, subst, arith, set}
use Rattle.std.proofs.Common.{get_or, replicate, ◌/◌, ◌%◌}
use Rattle.std.specs.Prelude.{if◌then◌else◌, ◌==◌}
use Rattle.std.proofs.lemmas.Bool.{cases_eq, cases_lt}
use Rattle.std.proofs.lemmas.Bool.Decides.{nat_tests}
use Rattle.std.proofs.lemmas.List.{get_or-set_same, get_or-set_other, length-set, get_or-replicate, get_or_past}
use Rattle.std.proofs.lemmas.List.{get_or_default, length-replicate}
use Rattle.std.specs.Int.{bit_at}
use Rattle.std.proofs.lemmas.Nat.Bits.{bit_at-zero}
use Rattle.paw_base.specs.Bytes.{ObjectPlaces}
use Rattle.paw_base.specs.declared.limits.TheConstants.{OBJECT_LIMIT}
use Rattle.paw_world.specs.inner.ObjectSet.{member, Inserts, Removes}
use Rattle.paw_world.specs.inner.PlaceSets.{stands_in, AreSetsOf, ObjectSets}

-- 1 at the object's place, and 0 at every other.
abbrev pub at_place : ℕ → ℕ → ℕ
at_place q p = if q == p then 1 else 0

pub at_place_same : (q p : ℕ) → q ≡ p → at_place q p ≡ 1
at_place_same q p e = grind (arith, nat_tests)

pub at_place_other : (q p : ℕ) → q ≢ p → at_place q p ≡ 0
at_place_other q p e = grind (arith, nat_tests)

-- A set is written, and the others stay.
written_same : (sets : ObjectSets) (p q : ℕ) (words : List ℕ) (o : ℕ) → p < length sets → q ≡ p
    → stands_in (set sets p words) q o ≡ member words o
written_same sets p q words o within same =
    ap (λ (ws : List ℕ). member ws o) (ap (λ (j : ℕ). get_or (set sets p words) j []) same ∙ get_or-set_same sets p words [] within)

written_other : (sets : ObjectSets) (p q : ℕ) (words : List ℕ) (o : ℕ) → q ≢ p
    → stands_in (set sets p words) q o ≡ stands_in sets q o
written_other sets p q words o other = ap (λ (ws : List ℕ). member ws o) (get_or-set_other sets p q words [] other)

module _ (sets : ObjectSets) (n : ℕ) (places : ObjectPlaces) (sound : AreSetsOf sets n places) where
  -- One object more, number n, at place p.
  module _ (p : ℕ) (words : List ℕ) (small : p < 256) (more : n < OBJECT_LIMIT) (inserted : Inserts n (get_or sets p []) words) where
    here : n < length places
    here = omega (arith, sound.room)

    new_object : (q : ℕ) → q < 256 → stands_in (set sets p words) q n ≡ at_place (get_or (set places n p) n 0) q
    new_object q below = elim (cases_eq q p) [
      | inl same ↦ written_same sets p q words n (omega arith) same ∙ (inserted.inside ∙ sym (at_place_same _ q (get_or-set_same places n p 0 here ∙ sym same)))
      | inr other ↦ written_other sets p q words n other ∙ (sound.beyond q n below (omega arith) (omega arith)
          ∙ sym (at_place_other _ q (λ e. other (sym e ∙ get_or-set_same places n p 0 here))))
    ]

    older_object : (q o : ℕ) → q < 256 → o < 256 → o ≢ n → stands_in (set sets p words) q o ≡ stands_in sets q o
    older_object q o below fits other = elim (cases_eq q p) [
      | inl same ↦ written_same sets p q words o (omega arith) same ∙ (inserted.others o fits other ∙ ap (λ (j : ℕ). stands_in sets j o) (sym same))
      | inr apart ↦ written_other sets p q words o apart
    ]

    pub added : AreSetsOf (set sets p words) (n + 1) (set places n p)
    added = record {
      few = omega arith;
      room = length-set places n p ∙ sound.room;
      for_each = length-set sets p words ∙ sound.for_each;
      inside = λ q o below less. elim (cases_eq o n) [
        | inl same ↦ ap (stands_in (set sets p words) q) same ∙ (new_object q below ∙ ap (λ (j : ℕ). at_place (get_or (set places n p) j 0) q) (sym same))
        | inr other ↦ older_object q o below (omega arith) other ∙ (sound.inside q o below (omega arith)
            ∙ ap (λ (r : ℕ). at_place r q) (sym (get_or-set_other places n o p 0 other)))
      ];
      beyond = λ q o below past fits. older_object q o below fits (omega arith) ∙ sound.beyond q o below (omega arith) fits;
    }

  -- Object o moves from its place to p.
  module _ (o p : ℕ) (without moved : List ℕ) (small : p < 256) (from : get_or places o 0 < 256) (known : o < n)
      (removed : Removes o (get_or sets (get_or places o 0) []) without)
      (inserted : Inserts o (get_or (set sets (get_or places o 0) without) p []) moved) where
    -- Between the two writes the object is in no set, and each other object where it was.
    gone : (q : ℕ) → q < 256 → stands_in (set sets (get_or places o 0) without) q o ≡ 0
    gone q below = elim (cases_eq q (get_or places o 0)) [
      | inl same ↦ written_same sets _ q without o (omega arith) same ∙ removed.outside
      | inr other ↦ written_other sets _ q without o other ∙ (sound.inside q o below known ∙ at_place_other _ q (λ e. other (sym e)))
    ]

    stays_once : (q k : ℕ) → q < 256 → k < 256 → k ≢ o → stands_in (set sets (get_or places o 0) without) q k ≡ stands_in sets q k
    stays_once q k below fits other = elim (cases_eq q (get_or places o 0)) [
      | inl same ↦ written_same sets _ q without k (omega arith) same ∙ (removed.others k fits other ∙ ap (λ (j : ℕ). stands_in sets j k) (sym same))
      | inr apart ↦ written_other sets _ q without k apart
    ]

    still_all : length (set sets (get_or places o 0) without) ≡ 256
    still_all = length-set sets (get_or places o 0) without ∙ sound.for_each

    mover : (q : ℕ) → q < 256 → stands_in (set (set sets (get_or places o 0) without) p moved) q o ≡ at_place p q
    mover q below = elim (cases_eq q p) [
      | inl same ↦ written_same (set sets (get_or places o 0) without) p q moved o (omega (arith, still_all)) same
          ∙ (inserted.inside ∙ sym (at_place_same p q (sym same)))
      | inr other ↦ written_other (set sets (get_or places o 0) without) p q moved o other
          ∙ (gone q below ∙ sym (at_place_other p q (λ e. other (sym e))))
    ]

    stays : (q k : ℕ) → q < 256 → k < 256 → k ≢ o → stands_in (set (set sets (get_or places o 0) without) p moved) q k ≡ stands_in sets q k
    stays q k below fits other = elim (cases_eq q p) [
      | inl same ↦ written_same (set sets (get_or places o 0) without) p q moved k (omega (arith, still_all)) same
          ∙ (inserted.others k fits other ∙ (ap (λ (j : ℕ). stands_in (set sets (get_or places o 0) without) j k) (sym same) ∙ stays_once q k below fits other))
      | inr apart ↦ written_other (set sets (get_or places o 0) without) p q moved k apart ∙ stays_once q k below fits other
    ]

    pub relocated : AreSetsOf (set (set sets (get_or places o 0) without) p moved) n (set places o p)
    relocated = record {
      few = sound.few;
      room = length-set places o p ∙ sound.room;
      for_each = length-set (set sets (get_or places o 0) without) p moved ∙ still_all;
      inside = λ q k below less. elim (cases_eq k o) [
        | inl same ↦ ap (stands_in (set (set sets (get_or places o 0) without) p moved) q) same
            ∙ (mover q below ∙ ap (λ (r : ℕ). at_place r q) (sym (ap (λ (j : ℕ). get_or (set places o p) j 0) same
            ∙ get_or-set_same places o p 0 (omega arith))))
        | inr other ↦ stays q k below (omega arith) other ∙ (sound.inside q k below less
            ∙ ap (λ (r : ℕ). at_place r q) (sym (get_or-set_other places o k p 0 other)))
      ];
      beyond = λ q k below past fits. stays q k below fits (omega arith) ∙ sound.beyond q k below past fits;
    }

-- With no objects all sets are empty.
empty_word : (i : ℕ) → get_or (replicate {A = ℕ} 4 0) i 0 ≡ 0
empty_word i = elim (cases_lt i 4) [
  | inl less ↦ get_or-replicate {A = ℕ} 4 i 0 0 less
  | inr past ↦ get_or_past (replicate {A = ℕ} 4 0) i 0 past
]

no_member : (o : ℕ) → member (replicate {A = ℕ} 4 0) o ≡ 0
no_member o = ap (λ (n : ℕ). bit_at n (o % 64)) (empty_word (o / 64)) ∙ bit_at-zero (o % 64)

pub no_sets : (places : ObjectPlaces) → length places ≡ OBJECT_LIMIT → AreSetsOf (replicate 256 (replicate {A = ℕ} 4 0)) 0 places
no_sets places room = record {
  few = omega arith;
  room = room;
  for_each = length-replicate 256 (replicate {A = ℕ} 4 0);
  inside = λ q o below none. absurd (omega arith);
  beyond = λ q o below past fits. ap (λ (ws : List ℕ). member ws o) (get_or-replicate 256 q (replicate {A = ℕ} 4 0) [] below) ∙ no_member o;
}

-- The same where the set that is read comes at any default.
pub added_at : (sets : ObjectSets) (n : ℕ) (places : ObjectPlaces) (p : ℕ) (d words : List ℕ) → AreSetsOf sets n places → p < 256 → n < OBJECT_LIMIT
    → Inserts n (get_or sets p d) words → AreSetsOf (set sets p words) (n + 1) (set places n p)
added_at sets n places p d words sound small more inserted =
    let P : List ℕ → Type 0 = λ old. Inserts n old words in
    added sets n places sound p words small more (subst P (get_or_default sets p d [] (omega (arith, sound.for_each))) inserted)

pub relocated_at : (sets : ObjectSets) (n : ℕ) (places : ObjectPlaces) (o p : ℕ) (d e without moved : List ℕ) → AreSetsOf sets n places
    → p < 256 → get_or places o 0 < 256 → o < n → Removes o (get_or sets (get_or places o 0) d) without
    → Inserts o (get_or (set sets (get_or places o 0) without) p e) moved
    → AreSetsOf (set (set sets (get_or places o 0) without) p moved) n (set places o p)
relocated_at sets n places o p d e without moved sound small from known removed inserted =
    let Out : List ℕ → Type 0 = λ old. Removes o old without in
    let In : List ℕ → Type 0 = λ old. Inserts o old moved in
    let still : length (set sets (get_or places o 0) without) ≡ 256 = length-set sets (get_or places o 0) without ∙ sound.for_each in
    relocated sets n places sound o p without moved small from known
    (subst Out (get_or_default sets (get_or places o 0) d [] (omega (arith, sound.for_each))) removed)
    (subst In (get_or_default (set sets (get_or places o 0) without) p e [] (omega arith)) inserted)
