-- What is looked up in order of verb and noun is the first entry that matches.
use Rattle.std.proofs.Common.{◌≡◌, ℕ, suc, ◌+◌, ◌-◌, ◌<◌, ◌≤◌, ◌&&◌, ◌||◌, Bool, true, false, eqb, ltb}
use Rattle.std.proofs.Common.{List, [], ◌∷◌, length, get_or, take, drop, min, Option, Some, None, IfSome, refl}
use Rattle.std.proofs.Common.{sym, ap, subst, ◌∙◌, inl, inr, arith, length-take, length-drop}
use Rattle.std.specs.Prelude.{◌⊎◌, ◌/◌, ◌%◌}
use Rattle.std.specs.List.Sorted.{IsNonDecreasing, IsPartitionPoint}
use Rattle.std.proofs.lemmas.Bool.{cases_lt, eqb-true, eq-eqb, ltb-true, ltb-false, and_parts}
use Rattle.std.proofs.lemmas.List.{get_or-take, get_or-drop, get_or_default}
use Rattle.std.proofs.lemmas.List.Sorted.{IsNonDecreasingBy-take, IsNonDecreasingBy-drop}
use Rattle.paw_base.specs.Bytes.{Bytes}
use Rattle.paw_base.specs.declared.words.TheConstants.{NO_WORD}
use Rattle.paw_image.specs.inner.Orders.{is_indexed_for, is_match, is_pair, lower, entry_rank, ranks_at, AreStarts}
use Rattle.paw_image.specs.inner.Orders.{IsLeast, IsMatch, IsRun, IsStart}
use Rattle.paw_image.proofs.Stands.{and_true}

-- ---- the first number with a property ----

pub IsLeast-same : (P Q : ℕ → Type 0) → ((e : ℕ) → P e → Q e) → ((e : ℕ) → Q e → P e) → (r : Option ℕ) → IsLeast P r → IsLeast Q r
IsLeast-same P Q to from None h = λ e q. h e (from e q)
IsLeast-same P Q to from (Some e) h = (to e h.0, λ f q. h.1 f (from f q))

-- Only one number is the first with a property.
pub one_least : (P : ℕ → Type 0) (r s : Option ℕ) → IsLeast P r → IsLeast P s → r ≡ s
one_least P None None h k = refl
one_least P None (Some e) h k = absurd (h e k.0)
one_least P (Some e) None h k = absurd (k e h.0)
one_least P (Some e) (Some f) h k = let same : e ≡ f = omega (arith, h.1 f k.0, k.1 e h.0) in ap Some same

-- The first with one property or the other.
lower_least : (P Q : ℕ → Type 0) (r s : Option ℕ) → IsLeast P r → IsLeast Q s → IsLeast (λ e. P e ⊎ Q e) (lower r s)
lower_least P Q None None h k = λ e either. elim either [ inl p ↦ h e p | inr q ↦ k e q ]
lower_least P Q None (Some f) h k = (inr k.0, λ e either. elim either [ inl p ↦ absurd (h e p) | inr q ↦ k.1 e q ])
lower_least P Q (Some e) None h k = (inl h.0, λ f either. elim either [ inl p ↦ h.1 f p | inr q ↦ absurd (k f q) ])
lower_least P Q (Some e) (Some f) h k =
    let either_one : P (min e f) ⊎ Q (min e f) = elim (cases_lt e f) [
      | inl lt ↦ let is : e ≡ min e f = omega arith in inl (subst P is h.0)
      | inr le ↦ let is : f ≡ min e f = omega arith in inr (subst Q is k.0)
    ] in
    (either_one, λ g either. elim either [ inl p ↦ omega (arith, h.1 g p) | inr q ↦ omega (arith, k.1 g q) ])

-- ---- one test or another ----

or_left : (a b : Bool) → a ≡ true → (a || b) ≡ true
or_left a b e = rw e refl

or_right : (a b : Bool) → b ≡ true → (a || b) ≡ true
or_right true b e = refl
or_right false b e = e

or_cases : (a b : Bool) → (a || b) ≡ true → (a ≡ true) ⊎ (b ≡ true)
or_cases true b e = inl refl
or_cases false b e = inr e

-- A match by one test is one by another, where that passes.
matching_by : (ranks : List ℕ) (p q : ℕ → ℕ → Bool) (from e : ℕ) (m : IsMatch ranks p from e) → q m.verb m.noun ≡ true → IsMatch ranks q from e
matching_by ranks p q from e m passes =
    record { reached = m.reached; verb = m.verb; noun = m.noun; low = m.low; few = m.few; is = m.is; matching = passes }

IsLeast-test : (ranks : List ℕ) (p q : ℕ → ℕ → Bool) → ((v n : ℕ) → p v n ≡ q v n) → (from : ℕ) (r : Option ℕ)
    → IsLeast (IsMatch ranks p from) r → IsLeast (IsMatch ranks q from) r
IsLeast-test ranks p q same from r =
    IsLeast-same (IsMatch ranks p from) (IsMatch ranks q from)
    (λ e m. matching_by ranks p q from e m (sym (same m.verb m.noun) ∙ m.matching))
    (λ e m. matching_by ranks q p from e m (same m.verb m.noun ∙ m.matching))
    r

-- The first that passes one test or the other.
either_least : (ranks : List ℕ) (p q : ℕ → ℕ → Bool) (from : ℕ) (r s : Option ℕ) → IsLeast (IsMatch ranks p from) r → IsLeast (IsMatch ranks q from) s
    → IsLeast (IsMatch ranks (λ v n. p v n || q v n) from) (lower r s)
either_least ranks p q from r s h k =
    let both = λ (v n : ℕ). p v n || q v n in
    IsLeast-same (λ e. IsMatch ranks p from e ⊎ IsMatch ranks q from e) (IsMatch ranks both from)
    (λ e either. elim either [
      | inl m ↦ matching_by ranks p both from e m (or_left (p m.verb m.noun) (q m.verb m.noun) m.matching)
      | inr m ↦ matching_by ranks q both from e m (or_right (p m.verb m.noun) (q m.verb m.noun) m.matching)
    ])
    (λ e m. elim (or_cases (p m.verb m.noun) (q m.verb m.noun) m.matching) [
      | inl t ↦ inl (matching_by ranks both p from e m t)
      | inr t ↦ inr (matching_by ranks both q from e m t)
    ])
    (lower r s) (lower_least (IsMatch ranks p from) (IsMatch ranks q from) r s h k)

-- ---- where the ranks of a verb begin ----

pub ranks_long : (bytes : Bytes) (n : ℕ) (ps : List ℕ) → length (ranks_at bytes n ps) ≡ length ps
ranks_long bytes n [] = refl
ranks_long bytes n (p ∷ ps) = ap suc (ranks_long bytes (suc n) ps)

-- The ranks of a verb end where those of the next one begin.
pub starts_rise : (ranks : List ℕ) (verb start end : ℕ) → IsStart ranks verb start → IsStart ranks (verb + 1) end → start ≤ end
starts_rise ranks verb start end s e =
    elim (cases_lt end start) [
      | inl before ↦ absurd (omega (arith, s.parts.0 end 0 (omega arith) before, e.parts.1 end 0 (omega arith) (omega (arith, s.within))))
      | inr le ↦ le
    ]

-- Between which offsets the ranks of a verb stand.
pub record RunsAt (ranks : List ℕ) (verb start end : ℕ) : Type 0 where
  pub starts : IsStart ranks verb start
  pub ends : IsStart ranks (verb + 1) end
  pub rise : start ≤ end

pub runs_at : (ranks starts : List ℕ) (verb : ℕ) → AreStarts ranks starts → verb < 256
    → RunsAt ranks verb (get_or starts verb 0) (get_or starts (verb + 1) 0)
runs_at ranks starts verb are low =
    let begins = are.each verb (omega arith) in
    let ends = are.each (verb + 1) (omega arith) in
    record { starts = begins; ends = ends; rise = starts_rise ranks verb (get_or starts verb 0) (get_or starts (verb + 1) 0) begins ends }

module _ (ranks : List ℕ) (up : IsNonDecreasing ranks) (verb start end : ℕ) (s : IsStart ranks verb start) (e : IsStart ranks (verb + 1) end) where
  run : List ℕ
  run = take (end - start) (drop start ranks)

  in_run : (k d : ℕ) → k < length run → (start + k < end) × (get_or run k d ≡ get_or ranks (start + k) d)
  unfolding run
  in_run k d lt =
      let long = length-take (end - start) (drop start ranks) in
      (omega (arith, long), get_or-take (end - start) (drop start ranks) k d (omega (arith, long)) ∙ get_or-drop start ranks k d)

  pub run_is : IsRun ranks verb (take (end - start) (drop start ranks))
  unfolding run
  run_is = record {
    rises = IsNonDecreasingBy-take (λ r. r) (end - start) (drop start ranks) (IsNonDecreasingBy-drop (λ r. r) start ranks up);
    inside = λ r p. let here = in_run p.0 r p.1 in (start + p.0, omega (arith, here.0, e.within), sym here.1 ∙ p.2);
    whole = λ r p least below.
        let after : start ≤ p.0 = elim (cases_lt p.0 start) [
          | inl before ↦ absurd (omega (arith, rw p.2 at (s.parts.0 p.0 r (omega arith) before), least))
          | inr le ↦ le
        ] in
        let before : p.0 < end = elim (cases_lt p.0 end) [
          | inl lt ↦ lt
          | inr past ↦ absurd (omega (arith, rw p.2 at (e.parts.1 p.0 r past p.1), below))
        ] in
        let long = length-take (end - start) (drop start ranks) in
        let rest = length-drop start ranks in
        let place : start + (p.0 - start) ≡ p.0 = omega (arith, after) in (
          p.0 - start,
          omega (arith, long, rest, after, before, e.within),
          get_or-take (end - start) (drop start ranks) (p.0 - start) r (omega (arith, after, before))
              ∙ get_or-drop start ranks (p.0 - start) r ∙ ap (λ (i : ℕ). get_or ranks i r) place ∙ p.2,
        );
  }

-- ---- in ranks that rise ----

-- The rank of a match is that of the pair, with its number.
pub pair_is : (ranks : List ℕ) (verb noun from e : ℕ) (m : IsMatch ranks (is_pair verb noun) from e) → entry_rank m.verb m.noun e ≡ entry_rank verb noun e
pair_is ranks verb noun from e m =
    let both = and_parts (eqb m.verb verb) (eqb m.noun noun) m.matching in
    rw (eqb-true m.verb verb both.0, eqb-true m.noun noun both.1) refl

module _ (ranks : List ℕ) (verb noun from at : ℕ) (up : IsNonDecreasing ranks) (small : noun < 256) (few : from < 65536)
    (parted : IsPartitionPoint (λ r. ltb r (entry_rank verb noun from) ≡ true) (λ r. ltb r (entry_rank verb noun from) ≡ false) ranks at) where
  -- A match stands not before the number that was searched from.
  not_before : (e : ℕ) (m : IsMatch ranks (is_pair verb noun) from e) → at ≤ m.is.0
  not_before e m =
      elim (cases_lt m.is.0 at) [
        | inl before ↦
            let rank = entry_rank m.verb m.noun e in
            let low = ltb-true rank (entry_rank verb noun from) (rw m.is.2 at (parted.0 m.is.0 rank (omega arith) before)) in
            absurd (omega (arith, low, pair_is ranks verb noun from e m, m.reached))
        | inr le ↦ le
      ]

  pub none_past : length ranks ≤ at → IsLeast (IsMatch ranks (is_pair verb noun) from) None
  none_past past = λ e m. omega (arith, not_before e m, m.is.1)

  module _ (r : ℕ) (lt : at < length ranks) (is : r ≡ get_or ranks at r) where
    at_least : entry_rank verb noun from ≤ r
    at_least = let low = ltb-false _ _ (parted.1 at r (omega arith) lt) in rw (← is) at low

    -- The rank there is no later than that of a match.
    no_later : (e : ℕ) (m : IsMatch ranks (is_pair verb noun) from e) → r ≤ entry_rank verb noun e
    no_later e m =
        let rank = entry_rank m.verb m.noun e in
        let here : r ≡ get_or ranks at rank = is ∙ get_or_default ranks at r rank lt in
        omega (arith, up at m.is.0 rank (not_before e m) m.is.1, here, m.is.2, pair_is ranks verb noun from e m)

    pub first_is : r / 65536 ≡ entry_rank verb noun from / 65536 → IsLeast (IsMatch ranks (is_pair verb noun) from) (Some (r % 65536))
    first_is same =
        let whole : r ≡ entry_rank verb noun (r % 65536) = omega (arith, same, few) in (
          record {
            reached = omega (arith, at_least, whole);
            verb = verb;
            noun = noun;
            low = small;
            few = omega arith;
            is = (at, lt, sym (get_or_default ranks at r (entry_rank verb noun (r % 65536)) lt) ∙ sym is ∙ whole);
            matching = and_true (eqb verb verb) (eqb noun noun) (eq-eqb verb verb refl) (eq-eqb noun noun refl);
          },
          λ f m. omega (arith, no_later f m, whole),
        )

    pub other_is : (r / 65536 ≡ entry_rank verb noun from / 65536 → ⊥) → IsLeast (IsMatch ranks (is_pair verb noun) from) None
    other_is other = λ e m. other (omega (arith, at_least, no_later e m, m.few, few))

-- The first rank is above those of the pair.
pub all_above : (ranks : List ℕ) (verb noun from r : ℕ) → IsNonDecreasing ranks → 0 < length ranks → r ≡ get_or ranks 0 r
    → entry_rank verb noun 65535 < r → IsLeast (IsMatch ranks (is_pair verb noun) from) None
all_above ranks verb noun from r up some is above = λ e m.
    let rank = entry_rank m.verb m.noun e in
    let first : r ≡ get_or ranks 0 rank = is ∙ get_or_default ranks 0 r rank some in
    omega (arith, up 0 m.is.0 rank (omega arith) m.is.1, first, m.is.2, pair_is ranks verb noun from e m, m.few, above)

-- ---- in the whole order ----

-- What is first among the ranks of a verb is first in the whole order.
pub least_in_run : (ranks run : List ℕ) (verb noun from : ℕ) → IsRun ranks verb run → (r : Option ℕ) → IsLeast (IsMatch run (is_pair verb noun) from) r
    → IsLeast (IsMatch ranks (is_pair verb noun) from) r
least_in_run ranks run verb noun from is r least =
    IsLeast-same (IsMatch run (is_pair verb noun) from) (IsMatch ranks (is_pair verb noun) from)
    (λ e m. record {
      reached = m.reached;
      verb = m.verb;
      noun = m.noun;
      low = m.low;
      few = m.few;
      is = is.inside (entry_rank m.verb m.noun e) m.is;
      matching = m.matching;
    })
    (λ e m.
    let same = eqb-true m.verb verb (and_parts (eqb m.verb verb) (eqb m.noun noun) m.matching).0 in
    record {
      reached = m.reached;
      verb = m.verb;
      noun = m.noun;
      low = m.low;
      few = m.few;
      is = is.whole (entry_rank m.verb m.noun e) m.is (omega (arith, same)) (omega (arith, same, m.low, m.few));
      matching = m.matching;
    })
    r least

pair_or_pair : (a m n : Bool) → ((a && m) || (a && n)) ≡ (a && (m || n))
pair_or_pair true m n = refl
pair_or_pair false m n = refl

-- The noun of an entry matches where it was kept for any noun, or is this one.
pub least_of_any : (ranks run : List ℕ) (verb noun from : ℕ) → IsRun ranks verb run → (none same : Option ℕ)
    → IsLeast (IsMatch ranks (is_pair verb NO_WORD) from) none → IsLeast (IsMatch run (is_pair verb noun) from) same
    → IsLeast (IsMatch ranks (λ v n. eqb v verb && is_indexed_for n noun) from) (lower none same)
least_of_any ranks run verb noun from is none same h k =
    IsLeast-test ranks (λ v n. is_pair verb NO_WORD v n || is_pair verb noun v n) (λ v n. eqb v verb && is_indexed_for n noun)
    (λ v n. pair_or_pair (eqb v verb) (eqb n NO_WORD) (eqb n noun)) from (lower none same)
    (either_least ranks (is_pair verb NO_WORD) (is_pair verb noun) from none same h
    (least_in_run ranks run verb noun from is same k))

-- The same, where both were found among the ranks of the verb.
pub least_of_nouns : (ranks run : List ℕ) (verb noun from : ℕ) → IsRun ranks verb run → (none same : Option ℕ)
    → IsLeast (IsMatch run (is_pair verb NO_WORD) from) none → IsLeast (IsMatch run (is_pair verb noun) from) same
    → IsLeast (IsMatch ranks (λ v n. eqb v verb && is_indexed_for n noun) from) (lower none same)
least_of_nouns ranks run verb noun from is none same h k =
    least_of_any ranks run verb noun from is none same (least_in_run ranks run verb NO_WORD from is none h) k

lower_same : (r : Option ℕ) → lower r r ≡ r
lower_same None = refl
lower_same (Some e) = let same : min e e ≡ e = omega arith in ap Some same

-- With no noun those of any noun are all.
pub least_of_no_noun : (ranks run : List ℕ) (verb noun from : ℕ) → IsRun ranks verb run → (none : Option ℕ) → noun ≡ NO_WORD
    → IsLeast (IsMatch run (is_pair verb NO_WORD) from) none → IsLeast (IsMatch ranks (λ v n. eqb v verb && is_indexed_for n noun) from) none
least_of_no_noun ranks run verb noun from is none e h =
    subst (IsLeast (IsMatch ranks (λ v n. eqb v verb && is_indexed_for n noun) from)) (lower_same none)
    (least_of_nouns ranks run verb noun from is none none h (subst (λ n. IsLeast (IsMatch run (is_pair verb n) from) none) (sym e) h))

one_of_two : (a b m : Bool) → ((a && m) || (b && m)) ≡ ((a || b) && m)
one_of_two true b true = refl
one_of_two true true false = refl
one_of_two true false false = refl
one_of_two false b m = refl

-- The verb of an entry matches likewise.
pub least_of_verbs : (ranks : List ℕ) (verb noun from : ℕ) (none same : Option ℕ)
    → IsLeast (IsMatch ranks (λ v n. eqb v NO_WORD && is_indexed_for n noun) from) none
    → IsLeast (IsMatch ranks (λ v n. eqb v verb && is_indexed_for n noun) from) same
    → IsLeast (IsMatch ranks (is_match verb noun) from) (lower none same)
least_of_verbs ranks verb noun from none same h k =
    let with = λ (w v n : ℕ). eqb v w && is_indexed_for n noun in
    IsLeast-test ranks (λ v n. with NO_WORD v n || with verb v n) (is_match verb noun)
    (λ v n. one_of_two (eqb v NO_WORD) (eqb v verb) (is_indexed_for n noun)) from (lower none same)
    (either_least ranks (with NO_WORD) (with verb) from none same h k)

-- What was found of the entries not below a number is not below it.
pub least_reached : (ranks : List ℕ) (has : ℕ → ℕ → Bool) (from : ℕ) (r : Option ℕ)
    → IsLeast (IsMatch ranks has from) r → IfSome r (λ e. from ≤ e)
least_reached ranks has from None least = tt
least_reached ranks has from (Some e) least = least.0.reached
