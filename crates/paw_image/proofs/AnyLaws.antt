-- The list that says which entry comes next that matches any verb and any noun.
use Rattle.std.proofs.Common.{◌≡◌, ℕ, ◌+◌, ◌<◌, ◌≤◌, List, [], length, get_or, Some, None, refl, sym, ap, subst}
use Rattle.std.proofs.Common.{◌∙◌, inl, inr, arith}
use Rattle.std.specs.Prelude.{slice_get}
use Rattle.std.specs.List.Sorted.{IsNonDecreasing}
use Rattle.std.proofs.lemmas.Bool.{cases_lt}
use Rattle.std.proofs.lemmas.List.{get_or_default}
use Rattle.std.proofs.lemmas.Option.{slice_get_past, slice_get-get_or}
use Rattle.paw_base.specs.declared.words.TheConstants.{NO_WORD}
use Rattle.paw_image.specs.inner.Orders.{is_pair, entry_rank, IsLeast, IsMatch, IsNextAny}
use Rattle.paw_image.proofs.OrderLaws.{IsLeast-same, pair_is}

-- A match of any verb and any noun, of which the rank stands before this index.
abbrev pub IsMatchBefore : List ℕ → ℕ → ℕ → ℕ → Type 0
IsMatchBefore ranks index from e = (m : IsMatch ranks (is_pair NO_WORD NO_WORD) from e) × (m.is.0 < index)

-- A list says which of these comes next.
abbrev pub IsNextAnyBefore : List ℕ → ℕ → List ℕ → Type 0
IsNextAnyBefore ranks index next = (from : ℕ) → IsLeast (IsMatchBefore ranks index from) (slice_get next from)

pub none_said : (ranks : List ℕ) → IsNextAnyBefore ranks 0 []
none_said ranks from = λ e m. omega (arith, m.1)

pub all_said : (ranks next : List ℕ) → IsNextAnyBefore ranks (length ranks) next → IsNextAny ranks next
all_said ranks next said from =
    IsLeast-same (IsMatchBefore ranks (length ranks) from) (IsMatch ranks (is_pair NO_WORD NO_WORD) from) (λ e m. m.0) (λ e m. (m, m.is.1))
    (slice_get next from) (said from)

module _ (ranks : List ℕ) (up : IsNonDecreasing ranks) (i r : ℕ) (lt : i < length ranks) (here : r ≡ get_or ranks i r)
    (next : List ℕ) (said : IsNextAnyBefore ranks i next) where
  rank_here : (from e : ℕ) (m : IsMatch ranks (is_pair NO_WORD NO_WORD) from e) → m.is.0 ≡ i → r ≡ entry_rank NO_WORD NO_WORD e
  rank_here from e m at =
      let rank = entry_rank m.verb m.noun e in
      here ∙ get_or_default ranks i r rank lt ∙ ap (λ (k : ℕ). get_or ranks k rank) (sym at) ∙ m.is.2
      ∙ pair_is ranks NO_WORD NO_WORD from e m

  -- Another rank changes nothing.
  pub other_rank : r < entry_rank NO_WORD NO_WORD 0 → IsNextAnyBefore ranks (i + 1) next
  other_rank low from =
      IsLeast-same (IsMatchBefore ranks i from) (IsMatchBefore ranks (i + 1) from) (λ e m. (m.0, omega (arith, m.1)))
      (λ e m. (
        m.0,
        elim (cases_lt m.0.is.0 i) [
          | inl before ↦ before
          | inr le ↦ absurd (omega (arith, rank_here from e m.0 (omega (arith, le, m.1)), low))
        ],
      ))
      (slice_get next from) (said from)

  module _ (entry : ℕ) (few : entry < 65536) (is : r ≡ entry_rank NO_WORD NO_WORD entry) where
    -- A match before is not above the one here.
    not_above : (from e : ℕ) → IsMatchBefore ranks i from e → e ≤ entry
    not_above from e m =
        let rank = entry_rank m.0.verb m.0.noun e in
        let same : r ≡ get_or ranks i rank = here ∙ get_or_default ranks i r rank lt in
        omega (arith, up m.0.is.0 i rank (omega (arith, m.1)) lt, m.0.is.2, same, pair_is ranks NO_WORD NO_WORD from e m.0, is)

    own_match : (from : ℕ) → from ≤ entry → IsMatchBefore ranks (i + 1) from entry
    own_match from le = (
      record {
        reached = le;
        verb = NO_WORD;
        noun = NO_WORD;
        low = omega arith;
        few = few;
        is = (i, lt, sym (get_or_default ranks i r (entry_rank NO_WORD NO_WORD entry) lt) ∙ sym here ∙ is);
        matching = refl;
      },
      omega arith,
    )

    -- One that doesn't stand before stands here.
    own_entry : (from e : ℕ) (m : IsMatchBefore ranks (i + 1) from e) → i ≤ m.0.is.0 → e ≡ entry
    own_entry from e m le = omega (arith, rank_here from e m.0 (omega (arith, le, m.1)), is)

    said_some : (from : ℕ) → from < length next → IsLeast (IsMatchBefore ranks i from) (Some (get_or next from 0))
    said_some from within = subst (IsLeast (IsMatchBefore ranks i from)) (slice_get-get_or next from 0 within) (said from)

    said_none : (from : ℕ) → length next ≤ from → IsLeast (IsMatchBefore ranks i from) None
    said_none from past = subst (IsLeast (IsMatchBefore ranks i from)) (slice_get_past next from past) (said from)

    -- The list doesn't go on past the entry.
    pub not_longer : length next ≤ entry + 1
    not_longer =
        elim (cases_lt (entry + 1) (length next)) [
          | inl within ↦
              let least = said_some (entry + 1) within in
              absurd (omega (arith, least.0.0.reached, not_above (entry + 1) (get_or next (entry + 1) 0) least.0))
          | inr le ↦ le
        ]

    module _ (longer : List ℕ) (long : length longer ≡ entry + 1)
        (kept : (k d : ℕ) → k < entry + 1 → k < length next → get_or longer k d ≡ get_or next k d)
        (filled : (k d : ℕ) → length next ≤ k → k < entry + 1 → get_or longer k d ≡ entry) where
      as_before : (from : ℕ) → from < length next → IsLeast (IsMatchBefore ranks (i + 1) from) (slice_get longer from)
      as_before from within =
          let least = said_some from within in
          let there : slice_get longer from ≡ Some (get_or next from 0) =
          slice_get-get_or longer from 0 (omega (arith, within, not_longer, long)) ∙ ap Some (kept from 0 (omega (arith, within, not_longer)) within) in
          subst (IsLeast (IsMatchBefore ranks (i + 1) from)) (sym there) (
            (least.0.0, omega (arith, least.0.1)),
            λ f m. elim (cases_lt m.0.is.0 i) [
              | inl before ↦ least.1 f (m.0, before)
              | inr le ↦ omega (arith, own_entry from f m le, not_above from (get_or next from 0) least.0)
            ],
          )

      as_here : (from : ℕ) → length next ≤ from → from < entry + 1 → IsLeast (IsMatchBefore ranks (i + 1) from) (slice_get longer from)
      as_here from past within =
          let there : slice_get longer from ≡ Some entry =
          slice_get-get_or longer from 0 (omega (arith, within, long)) ∙ ap Some (filled from 0 past within) in
          subst (IsLeast (IsMatchBefore ranks (i + 1) from)) (sym there) (
            own_match from (omega (arith, within)),
            λ f m. elim (cases_lt m.0.is.0 i) [
              | inl before ↦ absurd (said_none from past f (m.0, before))
              | inr le ↦ omega (arith, own_entry from f m le)
            ],
          )

      none_behind : (from : ℕ) → length next ≤ from → entry + 1 ≤ from → IsLeast (IsMatchBefore ranks (i + 1) from) (slice_get longer from)
      none_behind from past after =
          subst (IsLeast (IsMatchBefore ranks (i + 1) from)) (sym (slice_get_past longer from (omega (arith, long, after))))
          (λ f m. elim (cases_lt m.0.is.0 i) [
            | inl before ↦ said_none from past f (m.0, before)
            | inr le ↦ omega (arith, own_entry from f m le, m.0.reached, after)
          ])

      -- Filled up with the entry, the list says that it comes next.
      pub filled_up : IsNextAnyBefore ranks (i + 1) longer
      filled_up from =
          elim (cases_lt from (length next)) [
            | inl within ↦ as_before from within
            | inr past ↦ elim (cases_lt from (entry + 1)) [
              | inl within ↦ as_here from past within
              | inr after ↦ none_behind from past after
            ]
          ]
