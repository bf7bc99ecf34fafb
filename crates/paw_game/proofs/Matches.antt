-- The first entry that matches.
use Rattle.std.proofs.Common.{◌≡◌, ℕ, zero, suc, ◌+◌, ◌-◌, ◌<◌, ◌≤◌, List, [], ◌∷◌, length, drop, Some, None, IsTrue}
use Rattle.std.proofs.Common.{refl, ◌∙◌, inl, inr, zero-add}
use Rattle.std.proofs.Common.{suc-add, arith, if◌then◌else◌}
use Rattle.std.specs.Prelude.{slice_get}
use Rattle.std.proofs.lemmas.Bool.{cases_Bool}
use Rattle.std.proofs.lemmas.Option.{none-some, same_Some}
use Rattle.std.proofs.lemmas.List.{drop_all}
use Rattle.paw_base.specs.declared.limits.TheConstants.{ENTRY_LIMIT}
use Rattle.paw_game.specs.declared.parts.Entry.{Entry}
use Rattle.paw_game.specs.Game.{GameLists}
use Rattle.paw_game.specs.Valid.{Valid}
use Rattle.paw_game.specs.Tables.{entry_at, matches, table_at}
use Rattle.paw_game.specs.inner.Tables.{first_match, match_at, matches_at}
use Rattle.paw_game.proofs.ValidGames.{entry-small}

-- The entry that is found is one of these, and matches.
pub record IsFound (verb noun from : ℕ) (es : List Entry) (e : ℕ) : Type 0 where
  pub reached : from ≤ e
  pub entry : Entry
  pub is : slice_get es (e - from) ≡ Some entry
  pub matching : IsTrue (matches verb noun entry)

pub found_here : (verb noun from : ℕ) (en : Entry) (es : List Entry) (e : ℕ) → IsTrue (matches verb noun en) → from ≡ e → IsFound verb noun from (en ∷ es) e
found_here verb noun from en es e m h =
    let first : e - from ≡ 0 = omega arith in
    record { reached = omega arith; entry = en; is = rw first refl; matching = m }

pub found_later : (verb noun from : ℕ) (en : Entry) (es : List Entry) (e : ℕ) → IsFound verb noun (suc from) es e → IsFound verb noun from (en ∷ es) e
found_later verb noun from en es e f =
    let later : e - from ≡ suc (e - suc from) = omega (arith, f.reached) in
    record { reached = omega (arith, f.reached); entry = f.entry; is = rw later f.is; matching = f.matching }

pub first_match-found : (verb noun from : ℕ) (es : List Entry) (e : ℕ) → first_match verb noun from es ≡ Some e → IsFound verb noun from es e
first_match-found verb noun from [] e h = absurd (none-some e h)
first_match-found verb noun from (en ∷ es) e h =
    elim (cases_Bool (matches verb noun en)) [
      | inl m ↦ found_here verb noun from en es e m (same_Some from e (rw m at h))
      | inr m ↦ found_later verb noun from en es e (first_match-found verb noun (suc from) es e (rw m at h))
    ]

pub slice_get-drop : {X : Type 0} (n : ℕ) (xs : List X) (k : ℕ) → slice_get (drop n xs) k ≡ slice_get xs (n + k)
slice_get-drop zero xs k = rw zero-add refl
slice_get-drop (suc n) [] k = refl
slice_get-drop (suc n) (x ∷ xs) k = slice_get-drop n xs k ∙ rw suc-add refl

pub match-is : (g : GameLists) (t from verb noun e : ℕ) → match_at g t from verb noun ≡ Some e
    → (from ≤ e) × ((en : Entry) × (entry_at g t e ≡ Some en) × IsTrue (matches verb noun en))
match-is g t from verb noun e h =
    let f = first_match-found verb noun from (drop from (table_at g t)) e h in
    let place : from + (e - from) ≡ e = omega (arith, f.reached) in
    (f.reached, (f.entry, (rw (slice_get-drop from (table_at g t) (e - from), place) at f.is), f.matching))

pub match-small : (g : GameLists) → Valid g → (t from verb noun e : ℕ) → match_at g t from verb noun ≡ Some e
    → e < ENTRY_LIMIT
match-small g v t from verb noun e h =
    let f = match-is g t from verb noun e h in
    entry-small g v t e f.1.0 f.1.1

pub match-matches : (g : GameLists) (t from verb noun e : ℕ) → match_at g t from verb noun ≡ Some e → IsTrue (matches_at g t e verb noun)
match-matches g t from verb noun e h =
    let f = match-is g t from verb noun e h in
    rw f.1.1 f.1.2

-- One entry on: it is the one, or the next is looked at.
drop-at : {X : Type 0} (n : ℕ) (xs : List X) (x : X) → slice_get xs n ≡ Some x → drop n xs ≡ x ∷ drop (suc n) xs
drop-at n [] x h = absurd (none-some x h)
drop-at zero (y ∷ ys) x h = rw (same_Some y x h) refl
drop-at (suc n) (y ∷ ys) x h = drop-at n ys x h

pub match-step : (g : GameLists) (t from verb noun : ℕ) (en : Entry) → entry_at g t from ≡ Some en
    → match_at g t from verb noun ≡ (if matches verb noun en then Some from else match_at g t (suc from) verb noun)
match-step g t from verb noun en h = rw (drop-at from (table_at g t) en h) refl

pub match-past : (g : GameLists) (t from verb noun : ℕ) → length (table_at g t) ≤ from → match_at g t from verb noun ≡ None
match-past g t from verb noun h = rw (drop_all from (table_at g t) h) refl
