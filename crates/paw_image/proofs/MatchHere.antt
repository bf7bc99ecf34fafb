-- Where the entry at hand matches, it is the next one that does; where it isn't there, none comes after it.
use Rattle.std.proofs.Common.{◌≡◌, ℕ, zero, suc, List, [], ◌∷◌, drop, Option, Some, None, IsTrue, refl, sym, ap, ◌∙◌}
use Rattle.std.proofs.Common.{arith}
use Rattle.std.specs.Prelude.{slice_get, ◌&&◌}
use Rattle.std.specs.Option.{option_map}
use Rattle.std.proofs.lemmas.List.{drop_all}
use Rattle.std.proofs.lemmas.Option.{none-some, same_Some}
use Rattle.paw_game.specs.declared.parts.Entry.{Entry}
use Rattle.paw_game.specs.Game.{GameLists}
use Rattle.paw_game.specs.Tables.{entry_at, head_at, is_for, matches, table_at}
use Rattle.paw_game.specs.inner.Tables.{match_at}
use Rattle.paw_game.proofs.Matches.{match-is, match-step}

abbrev words_of : Option Entry → Option (ℕ × ℕ)
words_of found = option_map {U = ℕ × ℕ} (λ (en : Entry). (en.verb, en.noun)) found

by_entry : (g : GameLists) (t e verb noun own own_too : ℕ) (found : Option Entry) → entry_at g t e ≡ found
    → words_of found ≡ Some (own, own_too) → IsTrue (is_for own verb && is_for own_too noun) → match_at g t e verb noun ≡ Some e
by_entry g t e verb noun own own_too None is head h = absurd (none-some (own, own_too) head)
by_entry g t e verb noun own own_too (Some en) is head h =
    let same = same_Some (en.verb, en.noun) (own, own_too) head in
    let verbs = ap (λ (w : ℕ × ℕ). w.0) same in
    let nouns = ap (λ (w : ℕ × ℕ). w.1) same in
    let here : IsTrue (matches verb noun en) = rw (verbs, nouns) h in
    match-step g t e verb noun en is ∙ rw here refl

pub match_here : (g : GameLists) (t e verb noun own own_too : ℕ) → head_at g t e ≡ Some (own, own_too)
    → IsTrue (is_for own verb && is_for own_too noun) → match_at g t e verb noun ≡ Some e
match_here g t e verb noun own own_too head h = by_entry g t e verb noun own own_too (entry_at g t e) refl head h

none_behind : (n : ℕ) (es : List Entry) → words_of (slice_get es n) ≡ None → drop n es ≡ []
none_behind n [] h = drop_all n [] (omega arith)
none_behind zero (x ∷ xs) h = absurd (none-some (x.verb, x.noun) (sym h))
none_behind (suc n) (x ∷ xs) h = none_behind n xs h

pub no_match_behind : (g : GameLists) (t e verb noun : ℕ) → head_at g t e ≡ None → match_at g t e verb noun ≡ None
no_match_behind g t e verb noun h = rw (none_behind e (table_at g t) h) refl

-- An entry that matches is there.
pub match_has_head : (g : GameLists) (t from verb noun e : ℕ) → match_at g t from verb noun ≡ Some e → head_at g t e ≡ None → ⊥
match_has_head g t from verb noun e h none =
    let found = (match-is g t from verb noun e h).1 in
    let head : head_at g t e ≡ Some (found.0.verb, found.0.noun) = rw found.1 refl in
    none-some (found.0.verb, found.0.noun) (sym none ∙ head)
