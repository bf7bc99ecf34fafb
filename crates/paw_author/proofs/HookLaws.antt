-- Places that are marked and rows of names, one unit after another.
use Rattle.std.proofs.Common.{◌≡◌, ℕ, ◌<◌, ◌≤◌, ◌+◌, ◌++◌, List, [], ◌∷◌, length, take, drop, get_or, Ok, if◌then◌else◌, refl, sym, ap, ◌∙◌}
use Rattle.std.proofs.lemmas.List.{take_more, drop_all}
use Rattle.paw_base.specs.Bytes.{Names}
use Rattle.paw_read_error.specs.Bind.{◌>>=◌}
use Rattle.paw_author.specs.Hooks.{hook_known, hooks_known}
use Rattle.paw_author.specs.Known.{NumbersGiven}
use Rattle.paw_author.specs.NameRows.{is_naming, naming_known, namings_known}
use Rattle.paw_author.specs.Units.{UnitLines}
use Rattle.paw_author.proofs.Rows.{from_unit}

pub one_hook : (hooks : Names) (all : List UnitLines) (i : ℕ) (u : UnitLines) → u ≡ get_or all i u → i < length all
    → hooks_known hooks (take i all) (drop i all)
    ≡ (hook_known hooks (take i all) u >>= λ _. hooks_known hooks (take (i + 1) all) (drop (i + 1) all))
unfolding hooks_known
one_hook hooks all i u e h =
    ap (λ (us : List UnitLines). hooks_known hooks (take i all) us) (from_unit all i u e h)
    ∙ ap (λ (before : List UnitLines). hook_known hooks (take i all) u >>= λ _. hooks_known hooks before (drop (i + 1) all))
    (sym (take_more all i u h ∙ ap (λ (x : UnitLines). take i all ++ x ∷ []) (sym e)))

pub no_hook : (hooks : Names) (all : List UnitLines) (i : ℕ) → length all ≤ i → hooks_known hooks (take i all) (drop i all) ≡ Ok tt
unfolding hooks_known
no_hook hooks all i h = rw (drop_all i all h) refl

-- ---- rows of names ----

pub one_name_row : (all : List UnitLines) (i : ℕ) (u : UnitLines) (s : NumbersGiven) → u ≡ get_or all i u → i < length all
    → namings_known (take i all) s (drop i all)
    ≡ ((if is_naming u then naming_known (take i all) u s else Ok s) >>= λ next. namings_known (take (i + 1) all) next (drop (i + 1) all))
unfolding namings_known
one_name_row all i u s e h =
    ap (λ (us : List UnitLines). namings_known (take i all) s us) (from_unit all i u e h)
    ∙ ap (λ (before : List UnitLines). (if is_naming u then naming_known (take i all) u s else Ok s) >>= λ next. namings_known before next (drop (i + 1) all))
    (sym (take_more all i u h ∙ ap (λ (x : UnitLines). take i all ++ x ∷ []) (sym e)))

pub no_name_row : (all : List UnitLines) (i : ℕ) (s : NumbersGiven) → length all ≤ i → namings_known (take i all) s (drop i all) ≡ Ok s
unfolding namings_known
no_name_row all i s h = rw (drop_all i all h) refl
