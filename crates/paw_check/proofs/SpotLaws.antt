-- The first spot of a condact of a kind, number by number.
use Rattle.std.proofs.Common.{◌≡◌, ◌<◌, ℕ, ◌+◌, List, [], length, drop, get_or, Some, None, sym, ap, ◌∙◌}
use Rattle.std.specs.Prelude.{slice_get}
use Rattle.std.specs.Option.{unwrap_or, option_map_or}
use Rattle.std.proofs.lemmas.List.{drop_more}
use Rattle.paw_game.specs.declared.parts.Entry.{Entry}
use Rattle.paw_check.specs.declared.spots.Sought.{Sought}
use Rattle.paw_check.specs.inner.Spots.{entry_sought, spot_sought}

spot_at : (w : Sought) (tables : List (List Entry)) (ns : List ℕ) (i d : ℕ) → i < length ns
    → spot_sought w tables (drop i ns)
    ≡ option_map_or (λ e. Some (get_or ns i d, e)) (entry_sought w (unwrap_or (slice_get tables (get_or ns i d)) [])) (spot_sought w tables (drop (i + 1) ns))
spot_at w tables ns i d within = ap (spot_sought w tables) (drop_more ns i d within)

pub spot_more : (w : Sought) (tables : List (List Entry)) (ns : List ℕ) (i d : ℕ) → i < length ns
    → None ≡ entry_sought w (unwrap_or (slice_get tables (get_or ns i d)) []) → spot_sought w tables (drop i ns) ≡ spot_sought w tables ns
    → spot_sought w tables (drop (i + 1) ns) ≡ spot_sought w tables ns
spot_more w tables ns i d within none so =
    ap (λ found. option_map_or (λ e. Some (get_or ns i d, e)) found (spot_sought w tables (drop (i + 1) ns))) none
    ∙ sym (spot_at w tables ns i d within) ∙ so

pub spot_found : (w : Sought) (tables : List (List Entry)) (ns : List ℕ) (i d e : ℕ) → i < length ns
    → Some e ≡ entry_sought w (unwrap_or (slice_get tables (get_or ns i d)) []) → spot_sought w tables (drop i ns) ≡ spot_sought w tables ns
    → Some (get_or ns i d, e) ≡ spot_sought w tables ns
spot_found w tables ns i d e within some so =
    ap (λ found. option_map_or (λ e. Some (get_or ns i d, e)) found (spot_sought w tables (drop (i + 1) ns))) some
    ∙ sym (spot_at w tables ns i d within) ∙ so
