-- The verdict, from what is found one after the other.
use Rattle.std.proofs.Common.{◌≡◌, ◌≤◌, ◌<◌, ℕ, ◌+◌, ◌*◌, ◌-◌, ◌^◌, min, Bool, true, false, List, [], ◌∷◌, length, Some}
use Rattle.std.proofs.Common.{None, refl, sym}
use Rattle.std.proofs.Common.{ap, ◌∙◌, arith, get_or}
use Rattle.std.specs.Prelude.{◌||◌, Option, All, nat_lt, nat_le, flat_map}
use Rattle.std.specs.List.{list_any}
use Rattle.std.specs.Option.{option_map_or}
use Rattle.std.proofs.Math.Nat.{mul_comm}
use Rattle.std.proofs.lemmas.Bool.{lt-ltb, le-ltb, leb-true}
use Rattle.std.proofs.lemmas.List.Sums.{AllPass-from_list_all}
use Rattle.paw_base.specs.declared.limits.TheConstants.{READ_LIMIT, PIECE_LIMIT, ENTRY_LIMIT, TABLE_LEAST, TABLE_LIMIT}
use Rattle.paw_base.specs.declared.limits.TheConstants.{SYSTEM_LIMIT, MESSAGE_LIMIT}
use Rattle.paw_base.specs.declared.parts.Condact.{Condact}
use Rattle.paw_game.specs.declared.parts.Entry.{Entry}
use Rattle.paw_game.specs.Game.{GameLists}
use Rattle.paw_game.specs.Tables.{table_at}
use Rattle.paw_game.specs.Valid.{Valid, is_within, is_table}
use Rattle.paw_game.proofs.ValidGames.{first_of_and, second_of_and}
use Rattle.paw_check.specs.declared.own.Own.TheVariants as own
use Rattle.paw_check.specs.declared.spots.Sought.{Sought}
use Rattle.paw_check.specs.declared.prints.Prints.{Prints}
use Rattle.paw_check.specs.declared.verdict.Cause.TheVariants as cause
use Rattle.paw_check.specs.declared.verdict.Verdict.TheVariants as verdict
use Rattle.paw_check.specs.Bounds.{most_condacts, most_piece}
use Rattle.paw_check.specs.Calls.{table_condacts, most_levels}
use Rattle.paw_check.specs.Costs.{round_cost, verb_may_change}
use Rattle.paw_check.specs.Prints.{most_text}
use Rattle.paw_check.specs.Verdicts.{bounds, first_with, call_too_deep, circle_of_descriptions}
use Rattle.paw_check.specs.inner.Capped.{in_32_bits}
use Rattle.paw_check.specs.inner.Levels.{round_taken}
use Rattle.paw_check.specs.inner.Own.{own_in}
use Rattle.paw_check.specs.inner.Spots.{is_sought, spot_sought, entry_sought, any_in_table}
use Rattle.paw_check.specs.inner.Texts.{ArePrints, most_outside, most_end}
use Rattle.paw_check.specs.inner.Verdicts.{bound_or_cause}
use Rattle.paw_check.proofs.Capped.{add_alike, product_alike, from_capped}
use Rattle.paw_check.proofs.LevelLaws.{round_alike}
use Rattle.paw_check.proofs.SetLaws.{any_of_flat}
use Rattle.paw_check.proofs.TextLaws.{text_alike}

-- ---- spots ----

-- The tables of a valid game have at most 4,000 entries.
pub short_tables : (g : GameLists) → Valid g → All (λ table. length table ≤ ENTRY_LIMIT) g.tables
short_tables g v = λ i d low.
    leb-true (length (get_or g.tables i d)) ENTRY_LIMIT
    (first_of_and (nat_le (length (get_or g.tables i d)) ENTRY_LIMIT) _
    (AllPass-from_list_all (is_table g) g.tables (second_of_and (is_within TABLE_LEAST TABLE_LIMIT (length g.tables)) _ v.tables) i d low))

pub spot_is : (g : GameLists) (w : Sought) (ts : List ℕ) → spot_sought w g.tables ts ≡ first_with g (is_sought w) ts
spot_is g w [] = refl
spot_is g w (t ∷ ts) = ap (option_map_or (λ e. Some (t, e)) (entry_sought w (table_at g t))) (spot_is g w ts)

-- ---- condacts of tables ----

any_same : {X : Type 0} (p q : X → Bool) (xs : List X) → ((x : X) → p x ≡ q x) → list_any p xs ≡ list_any q xs
any_same p q [] same = refl
any_same p q (x ∷ xs) same = ap (λ (b : Bool). b || list_any p xs) (same x) ∙ ap (λ (b : Bool). q x || b) (any_same p q xs same)

pub any_is : (g : GameLists) (p : Condact → Bool) (ts : List ℕ) → list_any (any_in_table p g.tables) ts ≡ list_any p (flat_map (table_condacts g) ts)
any_is g p ts =
    sym (any_of_flat p (table_condacts g) ts
    ∙ any_same _ (any_in_table p g.tables) ts (λ t. any_of_flat p (λ (e : Entry). e.condacts) (table_at g t)))

-- ---- numbers ----

-- The most condacts of a piece.
pub condacts_are : (g : GameLists) (changing : Bool) (round n : ℕ) → changing ≡ verb_may_change g
    → round ≡ in_32_bits (round_taken g (own_in own.Condacts) changing) → n ≡ min (round * 129) (2 ^ 32 - 1) → n ≡ in_32_bits (most_condacts g)
condacts_are g changing round n may is so =
    let same : round_taken g (own_in own.Condacts) changing ≡ round_cost g (λ c. 1) =
    ap (λ (b : Bool). round_taken g (own_in own.Condacts) b) may in
    so ∙ product_alike round (round_cost g (λ c. 1)) 129 129 (from_capped _ _ (is ∙ ap in_32_bits same)) refl
    ∙ ap in_32_bits (mul_comm (round_cost g (λ c. 1)) 129)

-- The most bytes of a piece.
pub piece_is : (g : GameLists) (p : Prints) (changing : Bool) (round outside end whole rounds n : ℕ) → changing ≡ verb_may_change g
    → ArePrints g p → length g.system ≤ SYSTEM_LIMIT → length g.messages ≤ MESSAGE_LIMIT
    → round ≡ in_32_bits (round_taken g (own_in (own.Text p)) changing) → outside ≡ in_32_bits (most_outside g) → end ≡ in_32_bits (most_end g)
    → whole ≡ min (round + outside) (2 ^ 32 - 1) → rounds ≡ min (whole * 129) (2 ^ 32 - 1) → n ≡ min (rounds + end) (2 ^ 32 - 1)
    → n ≡ in_32_bits (most_piece g)
piece_is g p changing round outside end whole rounds n may are few many is beside behind first second so =
    let own : in_32_bits (round_taken g (own_in (own.Text p)) changing) ≡ in_32_bits (round_cost g (most_text g)) =
    ap (λ (b : Bool). in_32_bits (round_taken g (own_in (own.Text p)) b)) may
    ∙ round_alike g (own_in (own.Text p)) (most_text g) (verb_may_change g) (text_alike g p are few many) in
    let all : ℕ = round_cost g (most_text g) + most_outside g in
    let one : in_32_bits (round + outside) ≡ in_32_bits all =
    add_alike round _ outside _ (from_capped round _ (is ∙ own)) (from_capped outside _ beside) in
    let times : in_32_bits (whole * 129) ≡ in_32_bits (129 * all) =
    product_alike whole all 129 129 (from_capped whole _ (first ∙ one)) refl ∙ ap in_32_bits (mul_comm all 129) in
    so ∙ add_alike rounds (129 * all) end (most_end g) (from_capped rounds _ (second ∙ times)) (from_capped end _ behind)

-- ---- the verdict ----

above_limit : (limit n : ℕ) → limit < n → nat_lt limit n ≡ true
above_limit limit n h = lt-ltb limit n h

within_limit : (limit n : ℕ) → n ≤ limit → nat_lt limit n ≡ false
within_limit limit n h = le-ltb limit n h

pub too_many : (g : GameLists) (levels n : ℕ) → n ≡ in_32_bits (most_condacts g) → READ_LIMIT < n → bound_or_cause g levels ≡ verdict.Unknown cause.Condacts 0 0
too_many g levels n is many = rw (above_limit READ_LIMIT (most_condacts g) (omega (arith, is, many))) refl

pub too_long : (g : GameLists) (levels n m : ℕ) → n ≡ in_32_bits (most_condacts g) → n ≤ READ_LIMIT → m ≡ in_32_bits (most_piece g) → PIECE_LIMIT < m
    → bound_or_cause g levels ≡ verdict.Unknown cause.Text 0 0
too_long g levels n m is few same long =
    rw (within_limit READ_LIMIT (most_condacts g) (omega (arith, is, few)), above_limit PIECE_LIMIT (most_piece g) (omega (arith, same, long))) refl

pub in_bounds : (g : GameLists) (levels n m : ℕ) → n ≡ in_32_bits (most_condacts g) → n ≤ READ_LIMIT → m ≡ in_32_bits (most_piece g) → m ≤ PIECE_LIMIT
    → bound_or_cause g levels ≡ verdict.Bound levels n m
in_bounds g levels n m is few same short =
    let condacts : most_condacts g ≡ n = omega (arith, is, few) in
    let bytes : most_piece g ≡ m = omega (arith, same, short) in
    rw (within_limit READ_LIMIT (most_condacts g) (omega (arith, is, few)), within_limit PIECE_LIMIT (most_piece g) (omega (arith, same, short)))
    (ap (λ (k : ℕ). verdict.Bound levels k (most_piece g)) condacts ∙ ap (verdict.Bound levels n) bytes)

pub bounds_calls : (g : GameLists) (t e : ℕ) → call_too_deep g ≡ Some (t, e) → bounds g ≡ verdict.Unknown cause.Calls t e
unfolding bounds
bounds_calls g t e h = rw h refl

pub bounds_described : (g : GameLists) (t e : ℕ) → call_too_deep g ≡ None → circle_of_descriptions g ≡ Some (t, e)
    → bounds g ≡ verdict.Unknown cause.Redescribe t e
unfolding bounds
bounds_described g t e h k = rw (h, k) refl

pub bounds_counted : (g : GameLists) → call_too_deep g ≡ None → circle_of_descriptions g ≡ None → bounds g ≡ bound_or_cause g (most_levels g)
unfolding bounds
bounds_counted g h k = rw (h, k) refl

-- ---- what the code found ----

pub found_in : (g : GameLists) (w : Sought) (tables : List (List Entry)) (numbers ts : List ℕ) (x : Option (ℕ × ℕ))
    → x ≡ spot_sought w tables numbers → tables ≡ g.tables → numbers ≡ ts → first_with g (is_sought w) ts ≡ x
found_in g w tables numbers ts x h same those =
    sym (h ∙ ap (λ (us : List (List Entry)). spot_sought w us numbers) same ∙ ap (spot_sought w g.tables) those ∙ spot_is g w ts)

pub any_found : (g : GameLists) (w : Sought) (tables : List (List Entry)) (numbers ts : List ℕ) (b : Bool)
    → b ≡ list_any (any_in_table (is_sought w) tables) numbers → tables ≡ g.tables → numbers ≡ ts
    → b ≡ list_any (is_sought w) (flat_map (table_condacts g) ts)
any_found g w tables numbers ts b h same those =
    h ∙ ap (λ (us : List (List Entry)). list_any (any_in_table (is_sought w) us) numbers) same
    ∙ ap (list_any (any_in_table (is_sought w) g.tables)) those ∙ any_is g (is_sought w) ts
