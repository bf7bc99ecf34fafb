-- What the code keeps of a game's texts is what the definition says that its condacts print.
use Rattle.std.proofs.Common.{◌≡◌, ◌≤◌, inl, inr, ℕ, ◌+◌, Bool, true, false, cond, List, []}
use Rattle.std.proofs.Common.{◌∷◌, length, map, refl, sym, ap, ◌∙◌, arith}
use Rattle.std.specs.Prelude.{◌==◌, slice_get}
use Rattle.std.specs.List.{slice_index_or}
use Rattle.std.specs.Option.{unwrap_or}
use Rattle.std.proofs.Math.ListN.{get_or-map}
use Rattle.std.proofs.lemmas.Bool.{cases_lt}
use Rattle.std.proofs.lemmas.List.{get_or_past}
use Rattle.std.proofs.lemmas.Option.{slice_get_past}
use Rattle.paw_base.specs.Bytes.{Text, Texts}
use Rattle.paw_base.specs.declared.messages.TheConstants.{SEEN_MESSAGE, NOTHING_THERE_MESSAGE}
use Rattle.paw_base.specs.declared.limits.TheConstants.{SYSTEM_LIMIT, MESSAGE_LIMIT}
use Rattle.paw_base.specs.declared.parts.Condact.{Condact}
use Rattle.paw_base.specs.Condacts.{is_indirect, plain_code}
use Rattle.paw_game.specs.Game.{GameLists}
use Rattle.paw_check.specs.Measures.{greatest, longest_name, most_bytes, most_at, most_of, most_put, most_said}
use Rattle.paw_check.specs.Prints.{most_flag, most_of_action, most_inventory, most_count, most_score, most_list}
use Rattle.paw_check.specs.Prints.{most_list_or_said}
use Rattle.paw_check.specs.Prints.{most_named, most_printed, most_text, silent}
use Rattle.paw_check.specs.declared.prints.Printed.{Printed}
use Rattle.paw_check.specs.declared.prints.Printed.TheVariants as printed
use Rattle.paw_check.specs.declared.prints.Prints.{Prints}
use Rattle.paw_check.specs.declared.prints.TheConstants.{PRINTED}
use Rattle.paw_check.specs.inner.Capped.{HoldsCapped, in_32_bits}
use Rattle.paw_check.specs.inner.Own.{byte_in, measure_in, measure_at, kind_in, kind_of, named_in, text_in}
use Rattle.paw_check.specs.inner.Texts.{ArePrints}
use Rattle.paw_check.proofs.Capped.{sum_alike, from_capped, capped_again}
use Rattle.paw_check.proofs.Greatest.{greatest_alike, greatest_capped}

-- ---- measures ----

-- Where a name has as many bytes but for the cap, a text prints as many.
byte_alike : (name most b : ℕ) → name ≡ in_32_bits most → in_32_bits (byte_in name b) ≡ in_32_bits (byte_in most b)
byte_alike name most b h = at (b == 95) where
  at : (x : Bool) → in_32_bits (cond x name 1) ≡ in_32_bits (cond x most 1)
  at true = from_capped name most h
  at false = refl

pub measure_alike : (name most : ℕ) (text : Text) → name ≡ in_32_bits most → in_32_bits (measure_in name text) ≡ in_32_bits (measure_in most text)
measure_alike name most text h = sum_alike (byte_in name) (byte_in most) text (λ b. byte_alike name most b h)

pub greatest_measure_alike : (g : GameLists) (name : ℕ) (texts : Texts) → name ≡ in_32_bits (longest_name g)
    → in_32_bits (greatest (map (measure_in name) texts)) ≡ in_32_bits (most_of g texts)
greatest_measure_alike g name texts h = greatest_alike _ _ texts (λ text. measure_alike name (longest_name g) text h)

pub holds_measures : (g : GameLists) (name : ℕ) (texts : Texts) (row : List ℕ) → name ≡ in_32_bits (longest_name g)
    → HoldsCapped row (measure_at name texts) → HoldsCapped row (most_at g texts)
holds_measures g name texts row h holds = record {
  long = holds.long;
  each = λ v low. holds.each v low ∙ measure_alike name (longest_name g) (unwrap_or (slice_get texts v) []) h;
}

-- No text is past the last.
none_past : (g : GameLists) (texts : Texts) (n : ℕ) → length texts ≤ n → most_at g texts n ≡ 0
none_past g texts n past = ap (λ text. most_bytes g (unwrap_or text [])) (slice_get_past texts n past)

-- A row holds the measure of each text, and of none past the last.
pub at_alike : (g : GameLists) (texts : Texts) (row : List ℕ) (n : ℕ) → length texts ≤ 256
    → HoldsCapped row (most_at g texts) → slice_index_or row n 0 ≡ in_32_bits (most_at g texts n)
at_alike g texts row n few holds = elim (cases_lt n 256) [
  | inl low ↦ holds.each n low
  | inr high ↦
      let none = none_past g texts n (omega (arith, few, high)) in
      let past : slice_index_or row n 0 ≡ 0 = get_or_past row n 0 (omega (arith, high, holds.long)) in
      omega (arith, none, past)
]

map_same : {X Y : Type 0} (f h : X → Y) (xs : List X) → ((x : X) → f x ≡ h x) → map f xs ≡ map h xs
map_same f h [] same = refl
map_same f h (x ∷ xs) same = ap (λ y. y ∷ map f xs) (same x) ∙ ap (λ ys. h x ∷ ys) (map_same f h xs same)

-- ---- condacts ----

-- The most bytes that a condact prints, by what it prints.
abbrev kind_most : GameLists → Printed → Condact → ℕ
kind_most g printed.Nothing c = 0
kind_most g printed.Newline c = 1
kind_most g printed.Flag c = most_flag
kind_most g printed.Sign c = 20
kind_most g printed.Action c = most_of_action g
kind_most g printed.Inventory c = most_inventory g
kind_most g printed.Turns c = most_count g
kind_most g printed.Score c = most_score g
kind_most g printed.Here c = most_said g SEEN_MESSAGE + most_list g
kind_most g printed.There c = most_list_or_said g NOTHING_THERE_MESSAGE
kind_most g (printed.Put s) c = most_put g s
kind_most g (printed.Said s) c = most_said g s
kind_most g printed.Message c = most_named g g.messages c
kind_most g printed.MessageLine c = most_named g g.messages c + 1
kind_most g printed.System c = most_named g g.system c

-- The rows of the definition are those of the code's table.
rows_are : most_printed ≡ map (λ k g c. kind_most g k c) PRINTED
unfolding most_printed
rows_are = refl

row_at : (code : ℕ) (g : GameLists) (c : Condact)
    → (slice_index_or most_printed code silent) g c ≡ kind_most g (slice_index_or PRINTED code printed.Nothing) c
row_at code g c =
    ap (λ (rows : List (GameLists → Condact → ℕ)). (slice_index_or rows code silent) g c) rows_are
    ∙ ap (λ (row : GameLists → Condact → ℕ). row g c)
    (get_or-map {B = GameLists → Condact → ℕ} (λ (k : Printed) (h : GameLists) (x : Condact). kind_most h k x) PRINTED code printed.Nothing)

text_is : (g : GameLists) (c : Condact) → most_text g c ≡ kind_most g (kind_of c.code) c
unfolding most_text
text_is g c = row_at (plain_code c.code) g c

named_alike : (g : GameLists) (texts : Texts) (row : List ℕ) (any : ℕ) (c : Condact) → length texts ≤ 256
    → HoldsCapped row (most_at g texts) → any ≡ in_32_bits (most_of g texts) → named_in row any c ≡ in_32_bits (most_named g texts c)
named_alike g texts row any c few holds most = at (is_indirect c.code) where
  at : (b : Bool) → cond b any (slice_index_or row c.a 0) ≡ in_32_bits (cond b (most_of g texts) (most_at g texts c.a))
  at true = most
  at false = at_alike g texts row c.a few holds

kind_alike : (g : GameLists) (p : Prints) (c : Condact) → ArePrints g p → length g.system ≤ SYSTEM_LIMIT → length g.messages ≤ MESSAGE_LIMIT
    → (k : Printed) → kind_in p k c ≡ in_32_bits (kind_most g k c)
kind_alike g p c are few many printed.Nothing = refl
kind_alike g p c are few many printed.Newline = refl
kind_alike g p c are few many printed.Flag = refl
kind_alike g p c are few many printed.Sign = refl
kind_alike g p c are few many printed.Action = are.action
kind_alike g p c are few many printed.Inventory = are.inventory
kind_alike g p c are few many printed.Turns = are.turns
kind_alike g p c are few many printed.Score = are.score
kind_alike g p c are few many printed.Here = are.here
kind_alike g p c are few many printed.There = are.there
kind_alike g p c are few many (printed.Put s) = at_alike g g.system p.system s few are.system
kind_alike g p c are few many (printed.Said s) =
    let put = at_alike g g.system p.system s few are.system in omega (arith, put)
kind_alike g p c are few many printed.Message = named_alike g g.messages p.messages p.any_message c many are.messages are.any_message
kind_alike g p c are few many printed.MessageLine =
    let named = named_alike g g.messages p.messages p.any_message c many are.messages are.any_message in omega (arith, named)
kind_alike g p c are few many printed.System = named_alike g g.system p.system p.any_system c few are.system are.any_system

-- What the code takes of a condact is the most that it prints.
pub text_alike : (g : GameLists) (p : Prints) → ArePrints g p → length g.system ≤ SYSTEM_LIMIT → length g.messages ≤ MESSAGE_LIMIT
    → (c : Condact) → in_32_bits (text_in p c) ≡ in_32_bits (most_text g c)
text_alike g p are few many c =
    ap in_32_bits (kind_alike g p c are few many (kind_of c.code)) ∙ capped_again (kind_most g (kind_of c.code) c)
    ∙ ap in_32_bits (sym (text_is g c))

-- The greatest measure that a row holds for these messages.
pub greatest_of_row : (g : GameLists) (row : List ℕ) (messages : List ℕ) → length g.system ≤ SYSTEM_LIMIT → HoldsCapped row (most_put g)
    → greatest (map (λ s. slice_index_or row s 0) messages) ≡ in_32_bits (greatest (map (most_put g) messages))
greatest_of_row g row messages few holds =
    ap greatest (map_same (λ s. slice_index_or row s 0) (λ s. in_32_bits (most_put g s)) messages (λ s. at_alike g g.system row s few holds))
    ∙ greatest_capped (most_put g) messages
