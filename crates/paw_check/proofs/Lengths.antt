-- How long a text is as it is printed.
use Rattle.std.proofs.Common.{◌≡◌, ℕ, zero, suc, ◌+◌, ◌<◌, ◌≤◌, ◌==◌, ◌||◌, Bool, true, false, List, [], ◌∷◌, ◌++◌}
use Rattle.std.proofs.Common.{refl}
use Rattle.std.proofs.Common.{length, map, max, slice_get, arith, length-append, subst}
use Rattle.std.specs.Prelude.{if◌then◌else◌, sum_by, decimal}
use Rattle.std.specs.Option.{option_map, unwrap_or}
use Rattle.std.proofs.lemmas.Bool.{eqb-true}
use Rattle.std.proofs.lemmas.Fmt.{length-decimal-le}
use Rattle.std.proofs.lemmas.List.Sums.{sum_by-cons}
use Rattle.paw_base.specs.Bytes.{Bytes, Text, Texts, Name}
use Rattle.paw_base.specs.declared.flags.TheConstants.{REFERRED_FLAG}
use Rattle.paw_game.specs.declared.parts.ObjectRow.{ObjectRow}
use Rattle.paw_game.specs.Game.{GameLists}
use Rattle.paw_world.specs.World.{World, flag}
use Rattle.paw_effects.specs.Texts.{object_text, with_name, printed_text, ended_text, put_text, say_text, message_text}
use Rattle.paw_check.specs.Measures.{greatest, longest_name, most_bytes, most_at, most_of, most_put, most_said}
use Rattle.paw_check.specs.Verbs.{is_among}

-- ---- the greatest of some numbers ----

-- A number that is among these has no greater measure than the greatest.
pub among_most : (f : ℕ → ℕ) (ns : List ℕ) (n : ℕ) → is_among ns n ≡ true → f n ≤ greatest (map f ns)
unfolding greatest
among_most f [] n h = cc
among_most f (m ∷ ns) n h = go (m == n) refl h (among_most f ns n)
  where
    go : (b : Bool) → (m == n) ≡ b → (b || is_among ns n) ≡ true → (is_among ns n ≡ true → f n ≤ greatest (map f ns))
        → f n ≤ max (f m) (greatest (map f ns))
    go true e h later = let same : m ≡ n = eqb-true m n e in subst (λ x. f x ≤ max (f m) (greatest (map f ns))) same (omega arith)
    go false e h later = let rest = later h in omega arith

-- ---- names ----

names_most : (os : List ObjectRow) (o : ℕ)
    → length (unwrap_or (option_map (λ (r : ObjectRow). r.text) (slice_get os o)) []) ≤ greatest (map (λ (r : ObjectRow). length r.text) os)
unfolding greatest
names_most [] o = omega arith
names_most (r ∷ os) zero = omega arith
names_most (r ∷ os) (suc o) = let rest = names_most os o in omega arith

-- No object has a longer text than the longest.
pub name_most : (g : GameLists) (o : ℕ) → length (object_text g o) ≤ longest_name g
name_most g o = names_most g.objects o

-- ---- texts ----

-- A byte, or the name that stands for it, and the rest.
byte_most : (named : Bool) (name rest : Bytes) (b n m : ℕ) → length name ≤ n → length rest ≤ m
    → length (if named then name ++ rest else b ∷ rest) ≤ (if named then n else 1) + m
byte_most true name rest b n m short less = omega (arith, length-append name rest)
byte_most false name rest b n m short less = omega arith

named_most : (name : Name) (n : ℕ) → length name ≤ n → (text : Text)
    → length (with_name name text) ≤ sum_by (λ b. if b == 95 then n else 1) text
named_most name n short [] = omega arith
named_most name n short (b ∷ bs) =
    let rest = named_most name n short bs in
    let first = byte_most (b == 95) name (with_name name bs) b n (sum_by (λ x. if x == 95 then n else 1) bs) short rest in
    omega (arith, first, sum_by-cons (λ (x : ℕ). if x == 95 then n else 1) b bs)

pub printed_most : (g : GameLists) (w : World) (text : Text) → length (printed_text g w text) ≤ most_bytes g text
printed_most g w text = named_most (object_text g (flag w REFERRED_FLAG)) (longest_name g) (name_most g (flag w REFERRED_FLAG)) text

pub ended_most : (g : GameLists) (w : World) (text : Text) → length (ended_text g w text) ≤ most_bytes g text + 1
ended_most g w [] = omega arith
ended_most g w (b ∷ bs) = omega (arith, printed_most g w (b ∷ bs), length-append (printed_text g w (b ∷ bs)) (10 ∷ []))

pub put_most : (g : GameLists) (w : World) (s : ℕ) → length (put_text g w s) ≤ most_put g s
put_most g w s = printed_most g w (unwrap_or (slice_get g.system s) [])

pub say_most : (g : GameLists) (w : World) (s : ℕ) → length (say_text g w s) ≤ most_said g s
say_most g w s = ended_most g w (unwrap_or (slice_get g.system s) [])

pub message_most : (g : GameLists) (w : World) (m : ℕ) → length (message_text g w m) ≤ most_at g g.messages m
message_most g w m = printed_most g w (unwrap_or (slice_get g.messages m) [])

-- A text by its number is no longer than the longest.
pub at_most : (g : GameLists) (texts : Texts) (n : ℕ) → most_at g texts n ≤ most_of g texts
unfolding greatest
at_most g [] n = omega arith
at_most g (text ∷ texts) zero = omega arith
at_most g (text ∷ texts) (suc n) = let rest = at_most g texts n in omega arith

-- ---- numbers ----

-- A byte has three digits at most.
pub byte_digits : (n : ℕ) → n < 256 → length (decimal n) ≤ 3
byte_digits n small = length-decimal-le 3 n (omega arith) (omega arith) (omega arith)

-- A number in two bytes has five at most.
pub pair_digits : (n : ℕ) → n < 65536 → length (decimal n) ≤ 5
pair_digits n small = length-decimal-le 5 n (omega arith) (omega arith) (omega arith)
