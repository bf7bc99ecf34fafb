-- Names that are filled up with spaces.
use Rattle.std.proofs.Common.{◌≡◌, ℕ, zero, suc, ◌-◌, ◌≤◌, ◌==◌, Bool, true, false, not, ◌&&◌, ◌||◌, [], ◌∷◌}
use Rattle.std.proofs.Common.{◌++◌, length}
use Rattle.std.proofs.Common.{drop, replicate, nat_le, refl, sym, ap, ◌∙◌, bytes_eq, arith}
use Rattle.std.specs.List.{list_any, prefix_len}
use Rattle.std.specs.Char.{to_ascii_uppercase}
use Rattle.std.proofs.lemmas.Bool.Decides.{same_from_decides, Decides-like, nat_tests}
use Rattle.std.proofs.lemmas.Slice.Eq.{bytes_eq-Decides}
use Rattle.std.proofs.lemmas.List.{map-append, drop-replicate}
use Rattle.std.proofs.Math.ListN.{length-map}
use Rattle.std.proofs.Math.Numerals.{one-add}
use Rattle.std.proofs.Math.Seq.{take-append_seam}
use Rattle.paw_base.specs.Bytes.{Name, Bytes}
use Rattle.paw_base.specs.Condacts.{capitals}
use Rattle.paw_base.specs.inner.Condacts.{filled_up, before_space, is_plain}

abbrev pub has_space : Name → Bool
has_space name = list_any (λ byte. byte == 32) name

split_plain : (short spaced : Bool) → (short && not spaced) ≡ true → spaced ≡ false
split_plain true true h = cc
split_plain true false h = refl
split_plain false spaced h = cc

pub has_space-plain : (name : Name) → is_plain name ≡ true → has_space name ≡ false
has_space-plain name h = split_plain (nat_le (length name) 8) (has_space name) h

-- ---- a name is what stands before the first space

neither : (a b : Bool) → (a || b) ≡ false → (a ≡ false) × (b ≡ false)
neither true b h = cc
neither false b h = (refl, h)

prefix_len-spaces : (n : ℕ) → prefix_len (λ byte. not (byte == 32)) (replicate n 32) ≡ 0
prefix_len-spaces zero = refl
prefix_len-spaces (suc n) = refl

prefix_len-filled : (name : Name) (n : ℕ) → has_space name ≡ false → prefix_len (λ byte. not (byte == 32)) (name ++ replicate n 32) ≡ length name
prefix_len-filled [] n h = prefix_len-spaces n
prefix_len-filled (x ∷ xs) n h =
    let two = neither (x == 32) (has_space xs) h in
    rw (two.0, prefix_len-filled xs n two.1, one-add (length xs)) refl

pub before_space-filled_up : (name : Name) → has_space name ≡ false → before_space (filled_up name) ≡ name
before_space-filled_up name h =
    rw (prefix_len-filled name (8 - length name) h) (take-append_seam name (replicate (8 - length name) 32))

filled_up_same : (a b : Name) → has_space a ≡ false → has_space b ≡ false → filled_up a ≡ filled_up b → a ≡ b
filled_up_same a b ha hb e = sym (before_space-filled_up a ha) ∙ ap before_space e ∙ before_space-filled_up b hb

pub bytes_eq-filled_up : (a b : Name) → has_space a ≡ false → has_space b ≡ false → bytes_eq (filled_up a) (filled_up b) ≡ bytes_eq a b
bytes_eq-filled_up a b ha hb =
    same_from_decides (bytes_eq (filled_up a) (filled_up b)) (bytes_eq a b)
    (Decides-like (bytes_eq (filled_up a) (filled_up b)) (filled_up_same a b ha hb) (λ e. ap filled_up e) (bytes_eq-Decides (filled_up a) (filled_up b)))
    (bytes_eq-Decides a b)

-- ---- capitals

capital_is_space : (x : ℕ) → (to_ascii_uppercase x == 32) ≡ (x == 32)
capital_is_space x = grind (arith, nat_tests)

has_space-capitals : (name : Name) → has_space (capitals name) ≡ has_space name
has_space-capitals [] = refl
has_space-capitals (x ∷ xs) = rw (capital_is_space x, has_space-capitals xs) refl

pub is_plain-capitals : (name : Name) → is_plain (capitals name) ≡ is_plain name
is_plain-capitals name = rw (length-map name to_ascii_uppercase, has_space-capitals name) refl

capitals-spaces : (n : ℕ) → capitals (replicate n 32) ≡ replicate n 32
capitals-spaces zero = refl
capitals-spaces (suc n) = ap (λ xs. 32 ∷ xs) (capitals-spaces n)

pub capitals-filled_up : (name : Name) → capitals (name ++ drop (length name) (replicate 8 32)) ≡ filled_up (capitals name)
capitals-filled_up name =
    rw (
      drop-replicate {X = ℕ} (length name) 8 32,
      map-append to_ascii_uppercase name (replicate (8 - length name) 32),
      capitals-spaces (8 - length name),
      length-map name to_ascii_uppercase,
    ) refl

-- ---- as the code does it

pub is_plain_from : (name : Name) → length name ≤ 8 → has_space name ≡ false → is_plain name ≡ true
is_plain_from name short none = grind (arith, nat_tests)

pub filled_in_code : (name copied : Name) (filled : Bytes) → copied ≡ name
    → filled ≡ capitals (copied ++ drop (length name) (replicate 8 32)) → filled ≡ filled_up (capitals name)
filled_in_code name copied filled c f = rw (f, c) (capitals-filled_up name)
