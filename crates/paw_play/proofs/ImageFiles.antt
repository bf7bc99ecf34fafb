-- What loading a file cuts off, and what an image that was loaded says of its file.
use Rattle.paw_play.proofs.Names.{◌≡◌, ◌⊎◌, inl, inr, ℕ, ◌+◌, ◌≤◌, Option, Some, length, take, sym, ◌∙◌, subst, arith, take_all, length-take-le, Bytes, Name, IMAGE_LIMIT, GameLists, Standing, bad, IsImage, one_game, over_is_bad, LoadsSome, Holds, HoldsDamage}

-- ---- what loading cuts off ----

-- A number is at most another, or above it.
pub in_order : (n m : ℕ) → (n ≤ m) ⊎ (m + 1 ≤ n)
in_order n m = grind arith

-- Bytes of which at most this many and one more were taken, and of these no more than that.
pub short_enough : (most : ℕ) (bytes : Bytes) → length (take (most + 1) bytes) ≤ most
    → (length bytes ≤ most) ⊎ (most + 1 ≤ length bytes) → length bytes ≤ most
short_enough most bytes h (inl k) = k
short_enough most bytes h (inr k) = absurd (omega (arith, h, length-take-le (most + 1) bytes k))

-- The image that was loaded is the file.
loaded_image : (given bytes : Bytes) (g : GameLists) → given ≡ take (IMAGE_LIMIT + 1) bytes → IsImage given g → IsImage bytes g
loaded_image given bytes g e h =
    let short : length bytes ≤ IMAGE_LIMIT =
    short_enough IMAGE_LIMIT bytes (subst (λ b. length b ≤ IMAGE_LIMIT) e h.short) (in_order (length bytes) IMAGE_LIMIT) in
    subst (λ b. IsImage b g) (e ∙ take_all (IMAGE_LIMIT + 1) bytes (omega (arith, short))) h

-- What was loaded is no image, and so the file is none.
loaded_none : (given bytes : Bytes) → given ≡ take (IMAGE_LIMIT + 1) bytes → ((g : GameLists) → ¬ IsImage given g) → (g : GameLists) → ¬ IsImage bytes g
loaded_none given bytes e none g h = none g (subst (λ b. IsImage b g) (sym (e ∙ take_all (IMAGE_LIMIT + 1) bytes (omega (arith, h.short)))) h)

bad_whole : (bytes : Bytes) (at : ℕ) → bad (take (IMAGE_LIMIT + 1) bytes) ≡ Some at
    → (length bytes ≤ IMAGE_LIMIT) ⊎ (IMAGE_LIMIT + 1 ≤ length bytes) → bad bytes ≡ Some at
bad_whole bytes at h (inl k) = subst (λ b. bad b ≡ Some at) (take_all (IMAGE_LIMIT + 1) bytes (omega (arith, k))) h
bad_whole bytes at h (inr k) =
    over_is_bad bytes (omega (arith, k))
    ∙ sym (over_is_bad (take (IMAGE_LIMIT + 1) bytes) (omega (arith, length-take-le (IMAGE_LIMIT + 1) bytes k))) ∙ h

-- The first damage of what was loaded is that of the file.
loaded_bad : (given bytes : Bytes) (at : ℕ) → given ≡ take (IMAGE_LIMIT + 1) bytes → bad given ≡ Some at → bad bytes ≡ Some at
loaded_bad given bytes at e h = bad_whole bytes at (subst (λ b. bad b ≡ Some at) e h) (in_order (length bytes) IMAGE_LIMIT)

-- ---- the file ----

-- A file holds the game of the bytes that were loaded.
pub holds_loaded : (name given bytes : Bytes) (old new : Standing) (g : GameLists) → bytes ≡ given → LoadsSome name IMAGE_LIMIT old new given →
    IsImage bytes g → Holds old name g
holds_loaded name given bytes old new g e f h = (f.0, f.1, loaded_image given f.0 g f.2 (subst (λ b. IsImage b g) e h))

-- Or it has their damage.
pub damage_loaded : (name given : Bytes) (old new : Standing) (at : ℕ) → LoadsSome name IMAGE_LIMIT old new given →
    ((g : GameLists) → ¬ IsImage given g) → bad given ≡ Some at → HoldsDamage old name at
damage_loaded name given old new at f none h = (f.0, f.1, loaded_none given f.0 f.2 none, loaded_bad given f.0 at f.2 h)

-- A file has one content.
pub same_file : (file : Option Bytes) (a b : Bytes) → file ≡ Some a → file ≡ Some b → a ≡ b
same_file file a b h k = cc

-- It is the image of one game.
pub same_game : (s : Standing) (name : Name) (g k : GameLists) → Holds s name g → Holds s name k → g ≡ k
same_game s name g k h i = one_game g k h.2.valid i.2.valid (sym h.2.spelled ∙ same_file _ h.0 i.0 h.1 i.1 ∙ i.2.spelled)
