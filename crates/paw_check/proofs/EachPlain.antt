-- What holds of each row of the lists of meanings and of most bytes holds of what each plain code means and prints.
use Rattle.std.proofs.Common.{ℕ, zero, suc, Bool, List, [], ◌∷◌, drop}
use Rattle.std.specs.List.{slice_index_or}
use Rattle.paw_base.specs.declared.codes.TheConstants.{CHANCE, QUIT, MOVE, INVEN, PICTURE, INPUT}
use Rattle.paw_base.specs.declared.parts.Condact.{Condact}
use Rattle.paw_game.specs.Game.{GameLists}
use Rattle.paw_world.specs.World.{World}
use Rattle.paw_effects.specs.Meanings.{Meaning, tests, changing, mark, meanings, meaning_of}
use Rattle.paw_check.specs.Prints.{silent, most_printed}
use Rattle.paw_check.specs.Prints.{sign_most as most_mark}

-- The most bytes that the condacts of a code print.
abbrev pub Most : Type 0
Most = GameLists → Condact → ℕ

-- A fact of each two rows of two lists, by their place.
abbrev pub Each : (ℕ → Most → Meaning → Type 0) → List Most → List Meaning → Type 0
Each P [] [] = Unit {0}
Each P (most ∷ mosts) (m ∷ ms) = P 0 most m × Each (λ n. P (suc n)) mosts ms
Each P [] (m ∷ ms) = ⊥
Each P (most ∷ mosts) [] = ⊥

infixr 10 ◌&◌
-- The fact of a row, and those of the rows after it.
abbrev pub ◌&◌ : {A B : Type 0} → A → B → A × B
one & others = (one, others)

each_at : (P : ℕ → Most → Meaning → Type 0) (mosts : List Most) (ms : List Meaning) (past : Meaning) → Each P mosts ms
    → ((n : ℕ) → P n silent past) → (n : ℕ) → P n (slice_index_or mosts n silent) (slice_index_or ms n past)
each_at P [] [] past rows beyond n = beyond n
each_at P (most ∷ mosts) (m ∷ ms) past rows beyond zero = rows.0
each_at P (most ∷ mosts) (m ∷ ms) past rows beyond (suc n) = each_at (λ k. P (suc k)) mosts ms past rows.1 (λ k. beyond (suc k)) n
each_at P [] (m ∷ ms) past rows beyond n = absurd rows
each_at P (most ∷ mosts) [] past rows beyond n = absurd rows

pub each_plain : (P : ℕ → Most → Meaning → Type 0) → Each P most_printed meanings
    → ((code : ℕ) → P code silent (changing (λ w c. w))) → (code : ℕ) → P code (slice_index_or most_printed code silent) (meaning_of code)
unfolding meaning_of
each_plain P rows beyond code = each_at P most_printed meanings _ rows beyond code

-- The code that comes so far after another.
abbrev pub after : ℕ → ℕ → ℕ
after zero n = n
after (suc k) n = after k (suc n)

-- A fact of each row from this code on.
abbrev pub EachFrom : ℕ → (ℕ → Most → Meaning → Type 0) → Type 0
EachFrom code P = Each (λ n. P (after code n)) (drop code most_printed) (drop code meanings)

-- A fact of the row of this code.
abbrev pub Of : ℕ → (ℕ → Most → Meaning → Type 0) → Type 0
Of code P = P code (slice_index_or most_printed code silent) (slice_index_or meanings code (changing (λ w c. w)))

-- The rows of conditions, before those of actions: all but three answer in the same way, and change nothing.
pub with_conditions : (P : ℕ → Most → Meaning → Type 0)
    → ((most : Most) (code : ℕ) (so : World → Condact → Bool) → P code most (tests so)) → Of CHANCE P → Of QUIT P → Of MOVE P
    → EachFrom INVEN P → Each P most_printed meanings
unfolding most_printed meanings
with_conditions P row chance quit move actions =
    row _ _ _ &  -- AT
    row _ _ _ &  -- NOTAT
    row _ _ _ &  -- ATGT
    row _ _ _ &  -- ATLT
    row _ _ _ &  -- PRESENT
    row _ _ _ &  -- ABSENT
    row _ _ _ &  -- WORN
    row _ _ _ &  -- NOTWORN
    row _ _ _ &  -- CARRIED
    row _ _ _ &  -- NOTCARR
    chance &  -- CHANCE
    row _ _ _ &  -- ZERO
    row _ _ _ &  -- NOTZERO
    row _ _ _ &  -- EQ
    row _ _ _ &  -- NOTEQ
    row _ _ _ &  -- GT
    row _ _ _ &  -- LT
    row _ _ _ &  -- SAME
    row _ _ _ &  -- NOTSAME
    row _ _ _ &  -- ADJECT1
    row _ _ _ &  -- ADVERB
    row _ _ _ &  -- PREP
    row _ _ _ &  -- NOUN2
    row _ _ _ &  -- ADJECT2
    row _ _ _ &  -- ISAT
    row _ _ _ &  -- ISNOTAT
    row _ _ _ &  -- TIMEOUT
    quit &  -- QUIT
    move &  -- MOVE
    actions

-- The rows of what is shown or played beside the text, before those of later codes.
pub with_marks : (P : ℕ → Most → Meaning → Type 0) → ((code : ℕ) → P code most_mark mark) → EachFrom (suc INPUT) P → EachFrom PICTURE P
unfolding most_printed meanings
with_marks P row later =
    row _ &  -- PICTURE
    row _ &  -- GRAPHIC
    row _ &  -- BEEP
    row _ &  -- CLS
    row _ &  -- PAPER
    row _ &  -- INK
    row _ &  -- BORDER
    row _ &  -- CHARSET
    row _ &  -- PROTECT
    row _ &  -- SAVEAT
    row _ &  -- BACKAT
    row _ &  -- PRINTAT
    row _ &  -- PAUSE
    row _ &  -- MODE
    row _ &  -- LINE
    row _ &  -- INPUT
    later
