-- Milestones in the condacts of entries: where they go on after each eight of them.
use Rattle.std.specs.Prelude.{◌≡◌, ℕ, suc, ◌+◌, ◌*◌, ◌-◌, ◌<◌, List, [], ◌∷◌, length, drop, Some, Ok, slice_get}
use Rattle.std.specs.Prelude.{slice_index}
use Rattle.paw_base.specs.Bytes.{Bytes}
use Rattle.paw_image.specs.Damage.{each}
use Rattle.paw_image.specs.inner.Rows.{past_condact, condact_among, nth_condact}
use Rattle.paw_image.specs.declared.milestones.Milestones.{Milestones}
use Rattle.paw_image.specs.declared.offsets.TableIndex.{TableIndex}

-- These bytes are the last of all bytes.
abbrev pub IsEnd : Bytes → Bytes → Type 0
IsEnd all bytes = drop (length all - length bytes) all ≡ bytes

-- After n condacts the bytes go on at a milestone.
abbrev pub GoesOnAt : ℕ → Bytes → ℕ → Type 0
GoesOnAt count condacts milestone = each past_condact count condacts ≡ Ok (drop milestone condacts)

-- There is a milestone after each eight of these condacts that another one follows.
abbrev pub AreMilestones : List ℕ → ℕ → Bytes → Type 0
AreMilestones milestones count condacts =
    (k : ℕ) → suc k * 8 < count → (milestone : ℕ) × (slice_get milestones k ≡ Some milestone) ×
    GoesOnAt (suc k * 8) condacts milestone

-- Another list begins with all numbers of a list.
abbrev pub BeginsWithList : (old new : List ℕ) → Type 0
BeginsWithList old new = (k x : ℕ) → slice_get old k ≡ Some x → slice_get new k ≡ Some x

-- The first of the milestones are those of the entry at the front.
abbrev pub EntryMilestones : List ℕ → Bytes → Type 0
EntryMilestones milestones [] = Unit {0}
EntryMilestones milestones (verb ∷ []) = Unit {0}
EntryMilestones milestones (verb ∷ noun ∷ []) = Unit {0}
EntryMilestones milestones (verb ∷ noun ∷ count ∷ condacts) = AreMilestones milestones count condacts

-- The milestones from those of an entry on.
abbrev pub milestones_of : Milestones → ℕ → List ℕ
milestones_of milestones entry = drop (slice_index milestones.firsts.items entry) milestones.milestones.items

-- The milestones of each entry of a table begin at its first one.
abbrev pub EntriesMilestones : (bytes : Bytes) (offsets firsts milestones : List ℕ) → Type 0
EntriesMilestones bytes offsets firsts milestones =
    (e p : ℕ) → slice_get offsets e ≡ Some p → EntryMilestones (drop (slice_index firsts e) milestones) (drop p bytes)

-- The entries of a table in an index have their milestones.
abbrev pub HasMilestones : Bytes → TableIndex → Type 0
HasMilestones bytes t = EntriesMilestones bytes t.entries.items t.milestones.firsts.items t.milestones.milestones.items

-- The condacts at the front of the rest, `left` of them, are those of an entry's condacts from number `at` on.
abbrev pub AreFrom : (at count : ℕ) → Bytes → (left : ℕ) → Bytes → Type 0
AreFrom at count condacts left rest = (k : ℕ) → condact_among k left rest ≡ condact_among (at + k) count condacts

-- They are those of the entry at the front of a row from number `at` on.
abbrev pub AreNth : (at : ℕ) → Bytes → (left : ℕ) → Bytes → Type 0
AreNth at row left rest = (k : ℕ) → condact_among k left rest ≡ nth_condact (at + k) row
