-- The words of a game by their first letters.
use Rattle.std.specs.Prelude.{◌≡◌, ℕ, ◌+◌, ◌≤◌, ◌<◌, List, length, min, IsTrue, slice_index}
use Rattle.std.specs.List.{AllWithin}
use Rattle.std.specs.List.Sorted.{IsNonDecreasingBy, IsPartitionPoint}
use Rattle.paw_base.specs.Bytes.{Bytes}
use Rattle.paw_game.specs.declared.parts.Word.{Word}
use Rattle.paw_game.specs.Tables.{word_of}
use Rattle.paw_game.specs.Valid.{words_rise}
use Rattle.paw_image.specs.declared.word_index.TheConstants.{LAST_GROUP}
use Rattle.paw_image.specs.inner.Numbers.{AreNumbers}

-- The group of a first letter: its byte; all past Z are in the last group.
abbrev pub group_of : ℕ → ℕ
group_of letter = min letter LAST_GROUP

-- The group of a word with these letters.
abbrev pub first_group : Bytes → ℕ
first_group letters = group_of (slice_index letters 0)

-- The words stand in order of their groups.
abbrev pub GroupsRise : List Word → Type 0
GroupsRise words = IsNonDecreasingBy (λ w. first_group w.letters) words

-- Before this index stand words of groups below this one.
abbrev pub AreBelowGroup : List Word → ℕ → ℕ → Type 0
AreBelowGroup words group index = (index ≤ length words) × AllWithin (λ w. first_group w.letters < group) words 0 index

-- Before this index stand the words of groups below this one, and no others.
pub record IsGroupStart (words : List Word) (group start : ℕ) : Type 0 where
  pub within : start ≤ length words
  pub parts : IsPartitionPoint (λ w. first_group w.letters < group) (λ w. group ≤ first_group w.letters) words start

-- There is such an index for each group, and one after the last.
pub record AreGroupStarts (words : List Word) (starts : List ℕ) : Type 0 where
  pub long : length starts ≡ LAST_GROUP + 2
  pub each : (group : ℕ) → group ≤ LAST_GROUP + 1 → IsGroupStart words group (slice_index starts group)

-- Words in order of their letters, the letters of each as a number, and where those of each group begin.
pub record IsWordIndex (words : List Word) (numbers : List ℕ) (starts : List ℕ) : Type 0 where
  pub rise : IsTrue (words_rise words)
  pub numbered : AreNumbers words numbers
  pub grouped : AreGroupStarts words starts

-- These words are in order, and a search among them for letters of a group finds what a search among all words finds.
pub record IsGroup (words : List Word) (group : ℕ) (run : List Word) : Type 0 where
  pub rise : IsTrue (words_rise run)
  pub same : (letters : Bytes) → first_group letters ≡ group → word_of letters run ≡ word_of letters words
