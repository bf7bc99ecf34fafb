-- The entries of a table in order of verb and noun, and what is looked up in it.
use Rattle.std.specs.Prelude.{◌≡◌, ℕ, suc, ◌+◌, ◌*◌, ◌≤◌, ◌<◌, ◌&&◌, ◌||◌, ◌==◌, Bool, List, [], ◌∷◌}
use Rattle.std.specs.Prelude.{length, Option, Some, None, IsTrue, slice_get, slice_index, min, if◌then◌else◌}
use Rattle.std.specs.List.{AllWithin, Contains}
use Rattle.std.specs.List.Sorted.{IsPermutation, IsNonDecreasing, IsPartitionPoint}
use Rattle.paw_base.specs.Bytes.{Bytes}
use Rattle.paw_base.specs.declared.limits.TheConstants.{ENTRY_LIMIT}
use Rattle.paw_base.specs.declared.words.TheConstants.{NO_WORD}
use Rattle.paw_game.specs.declared.parts.Entry.{Entry}
use Rattle.paw_game.specs.Valid.{is_wildcard}
use Rattle.paw_image.specs.declared.order.Order.{Order}
use Rattle.paw_image.specs.inner.Images.{EachIsByte}

-- ---- ranks ----

-- The word that stands in the index for an entry's word: the same for both words that match any.
abbrev pub indexed_word : ℕ → ℕ
indexed_word word = if is_wildcard word then NO_WORD else word

-- A rank by verb, then by noun, then by the number of the entry.
abbrev pub entry_rank : ℕ → ℕ → ℕ → ℕ
entry_rank verb noun entry = (verb * 256 + noun) * 65536 + entry

-- The ranks of the entries that begin at each of these offsets, numbered from n on.
abbrev pub ranks_at : Bytes → ℕ → List ℕ → List ℕ
ranks_at bytes n [] = []
ranks_at bytes n (p ∷ ps) =
    entry_rank (indexed_word (slice_index bytes p)) (indexed_word (slice_index bytes (p + 1))) n
    ∷ ranks_at bytes (suc n) ps

-- The same for entries.
abbrev pub ranks_of : ℕ → List Entry → List ℕ
ranks_of n [] = []
ranks_of n (e ∷ es) = entry_rank (indexed_word e.verb) (indexed_word e.noun) n ∷ ranks_of (suc n) es

-- ---- the order ----

-- Before this index stand ranks with a verb below this one.
abbrev pub IsBefore : List ℕ → ℕ → ℕ → Type 0
IsBefore ranks verb index = (index ≤ length ranks) × AllWithin (λ r. r < entry_rank verb 0 0) ranks 0 index

-- Before this index stand the ranks with a verb below this one, and no others.
pub record IsStart (ranks : List ℕ) (verb start : ℕ) : Type 0 where
  pub within : start ≤ length ranks
  pub parts : IsPartitionPoint (λ r. r < entry_rank verb 0 0) (λ r. entry_rank verb 0 0 ≤ r) ranks start

-- There is such an index for each verb, and one after the last.
pub record AreStarts (ranks starts : List ℕ) : Type 0 where
  pub long : length starts ≡ 257
  pub each : (verb : ℕ) → verb ≤ 256 → IsStart ranks verb (slice_index starts verb)

-- The ranks with this verb, in order.
pub record IsRun (ranks : List ℕ) (verb : ℕ) (run : List ℕ) : Type 0 where
  pub rises : IsNonDecreasing run
  pub inside : (r : ℕ) → Contains run r → Contains ranks r
  pub whole : (r : ℕ) → Contains ranks r → entry_rank verb 0 0 ≤ r → r < entry_rank (suc verb) 0 0 → Contains run r

-- ---- what is looked up ----

-- The first number with a property; None where no number has it.
abbrev pub IsLeast : (ℕ → Type 0) → Option ℕ → Type 0
IsLeast P None = (e : ℕ) → P e → ⊥
IsLeast P (Some e) = P e × ((f : ℕ) → P f → e ≤ f)

-- Whether a word of the index matches the value of a flag.
abbrev pub is_indexed_for : ℕ → ℕ → Bool
is_indexed_for word flag = (word == NO_WORD) || (word == flag)

-- Whether a verb and a noun of the index match this verb and noun.
abbrev pub is_match : ℕ → ℕ → ℕ → ℕ → Bool
is_match verb noun v n = is_indexed_for v verb && is_indexed_for n noun

-- Whether they are this verb and noun themselves.
abbrev pub is_pair : ℕ → ℕ → ℕ → ℕ → Bool
is_pair verb noun v n = (v == verb) && (n == noun)

-- An entry that isn't below `from`, whose verb and noun in the index have a property.
pub record IsMatch (ranks : List ℕ) (has : ℕ → ℕ → Bool) (from e : ℕ) : Type 0 where
  pub reached : from ≤ e
  pub verb : ℕ
  pub noun : ℕ
  pub low : noun < 256
  pub few : e < 65536
  pub is : Contains ranks (entry_rank verb noun e)
  pub matching : IsTrue (has verb noun)

-- The lower of two numbers, or the one that is there.
abbrev pub lower : Option ℕ → Option ℕ → Option ℕ
lower None b = b
lower (Some a) None = Some a
lower (Some a) (Some b) = Some (min a b)

-- The list says for each entry which one comes next, from it on, that matches any verb and any noun; past its end none
-- does.
abbrev pub IsNextAny : (ranks next : List ℕ) → Type 0
IsNextAny ranks next = (from : ℕ) → IsLeast (IsMatch ranks (is_pair NO_WORD NO_WORD) from) (slice_get next from)

-- ---- the whole index ----

-- The ranks rise, and the two lists beside them are theirs.
pub record IsSorted (order : Order) : Type 0 where
  pub rises : IsNonDecreasing order.ranks.items
  pub starts : AreStarts order.ranks.items order.starts.items
  pub next_any : IsNextAny order.ranks.items order.next_any.items

-- The ranks of the entries at these offsets, sorted. They are not too many, and each byte is one, so that a rank gives
-- the verb, the noun and the number.
pub record IsOrder (bytes : Bytes) (offsets : List ℕ) (order : Order) : Type 0 where
  pub same : IsPermutation (ranks_at bytes 0 offsets) order.ranks.items
  pub few : length offsets ≤ ENTRY_LIMIT
  pub fits : EachIsByte bytes
  pub sorted : IsSorted order
