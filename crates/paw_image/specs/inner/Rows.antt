-- One row, read where it stands at the front of some bytes.
use Rattle.std.specs.Prelude.{ℕ, zero, suc, ◌-◌, ◌==◌, [], ◌∷◌, length, take}
use Rattle.std.specs.Prelude.{Option, Some, None, Ok, Err, nat_lt, if◌then◌else◌}
use Rattle.paw_base.specs.Bytes.{Bytes}
use Rattle.paw_base.specs.declared.parts.Condact.{Condact}
use Rattle.paw_base.specs.declared.parts.ObjectFacts.{ObjectFacts}
use Rattle.paw_game.specs.declared.parts.Exit.{Exit}
use Rattle.paw_image.specs.Damage.{Passing, each}
use Rattle.paw_read_error.specs.Bind.{◌>>=◌}
use Rattle.paw_image.specs.Reading.{Reading}
use Rattle.paw_image.specs.inner.Reading.{sized_text_at, leading_facts, leading_condact}

-- The value that was read, where there is one.
abbrev pub value_of : {A : Type 0} → Reading A → Option A
value_of (Ok x) = Some x.0
value_of (Err left) = None

-- The facts of an object whose text stands at the front.
abbrev pub after_text_facts : Bytes → Reading ObjectFacts
after_text_facts bytes = sized_text_at bytes >>= λ text. leading_facts text.1

-- The facts of the object at the front.
unfoldable pub facts_here : Bytes → Option ObjectFacts
facts_here bytes = value_of (after_text_facts bytes)

-- The exit at the front, and the bytes after it.
abbrev pub exit_here : Bytes → Option (Exit × Bytes)
exit_here [] = None
exit_here (verb ∷ []) = None
exit_here (verb ∷ to ∷ bytes) = Some (record { verb = verb; to = to }, bytes)

-- Where the exit at the front leads if it has this verb; otherwise what the bytes after it give.
abbrev pub exit_or_next : ℕ → (Bytes → Option ℕ) → Option (Exit × Bytes) → Option ℕ
exit_or_next verb others None = None
exit_or_next verb others (Some x) = if x.0.verb == verb then Some x.0.to else others x.1

-- Where the first of n exits with this verb leads.
unfoldable pub exit_in : ℕ → ℕ → Bytes → Option ℕ
exit_in verb zero bytes = None
exit_in verb (suc n) bytes = exit_or_next verb (exit_in verb n) (exit_here bytes)

-- Where the exit for a verb leads, among the exits at the front.
unfoldable pub exits_here : ℕ → Bytes → Option ℕ
exits_here verb [] = None
exits_here verb (count ∷ bytes) = exit_in verb count bytes

-- The verb and the noun of the entry at the front, and how many condacts it has.
unfoldable pub head_here : Bytes → Option ((ℕ × ℕ) × ℕ)
head_here [] = None
head_here (verb ∷ []) = None
head_here (verb ∷ noun ∷ []) = None
head_here (verb ∷ noun ∷ count ∷ bytes) = Some ((verb, noun), count)

-- The bytes after a condact.
abbrev pub past_condact : Bytes → Passing
past_condact bytes = leading_condact bytes >>= λ x. Ok x.1

-- The condact after this number of condacts.
abbrev pub condact_after : ℕ → Bytes → Reading Condact
condact_after count bytes = each past_condact count bytes >>= leading_condact

-- One of this number of condacts.
abbrev pub condact_among : ℕ → ℕ → Bytes → Option Condact
condact_among at count bytes = if nat_lt at count then value_of (condact_after at bytes) else None

-- A condact of the entry at the front.
unfoldable pub nth_condact : ℕ → Bytes → Option Condact
nth_condact at [] = None
nth_condact at (verb ∷ []) = None
nth_condact at (verb ∷ noun ∷ []) = None
nth_condact at (verb ∷ noun ∷ count ∷ bytes) = condact_among at count bytes

-- A row up to its rest.
abbrev pub up_to : Bytes → Passing → Option Bytes
up_to row (Ok after) = Some (take (length row - length after) row)
up_to row (Err left) = None

-- The bytes of the entry at the front.
unfoldable pub entry_here : Bytes → Option Bytes
entry_here [] = None
entry_here (verb ∷ []) = None
entry_here (verb ∷ noun ∷ []) = None
entry_here (verb ∷ noun ∷ count ∷ bytes) = up_to (verb ∷ noun ∷ count ∷ bytes) (each past_condact count bytes)
