-- What a phrase leaves of the pending bytes.
use Rattle.std.specs.Prelude.{◌≡◌, ◌⊎◌, ◌+◌, ◌≤◌, ℕ, [], length}
use Rattle.paw_base.specs.Bytes.{Bytes}
use Rattle.paw_game.specs.Game.{GameLists}
use Rattle.paw_phrase.specs.Sentence.{Parsed, IsSentence, IsUnknown, IsNoPhrase, phrase_parsed}

-- A fact of the bytes that a phrase leaves.
abbrev pub LeavesBytes : (Bytes → Type 0) → Parsed → Type 0
LeavesBytes P (IsSentence s rest) = P rest
LeavesBytes P (IsUnknown rest) = P rest
LeavesBytes P IsNoPhrase = Unit {0}

-- Nothing is left, or at least two bytes less.
abbrev pub IsTwoLess : Bytes → Bytes → Type 0
IsTwoLess pending rest = (rest ≡ []) ⊎ (length rest + 2 ≤ length pending)

-- So it is after each phrase that is taken.
abbrev pub PhrasesTakeTwo : Type 0
PhrasesTakeTwo = (g : GameLists) (pending : Bytes) (earlier noun adjective : ℕ)
    → LeavesBytes (IsTwoLess pending) (phrase_parsed g pending earlier noun adjective)
