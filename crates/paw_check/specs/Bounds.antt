-- What a piece of any play takes at most.
use Rattle.std.specs.Prelude.{ℕ, ◌+◌, ◌*◌, ◌/◌, max, [], ◌∷◌, map}
use Rattle.paw_base.specs.declared.limits.TheConstants.{LINE_LIMIT}
use Rattle.paw_base.specs.declared.messages.TheConstants.{DARK_MESSAGE, UNKNOWN_MESSAGE, NO_WAY_MESSAGE}
use Rattle.paw_base.specs.declared.messages.TheConstants.{IMPOSSIBLE_MESSAGE, GOODBYE_MESSAGE, LINE_MESSAGE}
use Rattle.paw_base.specs.declared.messages.TheConstants.{TIMEOUT_MESSAGE}
use Rattle.paw_game.specs.Game.{GameLists}
use Rattle.paw_check.specs.Measures.{greatest, most_of, most_put, most_said}
use Rattle.paw_check.specs.Prints.{most_text}
use Rattle.paw_check.specs.Costs.{round_cost}

-- The most phrases of a line: each has at least one byte, and at least one byte stands between two of them.
abbrev pub most_phrases : ℕ
most_phrases = (LINE_LIMIT + 1) / 2

-- The most readings of a turn's tables for a piece: one for each phrase, and one for what was open when it began.
abbrev pub most_rounds : ℕ
most_rounds = most_phrases + 1

-- The most condacts that are read for a piece.
abbrev pub most_condacts : GameLists → ℕ
most_condacts g = most_rounds * round_cost g (λ c. 1)

-- The most bytes that describe a location, or say that it is dark.
abbrev pub most_view : GameLists → ℕ
most_view g = max (most_put g DARK_MESSAGE) (most_of g g.locations) + 1

-- The most bytes that say why a phrase isn't carried out.
abbrev pub most_refusal : GameLists → ℕ
most_refusal g =
    greatest (map (most_put g) (UNKNOWN_MESSAGE ∷ NO_WAY_MESSAGE ∷ IMPOSSIBLE_MESSAGE ∷ [])) + 1

-- The most bytes of a round: those of its tables, of a view and of a refusal.
abbrev pub most_round_text : GameLists → ℕ
most_round_text g = round_cost g (most_text g) + (most_view g + most_refusal g)

-- The most bytes of the prompt: any system message, since a flag names it, and the sign at which a line is typed.
abbrev pub most_prompt : GameLists → ℕ
most_prompt g = most_of g g.system + 1 + most_put g LINE_MESSAGE

-- The most bytes of a piece: its rounds, the goodbye of a game that is over, what a timeout says, and the prompt.
abbrev pub most_piece : GameLists → ℕ
most_piece g =
    most_rounds * most_round_text g + (most_said g GOODBYE_MESSAGE + (most_said g TIMEOUT_MESSAGE + most_prompt g))
