-- What the code keeps of a game's texts, and what a piece prints besides its tables.
use Rattle.std.specs.Prelude.{◌≡◌, ℕ, ◌+◌}
use Rattle.paw_base.specs.declared.messages.TheConstants.{SEEN_MESSAGE, NOTHING_THERE_MESSAGE, GOODBYE_MESSAGE}
use Rattle.paw_base.specs.declared.messages.TheConstants.{TIMEOUT_MESSAGE}
use Rattle.paw_game.specs.Game.{GameLists}
use Rattle.paw_check.specs.Bounds.{most_view, most_refusal, most_prompt}
use Rattle.paw_check.specs.Measures.{most_at, most_of, most_put, most_said}
use Rattle.paw_check.specs.Prints.{most_list, most_list_or_said, most_inventory, most_count, most_score, most_of_action}
use Rattle.paw_check.specs.declared.prints.Prints.{Prints}
use Rattle.paw_check.specs.inner.Capped.{HoldsCapped, in_32_bits}

-- What is kept is what the definitions give for this game.
pub record ArePrints (g : GameLists) (p : Prints) : Type 0 where
  pub system : HoldsCapped p.system (most_put g)
  pub messages : HoldsCapped p.messages (most_at g g.messages)
  pub any_system : p.any_system ≡ in_32_bits (most_of g g.system)
  pub any_message : p.any_message ≡ in_32_bits (most_of g g.messages)
  pub action : p.action ≡ in_32_bits (most_of_action g)
  pub inventory : p.inventory ≡ in_32_bits (most_inventory g)
  pub turns : p.turns ≡ in_32_bits (most_count g)
  pub score : p.score ≡ in_32_bits (most_score g)
  pub here : p.here ≡ in_32_bits (most_said g SEEN_MESSAGE + most_list g)
  pub there : p.there ≡ in_32_bits (most_list_or_said g NOTHING_THERE_MESSAGE)

-- What a round prints besides its tables.
abbrev pub most_outside : GameLists → ℕ
most_outside g = most_view g + most_refusal g

-- What a piece prints after its rounds.
abbrev pub most_end : GameLists → ℕ
most_end g = most_said g GOODBYE_MESSAGE + (most_said g TIMEOUT_MESSAGE + most_prompt g)
