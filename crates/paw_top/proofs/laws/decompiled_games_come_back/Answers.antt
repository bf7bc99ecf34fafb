use Rattle.paw_top.proofs.Back.{comes_back}
use Rattle.paw_top.proofs.laws.decompiled_games_come_back.Goals as goal

pub returns : goal.returns
returns c = record { comes_back = comes_back c.canonical_spells_its_game.ensures.spells }
