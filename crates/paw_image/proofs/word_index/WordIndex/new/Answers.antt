use Rattle.std.proofs.Common.{length, nat_le}
use Rattle.std.specs.List.{list_all}
use Rattle.paw_base.specs.declared.limits.TheConstants.{WORD_LIMIT}
use Rattle.paw_game.specs.Valid.{is_word}
use Rattle.paw_game.proofs.ValidGames.{second_of_and}
use Rattle.paw_image.proofs.GroupLaws.{groups_rise}
use Rattle.paw_image.proofs.word_index.WordIndex.new.Goals as goal

pub starts_of-requires-clause-rise : goal.starts_of-requires-clause-rise
starts_of-requires-clause-rise c =
    let words = c.args.words.items in
    rw c.deref.ensures.value
    (groups_rise words (second_of_and (list_all is_word words) _ (second_of_and (nat_le (length words) WORD_LIMIT) _ c.requires.valid)))
