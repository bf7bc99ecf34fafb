-- What is seen of the rows of the largest game, one by one.
use Rattle.std.proofs.Common.{◌≡◌, true, ◌++◌, refl}
use Rattle.std.specs.List.{list_all}
use Rattle.std.specs.Fmt.{digits}
use Rattle.paw_game.specs.Valid.{is_text, is_word, words_rise}
use Rattle.paw_gen.specs.Trial.{rows, named_words, object_word, system_text, trial_location_text, trial_object_text}

pub all_words : list_all is_word (named_words ++ rows 109 object_word) ≡ true
all_words = refl

pub all_rise : words_rise (named_words ++ rows 109 object_word) ≡ true
all_rise = refl

pub system_texts : list_all is_text (rows 54 system_text) ≡ true
unfolding digits
system_texts = refl

pub location_texts : list_all is_text (rows 219 trial_location_text) ≡ true
unfolding digits
location_texts = refl

pub object_texts : list_all is_text (rows 109 trial_object_text) ≡ true
unfolding digits
object_texts = refl
