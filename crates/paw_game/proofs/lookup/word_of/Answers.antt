use Rattle.std.proofs.Common.{◌∙◌, ap, rules, sym}
use Rattle.std.specs.Option.{option_copied}
use Rattle.std.proofs.lemmas.List.Sorted.{answers_always}
use Rattle.paw_game.proofs.Search.{found_is, missing_is}
use Rattle.paw_game.proofs.lookup.word_of.Goals as goal

pub returns-in_err-at : goal.returns-in_err-at
returns-in_err-at c =
    let found = c.binary_search_by_key.ensures.position (λ w. w.letters) (answers_always _ _ _ (λ f a r g h. search rules)) in
    record {
      value = ap option_copied c.from_residual.ensures
          ∙ sym (missing_is c.args.letters.now c.args.words.now c.binary_search_by_key.result c.requires.sorted found c.in_err-at.ensures.value);
    }

pub returns : goal.returns
returns c =
    let found = c.binary_search_by_key.ensures.position (λ w. w.letters) (answers_always _ _ _ (λ f a r g h. search rules)) in
    record {
      value = found_is c.args.letters.now c.args.words.now c.binary_search_by_key.result c.in_ok-at.at _
          c.requires.sorted c.binary_search_by_key.ensures.bound found c.in_ok-at.ensures.value;
    }
