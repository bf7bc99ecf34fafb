use Rattle.std.proofs.Common.{◌∙◌, ap, refl, sym}
use Rattle.std.specs.Option.{option_copied}
use Rattle.paw_game.proofs.Search.{found_is, missing_is}
use Rattle.paw_image.proofs.NumberLaws.{as_many, found_by_number}
use Rattle.paw_image.proofs.word_index.WordIndex.find.Goals as goal

pub returns-in_err-at : goal.returns-in_err-at
returns-in_err-at c =
    let group = c.group.result in
    let found = found_by_number c.args.letters.now group.0.now group.1.now c.letters_as_number.ensures.five c.group.ensures.numbers
    c.binary_search.result c.binary_search.ensures.bound (rw c.letters_as_number.ensures.value at c.binary_search.ensures.position) in
    record {
      value = ap option_copied c.from_residual.ensures
          ∙ sym (missing_is c.args.letters.now group.0.now c.binary_search.result c.group.ensures.group.rise found c.in_err-at.ensures.value)
          ∙ c.group.ensures.group.same c.args.letters.now refl;
    }

pub returns : goal.returns
returns c =
    let group = c.group.result in
    let found = found_by_number c.args.letters.now group.0.now group.1.now c.letters_as_number.ensures.five c.group.ensures.numbers
    c.binary_search.result c.binary_search.ensures.bound (rw c.letters_as_number.ensures.value at c.binary_search.ensures.position) in
    record {
      value = (found_is c.args.letters.now group.0.now c.binary_search.result c.in_ok-at.at _ c.group.ensures.group.rise
          (rw (as_many group.0.now group.1.now c.group.ensures.numbers) at c.binary_search.ensures.bound) found c.in_ok-at.ensures.value)
          ∙ c.group.ensures.group.same c.args.letters.now refl;
    }
