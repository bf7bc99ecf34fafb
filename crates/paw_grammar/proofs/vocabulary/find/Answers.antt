use Rattle.std.proofs.Common.{option_map, ap, ◌∙◌}
use Rattle.paw_grammar.specs.declared.vocabulary.WordMeaning.{WordMeaning}
use Rattle.paw_grammar.specs.inner.WordMap.{word_from}
use Rattle.paw_grammar.proofs.Entries.{found}
use Rattle.paw_grammar.proofs.vocabulary.find.Goals as goal

pub returns-in-None : goal.returns-in-None
returns-in-None c =
    record {
      value = ap (option_map (λ (m : WordMeaning). word_from (c.args.letters, m))) c.in-None.ensures.value ∙ found c.args.words.now.entries c.args.letters;
    }

pub returns-in-Some : goal.returns-in-Some
returns-in-Some c =
    record {
      value = ap (option_map (λ (m : WordMeaning). word_from (c.args.letters, m))) c.in-Some.ensures.value ∙ found c.args.words.now.entries c.args.letters;
    }
