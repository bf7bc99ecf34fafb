use Rattle.std.proofs.Common.{Ok, sym, ap, ◌∙◌}
use Rattle.paw_grammar.specs.inner.WordMap.{words_in}
use Rattle.paw_grammar.proofs.Entries.{put_in}
use Rattle.paw_grammar.proofs.vocabulary.put.Goals as goal

pub returns-in-Ok : goal.returns-in-Ok
returns-in-Ok c =
    record {
      gives = ap Ok (sym (ap words_in c.in-Ok.ensures.entries ∙ put_in c.args.words.now.entries c.args.word c.requires.fresh));
    }
