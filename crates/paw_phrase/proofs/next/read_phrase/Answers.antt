use Rattle.std.proofs.Common.{Some, None, sym, ap, ◌∙◌, arith, length-drop}
use Rattle.std.proofs.lemmas.List.{take_rest}
use Rattle.paw_phrase.specs.declared.Found.TheVariants as found
use Rattle.paw_phrase.specs.Phrase.{lexemes}
use Rattle.paw_phrase.specs.Sentence.{phrase_parsed}
use Rattle.paw_phrase.proofs.Drafts.{along, along-started, along-lexeme, along-end}
use Rattle.paw_phrase.proofs.next.read_phrase.Goals as goal

pub loop-lexeme-init : goal.loop-lexeme-init
loop-lexeme-init g c =
    let game = g.T.Tables.game c.args.tables.now in
    let s = c.args.bytes.now in (
      omega arith,
      λ e. sym (ap (λ x. along game e (lexemes s) (record { found = found.Empty; words = x })) c.blank.ensures.value
          ∙ along-started game s e c.args.noun c.args.adjective),
    )

pub loop-lexeme-preserved : goal.loop-lexeme-preserved
loop-lexeme-preserved g c =
    let game = g.T.Tables.game c.args.tables.now in
    let s = c.args.bytes.now in
    let within = rw (take_rest s c.loop-lexeme.end) at c.in-Some.ensures.within in (
      omega (arith, length-drop c.loop-lexeme.end s, within),
      λ e. along-lexeme game e s c.loop-lexeme.end c.in-Some.lexeme.end c.in-Some.lexeme.token c.loop-lexeme.draft c.part_of.result (Some c.in-Some-with.longer)
          (phrase_parsed game s e c.args.noun c.args.adjective) (c.loop-lexeme.invariant.1 e) c.in-Some.ensures.value c.part_of.ensures.value
          c.in-Some-with.ensures.value,
    )

pub returns-in-None-clause-value : goal.returns-in-None-clause-value
returns-in-None-clause-value g c e =
    let game = g.T.Tables.game c.args.tables.now in
    let s = c.args.bytes.now in
    along-lexeme game e s c.loop-lexeme.end c.in-Some.lexeme.end c.in-Some.lexeme.token c.loop-lexeme.draft c.part_of.result None
    (phrase_parsed game s e c.args.noun c.args.adjective) (c.loop-lexeme.invariant.1 e) c.in-Some.ensures.value c.part_of.ensures.value c.in-None.ensures.value

pub returns-clause-value : goal.returns-clause-value
returns-clause-value g c e =
    let game = g.T.Tables.game c.args.tables.now in
    let s = c.args.bytes.now in
    along-end game e s c.loop-lexeme.end c.loop-lexeme.draft (phrase_parsed game s e c.args.noun c.args.adjective)
    (c.loop-lexeme.invariant.1 e) c.in_default.ensures.value
