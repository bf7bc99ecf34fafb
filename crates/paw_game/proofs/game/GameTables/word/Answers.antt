use Rattle.std.proofs.Common.{◌≤◌}
use Rattle.paw_base.specs.declared.words.TheConstants.{PRONOUN_CLASS, LEAST_WORD, GREATEST_WORD}
use Rattle.paw_game.proofs.ValidGames.{IfSome-from}
use Rattle.paw_game.proofs.Meanings.{meaning_follows}
use Rattle.paw_game.proofs.game.GameTables.word.Goals as goal

pub returns-clause-low : goal.returns-clause-low
returns-clause-low c =
    let is = rw c.self.view_is at c.word_at.ensures.value in
    let valid = rw c.self.view_is at c.self.invariant in
    IfSome-from (λ m. LEAST_WORD ≤ m.0) c.word_at.result _ is (λ m e. (meaning_follows c.args.self.now valid c.args.letters.now m e).low)

pub returns-clause-high : goal.returns-clause-high
returns-clause-high c =
    let is = rw c.self.view_is at c.word_at.ensures.value in
    let valid = rw c.self.view_is at c.self.invariant in
    IfSome-from (λ m. m.0 ≤ GREATEST_WORD) c.word_at.result _ is (λ m e. (meaning_follows c.args.self.now valid c.args.letters.now m e).high)

pub returns-clause-class : goal.returns-clause-class
returns-clause-class c =
    let is = rw c.self.view_is at c.word_at.ensures.value in
    let valid = rw c.self.view_is at c.self.invariant in
    IfSome-from (λ m. m.1 ≤ PRONOUN_CLASS) c.word_at.result _ is (λ m e. (meaning_follows c.args.self.now valid c.args.letters.now m e).class)
