use Rattle.std.proofs.Common.{refl, arith}
use Rattle.std.proofs.lemmas.Bool.Decides.{nat_tests}
use Rattle.paw_base.specs.Condacts.{condact_lines, line_of, plain_line, is_plain_code, is_indirect}
use Rattle.paw_effects.specs.Meanings.{meanings, meaning_of}
use Rattle.paw_reading.proofs.tests.second_noun_is.Goals as goal

pub test-requires-clause-kind : goal.test-requires-clause-kind
unfolding meanings meaning_of is_indirect
test-requires-clause-kind c = refl

pub test-requires-clause-condact : goal.test-requires-clause-condact
unfolding condact_lines line_of plain_line is_plain_code is_indirect
test-requires-clause-condact c = grind (arith, nat_tests)
