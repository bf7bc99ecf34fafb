use Rattle.std.proofs.Common.{arith}
use Rattle.paw_base.proofs.Table.{code_within}
use Rattle.paw_grammar.proofs.condacts.indirect_code.Goals as goal

pub overflow_add-result : goal.overflow_add-result
overflow_add-result c = let within = code_within c.args.plain c.requires.plain in omega (arith, within)
