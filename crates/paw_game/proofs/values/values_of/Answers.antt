use Rattle.paw_game.proofs.TableOfValues.{AreValuesOf-none}
use Rattle.paw_game.proofs.values.values_of.Goals as goal

pub loop-word-init : goal.loop-word-init
loop-word-init c = AreValuesOf-none c.args.words.now c.args.class
