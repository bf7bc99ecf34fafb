-- The words of a command: words that contracts between crates and proofs use besides those of specs/Commands.antt.
use Rattle.std.specs.Prelude.{◌≡◌, Option, Some, None}
use Rattle.paw_top.specs.declared.commands.Command.{Command as Given}
use Rattle.paw_top.specs.declared.commands.Command.TheVariants as given
use Rattle.paw_top.specs.Commands.{Command, Compile, Decompile, Walk, Play, Resume, Trace, Trial, Check, Wrap}

-- What the code's command asks for.
abbrev pub command_meant : Given → Command
command_meant (given.Compile source image) = Compile source.now image.now
command_meant (given.Decompile image) = Decompile image.now
command_meant (given.Walk image seed) = Walk image.now seed
command_meant (given.Play image store seed) = Play image.now store.now seed
command_meant (given.Resume image store) = Resume image.now store.now
command_meant (given.Trace image seed) = Trace image.now seed
command_meant (given.Trial n) = Trial n
command_meant (given.Check image) = Check image.now
command_meant (given.Wrap width text) = Wrap width.columns text.now

-- The code's answer spells what is asked for.
abbrev pub SpellsCommand : Option Given → Option Command → Type 0
SpellsCommand None asked = asked ≡ None
SpellsCommand (Some command) asked = asked ≡ Some (command_meant command)
