use Rattle.std.proofs.Common.{rules, ap, map, string_bytes}
use Rattle.paw_routines.proofs.ProgramAnswers.{given_stand}
use Rattle.paw_stage.specs.inner.Memory.{standing_of}
use Rattle.paw_top.specs.Commands.{command_of}
use Rattle.paw_page.proofs.Routines.{if_some, program_stands}
use Rattle.paw_page.proofs.asking.run.Goals as goal

pub new-routines-requires : goal.new-routines-requires
new-routines-requires c = record { answers = given_stand _ _ (λ n x below small. tt) (λ n x y below small byte called. search rules) }

pub returns : goal.returns
returns c = record {
  does = record {
    usage = c.paw.ensures.usage;
    idle = λ none. ap standing_of (c.paw.ensures.idle none);
    memory = c.paw.ensures.memory;
    comes = if_some _ _ (command_of (map string_bytes c.args.words.now))
        (λ command h answers are. h answers (c.new-routines.ensures.answers answers
        (program_stands _ _ answers are (λ n x below small. tt) (λ n x y below small byte called. search rules))))
        (c.paw.ensures.comes tt);
  };
}
