use Rattle.paw_reading.specs.Turn.{reading}
use Rattle.paw_top.specs.Walk.{reading_traced}
use Rattle.paw_top.proofs.Completing.{completes_compile, completes_told, completes_walk, completes_wrap}
use Rattle.paw_top.proofs.CompletingSessions.{completes_play, completes_resume}
use Rattle.paw_top.proofs.Trying.{completes_trial}
use Rattle.paw_top.proofs.completeness.commands_complete.Goals as goal

pub returns : goal.returns
returns c = record {
  completes = record {
    compile = λ source target old new o h free. completes_compile source target old new o h free;
    decompile = λ image old new o h free. completes_told image old new o h free;
    walk = λ answers image seed old new o h free. completes_walk reading answers image seed old new o h free;
    play = λ answers image store seed old new o h free. completes_play answers image store seed old new o h free;
    resume = λ answers image store old new o h free. completes_resume answers image store old new o h free;
    trace = λ answers image seed old new o h free. completes_walk reading_traced answers image seed old new o h free;
    trial = λ n old new o h free. completes_trial n old new o h free;
    check = λ image old new o h free. completes_told image old new o h free;
    wrap = λ width text old new o h free. completes_wrap width text old new o h free;
  };
}
