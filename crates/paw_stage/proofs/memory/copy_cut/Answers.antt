use Rattle.paw_stage.proofs.Lines.{is_cut}
use Rattle.paw_stage.proofs.memory.copy_cut.Goals as goal

pub returns : goal.returns
returns c = record {
  cut =
      is_cut c.args.line.now c.copy_from_slice.new.self _ c.min-n.result c.min-n.ensures c.copy_from_slice.ensures.after;
}
