use Rattle.paw_play.proofs.Names.{◌≡◌, ◌++◌, length, arith, ap, ◌∙◌, length-append, step_line}
use Rattle.paw_play.proofs.Lines.{put_whole}
use Rattle.paw_play.proofs.trace.put_step.Goals as goal

pub returns : goal.returns
returns c =
    let short = c.put_line-fits.ensures.short in
    let whole : c.put_line-fits.new.text ≡ c.args.text.now ++ step_line c.args.step =
    put_whole c.put_line-fits.result c.args.text.now c.put_line-fits.new.text (step_line c.args.step)
    c.put_line-fits.ensures.puts (omega (arith, c.requires.room, short)) in
    record { line = whole; short = omega (arith, short, ap length whole ∙ length-append c.args.text.now (step_line c.args.step)) }
