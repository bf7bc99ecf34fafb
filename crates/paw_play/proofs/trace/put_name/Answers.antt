use Rattle.paw_play.proofs.Names.{sym, subst, Text, Puts}
use Rattle.paw_play.proofs.Lines.{no_name}
use Rattle.paw_play.proofs.trace.put_name.Goals as goal

pub returns-in-None : goal.returns-in-None
returns-in-None c =
    record {
      puts = subst (λ (t : Text). Puts c.args.text.now c.push-in-None.new.self c.push-in-None.result t)
          (sym (no_name c.args.code c.in-None.ensures.value)) c.push-in-None.ensures.puts;
    }
