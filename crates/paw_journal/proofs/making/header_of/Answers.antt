use Rattle.std.proofs.Common.{ap, ◌∙◌}
use Rattle.paw_stage.specs.Disk.{put_at}
use Rattle.paw_journal.specs.declared.layout.TheConstants.{ROUTINES_AT}
use Rattle.paw_journal.proofs.Makes.{header_is}
use Rattle.paw_journal.proofs.making.header_of.Goals as goal

pub returns : goal.returns
returns c = record {
  value = c.put_digest-2.ensures.value
      ∙ (ap (put_at ROUTINES_AT c.args.rules.now) c.put_digest.ensures.value ∙ header_is _ _ c.told-game c.told-rules);
}
