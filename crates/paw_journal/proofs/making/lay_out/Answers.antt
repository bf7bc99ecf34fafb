use Rattle.std.proofs.Common.{◌++◌, length, ap, ◌∙◌}
use Rattle.paw_stage.specs.Disk.{stable}
use Rattle.paw_journal.specs.Session.{made_header}
use Rattle.paw_journal.specs.inner.Session.{digests_of}
use Rattle.paw_journal.specs.inner.Writes.{LaysBlank}
use Rattle.paw_journal.proofs.Calls.{writes_failed}
use Rattle.paw_journal.proofs.Makes.{length_header, unmade_then}
use Rattle.paw_journal.proofs.making.lay_out.Goals as goal

pub write_slots-requires-clause-header : goal.write_slots-requires-clause-header
write_slots-requires-clause-header g c tells =
    ap length (c.in_ok-write_header.ensures.call.post (c.write_header.ensures.call.serves.tells.1 tells)).bytes
    ∙ length_header 0 (digests_of c.args.game.now c.args.rules.now) (c.told-game, c.told-rules)

pub returns-in_err-write_blank_mark : goal.returns-in_err-write_blank_mark
returns-in_err-write_blank_mark g c =
    record { call = writes_failed c.from_residual.ensures.1 c.in_err-write_blank_mark.ensures.call (λ tells m i. i) }

pub returns-in_err-write_header : goal.returns-in_err-write_header
returns-in_err-write_header g c =
    record {
      call = writes_failed c.from_residual-in_err-write_header.ensures.1
          (unmade_then {R = LaysBlank (made_header 0 (digests_of c.args.game.now c.args.rules.now))}
          c.in_ok-write_blank_mark.ensures.call c.in_err-write_header.ensures.call (λ tells p q. q)) (λ tells m i. i);
    }

pub returns : goal.returns
returns g c = record {
  call = unmade_then
      (unmade_then {R = LaysBlank (made_header 0 (digests_of c.args.game.now c.args.rules.now))}
      c.in_ok-write_blank_mark.ensures.call c.in_ok-write_header.ensures.call (λ tells p q. q))
      c.write_slots.ensures.call (λ tells p q. q ∙ ap (λ h. stable (h ++ c.args.bytes.now ++ c.args.bytes.now)) p.bytes);
}
