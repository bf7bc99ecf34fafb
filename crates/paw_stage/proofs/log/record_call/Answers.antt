use Rattle.std.proofs.Common.{◌≡◌, length, arith}
use Rattle.paw_stage.specs.declared.log.Call.{Call}
use Rattle.paw_stage.proofs.Logs.{all_done-push, laid-push}
use Rattle.paw_stage.proofs.log.record_call.Goals as goal

pub returns-clause-laid : goal.returns-clause-laid
returns-clause-laid c =
    let call : Call = record { kind = c.args.kind; from = c.len-from.result; mid = c.len-mid.result; to = c.len-to.result } in
    let from : c.len-from.result ≡ length c.args.room.now.items = omega (arith, c.args.room.now.ok.0) in
    let to : c.len-to.result ≡ length c.append-2.new.v.items = omega (arith, c.append-2.new.v.ok.0) in
    rw c.append_call.ensures.items (laid-push c.args.calls.now.items call 0 (length c.args.room.now.items)
    (length c.append-2.new.v.items) c.requires.laid from (omega arith) (omega arith) to)

pub returns-clause-done : goal.returns-clause-done
returns-clause-done c =
    let call : Call = record { kind = c.args.kind; from = c.len-from.result; mid = c.len-mid.result; to = c.len-to.result } in
    let from : c.len-from.result ≡ length c.args.room.now.items = omega (arith, c.args.room.now.ok.0) in
    rw (c.append_call.ensures.items, c.append-2.ensures.items, c.append.ensures.items) (
    all_done-push c.args.room.now.items c.args.name.now c.args.bytes.now c.args.calls.now.items call 0 c.requires.laid
    from (omega (arith, from)) (omega (arith, from))
    )
