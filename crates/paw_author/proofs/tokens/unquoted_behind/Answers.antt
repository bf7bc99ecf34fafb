use Rattle.std.proofs.Common.{sym, append-nil, ◌∙◌, ap, ◌++◌}
use Rattle.paw_base.specs.Bytes.{Bytes}
use Rattle.paw_author.proofs.Quoted.{none_unquoted, text_ended, said_byte, said_nothing, said_quote}
use Rattle.paw_author.proofs.tokens.unquoted_behind.Goals as goal
use Rattle.paw_author.proofs.tokens.unquoted_behind.Goals.{then-byte-ne34+else-not-inside+in_ok-push, else-byte-ne34+then-inside, else-byte-ne34+else-inside+in_ok-push-2}

pub returns-then-not-inside : goal.returns-then-not-inside
returns-then-not-inside c = record {
  value = text_ended c.loop-byte.bytes.items c.args.rest.now c.loop-byte.byte-index c.loop-byte.inside _ c.loop-byte-test.true
      c.if-byte-ne34.true c.if-not-inside.true c.loop-byte.invariant;
}

pub loop-byte-preserved : goal.loop-byte-preserved
loop-byte-preserved c =
    let before = c.loop-byte.bytes.items in
    let now = c.if-byte-ne34.bytes.items in
    let text = c.args.rest.now in
    let i = c.loop-byte.byte-index in
    let inside = c.loop-byte.inside in
    let next = c.if-byte-ne34.inside in
    elim c.if-byte-ne34.branch [
      | then-byte-ne34+else-not-inside+in_ok-push w ↦ said_byte before now text i inside next _ c.loop-byte-test.true
          w.if-byte-ne34.true w.if-not-inside.false w.inside-is (rw w.bytes-is w.in_ok-push.ensures.items) c.loop-byte.invariant
      | else-byte-ne34+then-inside w ↦ said_nothing before now text i inside next _ c.loop-byte-test.true
          w.if-byte-ne34.false w.if-inside.true w.inside-is (ap (λ v. v.items) w.bytes-is) c.loop-byte.invariant
      | else-byte-ne34+else-inside+in_ok-push-2 w ↦ said_quote before now text i inside next _ c.loop-byte-test.true
          w.if-byte-ne34.false w.if-inside.false w.inside-is (rw w.bytes-is w.in_ok-push-2.ensures.items) c.loop-byte.invariant
    ]

pub returns : goal.returns
returns c = record {
  value = sym (append-nil c.loop-byte.bytes.items)
      ∙ ap (λ (more : Bytes). c.loop-byte.bytes.items ++ more) (sym (none_unquoted c.loop-byte.inside c.args.rest.now c.loop-byte.byte-index c.loop-byte-test.false))
      ∙ c.loop-byte.invariant;
}
