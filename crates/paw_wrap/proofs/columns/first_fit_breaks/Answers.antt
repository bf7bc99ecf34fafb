use Rattle.std.proofs.Common.{arith}
use Rattle.paw_wrap.proofs.Scanning.{word_in, begins, past_line_feed, past_break, past_space, all_found}
use Rattle.paw_wrap.proofs.columns.first_fit_breaks.Goals as goal

pub loop-at-init : goal.loop-at-init
loop-at-init c =
    rw c.new-breaks.ensures.items (begins c.args.width c.word_length-at.result c.args.text.now c.word_length-at.ensures.value c.word_length-at.ensures.within)

pub loop-at-preserved-then-text-at-eq-LINE_FEED : goal.loop-at-preserved-then-text-at-eq-LINE_FEED
loop-at-preserved-then-text-at-eq-LINE_FEED c =
    past_line_feed _ _ _ _ _ _ c.loop-at.invariant c.loop-at-test.true
    (word_in _ _ _ c.loop-at-test.true c.word_length.ensures.value c.word_length.ensures.within) c.if-text-at-eq-LINE_FEED.true

pub loop-at-preserved-in_ok-push : goal.loop-at-preserved-in_ok-push
loop-at-preserved-in_ok-push c =
    rw c.in_ok-push.ensures.items
    (past_break _ _ _ _ _ _ c.loop-at.invariant c.loop-at-test.true
    (word_in _ _ _ c.loop-at-test.true c.word_length.ensures.value c.word_length.ensures.within) c.if-text-at-eq-LINE_FEED.false
    (omega (arith, c.if-end-line.true, c.from.ensures)))

pub loop-at-preserved : goal.loop-at-preserved
loop-at-preserved c =
    past_space _ _ _ _ _ _ c.loop-at.invariant c.loop-at-test.true
    (word_in _ _ _ c.loop-at-test.true c.word_length.ensures.value c.word_length.ensures.within) c.if-text-at-eq-LINE_FEED.false
    (omega (arith, c.if-end-line.false, c.from.ensures))

pub returns : goal.returns
returns c = record { value = all_found _ _ _ _ _ c.loop-at.invariant c.loop-at-test.false }
