use Rattle.std.proofs.Common.{◌≡◌, ◌≤◌, ℕ, List, length, drop, ap, sym, ◌∙◌, arith}
use Rattle.std.proofs.lemmas.List.{drop_all}
use Rattle.paw_base.specs.Bytes.{Text}
use Rattle.paw_wrap.specs.FirstFit.{line_feed, breaks_from, with_byte}
use Rattle.paw_wrap.proofs.Fewest.{are_fewest}
use Rattle.paw_wrap.proofs.LineWidths.{wrapped_fits, fits_all}
use Rattle.paw_wrap.proofs.Scanning.{is_inside}
use Rattle.paw_wrap.proofs.Undoing.{wrapped, undone}
use Rattle.paw_wrap.proofs.columns.wrap.Goals as goal

-- With no break left, an LF stands at each.
all_written : (w i : ℕ) (text bytes : Text) (places : List ℕ) → places ≡ breaks_from w 0 0 text → length places ≤ i
    → with_byte line_feed (drop i places) bytes ≡ with_byte line_feed places text → bytes ≡ wrapped w 0 text
all_written w i text bytes places e h left =
    sym (ap (λ rest. with_byte line_feed rest bytes) (drop_all i places h)) ∙ left ∙ ap (λ all. with_byte line_feed all text) e

pub index_mut-requires : goal.index_mut-requires
index_mut-requires c =
    omega (
      arith,
      c.loop-at.bytes.ok.0,
      c.loop-at.invariant.size,
      is_inside c.args.width c.args.text.now c.deref-at-items.result.now c.loop-at.at-index
          (c.deref-at-items.ensures.value ∙ c.in_ok-breaks.ensures.value) c.loop-at-test.true,
    )

pub returns-clause-undone : goal.returns-clause-undone
returns-clause-undone c =
    rw (
      c.in_ok-breaks.ensures.value,
      all_written c.args.width c.loop-at.at-index c.args.text.now c.loop-at.bytes.items c.deref-at-items.result.now
          (c.deref-at-items.ensures.value ∙ c.in_ok-breaks.ensures.value) c.loop-at-test.false c.loop-at.invariant.left,
    )
    (undone c.args.width 0 c.args.text.now)

pub returns-clause-lines_fit : goal.returns-clause-lines_fit
returns-clause-lines_fit c =
    rw (all_written c.args.width c.loop-at.at-index c.args.text.now c.loop-at.bytes.items c.deref-at-items.result.now
    (c.deref-at-items.ensures.value ∙ c.in_ok-breaks.ensures.value) c.loop-at-test.false c.loop-at.invariant.left)
    (fits_all _ _ (wrapped_fits c.args.width 0 c.args.text.now))

pub returns-clause-fewest : goal.returns-clause-fewest
returns-clause-fewest c = rw c.in_ok-breaks.ensures.value (are_fewest c.args.width c.args.text.now)
