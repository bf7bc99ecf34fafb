use Rattle.std.proofs.Common.{◌≡◌, ℕ, List, [], ◌∷◌, length, sym, ◌∙◌, subst, arith}
use Rattle.std.specs.Io.KnownBytes.{prepend_known}
use Rattle.std.proofs.lemmas.Bool.{eqb-true}
use Rattle.std.proofs.lemmas.List.{take_all}
use Rattle.paw_stage.specs.inner.Input.{bytes_unread}
use Rattle.paw_stage.specs.inner.LineParts.{Gathers, line_end}
use Rattle.paw_stage.proofs.Consumed.{consumes_none, consumes_end, prepend_none, at_end}
use Rattle.paw_stage.proofs.Gathered.{gathers_read, gathered_none, gathered_whole, gathered_end, gathered_long}
use Rattle.paw_stage.proofs.input.LineReader.read_on.Goals as goal

empty : (xs : List ℕ) → length xs ≡ 0 → xs ≡ []
empty xs e = sym (take_all 0 xs (omega (arith, e)))

pub returns-then-begun-eq0-clause-line : goal.returns-then-begun-eq0-clause-line
returns-then-begun-eq0-clause-line g c = λ first h.
    let l = c.loop-begun in
    let remaining = g.R.Read.remaining in
    let new = remaining c.fill.new.reader in
    let now = prepend_known c.fill.new.self new in
    let none = sym c.bytes.ensures.value ∙ empty c.bytes.result.now (eqb-true (length c.bytes.result.now) 0 (sym c.is_empty.ensures ∙ c.if-is_empty.true)) in
    let read = gathers_read first (remaining l.self.reader) new l.self.ahead c.fill.new.self l.into l.begun.len l.begun.ends_with_return
    l.invariant.empty c.in_ok-fill.ensures.filled (l.invariant.gathered first h) in
    gathered_none first now now l.into l.begun.len l.begun.ends_with_return read (consumes_none now)
    (at_end new c.fill.new.self none (c.in_ok-fill.ensures.end none)) c.if-begun-eq0.true

pub returns-else-begun-eq0-clause-line : goal.returns-else-begun-eq0-clause-line
returns-else-begun-eq0-clause-line g c = λ first h.
    let l = c.loop-begun in
    let remaining = g.R.Read.remaining in
    let new = remaining c.fill.new.reader in
    let now = prepend_known c.fill.new.self new in
    let none = sym c.bytes.ensures.value ∙ empty c.bytes.result.now (eqb-true (length c.bytes.result.now) 0 (sym c.is_empty.ensures ∙ c.if-is_empty.true)) in
    let read = gathers_read first (remaining l.self.reader) new l.self.ahead c.fill.new.self l.into l.begun.len l.begun.ends_with_return
    l.invariant.empty c.in_ok-fill.ensures.filled (l.invariant.gathered first h) in
    gathered_whole first now now l.into l.begun.len l.begun.ends_with_return read (consumes_none now)
    (at_end new c.fill.new.self none (c.in_ok-fill.ensures.end none)) (omega (arith, c.if-begun-eq0.false))

pub returns-then-take_part-clause-line : goal.returns-then-take_part-clause-line
returns-then-take_part-clause-line g c = λ first h.
    let l = c.loop-begun in
    let remaining = g.R.Read.remaining in
    let read = gathers_read first (remaining l.self.reader) (remaining c.fill.new.reader) l.self.ahead c.fill.new.self l.into
    l.begun.len l.begun.ends_with_return l.invariant.empty c.in_ok-fill.ensures.filled (l.invariant.gathered first h) in
    let part = c.take_part.new in
    let left = bytes_unread remaining part.self in
    let taken = subst (λ t. Gathers first (prepend_known (line_end t) left) part.into part.begun.len part.begun.ends_with_return)
    c.if-take_part.true (c.take_part.ensures.line first read) in
    rw c.without_return.ensures.value (gathered_end first (prepend_known (10 ∷ []) left) left part.into part.begun.len
    part.begun.ends_with_return taken (consumes_end left (10 ∷ [])))

pub loop-begun-preserved : goal.loop-begun-preserved
loop-begun-preserved g c = record {
  empty = c.take_part.ensures.all c.if-take_part.false;
  rest = c.take_part.ensures.rest ∙ c.loop-begun.invariant.rest;
  gathered = λ first h.
      let l = c.loop-begun in
      let remaining = g.R.Read.remaining in
      let read = gathers_read first (remaining l.self.reader) (remaining c.fill.new.reader) l.self.ahead c.fill.new.self l.into
      l.begun.len l.begun.ends_with_return l.invariant.empty c.in_ok-fill.ensures.filled (l.invariant.gathered first h) in
      let part = c.take_part.new in
      let left = bytes_unread remaining part.self in
      let taken = subst (λ t. Gathers first (prepend_known (line_end t) left) part.into part.begun.len part.begun.ends_with_return)
      c.if-take_part.false (c.take_part.ensures.line first read) in
      subst (λ o. Gathers first o part.into part.begun.len part.begun.ends_with_return) (prepend_none left) taken;
}

pub returns-clause-line : goal.returns-clause-line
returns-clause-line g c = λ first h.
    let l = c.loop-begun in
    let left = bytes_unread g.R.Read.remaining l.self in
    gathered_long first left left l.into l.begun.len l.begun.ends_with_return (l.invariant.gathered first h)
    (omega (arith, c.loop-begun-test.false))
