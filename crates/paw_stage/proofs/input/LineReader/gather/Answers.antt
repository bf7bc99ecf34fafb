use Rattle.std.proofs.Common.{[], ◌∷◌, subst}
use Rattle.std.specs.Io.KnownBytes.{prepend_known}
use Rattle.paw_stage.specs.inner.Input.{bytes_unread}
use Rattle.paw_stage.specs.inner.LineParts.{Gathers, line_end}
use Rattle.paw_stage.proofs.Consumed.{consumes_end}
use Rattle.paw_stage.proofs.Gathered.{gathers_none, gathered_end}
use Rattle.paw_stage.proofs.input.LineReader.gather.Goals as goal

pub returns-then-take_part-clause-line : goal.returns-then-take_part-clause-line
returns-then-take_part-clause-line g c =
    let remaining = g.R.Read.remaining in
    let first = bytes_unread remaining c.args.self.now in
    let part = c.take_part.new in
    let left = bytes_unread remaining part.self in
    let taken = subst (λ t. Gathers first (prepend_known (line_end t) left) part.into part.begun.len part.begun.ends_with_return)
    c.if-take_part.true (c.take_part.ensures.line first (gathers_none first c.args.into.now)) in
    rw c.without_return.ensures.value (gathered_end first (prepend_known (10 ∷ []) left) left part.into part.begun.len
    part.begun.ends_with_return taken (consumes_end left (10 ∷ [])))
