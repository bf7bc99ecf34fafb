use Rattle.std.proofs.Common.{◌≡◌, ◌+◌, Bool, length, drop, nat_lt, refl, sym, ap, ◌∙◌, subst}
use Rattle.std.specs.Prelude.{if◌then◌else◌}
use Rattle.std.specs.Io.KnownBytes.{prepend_known}
use Rattle.paw_stage.specs.inner.LineParts.{Gathers}
use Rattle.paw_stage.proofs.LineParts.{takes_part, past_line, past_all}
use Rattle.paw_stage.proofs.input.LineReader.take_part.Goals as goal
use Rattle.paw_stage.proofs.input.LineReader.take_part.Goals.{then-ended, else-ended}

pub returns-clause-line : goal.returns-clause-line
returns-clause-line g c = λ first h.
    let old = c.args.self.now in
    let begun = c.args.begun.now in
    let bytes = c.bytes-ahead.result.now in
    let n = c.copy_to_line_end-count.result in
    let ended : Bool = nat_lt n (length bytes) in
    let remaining = g.R.Read.remaining old.reader in
    let count : c.if-ended.take ≡ (if ended then n + 1 else n) = elim c.if-ended.branch [
      | then-ended w ↦ w.take-is ∙ sym (past_line n (length bytes) w.if-ended.true)
      | else-ended w ↦ w.take-is ∙ sym (past_all n (length bytes) w.if-ended.false)
    ] in
    let left : c.take.new.self ≡ drop (if ended then n + 1 else n) bytes =
    c.take.ensures.rest
    ∙ (ap (λ k. drop k old.ahead) count ∙ ap (drop (if ended then n + 1 else n)) (sym c.bytes-ahead.ensures.value)) in
    let known = subst (λ a. Gathers first (prepend_known a remaining) c.args.into.now begun.len begun.ends_with_return) (sym c.bytes-ahead.ensures.value) h in
    let copying = c.copy_to_line_end-count.ensures in
    rw (left, c.ends_with_return-begun.ensures.value) (takes_part first remaining bytes c.args.into.now c.copy_to_line_end-count.new.into begun.len n begun.ends_with_return ended refl copying.within
    copying.plain copying.end copying.copied known)
