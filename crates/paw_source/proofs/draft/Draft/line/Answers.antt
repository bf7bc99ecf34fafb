use Rattle.std.proofs.Common.{Bool, sym, ap, subst, ◌∙◌}
use Rattle.paw_lex.specs.Bytes.{has_forbidden_byte}
use Rattle.paw_lex.specs.inner.Lines.{line_bytes}
use Rattle.paw_source.specs.inner.Drafts.{IsShortDraft}
use Rattle.paw_source.proofs.Capped.{slash_read}
use Rattle.paw_source.proofs.draft.Draft.line.Goals as goal

pub returns-then-slash : goal.returns-then-slash
returns-then-slash c =
    let bytes = line_bytes c.args.source.now c.args.line.now in
    let allowed = ap (λ (b : Bool). has_forbidden_byte b bytes) (sym c.if-text.false)
    ∙ sym c.has_forbidden_byte.ensures.value
    ∙ c.if-has_forbidden_byte.false in
    record {
      gives = rw (← slash_read c.args.tables c.args.self.now bytes c.in-Some.name.now c.without_first.result.now
          c.next.new.self c.number.result (subst IsShortDraft c.self.view_is c.self.invariant)
          (sym c.is_comment.ensures.value ∙ c.if-is_comment.false) allowed
          (sym c.begins_with_slash-slash.ensures.value ∙ c.if-slash.true)
          (sym c.new-tokens.ensures.value ∙ c.in-Some.ensures.value)
          c.without_first.ensures.value c.number.ensures.value)
          c.slash.ensures.gives;
    }
