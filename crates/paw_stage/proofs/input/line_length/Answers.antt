use Rattle.std.proofs.Common.{◌∙◌}
use Rattle.std.specs.Prelude.{length}
use Rattle.std.specs.Option.{unwrap_or}
use Rattle.std.proofs.Common.{ap}
use Rattle.paw_stage.proofs.LineParts.{first_or_length, before_within}
use Rattle.paw_stage.proofs.input.line_length.Goals as goal

pub returns-clause-value : goal.returns-clause-value
returns-clause-value c =
    let bytes = c.args.bytes.now in
    c.unwrap_or.ensures ∙ (ap (λ o. unwrap_or o (length bytes)) c.first_line_feed.ensures.value ∙ first_or_length bytes)

pub returns-clause-within : goal.returns-clause-within
returns-clause-within c =
    let bytes = c.args.bytes.now in
    before_within bytes c.unwrap_or.result
    (c.unwrap_or.ensures ∙ (ap (λ o. unwrap_or o (length bytes)) c.first_line_feed.ensures.value ∙ first_or_length bytes))
