use Rattle.std.proofs.Common.{drop, arith}
use Rattle.std.proofs.lemmas.List.{take_rest, length-drop}
use Rattle.paw_stage.proofs.LineParts.{before_within, plain_before, plain_both, end_of_both}
use Rattle.paw_stage.proofs.input.copy_to_line_end.Goals as goal

pub returns-clause-within : goal.returns-clause-within
returns-clause-within c =
    let bytes = c.args.bytes.now in
    let copied = c.copy_line-copied.result in
    let value = rw (take_rest bytes copied) at c.line_length.ensures.value in
    omega (arith, c.copy_line-copied.ensures.within, before_within (drop copied bytes) c.line_length.result value, length-drop copied bytes)

pub returns-clause-plain : goal.returns-clause-plain
returns-clause-plain c =
    let bytes = c.args.bytes.now in
    let copied = c.copy_line-copied.result in
    let more = c.line_length.result in
    let value = rw (take_rest bytes copied) at c.line_length.ensures.value in
    plain_both bytes copied more c.copy_line-copied.ensures.plain
    (plain_before (drop copied bytes) more value (before_within (drop copied bytes) more value))

pub returns-clause-end : goal.returns-clause-end
returns-clause-end c =
    let bytes = c.args.bytes.now in
    let copied = c.copy_line-copied.result in
    let value = rw (take_rest bytes copied) at c.line_length.ensures.value in
    end_of_both bytes copied c.line_length.result value
