use Rattle.std.proofs.Common.{sym, ◌∙◌, drop}
use Rattle.paw_image.proofs.HereLaws.{code_there, condact_is, is_the_code, no_first, no_second, plain_first, plain_second}
use Rattle.paw_image.proofs.at_offset.condact_at.Goals as goal

pub byte_from-code-requires : goal.byte_from-code-requires
byte_from-code-requires c = record { there = code_there c.args.offset c.args.bytes.now c.requires.there }

pub plain_kinds-first-requires : goal.plain_kinds-first-requires
plain_kinds-first-requires c =
    let code = c.byte_from-code in
    record { code = is_the_code c.args.offset c.args.bytes.now code.result.0 code.ensures.value c.requires.there }

pub parameter_in-a-requires : goal.parameter_in-a-requires
parameter_in-a-requires c =
    let code = c.byte_from-code in
    let kinds = c.plain_kinds-first in
    let is = is_the_code c.args.offset c.args.bytes.now code.result.0 code.ensures.value c.requires.there in
    let same = plain_first code.result.0 kinds.result.0 (drop code.result.1 c.args.bytes.now) is kinds.ensures.first in
    record {
      there = λ fault. c.requires.there
          (no_first c.args.offset c.args.bytes.now code.result.0 code.ensures.value is
          (rw (sym same, code.ensures.next) at fault));
    }

pub parameter_in-b-requires : goal.parameter_in-b-requires
parameter_in-b-requires c =
    let code = c.byte_from-code in
    let kinds = c.plain_kinds-first in
    let a = c.parameter_in-a in
    let is = is_the_code c.args.offset c.args.bytes.now code.result.0 code.ensures.value c.requires.there in
    let first = rw code.ensures.next at (plain_first code.result.0 kinds.result.0 (drop code.result.1 c.args.bytes.now) is kinds.ensures.first ∙ a.ensures.value) in
    let same = plain_second code.result.0 kinds.result.1 (drop c.parameter_in-a.result.1 c.args.bytes.now) is kinds.ensures.second in
    record {
      there = λ fault. c.requires.there
          (no_second c.args.offset c.args.bytes.now code.result.0 code.ensures.value is a.result.0 a.result.1 first
          (rw (sym same) at fault));
    }

pub returns : goal.returns
returns c =
    let code = c.byte_from-code in
    let kinds = c.plain_kinds-first in
    let a = c.parameter_in-a in
    let b = c.parameter_in-b in
    let is = is_the_code c.args.offset c.args.bytes.now code.result.0 code.ensures.value c.requires.there in
    let first = rw code.ensures.next at (plain_first code.result.0 kinds.result.0 (drop code.result.1 c.args.bytes.now) is kinds.ensures.first ∙ a.ensures.value) in
    let second = plain_second code.result.0 kinds.result.1 (drop c.parameter_in-a.result.1 c.args.bytes.now) is kinds.ensures.second ∙ b.ensures.value in
    record {
      value = condact_is c.args.offset c.args.bytes.now code.result.0 code.ensures.value is a.result.0 b.result.0 a.result.1 b.result.1 first second;
    }
