use Rattle.std.proofs.Common.{get_or, sym, ◌∙◌, arith}
use Rattle.paw_grammar.proofs.Digits.{digit_read, digit_worth}
use Rattle.paw_grammar.proofs.numbers.number.Goals as goal

pub loop-byte-preserved : goal.loop-byte-preserved
loop-byte-preserved c =
    let digit = sym c.is_ascii_digit.ensures.value ∙ c.if-not-is_ascii_digit.false in
    let worth = digit_worth (get_or c.args.token.now c.loop-byte.byte-index 0) digit in
    record {
      same = sym (digit_read c.loop-byte.number c.saturating_add-number.result c.args.token.now c.loop-byte.byte-index
          c.loop-byte-test.true digit
          (omega (arith, worth, c.saturating_add-number.ensures, c.saturating_mul.ensures, c.from.ensures)))
          ∙ c.loop-byte.invariant.same;
      small = omega (arith, c.saturating_add-number.ensures);
    }
