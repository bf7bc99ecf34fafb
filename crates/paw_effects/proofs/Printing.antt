-- What stands in a piece while a text is printed part by part.
use Rattle.std.proofs.Common.{◌≡◌, ◌+◌, ◌<◌, Bool, true, false, ◌++◌, length, ap, arith, length-append, ◌∙◌}
use Rattle.paw_base.specs.Bytes.{Text}
use Rattle.paw_base.specs.inner.Piece.{Puts}
use Rattle.paw_base.specs.declared.limits.TheConstants.{PIECE_LIMIT}

-- The part that doesn't fit is part of a whole that doesn't.
pub too_long : (held part rest start whole : Text) → held ++ (part ++ rest) ≡ start ++ whole
    → PIECE_LIMIT < length held + length part →
    PIECE_LIMIT < length start + length whole
too_long held part rest start whole e long =
    let lengths : length (held ++ (part ++ rest)) ≡ length (start ++ whole) = ap length e in
    let left : length (held ++ (part ++ rest)) ≡ length held + (length part + length rest) =
    length-append held (part ++ rest) ∙ ap (λ n. length held + n) (length-append part rest) in
    let right : length (start ++ whole) ≡ length start + length whole = length-append start whole in
    omega (arith, lengths, left, right, long)

-- The last part is put where the whole is.
pub puts_whole : (ok : Bool) (held new text start whole : Text) → held ++ text ≡ start ++ whole → Puts held new ok text → Puts start new ok whole
puts_whole true held new text start whole e puts =
    let lengths : length (held ++ text) ≡ length (start ++ whole) = ap length e in
    let left : length (held ++ text) ≡ length held + length text = length-append held text in
    let right : length (start ++ whole) ≡ length start + length whole = length-append start whole in
    (puts.0 ∙ e, omega (arith, lengths, left, right, puts.1))
puts_whole false held new text start whole e puts =
    let lengths : length (held ++ text) ≡ length (start ++ whole) = ap length e in
    let left : length (held ++ text) ≡ length held + length text = length-append held text in
    let right : length (start ++ whole) ≡ length start + length whole = length-append start whole in
    omega (arith, lengths, left, right, puts)
