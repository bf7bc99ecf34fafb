-- One byte more of the line in work, and its end.
use Rattle.std.proofs.Common.{◌≡◌, ◌≤◌, ◌<◌, ◌⊎◌, inl, inr, ℕ, ◌+◌, ◌-◌, Bool, true, false, [], ◌∷◌, ◌++◌}
use Rattle.std.proofs.Common.{length, take, get_or, min, nat_lt, refl, sym, subst}
use Rattle.std.proofs.Common.{ap, ◌∙◌, arith, length-append}
use Rattle.std.specs.Prelude.{Option, Some, None, IfSome, if◌then◌else◌, ◌==◌}
use Rattle.std.specs.Io.KnownBytes.{prepend_known, Consumes, IsAtEnd}
use Rattle.std.specs.Io.BufRead.{strip_last, first_line, drop_through}
use Rattle.std.proofs.lemmas.List.{take_all, take-append-le, take-take, length-take, append-nil}
use Rattle.std.proofs.Math.Seq.{take-append-add}
use Rattle.paw_base.specs.Bytes.{Bytes}
use Rattle.paw_base.specs.declared.limits.TheConstants.{LINE_LIMIT}
use Rattle.paw_stage.specs.inner.Input.{GathersLine, HasLine, longest_line}
use Rattle.paw_stage.specs.inner.LineParts.{Gathers, HasNoEnd, CopiesPart}
use Rattle.paw_stage.proofs.Consumed.{Consumes_on, consumes_none, consumes_read}
use Rattle.paw_stage.proofs.FirstLine.{HasNoEnd-append, ends_with_byte-part, drop_through-end, drop_through-whole}
use Rattle.paw_stage.proofs.FirstLine.{first_line-end, first_line-whole, first_line-long}

below_or : (k : ℕ) → (k < LINE_LIMIT) ⊎ (LINE_LIMIT ≤ k)
below_or k = grind arith

-- The first 255 bytes of two parts.
take_both : (xs ys : Bytes) → take LINE_LIMIT (xs ++ ys) ≡ take LINE_LIMIT xs ++ take (LINE_LIMIT - length xs) ys
take_both xs ys = elim (below_or (length xs)) [
  | inl low ↦
      let sum : LINE_LIMIT ≡ length xs + (LINE_LIMIT - length xs) = omega (arith, low) in
      ap (λ k. take k (xs ++ ys)) sum
      ∙ (take-append-add xs ys (LINE_LIMIT - length xs) ∙ ap (λ l. l ++ take (LINE_LIMIT - length xs) ys) (sym (take_all LINE_LIMIT xs (omega (arith, low)))))
  | inr high ↦
      let none : LINE_LIMIT - length xs ≡ 0 = omega (arith, high) in
      take-append-le LINE_LIMIT xs ys high
      ∙ (sym (append-nil (take LINE_LIMIT xs)) ∙ ap (λ k. take LINE_LIMIT xs ++ take k ys) (sym none))
]

at_most_or : (m n : ℕ) → (m ≤ n) ⊎ (n < m)
at_most_or m n = grind arith

-- As many of a part as are among the first 255 bytes.
part_buffered : (bytes : Bytes) (len n : ℕ) → n ≤ length bytes →
    take (LINE_LIMIT - len) (take n bytes) ≡ take (min (len + n) LINE_LIMIT - min len LINE_LIMIT) bytes
part_buffered bytes len n low = elim (at_most_or (LINE_LIMIT - len) n) [
  | inl cut ↦
      let is : LINE_LIMIT - len ≡ min (len + n) LINE_LIMIT - min len LINE_LIMIT = omega (arith, cut) in
      take-take (LINE_LIMIT - len) n bytes cut ∙ ap (λ k. take k bytes) is
  | inr whole ↦
      let is : n ≡ min (len + n) LINE_LIMIT - min len LINE_LIMIT = omega (arith, whole) in
      take_all (LINE_LIMIT - len) (take n bytes) (omega (arith, whole, length-take n bytes)) ∙ ap (λ k. take k bytes) is
]

-- Nothing was taken yet.
pub gathers_none : (first : Option Bytes) (into : Bytes) → Gathers first first into 0 false
gathers_none first into =
    record { taken = []; consumed = consumes_none first; count = refl; plain = tt; buffered = refl; last = refl }

-- A part more, without an LF.
pub gathers_part : (first left now : Option Bytes) (into into' bytes : Bytes) (len n : ℕ) (returned : Bool) →
    Gathers first left into len returned → Consumes left now (take n bytes) → n ≤ length bytes → HasNoEnd (take n bytes) →
    CopiesPart into into' len n bytes →
    Gathers first now into' (len + n) (if nat_lt 0 n then get_or bytes (n - 1) 0 == 13 else returned)
gathers_part first left now into into' bytes len n returned h k low plain buffered =
    let of_taken : take (LINE_LIMIT - length h.taken) (take n bytes) ≡ take (min (len + n) LINE_LIMIT - min len LINE_LIMIT) bytes =
    ap (λ t. take (LINE_LIMIT - t) (take n bytes)) h.count ∙ part_buffered bytes len n low in
    record {
      taken = h.taken ++ take n bytes;
      consumed = Consumes_on first left now h.taken (take n bytes) h.consumed k;
      count = omega (arith, h.count, low, length-append h.taken (take n bytes), length-take n bytes);
      plain = HasNoEnd-append h.taken (take n bytes) h.plain plain;
      buffered =
          buffered
          ∙ (ap (λ l. l ++ take (min (len + n) LINE_LIMIT - min len LINE_LIMIT) bytes) h.buffered
          ∙ (ap (λ l. take LINE_LIMIT h.taken ++ l) (sym of_taken) ∙ sym (take_both h.taken (take n bytes))));
      last = ends_with_byte-part 13 h.taken bytes n returned h.last low;
    }

-- Nothing more was taken.
pub gathers_on : (first left now : Option Bytes) (into : Bytes) (len : ℕ) (returned : Bool) →
    Gathers first left into len returned → Consumes left now [] → Gathers first now into len returned
gathers_on first left now into len returned h k =
    record {
      taken = h.taken;
      consumed = subst (Consumes first now) (append-nil h.taken) (Consumes_on first left now h.taken [] h.consumed k);
      count = h.count;
      plain = h.plain;
      buffered = h.buffered;
      last = h.last;
    }

-- More bytes were read ahead, after all before were taken.
pub gathers_read : (first old new : Option Bytes) (before ahead into : Bytes) (len : ℕ) (returned : Bool) → before ≡ [] →
    Consumes old new ahead → Gathers first (prepend_known before old) into len returned →
    Gathers first (prepend_known ahead new) into len returned
gathers_read first old new before ahead into len returned e k h =
    gathers_on first (prepend_known [] old) (prepend_known ahead new) into len returned
    (subst (λ a. Gathers first (prepend_known a old) into len returned) e h) (consumes_read old new ahead k)

-- A line of known length, which may be too long.
line_of : (bytes : Bytes) (left : Option Bytes) (len : ℕ) (into : Bytes) → HasLine bytes left len into → GathersLine bytes left (Some len) into
line_of bytes left len into h = (λ low. h, λ high. omega (arith, h.1))

-- More bytes than a line may have, and none is an LF.
pub gathered_long : (first left now : Option Bytes) (into : Bytes) (len : ℕ) (returned : Bool) →
    Gathers first left into len returned → longest_line + 2 ≤ len → IfSome first (λ bytes. GathersLine bytes now (Some len) into)
gathered_long None left now into len returned h many = tt
gathered_long (Some xs) None now into len returned h many = absurd h.consumed
gathered_long (Some xs) (Some ys) now into len returned h many =
    (λ low. absurd (omega (arith, low, many)), λ high. omega (arith, h.count, ap (λ l. length (first_line l)) h.consumed, first_line-long h.taken ys h.plain))

-- The end of the bytes, with a line that has no end of its own.
pub gathered_whole : (first left now : Option Bytes) (into : Bytes) (len : ℕ) (returned : Bool) →
    Gathers first left into len returned → Consumes left now [] → IsAtEnd now → 0 < len →
    IfSome first (λ bytes. GathersLine bytes now (Some len) into)
gathered_whole None left now into len returned h k end some = tt
gathered_whole (Some xs) None now into len returned h k end some = absurd h.consumed
gathered_whole (Some xs) (Some ys) None into len returned h k end some = absurd k
gathered_whole (Some xs) (Some ys) (Some zs) into len returned h k end some =
    let whole : xs ≡ h.taken = h.consumed ∙ (ap (λ l. h.taken ++ l) (k ∙ end) ∙ append-nil h.taken) in
    let line : first_line xs ≡ h.taken = ap first_line whole ∙ first_line-whole h.taken h.plain in line_of xs (Some zs) len into (
      omega (arith, h.count, ap length whole),
      omega (arith, h.count, ap length line),
      h.buffered ∙ ap (take LINE_LIMIT) (sym line),
      ap Some (end ∙ sym (ap (drop_through 10) whole ∙ drop_through-whole h.taken h.plain)),
    )

-- The end of the bytes, of which none was there.
pub gathered_none : (first left now : Option Bytes) (into : Bytes) (len : ℕ) (returned : Bool) →
    Gathers first left into len returned → Consumes left now [] → IsAtEnd now → len ≡ 0 →
    IfSome first (λ bytes. GathersLine bytes now None into)
gathered_none None left now into len returned h k end none = tt
gathered_none (Some xs) None now into len returned h k end none = absurd h.consumed
gathered_none (Some xs) (Some ys) None into len returned h k end none = absurd k
gathered_none (Some xs) (Some ys) (Some zs) into len returned h k end none =
    let nothing : h.taken ≡ [] = sym (take_all 0 h.taken (omega (arith, h.count, none))) in
    (h.consumed ∙ (ap (λ l. l ++ ys) nothing ∙ (k ∙ end)), ap Some end)

take_short : (m : ℕ) (taken : Bytes) → take (min m LINE_LIMIT) taken ≡ take LINE_LIMIT (take m taken)
take_short m taken = elim (below_or m) [
  | inl low ↦ let is : min m LINE_LIMIT ≡ m = omega arith in ap (λ k. take k taken) is ∙ sym (take_all LINE_LIMIT (take m taken) (omega (arith, length-take m taken)))
  | inr high ↦ let is : min m LINE_LIMIT ≡ LINE_LIMIT = omega arith in ap (λ k. take k taken) is ∙ sym (take-take LINE_LIMIT m taken high)
]

-- Without the last byte.
cut_last : (into taken : Bytes) (len : ℕ) → length taken ≡ len → take (min len LINE_LIMIT) into ≡ take LINE_LIMIT taken →
    take (min (len - 1) LINE_LIMIT) into ≡ take LINE_LIMIT (take (len - 1) taken)
cut_last into taken len count buffered =
    sym (take-take (min (len - 1) LINE_LIMIT) (min len LINE_LIMIT) into (omega arith))
    ∙ (ap (take (min (len - 1) LINE_LIMIT)) buffered ∙ (take-take (min (len - 1) LINE_LIMIT) LINE_LIMIT taken (omega arith) ∙ take_short (len - 1) taken))

without_return : (returned : Bool) (into taken : Bytes) (len : ℕ) → length taken ≡ len → take (min len LINE_LIMIT) into ≡ take LINE_LIMIT taken
    → ((if returned then len - 1 else len) ≡ length (if returned then take (length taken - 1) taken else taken))
    × (take (min (if returned then len - 1 else len) LINE_LIMIT) into ≡ take LINE_LIMIT (if returned then take (length taken - 1) taken else taken))
without_return false into taken len count buffered = (omega arith, buffered)
without_return true into taken len count buffered =
    (omega (arith, length-take (length taken - 1) taken), cut_last into taken len count buffered ∙ ap (λ n. take LINE_LIMIT (take (n - 1) taken)) (sym count))

-- The LF that ends the line.
pub gathered_end : (first left now : Option Bytes) (into : Bytes) (len : ℕ) (returned : Bool) →
    Gathers first left into len returned → Consumes left now (10 ∷ []) →
    IfSome first (λ bytes. GathersLine bytes now (Some (if returned then len - 1 else len)) into)
gathered_end None left now into len returned h k = tt
gathered_end (Some xs) None now into len returned h k = absurd h.consumed
gathered_end (Some xs) (Some ys) None into len returned h k = absurd k
gathered_end (Some xs) (Some ys) (Some zs) into len returned h k =
    let whole : xs ≡ h.taken ++ 10 ∷ zs = h.consumed ∙ ap (λ l. h.taken ++ l) k in
    let line : first_line xs ≡ strip_last 13 h.taken = ap first_line whole ∙ first_line-end h.taken zs h.plain in
    let cut = without_return returned into h.taken len h.count h.buffered in
    let stripped : (if returned then take (length h.taken - 1) h.taken else h.taken) ≡ first_line xs =
    ap (λ b. if b then take (length h.taken - 1) h.taken else h.taken) h.last ∙ sym line in line_of xs (Some zs) (if returned then len - 1 else len) into (
      omega (arith, ap length whole, length-append h.taken (10 ∷ zs)),
      cut.0 ∙ ap length stripped,
      cut.1 ∙ ap (take LINE_LIMIT) stripped,
      ap Some (sym (ap (drop_through 10) whole ∙ drop_through-end h.taken zs h.plain)),
    )
