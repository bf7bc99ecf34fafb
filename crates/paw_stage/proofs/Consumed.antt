-- What is taken from bytes that were read ahead.
use Rattle.std.proofs.Common.{◌≡◌, [], ◌++◌, refl, sym, ap, ◌∙◌, append_assoc}
use Rattle.std.specs.Prelude.{Option, Some, None}
use Rattle.std.specs.Io.KnownBytes.{prepend_known, Consumes, IsAtEnd}
use Rattle.paw_base.specs.Bytes.{Bytes}

-- A part of the bytes read ahead is taken, with the line end after it.
pub consumes_part : (remaining : Option Bytes) (ahead part ending left : Bytes) → ahead ≡ part ++ (ending ++ left) →
    Consumes (prepend_known ahead remaining) (prepend_known ending (prepend_known left remaining)) part
consumes_part None ahead part ending left e = tt
consumes_part (Some xs) ahead part ending left e =
    ap (λ a. a ++ xs) e
    ∙ (append_assoc part (ending ++ left) xs ∙ ap (λ a. part ++ a) (append_assoc ending left xs))

-- More bytes are read ahead, and none is taken.
pub consumes_read : (old new : Option Bytes) (ahead : Bytes) → Consumes old new ahead →
    Consumes (prepend_known [] old) (prepend_known ahead new) []
consumes_read None new ahead h = tt
consumes_read (Some xs) None ahead h = absurd h
consumes_read (Some xs) (Some ys) ahead h = h

pub at_end : (remaining : Option Bytes) (ahead : Bytes) → ahead ≡ [] → IsAtEnd remaining →
    IsAtEnd (prepend_known ahead remaining)
at_end None ahead e h = h
at_end (Some xs) ahead e h = ap (λ a. a ++ xs) e ∙ h

-- The line end alone is taken.
pub consumes_end : (left : Option Bytes) (ending : Bytes) → Consumes (prepend_known ending left) left ending
consumes_end None ending = tt
consumes_end (Some xs) ending = refl

pub consumes_none : (left : Option Bytes) → Consumes left left []
consumes_none None = tt
consumes_none (Some xs) = refl

pub prepend_none : (left : Option Bytes) → prepend_known [] left ≡ left
prepend_none None = refl
prepend_none (Some xs) = refl

pub Consumes_on : (old mid new : Option Bytes) (xs ys : Bytes) → Consumes old mid xs → Consumes mid new ys → Consumes old new (xs ++ ys)
Consumes_on None mid new xs ys h k = tt
Consumes_on (Some a) None new xs ys h k = absurd h
Consumes_on (Some a) (Some b) None xs ys h k = absurd k
Consumes_on (Some a) (Some b) (Some c) xs ys h k = h ∙ (ap (λ z. xs ++ z) k ∙ sym (append_assoc xs ys c))
