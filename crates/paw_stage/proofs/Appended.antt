-- Texts that are written part by part.
use Rattle.std.proofs.Common.{◌≡◌, ℕ, ◌+◌, ◌++◌, take, drop, ap, sym, ◌∙◌, append_assoc}
use Rattle.std.proofs.Math.Seq.{take-add}
use Rattle.std.specs.Prelude.{Option, Some, None}
use Rattle.std.specs.Io.KnownBytes.{Appends}
use Rattle.paw_base.specs.Bytes.{Bytes}

pub Appends_more : (old mid new : Option Bytes) (text rest : Bytes) (done n : ℕ) → rest ≡ drop done text →
    Appends old mid (take done text) → Appends mid new (take n rest) → Appends old new (take (done + n) text)
Appends_more None mid new text rest done n e h k = tt
Appends_more (Some xs) None new text rest done n e h k = absurd h
Appends_more (Some xs) (Some ys) None text rest done n e h k = absurd k
Appends_more (Some xs) (Some ys) (Some zs) text rest done n e h k =
    let parts : take done text ++ take n rest ≡ take (done + n) text = ap (λ r. take done text ++ take n r) e ∙ sym (take-add done n text) in
    k ∙ (ap (λ l. l ++ take n rest) h ∙ (append_assoc xs (take done text) (take n rest) ∙ ap (λ l. xs ++ l) parts))
