-- The bytes of a state, as they are committed.
use Rattle.paw_play.proofs.Names.{◌≡◌, ℕ, ◌++◌, length, take, sym, ap, ◌∙◌, Bytes, World, PendingLine, Prompt, OpenTables, Digests, Shown, state_of, kept_bytes, take-append_seam}

-- The first bytes of a buffer.
pub cut : (bytes rest into : Bytes) (n : ℕ) → into ≡ bytes ++ rest → length bytes ≡ n → take n into ≡ bytes
cut bytes rest into n e l = ap (take n) e ∙ ap (λ k. take k (bytes ++ rest)) (sym l) ∙ take-append_seam bytes rest

-- What a session shows, by its parts.
pub shown_as : (digests : Digests) {state kept piece text : Bytes} → state ≡ kept → piece ≡ text → Shown digests state piece ≡ Shown digests kept text
shown_as digests e f = cc

-- States of the same parts.
pub same_parts : (v w : World) (m k : OpenTables) (p q : PendingLine) (a b : Prompt) (events n l : ℕ) → v ≡ w → m ≡ k → p ≡ q → a ≡ b → n ≡ l →
    kept_bytes (state_of v m p a events n) ≡ kept_bytes (state_of w k q b events l)
same_parts v w m k p q a b events n l e f g h i =
    ap (λ x. kept_bytes (state_of x m p a events n)) e ∙ ap (λ x. kept_bytes (state_of w x p a events n)) f ∙ ap (λ x. kept_bytes (state_of w k x a events n)) g
    ∙ ap (λ x. kept_bytes (state_of w k q x events n)) h ∙ ap (λ x. kept_bytes (state_of w k q b events x)) i
