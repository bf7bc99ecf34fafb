-- What is read where it succeeds.
use Rattle.std.proofs.Common.{◌≡◌, ℕ, Bool, true, false, cond, [], ◌∷◌, Option, Some, None, Result, Ok, Err, refl}
use Rattle.std.proofs.Common.{sym, ap, ◌∙◌}
use Rattle.std.specs.Option.{ok_or}
use Rattle.paw_base.specs.Bytes.{Tokens, Token}
use Rattle.paw_base.specs.declared.fault.SourceKind.{SourceKind}
use Rattle.paw_base.specs.declared.fault.SourceKind.TheVariants as fault
use Rattle.paw_read_error.specs.Bind.{◌>>=◌}
use Rattle.paw_grammar.specs.Tokens.{read_by}
use Rattle.paw_grammar.specs.Numbers.{in_range}

-- A read value, and the tokens that are left.
abbrev pub Reads : Type 0 → Type 0
Reads A = Result (A × Tokens) SourceKind

-- Where two steps succeed, the first gave a value, and the second went on from it.
pub record Bound {A B : Type 0} (r : Result A SourceKind) (f : A → Result B SourceKind) (y : B) : Type 0 where
  pub value : A
  pub is : r ≡ Ok value
  pub goes_on : f value ≡ Ok y

pub bound : {A B : Type 0} (r : Result A SourceKind) (f : A → Result B SourceKind) (y : B) → (r >>= f) ≡ Ok y → Bound r f y
bound (Err k) f y e = absurd cc
bound (Ok x) f y e = record { value = x; is = refl; goes_on = e }

pub pair_parts : {A B : Type 0} (a c : A) (b d : B) → ◌≡◌ {A = Result (A × B) SourceKind} (Ok (a, b)) (Ok (c, d)) → (a ≡ c) × (b ≡ d)
pair_parts {A} {B} a c b d e = let f : ◌≡◌ {A = A × B} (a, b) (c, d) = cc in (ap (λ x. x.0) f, ap (λ x. x.1) f)

-- The first token means the value, and the others are left.
pub record Meant {A : Type 0} (meaning : Token → Option A) (ts : Tokens) (x : A × Tokens) : Type 0 where
  pub first : Token
  pub all : ts ≡ first ∷ x.1
  pub means : meaning first ≡ Some x.0

pub meant : {A : Type 0} (k : SourceKind) (meaning : Token → Option A) (ts : Tokens) (x : A × Tokens)
    → read_by k meaning ts ≡ Ok x → Meant meaning ts x
meant {A} k meaning [] x e = absurd cc
meant {A} k meaning (t ∷ ts) x e =
    elim (meaning t) as (λ o. meaning t ≡ o → ◌≡◌ {A = Reads A} (ok_or o k >>= λ y. Ok (y, ts)) (Ok x) → Meant meaning (t ∷ ts) x) [
      | None ↦ λ m f. absurd cc
      | Some y ↦ λ m f. let parts = pair_parts y x.0 ts x.1 f in record { first = t; all = ap (λ us. t ∷ us) parts.1; means = m ∙ ap Some parts.0 }
    ] refl e

follows_by : (rule : ℕ → Bool) (n m : ℕ × Tokens) → in_range rule n ≡ Ok m → (n ≡ m) × (rule n.0 ≡ true)
follows_by rule n m e =
    elim (rule n.0) as (λ b. rule n.0 ≡ b → ◌≡◌ {A = Reads ℕ} (cond b (Ok n) (Err fault.Range)) (Ok m) → (n ≡ m) × (rule n.0 ≡ true)) [
      | true ↦ λ h f. (cc, h)
      | false ↦ λ h f. absurd cc
    ] refl e

-- A value in range was read, and follows the rule.
pub record Ranged (rule : ℕ → Bool) (r : Reads ℕ) (x : ℕ × Tokens) : Type 0 where
  pub is : r ≡ Ok x
  pub right : rule x.0 ≡ true

pub ranged : (rule : ℕ → Bool) (r : Reads ℕ) (x : ℕ × Tokens) → (r >>= in_range rule) ≡ Ok x → Ranged rule r x
ranged rule r x e =
    let b = bound r (in_range rule) x e in
    let two = follows_by rule b.value x b.goes_on in
    record { is = b.is ∙ ap Ok two.0; right = ap (λ (n : ℕ × Tokens). rule n.0) (sym two.0) ∙ two.1 }
