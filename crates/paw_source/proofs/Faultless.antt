-- What is known of a reading in which no fault was found.
use Rattle.std.proofs.Common.{◌≡◌, ℕ, Bool, true, false, cond, ◌&&◌, [], ◌∷◌, Option, Some, None, Result, Ok, Err}
use Rattle.std.proofs.Common.{refl, ap, ◌∙◌, sym}
use Rattle.std.specs.Option.{ok_or}
use Rattle.paw_base.specs.Bytes.{Tokens, Token}
use Rattle.paw_base.specs.declared.fault.SourceKind.{SourceKind}
use Rattle.paw_base.specs.declared.fault.SourceKind.TheVariants as kind
use Rattle.paw_read_error.specs.Bind.{◌>>=◌}
use Rattle.paw_grammar.specs.Tokens.{end_of_line, read_by}
use Rattle.paw_grammar.specs.Numbers.{number, in_range, number_with}

-- No fault at a test.
pub passes : {A E : Type 0} (b : Bool) (k : E) (x : Result A E) (e : A) → cond b (Err k) x ≡ Ok e → (b ≡ false) × (x ≡ Ok e)
passes {A} {E} true k x e h = absurd cc
passes {A} {E} false k x e h = (refl, h)

pub holds : {A : Type 0} (b : Bool) (k : SourceKind) (x : Result A SourceKind) (e : A) → cond b x (Err k) ≡ Ok e → (b ≡ true) × (x ≡ Ok e)
holds {A} true k x e h = (refl, h)
holds {A} false k x e h = absurd cc

-- No fault in what is read first, nor in what is read then.
pub bound : {A B : Type 0} (r : Result A SourceKind) (f : A → Result B SourceKind) (e : B) → (r >>= f) ≡ Ok e → (x : A) × (r ≡ Ok x) × (f x ≡ Ok e)
bound {A} {B} (Ok x) f e h = (x, refl, h)
bound {A} {B} (Err k) f e h = absurd cc

-- What follows from what is read first.
pub bound_then : {A B : Type 0} (P : Type 0) (r : Result A SourceKind) (f : A → Result B SourceKind) (e : B)
    → (r >>= f) ≡ Ok e → ((x : A) → r ≡ Ok x → f x ≡ Ok e → P) → P
bound_then {A} {B} P r f e h go = let b = bound r f e h in go b.0 b.1 b.2

pub ok_is : {A E : Type 0} (x y : A) → ◌≡◌ {A = Result A E} (Ok x) (Ok y) → x ≡ y
ok_is {A} {E} x y h = cc

pub some_is : {A : Type 0} (x y : A) → ◌≡◌ {A = Option A} (Some x) (Some y) → x ≡ y
some_is {A} x y h = cc

pub and_true : (a b : Bool) → (a && b) ≡ true → (a ≡ true) × (b ≡ true)
and_true true b h = (refl, h)
and_true false b h = absurd cc

-- The line ends.
pub at_end : {A : Type 0} (ts : Tokens) (x : Result A SourceKind) (e : A) → (end_of_line ts >>= λ _. x) ≡ Ok e → x ≡ Ok e
at_end {A} [] x e h = h
at_end {A} (t ∷ ts) x e h = absurd cc

means_ok : {A : Type 0} (k : SourceKind) (ts : Tokens) (o : Option A) (x : A × Tokens)
    → ◌≡◌ {A = Result (A × Tokens) SourceKind} (ok_or o k >>= λ y. Ok (y, ts)) (Ok x) → o ≡ Some x.0
means_ok {A} k ts None x h = absurd cc
means_ok {A} k ts (Some y) x h = ap (λ (z : A × Tokens). Some z.0) (ok_is (y, ts) x h)

-- The token that was read means what was read.
pub read_ok : {A : Type 0} (k : SourceKind) (f : Token → Option A) (ts : Tokens) (x : A × Tokens)
    → read_by k f ts ≡ Ok x → (t : Token) × (f t ≡ Some x.0)
read_ok {A} k f [] x h = absurd cc
read_ok {A} k f (t ∷ ts) x h = (t, means_ok k ts (f t) x h)

pub in_range_ok : (rule : ℕ → Bool) (n x : ℕ × Tokens) → in_range rule n ≡ Ok x → rule x.0 ≡ true
in_range_ok rule n x h =
    let g = holds _ _ _ x h in
    ap (λ (z : ℕ × Tokens). rule z.0) (sym (ok_is n x g.1)) ∙ g.0

pub number_ok : (rule : ℕ → Bool) (ts : Tokens) (x : ℕ × Tokens) → number_with rule ts ≡ Ok x → rule x.0 ≡ true
number_ok rule ts x h = let b = bound (read_by kind.Number number ts) (in_range rule) x h in in_range_ok rule b.0 x b.2
