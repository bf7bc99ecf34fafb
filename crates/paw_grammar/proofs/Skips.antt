-- The condacts of a line, one after another.
use Rattle.std.proofs.Common.{◌≡◌, ℕ, ◌≤◌, ◌+◌, min, nat_lt, Bool, true, false, drop, List, [], ◌∷◌, ◌++◌, length}
use Rattle.std.proofs.Common.{Option}
use Rattle.std.proofs.Common.{Result, Ok, Err, refl, sym, ap, subst, ◌∙◌, arith, append_assoc}
use Rattle.std.proofs.lemmas.List.{append-nil}
use Rattle.std.specs.Option.{ok_or}
use Rattle.std.proofs.lemmas.Bool.{and_parts}
use Rattle.paw_base.specs.Bytes.{Name, Tokens, Token}
use Rattle.paw_base.specs.declared.fault.SourceKind.{SourceKind}
use Rattle.paw_base.specs.declared.fault.SourceKind.TheVariants as fault
use Rattle.paw_base.specs.declared.parts.Condact.{Condact}
use Rattle.paw_base.specs.declared.rows.ParamKind.{ParamKind}
use Rattle.paw_base.specs.declared.rows.ParamKind.TheVariants as kind
use Rattle.paw_base.specs.Condacts.{code_named, first_kind, second_kind, param_count, params_of, may_be_indirect}
use Rattle.paw_base.specs.declared.limits.TheConstants.{FLAG_COUNT}
use Rattle.paw_base.specs.declared.words.TheConstants.{ADVERB_CLASS, NOUN_CLASS, ADJECTIVE_CLASS, PREPOSITION_CLASS}
use Rattle.paw_game.specs.declared.parts.Word.{Word}
use Rattle.paw_grammar.specs.declared.bounds.Bounds.{Bounds}
use Rattle.paw_read_error.specs.declared.read_error.ReadError.{ReadError}
use Rattle.paw_read_error.specs.declared.read_error.ReadError.TheVariants as unread
use Rattle.paw_read_error.specs.inner.Gives.{Fails}
use Rattle.paw_read_error.specs.Bind.{◌>>=◌}
use Rattle.paw_grammar.specs.Tokens.{read_by, at_is_next}
use Rattle.paw_grammar.specs.Numbers.{number, in_range, number_below}
use Rattle.paw_grammar.specs.Vocabulary.{declared_word, in_class, or_none}
use Rattle.paw_grammar.proofs.Steps.{Reads, bound, pair_parts, meant, ranged}
use Rattle.paw_grammar.proofs.Indirect.{named_plain, first_kind-indirect, second_kind-read}
use Rattle.paw_grammar.specs.Condacts.{table, parameter, is_indirect_before, first_parameter, code_of}
use Rattle.paw_grammar.specs.Condacts.{condact, condacts_in, with_more_condacts}

-- ---- each parameter that is there takes one token

-- Before the rest stand n tokens, none or one.
data Takes (n : ℕ) (ts rest : Tokens) : Type 0 where
  none : n ≡ 0 → ts ≡ rest → Takes n ts rest
  one : (t : Token) → n ≡ 1 → ts ≡ t ∷ rest → Takes n ts rest

takes_meaning : {A : Type 0} (k : SourceKind) (meaning : Token → Option A) (ts rest : Tokens) (x : A)
    → read_by k meaning ts ≡ Ok (x, rest) → Takes 1 ts rest
takes_meaning {A} k meaning ts rest x e = let m = meant k meaning ts (x, rest) e in one m.first refl m.all

takes_number : (rule : ℕ → Bool) (k : SourceKind) (meaning : Token → Option ℕ) (ts rest : Tokens) (x : ℕ)
    → (read_by k meaning ts >>= in_range rule) ≡ Ok (x, rest) → Takes 1 ts rest
takes_number rule k meaning ts rest x e = takes_meaning k meaning ts rest x (ranged rule (read_by k meaning ts) (x, rest) e).is

takes_table : (tables : ℕ) (ts rest : Tokens) (x : ℕ) → table tables ts ≡ Ok (x, rest) → Takes 1 ts rest
takes_table tables ts rest x e =
    let b = bound (number_below tables ts) (λ n. Ok (min n.0 255, n.1)) (x, rest) e in
    let same = (pair_parts (min b.value.0 255) x b.value.1 rest b.goes_on).1 in
    takes_number (λ n. nat_lt n tables) fault.Number number ts rest b.value.0 (b.is ∙ ap (λ (us : Tokens). Ok (b.value.0, us)) same)

takes : (bounds : Bounds) (ws : List Word) (k : ParamKind) (ts rest : Tokens) (x : ℕ)
    → parameter bounds ws k ts ≡ Ok (x, rest) → Takes (param_count k) ts rest
takes bounds ws kind.Absent ts rest x e = none refl (pair_parts 0 x ts rest e).1
takes bounds ws kind.Location ts rest x e = takes_number (λ n. nat_lt n bounds.locations) fault.Number number ts rest x e
takes bounds ws kind.Place ts rest x e = takes_number _ fault.Number _ ts rest x e
takes bounds ws kind.Object ts rest x e = takes_number (λ n. nat_lt n bounds.objects) fault.Number number ts rest x e
takes bounds ws kind.Flag ts rest x e = takes_number (λ n. nat_lt n FLAG_COUNT) fault.Number number ts rest x e
takes bounds ws kind.Number ts rest x e = takes_number (λ n. nat_lt n 256) fault.Number number ts rest x e
takes bounds ws kind.Message ts rest x e = takes_number (λ n. nat_lt n bounds.messages) fault.Number number ts rest x e
takes bounds ws kind.System ts rest x e = takes_number (λ n. nat_lt n bounds.system) fault.Number number ts rest x e
takes bounds ws kind.Table ts rest x e = takes_table bounds.tables ts rest x e
takes bounds ws kind.Adverb ts rest x e =
    takes_meaning fault.Word (or_none (λ t. in_class ADVERB_CLASS (declared_word ws t))) ts rest x e
takes bounds ws kind.Noun ts rest x e =
    takes_meaning fault.Word (or_none (λ t. in_class NOUN_CLASS (declared_word ws t))) ts rest x e
takes bounds ws kind.Adjective ts rest x e = takes_meaning fault.Word (or_none (λ t. in_class ADJECTIVE_CLASS (declared_word ws t))) ts rest x e
takes bounds ws kind.Preposition ts rest x e = takes_meaning fault.Word (or_none (λ t. in_class PREPOSITION_CLASS (declared_word ws t))) ts rest x e

takes_first : (bounds : Bounds) (ws : List Word) (code : ℕ) (indirect : Bool) (ts rest : Tokens) (x : ℕ)
    → (indirect ≡ true → may_be_indirect code ≡ true)
    → first_parameter bounds ws indirect (first_kind code) ts ≡ Ok (x, rest)
    → Takes (param_count (first_kind (code_of indirect code))) ts rest
takes_first bounds ws code true ts rest x may e =
    subst (λ (k : ParamKind). Takes (param_count k) ts rest) (sym (first_kind-indirect code (may refl)))
    (takes_number (λ n. nat_lt n FLAG_COUNT) fault.Number (λ t. number (drop 1 t)) ts rest x e)
takes_first bounds ws code false ts rest x may e = takes bounds ws (first_kind code) ts rest x e

-- ---- a condact takes as many tokens as it has parameters

-- The tokens rest are left of ts after n parameters.
pub record Left (bounds : Bounds) (ws : List Word) (n : ℕ) (ts rest : Tokens) : Type 0 where
  pub same : condacts_in bounds ws n ts ≡ condacts_in bounds ws 0 rest
  pub shorter : length rest ≤ length ts

skips_two : (bounds : Bounds) (ws : List Word) (m n : ℕ) (ts us rest : Tokens) → Takes m ts us → Takes n us rest → Left bounds ws (m + n) ts rest
unfolding condacts_in
skips_two bounds ws m n ts us rest (none a b) (none c d) = record { same = rw (a, c, b, d) refl; shorter = rw (b, d) (omega arith) }
skips_two bounds ws m n ts us rest (none a b) (one u c d) = record { same = rw (a, c, b, d) refl; shorter = rw (b, d) (omega arith) }
skips_two bounds ws m n ts us rest (one t a b) (none c d) = record { same = rw (a, c, b, d) refl; shorter = rw (b, d) (omega arith) }
skips_two bounds ws m n ts us rest (one t a b) (one u c d) = record { same = rw (a, c, b, d) refl; shorter = rw (b, d) (omega arith) }

abbrev with_second : Bounds → List Word → Bool → ℕ → ℕ × Tokens → Reads Condact
with_second bounds ws indirect code a =
    parameter bounds ws (second_kind code) a.1 >>= λ b. Ok (record { code = code_of indirect code; a = a.0; b = b.0 }, b.1)

abbrev with_first : Bounds → List Word → Tokens → ℕ → Reads Condact
with_first bounds ws ts code =
    first_parameter bounds ws (is_indirect_before code ts) (first_kind code) ts >>= with_second bounds ws (is_indirect_before code ts) code

pub skips : (bounds : Bounds) (ws : List Word) (name : Name) (ts rest : Tokens) (c : Condact)
    → condact bounds ws name ts ≡ Ok (c, rest) → Left bounds ws (params_of c.code) ts rest
unfolding condact
skips bounds ws name ts rest c e =
    let found = bound (ok_or (code_named name) fault.Condact) (with_first bounds ws ts) (c, rest) e in
    let plain : ℕ = found.value in
    let indirect : Bool = is_indirect_before plain ts in
    let code : ℕ = code_of indirect plain in
    let a = bound (first_parameter bounds ws indirect (first_kind plain) ts) (with_second bounds ws indirect plain) (c, rest) found.goes_on in
    let b = bound (parameter bounds ws (second_kind plain) a.value.1)
    (λ b. Ok (record { code = code; a = a.value.0; b = b.0 }, b.1)) (c, rest) a.goes_on in
    let made : Condact = record { code = code; a = a.value.0; b = b.value.0 } in
    let parts = pair_parts made c b.value.1 rest b.goes_on in
    let may : indirect ≡ true → may_be_indirect plain ≡ true = λ h. (and_parts (may_be_indirect plain) (at_is_next ts) h).0 in
    let same = second_kind-read plain indirect (named_plain name plain found.is) may in
    let first = takes_first bounds ws plain indirect ts a.value.1 a.value.0 may a.is in
    let second : Takes (param_count (second_kind code)) a.value.1 b.value.1 =
    subst (λ (k : ParamKind). Takes (param_count k) a.value.1 b.value.1) (sym same)
    (takes bounds ws (second_kind plain) a.value.1 b.value.1 b.value.0 b.is) in
    let two = skips_two bounds ws (param_count (first_kind code)) (param_count (second_kind code))
    ts a.value.1 b.value.1 first second in
    subst (λ (d : Condact). Left bounds ws (params_of d.code) ts rest) parts.0
    (subst (λ (us : Tokens). Left bounds ws (params_of code) ts us) parts.1 two)

-- ---- the loop over the condacts

-- One condact more.
one_more : (bounds : Bounds) (ws : List Word) (cs : List Condact) (name : Name) (ts rest : Tokens)
    (c : Condact) → condact bounds ws name ts ≡ Ok (c, rest)
    → with_more_condacts cs (condacts_in bounds ws 0 (name ∷ ts)) ≡ with_more_condacts (cs ++ c ∷ []) (condacts_in bounds ws 0 rest)
unfolding condacts_in
one_more bounds ws cs name ts rest c e =
    rw (e, (skips bounds ws name ts rest c e).same)
    (elim (condacts_in bounds ws 0 rest) as (λ r. with_more_condacts cs (r >>= λ ds. Ok (c ∷ ds)) ≡ with_more_condacts (cs ++ c ∷ []) r) [
      | Ok ds ↦ ap Ok (sym (append_assoc cs (c ∷ []) ds))
      | Err k ↦ refl
    ])

-- A condact with a fault.
one_fault : (bounds : Bounds) (ws : List Word) (cs : List Condact) (name : Name) (ts : Tokens)
    (k : SourceKind) → condact bounds ws name ts ≡ Err k
    → with_more_condacts cs (condacts_in bounds ws 0 (name ∷ ts)) ≡ Err k
unfolding condacts_in
one_fault bounds ws cs name ts k e = rw e refl

pub fails_here : (bounds : Bounds) (ws : List Word) (cs : List Condact) (name : Name) (ts old : Tokens)
    (whole : Result (List Condact) SourceKind) (e : ReadError SourceKind) → old ≡ name ∷ ts
    → with_more_condacts cs (condacts_in bounds ws 0 old) ≡ whole → Fails e (condact bounds ws name ts) → Fails e whole
fails_here bounds ws cs name ts old whole unread.Memory next invariant fails = tt
fails_here bounds ws cs name ts old whole (unread.Fault k) next invariant fails =
    sym invariant ∙ ap (λ (x : Tokens). with_more_condacts cs (condacts_in bounds ws 0 x)) next ∙ one_fault bounds ws cs name ts k fails

pub goes_on : (bounds : Bounds) (ws : List Word) (cs more : List Condact) (name : Name)
    (ts old rest : Tokens) (c : Condact) (whole : Result (List Condact) SourceKind) → old ≡ name ∷ ts
    → with_more_condacts cs (condacts_in bounds ws 0 old) ≡ whole → condact bounds ws name ts ≡ Ok (c, rest)
    → more ≡ cs ++ c ∷ [] → with_more_condacts more (condacts_in bounds ws 0 rest) ≡ whole
goes_on bounds ws cs more name ts old rest c whole next invariant is pushed =
    ap (λ (x : List Condact). with_more_condacts x (condacts_in bounds ws 0 rest)) pushed
    ∙ sym (one_more bounds ws cs name ts rest c is)
    ∙ ap (λ (x : Tokens). with_more_condacts cs (condacts_in bounds ws 0 x)) (sym next) ∙ invariant

pub at_end : (bounds : Bounds) (ws : List Word) (cs : List Condact) (old : Tokens)
    (whole : Result (List Condact) SourceKind) → old ≡ [] → with_more_condacts cs (condacts_in bounds ws 0 old) ≡ whole
    → whole ≡ Ok cs
unfolding condacts_in
at_end bounds ws cs old whole empty invariant =
    sym invariant ∙ ap (λ (x : Tokens). with_more_condacts cs (condacts_in bounds ws 0 x)) empty ∙ ap Ok (append-nil cs)
