-- Texts that grow by lines follow the rules of a game's texts.
use Rattle.std.proofs.Common.{◌≡◌, ℕ, zero, suc, ◌-◌, ◌<◌, ◌≤◌, Bool, true, false, cond, not, ◌&&◌, ◌||◌}
use Rattle.std.proofs.Common.{eqb, ltb, List, [], ◌∷◌, ◌++◌, length, set, get_or, Ok, Err, refl, arith}
use Rattle.std.specs.Prelude.{nat_le, nat_lt}
use Rattle.std.specs.List.{list_all, list_any}
use Rattle.std.proofs.lemmas.Bool.{and_parts}
use Rattle.std.proofs.lemmas.Bool.Decides.{nat_tests}
use Rattle.std.proofs.lemmas.List.{length-set, length-append}
use Rattle.std.proofs.lemmas.List.Folds.{list_all-append}
use Rattle.paw_base.specs.Bytes.{Line, Texts, Bytes}
use Rattle.paw_base.specs.declared.limits.TheConstants.{TEXT_LIMIT}
use Rattle.paw_base.specs.declared.fault.SourceKind.TheVariants as kind
use Rattle.paw_game.specs.Valid.{is_text, is_text_byte, begins_no_line, is_printed}
use Rattle.paw_lex.specs.Bytes.{is_comment, is_allowed, has_forbidden_byte}
use Rattle.paw_grammar.specs.Tokens.{at_most}
use Rattle.paw_grammar.specs.GrammarState.{last_or, with_last}
use Rattle.paw_grammar.specs.GrammarTexts.{with_line, text_line, text_item}
use Rattle.paw_grammar.specs.Spells.{begins_with_slash}
use Rattle.paw_source.proofs.Faultless.{passes, bound, ok_is}

-- ---- lists

pub all_set : {X : Type 0} (rule : X → Bool) (xs : List X) (i : ℕ) (x : X) → list_all rule xs ≡ true → rule x ≡ true → list_all rule (set xs i x) ≡ true
all_set rule [] i x all one = refl
all_set rule (y ∷ ys) zero x all one = rw one (and_parts (rule y) (list_all rule ys) all).1
all_set rule (y ∷ ys) (suc i) x all one =
    let p = and_parts (rule y) (list_all rule ys) all in
    rw p.0 (all_set rule ys i x p.1 one)

pub all_get : {X : Type 0} (rule : X → Bool) (xs : List X) (i : ℕ) (other : X) → list_all rule xs ≡ true → rule other ≡ true → rule (get_or xs i other) ≡ true
all_get rule [] i other all one = one
all_get rule (y ∷ ys) zero other all one = (and_parts (rule y) (list_all rule ys) all).0
all_get rule (y ∷ ys) (suc i) other all one = all_get rule ys i other (and_parts (rule y) (list_all rule ys) all).1 one

pub all_at : {X : Type 0} (rule : X → Bool) (xs : List X) (i : ℕ) (other : X) → i < length xs → list_all rule xs ≡ true → rule (get_or xs i other) ≡ true
all_at rule [] i other within all = absurd (omega arith)
all_at rule (y ∷ ys) zero other within all = (and_parts (rule y) (list_all rule ys) all).0
all_at rule (y ∷ ys) (suc i) other within all = all_at rule ys i other (omega (arith, within)) (and_parts (rule y) (list_all rule ys) all).1

pub all_pushed : {X : Type 0} (rule : X → Bool) (xs : List X) (x : X) → list_all rule xs ≡ true → rule x ≡ true → list_all rule (xs ++ x ∷ []) ≡ true
all_pushed rule xs x all one = rw (list_all-append rule xs (x ∷ []), all, one) refl

pub both : (a b : Bool) → a ≡ true → b ≡ true → (a && b) ≡ true
both true true p q = refl
both true false p q = absurd cc
both false b p q = absurd cc

-- ---- lines

-- Bytes that a text line may hold.
abbrev plain : ℕ → Bool
plain b = nat_le 0x20 b && nat_le b 0x7E

plain_byte : (b : ℕ) → not (is_allowed true b) ≡ false → plain b ≡ true
plain_byte b h = grind (arith, nat_tests)

plain_line : (l : Line) → list_any (λ b. not (is_allowed true b)) l ≡ false → list_all plain l ≡ true
plain_line [] h = refl
plain_line (b ∷ bs) h =
    elim (not (is_allowed true b)) as (λ v. not (is_allowed true b) ≡ v
    → (v || list_any (λ b. not (is_allowed true b)) bs) ≡ false → list_all plain (b ∷ bs) ≡ true) [
      | true ↦ λ e f. absurd cc
      | false ↦ λ e f. both (plain b) (list_all plain bs) (plain_byte b e) (plain_line bs f)
    ] refl h

plain_is_text : (b : ℕ) → plain b ≡ true → (is_text_byte b ≡ true) × (eqb b 10 ≡ false)
plain_is_text b h = (grind (arith, nat_tests), grind (arith, nat_tests))

-- Inside a line any of these bytes may stand.
within_line : (l : Line) → list_all plain l ≡ true → is_printed false l ≡ true
within_line [] h = refl
within_line (b ∷ bs) h =
    let p = and_parts (plain b) (list_all plain bs) h in
    let q = plain_is_text b p.0 in
    rw (q.0, q.1) (within_line bs p.1)

not_slash : (b : ℕ) → eqb b 59 ≡ false → eqb b 47 ≡ false → begins_no_line b ≡ false
not_slash b p q = rw (p, q) refl

-- A line that doesn't begin with `/` or `;` may stand anywhere.
whole_line : (first : Bool) (l : Line) → list_all plain l ≡ true → is_comment l ≡ false → begins_with_slash l ≡ false → is_printed first l ≡ true
whole_line first [] h c s = refl
whole_line first (b ∷ bs) h c s =
    let p = and_parts (plain b) (list_all plain bs) h in
    let q = plain_is_text b p.0 in
    let n = not_slash b c s in
    rw (q.0, q.1, n) (elim first as (λ f. ((true && not (f && false)) && is_printed false bs) ≡ true) [
      | true ↦ within_line bs p.1
      | false ↦ within_line bs p.1
    ])

-- What may stand anywhere may stand after a text.
behind : (first : Bool) (t l : Bytes) → is_printed first t ≡ true → ((f : Bool) → is_printed f l ≡ true) → is_printed first (t ++ l) ≡ true
behind first [] l h any = any first
behind first (b ∷ bs) l h any =
    let p = and_parts (is_text_byte b && not (first && begins_no_line b)) (is_printed (eqb b 10) bs) h in
    both (is_text_byte b && not (first && begins_no_line b)) (is_printed (eqb b 10) (bs ++ l)) p.0 (behind (eqb b 10) bs l p.1 any)

joined_printed : (begun : Bool) (t l : Bytes) → is_printed true t ≡ true → ((f : Bool) → is_printed f l ≡ true) → is_printed true (with_line begun t l) ≡ true
joined_printed true t l h any = behind true t (10 ∷ l) h (λ f. elim f as (λ f. is_printed f (10 ∷ l) ≡ true) [ true ↦ any true | false ↦ any true ])
joined_printed false t l h any = behind true t l h any

allowed : (c a : Bool) → c ≡ false → (not c && a) ≡ false → a ≡ false
allowed true a e h = absurd cc
allowed false a e h = h

-- A text line leaves texts that follow the rules.
pub text_line_ok : (begun : Bool) (l : Line) (ts us : Texts) → list_all is_text ts ≡ true
    → is_comment l ≡ false → begins_with_slash l ≡ false → has_forbidden_byte true l ≡ false
    → text_line begun l ts ≡ Ok us → (list_all is_text us ≡ true) × (length us ≡ length ts)
text_line_ok begun l ts us all comment slash bytes h =
    let b = bound (at_most TEXT_LIMIT (with_line begun (last_or [] ts) l)) (λ t. Ok (with_last t ts)) us h in
    let old = all_get is_text ts (length ts - 1) [] all refl in
    let printed_old = (and_parts (nat_le (length (last_or [] ts)) TEXT_LIMIT)
    (is_printed true (last_or [] ts)) old).1 in
    let plain_l : list_all plain l ≡ true = plain_line l (allowed (is_comment l) (list_any (λ b. not (is_allowed true b)) l) comment bytes) in
    let printed_new = joined_printed begun (last_or [] ts) l printed_old (λ f. whole_line f l plain_l comment slash) in
    let short = passes (nat_lt TEXT_LIMIT (length (with_line begun (last_or [] ts) l))) kind.TooBig (Ok (with_line begun (last_or [] ts) l)) b.0 b.1 in
    let few : nat_le (length (with_line begun (last_or [] ts) l)) TEXT_LIMIT ≡ true =
    grind (arith, nat_tests, short.0) in
    let good : is_text b.0 ≡ true =
    rw (← ok_is (with_line begun (last_or [] ts) l) b.0 short.1)
    (both (nat_le (length (with_line begun (last_or [] ts) l)) TEXT_LIMIT)
    (is_printed true (with_line begun (last_or [] ts) l)) few printed_new) in
    let made = ok_is (with_last b.0 ts) us b.2 in
    rw (← made) (all_set is_text ts (length ts - 1) b.0 all good, length-set ts (length ts - 1) b.0)

pub text_item_ok : (limit n : ℕ) (ts us : Texts) → list_all is_text ts ≡ true → text_item limit n ts ≡ Ok us
    → (list_all is_text us ≡ true) × (length us ≤ limit)
text_item_ok limit n ts us all h =
    let a = passes (not (eqb n (length ts))) kind.Range (cond (not (ltb (length ts) limit)) (Err kind.TooBig) (Ok (ts ++ [] ∷ []))) us h in
    let b = passes (not (ltb (length ts) limit)) kind.TooBig (Ok (ts ++ [] ∷ [])) us a.1 in
    let made = ok_is (ts ++ [] ∷ []) us b.1 in
    let room : length ts < limit = grind (arith, nat_tests, b.0) in
    let long = length-append ts ([] ∷ []) in
    rw (← made) (all_pushed is_text ts [] all refl, omega (arith, room, long))
