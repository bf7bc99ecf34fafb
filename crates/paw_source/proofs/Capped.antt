-- Numbers that are held in four bytes: those above stand for one another, as none of them is the number of a row.
use Rattle.std.proofs.Common.{◌≡◌, ℕ, suc, ◌-◌, ◌≤◌, Bool, true, false, cond, not, ◌||◌, ◌&&◌, eqb}
use Rattle.std.proofs.Common.{ltb, min, [], ◌∷◌, ◌++◌, length, replicate, drop, Option}
use Rattle.std.proofs.Common.{Some, None, Result, Ok, Err, refl, sym, ap, ◌∙◌, arith}
use Rattle.std.specs.Prelude.{nat_lt}
use Rattle.std.proofs.lemmas.Bool.{ltb-true}
use Rattle.std.proofs.lemmas.Bool.Decides.{nat_tests}
use Rattle.paw_base.specs.Bytes.{Name, Tokens, Bytes, Texts}
use Rattle.paw_base.specs.declared.limits.TheConstants.{LOCATION_LIMIT}
use Rattle.paw_base.specs.declared.fault.SourceKind.{SourceKind}
use Rattle.paw_base.specs.declared.fault.SourceKind.TheVariants as kind
use Rattle.paw_lex.specs.Bytes.{is_comment, has_forbidden_byte}
use Rattle.paw_lex.specs.Tokens.{tokens_of}
use Rattle.paw_grammar.specs.declared.section.Section.{Section}
use Rattle.paw_grammar.specs.declared.section.Section.TheVariants as section
use Rattle.paw_read_error.specs.Bind.{◌>>=◌}
use Rattle.paw_grammar.specs.Numbers.{number}
use Rattle.paw_grammar.specs.inner.Numbers.{capped_value}
use Rattle.paw_grammar.specs.GrammarState.{Spelt}
use Rattle.paw_grammar.specs.GrammarTexts.{text_item, texts_of, with_texts, text_limit, is_in_text}
use Rattle.paw_grammar.specs.GrammarHeads.{new_text, new_exits, item_in, slash_line}
use Rattle.paw_grammar.specs.Spells.{begins_with_slash, begins_with_blank, is_text_line, text_added, tokens_added}
use Rattle.paw_grammar.specs.Spells.{after_line}
use Rattle.paw_source.specs.inner.Drafts.{IsShortDraft}

and_false : (b : Bool) → (b && false) ≡ false
and_false true = refl
and_false false = refl

same_number : (n k : ℕ) → k ≤ 256 → eqb (min n 4294967295) k ≡ eqb n k
same_number n k h = grind (arith, nat_tests, h)

text_capped : (limit n : ℕ) (ts : Texts) → length ts ≤ 256 → text_item limit (min n 4294967295) ts ≡ text_item limit n ts
text_capped limit n ts h =
    ap (λ (b : Bool).
    cond (not b) (Err kind.Range) (cond (not (ltb (length ts) limit)) (Err kind.TooBig) (Ok (ts ++ [] ∷ []))))
    (same_number n (length ts) h)

new_text_capped : (s : Section) (d : Spelt) (n : ℕ) → length (texts_of s d) ≤ 256 → new_text s d (min n 4294967295) ≡ new_text s d n
new_text_capped s d n h =
    ap (λ (r : Result Texts SourceKind). r >>= λ ts. Ok (with_texts s false ts d))
    (text_capped (text_limit s) n (texts_of s d) h)

-- Past the locations there is no item of exits.
past : (d : Spelt) (n : ℕ) → nat_lt n (length d.locations) ≡ false → new_exits d n ≡ Err kind.Range
past d n h =
    rw h (elim (nat_lt n (length d.exits)) as
    (λ b. cond (b || true) (Err kind.Range)
    (Ok (record d { exits = d.exits ++ replicate (suc n - length d.exits) [] })) ≡ Err kind.Range) [
      | true ↦ refl
      | false ↦ refl
    ])

exits_capped : (d : Spelt) (n : ℕ) → length d.locations ≤ LOCATION_LIMIT
    → new_exits d (min n 4294967295) ≡ new_exits d n
exits_capped d n few =
    elim (nat_lt n (length d.locations)) as (λ b. nat_lt n (length d.locations) ≡ b → new_exits d (min n 4294967295) ≡ new_exits d n) [
      | true ↦ λ e.
          let low = ltb-true n (length d.locations) e in
          let same : min n 4294967295 ≡ n = omega (arith, low, few) in
          ap (new_exits d) same
      | false ↦ λ e.
          let also : nat_lt (min n 4294967295) (length d.locations) ≡ false = grind (arith, nat_tests, e, few) in
          past d (min n 4294967295) also ∙ sym (past d n e)
    ] refl

item_capped : (s : Section) (d : Spelt) (n : ℕ) → IsShortDraft d → item_in s d (min n 4294967295) ≡ item_in s d n
item_capped section.Before d n small = refl
item_capped section.Voc d n small = refl
item_capped section.Stx d n small = new_text_capped section.Stx d n small.system
item_capped section.Mtx d n small = new_text_capped section.Mtx d n small.messages
item_capped section.Otx d n small = let few = small.names in new_text_capped section.Otx d n (omega (arith, few))
item_capped section.Ltx d n small = let few = small.locations in new_text_capped section.Ltx d n (omega (arith, few))
item_capped section.Con d n small = exits_capped d n small.locations
item_capped section.Obj d n small = refl
item_capped section.Pro d n small = refl

pub slash_capped : (d : Spelt) (name : Name) (o : Option ℕ) (ts : Tokens) → IsShortDraft d → slash_line d name (capped_value o) ts
    ≡ slash_line d name o ts
slash_capped d name None ts small = refl
slash_capped d name (Some n) [] small = item_capped d.section d n small
slash_capped d name (Some n) (t ∷ ts) small = refl

-- What comes after three tests that fail.
past_three : {A : Type 0} (x y z rest : A) (a b c : Bool) → a ≡ false → b ≡ false → c ≡ false
    → cond a x (cond b y (cond c z rest)) ≡ rest
past_three x y z rest a b c p q r = rw (p, q, r) refl

-- A line of tokens that begins with `/`, of which the first token was taken and its number read.
pub slash_read : (p : ℕ) (d : Spelt) (l name rest : Bytes) (left : Tokens) (o : Option ℕ) → IsShortDraft d
    → is_comment l ≡ false → has_forbidden_byte false l ≡ false → begins_with_slash l ≡ true → tokens_of l ≡ name ∷ left
    → rest ≡ drop 1 name → o ≡ capped_value (number rest) → slash_line d name o left ≡ after_line p d l
unfolding after_line
slash_read p d l name rest left o small comment allowed slash tokens cut read =
    let blank = begins_with_blank l in
    let no_text : is_text_line d l ≡ false = rw slash (and_false (is_in_text d)) in
    let no_fault = ap (λ (b : Bool). has_forbidden_byte b l) no_text ∙ allowed in
    let is : after_line p d l ≡ tokens_added p d (begins_with_slash l) blank (tokens_of l) =
    past_three (Ok d) (Err kind.Text) (text_added d l) _ (is_comment l) (has_forbidden_byte (is_text_line d l) l)
    (is_text_line d l) comment no_fault no_text in
    ap (λ (x : Option ℕ). slash_line d name x left) read
    ∙ ap (λ (x : Bytes). slash_line d name (capped_value (number x)) left) cut
    ∙ slash_capped d name (number (drop 1 name)) left small
    ∙ sym (ap (λ (x : Tokens). tokens_added p d true blank x) tokens)
    ∙ sym (ap (λ (b : Bool). tokens_added p d b blank (tokens_of l)) slash)
    ∙ sym is
