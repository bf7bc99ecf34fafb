-- The two laws of each row: what is read as a row stands there as its image, and the image of a row that fits is read
-- as that row.
use Rattle.std.proofs.Common.{◌≡◌, ℕ, zero, suc, ◌+◌, ◌*◌, ◌<◌, Bool, true, false, not, cond, eqb, List}
use Rattle.std.proofs.Common.{[], ◌∷◌, ◌++◌, length, Ok, refl, sym, ap, subst, ◌∙◌, append_assoc, arith}
use Rattle.std.specs.Prelude.{bit_and}
use Rattle.std.specs.Int.{bit_at}
use Rattle.std.specs.List.{flat_map, AllByRecursion}
use Rattle.std.proofs.lemmas.Nat.{and_mask}
use Rattle.std.proofs.lemmas.Nat.Bits.{and_pow}
use Rattle.paw_base.specs.Bytes.{Bytes}
use Rattle.paw_base.specs.declared.parts.Condact.{Condact}
use Rattle.paw_base.specs.declared.parts.ObjectFacts.{ObjectFacts}
use Rattle.paw_base.specs.declared.rows.ParamKind.{ParamKind}
use Rattle.paw_base.specs.declared.rows.ParamKind.TheVariants as kind
use Rattle.paw_base.specs.Condacts.{is_code, first_kind, second_kind}
use Rattle.paw_base.specs.inner.Condacts.{IsCode}
use Rattle.paw_game.specs.declared.parts.ObjectRow.{ObjectRow}
use Rattle.paw_game.specs.declared.parts.Exit.{Exit}
use Rattle.paw_game.specs.declared.parts.Entry.{Entry}
use Rattle.paw_game.specs.Image.{two_bytes, text_image, weight_byte, object_image, exit_image}
use Rattle.paw_game.specs.Image.{exits_image, parameter_image, condact_image, entry_image, table_image}
use Rattle.paw_image.specs.Reading.{byte_at, number_at}
use Rattle.paw_image.specs.inner.Reading.{few_at, pair_at, sized_text_at, leading_facts, object_at, leading_exit}
use Rattle.paw_image.specs.inner.Reading.{exits_at, code_at, parameter_at, leading_condact, leading_entry}
use Rattle.paw_image.specs.inner.Reading.{leading_table}
use Rattle.paw_image.specs.inner.Sizes.{FitsText, FitsObject, FitsExit, FitsExits, FitsParameter, FitsCondact}
use Rattle.paw_image.specs.inner.Sizes.{FitsEntry, FitsTable}
use Rattle.paw_image.proofs.FieldLaws.{IsBytes, Takes, Takes-then, bind_then, follows_ok, at_ok, byte_takes}
use Rattle.paw_image.proofs.FieldLaws.{bytes_take, bytes_again, number_takes, number_again}
use Rattle.paw_image.proofs.ListLaws.{TakesRow, ReadsAgain, rows_take, rows_again, few_take, few_again}

-- ---- texts ----

pub text_takes : TakesRow sized_text_at text_image
unfolding sized_text_at
text_takes bytes x fits e =
    bind_then _ (number_at bytes) _ x e (λ len len_ok e.
    let len_taken = (number_takes bytes len fits len_ok).0 in
    let text_taken = bytes_take len.0 len.1 x len_taken.rest_fits e in
    subst (λ (n : ℕ). Takes bytes (two_bytes n ++ x.0) x.1) (sym text_taken.1) (Takes-then (two_bytes len.0) x.0 len_taken text_taken.0))

pub text_again : ReadsAgain sized_text_at text_image FitsText
unfolding sized_text_at
text_again text rest fits = rw (number_again (length text) (text ++ rest) fits, bytes_again (length text) text rest refl) refl

-- ---- objects ----

abbrev pub facts_image : ObjectFacts → Bytes
facts_image f = f.noun ∷ f.adjective ∷ f.start ∷ weight_byte f.weight f.container f.wearable ∷ []

-- A bit that is 0 or 1, times its worth.
worth_64 : (bit : ℕ) → bit < 2 → cond (not (eqb (bit * 64) 0)) 64 0 ≡ bit * 64
worth_64 zero lt = refl
worth_64 (suc zero) lt = refl
worth_64 (suc (suc bit)) lt = absurd (omega arith)

worth_128 : (bit : ℕ) → bit < 2 → cond (not (eqb (bit * 128) 0)) 128 0 ≡ bit * 128
worth_128 zero lt = refl
worth_128 (suc zero) lt = refl
worth_128 (suc (suc bit)) lt = absurd (omega arith)

-- The three parts of a byte make up the byte.
weight_takes : (b : ℕ) → b < 256 → weight_byte (bit_and b 63) (not (eqb (bit_and b 64) 0)) (not (eqb (bit_and b 128) 0)) ≡ b
weight_takes b lt =
    rw (and_mask b 6, and_pow b 6, and_pow b 7)
    (let h64 = worth_64 (bit_at b 6) (omega arith) in
    let h128 = worth_128 (bit_at b 7) (omega arith) in
    rw (h64, h128) (omega arith))

-- The bits of a byte with this weight, and with these two bits above it.
byte_parts : (b weight six seven : ℕ) → b ≡ weight + six * 64 + seven * 128 → weight < 64 → six < 2 → seven < 2
    → (bit_and b 63 ≡ weight) × (not (eqb (bit_and b 64) 0) ≡ not (eqb (six * 64) 0))
    × (not (eqb (bit_and b 128) 0) ≡ not (eqb (seven * 128) 0))
byte_parts b weight six seven is low bit other =
    let six_is : bit_at b 6 ≡ six = omega (arith, is, low, bit, other) in
    let seven_is : bit_at b 7 ≡ seven = omega (arith, is, low, bit, other) in
    (and_mask b 6 ∙ omega (arith, is, low, bit, other), rw (and_pow b 6, six_is) refl, rw (and_pow b 7, seven_is) refl)

-- The byte gives the three parts back.
byte_gives : (weight : ℕ) (container wearable : Bool) → weight < 64
    → (bit_and (weight_byte weight container wearable) 63 ≡ weight)
    × (not (eqb (bit_and (weight_byte weight container wearable) 64) 0) ≡ container)
    × (not (eqb (bit_and (weight_byte weight container wearable) 128) 0) ≡ wearable)
byte_gives weight false false lt = byte_parts (weight + 0 + 0) weight 0 0 (omega arith) lt (omega arith) (omega arith)
byte_gives weight true false lt = byte_parts (weight + 64 + 0) weight 1 0 (omega arith) lt (omega arith) (omega arith)
byte_gives weight false true lt = byte_parts (weight + 0 + 128) weight 0 1 (omega arith) lt (omega arith) (omega arith)
byte_gives weight true true lt = byte_parts (weight + 64 + 128) weight 1 1 (omega arith) lt (omega arith) (omega arith)

facts_take : TakesRow leading_facts facts_image
unfolding leading_facts
facts_take bytes x fits e =
    bind_then _ (byte_at bytes) _ x e (λ noun noun_ok e.
    bind_then _ (byte_at noun.1) _ x e (λ adjective adjective_ok e.
    bind_then _ (byte_at adjective.1) _ x e (λ start start_ok e.
    bind_then _ (byte_at start.1) _ x e (λ weight weight_ok e.
    let noun_taken = (byte_takes bytes noun fits noun_ok).0 in
    let adjective_taken = (byte_takes noun.1 adjective noun_taken.rest_fits adjective_ok).0 in
    let start_taken = (byte_takes adjective.1 start adjective_taken.rest_fits start_ok).0 in
    let weight_taken = byte_takes start.1 weight start_taken.rest_fits weight_ok in
    at_ok (λ (y : ObjectFacts × Bytes). Takes bytes (facts_image y.0) y.1) _ x e
    (subst (λ (w : ℕ). Takes bytes (noun.0 ∷ adjective.0 ∷ start.0 ∷ w ∷ []) weight.1) (sym (weight_takes weight.0 weight_taken.1))
    (Takes-then (noun.0 ∷ []) (adjective.0 ∷ start.0 ∷ weight.0 ∷ []) noun_taken
    (Takes-then (adjective.0 ∷ []) (start.0 ∷ weight.0 ∷ []) adjective_taken (Takes-then (start.0 ∷ []) (weight.0 ∷ []) start_taken weight_taken.0))))))))

pub facts_again : ReadsAgain leading_facts facts_image (λ f. f.weight < 64)
unfolding leading_facts
facts_again f rest lt = let gives = byte_gives f.weight f.container f.wearable lt in rw (gives.0, gives.1, gives.2) refl

pub object_takes : TakesRow object_at object_image
unfolding object_at
object_takes bytes x fits e =
    bind_then _ (sized_text_at bytes) _ x e (λ text text_ok e.
    bind_then _ (leading_facts text.1) _ x e (λ facts facts_ok e.
    let text_taken = text_takes bytes text fits text_ok in
    let facts_taken = facts_take text.1 facts text_taken.rest_fits facts_ok in
    at_ok (λ (y : ObjectRow × Bytes). Takes bytes (object_image y.0) y.1) _ x e (Takes-then (text_image text.0) (facts_image facts.0) text_taken facts_taken)))

pub object_again : ReadsAgain object_at object_image FitsObject
unfolding object_at
object_again o rest fits =
    let regrouped : object_image o ++ rest ≡ text_image o.text ++ (facts_image o.facts ++ rest) = append_assoc (text_image o.text) (facts_image o.facts) rest in
    ap object_at regrouped ∙ rw (text_again o.text (facts_image o.facts ++ rest) fits.text, facts_again o.facts rest fits.weight) refl

-- ---- exits ----

pair_takes : TakesRow pair_at (λ p. p.0 ∷ p.1 ∷ [])
unfolding pair_at
pair_takes bytes x fits e =
    bind_then _ (byte_at bytes) _ x e (λ first first_ok e.
    bind_then _ (byte_at first.1) _ x e (λ second second_ok e.
    let first_taken = (byte_takes bytes first fits first_ok).0 in
    let second_taken = (byte_takes first.1 second first_taken.rest_fits second_ok).0 in
    at_ok (λ (y : (ℕ × ℕ) × Bytes). Takes bytes (y.0.0 ∷ y.0.1 ∷ []) y.1) _ x e
    (Takes-then (first.0 ∷ []) (second.0 ∷ []) first_taken second_taken)))

pub exit_takes : TakesRow leading_exit exit_image
unfolding leading_exit
exit_takes bytes x fits e =
    bind_then _ (pair_at bytes) _ x e (λ pair pair_ok e.
    at_ok (λ (y : Exit × Bytes). Takes bytes (exit_image y.0) y.1) _ x e (pair_takes bytes pair fits pair_ok))

exit_again : ReadsAgain leading_exit exit_image FitsExit
unfolding leading_exit pair_at
exit_again x rest fits = refl

all_exits : (xs : List Exit) → AllByRecursion FitsExit xs
all_exits [] = tt
all_exits (x ∷ xs) = (tt, all_exits xs)

pub exits_take : TakesRow exits_at exits_image
exits_take bytes x fits e = few_take leading_exit exit_image exit_takes bytes x fits e

pub exits_again : ReadsAgain exits_at exits_image FitsExits
exits_again xs rest fits = few_again leading_exit exit_image FitsExit exit_again xs rest (all_exits xs)

-- ---- tables ----

pub parameter_takes : (k : ParamKind) → TakesRow (parameter_at k) (parameter_image k)
parameter_takes kind.Absent bytes x fits e = at_ok (λ (y : ℕ × Bytes). Takes bytes [] y.1) (0, bytes) x e (record { parts = refl; rest_fits = fits })
parameter_takes _ bytes x fits e = (byte_takes bytes x fits e).0

parameter_again : (k : ParamKind) → ReadsAgain (parameter_at k) (parameter_image k) (FitsParameter k)
parameter_again kind.Absent x rest fits = ap (λ (y : ℕ). Ok (y, rest)) (sym fits)
parameter_again _ x rest fits = refl

code_takes : (bytes : Bytes) (x : ℕ × Bytes) → IsBytes bytes → code_at bytes ≡ Ok x → Takes bytes (x.0 ∷ []) x.1
code_takes [] x fits e = absurd cc
code_takes (code ∷ bytes) x fits e = (byte_takes (code ∷ bytes) x fits (follows_ok (is_code code) (Ok (code, bytes)) (suc (length bytes)) x e).1).0

code_again : (code : ℕ) (rest : Bytes) → IsCode code → code_at (code ∷ rest) ≡ Ok (code, rest)
code_again code rest is = rw is refl

pub condact_takes : TakesRow leading_condact condact_image
unfolding leading_condact
condact_takes bytes x fits e =
    bind_then _ (code_at bytes) _ x e (λ code code_ok e.
    bind_then _ (parameter_at (first_kind code.0) code.1) _ x e (λ a a_ok e.
    bind_then _ (parameter_at (second_kind code.0) a.1) _ x e (λ b b_ok e.
    let code_taken = code_takes bytes code fits code_ok in
    let a_taken = parameter_takes (first_kind code.0) code.1 a code_taken.rest_fits a_ok in
    let b_taken = parameter_takes (second_kind code.0) a.1 b a_taken.rest_fits b_ok in
    let first = parameter_image (first_kind code.0) a.0 in
    let second = parameter_image (second_kind code.0) b.0 in
    at_ok (λ (y : Condact × Bytes). Takes bytes (condact_image y.0) y.1) _ x e
    (Takes-then (code.0 ∷ []) (first ++ second) code_taken (Takes-then first second a_taken b_taken)))))

pub condact_again : ReadsAgain leading_condact condact_image FitsCondact
unfolding leading_condact
condact_again c rest fits =
    let first = parameter_image (first_kind c.code) c.a in
    let second = parameter_image (second_kind c.code) c.b in
    let regrouped : condact_image c ++ rest ≡ c.code ∷ (first ++ (second ++ rest)) = ap (λ (t : Bytes). c.code ∷ t) (append_assoc first second rest) in
    ap leading_condact regrouped
    ∙ rw (
      code_again c.code (first ++ (second ++ rest)) fits.code,
      parameter_again (first_kind c.code) c.a (second ++ rest) fits.a,
      parameter_again (second_kind c.code) c.b rest fits.b,
    ) refl

pub entry_takes : TakesRow leading_entry entry_image
unfolding leading_entry
entry_takes bytes x fits e =
    bind_then _ (pair_at bytes) _ x e (λ head head_ok e.
    bind_then _ (few_at leading_condact head.1) _ x e (λ condacts condacts_ok e.
    let head_taken = pair_takes bytes head fits head_ok in
    let condacts_taken = few_take leading_condact condact_image condact_takes head.1 condacts head_taken.rest_fits condacts_ok in
    let images = length condacts.0 ∷ flat_map condact_image condacts.0 in
    at_ok (λ (y : Entry × Bytes). Takes bytes (entry_image y.0) y.1) _ x e
    (Takes-then (head.0.0 ∷ head.0.1 ∷ []) images head_taken condacts_taken)))

entry_again : ReadsAgain leading_entry entry_image FitsEntry
unfolding leading_entry pair_at
entry_again e rest fits =
    rw (few_again leading_condact condact_image FitsCondact condact_again e.condacts rest fits.condacts) refl

pub table_takes : TakesRow leading_table table_image
unfolding leading_table
table_takes bytes x fits e =
    bind_then _ (number_at bytes) _ x e (λ count count_ok e.
    let count_taken = (number_takes bytes count fits count_ok).0 in
    let entries_taken = rows_take leading_entry entry_image entry_takes count.0 count.1 x count_taken.rest_fits e in
    subst (λ (n : ℕ). Takes bytes (two_bytes n ++ flat_map entry_image x.0) x.1) (sym entries_taken.1)
    (Takes-then (two_bytes count.0) (flat_map entry_image x.0) count_taken entries_taken.0))

pub table_again : ReadsAgain leading_table table_image FitsTable
unfolding leading_table
table_again es rest fits =
    rw (
      number_again (length es) (flat_map entry_image es ++ rest) fits.count,
      rows_again leading_entry entry_image FitsEntry entry_again es rest fits.entries,
    ) refl
