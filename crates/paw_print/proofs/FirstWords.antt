-- A table of first words, as the words are read one by one.
use Rattle.std.proofs.Common.{◌≡◌, ◌≢◌, ℕ, ◌<◌, ◌+◌, Bool, true, false, ◌&&◌, cond, eqb, List, [], ◌∷◌, ◌++◌, length}
use Rattle.std.proofs.Common.{take}
use Rattle.std.proofs.Common.{get_or, set, replicate, Option, Some, None, refl, sym, ap, ◌∙◌, inl, inr}
use Rattle.std.specs.Option.{option_or}
use Rattle.std.proofs.lemmas.Bool.{cases_eq, eq-eqb, ne_eqb}
use Rattle.std.proofs.lemmas.List.{length-replicate, get_or-replicate, length-set, get_or-set_same, get_or-set_other}
use Rattle.std.proofs.lemmas.List.{take_more}
use Rattle.paw_game.specs.declared.parts.Word.{Word}
use Rattle.paw_print.specs.Lines.{first_word}
use Rattle.paw_print.specs.inner.Words.{HasFirst}

-- A word of this class with this value.
abbrev pub means : ℕ → ℕ → Word → Bool
means class value w = eqb w.class class && eqb w.value value

pub HasFirst-none : (ws : List Word) (class : ℕ) → HasFirst (replicate 256 None) (take 0 ws) class
HasFirst-none ws class =
    let nothing : Option Word = None in
    record {
      long = length-replicate 256 nothing;
      each = λ value h. get_or-replicate 256 value nothing nothing h;
    }

or_none : (found : Option Word) → option_or found None ≡ found
or_none None = refl
or_none (Some w) = refl

-- One word more.
abbrev one : ℕ → ℕ → Word → Option Word
one class value w = cond (means class value w) (Some w) None

first_word-push : (ws : List Word) (w : Word) (class value : ℕ)
    → first_word (ws ++ w ∷ []) class value ≡ option_or (first_word ws class value) (one class value w)
first_word-push [] w class value = refl
first_word-push (v ∷ vs) w class value =
    elim (means class value v) as
    (λ b. cond b (Some v) (first_word (vs ++ w ∷ []) class value)
    ≡ option_or (cond b (Some v) (first_word vs class value)) (one class value w)) [
      | true ↦ refl
      | false ↦ first_word-push vs w class value
    ]

first_word-more : (ws : List Word) (i : ℕ) (d : Word) (class value : ℕ) → i < length ws
    → first_word (take (i + 1) ws) class value
    ≡ option_or (first_word (take i ws) class value) (one class value (get_or ws i d))
first_word-more ws i d class value h =
    ap (λ (vs : List Word). first_word vs class value) (take_more ws i d h) ∙ first_word-push (take i ws) (get_or ws i d) class value

-- A word of another class.
pub HasFirst-other : (table : List (Option Word)) (ws : List Word) (i : ℕ) (d : Word) (class : ℕ) → i < length ws → (get_or ws i d).class ≢ class
    → HasFirst table (take i ws) class → HasFirst table (take (i + 1) ws) class
HasFirst-other table ws i d class h other tells =
    let differs : eqb (get_or ws i d).class class ≡ false = ne_eqb (get_or ws i d).class class other in
    record {
      long = tells.long;
      each = λ value low.
          tells.each value low
          ∙ sym (first_word-more ws i d class value h
          ∙ rw differs (or_none (first_word (take i ws) class value)));
    }

-- A word of the class.
pub HasFirst-more : (table : List (Option Word)) (ws : List Word) (i : ℕ) (d : Word) (class : ℕ)
    → (get_or ws i d).value < 256 → i < length ws → (get_or ws i d).class ≡ class
    → HasFirst table (take i ws) class
    → HasFirst (set table (get_or ws i d).value (option_or (get_or table (get_or ws i d).value None) (Some (get_or ws i d)))) (take (i + 1) ws) class
HasFirst-more table ws i d class small h is tells =
    let w : Word = get_or ws i d in
    let same : eqb w.class class ≡ true = eq-eqb w.class class is in
    let put : Option Word = option_or (get_or table w.value None) (Some w) in
    record {
      long = length-set table w.value put ∙ tells.long;
      each = λ value low.
          elim (cases_eq value w.value) [
            | inl e ↦
                rw e (get_or-set_same table w.value put None (rw tells.long small)
                ∙ ap (λ (found : Option Word). option_or found (Some w)) (tells.each w.value small)
                ∙ sym (first_word-more ws i d class w.value h ∙ rw (same, eq-eqb w.value w.value refl) refl))
            | inr ne ↦
                get_or-set_other table w.value value put None ne
                ∙ tells.each value low
                ∙ sym (first_word-more ws i d class value h ∙ rw (same, ne_eqb w.value value (λ e. ne (sym e))) (or_none (first_word (take i ws) class value)))
          ];
    }
