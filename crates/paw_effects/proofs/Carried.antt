-- Condacts that take their first parameter from a flag, and the plain ones that are carried out for them.
use Rattle.std.proofs.Common.{◌≡◌, ℕ, ◌-◌, Bool, true, false, Option, Some, None, IsTrue, inl, inr, refl, sym, ap}
use Rattle.std.proofs.Common.{subst, arith, nat_le}
use Rattle.std.specs.Prelude.{if◌then◌else◌}
use Rattle.std.specs.Option.{option_map_or}
use Rattle.std.proofs.lemmas.Bool.{and_parts, or_cases}
use Rattle.paw_base.specs.declared.codes.TheConstants.{INDIRECT}
use Rattle.paw_base.specs.declared.parts.Condact.{Condact}
use Rattle.paw_base.specs.Condacts.{first_kind, second_kind, is_plain_code, is_indirect, may_be_indirect}
use Rattle.paw_base.specs.Condacts.{plain_code, line_of, plain_line, indirect_line, CondactLine}
use Rattle.paw_base.specs.inner.Condacts.{IsCode, IsPlainCode}
use Rattle.paw_base.proofs.Table.{code_within, within_code, indirect_within, plain_below, plain_is, line_plain}
use Rattle.paw_game.specs.Game.{GameLists}
use Rattle.paw_game.specs.Valid.{is_argument}
use Rattle.paw_game.specs.inner.Valid.{is_right}
use Rattle.paw_game.proofs.Right.{right-code, right-second}
use Rattle.paw_world.specs.World.{World, flag}
use Rattle.paw_effects.specs.Indirect.{as_plain, plain_with}
use Rattle.paw_effects.specs.Holds.{is_condition}

-- ---- codes ----

-- A plain code is that of its plain condact.
pub plain_itself : (code : ℕ) → IsPlainCode code → plain_code code ≡ code
plain_itself code h = let within = code_within code h in rw (plain_below code (omega (arith, within))) refl

may_be : (code : ℕ) → is_indirect code ≡ true → may_be_indirect (code - INDIRECT) ≡ true
unfolding is_indirect
may_be code h = (and_parts (nat_le INDIRECT code) _ h).1

plain_from : (code : ℕ) → is_indirect code ≡ true → IsPlainCode (code - INDIRECT)
plain_from code h = within_code (code - INDIRECT) (indirect_within (code - INDIRECT) (may_be code h))

plain_unless : (code : ℕ) → IsCode code → is_indirect code ≡ false → IsPlainCode code
plain_unless code is e = elim (or_cases (is_plain_code code) (is_indirect code) is) [
  | inl plain ↦ plain
  | inr indirect ↦ absurd cc
]

pub plain_code_plain : (code : ℕ) → IsCode code → IsPlainCode (plain_code code)
plain_code_plain code is = go (is_indirect code) refl
  where
    go : (b : Bool) → is_indirect code ≡ b → IsPlainCode (if b then code - INDIRECT else code)
    go true e = plain_from code e
    go false e = plain_unless code is e

-- The second parameter is what the plain one's is.
second_alike : (code : ℕ) → IsCode code → second_kind code ≡ second_kind (plain_code code)
unfolding line_of
second_alike code is = go (is_indirect code) refl
  where
    go : (b : Bool) → is_indirect code ≡ b →
        (if b then indirect_line (code - INDIRECT) else plain_line code).second ≡ (line_of (if b then code - INDIRECT else code)).second
    go true e = ap (λ (l : CondactLine). l.second) (sym (line_plain (code - INDIRECT) (plain_from code e)))
    go false e = ap (λ (l : CondactLine). l.second) (sym (line_plain code (plain_unless code is e)))

-- ---- what is carried out ----

-- An indirect condact takes the value of its flag, where it may.
pub taken : (g : GameLists) (w : World) (c : Condact) (code value : ℕ) (may : Bool) → is_indirect c.code ≡ true
    → code ≡ plain_code c.code → value ≡ flag w c.a → may ≡ is_argument g (first_kind (plain_code c.code)) value
    → ◌≡◌ {A = Option Condact} (if may then Some (record { code = code; a = value; b = c.b }) else None) (as_plain g w c)
unfolding as_plain
taken g w c code value may e ec ev em = rw (em, ev, ec, e) refl

module _ (g : GameLists) (w : World) (c d : Condact) (is : as_plain g w c ≡ Some d) where
  -- It is the condact itself, or the plain one with the value of the flag.
  carried : (P : Condact → Type 0) → (is_indirect c.code ≡ false → P c)
      → (is_indirect c.code ≡ true → is_argument g (first_kind (plain_code c.code)) (flag w c.a) ≡ true
      → P (record { code = plain_code c.code; a = flag w c.a; b = c.b })) → P d
  unfolding as_plain
  carried P itself taken = go (is_indirect c.code) refl is
    where
      given : (b : Bool) → is_indirect c.code ≡ true → is_argument g (first_kind (plain_code c.code)) (flag w c.a) ≡ b
          → ◌≡◌ {A = Option Condact} (if b then Some (record { code = plain_code c.code; a = flag w c.a; b = c.b }) else None) (Some d) → P d
      given true e k h = let same : record { code = plain_code c.code; a = flag w c.a; b = c.b } ≡ d = cc in subst P same (taken e k)
      given false e k h = absurd cc

      go : (b : Bool) → is_indirect c.code ≡ b → ◌≡◌ {A = Option Condact} (if b then plain_with g c (flag w c.a) else Some c) (Some d) → P d
      go true e h = given (is_argument g (first_kind (plain_code c.code)) (flag w c.a)) e refl h
      go false e h = let same : c ≡ d = cc in subst P same (itself e)

  pub carried_plain : IsCode c.code → IsPlainCode d.code
  carried_plain code = carried (λ x. IsPlainCode x.code) (plain_unless c.code code) (λ e k. plain_code_plain c.code code)

  pub carried_right : is_right g c ≡ true → is_right g d ≡ true
  carried_right kept = carried (λ x. is_right g x ≡ true) (λ e. kept) (λ e k.
      let code : IsCode (plain_code c.code) = plain_is (plain_code c.code) (plain_code_plain c.code (right-code g c kept)) in
      let second : is_argument g (second_kind (plain_code c.code)) c.b ≡ true =
      subst (λ kind. IsTrue (is_argument g kind c.b)) (second_alike c.code (right-code g c kept)) (right-second g c kept) in
      rw (code, k, second) refl)

  pub carried_kind : IsCode c.code → is_condition d ≡ is_condition c
  carried_kind code = carried (λ x. is_condition x ≡ is_condition c) (λ e. refl) (λ e k.
      rw (plain_itself (plain_code c.code) (plain_code_plain c.code code)) refl)

  -- A condact that can't be indirect is itself.
  pub carried_itself : (code : ℕ) → may_be_indirect code ≡ false → d.code ≡ code → d ≡ c
  carried_itself code never = carried (λ x. x.code ≡ code → x ≡ c) (λ e same. refl) (λ e k same.
      let plain : c.code - INDIRECT ≡ code = subst (λ b. (if b then c.code - INDIRECT else c.code) ≡ code) e same in
      let may : may_be_indirect code ≡ true = subst (λ x. may_be_indirect x ≡ true) plain (may_be c.code e) in
      absurd cc)

-- What holds of what is carried out, and where nothing is, holds of all.
pub of_carried : {A B : Type 0} (P : B → Type 0) (f : A → B) (o : Option A) (past : B) → ((x : A) → o ≡ Some x → P (f x)) → P past
    → P (option_map_or f o past)
of_carried P f None past found none = none
of_carried P f (Some x) past found none = found x refl
