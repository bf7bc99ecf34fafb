-- What is known of a condact is known of the plain one that is carried out for it.
use Rattle.std.proofs.Common.{◌≡◌, ℕ, ◌==◌, ◌&&◌, Bool, true, false, [], ◌∷◌, Option, Some, None, refl, sym, subst}
use Rattle.std.specs.Prelude.{if◌then◌else◌, nat_le}
use Rattle.std.specs.Option.{option_map_or}
use Rattle.std.proofs.lemmas.Bool.{or_parts, both_ways}
use Rattle.paw_base.specs.declared.codes.TheConstants.{PARSE, RAMLOAD}
use Rattle.paw_base.specs.declared.flags.TheConstants.{VERB_FLAG}
use Rattle.paw_base.specs.declared.parts.Condact.{Condact}
use Rattle.paw_base.specs.Condacts.{first_kind, is_indirect, plain_code}
use Rattle.paw_game.specs.Game.{GameLists}
use Rattle.paw_game.specs.Valid.{is_argument}
use Rattle.paw_world.specs.World.{World, flag}
use Rattle.paw_effects.specs.Indirect.{as_plain, plain_with}
use Rattle.paw_check.specs.Verbs.{is_among, does_one_of, writes_first, writes_second, first_may_be_verb, reaches_verb}
use Rattle.paw_check.specs.Verbs.{may_write_verb}

-- What holds of what is carried out, and where nothing is, holds of all.
pub of_carried : {A B : Type 0} (P : B → Type 0) (f : A → B) (o : Option A) (past : B) → ((x : A) → o ≡ Some x → P (f x)) → P past
    → P (option_map_or f o past)
of_carried P f None past found none = none
of_carried P f (Some x) past found none = found x refl

-- A plain condact is carried out as it is.
itself : (code : ℕ) → is_indirect code ≡ false → plain_code code ≡ code
itself code e = rw e refl

second_of : (x y : Bool) → (x && y) ≡ false → x ≡ true → y ≡ false
second_of true y h e = h
second_of false y h e = cc

-- A condact that is carried out writes no verb where its code might.
pub record SparesVerb (d : Condact) : Type 0 where
  pub first : is_among writes_first d.code ≡ true → (d.a == VERB_FLAG) ≡ false
  pub second : is_among writes_second d.code ≡ true → (d.b == VERB_FLAG) ≡ false
  pub back : is_among (RAMLOAD ∷ []) d.code ≡ true → nat_le VERB_FLAG d.a ≡ false

module _ (g : GameLists) (w : World) (c d : Condact) (is : as_plain g w c ≡ Some d) where
  -- It is the condact itself, or the plain one with the value of the flag.
  pub carried : (P : Condact → Type 0) → (is_indirect c.code ≡ false → P c)
      → (is_indirect c.code ≡ true → is_argument g (first_kind (plain_code c.code)) (flag w c.a) ≡ true
      → P (record { code = plain_code c.code; a = flag w c.a; b = c.b })) → P d
  unfolding as_plain
  carried P plain taken = go (is_indirect c.code) refl is
    where
      given : (b : Bool) → is_indirect c.code ≡ true → is_argument g (first_kind (plain_code c.code)) (flag w c.a) ≡ b
          → ◌≡◌ {A = Option Condact} (if b then Some (record { code = plain_code c.code; a = flag w c.a; b = c.b }) else None) (Some d) → P d
      given true e k h = let same : record { code = plain_code c.code; a = flag w c.a; b = c.b } ≡ d = cc in subst P same (taken e k)
      given false e k h = absurd cc

      go : (b : Bool) → is_indirect c.code ≡ b → ◌≡◌ {A = Option Condact} (if b then plain_with g c (flag w c.a) else Some c) (Some d) → P d
      go true e h = given (is_argument g (first_kind (plain_code c.code)) (flag w c.a)) e refl h
      go false e h = let same : c ≡ d = cc in subst P same (plain e)

  -- Its code is the plain one.
  pub carried_code : d.code ≡ plain_code c.code
  carried_code = carried (λ x. x.code ≡ plain_code c.code) (λ e. sym (itself c.code e)) (λ e k. refl)

  pub carried_spares : may_write_verb c ≡ false → SparesVerb d
  carried_spares spared =
      let others = (or_parts (does_one_of (PARSE ∷ []) c) _ spared).1 in
      let back : does_one_of (RAMLOAD ∷ []) c ≡ true → reaches_verb c ≡ false = second_of _ _ (or_parts _ _ others).0 in
      let named = (or_parts (does_one_of (RAMLOAD ∷ []) c && reaches_verb c) _ others).1 in
      let first : does_one_of writes_first c ≡ true → first_may_be_verb c ≡ false = second_of _ _ (or_parts _ _ named).0 in
      let second : does_one_of writes_second c ≡ true → (c.b == VERB_FLAG) ≡ false = second_of _ _ (or_parts _ _ named).1 in
      carried SparesVerb
      (λ e. let same : c.code ≡ plain_code c.code = sym (itself c.code e) in record {
        first = λ h. (or_parts (is_indirect c.code) _ (first (subst (λ x. is_among writes_first x ≡ true) same h))).1;
        second = λ h. second (subst (λ x. is_among writes_second x ≡ true) same h);
        back = λ h. (or_parts (is_indirect c.code) _ (back (subst (λ x. is_among (RAMLOAD ∷ []) x ≡ true) same h))).1;
      })
      (λ e k. record {
        first = λ h. absurd (both_ways (is_indirect c.code) (or_parts (is_indirect c.code) (c.a == VERB_FLAG) (first h)).0 e);
        second = second;
        back = λ h. absurd (both_ways (is_indirect c.code) (or_parts (is_indirect c.code) (nat_le VERB_FLAG c.a) (back h)).0 e);
      })
