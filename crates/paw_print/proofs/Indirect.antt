-- From 128 on a code is that of an indirect condact.
use Rattle.std.proofs.Common.{◌≡◌, ℕ, leb, refl, sym, ◌∙◌, inl, inr, arith}
use Rattle.std.proofs.lemmas.Bool.{and_parts, or_cases, lt-leb}
use Rattle.paw_base.specs.Condacts.{is_plain_code, is_indirect}
use Rattle.paw_base.specs.inner.Condacts.{IsCode}
use Rattle.paw_base.specs.declared.codes.TheConstants.{INDIRECT}
use Rattle.paw_base.proofs.Table.{code_within}

pub is_indirect_from : (code : ℕ) → IsCode code → leb INDIRECT code ≡ is_indirect code
unfolding is_indirect
is_indirect_from code is =
    elim (or_cases (is_plain_code code) (is_indirect code) is) [
      | inl plain ↦ let within = code_within code plain in rw (lt-leb INDIRECT code (omega (arith, within))) refl
      | inr indirect ↦ (and_parts (leb INDIRECT code) _ indirect).0 ∙ sym indirect
    ]
