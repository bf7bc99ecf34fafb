use Rattle.std.proofs.Common.{◌≡◌, [], ◌∷◌, Some, IfSome, IfNone, sym, subst}
use Rattle.paw_effects.specs.declared.lists.ListKind.{ListKind}
use Rattle.paw_effects.specs.inner.Listing.{listed_above}
use Rattle.paw_effects.proofs.NextListed.{at_ends, at_goes_on, held_ends, held_goes_on}
use Rattle.paw_effects.proofs.lists.next.Goals as goal

pub returns-in-At-clause-none : goal.returns-in-At-clause-none
returns-in-At-clause-none c =
    subst (λ (l : ListKind). IfNone c.first_at.result (listed_above c.args.world.now l c.args.above ≡ [])) (sym c.in-At.is)
    (at_ends c.args.world.now c.in-At.p c.args.above c.first_at.result c.first_at.ensures.value)

pub returns-in-At-clause-some : goal.returns-in-At-clause-some
returns-in-At-clause-some c =
    subst (λ (l : ListKind). IfSome c.first_at.result (λ o. listed_above c.args.world.now l c.args.above ≡ o ∷ listed_above c.args.world.now l (Some o)))
    (sym c.in-At.is)
    (at_goes_on c.args.world.now c.in-At.p c.args.above c.first_at.result c.first_at.ensures.value)

pub returns-in-Held-clause-none : goal.returns-in-Held-clause-none
returns-in-Held-clause-none c =
    subst (λ (l : ListKind). IfNone c.lesser.result (listed_above c.args.world.now l c.args.above ≡ [])) (sym c.in-Held.is)
    (held_ends c.args.world.now c.args.above c.first_at-in-Held.result c.first_at-in-Held-2.result c.lesser.result
    c.first_at-in-Held.ensures.value c.first_at-in-Held-2.ensures.value c.lesser.ensures.value)

pub returns-in-Held-clause-some : goal.returns-in-Held-clause-some
returns-in-Held-clause-some c =
    subst (λ (l : ListKind). IfSome c.lesser.result (λ o. listed_above c.args.world.now l c.args.above ≡ o ∷ listed_above c.args.world.now l (Some o)))
    (sym c.in-Held.is)
    (held_goes_on c.args.world.now c.args.above c.first_at-in-Held.result c.first_at-in-Held-2.result c.lesser.result
    c.first_at-in-Held.ensures.value c.first_at-in-Held-2.ensures.value c.lesser.ensures.value)
