use Rattle.paw_host.proofs.Cited.{sym, subst, IsUtf8}
use Rattle.paw_host.proofs.Named.{store_text}
use Rattle.paw_host.proofs.names.StoreName.set.Goals as goal

pub invariant_of-self : goal.invariant_of-self
invariant_of-self c = (subst IsUtf8 (sym c.spell_store.ensures.value) (store_text c.args.name.now c.requires.name), c.spell_store.ensures.room)
