use Rattle.std.proofs.Common.{◌+◌, List, [], ◌∷◌, ◌++◌, map, string_bytes, sym, ap, ◌∙◌, subst}
use Rattle.std.proofs.lemmas.List.{map-append}
use Rattle.paw_page.specs.Request.{entry_bytes, IsEntry}
use Rattle.paw_page.specs.inner.Heads.{IsReadSoFar}
use Rattle.paw_page.specs.inner.Read.{entry_of}
use Rattle.paw_page.proofs.Heads.{entries_known, not_read, read_one}
use Rattle.paw_page.proofs.reading.read_files.Goals as goal

pub returns-in-Err-clause-none : goal.returns-in-Err-clause-none
returns-in-Err-clause-none c err =
    not_read entry_bytes IsEntry entries_known _ _ _ _ _ _ c.in-Some.ensures.some.0 c.in-Some.ensures.some.1 c.loop-taken-test.true c.loop-taken.invariant
    (c.in-Err.ensures.none err)

pub loop-taken-preserved : goal.loop-taken-preserved
loop-taken-preserved c =
    subst (λ (xs : List _). IsReadSoFar entry_bytes IsEntry c.in-Some.body.now (c.loop-taken._taken + 1) xs c.in-Ok.after.now) (sym (ap (map entry_of) c.in-Ok-push.ensures.items ∙ map-append entry_of c.loop-taken.files.items (c.in-Ok.file ∷ [])))
    (read_one entry_bytes IsEntry _ _ (map entry_of c.loop-taken.files.items) _ _ _ c.loop-taken.invariant c.in-Ok.ensures.some)
