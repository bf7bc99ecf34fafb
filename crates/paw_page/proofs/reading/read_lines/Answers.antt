use Rattle.std.proofs.Common.{◌+◌, List, [], ◌∷◌, ◌++◌, map, string_bytes, sym, ap, ◌∙◌, subst}
use Rattle.std.proofs.lemmas.List.{map-append}
use Rattle.paw_page.specs.Request.{part_bytes, IsPart}
use Rattle.paw_page.specs.inner.Heads.{IsReadSoFar}
use Rattle.paw_page.specs.inner.Read.{entry_of}
use Rattle.paw_page.proofs.Heads.{parts_known, not_read, read_one}
use Rattle.paw_page.proofs.reading.read_lines.Goals as goal

pub returns-in-Err-clause-none : goal.returns-in-Err-clause-none
returns-in-Err-clause-none c err =
    not_read part_bytes IsPart parts_known _ _ _ _ _ _ c.in-Some.ensures.some.0 c.in-Some.ensures.some.1 c.loop-taken-test.true c.loop-taken.invariant
    (c.in-Err.ensures.none err)

pub loop-taken-preserved : goal.loop-taken-preserved
loop-taken-preserved c =
    subst (λ (xs : List _). IsReadSoFar part_bytes IsPart c.in-Some.body.now (c.loop-taken._taken + 1) xs c.in-Ok.after.now) (sym c.in-Ok-push.ensures.items)
    (read_one part_bytes IsPart _ _ c.loop-taken.lines.items _ _ _ c.loop-taken.invariant c.in-Ok.ensures.some)
