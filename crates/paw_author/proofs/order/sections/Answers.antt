use Rattle.std.proofs.Common.{◌+◌, ◌-◌, ◌++◌, sym, ap, ◌∙◌, arith}
use Rattle.paw_author.specs.declared.sections.TheConstants.{SECTIONS}
use Rattle.paw_author.specs.Fragments.{LinesInParts}
use Rattle.paw_author.specs.Order.{section_lines, sections}
use Rattle.paw_author.proofs.Rows.{go_on, at_last, one_section, no_section}
use Rattle.paw_author.proofs.order.sections.Goals as goal

pub loop-section-preserved : goal.loop-section-preserved
loop-section-preserved c =
    let section = c.loop-section.section in
    let files = c.args.files in
    let all = c.args.all.now in
    let before = c.loop-section.lines.items in
    go_on before (section_lines files all section) (sections (SECTIONS - (section + 1)) (section + 1) files all)
    (sections SECTIONS 0 files all) c.add_section.new.out.items c.in_ok-add_section.ensures.value
    (ap (λ (more : LinesInParts). before ++ more) (sym (one_section SECTIONS section files all c.loop-section-test.true))
    ∙ c.loop-section.invariant)

pub returns : goal.returns
returns c =
    let section = c.loop-section.section in
    let files = c.args.files in
    let all = c.args.all.now in
    record {
      value = at_last c.loop-section.lines.items (sections (SECTIONS - section) section files all) (sections SECTIONS 0 files all)
          (no_section (SECTIONS - section) section files all (omega (arith, c.loop-section-test.false))) c.loop-section.invariant;
    }
