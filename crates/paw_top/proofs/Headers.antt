-- The headers of sections but those of tables are read.
use Rattle.std.proofs.Common.{◌≡◌, ℕ, false, eqb, [], length, refl, ◌∙◌}
use Rattle.std.specs.Prelude.{codes}
use Rattle.paw_grammar.specs.declared.section.Section.{Section}
use Rattle.paw_grammar.specs.declared.section.Section.TheVariants as section
use Rattle.paw_grammar.specs.GrammarState.{Spelt}
use Rattle.paw_grammar.specs.GrammarHeads.{next_header, section_opened}
use Rattle.paw_top.proofs.After.{LineReads}
use Rattle.paw_top.proofs.Rows.{slash_next}

-- The sections whose headers stand alone and ask for nothing.
abbrev pub IsPlain : Section → Type 0
IsPlain section.Con = ⊥
IsPlain section.Pro = ⊥
IsPlain _ = Unit {0}

-- The header that comes next, after a section.
pub header_reads : (p : ℕ) (d : Spelt) (s : Section) → d.section ≡ s → IsPlain (next_header s).1 →
    LineReads p d (next_header s).0 (section_opened (next_header s).1 d)
header_reads p d section.Before h plain = record { is = slash_next p d (codes "VOC") [] refl ∙ rw h refl; printed = refl }
header_reads p d section.Voc h plain = record { is = slash_next p d (codes "STX") [] refl ∙ rw h refl; printed = refl }
header_reads p d section.Stx h plain = record { is = slash_next p d (codes "MTX") [] refl ∙ rw h refl; printed = refl }
header_reads p d section.Mtx h plain = record { is = slash_next p d (codes "OTX") [] refl ∙ rw h refl; printed = refl }
header_reads p d section.Otx h plain = record { is = slash_next p d (codes "LTX") [] refl ∙ rw h refl; printed = refl }
header_reads p d section.Con h plain = record { is = slash_next p d (codes "OBJ") [] refl ∙ rw h refl; printed = refl }
header_reads p d _ h plain = absurd plain

pub exits_header_reads : (p : ℕ) (d : Spelt) → d.section ≡ section.Ltx → eqb (length d.locations) 0 ≡ false →
    LineReads p d (codes "/CON") (section_opened section.Con d)
exits_header_reads p d h some = record { is = slash_next p d (codes "CON") [] refl ∙ rw (h, some) refl; printed = refl }
