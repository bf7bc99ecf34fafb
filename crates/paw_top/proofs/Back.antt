-- The way of a game from its image to its source and back.
use Rattle.std.proofs.Common.{◌≡◌, ◌≤◌, length, Result, Ok, Some, refl, sym, ap, ◌∙◌, subst}
use Rattle.std.proofs.lemmas.List.{append_cancel_left}
use Rattle.paw_base.specs.Bytes.{Bytes, Name}
use Rattle.paw_base.specs.declared.limits.TheConstants.{IMAGE_LIMIT, SOURCE_LIMIT}
use Rattle.paw_base.specs.declared.fault.SourceFault.{SourceFault}
use Rattle.paw_game.specs.Game.{GameLists}
use Rattle.paw_game.specs.Image.{image}
use Rattle.paw_grammar.specs.Spells.{game_spelled}
use Rattle.paw_print.specs.Canonical.{canonical_of}
use Rattle.paw_top.specs.Compile.{SavedAndShown, image_line}
use Rattle.paw_top.specs.Compile as compile
use Rattle.paw_top.specs.Decompile as decompile
use Rattle.paw_stage.specs.Stage.{Standing}
use Rattle.paw_top.specs.Opens.{Unopened, damaged, absent, failed, without_memory}
use Rattle.paw_top.specs.Round.{SpellsItself, ComesBack}
use Rattle.paw_top.specs.declared.outcome.Outcome.{Outcome}
use Rattle.paw_top.specs.declared.outcome.Outcome.TheVariants as outcome

-- A source that holds the text of a game spells that game alone.
same_game : (text bytes : Bytes) (g h : GameLists) → Some bytes ≡ Some text → game_spelled bytes ≡ Ok h → game_spelled text ≡ Ok g → g ≡ h
same_game text bytes g h e k m =
    let b : bytes ≡ text = cc in
    let w : ◌≡◌ {A = Result GameLists SourceFault} (Ok g) (Ok h) = sym m ∙ ap game_spelled (sym b) ∙ k in cc

-- What isn't opened isn't done.
not_done : (name : Name) (old new : Standing) (o : Outcome) → Unopened name old new o → o ≡ outcome.Done → ⊥
not_done name old new _ (damaged at h e) q = cc
not_done name old new _ (absent h e) q = cc
not_done name old new _ (failed e) q = cc
not_done name old new _ (without_memory at e) q = cc

pub comes_back : SpellsItself → ComesBack
comes_back itself image_name source target bytes text old shown before after file (decompile.unopened _ u) t there short c =
    absurd (not_done image_name old shown outcome.Done u refl)
comes_back itself image_name source target bytes text old shown before after file (decompile.done g held e) t there short (compile.done h spells f) =
    let b : held.0 ≡ bytes = cc in
    let c : text ≡ canonical_of g = append_cancel_left old.shown text (canonical_of g) (sym t ∙ ap (λ s. s.shown) e) in
    let i = held.2 in
    let m : game_spelled text ≡ Ok g = ap game_spelled c
    ∙ itself g i.valid (subst (λ l. length l ≤ IMAGE_LIMIT) i.spelled i.short) (subst (λ l. length l ≤ SOURCE_LIMIT) c short) in
    let same : image h ≡ bytes = ap image (sym (same_game text spells.0 g h (sym spells.1 ∙ there) spells.2 m)) ∙ sym i.spelled ∙ b in
    subst (λ l. SavedAndShown before after target l (image_line (length l))) same f
