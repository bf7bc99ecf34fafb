use Rattle.std.proofs.Common.{List, ℕ, ap, sym, ◌∙◌}
use Rattle.std.specs.Option.{option_map}
use Rattle.paw_game.specs.declared.parts.Word.{Word}
use Rattle.paw_game.specs.Tables.{word_of}
use Rattle.paw_game.proofs.Meanings.{meaning_follows}
use Rattle.paw_image.specs.inner.Views.{game_read}
use Rattle.paw_image.proofs.view.ViewTables.word.Goals as goal

pub returns : goal.returns
returns c =
    let bytes = c.self.inside.bytes.now in
    let spelled = c.self.invariant.spelled in
    let is = ap (λ (ws : List Word). option_map {U = ℕ × ℕ} (λ (w : Word). (w.value, w.class)) (word_of c.args.letters.now ws)) (sym spelled)
    ∙ sym (ap (option_map {U = ℕ × ℕ} (λ (w : Word). (w.value, w.class))) c.in_ok-word.ensures.value) in
    let kept = meaning_follows (game_read bytes) c.self.invariant.image.valid c.args.letters.now _ is in
    record { value = rw c.self.view_is at (sym is); low = kept.low; high = kept.high; class = kept.class }
