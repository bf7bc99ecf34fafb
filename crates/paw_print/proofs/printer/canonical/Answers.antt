use Rattle.std.proofs.Common.{◌++◌, ◌∙◌, ap}
use Rattle.paw_base.specs.Bytes.{Text}
use Rattle.paw_game.specs.Game.{GameLists}
use Rattle.paw_print.specs.Canonical.{canonical_lines, canonical_of, with_line_ends}
use Rattle.paw_print.proofs.KnownCodes.{valid_known}
use Rattle.paw_print.proofs.printer.canonical.Goals as goal

pub write_game-requires : goal.write_game-requires
write_game-requires c = record { known = rw c.parts.ensures.value (valid_known c.args.game.now c.parts.ensures.valid) }

pub returns : goal.returns
unfolding canonical_of
returns c =
    let out = c.new-out.ensures.items in
    record {
      value =
          c.in_ok-write_game.ensures.writes
          ∙ ap (λ (t : Text). t ++ with_line_ends (canonical_lines c.parts.result.now)) out
          ∙ ap (λ (g : GameLists). with_line_ends (canonical_lines g)) c.parts.ensures.value;
    }
