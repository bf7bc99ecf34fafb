use Rattle.std.proofs.Common.{◌≡◌, ◌+◌, ◌<◌, ◌++◌, ◌∙◌, length, ap, sym, subst}
use Rattle.paw_effects.specs.Texts.{with_name, object_text}
use Rattle.paw_base.specs.declared.flags.TheConstants.{REFERRED_FLAG}
use Rattle.paw_base.specs.declared.limits.TheConstants.{PIECE_LIMIT}
use Rattle.paw_world.specs.World.{flag}
use Rattle.paw_effects.proofs.Printing.{too_long, puts_whole}
use Rattle.paw_effects.proofs.text.print_text.Goals as goal

pub returns-then-not-print_both : goal.returns-then-not-print_both
returns-then-not-print_both g c =
    let game = g.T.Tables.game c.args.tables.now in
    let name = object_text game (flag c.args.world.now REFERRED_FLAG) in
    let named : c.object_text-name.result.now ≡ name = c.object_text-name.ensures.value ∙ ap (object_text game) c.flag.ensures.value in
    record {
      puts =
          too_long c.loop-before.piece (c.in-Some.before.now ++ name) (with_name name c.in-Some.after.now) c.args.piece.now _
          (ap (λ t. c.loop-before.piece ++ t) (sym (c.in-Some.ensures.some name)) ∙ c.loop-before.invariant)
          (subst (λ n. PIECE_LIMIT < length c.loop-before.piece + length (c.in-Some.before.now ++ n)) named c.if-not-print_both.ensures.puts);
    }

pub returns : goal.returns
returns g c =
    let name = object_text (g.T.Tables.game c.args.tables.now) (flag c.args.world.now REFERRED_FLAG) in
    record {
      puts =
          puts_whole c.push.result _ _ _ _ _ (ap (λ t. c.loop-before.piece ++ t) (sym (c.in_default.ensures.none name)) ∙ c.loop-before.invariant)
          c.push.ensures.puts;
    }
