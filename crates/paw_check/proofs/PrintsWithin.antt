-- Each condact prints no more than its row says.
use Rattle.std.proofs.Common.{◌≡◌, ℕ, ◌<◌, ◌≤◌, Some, refl, subst, length, IsTrue}
use Rattle.std.proofs.Common.{arith}
use Rattle.std.specs.List.{slice_index_or}
use Rattle.paw_base.specs.Bytes.{Texts}
use Rattle.paw_base.specs.declared.codes.TheConstants.{QUIT}
use Rattle.paw_base.specs.declared.messages.TheConstants.{QUIT_MESSAGE}
use Rattle.paw_base.specs.declared.parts.Condact.{Condact}
use Rattle.paw_base.specs.Condacts.{first_kind, second_kind, is_indirect, plain_code}
use Rattle.paw_game.specs.Game.{GameLists}
use Rattle.paw_game.specs.Valid.{Valid}
use Rattle.paw_game.specs.inner.Valid.{is_right}
use Rattle.paw_game.proofs.Right.{right-first, right-second, right_condact}
use Rattle.paw_world.specs.World.{World, flag}
use Rattle.paw_effects.specs.Story.{Story}
use Rattle.paw_effects.specs.Meanings.{Meaning, Tests, Acts, meaning_of}
use Rattle.paw_effects.specs.Indirect.{as_plain}
use Rattle.paw_effects.specs.Effects.{Done, makes, done_by, effect_of, plain_effect}
use Rattle.paw_effects.specs.Holds.{holds}
use Rattle.paw_effects.specs.inner.Standing.{IsWorldOf}
use Rattle.paw_effects.proofs.Worlds.{argument_small}
use Rattle.paw_effects.proofs.EachRow.{condition_asks}
use Rattle.paw_check.specs.Measures.{most_at, most_put}
use Rattle.paw_check.specs.Prints.{most_named, most_printed, most_text, silent}
use Rattle.paw_check.specs.inner.Condacts.{ActionsPrintWithin, QuestionsPrintWithin}
use Rattle.paw_check.proofs.EachPlain.{Most}
use Rattle.paw_check.proofs.ActionFacts.{StandsFor, PrintsBy}
use Rattle.paw_check.proofs.EachAction.{facts}
use Rattle.paw_check.proofs.Carried.{of_carried, carried, carried_code}
use Rattle.paw_check.proofs.Lengths.{put_most, at_most}

-- ---- each plain condact ----

done_within : (most : Most) (m : Meaning) (s : Story) (w : World) (c d : Condact) → PrintsBy most m
    → IsWorldOf s.game w → StandsFor s.game c d → length (done_by m s w d).text ≤ most s.game c
done_within most (Tests test) s w c d row of k = omega arith
done_within most (Acts done) s w c d row of k = row s w c d of k

plain_within : (s : Story) (w : World) (c d : Condact) → IsWorldOf s.game w → StandsFor s.game c d
    → length (plain_effect s w d).text ≤ (slice_index_or most_printed d.code silent) s.game c
unfolding plain_effect
plain_within s w c d =
    done_within (slice_index_or most_printed d.code silent) (meaning_of d.code) s w c d (facts d.code).text.within

-- ---- each condact ----

stands_for : (g : GameLists) (w : World) (c d : Condact) → Valid g → IsTrue (is_right g c) → as_plain g w c ≡ Some d
    → StandsFor g c d
stands_for g w c d v right is =
    let second : c.b < 256 = argument_small g v (second_kind c.code) c.b (right-second g c right) in
    record {
      named = carried g w c d is (λ x. (texts : Texts) → most_at g texts x.a ≤ most_named g texts c)
          (λ e texts. rw e (omega arith)) (λ e k texts. rw e (at_most g texts (flag w c.a)));
      first = carried g w c d is (λ x. x.a < 256)
          (λ e. argument_small g v (first_kind c.code) c.a (right-first g c right))
          (λ e k. argument_small g v (first_kind (plain_code c.code)) (flag w c.a) k);
      second = carried g w c d is (λ x. x.b < 256) (λ e. second) (λ e k. second);
    }

pub actions_print_within : ActionsPrintWithin
unfolding effect_of most_text
actions_print_within g w c v of h =
    let right : IsTrue (is_right g.game c) = right_condact g.game c v.game h in
    of_carried (λ (x : Done). length x.text ≤ (slice_index_or most_printed (plain_code c.code) silent) g.game c)
    (plain_effect g w) (as_plain g.game w c) (makes w)
    (λ d is. subst (λ code. length (plain_effect g w d).text ≤ (slice_index_or most_printed code silent) g.game c)
    (carried_code g.game w c d is) (plain_within g w c d of (stands_for g.game w c d v.game right is))) (omega arith)

-- QUIT alone asks, and its question is that of its row.
quit_row : (g : GameLists) (c : Condact) (code : ℕ) → code ≡ QUIT
    → most_put g QUIT_MESSAGE ≤ (slice_index_or most_printed code silent) g c
unfolding most_printed
quit_row g c code is = rw is (omega arith)

quit_plain : plain_code QUIT ≡ QUIT
unfolding is_indirect
quit_plain = refl

pub questions_print_within : QuestionsPrintWithin
unfolding most_text
questions_print_within g w c v of h asks =
    let quits : c.code ≡ QUIT = condition_asks g.game w c asks in
    let plain : plain_code c.code ≡ QUIT = rw quits quit_plain in
    omega (arith, put_most g.game (holds g.game w c).world QUIT_MESSAGE, quit_row g.game c (plain_code c.code) plain)
