-- Reading a game that never saves leaves the kept positions as they are.
use Rattle.std.proofs.Common.{ℕ, Bool, true, false, List, Option, Some, None, refl}
use Rattle.paw_base.specs.declared.parts.ObjectFacts.{ObjectFacts}
use Rattle.paw_base.specs.declared.flags.TheConstants.{LOOP_FLAG, UNLIT_VIEW_FLAG, DARK_VIEW_FLAG, VIEW_FLAG, LAST_FRAME_FLAG}
use Rattle.paw_base.specs.declared.flags.TheConstants.{FIRST_FRAME_FLAG, UNLIT_FRAME_FLAG, DARK_FRAME_FLAG}
use Rattle.paw_game.specs.Tables.{facts_at}
use Rattle.paw_world.specs.World.{World, Position, with_flag, is_dark, is_unlit, flag_lowered, flag_lowered_if}
use Rattle.paw_effects.specs.Story.{Story}
use Rattle.paw_effects.proofs.Saving.{AreKept, referred_kept}
use Rattle.paw_effects.proofs.EachRow.{effect_kept, condition_kept}
use Rattle.paw_reading.specs.declared.frames.OpenLoop.{OpenLoop}
use Rattle.paw_reading.specs.Run.{Run}
use Rattle.paw_reading.specs.Reading.{object_named, object_taken}
use Rattle.paw_reading.specs.Turn.{AtDescribe, Ending, WaitsAt, Halted, Unended, location_described, time_frame_passed, phases_left, opening}
use Rattle.paw_reading.specs.Turn.{reading, going_on_from}
use Rattle.paw_reading.specs.Saving.{NeverSaves}
use Rattle.paw_reading.specs.inner.Saving.{no_positions, EndsKeeping, ReadingsKeepNoPosition, GoingOnLeavesPositions}
use Rattle.paw_reading.specs.inner.Always.{EndsIn}
use Rattle.paw_reading.proofs.Kept.{IsKept, turn_kept, goes_on_kept}

module _ (g : Story) (never : NeverSaves g.game) (ks : List (Option Position)) where
  -- The world of the run keeps these positions.
  abbrev Is : Run → Type 0
  Is r = AreKept ks r.world

  named_kept : (w : World) (f : Option ObjectFacts) → AreKept ks w → AreKept ks (object_named w f)
  named_kept w None k = k
  named_kept w (Some f) k = k

  taken_kept : (l : OpenLoop) (o : ℕ) (r : Run) → Is r → Is (object_taken g.game l o r)
  taken_kept l o r k = referred_kept ks (with_flag (object_named r.world (facts_at g.game o)) LOOP_FLAG o) o
      (named_kept r.world (facts_at g.game o) k)

  fallen_kept : (b : Bool) (n : ℕ) (w : World) → AreKept ks w → AreKept ks (flag_lowered_if b n w)
  fallen_kept true n w k = k
  fallen_kept false n w k = k

  described_kept : (w : World) → AreKept ks w → AreKept ks (location_described w)
  described_kept w k =
      fallen_kept (is_unlit w) UNLIT_VIEW_FLAG (flag_lowered_if (is_dark w) DARK_VIEW_FLAG (flag_lowered VIEW_FLAG w))
      (fallen_kept (is_dark w) DARK_VIEW_FLAG (flag_lowered VIEW_FLAG w) k)

  time_frame_kept : (w : World) → AreKept ks w → AreKept ks (time_frame_passed w)
  time_frame_kept w k =
      let first : World = flag_lowered LAST_FRAME_FLAG (flag_lowered 7 (flag_lowered 6 (flag_lowered FIRST_FRAME_FLAG w))) in
      fallen_kept (is_unlit w) UNLIT_FRAME_FLAG (flag_lowered_if (is_dark w) DARK_FRAME_FLAG first) (fallen_kept (is_dark w) DARK_FRAME_FLAG first k)

  kept : IsKept g Is
  kept = record {
    printed = λ r text k said fit. k;
    tested = λ f c b r stands k few. condition_kept ks g.game r.world c k;
    noted = λ f c r k few. k;
    acts = λ f c r stands k few fit. effect_kept ks g r.world c (never f.table f.entry f.at c stands) k;
    sentence = λ r s left k is. k;
    unknown = λ r left k is. k;
    dropped = λ r k. k;
    closed = λ r k. k;
    next = λ r line lines k. k;
    heard = λ line r k. k;
    set = λ r line lines k. k;
    taken = λ l o r few k. taken_kept l o r k;
    no_loop = λ r k. k;
    described = λ r k. described_kept r.world k;
    passed = λ r k. time_frame_kept r.world k;
    went = λ r to k is. k;
    counted = λ r k. k;
    anew = λ r k. k;
  }

  keeping : (e : Ending) → EndsIn Is e → EndsKeeping ks e
  keeping (WaitsAt p path r) k = k
  keeping (Halted halt r) k = k
  keeping Unended k = tt

-- ---- the laws ----

pub readings_keep_no_position : ReadingsKeepNoPosition
readings_keep_no_position g seed es never =
    keeping g never no_positions (reading g seed es)
    (turn_kept g (Is g never no_positions) (kept g never no_positions) (phases_left (opening g seed es)) AtDescribe (opening g seed es) refl)

pub going_on_leaves_positions : GoingOnLeavesPositions
going_on_leaves_positions g p path r never =
    keeping g never r.world.kept (going_on_from g p path r)
    (goes_on_kept g (Is g never r.world.kept) (kept g never r.world.kept) (phases_left r) p path r refl)
