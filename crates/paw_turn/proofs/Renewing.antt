-- The answer to END's question.
use Rattle.std.proofs.Common.{◌≡◌, ℕ, suc, ◌+◌, ◌<◌, ◌≤◌, Bool, true, false, List, [], ◌∷◌, ◌++◌, Option, None, length}
use Rattle.std.proofs.Common.{reverse, refl, ap, ◌∙◌, subst, arith}
use Rattle.std.specs.Prelude.{if◌then◌else◌, nat_le}
use Rattle.std.proofs.lemmas.List.{length-reverse, length-map}
use Rattle.std.proofs.lemmas.Bool.Decides.{nat_tests}
use Rattle.paw_base.specs.Bytes.{Line, Lines, Text, Bytes}
use Rattle.paw_base.specs.declared.fault.SpentKind.TheVariants as spent
use Rattle.paw_base.specs.declared.parts.ObjectFacts.{ObjectFacts}
use Rattle.paw_base.specs.inner.Piece.{Puts}
use Rattle.paw_base.specs.declared.messages.TheConstants.{GOODBYE_MESSAGE}
use Rattle.paw_base.specs.declared.words.TheConstants.{NO_WORD}
use Rattle.paw_base.specs.declared.limits.TheConstants.{PIECE_LIMIT, FLAG_COUNT}
use Rattle.paw_game.specs.Game.{GameLists}
use Rattle.paw_effects.specs.Story.{Story}
use Rattle.paw_world.specs.World.{World, flags_with, world_restarted}
use Rattle.paw_effects.specs.Worlds.{IsOf}
use Rattle.paw_effects.specs.declared.act.Prompt.TheVariants as prompt
use Rattle.paw_effects.specs.Texts.{say_text}
use Rattle.paw_reading.specs.declared.frames.Frame.{Frame}
use Rattle.paw_reading.specs.declared.frames.OpenLoop.{OpenLoop}
use Rattle.paw_reading.specs.Run.{Run, piece_closed, fits, text_printed, without_loop, line_dropped, anew, is_timeout, is_ignored}
use Rattle.paw_reading.specs.Run.{with_line_heard, with_timeout, reply, is_no}
use Rattle.paw_reading.specs.declared.halt.Halt.TheVariants as halt
use Rattle.paw_reading.specs.Reading.{Restarts, Out, Stopped, halts, after_call, next_object_or, prompt_asked, rest_of_loop}
use Rattle.paw_reading.specs.Reading.{deeper, rest_of_table}
use Rattle.paw_reading.specs.GoingOn.{on_path}
use Rattle.paw_reading.specs.Turn.{Ending, Halted, AtDescribe, TurnPhase, table_done, turn, first_table}
use Rattle.paw_process.specs.inner.Meaning.{to_come}
use Rattle.paw_turn.specs.declared.phase.Phase.TheVariants as phase
use Rattle.paw_turn.specs.declared.phase.Next.TheVariants as next
use Rattle.paw_turn.specs.declared.turn.PlayState.{PlayState}
use Rattle.paw_process.specs.inner.OpenTables.{ReadsNone}
use Rattle.paw_process.proofs.Readings.{has_still}
use Rattle.paw_turn.specs.inner.Phases.{Past, run_from, run_now, PlaysAs, from_prompt, ChangesFlags, halt_next, or_spent}

-- At no the game is over or the piece is spent, and else it starts anew.
abbrev final : Bool → Bool → Run → Run → Run → Out
final declines fit e s d =
    if declines then (if fit then halts halt.Over e else halts (halt.Spent spent.Text) s) else Stopped Restarts d

-- The answer, once it is heard.
abbrev answer_of : Story → Line → Run → Out
answer_of g line r =
    final (is_no (reply line)) (fits r (say_text g.game r.world GOODBYE_MESSAGE))
    (piece_closed (without_loop (line_dropped (text_printed (say_text g.game r.world GOODBYE_MESSAGE) r)))) r (anew r)

final_again : (lv : ℕ) (next : OpenLoop → Run → Out) (declines fit : Bool) (e s d : Run) → next_object_or lv next (final declines fit e s d)
    ≡ final declines fit e s d
final_again lv next true true e s d = refl
final_again lv next true false e s d = refl
final_again lv next false fit e s d = refl

final_call : (f : Frame) (go : Bool → Run → Out) (declines fit : Bool) (e s d : Run) → after_call f go (final declines fit e s d) ≡ final declines fit e s d
final_call f go true true e s d = refl
final_call f go true false e s d = refl
final_call f go false fit e s d = refl

-- The answer is the same in all tables.
path_again : (g : Story) (lv : ℕ) (f : Frame) (path : List Frame) (r : Run) (line : Line) (lines : Lines) → is_ignored r.world line ≡ false
    → on_path g prompt.Again lv (f ∷ path) (to_come (line ∷ lines) r) ≡ answer_of g line (with_line_heard line (to_come lines r))
unfolding prompt_asked
path_again g lv f [] r line lines hears = rw hears (final_again lv (rest_of_loop g (deeper g lv) lv) _ _ _ _ _)
path_again g lv f (h ∷ path) r line lines hears =
    ap (after_call f (rest_of_table g lv f.table f.entry (suc f.at))) (path_again g (suc lv) h path r line lines hears)
    ∙ final_call f (rest_of_table g lv f.table f.entry (suc f.at)) _ _ _ _ _

some_again : (g : Story) (path : List Frame) (r : Run) (line : Line) (lines : Lines) → 0 < length path → is_ignored r.world line ≡ false
    → on_path g prompt.Again 0 path (to_come (line ∷ lines) r) ≡ answer_of g line (with_line_heard line (to_come lines r))
some_again g [] r line lines some hears = absurd (omega arith)
some_again g (f ∷ path) r line lines some hears = path_again g 0 f path r line lines hears

-- The whole is the answer.
again_is : (g : Story) (old : PlayState) (line : Line) → 0 < length old.machine.frames → is_ignored old.surroundings.world line ≡ false
    → (n : ℕ) (past : Past) (lines : Lines)
    → from_prompt g prompt.Again old line n past lines
    ≡ table_done g (turn g n) (first_table (reverse old.machine.frames)) (answer_of g line (with_line_heard line (run_now old past lines)))
again_is g old line some hears n past lines =
    let many : 0 < length (reverse old.machine.frames) = omega (arith, length-reverse old.machine.frames) in
    ap (table_done g (turn g n) (first_table (reverse old.machine.frames)))
    (some_again g (reverse old.machine.frames) (run_now old past []) line lines many hears)

final_restarts : (g : Story) (go : TurnPhase → Run → Ending) (t : ℕ) (declines fit : Bool) (e s d : Run) → declines ≡ false
    → table_done g go t (final declines fit e s d) ≡ go AtDescribe d
final_restarts g go t declines fit e s d is = rw is refl

final_ends : (g : Story) (go : TurnPhase → Run → Ending) (t : ℕ) (declines fit : Bool) (e s d : Run) → declines ≡ true →
    fit ≡ true → table_done g go t (final declines fit e s d) ≡ Halted halt.Over e
final_ends g go t declines fit e s d is fitting = rw (is, fitting) refl

final_spends : (g : Story) (go : TurnPhase → Run → Ending) (t : ℕ) (declines fit : Bool) (e s d : Run) → declines ≡ true →
    fit ≡ false → table_done g go t (final declines fit e s d) ≡ Halted (halt.Spent spent.Text) s
final_spends g go t declines fit e s d is fitting = rw (is, fitting) refl

-- At any answer but no the game starts anew.
pub again_restarts : (g : Story) (old new : PlayState) (line : Line) → 0 < length old.machine.frames → is_ignored old.surroundings.world line ≡ false
    → is_no (reply line) ≡ false
    → new.surroundings.world ≡ world_restarted (with_timeout (is_timeout line) old.surroundings.world) → new.surroundings.pending.bytes ≡ []
    → new.surroundings.pending.earlier ≡ NO_WORD
    → new.machine.turning ≡ None → ReadsNone old.machine new.machine → new.surroundings.piece ≡ old.surroundings.piece
    → PlaysAs g (from_prompt g prompt.Again old line) old (next.Go phase.Describe) new
again_restarts g old new line some hears declines world bytes earlier turning none piece past has = (
  past.read,
  (
    has_still past.read old.machine new.machine has none,
    λ n lines. (
      n,
      again_is g old line some hears n past lines ∙
          (final_restarts g (turn g n) _ _ _ _ _ _ declines ∙ ap (turn g n AtDescribe) (cc (world, bytes, earlier, turning, piece))),
    ),
  ),
)

-- At no the game is over, and the run is what is held.
again_ends : (g : Story) (old new : PlayState) (line : Line) (w : World) → 0 < length old.machine.frames
    → is_ignored old.surroundings.world line ≡ false → is_no (reply line) ≡ true
    → w ≡ with_timeout (is_timeout line) old.surroundings.world
    → length old.surroundings.piece + length (say_text g.game w GOODBYE_MESSAGE) ≤ PIECE_LIMIT
    → new.surroundings.piece ≡ old.surroundings.piece ++ say_text g.game w GOODBYE_MESSAGE
    → new.surroundings.world ≡ w → new.surroundings.pending.bytes ≡ [] → new.surroundings.pending.earlier ≡ old.surroundings.pending.earlier →
    new.machine.turning ≡ None
    → ReadsNone old.machine new.machine
    → PlaysAs g (from_prompt g prompt.Again old line) old (halt_next halt.Over) new
again_ends g old new line w some hears declines world fit piece stays bytes earlier turning none past has =
    let fit' = subst (λ v. length old.surroundings.piece + length (say_text g.game v GOODBYE_MESSAGE) ≤ PIECE_LIMIT)
    world fit in
    let piece' = subst (λ v. new.surroundings.piece ≡ old.surroundings.piece ++ say_text g.game v GOODBYE_MESSAGE)
    world piece in
    let world' = stays ∙ world in
    let text : Text = say_text g.game (with_timeout (is_timeout line) old.surroundings.world) GOODBYE_MESSAGE in
    let t : nat_le (length old.surroundings.piece + length text) PIECE_LIMIT ≡ true =
    grind (arith, nat_tests, fit') in (
      past.read,
      (
        has_still past.read old.machine new.machine has none,
        λ n lines. (
          n,
          again_is g old line some hears n past lines ∙ (final_ends g (turn g n) _ _ _ _ _ _ declines t
              ∙ ap (Halted halt.Over) (held_is past lines (with_timeout (is_timeout line) old.surroundings.world) (old.surroundings.piece ++ text)
              new.surroundings.world new.surroundings.pending.bytes new.surroundings.pending.earlier new.machine.turning new.surroundings.piece
              world' bytes earlier turning piece')),
        ),
      ),
    )
  where
    held_is : (past : Past) (lines : Lines) (u : World) (text : Text)
        (v : World) (b : Bytes) (e : ℕ) (o : Option OpenLoop) (q : Text)
        → v ≡ u → b ≡ [] → e ≡ old.surroundings.pending.earlier → o ≡ None → q ≡ text
        → piece_closed (run_from u [] old.surroundings.pending.earlier None text past lines) ≡ piece_closed (run_from v b e o q past lines)
    held_is past lines u text v b e o q world bytes earlier turning piece = rw (world, bytes, earlier, turning, piece) refl

-- Where the farewell doesn't fit the piece is spent.
again_spends : (g : Story) (old new : PlayState) (line : Line) (w : World) → 0 < length old.machine.frames
    → is_ignored old.surroundings.world line ≡ false → is_no (reply line) ≡ true
    → w ≡ with_timeout (is_timeout line) old.surroundings.world
    → PIECE_LIMIT < length old.surroundings.piece + length (say_text g.game w GOODBYE_MESSAGE)
    → ReadsNone old.machine new.machine
    → PlaysAs g (from_prompt g prompt.Again old line) old (halt_next (halt.Spent spent.Text)) new
again_spends g old new line w some hears declines world full none past has =
    let full' = subst (λ v. PIECE_LIMIT < length old.surroundings.piece + length (say_text g.game v GOODBYE_MESSAGE))
    world full in
    let text : Text = say_text g.game (with_timeout (is_timeout line) old.surroundings.world) GOODBYE_MESSAGE in
    let t : nat_le (length old.surroundings.piece + length text) PIECE_LIMIT ≡ false =
    grind (arith, nat_tests, full') in (
      past.read,
      (
        has_still past.read old.machine new.machine has none,
        λ n lines. (
          n,
          (
            with_line_heard line (run_now old past lines),
            again_is g old line some hears n past lines ∙ final_spends g (turn g n) _ _ _ _ _ _ declines t,
            record { pieces = refl; traces = refl; events = refl },
          ),
        ),
      ),
    )

-- At no the game is over where the farewell fits, and else the piece is spent.
pub again_told : (g : Story) (old new : PlayState) (line : Line) (w : World) (told : Bool) → 0 < length old.machine.frames
    → is_ignored old.surroundings.world line ≡ false → is_no (reply line) ≡ true
    → w ≡ with_timeout (is_timeout line) old.surroundings.world
    → Puts old.surroundings.piece new.surroundings.piece told (say_text g.game w GOODBYE_MESSAGE)
    → new.surroundings.world ≡ w → new.surroundings.pending.bytes ≡ [] → new.surroundings.pending.earlier ≡ old.surroundings.pending.earlier →
    new.machine.turning ≡ None
    → ReadsNone old.machine new.machine
    → PlaysAs g (from_prompt g prompt.Again old line) old (or_spent told (halt_next halt.Over)) new
again_told g old new line w true some hears declines world puts stays bytes earlier turning none =
    again_ends g old new line w some hears declines world puts.1 puts.0 stays bytes earlier turning none
again_told g old new line w false some hears declines world puts stays bytes earlier turning none =
    again_spends g old new line w some hears declines world puts none

-- ---- worlds ----

pub length_flags : (carried : ℕ) → length (flags_with carried) ≡ FLAG_COUNT
unfolding flags_with
length_flags carried = refl

-- A game that starts anew has a world of its own.
pub restarted_of : (g : GameLists) (w : World) → IsOf g w → IsOf g (world_restarted w)
restarted_of g w of = record {
  facts = of.facts;
  locations = of.locations;
  flags = length_flags _;
  places = length-map w.facts (λ (f : ObjectFacts). f.start) ∙ (ap length of.facts ∙ length-map g.objects (λ o. o.facts));
}

-- So has one of which at most flags were changed.
pub changed_of : (g : GameLists) (w v : World) → IsOf g w → ChangesFlags w v → IsOf g v
changed_of g w v of only = record {
  facts = only.facts ∙ of.facts;
  locations = only.locations ∙ of.locations;
  flags = only.flags ∙ of.flags;
  places = ap length only.places ∙ of.places;
}
