-- A line at the main prompt.
use Rattle.std.proofs.Common.{◌≡◌, ℕ, true, false, [], refl, sym, ap, subst}
use Rattle.paw_base.specs.Bytes.{Line, Lines}
use Rattle.paw_base.specs.declared.messages.TheConstants.{TIMEOUT_MESSAGE}
use Rattle.paw_base.specs.declared.words.TheConstants.{NO_WORD}
use Rattle.paw_effects.specs.Story.{Story}
use Rattle.paw_world.specs.World.{World}
use Rattle.paw_effects.specs.declared.act.Prompt.TheVariants as prompt
use Rattle.paw_effects.specs.Texts.{say_text}
use Rattle.paw_reading.specs.Run.{Run, is_timeout, is_ignored, with_timeout, piece_closed}
use Rattle.paw_reading.specs.Turn.{Ending, AtTimeFrame, AtPhrase, saying, at_main, turn, goes_on}
use Rattle.paw_turn.specs.declared.phase.TurnStop.TheVariants as stop
use Rattle.paw_turn.specs.declared.phase.Phase.TheVariants as phase
use Rattle.paw_turn.specs.declared.phase.Next.{Next}
use Rattle.paw_turn.specs.declared.phase.Next.TheVariants as next
use Rattle.paw_turn.specs.declared.turn.PlayState.{PlayState}
use Rattle.paw_process.specs.inner.OpenTables.{ReadsNone}
use Rattle.paw_process.proofs.Readings.{has_still}
use Rattle.paw_turn.proofs.Falling.{equal_none}
use Rattle.paw_turn.specs.inner.Phases.{Past, run_now, at_phase, GoesOnAs, Moves, PlaysAs, from_prompt, in_world}
use Rattle.paw_turn.specs.inner.Phases.{with_world_and_line}

-- Where the whole is what moves on, and no condact is read.
pub moves_play : (g : Story) (whole : ℕ → Past → Lines → Ending) (x : ℕ → Run → Ending) (old mid new : PlayState) (nx : Next)
    → ((m : ℕ) (past : Past) (lines : Lines) → whole m past lines ≡ x m (run_now mid past lines))
    → Moves g x mid nx new → ReadsNone old.machine new.machine → PlaysAs g whole old nx new
moves_play g whole x old mid new nx same moves none past has = (
  past.read,
  (
    has_still past.read old.machine new.machine has none,
    λ n lines.
        (n, subst (GoesOnAs g n nx new.machine.frames (run_now new past lines)) (sym (same n past lines)) (moves past n lines)),
  ),
)

-- A timeout says its message, and the time frame comes.
pub timeout_heard : (g : Story) (old new : PlayState) (line : Line) (w : World) (nx : Next) → is_ignored old.surroundings.world line ≡ false →
    is_timeout line ≡ true
    → w ≡ with_timeout true old.surroundings.world
    → Moves g (λ n r. saying (say_text g.game w TIMEOUT_MESSAGE) (turn g n (at_phase phase.TimeFrame)) r)
    (in_world w old) nx new
    → new.machine ≡ old.machine → PlaysAs g (from_prompt g prompt.Main old line) old nx new
unfolding at_main
timeout_heard g old new line w nx heard timeout world moves machine =
    moves_play g (from_prompt g prompt.Main old line)
    (λ n r. saying (say_text g.game w TIMEOUT_MESSAGE) (turn g n AtTimeFrame) r) old
    (in_world w old) new nx
    (λ m past lines. is m past lines) moves (equal_none old.machine new.machine machine)
  where
    is : (m : ℕ) (past : Past) (lines : Lines) → from_prompt g prompt.Main old line m past lines
        ≡ saying (say_text g.game w TIMEOUT_MESSAGE) (turn g m AtTimeFrame) (run_now (in_world w old) past lines)
    is m past lines = rw (heard, timeout, world) refl

-- A line that is pending now.
abbrev taking_line : Line → PlayState → PlayState
taking_line line h = with_world_and_line (with_timeout false h.surroundings.world)
    (record { bytes = line; earlier = NO_WORD }) h

-- Any other line is pending now.
pub line_heard : (g : Story) (old new : PlayState) (line : Line) → is_ignored old.surroundings.world line ≡ false → is_timeout line ≡ false
    → new ≡ taking_line line old
    → PlaysAs g (from_prompt g prompt.Main old line) old (next.Go phase.Phrase) new
unfolding at_main
line_heard g old new line heard timeout is =
    moves_play g (from_prompt g prompt.Main old line) (λ n r. turn g n AtPhrase r) old new new (next.Go phase.Phrase)
    (λ m past lines. subst (λ (h : PlayState). from_prompt g prompt.Main old line m past lines ≡ turn g m AtPhrase (run_now h past lines)) (sym is)
    (at m past lines))
    (λ past n lines. refl) (equal_none old.machine new.machine (ap (λ (h : PlayState). h.machine) is))
  where
    at : (m : ℕ) (past : Past) (lines : Lines) → from_prompt g prompt.Main old line m past lines
        ≡ turn g m AtPhrase (run_now (taking_line line old) past lines)
    at m past lines = rw (heard, timeout) refl

-- An ignored line closes an empty piece, and the game waits on.
pub main_ignored : (g : Story) (old : PlayState) (line : Line) → is_ignored old.surroundings.world line ≡ true
    → PlaysAs g (from_prompt g prompt.Main old line) old (next.Stop (stop.Waits prompt.Main)) old
unfolding at_main
main_ignored g old line ignored past has = (past.read, (has, λ n lines. (n, is n lines)))
  where
    is : (n : ℕ) (lines : Lines) → from_prompt g prompt.Main old line n past lines ≡ goes_on g n prompt.Main [] (piece_closed (run_now old past lines))
    is n lines = rw ignored refl
