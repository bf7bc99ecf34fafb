-- The next phrase.
use Rattle.std.proofs.Common.{◌≡◌, ℕ, suc, ◌<◌, [], length, sym, ap, ◌∙◌, subst}
use Rattle.paw_base.specs.Bytes.{Bytes}
use Rattle.paw_base.specs.declared.messages.TheConstants.{UNKNOWN_MESSAGE}
use Rattle.paw_base.specs.declared.flags.TheConstants.{PRONOUN_NOUN_FLAG, PRONOUN_ADJECTIVE_FLAG}
use Rattle.paw_game.specs.Game.{GameLists}
use Rattle.paw_effects.specs.Story.{Story}
use Rattle.paw_world.specs.World.{World, flag}
use Rattle.paw_phrase.specs.declared.Found.TheVariants as found
use Rattle.paw_phrase.specs.Pending.{PendingLine}
use Rattle.paw_phrase.specs.Sentence.{Parsed, IsUnknown, IsNoPhrase}
use Rattle.paw_phrase.proofs.Phrases.{LeavesBytes, parsed-shorter}
use Rattle.paw_effects.specs.Texts.{say_text}
use Rattle.paw_reading.specs.Run.{Run}
use Rattle.paw_reading.specs.Turn.{Ending, AtPhrase, AtResponse, saying, turn_counted, after_phrase, turn}
use Rattle.paw_process.specs.inner.Phrases.{next_phrase, Speaks}
use Rattle.paw_turn.specs.declared.phase.Next.{Next}
use Rattle.paw_turn.specs.declared.phase.Next.TheVariants as next
use Rattle.paw_turn.specs.declared.phase.Phase.TheVariants as phase
use Rattle.paw_turn.specs.declared.turn.PlayState.{PlayState}
use Rattle.paw_turn.specs.inner.Phases.{run_now, GoesOnAs, Moves, at_phase, with_world_and_line}

-- The phase with what the next phrase is.
abbrev pub phrased : Story → ℕ → Run → Parsed → Ending
phrased g n r = after_phrase g (turn g n) r

-- A sentence counts a turn and is responded to.
pub sentence_moves : (g : Story) (old new : PlayState) (w : World)
    → Speaks g.game found.Sentence old.surroundings.world w old.surroundings.pending new.surroundings.pending
    → new.surroundings.world ≡ turn_counted w → new.machine ≡ old.machine → new.surroundings.piece ≡ old.surroundings.piece
    → Moves g (λ n r. turn g (suc n) AtPhrase r) old (next.Go phase.Response) new
unfolding turn
sentence_moves g old new w speaks world machine piece past n lines =
    ap (phrased g n (run_now old past lines)) speaks.1 ∙ ap (turn g n AtResponse) cc

-- At an unknown phrase message 6 is said, and the rest of the line is dropped.
pub unknown_moves : (g : Story) (old new : PlayState) (nx : Next) (rest : Bytes) (w : World) (p : PendingLine)
    → next_phrase g.game old.surroundings.world old.surroundings.pending ≡ IsUnknown rest → w ≡ old.surroundings.world
    → p ≡ record { bytes = []; earlier = old.surroundings.pending.earlier }
    → Moves g (λ n r. saying (say_text g.game w UNKNOWN_MESSAGE) (turn g n (at_phase phase.TimeFrame)) r)
    (with_world_and_line w p old) nx new
    → Moves g (λ n r. turn g (suc n) AtPhrase r) old nx new
unfolding turn
unknown_moves g old new nx rest w p is world pending moves past n lines =
    let M : World → PendingLine → Type 0 =
    λ w' p'. Moves g (λ n' r. saying (say_text g.game w' UNKNOWN_MESSAGE) (turn g n' (at_phase phase.TimeFrame)) r)
    (with_world_and_line w' p' old) nx new in
    let from = subst (λ w'. M w' (record { bytes = []; earlier = old.surroundings.pending.earlier })) world (subst (M w) pending moves) in
    subst (GoesOnAs g n nx new.machine.frames (run_now new past lines))
    (sym (ap (phrased g n (run_now old past lines)) is))
    (from past n lines)

-- With no phrase left comes the prompt.
pub none_moves : (g : Story) (old new : PlayState) (nx : Next) (w : World) (p : PendingLine)
    → next_phrase g.game old.surroundings.world old.surroundings.pending ≡ IsNoPhrase → w ≡ old.surroundings.world → p ≡ old.surroundings.pending
    → Moves g (λ n r. after_phrase g (turn g n) r IsNoPhrase) (with_world_and_line w p old) nx new
    → Moves g (λ n r. turn g (suc n) AtPhrase r) old nx new
unfolding turn
none_moves g old new nx w p is world pending moves past n lines =
    let M : World → PendingLine → Type 0 = λ w' p'. Moves g (λ n' r. after_phrase g (turn g n') r IsNoPhrase) (with_world_and_line w' p' old) nx new in
    let from = subst (λ w'. M w' old.surroundings.pending) world (subst (M w) pending moves) in
    subst (GoesOnAs g n nx new.machine.frames (run_now new past lines))
    (sym (ap (phrased g n (run_now old past lines)) is))
    (from past n lines)

-- A phrase that is taken makes what is pending shorter.
pub sentence_shorter : (g : GameLists) (w : World) (p q : PendingLine) (w' : World) → Speaks g found.Sentence w w' p q → length q.bytes < length p.bytes
sentence_shorter g w p q w' speaks =
    subst (LeavesBytes (λ (rest : Bytes). length rest < length p.bytes)) speaks.1
    (parsed-shorter g p.bytes p.earlier (flag w PRONOUN_NOUN_FLAG) (flag w PRONOUN_ADJECTIVE_FLAG))

pub unknown_shorter : (g : GameLists) (w : World) (p q : PendingLine) (w' : World) → Speaks g found.Nothing w w' p q → length q.bytes < length p.bytes
unknown_shorter g w p q w' speaks =
    subst (LeavesBytes (λ (rest : Bytes). length rest < length p.bytes)) speaks.0
    (parsed-shorter g p.bytes p.earlier (flag w PRONOUN_NOUN_FLAG) (flag w PRONOUN_ADJECTIVE_FLAG))
