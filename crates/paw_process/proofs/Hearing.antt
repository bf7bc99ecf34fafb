-- Answers at the prompts inside tables.
use Rattle.std.proofs.Common.{◌≡◌, Bool, true, false, List, ◌∷◌, refl, sym, ap, ◌∙◌, length, reverse, add-one}
use Rattle.paw_base.specs.Bytes.{Line, Lines}
use Rattle.paw_base.specs.declared.limits.TheConstants.{ENTRY_LIMIT}
use Rattle.paw_effects.specs.Story.{Story}
use Rattle.paw_game.specs.Valid.{Valid}
use Rattle.paw_game.proofs.ValidGames.{table-short}
use Rattle.paw_effects.specs.declared.act.Prompt.{Prompt}
use Rattle.paw_effects.specs.declared.act.Prompt.TheVariants as prompt
use Rattle.paw_reading.specs.declared.frames.Frame.{Frame}
use Rattle.paw_reading.specs.Run.{Run, is_ignored, with_line_heard, reply, is_yes}
use Rattle.paw_reading.specs.Reading.{Out, prompt_asked, prompt_answered, deeper}
use Rattle.paw_reading.specs.GoingOn.{on_path}
use Rattle.paw_reading.proofs.Rules.{plain_past}
use Rattle.paw_reading.proofs.Along.{on_path_reverse}
use Rattle.paw_process.specs.inner.OpenTables.{below}
use Rattle.paw_process.specs.inner.Meaning.{to_come, going_in, AnswersQuit, AnswersKey}
use Rattle.paw_process.specs.inner.Moves.{loop_resolved, past_of, after_quit, after_key}

-- A line that isn't ignored is heard, and answers.
hears : (g : Story) (p : Prompt) (f : Frame) (go : Bool → Run → Out) (r : Run) (line : Line) (lines : Lines)
    → is_ignored r.world line ≡ false
    → prompt_asked g p f go (to_come (line ∷ lines) r) (line ∷ lines) ≡ prompt_answered g p f go (reply line) (with_line_heard line (to_come lines r))
unfolding prompt_asked
hears g p f go r line lines h = rw h refl

heard_at : (g : Story) (p : Prompt) (f : Frame) (fs : List Frame) (r : Run) (line : Line) (lines : Lines) → is_ignored r.world line ≡ false
    → on_path g p 0 (reverse (f ∷ fs)) (to_come (line ∷ lines) r)
    ≡ loop_resolved g fs (prompt_answered g p f (past_of g fs f) (reply line) (with_line_heard line (to_come lines r)))
heard_at g p f fs r line lines h =
    on_path_reverse g p f fs (to_come (line ∷ lines) r) ∙ ap (loop_resolved g fs) (hears g p f (past_of g fs f) r line lines h)

quits : (g : Story) (f : Frame) (fs : List Frame) (line : Line) (r : Run) (agrees : Bool) → Valid g.game → is_yes (reply line) ≡ agrees
    → loop_resolved g fs (prompt_answered g prompt.Quit f (past_of g fs f) (reply line) r) ≡ going_in g (after_quit agrees f ∷ fs) r
quits g f fs line r true v h = rw (h, add-one) refl
quits g f fs line r false v h =
    rw h (ap (loop_resolved g fs) (sym (plain_past g (deeper g (length fs)) (length fs) f.table ENTRY_LIMIT true r (table-short g.game v f.table))))

pub answers_quit : (agrees : Bool) (old new : List Frame) (f : Frame) → old ≡ f ∷ below old → new ≡ after_quit agrees f ∷ below old → AnswersQuit agrees old new
answers_quit agrees old new f top e g line lines r v ignored h =
    rw e (ap (λ (s : List Frame). on_path g prompt.Quit 0 (reverse s) (to_come (line ∷ lines) r)) top
    ∙ (heard_at g prompt.Quit f (below old) r line lines ignored ∙ quits g f (below old) line (with_line_heard line (to_come lines r)) agrees v h))

pub answers_key : (old new : List Frame) (f : Frame) → old ≡ f ∷ below old → new ≡ after_key f ∷ below old → AnswersKey old new
answers_key old new f top e g line lines r ignored =
    rw e (ap (λ (s : List Frame). on_path g prompt.Key 0 (reverse s) (to_come (line ∷ lines) r)) top
    ∙ (heard_at g prompt.Key f (below old) r line lines ignored ∙ rw add-one refl))
