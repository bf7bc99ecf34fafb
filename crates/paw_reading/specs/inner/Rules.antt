-- The rules of reading on in written order, as equations.
use Rattle.std.specs.Prelude.{◌≡◌, ℕ, suc, ◌-◌, ◌<◌, ◌≤◌, Bool, true, false, List, [], ◌∷◌, Some, None, length}
use Rattle.paw_base.specs.Bytes.{Bytes, Line, Lines, Text}
use Rattle.paw_base.specs.declared.limits.TheConstants.{READ_LIMIT, LEVEL_LIMIT}
use Rattle.paw_base.specs.declared.parts.Condact.{Condact}
use Rattle.paw_base.specs.declared.fault.SpentKind.TheVariants as spent
use Rattle.paw_game.specs.declared.parts.Entry.{Entry}
use Rattle.paw_game.specs.Tables.{entry_at, condact_at}
use Rattle.paw_phrase.specs.declared.Sentence.{Sentence}
use Rattle.paw_phrase.specs.Sentence.{IsSentence, IsUnknown, IsNoPhrase}
use Rattle.paw_effects.specs.Story.{Story}
use Rattle.paw_effects.specs.declared.act.Prompt.{Prompt}
use Rattle.paw_effects.specs.declared.act.Prompt.TheVariants as prompt
use Rattle.paw_effects.specs.declared.act.Truth.{Truth}
use Rattle.paw_effects.specs.declared.act.Truth.TheVariants as truth
use Rattle.paw_effects.specs.declared.act.Effect.{Effect}
use Rattle.paw_effects.specs.declared.act.Effect.TheVariants as effect
use Rattle.paw_effects.specs.Holds.{is_condition, holds}
use Rattle.paw_effects.specs.Effects.{effect_of}
use Rattle.paw_reading.specs.declared.frames.Frame.{Frame}
use Rattle.paw_reading.specs.declared.frames.OpenLoop.{OpenLoop}
use Rattle.paw_reading.specs.Run.{Run, piece_closed, fits, text_printed, with_world, without_loop, anew}
use Rattle.paw_reading.specs.Run.{is_ignored, with_line_heard, reply, is_yes, is_no, taken_phrase}
use Rattle.paw_reading.specs.declared.halt.Halt.TheVariants as halt
use Rattle.paw_reading.specs.Reading.{Redescribes, Restarts, Out, Left, Waits, Stopped}
use Rattle.paw_reading.specs.Reading.{halts, step_noted, after_call, at_level, next_object_or, is_taken, object_taken}
use Rattle.paw_reading.specs.Reading.{over_objects}
use Rattle.paw_reading.specs.Reading.{loop_of}
use Rattle.paw_reading.specs.Reading.{over, coming_phrase, after_action, carried_out, frame_at}
use Rattle.paw_reading.specs.Reading.{is_for_now, rest_of_entry, from_condact, rest_of_loop, deeper, rest_of_table}
use Rattle.paw_reading.specs.inner.Parts.{quit_question}
use Rattle.paw_reading.specs.GoingOn.{on_path}

-- ---- words ----

-- Reads on at the condact after a frame's.
abbrev pub past : Story → ℕ → Frame → Bool → Run → Out
past g lv f acted r = rest_of_table g lv f.table f.entry (suc f.at) acted r

-- Reads on at the entry after a frame's.
abbrev pub next : Story → ℕ → Frame → Bool → Run → Out
next g lv f acted r = rest_of_table g lv f.table (suc f.entry) 0 acted r

-- Reads on at a frame's condact, without testing its entry's verb and noun.
abbrev pub at_frame : Story → ℕ → Frame → Run → Out
at_frame g lv f r =
    next_object_or lv (rest_of_loop g (deeper g lv) lv)
    (rest_of_entry g (deeper g lv) lv f.table f.entry f.at f.acted r)

-- Leaves the table at a level.
abbrev pub leaves : Story → ℕ → Bool → Run → Out
leaves g lv acted r = next_object_or lv (rest_of_loop g (deeper g lv) lv) (Left acted r)

-- Lets a loop look for its next object from number o on, and read on after its DOALL.
abbrev pub looks : Story → ℕ → OpenLoop → ℕ → Run → Out
looks g lv l o r =
    let body = from_condact g (deeper g lv) lv l.table l.entry (suc l.at) true in
    over_objects g lv (record l { last = 0 }) body (length g.game.objects - o) r

-- Reads the table from the condact after a frame's, whatever loop is open.
abbrev pub plain_past : Story → ℕ → Frame → Bool → Run → Out
plain_past g lv f = from_condact g (deeper g lv) lv f.table f.entry (suc f.at)

-- Reads the table from the entry after a frame's, whatever loop is open.
abbrev pub plain_next : Story → ℕ → Frame → Bool → Run → Out
plain_next g lv f = from_condact g (deeper g lv) lv f.table (suc f.entry) 0

-- How reading goes on after the action at a frame.
abbrev pub goes : Story → ℕ → Frame → Effect → Run → Out
goes g lv f e r =
    next_object_or lv (rest_of_loop g (deeper g lv) lv)
    (after_action g (deeper g lv) lv f (plain_next g lv f) (plain_past g lv f) e r)

-- The run after a condition.
abbrev pub condition_tested : Story → Condact → Run → Run
condition_tested g c r = with_world (holds g.game r.world c).world r

-- The run after a condition that didn't fail.
abbrev pub condition_passed : Story → Frame → Condact → Run → Run
condition_passed g f c r = step_noted f c true (condition_tested g c r)

-- The question of QUIT after its test.
abbrev pub question : Story → Condact → Run → Text
question g c r = quit_question g (condition_tested g c r)

-- The run after an action: its text is printed, and it is carried out.
abbrev pub action_done : Story → Frame → Condact → Run → Run
action_done g f c r =
    let d = effect_of g r.world c in
    carried_out d (text_printed d.text (step_noted f c true r))

-- The condact stands at the frame, and the open piece may read one more.
pub record MayRead (g : Story) (f : Frame) (c : Condact) (r : Run) : Type 0 where
  pub stands : condact_at g.game f.table f.entry f.at ≡ Some c
  pub left : length r.read < READ_LIMIT

-- The condact is a condition, and this is its answer.
pub record IsTested (g : Story) (f : Frame) (c : Condact) (r : Run) (answer : Truth) : Type 0 where
  pub may : MayRead g f c r
  pub is : is_condition c ≡ true
  pub answers : (holds g.game r.world c).answer ≡ answer

-- The condact is an action, and its text fits or not.
pub record IsActing (g : Story) (f : Frame) (c : Condact) (r : Run) (fit : Bool) : Type 0 where
  pub may : MayRead g f c r
  pub is : is_condition c ≡ false
  pub room : fits r (effect_of g r.world c).text ≡ fit

-- This line is the next one, and is heard.
pub record Hears (line : Line) (lines : Lines) (r : Run) : Type 0 where
  pub comes : r.events ≡ line ∷ lines
  pub counts : is_ignored r.world line ≡ false

-- The run once this line is heard, with these lines to come.
abbrev pub hearing : Line → Lines → Run → Run
hearing line lines r = with_line_heard line (record r { events = lines })

-- ---- rules ----

-- Entries: after the last the table is left; one that doesn't match now is passed over; the condacts of one that
-- matches are read, and after the last of them comes the next entry.
pub record ReadsEntries (g : Story) (lv : ℕ) : Type 0 where
  pub past_last : (t e : ℕ) (a : Bool) (r : Run) → entry_at g.game t e ≡ None → rest_of_table g lv t e 0 a r
      ≡ leaves g lv a r
  pub passed_over : (t e : ℕ) (en : Entry) (a : Bool) (r : Run) → entry_at g.game t e ≡ Some en →
      is_for_now r en ≡ false → rest_of_table g lv t e 0 a r ≡ rest_of_table g lv t (suc e) 0 a r
  pub matched : (t e : ℕ) (en : Entry) (a : Bool) (r : Run) → entry_at g.game t e ≡ Some en →
      is_for_now r en ≡ true → rest_of_table g lv t e 0 a r ≡ at_frame g lv (frame_at t e 0 a) r
  pub in_entry : (t e k : ℕ) (a : Bool) (r : Run) → rest_of_table g lv t e (suc k) a r
      ≡ at_frame g lv (frame_at t e (suc k) a) r
  pub past_condacts : (f : Frame) (r : Run) → condact_at g.game f.table f.entry f.at ≡ None →
      at_frame g lv f r ≡ next g lv f f.acted r

-- Condacts: a piece reads at most 200,000. A condition that holds leads to the next condact, one that fails to the next
-- entry; QUIT asks its question and waits. An action prints its text and is carried out; then its effect follows.
pub record ReadsCondacts (g : Story) (lv : ℕ) : Type 0 where
  pub used_up : (f : Frame) (c : Condact) (r : Run) → condact_at g.game f.table f.entry f.at ≡ Some c →
      READ_LIMIT ≤ length r.read → at_frame g lv f r ≡ halts (halt.Spent spent.Condacts) r
  pub holding : (f : Frame) (c : Condact) (r : Run) → IsTested g f c r truth.Yes →
      at_frame g lv f r ≡ past g lv f f.acted (condition_passed g f c r)
  pub failing : (f : Frame) (c : Condact) (r : Run) → IsTested g f c r truth.No →
      at_frame g lv f r ≡ next g lv f f.acted (step_noted f c false (condition_tested g c r))
  pub asking : (f : Frame) (c : Condact) (r : Run) → IsTested g f c r truth.Ask → fits r (question g c r) ≡ true →
      at_frame g lv f r ≡ on_path g prompt.Quit lv (f ∷ [])
      (piece_closed (text_printed (question g c r) (condition_passed g f c r)))
  pub asking_too_long : (f : Frame) (c : Condact) (r : Run) → IsTested g f c r truth.Ask →
      fits r (question g c r) ≡ false → at_frame g lv f r ≡ halts (halt.Spent spent.Text) (condition_passed g f c r)
  pub acting : (f : Frame) (c : Condact) (r : Run) → IsActing g f c r true →
      at_frame g lv f r ≡ goes g lv f (effect_of g r.world c).act.effect (action_done g f c r)
  pub acting_too_long : (f : Frame) (c : Condact) (r : Run) → IsActing g f c r false →
      at_frame g lv f r ≡ halts (halt.Spent spent.Text) (step_noted f c true r)

-- What follows an action: the next condact, with an action carried out; the way out of the table; the description, with
-- no loop; a table one level deeper, down to level 10; a loop, from its first object on; a prompt, the piece closed; or
-- the next phrase, of which a sentence leads to the next entry.
pub record FollowsActions (g : Story) (lv : ℕ) : Type 0 where
  pub go : (f : Frame) (r : Run) → goes g lv f effect.Go r ≡ past g lv f true r
  pub exit : (f : Frame) (a : Bool) (r : Run) → goes g lv f (effect.Exit a) r ≡ leaves g lv a r
  pub redescribe : (f : Frame) (r : Run) → goes g lv f effect.Redescribe r ≡ Stopped Redescribes (without_loop r)
  pub call : (f : Frame) (u : ℕ) (r : Run) → lv < LEVEL_LIMIT →
      goes g lv f (effect.Call u) r ≡ after_call f (past g lv f) (rest_of_table g (suc lv) u 0 0 false r)
  pub deep : (f : Frame) (u : ℕ) (r : Run) → LEVEL_LIMIT ≤ lv → goes g lv f (effect.Call u) r ≡ halts (halt.TooDeep u) r
  pub loop : (f : Frame) (p : ℕ) (r : Run) → goes g lv f (effect.Loop p) r ≡ looks g lv (loop_of lv f p) 0 r
  pub ask : (f : Frame) (p : Prompt) (r : Run) → goes g lv f (effect.Ask p) r ≡ on_path g p lv (f ∷ []) (piece_closed r)
  pub sentence : (f : Frame) (s : Sentence) (bytes : Bytes) (r : Run) → coming_phrase g r ≡ IsSentence s bytes →
      goes g lv f effect.Parse r ≡ next g lv f f.acted (taken_phrase s bytes r)
  pub unknown : (f : Frame) (bytes : Bytes) (r : Run) → coming_phrase g r ≡ IsUnknown bytes →
      goes g lv f effect.Parse r ≡ past g lv f f.acted (record r { pending = bytes })
  pub no_phrase : (f : Frame) (r : Run) → coming_phrase g r ≡ IsNoPhrase →
      goes g lv f effect.Parse r ≡ past g lv f f.acted r
  pub too_long : (f : Frame) (r : Run) → goes g lv f effect.Spent r ≡ halts (halt.Spent spent.Text) r

-- The object loop: a table is left where no loop is open at its level; otherwise the loop goes on above the object that
-- it took last. It takes the least object that it may take now, and reads on after its DOALL; with none left it is
-- closed, and the table is left.
pub record LoopRules (g : Story) (lv : ℕ) : Type 0 where
  pub left : (a : Bool) (r : Run) → at_level lv r.turning ≡ None → leaves g lv a r ≡ Left a r
  pub looks_on : (a : Bool) (l : OpenLoop) (r : Run) → r.turning ≡ Some l → l.level ≡ lv →
      leaves g lv a r ≡ looks g lv l (suc l.last) r
  pub passed_by : (l : OpenLoop) (o : ℕ) (r : Run) → o < length g.game.objects →
      is_taken g.game r.world l o ≡ false → looks g lv l o r ≡ looks g lv l (suc o) r
  pub takes : (l : OpenLoop) (o : ℕ) (r : Run) → l.level ≡ lv → o < length g.game.objects →
      is_taken g.game r.world l o ≡ true →
      looks g lv l o r ≡ rest_of_table g lv l.table l.entry (suc l.at) true (object_taken g.game l o r)
  pub none_left : (l : OpenLoop) (o : ℕ) (r : Run) → length g.game.objects ≤ o →
      looks g lv l o r ≡ Left true (without_loop r)

-- Prompts: along two frames or more, the outermost goes on after its call with how the others end. With no line the run
-- waits; an ignored line closes an empty piece, and the next is taken. QUIT reads on at yes and leaves the table at no;
-- a key reads on; END ends the game at no and starts it anew otherwise.
pub record AnswersPrompts (g : Story) (lv : ℕ) : Type 0 where
  pub above : (p : Prompt) (f h : Frame) (path : List Frame) (r : Run) →
      on_path g p lv (f ∷ h ∷ path) r ≡ after_call f (past g lv f) (on_path g p (suc lv) (h ∷ path) r)
  pub no_line : (p : Prompt) (f : Frame) (r : Run) → r.events ≡ [] → on_path g p lv (f ∷ []) r ≡ Waits p (f ∷ []) r
  pub ignored : (p : Prompt) (f : Frame) (line : Line) (lines : Lines) (r : Run) →
      r.events ≡ line ∷ lines → is_ignored r.world line ≡ true →
      on_path g p lv (f ∷ []) r ≡ on_path g p lv (f ∷ []) (piece_closed (record r { events = lines }))
  pub quit_yes : (f : Frame) (line : Line) (lines : Lines) (r : Run) → Hears line lines r →
      is_yes (reply line) ≡ true →
      on_path g prompt.Quit lv (f ∷ []) r ≡ past g lv f f.acted (hearing line lines r)
  pub quit_no : (f : Frame) (line : Line) (lines : Lines) (r : Run) → Hears line lines r →
      is_yes (reply line) ≡ false → on_path g prompt.Quit lv (f ∷ []) r ≡ leaves g lv true (hearing line lines r)
  pub key : (f : Frame) (line : Line) (lines : Lines) (r : Run) → Hears line lines r →
      on_path g prompt.Key lv (f ∷ []) r ≡ past g lv f true (hearing line lines r)
  pub end_no : (f : Frame) (line : Line) (lines : Lines) (r : Run) → Hears line lines r →
      is_no (reply line) ≡ true → on_path g prompt.Again lv (f ∷ []) r ≡ over g (hearing line lines r)
  pub end_anew : (f : Frame) (line : Line) (lines : Lines) (r : Run) → Hears line lines r →
      is_no (reply line) ≡ false →
      on_path g prompt.Again lv (f ∷ []) r ≡ Stopped Restarts (anew (hearing line lines r))

-- The rules of reading on, at each level of each game.
pub record ReadingOn : Type 0 where
  pub entries : (g : Story) (lv : ℕ) → ReadsEntries g lv
  pub condacts : (g : Story) (lv : ℕ) → ReadsCondacts g lv
  pub actions : (g : Story) (lv : ℕ) → FollowsActions g lv
  pub loops : (g : Story) (lv : ℕ) → LoopRules g lv
  pub prompts : (g : Story) (lv : ℕ) → AnswersPrompts g lv
