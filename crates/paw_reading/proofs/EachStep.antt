-- The one induction over the reading of tables. It says of two readings side by side what each of their steps hands back, from
-- the end to the beginning: of how reading on ends, given how it ends after a step. `Induction` says by it what each step keeps.
use Rattle.std.proofs.Common.{◌≡◌, ℕ, zero, suc, ◌+◌, ◌-◌, ◌≤◌, ◌<◌, Bool, true, false, List, [], ◌∷◌, ◌++◌, Option}
use Rattle.std.proofs.Common.{Some, None, ◌⊎◌, inl, inr, refl, sym, subst, length, arith}
use Rattle.std.specs.Prelude.{nat_lt}
use Rattle.std.proofs.lemmas.Bool.{ltb-true, ltb-false}
use Rattle.std.proofs.lemmas.Option.{slice_get_past}
use Rattle.paw_base.specs.Bytes.{Bytes, Line, Lines, Text, Texts}
use Rattle.paw_base.specs.declared.limits.TheConstants.{READ_LIMIT, LEVEL_LIMIT}
use Rattle.paw_base.specs.declared.parts.Condact.{Condact}
use Rattle.paw_base.specs.declared.fault.SpentKind.TheVariants as spent
use Rattle.paw_game.specs.declared.parts.Entry.{Entry}
use Rattle.paw_game.specs.Tables.{table_at, entry_at, condacts_of, condact_at}
use Rattle.paw_world.specs.World.{World}
use Rattle.paw_phrase.specs.declared.Sentence.{Sentence}
use Rattle.paw_phrase.specs.Sentence.{Parsed, IsSentence, IsUnknown, IsNoPhrase}
use Rattle.paw_effects.specs.Story.{Story}
use Rattle.paw_effects.specs.declared.act.Prompt.{Prompt}
use Rattle.paw_effects.specs.declared.act.Prompt.TheVariants as prompt
use Rattle.paw_effects.specs.declared.act.Truth.{Truth}
use Rattle.paw_effects.specs.declared.act.Truth.TheVariants as truth
use Rattle.paw_effects.specs.declared.act.Effect.{Effect}
use Rattle.paw_effects.specs.declared.act.Effect.TheVariants as effect
use Rattle.paw_effects.specs.Holds.{is_condition, holds}
use Rattle.paw_effects.specs.Effects.{Done, effect_of}
use Rattle.paw_reading.specs.declared.frames.Frame.{Frame}
use Rattle.paw_reading.specs.declared.frames.OpenLoop.{OpenLoop}
use Rattle.paw_reading.specs.declared.halt.Halt.TheVariants as halt
use Rattle.paw_reading.specs.Run.{Run, StepRow, piece_closed, fits, text_printed, with_world, without_loop, line_dropped, anew}
use Rattle.paw_reading.specs.Run.{is_ignored, with_line_heard, reply, is_yes, is_no, taken_phrase}
use Rattle.paw_reading.specs.Reading.{Redescribes, Restarts, Out, Left, Waits, Stopped, Called, halts, step_noted, after_call}
use Rattle.paw_reading.specs.Reading.{next_object_or, is_taken, object_taken, over_objects, loop_of, prompt_answered, prompt_asked}
use Rattle.paw_reading.specs.Reading.{after_test, after_parse, coming_phrase, after_action, carried_out, reads_one, is_for_now}
use Rattle.paw_reading.specs.Reading.{rest_of_entry, from_condact, rest_of_loop, read_at_level, table_called, deeper, rest_of_table, game_over}
use Rattle.paw_reading.specs.GoingOn.{on_path}
use Rattle.paw_reading.specs.inner.Parts.{goodbye, quit_question}
use Rattle.paw_reading.proofs.Cases.{by_both}
use Rattle.paw_reading.proofs.Rules.{inside_end, inside_condact, plain_end, plain_entry}

-- ---- two runs, and the points of a table ----

-- What differs in the run of the other reading: the pieces that are closed, their steps, and the lines to come.
pub record Beside : Type 0 where
  pub pieces : Texts → Texts
  pub traces : List (List StepRow) → List (List StepRow)
  pub events : Lines → Lines
  -- a piece is closed, and a line is taken, in both
  pub closes : (ps : Texts) (p : Text) → pieces (ps ++ p ∷ []) ≡ pieces ps ++ p ∷ []
  pub traced : (ts : List (List StepRow)) (t : List StepRow) → traces (ts ++ t ∷ []) ≡ traces ts ++ t ∷ []
  pub takes : (line : Line) (lines : Lines) → events (line ∷ lines) ≡ line ∷ events lines

-- The run of the other reading.
abbrev pub beside : Beside → Run → Run
beside m r = record r { pieces = m.pieces r.pieces; traces = m.traces r.traces; events = m.events r.events }

-- Nothing differs.
abbrev pub itself : Beside
itself = record {
  pieces = λ ps. ps;
  traces = λ ts. ts;
  events = λ lines. lines;
  closes = λ ps p. refl;
  traced = λ ts t. refl;
  takes = λ line lines. refl;
}

pub closed_beside : (m : Beside) (r : Run) → piece_closed (beside m r) ≡ beside m (piece_closed r)
closed_beside m r = rw (m.closes r.pieces r.current, m.traced r.traces r.read) refl

-- A point of a table: before the test of an entry, or at a condact of an entry that is read.
pub data Point : Type 0 where
  BeforeEntry : (t e : ℕ) → Point
  AtCondact : (t e k : ℕ) → Point

-- The table of a point.
abbrev pub table_of : Point → ℕ
table_of (BeforeEntry t e) = t
table_of (AtCondact t e k) = t

-- The point from which a table is read on at a condact of an entry, before whose first the entry is tested.
abbrev pub point : ℕ → ℕ → ℕ → Point
point t e zero = BeforeEntry t e
point t e (suc k) = AtCondact t e (suc k)

-- The point of a frame, the one after its condact, and the one after its entry.
abbrev pub of_frame : Frame → Point
of_frame f = AtCondact f.table f.entry f.at

abbrev pub past_condact : Frame → Point
past_condact f = AtCondact f.table f.entry (suc f.at)

abbrev pub past_entry : Frame → Point
past_entry f = BeforeEntry f.table (suc f.entry)

-- The point after the DOALL of a loop.
abbrev pub body_of : OpenLoop → Point
body_of l = AtCondact l.table l.entry (suc l.at)

-- A loop that took no object yet.
abbrev pub afresh : OpenLoop → OpenLoop
afresh l = record l { last = 0 }

-- How reading goes on from a point.
abbrev pub from : Story → Called → ℕ → Point → Bool → Run → Out
from g sub lv (BeforeEntry t e) = from_condact g sub lv t e 0
from g sub lv (AtCondact t e k) = rest_of_entry g sub lv t e k

-- This condact stands at the frame.
abbrev pub StandsAt : Story → Frame → Condact → Type 0
StandsAt g f c = condact_at g.game f.table f.entry f.at ≡ Some c

-- The run once a condition was tested, with its answer noted; and once an action noted its step, and printed this text.
abbrev pub tested : Story → Frame → Condact → Bool → Run → Run
tested g f c b r = step_noted f c b (with_world (holds g.game r.world c).world r)

abbrev pub noted_printed : Frame → Condact → Text → Run → Run
noted_printed f c text r = text_printed text (step_noted f c true r)

-- The run that heard a line, with these left.
abbrev pub hearing : Line → Lines → Run → Run
hearing line lines r = with_line_heard line (record r { events = lines })

-- ---- what is to hold, and what hands it back ----

-- What is to hold between the run with which reading goes on and how it ends both ways, the other first: from a point; after
-- an action of a condact in a world, whose effect is known; at a prompt whose piece is closed; over the last objects of a loop; of
-- a table that is called; and of the rest of a table with the loop of its level.
pub record Relation : Type 1 where
  pub on : Point → Run → Out → Out → Type 0
  pub acted : Frame → Condact → World → Effect → Run → Out → Out → Type 0
  pub asked : Frame → Prompt → Run → Lines → Out → Out → Type 0
  pub loop : OpenLoop → ℕ → Run → Out → Out → Type 0
  pub call : ℕ → Run → Out → Out → Type 0
  pub whole : ℕ → Run → Out → Out → Type 0

-- Each step of reading a table hands it back.
pub record Steps (g : Story) (m : Beside) (sub over_sub : Called) (lv : ℕ) (i : Relation) : Type 0 where
  -- entries
  pub left : (t e : ℕ) (a : Bool) (r : Run) → entry_at g.game t e ≡ None → i.on (BeforeEntry t e) r (Left a (beside m r)) (Left a r)
  pub passed : (t e : ℕ) (en : Entry) (r : Run) (x y : Out) → entry_at g.game t e ≡ Some en → is_for_now r en ≡ false →
      i.on (BeforeEntry t (suc e)) r x y → i.on (BeforeEntry t e) r x y
  pub matched : (t e : ℕ) (en : Entry) (r : Run) (x y : Out) → entry_at g.game t e ≡ Some en → is_for_now r en ≡ true →
      i.on (AtCondact t e 0) r x y → i.on (BeforeEntry t e) r x y
  pub ended : (t e k : ℕ) (r : Run) (x y : Out) → condact_at g.game t e k ≡ None → i.on (BeforeEntry t (suc e)) r x y → i.on (AtCondact t e k) r x y
  -- conditions
  pub exhausted : (f : Frame) (c : Condact) (r : Run) → StandsAt g f c → READ_LIMIT ≤ length r.read →
      i.on (of_frame f) r (halts (halt.Spent spent.Condacts) (beside m r)) (halts (halt.Spent spent.Condacts) r)
  pub holds_so : (f : Frame) (c : Condact) (r : Run) (x y : Out) → StandsAt g f c → length r.read < READ_LIMIT → is_condition c ≡ true →
      i.on (past_condact f) (tested g f c true r) x y → i.on (of_frame f) r x y
  pub fails : (f : Frame) (c : Condact) (r : Run) (x y : Out) → StandsAt g f c → length r.read < READ_LIMIT → is_condition c ≡ true →
      i.on (past_entry f) (tested g f c false r) x y → i.on (of_frame f) r x y
  pub asks : (f : Frame) (c : Condact) (r : Run) (x y : Out) → StandsAt g f c → length r.read < READ_LIMIT → is_condition c ≡ true →
      (holds g.game r.world c).answer ≡ truth.Ask → fits (tested g f c true r) (quit_question g (tested g f c true r)) ≡ true →
      i.asked f prompt.Quit (piece_closed (text_printed (quit_question g (tested g f c true r)) (tested g f c true r))) r.events x y →
      i.on (of_frame f) r x y
  pub question_long : (f : Frame) (c : Condact) (r : Run) → StandsAt g f c → length r.read < READ_LIMIT → is_condition c ≡ true →
      (holds g.game r.world c).answer ≡ truth.Ask → fits (tested g f c true r) (quit_question g (tested g f c true r)) ≡ false →
      i.on (of_frame f) r (halts (halt.Spent spent.Text) (beside m (tested g f c true r))) (halts (halt.Spent spent.Text) (tested g f c true r))
  -- actions
  pub acts : (f : Frame) (c : Condact) (r : Run) (x y : Out) → StandsAt g f c → length r.read < READ_LIMIT → is_condition c ≡ false →
      fits (step_noted f c true r) (effect_of g r.world c).text ≡ true →
      i.acted f c r.world (effect_of g r.world c).act.effect
      (carried_out (effect_of g r.world c) (noted_printed f c (effect_of g r.world c).text r)) x y →
      i.on (of_frame f) r x y
  pub text_long : (f : Frame) (c : Condact) (r : Run) → StandsAt g f c → length r.read < READ_LIMIT → is_condition c ≡ false →
      fits (step_noted f c true r) (effect_of g r.world c).text ≡ false →
      i.on (of_frame f) r (halts (halt.Spent spent.Text) (beside m (step_noted f c true r))) (halts (halt.Spent spent.Text) (step_noted f c true r))
  pub goes : (f : Frame) (c : Condact) (w : World) (r : Run) (x y : Out) → i.on (past_condact f) r x y → i.acted f c w effect.Go r x y
  pub exits : (f : Frame) (c : Condact) (w : World) (a : Bool) (r : Run) → i.acted f c w (effect.Exit a) r (Left a (beside m r)) (Left a r)
  pub redescribes : (f : Frame) (c : Condact) (w : World) (r : Run) →
      i.acted f c w effect.Redescribe r (Stopped Redescribes (beside m (without_loop r))) (Stopped Redescribes (without_loop r))
  pub calls : (f : Frame) (c : Condact) (w : World) (u : ℕ) (r : Run) (x y : Out) → i.call u r x y →
      ((a : Bool) (s : Run) → i.on (past_condact f) s (from g sub lv (past_condact f) a (beside m s)) (from g over_sub lv (past_condact f) a s)) →
      i.acted f c w (effect.Call u) r (after_call f (from g sub lv (past_condact f)) x) (after_call f (from g over_sub lv (past_condact f)) y)
  pub loops : (f : Frame) (c : Condact) (w : World) (p : ℕ) (r : Run) (x y : Out) → i.loop (loop_of lv f p) (length g.game.objects) r x y →
      i.acted f c w (effect.Loop p) r x y
  pub prompts : (f : Frame) (c : Condact) (w : World) (p : Prompt) (r : Run) (x y : Out) → i.asked f p (piece_closed r) r.events x y →
      i.acted f c w (effect.Ask p) r x y
  pub sentence : (f : Frame) (c : Condact) (w : World) (r : Run) (s : Sentence) (bytes : Bytes) (x y : Out) →
      coming_phrase g r ≡ IsSentence s bytes → i.on (past_entry f) (taken_phrase s bytes r) x y → i.acted f c w effect.Parse r x y
  pub unknown : (f : Frame) (c : Condact) (w : World) (r : Run) (bytes : Bytes) (x y : Out) →
      coming_phrase g r ≡ IsUnknown bytes → i.on (past_condact f) (record r { pending = bytes }) x y → i.acted f c w effect.Parse r x y
  pub no_phrase : (f : Frame) (c : Condact) (w : World) (r : Run) (x y : Out) → i.on (past_condact f) r x y → i.acted f c w effect.Parse r x y
  pub too_long : (f : Frame) (c : Condact) (w : World) (r : Run) →
      i.acted f c w effect.Spent r (halts (halt.Spent spent.Text) (beside m r)) (halts (halt.Spent spent.Text) r)
  -- prompts
  pub waits : (f : Frame) (p : Prompt) (r : Run) →
      i.asked f p r [] (prompt_asked g p f (from g sub lv (past_condact f)) (beside m (record r { events = [] })) (m.events []))
      (Waits p (f ∷ []) (record r { events = [] }))
  pub ignored : (f : Frame) (p : Prompt) (r : Run) (line : Line) (lines : Lines) (x y : Out) →
      i.asked f p (piece_closed (record r { events = lines })) lines x y → i.asked f p r (line ∷ lines) x y
  pub answered : (f : Frame) (p : Prompt) (r : Run) (line : Line) (lines : Lines) (x y : Out) → i.on (past_condact f) (hearing line lines r) x y →
      i.asked f p r (line ∷ lines) x y
  pub quits : (f : Frame) (r : Run) (line : Line) (lines : Lines) →
      i.asked f prompt.Quit r (line ∷ lines) (Left true (beside m (hearing line lines r))) (Left true (hearing line lines r))
  pub restarts : (f : Frame) (r : Run) (line : Line) (lines : Lines) →
      i.asked f prompt.Again r (line ∷ lines) (Stopped Restarts (beside m (anew (hearing line lines r)))) (Stopped Restarts (anew (hearing line lines r)))
  pub is_over : (f : Frame) (r : Run) (line : Line) (lines : Lines) → fits (hearing line lines r) (goodbye g (hearing line lines r)) ≡ true →
      let s : Run = text_printed (goodbye g (hearing line lines r)) (hearing line lines r) in
      i.asked f prompt.Again r (line ∷ lines) (halts halt.Over (beside m (piece_closed (without_loop (line_dropped s))))) (game_over s)
  pub goodbye_long : (f : Frame) (r : Run) (line : Line) (lines : Lines) → fits (hearing line lines r) (goodbye g (hearing line lines r)) ≡ false →
      i.asked f prompt.Again r (line ∷ lines) (halts (halt.Spent spent.Text) (beside m (hearing line lines r)))
      (halts (halt.Spent spent.Text) (hearing line lines r))
  -- loops
  pub loop_ends : (l : OpenLoop) (r : Run) → i.loop l 0 r (Left true (beside m (without_loop r))) (Left true (without_loop r))
  pub loop_passes : (l : OpenLoop) (n : ℕ) (r : Run) (x y : Out) → suc n ≤ length g.game.objects → i.loop l n r x y → i.loop l (suc n) r x y
  pub loop_takes : (l : OpenLoop) (n : ℕ) (r : Run) (x y : Out) → l.level ≡ lv → suc n ≤ length g.game.objects →
      i.on (body_of l) (object_taken g.game l (length g.game.objects - suc n) r) x y →
      ((s : Run) → i.loop l n s (over_objects g lv (afresh l) (from g sub lv (body_of l) true) n (beside m s))
      (over_objects g lv (afresh l) (from g over_sub lv (body_of l) true) n s)) →
      i.loop l (suc n) r (next_object_or lv (λ _. over_objects g lv (afresh l) (from g sub lv (body_of l) true) n) x)
      (next_object_or lv (λ _. over_objects g lv (afresh l) (from g over_sub lv (body_of l) true) n) y)
  pub goes_round : (p : Point) (r : Run) (x y : Out) → i.on p r x y →
      ((l : OpenLoop) (s : Run) → l.level ≡ lv →
      i.loop l (length g.game.objects - suc l.last) s (rest_of_loop g sub lv l (beside m s)) (rest_of_loop g over_sub lv l s)) →
      i.whole (table_of p) r (next_object_or lv (rest_of_loop g sub lv) x) (next_object_or lv (rest_of_loop g over_sub lv) y)

-- ---- from each step to a whole table ----

module _ (g : Story) (m : Beside) (sub over_sub : Called) (lv : ℕ) (i : Relation) (k : Steps g m sub over_sub lv i) where
  -- It holds of reading on from a point, and over the objects of a loop.
  abbrev pub Goes : Point → Type 0
  Goes p = (a : Bool) (r : Run) → i.on p r (from g sub lv p a (beside m r)) (from g over_sub lv p a r)

  abbrev pub Calls : Type 0
  Calls = (u : ℕ) (r : Run) → i.call u r (sub u (beside m r)) (over_sub u r)

  abbrev pub Loops : OpenLoop → ℕ → Type 0
  Loops l n = (r : Run) →
      i.loop l n r (over_objects g lv (afresh l) (from g sub lv (body_of l) true) n (beside m r))
      (over_objects g lv (afresh l) (from g over_sub lv (body_of l) true) n r)

  pub passes : (l : OpenLoop) → l.level ≡ lv → Goes (body_of l) → (n : ℕ) → n ≤ length g.game.objects → Loops l n
  unfolding over_objects
  passes l own h zero few r = k.loop_ends l r
  passes l own h (suc n) few r =
      let o : ℕ = length g.game.objects - suc n in
      by_both (i.loop l (suc n) r) (is_taken g.game r.world l o) _ _ _ _
      (λ is. k.loop_takes l n r _ _ own few (h true (object_taken g.game l o r)) (passes l own h n (omega arith)))
      (λ not_so. k.loop_passes l n r _ _ few (passes l own h n (omega arith) r))

  -- ---- prompts and phrases ----

  answers : (p : Prompt) (f : Frame) → Goes (past_condact f) → (r : Run) (line : Line) (lines : Lines) →
      i.asked f p r (line ∷ lines) (prompt_answered g p f (from g sub lv (past_condact f)) (reply line) (beside m (hearing line lines r)))
      (prompt_answered g p f (from g over_sub lv (past_condact f)) (reply line) (hearing line lines r))
  answers prompt.Quit f h r line lines =
      by_both (i.asked f prompt.Quit r (line ∷ lines)) (is_yes (reply line)) _ _ _ _
      (λ is. k.answered f prompt.Quit r line lines _ _ (h f.acted (hearing line lines r))) (λ not_so. k.quits f r line lines)
  answers prompt.Again f h r line lines =
      by_both (i.asked f prompt.Again r (line ∷ lines)) (is_no (reply line)) _ _ _ _
      (λ is. by_both (i.asked f prompt.Again r (line ∷ lines)) (fits (hearing line lines r) (goodbye g (hearing line lines r))) _ _ _ _
      (λ fit. rw (closed_beside m (without_loop (line_dropped (text_printed (goodbye g (hearing line lines r)) (hearing line lines r)))))
      (k.is_over f r line lines fit)) (k.goodbye_long f r line lines))
      (λ not_so. k.restarts f r line lines)
  answers prompt.Main f h r line lines = k.answered f prompt.Main r line lines _ _ (h true (hearing line lines r))
  answers prompt.Key f h r line lines = k.answered f prompt.Key r line lines _ _ (h true (hearing line lines r))
  answers prompt.Over f h r line lines = k.answered f prompt.Over r line lines _ _ (h true (hearing line lines r))

  pub prompted : (p : Prompt) (f : Frame) → Goes (past_condact f) → (r : Run) (lines : Lines) →
      i.asked f p r lines (prompt_asked g p f (from g sub lv (past_condact f)) (beside m (record r { events = lines })) (m.events lines))
      (prompt_asked g p f (from g over_sub lv (past_condact f)) r lines)
  unfolding prompt_asked
  prompted p f h r [] = k.waits f p r
  prompted p f h r (line ∷ lines) =
      let s : Run = record r { events = lines } in
      rw (m.takes line lines)
      (by_both (i.asked f p r (line ∷ lines)) (is_ignored r.world line) _ _ _ _
      (λ is. rw (closed_beside m s) (k.ignored f p r line lines _ _ (prompted p f h (piece_closed s) lines)))
      (λ not_so. answers p f h r line lines))

  parsed : (f : Frame) (c : Condact) (w : World) → Goes (past_entry f) → Goes (past_condact f) → (r : Run) (p : Parsed) → coming_phrase g r ≡ p →
      i.acted f c w effect.Parse r (after_parse f (from g sub lv (past_entry f)) (from g sub lv (past_condact f)) (beside m r) p)
      (after_parse f (from g over_sub lv (past_entry f)) (from g over_sub lv (past_condact f)) r p)
  parsed f c w hn hg r (IsSentence s bytes) e = k.sentence f c w r s bytes _ _ e (hn f.acted (taken_phrase s bytes r))
  parsed f c w hn hg r (IsUnknown bytes) e = k.unknown f c w r bytes _ _ e (hg f.acted (record r { pending = bytes }))
  parsed f c w hn hg r IsNoPhrase e = k.no_phrase f c w r _ _ (hg f.acted r)

  -- ---- one condact ----

  module _ (calls : Calls) where
    acted : (f : Frame) (c : Condact) (w : World) → Goes (past_entry f) → Goes (past_condact f) → (e : Effect) (r : Run) →
        i.acted f c w e r (after_action g sub lv f (from g sub lv (past_entry f)) (from g sub lv (past_condact f)) e (beside m r))
        (after_action g over_sub lv f (from g over_sub lv (past_entry f)) (from g over_sub lv (past_condact f)) e r)
    acted f c w hn hg effect.Go r = k.goes f c w r _ _ (hg true r)
    acted f c w hn hg (effect.Exit a) r = k.exits f c w a r
    acted f c w hn hg effect.Redescribe r = k.redescribes f c w r
    acted f c w hn hg (effect.Call u) r = k.calls f c w u r _ _ (calls u r) hg
    acted f c w hn hg (effect.Loop p) r = k.loops f c w p r _ _ (passes (loop_of lv f p) refl hg (length g.game.objects) (omega arith) r)
    acted f c w hn hg (effect.Ask p) r = rw (closed_beside m r) (k.prompts f c w p r _ _ (prompted p f hg (piece_closed r) r.events))
    acted f c w hn hg effect.Parse r = parsed f c w hn hg r (coming_phrase g r) refl
    acted f c w hn hg effect.Spent r = k.too_long f c w r

    answered : (f : Frame) (c : Condact) → StandsAt g f c → Goes (past_entry f) → Goes (past_condact f) → (r : Run) → length r.read < READ_LIMIT →
        is_condition c ≡ true → (t : Truth) → (holds g.game r.world c).answer ≡ t →
        i.on (of_frame f) r (after_test g f (from g sub lv (past_entry f)) (from g sub lv (past_condact f)) c
        (beside m (with_world (holds g.game r.world c).world r)) t)
        (after_test g f (from g over_sub lv (past_entry f)) (from g over_sub lv (past_condact f)) c (with_world (holds g.game r.world c).world r) t)
    answered f c stands hn hg r few is truth.Yes e = k.holds_so f c r _ _ stands few is (hg f.acted (tested g f c true r))
    answered f c stands hn hg r few is truth.No e = k.fails f c r _ _ stands few is (hn f.acted (tested g f c false r))
    answered f c stands hn hg r few is truth.Ask e =
        let s : Run = tested g f c true r in
        let shown : Run = text_printed (quit_question g s) s in
        by_both (i.on (of_frame f) r) (fits s (quit_question g s)) _ _ _ _
        (λ fit. rw (closed_beside m shown) (k.asks f c r _ _ stands few is e fit (prompted prompt.Quit f hg (piece_closed shown) r.events)))
        (k.question_long f c r stands few is e)

    one : (f : Frame) (c : Condact) → StandsAt g f c → Goes (past_entry f) → Goes (past_condact f) → (r : Run) → length r.read < READ_LIMIT →
        i.on (of_frame f) r (reads_one g sub lv f (from g sub lv (past_entry f)) (from g sub lv (past_condact f)) c (beside m r))
        (reads_one g over_sub lv f (from g over_sub lv (past_entry f)) (from g over_sub lv (past_condact f)) c r)
    one f c stands hn hg r few =
        let d : Done = effect_of g r.world c in
        let s : Run = step_noted f c true r in
        by_both (i.on (of_frame f) r) (is_condition c) _ _ _ _
        (λ is. answered f c stands hn hg r few is (holds g.game r.world c).answer refl)
        (λ not_so. by_both (i.on (of_frame f) r) (fits s d.text) _ _ _ _
        (λ fit. k.acts f c r _ _ stands few not_so fit (acted f c r.world hn hg d.act.effect (carried_out d (text_printed d.text s))))
        (k.text_long f c r stands few not_so))

    -- ---- entries, tables ----

    -- With at most this number of condacts left of the entry.
    row : (t e : ℕ) → Goes (BeforeEntry t (suc e)) → (more n : ℕ) → length (condacts_of (entry_at g.game t e)) ≤ n + more → Goes (AtCondact t e n)
    row t e hn zero n few a r =
        let none : condact_at g.game t e n ≡ None = slice_get_past (condacts_of (entry_at g.game t e)) n (omega arith) in
        rw (inside_end g sub lv t e n a (beside m r) none, inside_end g over_sub lv t e n a r none) (k.ended t e n r _ _ none (hn a r))
    row t e hn (suc more) n few a r = at_condact (condact_at g.game t e n) refl (row t e hn more (suc n) (omega arith))
      where
        at_condact : (o : Option Condact) → condact_at g.game t e n ≡ o → Goes (AtCondact t e (suc n)) →
            i.on (AtCondact t e n) r (rest_of_entry g sub lv t e n a (beside m r)) (rest_of_entry g over_sub lv t e n a r)
        at_condact None none hg =
            rw (inside_end g sub lv t e n a (beside m r) none, inside_end g over_sub lv t e n a r none) (k.ended t e n r _ _ none (hn a r))
        at_condact (Some c) is hg =
            let f : Frame = record { table = t; entry = e; at = n; acted = a } in
            rw (inside_condact g sub lv t e n a (beside m r) c is, inside_condact g over_sub lv t e n a r c is)
            (by_both (i.on (AtCondact t e n) r) (nat_lt (length r.read) READ_LIMIT) _ _ _ _
            (λ few. one f c is hn hg r (ltb-true (length r.read) READ_LIMIT few))
            (λ many. k.exhausted f c r is (ltb-false (length r.read) READ_LIMIT many)))

    rows : (t more e : ℕ) → length (table_at g.game t) ≤ e + more → Goes (BeforeEntry t e)
    rows t zero e few a r =
        let none : entry_at g.game t e ≡ None = slice_get_past (table_at g.game t) e (omega arith) in
        rw (plain_end g sub lv t e a (beside m r) none, plain_end g over_sub lv t e a r none) (k.left t e a r none)
    rows t (suc more) e few a r = at_entry (entry_at g.game t e) refl (rows t more (suc e) (omega arith))
      where
        at_entry : (o : Option Entry) → entry_at g.game t e ≡ o → Goes (BeforeEntry t (suc e)) →
            i.on (BeforeEntry t e) r (from_condact g sub lv t e 0 a (beside m r)) (from_condact g over_sub lv t e 0 a r)
        at_entry None none hn =
            rw (plain_end g sub lv t e a (beside m r) none, plain_end g over_sub lv t e a r none) (k.left t e a r none)
        at_entry (Some en) is hn =
            rw (plain_entry g sub lv t e en a (beside m r) is, plain_entry g over_sub lv t e en a r is)
            (by_both (i.on (BeforeEntry t e) r) (is_for_now r en) _ _ _ _
            (λ now. k.matched t e en r _ _ is now (row t e hn (length (condacts_of (entry_at g.game t e))) 0 (omega arith) a r))
            (λ not_so. k.passed t e en r _ _ is not_so (hn a r)))

    -- So it holds from each point of a table, over the objects of an open loop, and of the rest of a table.
    pub from_each : (p : Point) → Goes p
    from_each (BeforeEntry t e) = rows t (length (table_at g.game t)) e (omega arith)
    from_each (AtCondact t e n) =
        row t e (rows t (length (table_at g.game t)) (suc e) (omega arith)) (length (condacts_of (entry_at g.game t e))) n (omega arith)

    pub round : (l : OpenLoop) (r : Run) → l.level ≡ lv →
        i.loop l (length g.game.objects - suc l.last) r (rest_of_loop g sub lv l (beside m r)) (rest_of_loop g over_sub lv l r)
    round l r own = passes l own (from_each (body_of l)) (length g.game.objects - suc l.last) (omega arith) r

    pub whole_table : (p : Point) (a : Bool) (r : Run) →
        i.whole (table_of p) r (next_object_or lv (rest_of_loop g sub lv) (from g sub lv p a (beside m r)))
        (next_object_or lv (rest_of_loop g over_sub lv) (from g over_sub lv p a r))
    whole_table p a r = k.goes_round p r _ _ (from_each p a r) (λ l s own. round l s own)

-- ---- levels and paths ----

-- The same at each place, whose tables call those of other places, where the levels that are left both ways are enough.
pub record Levels (g : Story) (m : Beside) (Place : Type 0) (level : Place → ℕ) (Enough : ℕ → ℕ → ℕ → Type 0) (i : Place → Relation) : Type 0 where
  -- the place of a table that is called
  pub below : Place → ℕ → Place
  pub one_more : (j : Place) (u : ℕ) → level (below j u) ≡ suc (level j)
  pub fewer : (n o lv : ℕ) → Enough (suc n) (suc o) lv → Enough n o (suc lv)
  pub steps : (j : Place) (n o : ℕ) → Enough n o (level j) → Steps g m (table_called g n (level j)) (table_called g o (level j)) (level j) (i j)
  -- a call that is too deep both ways; one that is so one way; and any other
  pub too_deep : (j : Place) (u : ℕ) (r : Run) → (i j).call u r (halts (halt.TooDeep u) (beside m r)) (halts (halt.TooDeep u) r)
  pub deep_once : (j : Place) (n u : ℕ) (r : Run) (x y : Out) → Enough zero (suc n) (level j) ⊎ Enough (suc n) zero (level j) → (i j).call u r x y
  pub called : (j : Place) (n o u : ℕ) (r : Run) (x y : Out) → Enough (suc n) (suc o) (level j) → (i (below j u)).whole u r x y → (i j).call u r x y

module _ (g : Story) (m : Beside) (Place : Type 0) (level : Place → ℕ) (Enough : ℕ → ℕ → ℕ → Type 0) (i : Place → Relation)
    (k : Levels g m Place level Enough i) where
  -- It holds of a table that is called, and of the rest of a table.
  pub levels : (n o : ℕ) (j : Place) → Enough n o (level j) → (u : ℕ) (r : Run) →
      (i j).call u r (table_called g n (level j) u (beside m r)) (table_called g o (level j) u r)
  unfolding table_called
  levels zero zero j enough u r = k.too_deep j u r
  levels zero (suc o) j enough u r = k.deep_once j o u r _ _ (inl enough)
  levels (suc n) zero j enough u r = k.deep_once j n u r _ _ (inr enough)
  levels (suc n) (suc o) j enough u r =
      let b : Place = k.below j u in
      let left : Enough n o (level b) = subst (Enough n o) (sym (k.one_more j u)) (k.fewer n o (level j) enough) in
      k.called j n o u r _ _ enough
      (subst (λ l. (i b).whole u r (read_at_level g (table_called g n l) l u 0 0 false (beside m r)) (read_at_level g (table_called g o l) l u 0 0 false r))
      (k.one_more j u)
      (whole_table g m (table_called g n (level b)) (table_called g o (level b)) (level b) (i b) (k.steps b n o left) (levels n o b left)
      (BeforeEntry u 0) false r))

  pub rest : (n o : ℕ) (j : Place) → Enough n o (level j) → (p : Point) (a : Bool) (r : Run) →
      (i j).whole (table_of p) r
      (next_object_or (level j) (rest_of_loop g (table_called g n (level j)) (level j)) (from g (table_called g n (level j)) (level j) p a (beside m r)))
      (next_object_or (level j) (rest_of_loop g (table_called g o (level j)) (level j)) (from g (table_called g o (level j)) (level j) p a r))
  rest n o j enough p a r =
      whole_table g m (table_called g n (level j)) (table_called g o (level j)) (level j) (i j) (k.steps j n o enough) (levels n o j enough) p a r

  -- What is to hold of going on along a path, of which each frame hands it back.
  pub record Paths (Holds : Place → Prompt → List Frame → Run → Out → Out → Type 0) : Type 0 where
    pub enough : (lv : ℕ) → Enough (LEVEL_LIMIT - lv) (LEVEL_LIMIT - lv) lv
    pub at_prompt : (j : Place) (p : Prompt) (f : Frame) (r : Run) (x y : Out) → (i j).asked f p r r.events x y →
        ((l : OpenLoop) (s : Run) → l.level ≡ level j →
        (i j).loop l (length g.game.objects - suc l.last) s (rest_of_loop g (deeper g (level j)) (level j) l (beside m s))
        (rest_of_loop g (deeper g (level j)) (level j) l s)) →
        Holds j p (f ∷ []) r (next_object_or (level j) (rest_of_loop g (deeper g (level j)) (level j)) x)
        (next_object_or (level j) (rest_of_loop g (deeper g (level j)) (level j)) y)
    pub above : (j : Place) (p : Prompt) (f h : Frame) (path : List Frame) (r : Run) (x y : Out) → Holds (k.below j h.table) p (h ∷ path) r x y →
        ((a : Bool) (s : Run) → (i j).whole f.table s (rest_of_table g (level j) f.table f.entry (suc f.at) a (beside m s))
        (rest_of_table g (level j) f.table f.entry (suc f.at) a s)) →
        Holds j p (f ∷ h ∷ path) r (after_call f (rest_of_table g (level j) f.table f.entry (suc f.at)) x)
        (after_call f (rest_of_table g (level j) f.table f.entry (suc f.at)) y)

  module _ (Holds : Place → Prompt → List Frame → Run → Out → Out → Type 0) (q : Paths Holds) where
    pub along : (p : Prompt) (j : Place) (f : Frame) (path : List Frame) (r : Run) →
        Holds j p (f ∷ path) r (on_path g p (level j) (f ∷ path) (beside m r)) (on_path g p (level j) (f ∷ path) r)
    along p j f [] r =
        let n : ℕ = LEVEL_LIMIT - level j in
        let steps : Steps g m (deeper g (level j)) (deeper g (level j)) (level j) (i j) = k.steps j n n (q.enough (level j)) in
        let calls = levels n n j (q.enough (level j)) in
        q.at_prompt j p f r _ _
        (prompted g m (deeper g (level j)) (deeper g (level j)) (level j) (i j) steps p f
        (from_each g m (deeper g (level j)) (deeper g (level j)) (level j) (i j) steps calls (past_condact f)) r r.events)
        (round g m (deeper g (level j)) (deeper g (level j)) (level j) (i j) steps calls)
    along p j f (h ∷ path) r =
        q.above j p f h path r _ _
        (subst (λ l. Holds (k.below j h.table) p (h ∷ path) r (on_path g p l (h ∷ path) (beside m r)) (on_path g p l (h ∷ path) r)) (k.one_more j h.table)
        (along p (k.below j h.table) h path r))
        (rest (LEVEL_LIMIT - level j) (LEVEL_LIMIT - level j) j (q.enough (level j)) (past_condact f))
