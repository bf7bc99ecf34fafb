-- The one induction over turns: of two turns side by side, what each step between tables hands back, from the end to the beginning.
-- `EachStep` has the same for tables, and `RunInduction` says by this one what each step keeps.
use Rattle.std.proofs.Common.{◌≡◌, ℕ, zero, suc, Bool, true, false, List, [], ◌∷◌, Option, Some, None, refl}
use Rattle.paw_base.specs.Bytes.{Bytes, Line, Lines, Text}
use Rattle.paw_base.specs.declared.flags.TheConstants.{LOCATION_FLAG, VERB_FLAG}
use Rattle.paw_base.specs.declared.fault.SpentKind.TheVariants as spent
use Rattle.paw_base.specs.declared.tables.TheConstants.{RESPONSE_TABLE, DESCRIBED_TABLE, FRAME_TABLE}
use Rattle.paw_game.specs.Tables.{exit_at}
use Rattle.paw_world.specs.World.{flag, with_flag}
use Rattle.paw_phrase.specs.declared.Sentence.{Sentence}
use Rattle.paw_phrase.specs.Sentence.{Parsed, IsSentence, IsUnknown, IsNoPhrase}
use Rattle.paw_effects.specs.Story.{Story}
use Rattle.paw_effects.specs.declared.act.Prompt.{Prompt}
use Rattle.paw_effects.specs.declared.act.Prompt.TheVariants as prompt
use Rattle.paw_reading.specs.declared.frames.Frame.{Frame}
use Rattle.paw_reading.specs.declared.halt.Halt.{Halt}
use Rattle.paw_reading.specs.declared.halt.Halt.TheVariants as halt
use Rattle.paw_reading.specs.Run.{Run, piece_closed, fits, text_printed, with_world, line_dropped, is_timeout, is_ignored}
use Rattle.paw_reading.specs.Run.{taken_phrase}
use Rattle.paw_reading.specs.Reading.{Redescribes, Restarts, Halts, Out, Left, Waits, Stopped, coming_phrase, table_read}
use Rattle.paw_reading.specs.Turn.{TurnPhase, AtDescribe, AtTimeFrame, AtPhrase, AtResponse, Ending, WaitsAt, Halted, Unended, saying}
use Rattle.paw_reading.specs.Turn.{location_described, time_frame_passed, view_text, turn_counted, prompt_text, at_main, after_phrase}
use Rattle.paw_reading.specs.Turn.{refusal_text, exit_taken, after_left, table_done, turn, timeout_text}
use Rattle.paw_reading.specs.inner.Parts.{line_set, unknown_text}
use Rattle.paw_reading.proofs.Cases.{by_both}
use Rattle.paw_reading.proofs.EachStep.{Beside, beside, closed_beside, itself, hearing}

-- The run at a location that is described; at the next phrase, with a sentence, and its turn counted; and with its line dropped.
abbrev pub described : Run → Run
described r = with_world (location_described r.world) r

abbrev pub counted : Sentence → Bytes → Run → Run
counted s left r = with_world (turn_counted (taken_phrase s left r).world) (taken_phrase s left r)

-- What is to hold between the run with which a turn goes on, in this number of phases at most, and how it ends both ways, the other first:
-- from a phase; after a table that ended so; and at the main prompt whose piece is closed.
pub record TurnRelation : Type 1 where
  pub phase : ℕ → TurnPhase → Run → Ending → Ending → Type 0
  pub after : ℕ → ℕ → Out → Ending → Ending → Type 0
  pub prompt : ℕ → Run → Lines → Ending → Ending → Type 0

-- The same table ends both ways alike, where it doesn't wait; where it does, this holds of the other.
abbrev pub EndAlike : Beside → (Prompt → List Frame → Run → Out → Type 0) → Out → Out → Type 0
EndAlike m Wait x (Left a r) = x ≡ Left a (beside m r)
EndAlike m Wait x (Waits p path r) = Wait p path r x
EndAlike m Wait x (Stopped stop r) = x ≡ Stopped stop (beside m r)

-- Where nothing differs, whatever the wait.
abbrev pub AnyWait : Prompt → List Frame → Run → Out → Type 0
AnyWait p path r x = Unit {0}

pub ends_itself : (x : Out) → EndAlike itself AnyWait x x
ends_itself (Left a r) = refl
ends_itself (Waits p path r) = tt
ends_itself (Stopped stop r) = refl

-- What is said in a turn either fits, and its phase goes on so, or is too long.
abbrev pub Said : Beside → Text → Run → (Ending → Ending → Type 0) → (Ending → Ending → Type 0) → Type 0
Said m text r Goes Holds =
    (fits r text ≡ true → (x y : Ending) → Goes x y → Holds x y)
    × (fits r text ≡ false → Holds (Halted (halt.Spent spent.Text) (beside m r)) (Halted (halt.Spent spent.Text) r))

-- Each step of a turn hands it back. The other turn has its own number of phases for each number of them.
pub record TurnSteps (g : Story) (m : Beside) (phases : ℕ → ℕ) (Wait : Prompt → List Frame → Run → Out → Type 0) (i : TurnRelation) : Type 0 where
  pub unended : (s : TurnPhase) (r : Run) → i.phase zero s r (turn g (phases zero) s (beside m r)) Unended
  -- phases
  pub describes : (n : ℕ) (r : Run) → let text : Text = view_text g.game (location_described r.world) in
      Said m text (described r)
      (i.after n DESCRIBED_TABLE (table_read g DESCRIBED_TABLE (text_printed text (described r)))) (i.phase (suc n) AtDescribe r)
  pub frames : (n : ℕ) (r : Run) (x y : Ending) → i.after n FRAME_TABLE (table_read g FRAME_TABLE r) x y → i.phase (suc n) AtTimeFrame r x y
  pub responds : (n : ℕ) (r : Run) (x y : Ending) → i.after n RESPONSE_TABLE (table_read g RESPONSE_TABLE r) x y → i.phase (suc n) AtResponse r x y
  pub sentence : (n : ℕ) (r : Run) (s : Sentence) (left : Bytes) (x y : Ending) → coming_phrase g r ≡ IsSentence s left →
      i.phase n AtResponse (counted s left r) x y → i.phase (suc n) AtPhrase r x y
  pub unknown : (n : ℕ) (r : Run) (left : Bytes) → coming_phrase g r ≡ IsUnknown left →
      Said m (unknown_text g.game r.world) (line_dropped r) (i.phase n AtTimeFrame (text_printed (unknown_text g.game r.world) (line_dropped r)))
      (i.phase (suc n) AtPhrase r)
  pub no_phrase : (n : ℕ) (r : Run) → coming_phrase g r ≡ IsNoPhrase →
      Said m (prompt_text g.game r.world) (line_dropped r)
      (i.prompt n (piece_closed (text_printed (prompt_text g.game r.world) (line_dropped r))) r.events) (i.phase (suc n) AtPhrase r)
  -- after a table
  pub acted : (n : ℕ) (r : Run) (x y : Ending) → i.phase n AtTimeFrame r x y → i.after n 0 (Left true r) x y
  pub leaves : (n to : ℕ) (r : Run) (x y : Ending) → exit_at g.game (flag r.world LOCATION_FLAG) (flag r.world VERB_FLAG) ≡ Some to →
      i.phase n AtDescribe (with_world (with_flag r.world LOCATION_FLAG to) r) x y → i.after n 0 (Left false r) x y
  pub refuses : (n : ℕ) (r : Run) → exit_at g.game (flag r.world LOCATION_FLAG) (flag r.world VERB_FLAG) ≡ None →
      Said m (refusal_text g.game r.world) (line_dropped r) (i.phase n AtTimeFrame (text_printed (refusal_text g.game r.world) (line_dropped r)))
      (i.after n 0 (Left false r))
  pub described_so : (n : ℕ) (a : Bool) (r : Run) (x y : Ending) → i.phase n AtTimeFrame r x y → i.after n 1 (Left a r) x y
  pub framed : (n t : ℕ) (a : Bool) (r : Run) (x y : Ending) → i.phase n AtPhrase (with_world (time_frame_passed r.world) r) x y →
      i.after n (suc (suc t)) (Left a r) x y
  pub waits : (n t : ℕ) (p : Prompt) (path : List Frame) (r : Run) (x : Out) → Wait p path r x →
      i.after n t (Waits p path r) (table_done g (turn g (phases n)) t x) (WaitsAt p path r)
  pub again : (n t : ℕ) (r : Run) (x y : Ending) → i.phase n AtDescribe r x y → i.after n t (Stopped Redescribes r) x y
  pub restarts : (n t : ℕ) (r : Run) (x y : Ending) → i.phase n AtDescribe r x y → i.after n t (Stopped Restarts r) x y
  pub halts : (n t : ℕ) (halt : Halt) (r : Run) → i.after n t (Stopped (Halts halt) r) (Halted halt (beside m r)) (Halted halt r)
  -- at the main prompt
  pub awaits : (n : ℕ) (r : Run) →
      i.prompt n r [] (at_main g (turn g (phases n)) (beside m (record r { events = [] })) (m.events [])) (WaitsAt prompt.Main [] (record r { events = [] }))
  pub ignored : (n : ℕ) (r : Run) (line : Line) (lines : Lines) (x y : Ending) →
      i.prompt n (piece_closed (record r { events = lines })) lines x y → i.prompt n r (line ∷ lines) x y
  pub times_out : (n : ℕ) (r : Run) (line : Line) (lines : Lines) →
      Said m (timeout_text g.game r.world) (hearing line lines r) (i.phase n AtTimeFrame (text_printed (timeout_text g.game r.world) (hearing line lines r)))
      (i.prompt n r (line ∷ lines))
  pub takes_line : (n : ℕ) (r : Run) (line : Line) (lines : Lines) (x y : Ending) → i.phase n AtPhrase (line_set line (record r { events = lines })) x y →
      i.prompt n r (line ∷ lines) x y

module _ (g : Story) (m : Beside) (phases : ℕ → ℕ) (one_more : (n : ℕ) → phases (suc n) ≡ suc (phases n)) (Wait : Prompt → List Frame → Run → Out → Type 0)
    (tables : (t : ℕ) (r : Run) → EndAlike m Wait (table_read g t (beside m r)) (table_read g t r)) (i : TurnRelation)
    (k : TurnSteps g m phases Wait i) where
  abbrev Goes : ℕ → TurnPhase → Type 0
  Goes n s = (r : Run) → i.phase n s r (turn g (phases n) s (beside m r)) (turn g n s r)

  said : (text : Text) (r : Run) (go over_go : Run → Ending) (After Holds : Ending → Ending → Type 0) → Said m text r After Holds →
      After (go (beside m (text_printed text r))) (over_go (text_printed text r)) → Holds (saying text go (beside m r)) (saying text over_go r)
  said text r go over_go After Holds rule h = by_both Holds (fits r text) _ _ _ _ (λ fit. rule.0 fit _ _ h) rule.1

  module _ (n : ℕ) (goes : (s : TurnPhase) → Goes n s) where
    left_table : (t : ℕ) (a : Bool) (r : Run) → i.after n t (Left a r) (after_left g (turn g (phases n)) t a (beside m r)) (after_left g (turn g n) t a r)
    left_table zero true r = k.acted n r _ _ (goes AtTimeFrame r)
    left_table zero false r = by_exit (exit_at g.game (flag r.world LOCATION_FLAG) (flag r.world VERB_FLAG)) refl
      where
        by_exit : (to : Option ℕ) → exit_at g.game (flag r.world LOCATION_FLAG) (flag r.world VERB_FLAG) ≡ to →
            i.after n 0 (Left false r) (exit_taken g (turn g (phases n)) (beside m r) to) (exit_taken g (turn g n) r to)
        by_exit None e =
            said (refusal_text g.game r.world) (line_dropped r) (turn g (phases n) AtTimeFrame) (turn g n AtTimeFrame) _
            (i.after n 0 (Left false r)) (k.refuses n r e)
            (goes AtTimeFrame (text_printed (refusal_text g.game r.world) (line_dropped r)))
        by_exit (Some to) e = k.leaves n to r _ _ e (goes AtDescribe (with_world (with_flag r.world LOCATION_FLAG to) r))
    left_table (suc zero) a r = k.described_so n a r _ _ (goes AtTimeFrame r)
    left_table (suc (suc t)) a r = k.framed n t a r _ _ (goes AtPhrase (with_world (time_frame_passed r.world) r))

    -- So it holds after a table, and at the main prompt.
    pub table_after : (t : ℕ) (x y : Out) → EndAlike m Wait x y → i.after n t y (table_done g (turn g (phases n)) t x) (table_done g (turn g n) t y)
    table_after t x (Left a r) e = rw e (left_table t a r)
    table_after t x (Waits p path r) e = k.waits n t p path r x e
    table_after t x (Stopped Redescribes r) e = rw e (k.again n t r _ _ (goes AtDescribe r))
    table_after t x (Stopped Restarts r) e = rw e (k.restarts n t r _ _ (goes AtDescribe r))
    table_after t x (Stopped (Halts halt) r) e = rw e (k.halts n t halt r)

    reads : (t : ℕ) (r : Run) →
        i.after n t (table_read g t r) (table_done g (turn g (phases n)) t (table_read g t (beside m r))) (table_done g (turn g n) t (table_read g t r))
    reads t r = table_after t (table_read g t (beside m r)) (table_read g t r) (tables t r)

    pub at_prompt : (r : Run) (lines : Lines) →
        i.prompt n r lines (at_main g (turn g (phases n)) (beside m (record r { events = lines })) (m.events lines)) (at_main g (turn g n) r lines)
    unfolding at_main
    at_prompt r [] = k.awaits n r
    at_prompt r (line ∷ lines) =
        let s : Run = record r { events = lines } in
        rw (m.takes line lines)
        (by_both (i.prompt n r (line ∷ lines)) (is_ignored r.world line) _ _ _ _
        (λ is. rw (closed_beside m s) (k.ignored n r line lines _ _ (at_prompt (piece_closed s) lines)))
        (λ not_so. by_both (i.prompt n r (line ∷ lines)) (is_timeout line) _ _ _ _
        (λ is. said (timeout_text g.game r.world) (hearing line lines r) (turn g (phases n) AtTimeFrame) (turn g n AtTimeFrame) _ (i.prompt n r (line ∷ lines))
        (k.times_out n r line lines) (goes AtTimeFrame (text_printed (timeout_text g.game r.world) (hearing line lines r))))
        (λ not_one. k.takes_line n r line lines _ _ (goes AtPhrase (line_set line s)))))

    phrased : (r : Run) (p : Parsed) → coming_phrase g r ≡ p →
        i.phase (suc n) AtPhrase r (after_phrase g (turn g (phases n)) (beside m r) p) (after_phrase g (turn g n) r p)
    phrased r (IsSentence s left) e = k.sentence n r s left _ _ e (goes AtResponse (counted s left r))
    phrased r (IsUnknown left) e =
        let text : Text = unknown_text g.game r.world in
        said text (line_dropped r) (turn g (phases n) AtTimeFrame) (turn g n AtTimeFrame) _ (i.phase (suc n) AtPhrase r) (k.unknown n r left e)
        (goes AtTimeFrame (text_printed text (line_dropped r)))
    phrased r IsNoPhrase e =
        let text : Text = prompt_text g.game r.world in
        let shown : Run = text_printed text (line_dropped r) in
        said text (line_dropped r) (λ s. at_main g (turn g (phases n)) (piece_closed s) s.events) (λ s. at_main g (turn g n) (piece_closed s) s.events) _
        (i.phase (suc n) AtPhrase r) (k.no_phrase n r e) (rw (closed_beside m shown) (at_prompt (piece_closed shown) r.events))

  -- So it holds of a turn from each phase.
  pub turns : (n : ℕ) (s : TurnPhase) → Goes n s
  unfolding turn
  turns zero s r = k.unended s r
  turns (suc n) AtDescribe r =
      let text : Text = view_text g.game (location_described r.world) in
      rw (one_more n)
      (said text (described r) (λ s. table_done g (turn g (phases n)) DESCRIBED_TABLE (table_read g DESCRIBED_TABLE s))
      (λ s. table_done g (turn g n) DESCRIBED_TABLE (table_read g DESCRIBED_TABLE s)) _ (i.phase (suc n) AtDescribe r) (k.describes n r)
      (reads n (turns n) DESCRIBED_TABLE (text_printed text (described r))))
  turns (suc n) AtTimeFrame r = rw (one_more n) (k.frames n r _ _ (reads n (turns n) FRAME_TABLE r))
  turns (suc n) AtPhrase r = rw (one_more n) (phrased n (turns n) r (coming_phrase g r) refl)
  turns (suc n) AtResponse r = rw (one_more n) (k.responds n r _ _ (reads n (turns n) RESPONSE_TABLE r))
