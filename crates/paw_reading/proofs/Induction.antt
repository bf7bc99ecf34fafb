-- What each step of reading a table keeps holds of how it ends. It is the way to prove a law of play, over the one induction of
-- `EachStep`; `RunInduction` has the same for turns, and `Kept` both for what holds of a run alone.
use Rattle.std.proofs.Common.{◌≡◌, ℕ, zero, suc, ◌-◌, ◌≤◌, ◌<◌, Bool, true, false, ◌||◌, List, [], ◌∷◌, ◌++◌, Some, None, inl, inr}
use Rattle.std.proofs.Common.{refl, sym, subst, length, arith}
use Rattle.paw_base.specs.Bytes.{Bytes, Line, Lines, Text}
use Rattle.paw_base.specs.declared.codes.TheConstants.{PROCESS, DOALL}
use Rattle.paw_base.specs.declared.limits.TheConstants.{LEVEL_LIMIT, READ_LIMIT}
use Rattle.paw_base.specs.declared.messages.TheConstants.{QUIT_MESSAGE, GOODBYE_MESSAGE}
use Rattle.paw_base.specs.declared.parts.Condact.{Condact}
use Rattle.paw_base.specs.declared.fault.SpentKind.TheVariants as spent
use Rattle.paw_game.specs.Game.{GameLists}
use Rattle.paw_world.specs.World.{World}
use Rattle.paw_phrase.specs.declared.Sentence.{Sentence}
use Rattle.paw_phrase.specs.Sentence.{IsSentence, IsUnknown}
use Rattle.paw_effects.specs.Story.{Story}
use Rattle.paw_effects.specs.declared.act.Prompt.{Prompt}
use Rattle.paw_effects.specs.declared.act.Prompt.TheVariants as prompt
use Rattle.paw_effects.specs.declared.act.Effect.{Effect}
use Rattle.paw_effects.specs.declared.act.Effect.TheVariants as effect
use Rattle.paw_effects.specs.Presence.{named_place}
use Rattle.paw_effects.specs.Texts.{put_text, say_text, location_text}
use Rattle.paw_effects.specs.Holds.{holds}
use Rattle.paw_effects.specs.Effects.{effect_of}
use Rattle.paw_effects.proofs.Asking.{AsksAt, Leads}
use Rattle.paw_effects.proofs.EachRow.{effect_leads, condition_asks}
use Rattle.paw_reading.specs.declared.frames.Frame.{Frame}
use Rattle.paw_reading.specs.declared.frames.OpenLoop.{OpenLoop}
use Rattle.paw_reading.specs.declared.halt.Halt.TheVariants as halt
use Rattle.paw_reading.specs.Run.{Run, piece_closed, fits, text_printed, with_world, without_loop, line_dropped, anew, with_line_heard}
use Rattle.paw_reading.specs.Run.{taken_phrase}
use Rattle.paw_reading.specs.Reading.{Stop, Redescribes, Restarts, Halts, Out, Left, Waits, Stopped, Called, step_noted, after_call, at_level}
use Rattle.paw_reading.specs.Reading.{next_object_or, object_taken, loop_of, coming_phrase, carried_out, rest_of_loop, table_called, deeper}
use Rattle.paw_reading.specs.Reading.{rest_of_table}
use Rattle.paw_reading.specs.GoingOn.{on_path}
use Rattle.paw_reading.specs.inner.Parts.{goodbye, quit_question}
use Rattle.paw_reading.proofs.Cases.{open_or_not}
use Rattle.paw_reading.proofs.Rules.{at_level_is}
use Rattle.paw_reading.proofs.EachStep.{Relation, Steps, Levels, Paths, Point, BeforeEntry, AtCondact, table_of, past_condact, from, afresh, itself, StandsAt}
use Rattle.paw_reading.proofs.EachStep.{tested, noted_printed, hearing, levels, rest, along}

-- A text that the reading itself prints of a game, besides what condacts print.
pub data IsSaid (g : GameLists) : Text → Type 0 where
  Puts : (w : World) (message : ℕ) → IsSaid g (put_text g w message)
  Says : (w : World) (message : ℕ) → IsSaid g (say_text g w message)
  Shows : (w : World) (location : ℕ) → IsSaid g (location_text g w location)
  Both : (a b : Text) → IsSaid g a → IsSaid g b → IsSaid g (a ++ b)

-- What is to hold. A place is where tables are read, and has a level at least.
pub record Claim : Type 1 where
  -- the places, their levels, and the place of a table that is called from one
  pub At : Type 0
  pub level : At → ℕ
  pub called : At → ℕ → At
  -- which tables may be read at a place, which loops may be open, which frames call a table, and which ask
  pub table : At → ℕ → Type 0
  pub loop : OpenLoop → Type 0
  pub call : Frame → ℕ → Type 0
  pub asks : Frame → Prompt → Type 0
  -- of a run that reads on at a place; of one that does so right after an action or a line; of one whose piece is closed
  -- before these lines
  pub on : At → Run → Type 0
  pub acted : At → Run → Type 0
  pub closed : At → Run → Lines → Type 0
  -- of a wait at a place, and of a stop
  pub wait : At → Prompt → List Frame → Run → Type 0
  pub stop : Stop → Run → Type 0

-- It holds of how reading at a place ends, and this where the table is left.
abbrev pub Ends : (i : Claim) → i.At → (Run → Type 0) → Out → Type 0
Ends i j Leaves (Left a r) = Leaves r
Ends i j Leaves (Waits p path r) = i.wait j p path r
Ends i j Leaves (Stopped stop r) = i.stop stop r

-- The table is left, whatever loop is open.
abbrev pub Inside : (i : Claim) → i.At → Out → Type 0
Inside i j x = Ends i j (i.on j) x

-- The table is left, and no loop of its level is open.
abbrev pub LeftSo : (i : Claim) → i.At → Run → Type 0
LeftSo i j r = i.on j r × (at_level (i.level j) r.turning ≡ None)

abbrev pub Outside : (i : Claim) → i.At → Out → Type 0
Outside i j x = Ends i j (LeftSo i j) x

pub inside : (i : Claim) (j : i.At) (x : Out) → Outside i j x → Inside i j x
inside i j (Left a r) on = on.0
inside i j (Waits p path r) on = on
inside i j (Stopped stop r) on = on

-- A run that may wait at this prompt along these frames, the first of which is at this place.
abbrev pub Along : (i : Claim) → Prompt → Run → i.At → List Frame → Type 0
Along i p r j [] = Unit {0}
Along i p r j (f ∷ []) = i.asks f p × (i.table j f.table × i.closed j r r.events)
Along i p r j (f ∷ h ∷ path) = i.table j f.table × (i.call f h.table × Along i p r (i.called j h.table) (h ∷ path))

-- It may wait along all frames where each may call and ask, each table may be called, and its piece is closed at each place.
pub along_any : (i : Claim) (p : Prompt) (r : Run) → ((j : i.At) (u : ℕ) → i.table (i.called j u) u) → ((f : Frame) (u : ℕ) → i.call f u) →
    ((f : Frame) → i.asks f p) → ((j : i.At) → i.closed j r r.events) → (j : i.At) (f : Frame) (path : List Frame) → i.table j f.table →
    Along i p r j (f ∷ path)
along_any i p r opens calls asks closed j f [] own = (asks f, (own, closed j))
along_any i p r opens calls asks closed j f (h ∷ path) own =
    (own, (calls f h.table, along_any i p r opens calls asks closed (i.called j h.table) h path (opens j h.table)))

-- Each step of reading keeps it.
pub record Carries (g : Story) (i : Claim) : Type 0 where
  pub deeper : (j : i.At) (u : ℕ) → i.level (i.called j u) ≡ suc (i.level j)
  -- texts and condacts
  pub printed : (j : i.At) (r : Run) (text : Text) → i.on j r → IsSaid g.game text → fits r text ≡ true → i.on j (text_printed text r)
  pub tested : (j : i.At) (f : Frame) (c : Condact) (b : Bool) (r : Run) → StandsAt g f c → i.on j r → length r.read < READ_LIMIT →
      i.on j (step_noted f c b (with_world (holds g.game r.world c).world r))
  pub acts : (j : i.At) (f : Frame) (c : Condact) (r : Run) → StandsAt g f c → i.on j r → length r.read < READ_LIMIT →
      fits (step_noted f c true r) (effect_of g r.world c).text ≡ true →
      i.acted j (carried_out (effect_of g r.world c) (noted_printed f c (effect_of g r.world c).text r))
  pub reads_on : (j : i.At) (r : Run) → i.acted j r → i.on j r
  pub sentence : (j : i.At) (r : Run) (s : Sentence) (left : Bytes) → i.on j r → coming_phrase g r ≡ IsSentence s left → i.on j (taken_phrase s left r)
  pub unknown : (j : i.At) (r : Run) (left : Bytes) → i.on j r → coming_phrase g r ≡ IsUnknown left → i.on j (record r { pending = left })
  -- the object loop
  pub opened : (j : i.At) (f : Frame) (c : Condact) (r : Run) → StandsAt g f c → c.code ≡ DOALL → i.on j r →
      i.loop (loop_of (i.level j) f (named_place r.world c.a))
  pub own : (j : i.At) (t : ℕ) (r : Run) (l : OpenLoop) → i.table j t → i.on j r → r.turning ≡ Some l → l.level ≡ i.level j →
      i.table j l.table × i.loop (record l { last = 0 })
  pub taken : (j : i.At) (l : OpenLoop) (o : ℕ) (r : Run) → l.level ≡ i.level j → i.table j l.table → i.loop l → o < length g.game.objects → i.on j r →
      i.on j (object_taken g.game l o r)
  pub no_loop : (j : i.At) (r : Run) → i.on j r → i.on j (without_loop r)
  -- prompts
  pub asked : (f : Frame) (c : Condact) (p : Prompt) → StandsAt g f c → AsksAt c.code p → i.asks f p
  pub closes : (j : i.At) (r : Run) → i.on j r → i.closed j (piece_closed r) r.events
  pub waits : (j : i.At) (p : Prompt) (f : Frame) (r : Run) → i.asks f p → i.table j f.table → i.closed j r [] → i.wait j p (f ∷ []) (record r { events = [] })
  pub ignored : (j : i.At) (r : Run) (line : Line) (lines : Lines) → i.closed j r (line ∷ lines) → i.closed j (piece_closed (record r { events = lines })) lines
  pub heard : (j : i.At) (r : Run) (line : Line) (lines : Lines) → i.closed j r (line ∷ lines) → i.acted j (with_line_heard line (record r { events = lines }))
  -- calls
  pub calls : (f : Frame) (c : Condact) → StandsAt g f c → c.code ≡ PROCESS → i.call f c.a
  pub opens : (j : i.At) (u : ℕ) → i.level j < LEVEL_LIMIT → i.table (i.called j u) u
  pub down : (j : i.At) (u : ℕ) (r : Run) → i.on j r → i.on (i.called j u) r
  pub up : (j : i.At) (u : ℕ) (r : Run) → i.on (i.called j u) r → at_level (suc (i.level j)) r.turning ≡ None → i.on j r
  pub above : (j : i.At) (u : ℕ) (p : Prompt) (f : Frame) (path : List Frame) (r : Run) → i.table j f.table → i.call f u → i.wait (i.called j u) p path r →
      i.wait j p (f ∷ path) r
  -- stops
  pub exhausted : (j : i.At) (r : Run) → i.on j r → i.stop (Halts (halt.Spent spent.Condacts)) r
  pub too_long : (j : i.At) (r : Run) → i.on j r → i.stop (Halts (halt.Spent spent.Text)) r
  pub unfit : (j : i.At) (f : Frame) (c : Condact) (r : Run) → i.on j r → length r.read < READ_LIMIT →
      i.stop (Halts (halt.Spent spent.Text)) (step_noted f c true r)
  pub too_deep : (j : i.At) (u : ℕ) (r : Run) → i.on j r → i.stop (Halts (halt.TooDeep u)) r
  pub redescribed : (j : i.At) (r : Run) → i.acted j r → i.stop Redescribes (without_loop r)
  pub restarted : (j : i.At) (r : Run) → i.acted j r → i.stop Restarts (anew r)
  pub ended : (j : i.At) (r : Run) → i.on j r → i.stop (Halts halt.Over) (piece_closed (without_loop (line_dropped r)))

-- ---- from each step to a whole table ----

module _ (g : Story) (i : Claim) (k : Carries g i) where
  again : (j : i.At) (next : OpenLoop → Run → Out) → ((l : OpenLoop) (r : Run) → at_level (i.level j) r.turning ≡ Some l → i.on j r → Outside i j (next l r)) →
      (x : Out) → Inside i j x → Outside i j (next_object_or (i.level j) next x)
  again j next h (Left a r) on =
      open_or_not (Outside i j) (λ l. next l r) (Left a r) (at_level (i.level j) r.turning) (λ l e. h l r e on) (λ none. (on, none))
  again j next h (Waits p path r) on = on
  again j next h (Stopped stop r) on = on

  after : (Leaves : Run → Type 0) (j : i.At) (u : ℕ) (f : Frame) (go : Bool → Run → Out) → i.table j f.table → i.call f u →
      ((a : Bool) (r : Run) → i.on j r → Ends i j Leaves (go a r)) → (x : Out) → Outside i (i.called j u) x → Ends i j Leaves (after_call f go x)
  after Leaves j u f go own call h (Left b r) on =
      h (f.acted || b) r (k.up j u r on.0 (subst (λ n. at_level n r.turning ≡ None) (k.deeper j u) on.1))
  after Leaves j u f go own call h (Waits p path r) on = k.above j u p f path r own call on
  after Leaves j u f go own call h (Stopped stop r) on = on

  -- What an effect at a frame leads to.
  abbrev LeadsSo : i.At → Frame → Effect → Type 0
  LeadsSo j f (effect.Call u) = i.call f u
  LeadsSo j f (effect.Loop p) = i.loop (loop_of (i.level j) f p)
  LeadsSo j f (effect.Ask p) = i.asks f p
  LeadsSo j f _ = Unit {0}

  leads_so : (j : i.At) (f : Frame) (c : Condact) (r : Run) → StandsAt g f c → i.on j r → (e : Effect) → Leads r.world c e → LeadsSo j f e
  leads_so j f c r stands on effect.Go leads = tt
  leads_so j f c r stands on (effect.Exit a) leads = tt
  leads_so j f c r stands on effect.Redescribe leads = tt
  leads_so j f c r stands on (effect.Call u) leads = subst (i.call f) (sym leads.1) (k.calls f c stands leads.0)
  leads_so j f c r stands on (effect.Loop p) leads =
      subst (λ q. i.loop (loop_of (i.level j) f q)) (sym leads.1) (k.opened j f c r stands leads.0 on)
  leads_so j f c r stands on (effect.Ask p) leads = k.asked f c p stands leads
  leads_so j f c r stands on effect.Parse leads = tt
  leads_so j f c r stands on effect.Spent leads = tt

  -- From a run of which it holds, so does how reading on ends.
  abbrev relation : i.At → Relation
  relation j = record {
    on = λ p r x y. i.table j (table_of p) → i.on j r → Inside i j y;
    acted = λ f c w e r x y. i.table j f.table → LeadsSo j f e → i.acted j r → Inside i j y;
    asked = λ f p r lines x y. i.table j f.table → i.asks f p → i.closed j r lines → Inside i j y;
    loop = λ l n r x y. i.table j l.table → i.loop (afresh l) → i.on j r → Outside i j y;
    call = λ u r x y. i.on j r → Outside i (i.called j u) y;
    whole = λ t r x y. i.table j t → i.on j r → Outside i j y;
  }

  heard : (j : i.At) (r : Run) (line : Line) (lines : Lines) → i.closed j r (line ∷ lines) → i.on j (hearing line lines r)
  heard j r line lines on = k.reads_on j (hearing line lines r) (k.heard j r line lines on)

  own_round : (j : i.At) (t : ℕ) → i.table j t → (next : OpenLoop → Run → Out) →
      ((l : OpenLoop) (s : Run) → l.level ≡ i.level j → i.table j l.table → i.loop (afresh l) → i.on j s → Outside i j (next l s)) → (x : Out) →
      Inside i j x → Outside i j (next_object_or (i.level j) next x)
  own_round j t own next more x on =
      again j next (λ l s e q.
      let found = at_level_is (i.level j) s.turning l e in
      let may = k.own j t s l own q found.1 found.0 in more l s found.0 may.0 may.1 q) x on

  steps : (sub over_sub : Called) (j : i.At) → Steps g itself sub over_sub (i.level j) (relation j)
  steps sub over_sub j = record {
    left = λ t e a r none own on. on;
    passed = λ t e en r x y is not_so h. h;
    matched = λ t e en r x y is now h. h;
    ended = λ t e n r x y none h. h;
    exhausted = λ f c r stands many own on. k.exhausted j r on;
    holds_so = λ f c r x y stands few is h own on. h own (k.tested j f c true r stands on few);
    fails = λ f c r x y stands few is h own on. h own (k.tested j f c false r stands on few);
    asks = λ f c r x y stands few is e fit h own on.
        let s : Run = tested g f c true r in
        h own (k.asked f c prompt.Quit stands (condition_asks g.game r.world c e)) (k.closes j (text_printed (quit_question g s) s)
        (k.printed j s (quit_question g s) (k.tested j f c true r stands on few) (Puts s.world QUIT_MESSAGE) fit));
    question_long = λ f c r stands few is e long own on. k.too_long j (tested g f c true r) (k.tested j f c true r stands on few);
    acts = λ f c r x y stands few is fit h own on.
        h own (leads_so j f c r stands on (effect_of g r.world c).act.effect (effect_leads g r.world c)) (k.acts j f c r stands on few fit);
    text_long = λ f c r stands few is long own on. k.unfit j f c r on few;
    goes = λ f c w r x y h own leads on. h own (k.reads_on j r on);
    exits = λ f c w a r own leads on. k.reads_on j r on;
    redescribes = λ f c w r own leads on. k.redescribed j r on;
    calls = λ f c w u r x y h go own leads on.
        after (i.on j) j u f (from g over_sub (i.level j) (past_condact f)) own leads (λ a s. go a s own) y (h (k.reads_on j r on));
    loops = λ f c w p r x y h own leads on. inside i j y (h own leads (k.reads_on j r on));
    prompts = λ f c w p r x y h own leads on. h own leads (k.closes j r (k.reads_on j r on));
    sentence = λ f c w r s left x y e h own leads on. h own (k.sentence j r s left (k.reads_on j r on) e);
    unknown = λ f c w r left x y e h own leads on. h own (k.unknown j r left (k.reads_on j r on) e);
    no_phrase = λ f c w r x y h own leads on. h own (k.reads_on j r on);
    too_long = λ f c w r own leads on. k.too_long j r (k.reads_on j r on);
    waits = λ f p r own asks on. k.waits j p f r asks own on;
    ignored = λ f p r line lines x y h own asks on. h own asks (k.ignored j r line lines on);
    answered = λ f p r line lines x y h own asks on. h own (heard j r line lines on);
    quits = λ f r line lines own asks on. heard j r line lines on;
    restarts = λ f r line lines own asks on. k.restarted j (hearing line lines r) (k.heard j r line lines on);
    is_over = λ f r line lines fit own asks on.
        let s : Run = hearing line lines r in
        k.ended j (text_printed (goodbye g s) s) (k.printed j s (goodbye g s) (heard j r line lines on) (Says s.world GOODBYE_MESSAGE) fit);
    goodbye_long = λ f r line lines long own asks on. k.too_long j (hearing line lines r) (heard j r line lines on);
    loop_ends = λ l r own may on. (k.no_loop j r on, refl);
    loop_passes = λ l n r x y few h. h;
    loop_takes = λ l n r x y is few h more own may on.
        again j _ (λ m s e q. more s own may q) y
        (h own (k.taken j (afresh l) (length g.game.objects - suc n) r is own may (omega (arith, few)) on));
    goes_round = λ p r x y h more own on. own_round j (table_of p) own (rest_of_loop g over_sub (i.level j)) more y (h own on);
  }

  -- As many levels are left both ways, and no more than there are.
  abbrev Enough : ℕ → ℕ → ℕ → Type 0
  Enough n o lv = (n ≡ o) × (n ≤ LEVEL_LIMIT - lv)

  at_levels : Levels g itself i.At i.level Enough relation
  at_levels = record {
    below = i.called;
    one_more = k.deeper;
    fewer = λ n o lv enough. (omega (arith, enough.0), omega (arith, enough.1));
    steps = λ j n o enough. steps (table_called g n (i.level j)) (table_called g o (i.level j)) j;
    too_deep = λ j u r on. k.too_deep j u r on;
    deep_once = λ j n u r x y odd. elim odd [ inl e ↦ absurd (omega (arith, e.0)) | inr e ↦ absurd (omega (arith, e.0)) ];
    called = λ j n o u r x y enough h on. h (k.opens j u (omega (arith, enough.1))) (k.down j u r on);
  }

  enough : (lv : ℕ) → Enough (LEVEL_LIMIT - lv) (LEVEL_LIMIT - lv) lv
  enough lv = (refl, omega arith)

  paths : Paths g itself i.At i.level Enough relation at_levels (λ j p path r x y. Along i p r j path → Outside i j y)
  unfolding at_levels
  paths = record {
    enough = enough;
    at_prompt = λ j p f r x y h more on.
        own_round j f.table on.1.0 (rest_of_loop g (deeper g (i.level j)) (i.level j)) more y (h on.1.0 on.0 on.1.1);
    above = λ j p f h path r x y on go along.
        after (LeftSo i j) j h.table f (rest_of_table g (i.level j) f.table f.entry (suc f.at)) along.0 along.1.0 (λ a s. go a s along.0) y (on along.1.1);
  }

  -- So it holds wherever a table that is called ends, the rest of a table, and going on along a path.
  pub deeper_carries : (j : i.At) (u : ℕ) (r : Run) → i.on j r → Outside i (i.called j u) (deeper g (i.level j) u r)
  deeper_carries j u r on =
      levels g itself i.At i.level Enough relation at_levels (LEVEL_LIMIT - i.level j) (LEVEL_LIMIT - i.level j) j (enough (i.level j)) u r on

  from_point : (j : i.At) (p : Point) → i.table j (table_of p) → (a : Bool) (r : Run) → i.on j r →
      Outside i j (next_object_or (i.level j) (rest_of_loop g (deeper g (i.level j)) (i.level j)) (from g (deeper g (i.level j)) (i.level j) p a r))
  from_point j p own a r on =
      rest g itself i.At i.level Enough relation at_levels (LEVEL_LIMIT - i.level j) (LEVEL_LIMIT - i.level j) j (enough (i.level j)) p a r own on

  pub rest_carries : (j : i.At) (t e n : ℕ) → i.table j t → (a : Bool) (r : Run) → i.on j r → Outside i j (rest_of_table g (i.level j) t e n a r)
  rest_carries j t e zero own = from_point j (BeforeEntry t e) own
  rest_carries j t e (suc n) own = from_point j (AtCondact t e (suc n)) own

  pub path_carries : (p : Prompt) (j : i.At) (f : Frame) (path : List Frame) (r : Run) → Along i p r j (f ∷ path) →
      Outside i j (on_path g p (i.level j) (f ∷ path) r)
  path_carries p j f path r here =
      along g itself i.At i.level Enough relation at_levels (λ j p path r x y. Along i p r j path → Outside i j y) paths p j f path r here
