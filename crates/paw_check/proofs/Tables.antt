-- What the reading of one table takes, where what its calls take is known.
use Rattle.std.proofs.Common.{◌≡◌, ℕ, zero, suc, ◌+◌, ◌-◌, ◌≤◌, ◌<◌, Bool, true, false, ◌||◌, List, [], ◌∷◌, Option}
use Rattle.std.proofs.Common.{Some, None, inl, inr}
use Rattle.std.proofs.Common.{refl, sym, ◌∙◌, subst, length, drop, arith, IsTrue}
use Rattle.std.specs.Prelude.{if◌then◌else◌, IfSome, All, sum_by, cond, filter}
use Rattle.std.specs.List.{flat_map, AllByRecursion}
use Rattle.std.proofs.lemmas.Bool.{and_parts}
use Rattle.std.proofs.lemmas.List.Elements.{All-tail}
use Rattle.std.proofs.lemmas.List.Sums.{sum_by-cons, sum_by-append}
use Rattle.std.proofs.lemmas.Option.{none-some}
use Rattle.paw_base.specs.Bytes.{Line, Lines, Texts, Text}
use Rattle.paw_base.specs.declared.limits.TheConstants.{READ_LIMIT, PIECE_LIMIT}
use Rattle.paw_base.specs.declared.codes.TheConstants.{PROCESS, DOALL, PARSE}
use Rattle.paw_base.specs.declared.parts.Condact.{Condact}
use Rattle.paw_base.specs.Condacts.{plain_code}
use Rattle.paw_base.specs.declared.fault.SpentKind.{SpentKind}
use Rattle.paw_base.specs.declared.flags.TheConstants.{VERB_FLAG}
use Rattle.paw_base.specs.declared.flags.TheConstants.{NOUN_FLAG}
use Rattle.paw_base.specs.declared.messages.TheConstants.{GOODBYE_MESSAGE}
use Rattle.paw_game.specs.declared.parts.Entry.{Entry}
use Rattle.paw_game.specs.Game.{GameLists}
use Rattle.paw_game.specs.Tables.{table_at, entry_at, condacts_of, condact_at, is_for}
use Rattle.paw_game.specs.Valid.{is_condact}
use Rattle.paw_world.specs.World.{World, flag}
use Rattle.paw_phrase.specs.Sentence.{IsSentence, IsUnknown}
use Rattle.paw_effects.specs.Story.{Story}
use Rattle.paw_effects.specs.declared.act.Effect.TheVariants as effect
use Rattle.paw_effects.specs.Texts.{say_text}
use Rattle.paw_effects.specs.Holds.{holds}
use Rattle.paw_effects.specs.Effects.{Done, effect_of}
use Rattle.paw_effects.specs.inner.Standing.{IsWorldOf}
use Rattle.paw_effects.proofs.Asking.{Leads}
use Rattle.paw_effects.proofs.EachRow.{effect_leads}
use Rattle.paw_effects.proofs.Worlds.{few_objects}
use Rattle.paw_reading.specs.Bounds.{IsLine, ValidStory}
use Rattle.paw_reading.specs.declared.frames.Frame.{Frame}
use Rattle.paw_reading.specs.declared.frames.OpenLoop.{OpenLoop}
use Rattle.paw_reading.specs.Run.{Run, StepRow, piece_closed, text_printed, with_world, without_loop, with_timeout, is_timeout}
use Rattle.paw_reading.specs.Run.{with_line_heard, taken_phrase}
use Rattle.paw_reading.specs.declared.halt.Halt.TheVariants as halt
use Rattle.paw_reading.specs.Reading.{Redescribes, Restarts, Halts, Stop, Out, Left, Waits, Stopped}
use Rattle.paw_reading.specs.Reading.{step_noted, after_call, at_level, next_object_or, object_taken}
use Rattle.paw_reading.specs.Reading.{is_for_now}
use Rattle.paw_reading.specs.Reading.{from_condact, rest_of_loop, read_at_level}
use Rattle.paw_reading.specs.inner.Parts.{goodbye, quit_question}
use Rattle.paw_reading.proofs.Cases.{open_or_not}
use Rattle.paw_reading.proofs.Lists.{drop_some}
use Rattle.paw_reading.proofs.Spends.{shorter}
use Rattle.paw_reading.proofs.EachStep.{Relation, Steps, Point, BeforeEntry, AtCondact, StandsAt, table_of, of_frame, past_condact, past_entry, body_of}
use Rattle.paw_reading.proofs.EachStep.{itself, tested, hearing, from_each}
use Rattle.paw_reading.proofs.LeavesLoop.{LeavesLoop, CallsLeavingLoop, IsOrNone, plain_leaves_loop}
use Rattle.paw_check.specs.Verbs.{may_write_verb}
use Rattle.paw_check.proofs.PrintsWithin.{actions_print_within, questions_print_within}
use Rattle.paw_check.proofs.VerbLeft.{conditions_leave_verb, actions_leave_verb}
use Rattle.paw_check.proofs.TurnWorlds.{timeout_of, phrase_of, taken_of}
use Rattle.paw_check.proofs.TableWorlds.{anew_of, acted_of, tested_of, timeout_verb, taken_verb}
use Rattle.paw_check.proofs.ActionFacts.{MayLead}
use Rattle.paw_check.proofs.Leading.{effect_goes}
use Rattle.paw_check.proofs.Uses.{of_kind, used, own_of, Closed, Another, nothing, noted_use, printed_use, first_use}
use Rattle.paw_check.proofs.Uses.{closed_more, unread, unfit}
use Rattle.paw_check.proofs.Reaching.{each_at}

-- ---- what stands while a table is read ----

-- At level lv: the world is one of the game, so much of the line is left at most, the verb is this one unless it may
-- change, no loop of a deeper level is open, the lines to come are lines, and each closed piece is within the limit.
pub record Steady (g : GameLists) (kind : SpentKind) (limit pending : ℕ) (changing : Bool) (verb lv : ℕ) (w : World) (earlier : ℕ) (line : Line)
    (turning : Option OpenLoop) (events : Lines) (traces : List (List StepRow)) (pieces : Texts) : Type 0 where
  pub world : IsWorldOf g w
  pub small : earlier < 256
  pub short : length line ≤ pending
  pub speaks : changing ≡ false → flag w VERB_FLAG ≡ verb
  pub loop : IfSome turning (λ l. l.level ≤ lv)
  pub lines : All IsLine events
  pub closed : Closed kind limit traces pieces

-- What is used at most, by whether the loop of the level is open.
abbrev pub allowed : Option OpenLoop → ℕ → ℕ → ℕ
allowed None open_most most = most
allowed (Some l) open_most most = open_most

allowed_up : (o : Option OpenLoop) (a b c d : ℕ) → a ≤ c → b ≤ d → allowed o a b ≤ allowed o c d
allowed_up None a b c d h k = k
allowed_up (Some l) a b c d h k = h

allowed_above : (o : Option OpenLoop) (n a b : ℕ) → n ≤ a → n ≤ b → n ≤ allowed o a b
allowed_above None n a b h k = k
allowed_above (Some l) n a b h k = h

-- The most that a loop takes over this number of objects: a pass for each, and what follows the last.
abbrev pub in_all_passes : ℕ → ℕ → ℕ → ℕ
in_all_passes once more zero = more
in_all_passes once more (suc n) = once + in_all_passes once more n

more_in_all_passes : (once more n : ℕ) → more ≤ in_all_passes once more n
more_in_all_passes once more zero = omega arith
more_in_all_passes once more (suc n) = omega (arith, more_in_all_passes once more n)

all_left : {A : Type 0} (xs : List A) → drop 0 xs ≡ xs
all_left [] = refl
all_left (x ∷ xs) = refl

shallow : (b : Bool) (o : Option OpenLoop) (lv : ℕ) → IfSome o (λ l. l.level ≤ lv) → IfSome (if b then None else o) (λ l. l.level ≤ lv)
shallow true o lv k = tt
shallow false o lv k = k

shorter_if : (b : Bool) (line : Line) (n : ℕ) → length line ≤ n → length (if b then [] else line) ≤ n
shorter_if true line n k = omega arith
shorter_if false line n k = k

module _ (g : Story) (valid : ValidStory g) (kind : SpentKind) (limit pending : ℕ) (changing : Bool) (verb : ℕ)
    (low : limit ≤ of_kind kind READ_LIMIT PIECE_LIMIT)
    (bye : (w : World) → IsWorldOf g.game w
    → of_kind kind 0 (length (say_text g.game w GOODBYE_MESSAGE)) ≤ limit) where
  abbrev pub Is : ℕ → Run → Type 0
  Is lv r = Steady g.game kind limit pending changing verb lv r.world r.earlier r.pending r.turning r.events r.traces r.pieces

  -- The same, whatever the verb.
  abbrev pub IsLoose : ℕ → Run → Type 0
  IsLoose lv r = Steady g.game kind limit pending true verb lv r.world r.earlier r.pending r.turning r.events r.traces r.pieces

  -- Nothing is left of the line, and nothing of the open piece is used.
  abbrev pub IsFresh : Run → Type 0
  IsFresh r =
      Steady g.game kind limit 0 true verb 0 r.world r.earlier r.pending r.turning r.events r.traces r.pieces
      × ((r.turning ≡ None) × (used kind r ≤ 0))

  -- How reading ends, with at most this much used where the location is described again; what holds where the table is
  -- left is stated apart.
  abbrev pub Ends : (Run → Type 0) → ℕ → Out → Type 0
  Ends Leaving most (Left a r) = Leaving r
  Ends Leaving most (Waits p path r) = Closed kind limit r.traces r.pieces
  Ends Leaving most (Stopped Redescribes r) = IsLoose 0 r × ((r.turning ≡ None) × (used kind r ≤ most))
  Ends Leaving most (Stopped Restarts r) = IsFresh r
  Ends Leaving most (Stopped (Halts halt.Over) r) = Closed kind limit r.traces r.pieces
  Ends Leaving most (Stopped (Halts (halt.Spent how)) r) = Another kind how
  Ends Leaving most (Stopped (Halts (halt.TooDeep t)) r) = ⊥

  -- The table is left, where its loop may be open.
  abbrev pub Inside : (lv open_most most : ℕ) → Run → Type 0
  Inside lv open_most most r = Is lv r × (used kind r ≤ allowed (at_level lv r.turning) open_most most)

  -- The table is left, and its loop is closed.
  abbrev pub Outside : (lv most : ℕ) → Run → Type 0
  Outside lv most r = Is lv r × ((at_level lv r.turning ≡ None) × (used kind r ≤ most))

  -- The table is left, whatever is open.
  abbrev pub Anyhow : (lv most : ℕ) → Run → Type 0
  Anyhow lv most r = Is lv r × (used kind r ≤ most)

  stops_up : (P Q : Run → Type 0) (n m : ℕ) → n ≤ m → (stop : Stop) (r : Run) → Ends P n (Stopped stop r) → Ends Q m (Stopped stop r)
  stops_up P Q n m h Redescribes r k = (k.0, (k.1.0, omega (arith, h, k.1.1)))
  stops_up P Q n m h Restarts r k = k
  stops_up P Q n m h (Halts halt.Over) r k = k
  stops_up P Q n m h (Halts (halt.Spent how)) r k = k
  stops_up P Q n m h (Halts (halt.TooDeep t)) r k = k

  pub ends_up : (P Q : Run → Type 0) (n m : ℕ) → n ≤ m → ((r : Run) → P r → Q r) → (x : Out) → Ends P n x → Ends Q m x
  ends_up P Q n m h f (Left a r) k = f r k
  ends_up P Q n m h f (Waits p path r) k = k
  ends_up P Q n m h f (Stopped stop r) k = stops_up P Q n m h stop r k

  -- More may be used.
  inside_up : (lv a b c d : ℕ) → a ≤ c → b ≤ d → (x : Out) → Ends (Inside lv a b) b x → Ends (Inside lv c d) d x
  inside_up lv a b c d h k x =
      ends_up (Inside lv a b) (Inside lv c d) b d k
      (λ r i. (i.0, omega (arith, i.1, allowed_up (at_level lv r.turning) a b c d h k))) x

  outside_up : (lv b d : ℕ) → b ≤ d → (x : Out) → Ends (Outside lv b) b x → Ends (Outside lv d) d x
  outside_up lv b d k x = ends_up (Outside lv b) (Outside lv d) b d k (λ r i. (i.0, (i.1.0, omega (arith, i.1.1, k)))) x

  -- A table whose loop is closed may have its loop open.
  outside_inside : (lv a b d : ℕ) → b ≤ d → (x : Out) → Ends (Outside lv b) b x → Ends (Inside lv a d) d x
  outside_inside lv a b d k x =
      ends_up (Outside lv b) (Inside lv a d) b d k
      (λ r i. let most : used kind r ≤ allowed None a d = omega (arith, i.1.1, k) in (i.0, rw i.1.0 most)) x

  -- ---- changes of a run ----

  -- Another world of the game, with the same verb.
  in_world : (lv : ℕ) (r : Run) → Is lv r → (w : World) → IsWorldOf g.game w
      → (changing ≡ false → flag w VERB_FLAG ≡ flag r.world VERB_FLAG) → Is lv (with_world w r)
  in_world lv r k w world same = record {
    world = world;
    small = k.small;
    short = k.short;
    speaks = λ e. same e ∙ k.speaks e;
    loop = k.loop;
    lines = k.lines;
    closed = k.closed;
  }

  with_events : (lv : ℕ) (r : Run) → Is lv r → (events : Lines) → All IsLine events → Is lv (record r { events = events })
  with_events lv r k events lines = record {
    world = k.world;
    small = k.small;
    short = k.short;
    speaks = k.speaks;
    loop = k.loop;
    lines = lines;
    closed = k.closed;
  }

  closed_is : (lv : ℕ) (r : Run) → Is lv r → used kind r ≤ limit → Is lv (piece_closed r)
  closed_is lv r k h = record {
    world = k.world;
    small = k.small;
    short = k.short;
    speaks = k.speaks;
    loop = k.loop;
    lines = k.lines;
    closed = closed_more kind limit r h k.closed;
  }

  no_loop : (lv : ℕ) (r : Run) → Is lv r → Is lv (without_loop r)
  no_loop lv r k = record {
    world = k.world;
    small = k.small;
    short = k.short;
    speaks = k.speaks;
    loop = tt;
    lines = k.lines;
    closed = k.closed;
  }

  taken_is : (lv : ℕ) (l : OpenLoop) (o : ℕ) (r : Run) → l.level ≡ lv → o < 256 → Is lv r → Is lv (object_taken g.game l o r)
  taken_is lv l o r own few k = record {
    world = taken_of g.game valid.game l o r few k.world;
    small = k.small;
    short = k.short;
    speaks = λ e. taken_verb g.game l o r ∙ k.speaks e;
    loop = omega (arith, own);
    lines = k.lines;
    closed = k.closed;
  }

  heard_is : (lv : ℕ) (line : Line) (r : Run) → Is lv r → Is lv (with_line_heard line r)
  heard_is lv line r k =
      in_world lv r k (with_timeout (is_timeout line) r.world) (timeout_of g.game valid.game (is_timeout line) r.world k.world)
      (λ e. timeout_verb (is_timeout line) r.world)

  loose : (lv : ℕ) (r : Run) → IsLoose lv r → (changing ≡ false → flag r.world VERB_FLAG ≡ verb) → Is lv r
  loose lv r k speaks = record {
    world = k.world;
    small = k.small;
    short = k.short;
    speaks = speaks;
    loop = k.loop;
    lines = k.lines;
    closed = k.closed;
  }

  module _ (lv : ℕ) where
    -- What reading on takes at most: reads alone, and with it loops, each pass of one.
    abbrev pub Within : (once more : ℕ) → Run → Out → Type 0
    Within once more r x =
        (m : ℕ) → Is lv r → used kind r ≤ m → m + (once + more) ≤ limit → Ends (Inside lv (m + once) (m + (once + more))) (m + (once + more)) x

    abbrev pub Goes : (once more : ℕ) → (Bool → Run → Out) → Type 0
    Goes once more go = (a : Bool) (r : Run) → Within once more r (go a r)

    within_up : (a b c d : ℕ) → a ≤ c → b ≤ d → (r : Run) (x : Out) → Within a b r x → Within c d r x
    within_up a b c d h k r x go m is u fits =
        inside_up lv (m + a) (m + (a + b)) (m + c) (m + (c + d)) (omega (arith, h)) (omega (arith, h, k)) x (go m is u (omega (arith, h, k, fits)))

    -- ---- loops and calls ----

    -- A table that is left with its loop open goes on with the loop.
    again_ends : (next : OpenLoop → Run → Out) (a b d : ℕ) → b ≤ d →
        ((l : OpenLoop) (r : Run) → Is lv r → used kind r ≤ a → Ends (Outside lv d) d (next l r)) → (x : Out) → Ends (Inside lv a b) b x →
        Ends (Outside lv d) d (next_object_or lv next x)
    again_ends next a b d h goes (Left acted r) k =
        open_or_not (Ends (Outside lv d) d) (λ l. next l r) (Left acted r) (at_level lv r.turning)
        (λ l e. let most : used kind r ≤ allowed (Some l) a b = rw e at k.1 in goes l r k.0 most)
        (λ e. let most : used kind r ≤ allowed None a b = rw e at k.1 in (k.0, (e, omega (arith, most, h))))
    again_ends next a b d h goes (Waits p path r) k = k
    again_ends next a b d h goes (Stopped stop r) k = stops_up (Inside lv a b) (Outside lv d) b d h stop r k

    after_call_ends : (once more : ℕ) (f : Frame) (go : Bool → Run → Out) → Goes once more go → (m : ℕ) → m + (once + more) ≤ limit → (x : Out) →
        Ends (Anyhow lv m) m x → Ends (Inside lv (m + once) (m + (once + more))) (m + (once + more)) (after_call f go x)
    after_call_ends once more f go goes m fits (Left b r) k = goes (f.acted || b) r m k.0 k.1 fits
    after_call_ends once more f go goes m fits (Waits p path r) k = k
    after_call_ends once more f go goes m fits (Stopped stop r) k =
        stops_up (Anyhow lv m) (Inside lv (m + once) (m + (once + more))) m (m + (once + more)) (omega arith) stop r k

    -- ---- one table ----

    -- What is known of each condact of the table, of what it takes of its own and with a call, what a DOALL takes for
    -- all its passes, where reading the condacts once takes so much at most, and how the tables are read that it calls.
    module _ (Has : Condact → Type 0) (is : (c : Condact) → Has c → IsTrue (is_condact g.game c))
        (quiet : (c : Condact) → Has c → changing ≡ false → may_write_verb c ≡ false)
        (takes extra : Condact → ℕ) (own_takes : (c : Condact) → own_of kind g.game c ≤ takes c)
        (all loop_cost : ℕ) (loops : (c : Condact) → c.code ≡ DOALL → extra c ≡ loop_cost)
        (wide : (once more : ℕ) → once ≤ all → in_all_passes once more (length g.game.objects) ≤ loop_cost + more)
        (sub : ℕ → Run → Out)
        (calls : (c : Condact) → Has c → c.code ≡ PROCESS → (m : ℕ) (r : Run) → Is lv r → used kind r ≤ m + own_of kind g.game c →
        m + takes c ≤ limit → Ends (Anyhow lv (m + takes c)) (m + takes c) (sub c.a r)) where
      -- Where the table takes phrases of the line, the verb may change.
      parses_change : (c : Condact) → Has c → plain_code c.code ≡ PARSE → changing ≡ true
      parses_change c has parse = go changing refl
        where
          go : (b : Bool) → changing ≡ b → b ≡ true
          go true e = refl
          go false e = let may : may_write_verb c ≡ true = rw parse refl in let not_so : may_write_verb c ≡ false = quiet c has e in absurd cc

      -- The entries that count, and their condacts.
      abbrev chosen : List Entry → List Entry
      chosen es = filter (λ e. changing || is_for e.verb verb) es

      abbrev their : List Entry → List Condact
      their es = flat_map (λ e. e.condacts) es

      -- One that is read counts.
      counts_now : (r : Run) → Is lv r → (e : Entry) → is_for_now r e ≡ true → (changing || is_for e.verb verb) ≡ true
      counts_now r k e now = go changing refl
        where
          go : (b : Bool) → changing ≡ b → (b || is_for e.verb verb) ≡ true
          go true q = refl
          go false q = subst (λ v. is_for e.verb v ≡ true) (k.speaks q)
              (and_parts (is_for e.verb (flag r.world VERB_FLAG)) (is_for e.noun (flag r.world NOUN_FLAG)) now).0

      counted : (h : Condact → ℕ) (b : Bool) (e : Entry) (es : List Entry) → b ≡ true →
          sum_by h (their (cond b (e ∷ es) es)) ≡ sum_by h e.condacts + sum_by h (their es)
      counted h true e es q = sum_by-append h e.condacts (their es)
      counted h false e es q = absurd cc

      no_less : (h : Condact → ℕ) (b : Bool) (e : Entry) (es : List Entry) → sum_by h (their es) ≤ sum_by h (their (cond b (e ∷ es) es))
      no_less h true e es = omega (arith, sum_by-append h e.condacts (their es))
      no_less h false e es = omega arith

      -- The condact at a frame counts before those after it; an entry that is read counts before those after it.
      here_is : (h : Condact → ℕ) (f : Frame) (c : Condact) → StandsAt g f c →
          sum_by h (drop f.at (condacts_of (entry_at g.game f.table f.entry))) ≡ h c + sum_by h (drop (suc f.at) (condacts_of (entry_at g.game f.table f.entry)))
      here_is h f c stands =
          rw (drop_some (condacts_of (entry_at g.game f.table f.entry)) f.at c stands)
          (sum_by-cons h c (drop (suc f.at) (condacts_of (entry_at g.game f.table f.entry))))

      later_less : (h : Condact → ℕ) (t e : ℕ) (en : Entry) → entry_at g.game t e ≡ Some en →
          sum_by h (their (chosen (drop (suc e) (table_at g.game t)))) ≤ sum_by h (their (chosen (drop e (table_at g.game t))))
      later_less h t e en is =
          rw (drop_some (table_at g.game t) e en is) (no_less h (changing || is_for en.verb verb) en (chosen (drop (suc e) (table_at g.game t))))

      now_is : (h : Condact → ℕ) (t e : ℕ) (en : Entry) (r : Run) → entry_at g.game t e ≡ Some en → Is lv r → is_for_now r en ≡ true →
          sum_by h (their (chosen (drop e (table_at g.game t))))
          ≡ sum_by h (drop 0 (condacts_of (entry_at g.game t e))) + sum_by h (their (chosen (drop (suc e) (table_at g.game t))))
      now_is h t e en r is k now =
          rw (drop_some (table_at g.game t) e en is, is, all_left en.condacts)
          (counted h (changing || is_for en.verb verb) en (chosen (drop (suc e) (table_at g.game t))) (counts_now r k en now))

      -- What is taken at most from a point on, by these condacts.
      abbrev from_there : (Condact → ℕ) → Point → ℕ
      from_there h (BeforeEntry t e) = sum_by h (their (chosen (drop e (table_at g.game t))))
      from_there h (AtCondact t e n) =
          sum_by h (drop n (condacts_of (entry_at g.game t e))) + sum_by h (their (chosen (drop (suc e) (table_at g.game t))))

      abbrev once : Point → ℕ
      once p = from_there takes p

      abbrev more : Point → ℕ
      more p = from_there extra p

      module _ (t : ℕ) (each : AllByRecursion (λ en. AllByRecursion Has en.condacts) (table_at g.game t)) where
        has_at : (f : Frame) (c : Condact) → f.table ≡ t → StandsAt g f c → Has c
        has_at f c own stands = each_at g.game t f.entry f.at c Has each (subst (λ u. condact_at g.game u f.entry f.at ≡ Some c) own stands)

        -- From a condact: at most so, with what the condact takes.
        abbrev Comes : Frame → Condact → ℕ → Out → Type 0
        Comes f c m x =
            let a : ℕ = once (past_condact f) in
            let b : ℕ = more (past_condact f) in
            Ends (Inside lv (m + (takes c + a)) (m + ((takes c + a) + (extra c + b)))) (m + ((takes c + a) + (extra c + b))) x

        abbrev Prompted : Frame → Out → Type 0
        Prompted f x =
            let a : ℕ = once (past_condact f) in
            let b : ℕ = more (past_condact f) in Ends (Inside lv a (a + b)) (a + b) x

        abbrev relation : Relation
        relation = record {
          on = λ p r x y. table_of p ≡ t → once p ≤ all → Within (once p) (more p) r y;
          acted = λ f c w e r x y. f.table ≡ t → once (past_condact f) ≤ all → Has c → Leads w c e → (e ≡ effect.Spent → ⊥) →
              (e ≡ effect.Parse → changing ≡ true) → (m : ℕ) → m + ((takes c + once (past_condact f)) + (extra c + more (past_condact f))) ≤ limit →
              IsLoose lv r → ((e ≡ effect.Redescribe → ⊥) → changing ≡ false → flag r.world VERB_FLAG ≡ verb) →
              used kind r ≤ m + own_of kind g.game c → Comes f c m y;
          asked = λ f p r lines x y. f.table ≡ t → once (past_condact f) ≤ all → once (past_condact f) + more (past_condact f) ≤ limit → Is lv r →
              used kind r ≤ 0 → All IsLine lines → Prompted f y;
          loop = λ l n r x y. l.table ≡ t → once (body_of l) ≤ all → (m : ℕ) → Is lv r → used kind r ≤ m →
              m + in_all_passes (once (body_of l)) (more (body_of l)) n ≤ limit →
              Ends (Outside lv (m + in_all_passes (once (body_of l)) (more (body_of l)) n)) (m + in_all_passes (once (body_of l)) (more (body_of l)) n) y;
          call = λ u r x y. (c : Condact) → Has c → c.code ≡ PROCESS → u ≡ c.a → (m : ℕ) → Is lv r → used kind r ≤ m + own_of kind g.game c →
              m + takes c ≤ limit → Ends (Anyhow lv (m + takes c)) (m + takes c) y;
          whole = λ u r x y. Unit {0};
        }

        called : (u : ℕ) (r : Run) → relation.call u r (sub u r) (sub u r)
        called u r c has is_call at m k uses fits =
            subst (λ i. Ends (Anyhow lv (m + takes c)) (m + takes c) (sub i r)) (sym at) (calls c has is_call m r k uses fits)

        -- Past what a condact takes of its own, and back to the point before it.
        behind : (f : Frame) (c : Condact) (m : ℕ) (x : Out) →
            Ends (Inside lv (m + takes c + once (past_condact f)) (m + takes c + (once (past_condact f) + more (past_condact f))))
            (m + takes c + (once (past_condact f) + more (past_condact f))) x → Comes f c m x
        behind f c m x k =
            let a : ℕ = once (past_condact f) in
            let b : ℕ = more (past_condact f) in
            inside_up lv (m + takes c + a) (m + takes c + (a + b)) (m + (takes c + a)) (m + ((takes c + a) + (extra c + b))) (omega arith) (omega arith) x k

        behind_prompt : (f : Frame) (c : Condact) (m : ℕ) (x : Out) → Prompted f x → Comes f c m x
        behind_prompt f c m x k =
            let a : ℕ = once (past_condact f) in
            let b : ℕ = more (past_condact f) in
            inside_up lv a (a + b) (m + (takes c + a)) (m + ((takes c + a) + (extra c + b))) (omega arith) (omega arith) x k

        before : (f : Frame) (c : Condact) (m : ℕ) (x : Out) → StandsAt g f c → Comes f c m x →
            Ends (Inside lv (m + once (of_frame f)) (m + (once (of_frame f) + more (of_frame f)))) (m + (once (of_frame f) + more (of_frame f))) x
        before f c m x stands k =
            let a : ℕ = once (past_condact f) in
            let b : ℕ = more (past_condact f) in
            let p = here_is takes f c stands in
            let q = here_is extra f c stands in
            inside_up lv (m + (takes c + a)) (m + ((takes c + a) + (extra c + b))) (m + once (of_frame f)) (m + (once (of_frame f) + more (of_frame f)))
            (omega (arith, p)) (omega (arith, p, q)) x k

        tested_is : (f : Frame) (c : Condact) (b : Bool) (r : Run) → Has c → Is lv r → Is lv (tested g f c b r)
        tested_is f c b r has k =
            in_world lv r k (holds g.game r.world c).world (tested_of g.game valid.game r.world k.world c)
            (λ e. conditions_leave_verb g r.world c valid k.world (is c has) (quiet c has e))

        within_limit : (f : Frame) (c : Condact) (m : ℕ) → StandsAt g f c → m + (once (of_frame f) + more (of_frame f)) ≤ limit → m + own_of kind g.game c ≤ limit
        within_limit f c m stands fits = omega (arith, here_is takes f c stands, own_takes c, fits)

        taken_next : (r : Run) (line : Line) (lines : Lines) → Is lv r → All IsLine (line ∷ lines) → Is lv (record r { events = lines })
        taken_next r line lines k are = with_events lv r k lines (All-tail IsLine line lines are)

        hears : (r : Run) (line : Line) (lines : Lines) → Is lv r → All IsLine (line ∷ lines) → Is lv (hearing line lines r)
        hears r line lines k are = heard_is lv line (record r { events = lines }) (taken_next r line lines k are)

        steps : Steps g itself sub sub lv relation
        steps = record {
          left = λ u e acted r none own short m k uses fits.
              let a : ℕ = once (BeforeEntry u e) in
              let b : ℕ = more (BeforeEntry u e) in
              (k, omega (arith, uses, allowed_above (at_level lv r.turning) m (m + a) (m + (a + b)) (omega arith) (omega arith)));
          passed = λ u e en r x y at not_so h own short.
              let p = later_less takes u e en at in
              let q = later_less extra u e en at in
              within_up (once (BeforeEntry u (suc e))) (more (BeforeEntry u (suc e))) (once (BeforeEntry u e)) (more (BeforeEntry u e)) p q r y
              (h own (omega (arith, p, short)));
          matched = λ u e en r x y at now h own short m k uses fits.
              let i = now_is takes u e en r at k now in
              let j = now_is extra u e en r at k now in
              let a : ℕ = once (AtCondact u e 0) in
              let b : ℕ = more (AtCondact u e 0) in
              inside_up lv (m + a) (m + (a + b)) (m + once (BeforeEntry u e)) (m + (once (BeforeEntry u e) + more (BeforeEntry u e))) (omega (arith, i))
              (omega (arith, i, j)) y (h own (omega (arith, i, short)) m k uses (omega (arith, i, j, fits)));
          ended = λ u e n r x y none h own short.
              within_up (once (BeforeEntry u (suc e))) (more (BeforeEntry u (suc e))) (once (AtCondact u e n)) (more (AtCondact u e n)) (omega arith)
              (omega arith) r y (h own (omega (arith, short)));
          exhausted = λ f c r stands many own short m k uses fits.
              unread kind g.game c r (omega (arith, uses, within_limit f c m stands fits, low)) many;
          holds_so = λ f c r x y stands few is_so h own short m k uses fits.
              let has : Has c = has_at f c own stands in
              let p = here_is takes f c stands in
              let q = here_is extra f c stands in
              before f c m y stands (behind f c m y (h own (omega (arith, p, short)) (m + takes c) (tested_is f c true r has k)
              (omega (arith, uses, noted_use kind g.game (with_world (holds g.game r.world c).world r) f c true, own_takes c)) (omega (arith, p, q, fits))));
          fails = λ f c r x y stands few is_so h own short m k uses fits.
              let has : Has c = has_at f c own stands in
              let p = here_is takes f c stands in
              let q = here_is extra f c stands in
              before f c m y stands (behind f c m y
              (within_up (once (past_entry f)) (more (past_entry f)) (once (past_condact f)) (more (past_condact f)) (omega arith) (omega arith)
              (tested g f c false r) y (h own (omega (arith, p, short))) (m + takes c) (tested_is f c false r has k)
              (omega (arith, uses, noted_use kind g.game (with_world (holds g.game r.world c).world r) f c false, own_takes c)) (omega (arith, p, q, fits))));
          asks = λ f c r x y stands few is_so e fit h own short m k uses fits.
              let has : Has c = has_at f c own stands in
              let p = here_is takes f c stands in
              let q = here_is extra f c stands in
              let s : Run = tested g f c true r in
              let shown : Run = text_printed (quit_question g s) s in
              let most : used kind shown ≤ m + own_of kind g.game c =
              omega (
                arith,
                uses,
                printed_use kind g.game (with_world (holds g.game r.world c).world r) f c true (quit_question g s)
                    (questions_print_within g r.world c valid k.world (is c has) e),
              ) in
              before f c m y stands (behind_prompt f c m y
              (h own (omega (arith, p, short)) (omega (arith, p, q, fits))
              (closed_is lv shown (tested_is f c true r has k) (omega (arith, most, within_limit f c m stands fits))) (nothing kind) k.lines));
          question_long = λ f c r stands few is_so e long own short m k uses fits.
              let has : Has c = has_at f c own stands in
              let s : Run = tested g f c true r in
              unfit kind s (quit_question g s)
              (omega (
                arith,
                uses,
                printed_use kind g.game (with_world (holds g.game r.world c).world r) f c true (quit_question g s)
                    (questions_print_within g r.world c valid k.world (is c has) e),
                within_limit f c m stands fits,
                low,
              )) long;
          acts = λ f c r x y stands few is_so fit h own short m k uses fits.
              let has : Has c = has_at f c own stands in
              let p = here_is takes f c stands in
              let q = here_is extra f c stands in
              let d : Done = effect_of g r.world c in
              before f c m y stands
              (h own (omega (arith, p, short)) has (effect_leads g r.world c) (λ e. subst (MayLead (plain_code c.code)) e (effect_goes g r.world c))
              (λ e. parses_change c has (subst (MayLead (plain_code c.code)) e (effect_goes g r.world c))) m (omega (arith, p, q, fits))
              (record {
                world = acted_of g.game valid.game g.answers valid.bytes r.world k.world c (is c has);
                small = k.small;
                short = shorter_if d.act.drop_line r.pending pending k.short;
                speaks = λ e. absurd cc;
                loop = shallow d.act.cancel_loop r.turning lv k.loop;
                lines = k.lines;
                closed = k.closed;
              })
              (λ other e. elim (actions_leave_verb g r.world c valid k.world (is c has) (quiet c has e)) [
                | inl same ↦ same ∙ k.speaks e
                | inr again ↦ absurd (other again)
              ])
              (omega (arith, uses, printed_use kind g.game r f c true d.text (actions_print_within g r.world c valid k.world (is c has)))));
          text_long = λ f c r stands few is_so long own short m k uses fits.
              let has : Has c = has_at f c own stands in
              let d : Done = effect_of g r.world c in
              unfit kind (step_noted f c true r) d.text
              (omega (
                arith,
                uses,
                printed_use kind g.game r f c true d.text (actions_print_within g r.world c valid k.world (is c has)),
                within_limit f c m stands fits,
                low,
              )) long;
          goes = λ f c w r x y h own short has leads kept parses m fits k speaks uses.
              behind f c m y (h own short (m + takes c) (loose lv r k (speaks (λ e. cc))) (omega (arith, uses, own_takes c)) (omega (arith, fits)));
          exits = λ f c w a r own short has leads kept parses m fits k speaks uses.
              let n : ℕ = once (past_condact f) in
              let most : used kind r ≤ m + takes c = omega (arith, uses, own_takes c) in (
                loose lv r k (speaks (λ e. cc)),
                omega (
                  arith,
                  most,
                  allowed_above (at_level lv r.turning) (m + takes c) (m + (takes c + n)) (m + ((takes c + n) + (extra c + more (past_condact f))))
                      (omega arith) (omega arith),
                ),
              );
          redescribes = λ f c w r own short has leads kept parses m fits k speaks uses. (
            record {
              world = k.world;
              small = k.small;
              short = k.short;
              speaks = λ e. absurd cc;
              loop = tt;
              lines = k.lines;
              closed = k.closed;
            },
            (refl, omega (arith, uses, own_takes c)),
          );
          calls = λ f c w u r x y h go own short has leads kept parses m fits k speaks uses.
              behind f c m _ (after_call_ends (once (past_condact f)) (more (past_condact f)) f (from_condact g sub lv f.table f.entry (suc f.at))
              (λ a s. go a s own short) (m + takes c) (omega (arith, fits)) y
              (h c has leads.0 leads.1 m (loose lv r k (speaks (λ e. cc))) uses (omega (arith, fits))));
          loops = λ f c w p r x y h own short has leads kept parses m fits k speaks uses.
              let a : ℕ = once (past_condact f) in
              let b : ℕ = more (past_condact f) in
              let n : ℕ = length g.game.objects in
              let room : in_all_passes a b n ≤ loop_cost + b = wide a b short in
              let takes_so : extra c ≡ loop_cost = loops c leads.0 in
              outside_inside lv (m + (takes c + a)) (m + takes c + in_all_passes a b n) (m + ((takes c + a) + (extra c + b))) (omega (arith, room, takes_so)) y
              (h own short (m + takes c) (loose lv r k (speaks (λ e. cc))) (omega (arith, uses, own_takes c)) (omega (arith, room, takes_so, fits)));
          prompts = λ f c w p r x y h own short has leads kept parses m fits k speaks uses.
              behind_prompt f c m y (h own short (omega (arith, fits)) (closed_is lv r (loose lv r k (speaks (λ e. cc))) (omega (arith, uses, own_takes c, fits)))
              (nothing kind) k.lines);
          sentence = λ f c w r s bytes x y e h own short has leads kept parses m fits k speaks uses.
              let said = phrase_of g.game valid.game g.answers r k.world k.small s bytes e in
              behind f c m y
              (within_up (once (past_entry f)) (more (past_entry f)) (once (past_condact f)) (more (past_condact f)) (omega arith) (omega arith)
              (taken_phrase s bytes r) y (h own (omega (arith, short))) (m + takes c)
              (record {
                world = said.0;
                small = said.1;
                short = omega (arith, k.short, shorter g r (IsSentence s bytes) e);
                speaks = λ not_so. let both : true ≡ false = sym (parses refl) ∙ not_so in absurd cc;
                loop = k.loop;
                lines = k.lines;
                closed = k.closed;
              }) (omega (arith, uses, own_takes c)) (omega (arith, fits)));
          unknown = λ f c w r bytes x y e h own short has leads kept parses m fits k speaks uses.
              behind f c m y (h own short (m + takes c)
              (record {
                world = k.world;
                small = k.small;
                short = omega (arith, k.short, shorter g r (IsUnknown bytes) e);
                speaks = speaks (λ e. cc);
                loop = k.loop;
                lines = k.lines;
                closed = k.closed;
              }) (omega (arith, uses, own_takes c)) (omega (arith, fits)));
          no_phrase = λ f c w r x y h own short has leads kept parses m fits k speaks uses.
              behind f c m y (h own short (m + takes c) (loose lv r k (speaks (λ e. cc))) (omega (arith, uses, own_takes c)) (omega (arith, fits)));
          too_long = λ f c w r own short has leads kept parses m fits k speaks uses. absurd (kept refl);
          waits = λ f p r own short fits k uses are. k.closed;
          ignored = λ f p r line lines x y h own short fits k uses are.
              h own short fits (closed_is lv (record r { events = lines }) (taken_next r line lines k are) (omega (arith, uses))) (nothing kind)
              (All-tail IsLine line lines are);
          answered = λ f p r line lines x y h own short fits k uses are.
              let a : ℕ = once (past_condact f) in
              let b : ℕ = more (past_condact f) in
              inside_up lv (0 + a) (0 + (a + b)) a (a + b) (omega arith) (omega arith) y
              (h own short 0 (hears r line lines k are) uses (omega (arith, fits)));
          quits = λ f r line lines own short fits k uses are. (hears r line lines k are, omega (arith, uses));
          restarts = λ f r line lines own short fits k uses are. (
            record {
              world = anew_of g.game valid.game (hearing line lines r).world (hears r line lines k are).world;
              small = omega arith;
              short = omega arith;
              speaks = λ e. absurd cc;
              loop = tt;
              lines = (hears r line lines k are).lines;
              closed = k.closed;
            },
            (refl, uses),
          );
          is_over = λ f r line lines fit own short fits k uses are.
              let s : Run = hearing line lines r in
              let text : Text = goodbye g s in
              closed_more kind limit (text_printed text s) (first_use kind limit s text uses (bye s.world (hears r line lines k are).world)) k.closed;
          goodbye_long = λ f r line lines long own short fits k uses are.
              let s : Run = hearing line lines r in
              unfit kind s (goodbye g s) (omega (arith, first_use kind limit s (goodbye g s) uses (bye s.world (hears r line lines k are).world), low)) long;
          loop_ends = λ l r own short m k uses fits. (no_loop lv r k, (refl, omega (arith, uses)));
          loop_passes = λ l n r x y few h own short m k uses fits.
              let a : ℕ = once (body_of l) in
              let b : ℕ = more (body_of l) in
              outside_up lv (m + in_all_passes a b n) (m + in_all_passes a b (suc n)) (omega arith) y (h own short m k uses (omega (arith, fits)));
          loop_takes = λ l n r x y at few h rest own short m k uses fits.
              let a : ℕ = once (body_of l) in
              let b : ℕ = more (body_of l) in
              let o : ℕ = length g.game.objects - suc n in
              let small : o < 256 = omega (arith, few_objects g.game valid.game) in
              let some : b ≤ in_all_passes a b n = more_in_all_passes a b n in
              let most : ℕ = m + in_all_passes a b (suc n) in
              again_ends _ (m + a) (m + (a + b)) most (omega (arith, some))
              (λ q j so v. outside_up lv (m + a + in_all_passes a b n) most (omega arith) _ (rest j own short (m + a) so v (omega (arith, fits)))) y
              (h own short m (taken_is lv l o r at small k) uses (omega (arith, fits, some)));
          goes_round = λ p r x y h rest. tt;
        }

      -- Once the table is left no loop of its level is open.
      module _ (leaves_loop : CallsLeavingLoop sub) where
        stays : (o q : Option OpenLoop) → at_level lv o ≡ None → IsOrNone o q → at_level lv q ≡ None
        stays o q none (inl e) = rw e none
        stays o q none (inr e) = rw e refl

        last_ends : (next : OpenLoop → Run → Out) (a b : ℕ) (o : Option OpenLoop) (x : Out) → at_level lv o ≡ None → LeavesLoop o x →
            Ends (Inside lv a b) b x → Ends (Outside lv b) b (next_object_or lv next x)
        last_ends next a b o (Left acted r) none keep k =
            let shut : at_level lv r.turning ≡ None = stays o r.turning none keep in
            let most : used kind r ≤ allowed None a b = rw shut at k.1 in
            open_or_not (Ends (Outside lv b) b) (λ l. next l r) (Left acted r) (at_level lv r.turning)
            (λ l e. absurd (none-some l (sym shut ∙ e))) (λ e. (k.0, (e, most)))
        last_ends next a b o (Waits p path r) none keep k = k
        last_ends next a b o (Stopped stop r) none keep k = stops_up (Inside lv a b) (Outside lv b) b b (omega arith) stop r k

        -- The table is read from its start.
        pub reads_end : (t : ℕ) → AllByRecursion (λ en. AllByRecursion Has en.condacts) (table_at g.game t) →
            sum_by takes (their (chosen (table_at g.game t))) ≤ all →
            (m : ℕ) (r : Run) → Is lv r → at_level lv r.turning ≡ None → used kind r ≤ m →
            m + (sum_by takes (their (chosen (table_at g.game t))) + sum_by extra (their (chosen (table_at g.game t)))) ≤ limit →
            Ends (Outside lv (m + (sum_by takes (their (chosen (table_at g.game t))) + sum_by extra (their (chosen (table_at g.game t))))))
            (m + (sum_by takes (their (chosen (table_at g.game t))) + sum_by extra (their (chosen (table_at g.game t)))))
            (read_at_level g sub lv t 0 0 false r)
        reads_end t has short m r k none u fits =
            let a : ℕ = sum_by takes (their (chosen (table_at g.game t))) in
            let b : ℕ = sum_by extra (their (chosen (table_at g.game t))) in
            let goes : (sum_by takes (their (chosen (drop 0 (table_at g.game t)))) ≤ all →
            Within (sum_by takes (their (chosen (drop 0 (table_at g.game t))))) (sum_by extra (their (chosen (drop 0 (table_at g.game t))))) r
            (from_condact g sub lv t 0 0 false r)) =
            from_each g itself sub sub lv (relation t has) (steps t has) (called t has) (BeforeEntry t 0) false r refl in
            last_ends (rest_of_loop g sub lv) (m + a) (m + (a + b)) r.turning (from_condact g sub lv t 0 0 false r) none
            (plain_leaves_loop g sub lv leaves_loop t 0 0 false r)
            ((subst (λ es. sum_by takes (their (chosen es)) ≤ all →
            Within (sum_by takes (their (chosen es))) (sum_by extra (their (chosen es))) r (from_condact g sub lv t 0 0 false r))
            (all_left (table_at g.game t)) goes) short m k u fits)
