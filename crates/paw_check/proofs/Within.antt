-- The reading of a table takes no more than its cost.
use Rattle.std.proofs.Common.{◌≡◌, ℕ, zero, suc, ◌+◌, ◌*◌, ◌≤◌, ◌<◌, Bool, true, false, List, Option, Some, None, refl}
use Rattle.std.proofs.Common.{sym}
use Rattle.std.proofs.Common.{subst, length, arith, IsTrue}
use Rattle.std.specs.Prelude.{IfSome, sum_by}
use Rattle.std.specs.List.{flat_map, list_any}
use Rattle.std.proofs.lemmas.Bool.Decides.{nat_tests}
use Rattle.paw_base.specs.declared.limits.TheConstants.{READ_LIMIT, PIECE_LIMIT, LEVEL_LIMIT}
use Rattle.paw_base.specs.declared.codes.TheConstants.{PROCESS, DOALL}
use Rattle.paw_base.specs.declared.parts.Condact.{Condact}
use Rattle.paw_base.specs.declared.fault.SpentKind.{SpentKind}
use Rattle.paw_base.specs.declared.fault.SpentKind.TheVariants as spent
use Rattle.paw_base.specs.declared.messages.TheConstants.{GOODBYE_MESSAGE}
use Rattle.paw_base.specs.declared.flags.TheConstants.{VERB_FLAG}
use Rattle.paw_game.specs.declared.parts.Entry.{Entry}
use Rattle.paw_game.specs.Tables.{table_at}
use Rattle.paw_game.specs.Valid.{is_condact}
use Rattle.paw_world.specs.World.{World, flag}
use Rattle.paw_effects.specs.Story.{Story}
use Rattle.paw_effects.specs.Texts.{say_text}
use Rattle.paw_effects.specs.inner.Standing.{IsWorldOf}
use Rattle.paw_effects.proofs.Worlds.{byte_at}
use Rattle.paw_reading.specs.Bounds.{ValidStory}
use Rattle.paw_reading.specs.declared.frames.OpenLoop.{OpenLoop}
use Rattle.paw_reading.specs.Run.{Run}
use Rattle.paw_reading.specs.declared.halt.Halt.TheVariants as halt
use Rattle.paw_reading.specs.Reading.{Redescribes, Restarts, Halts, Out, Left, Waits, Stopped, at_level}
use Rattle.paw_reading.specs.Reading.{read_at_level, table_called, table_read}
use Rattle.paw_reading.proofs.LeavesLoop.{called_leaves_loop}
use Rattle.paw_check.specs.Prints.{most_text}
use Rattle.paw_check.specs.Verbs.{may_write_verb}
use Rattle.paw_check.specs.Calls.{turn_tables, calls_table, table_condacts, called_below, reached_from}
use Rattle.paw_check.specs.Costs.{counting, cost, verb_may_change}
use Rattle.paw_check.specs.Verdicts.{call_too_deep}
use Rattle.paw_check.specs.inner.Within.{IsReadyWithin, TableWithin, TablesWithin, reads_of, table_text}
use Rattle.paw_check.proofs.Lengths.{say_most}
use Rattle.paw_check.proofs.Members.{In, any_within}
use Rattle.paw_check.proofs.Reaching.{Member, each_of_table, calls_below, of_game, in_reached, no_first}
use Rattle.paw_check.proofs.Levels.{some_tables, one_of_three, in_three}
use Rattle.paw_check.proofs.Uses.{of_kind, used, own_of, Closed}
use Rattle.paw_check.proofs.Tables.{Steady, Is, Ends, Outside, Anyhow, ends_up, reads_end}
use Rattle.paw_check.proofs.TableCosts.{if_opens, takes_at, own_takes, in_all_passes_most, cost_is, verb_most}

-- ---- loops and levels ----

deeper_loop : (o : Option OpenLoop) (lv : ℕ) → IfSome o (λ l. l.level ≤ lv) → IfSome o (λ l. l.level ≤ suc lv)
deeper_loop None lv k = tt
deeper_loop (Some l) lv k = omega (arith, k)

-- A loop of an upper level isn't one of this.
shut : (o : Option OpenLoop) (lv : ℕ) → IfSome o (λ l. l.level ≤ lv) → at_level (suc lv) o ≡ None
shut None lv k = refl
shut (Some l) lv k = grind (arith, nat_tests)

elsewhere : (lv : ℕ) (l : OpenLoop) → at_level lv (Some l) ≡ None → l.level ≡ lv → ⊥
elsewhere lv l none e = grind (arith, nat_tests)

upper_loop : (o : Option OpenLoop) (lv : ℕ) → IfSome o (λ l. l.level ≤ suc lv) → at_level (suc lv) o ≡ None → IfSome o (λ l. l.level ≤ lv)
upper_loop None lv k none = tt
upper_loop (Some l) lv k none = omega (arith, k, elsewhere (suc lv) l none)

no_loop_left : (o : Option OpenLoop) → IfSome o (λ l. l.level ≤ 0) → at_level 0 o ≡ None → o ≡ None
no_loop_left None k none = refl
no_loop_left (Some l) k none = absurd (elsewhere 0 l none (omega (arith, k)))

-- What none passes, none does that stands there.
none_such : (p : Condact → Bool) (cs : List Condact) → list_any p cs ≡ false → (c : Condact) → Member cs c → p c ≡ false
none_such p cs h c member = go (p c) refl
  where
    go : (b : Bool) → p c ≡ b → b ≡ false
    go true e = let some : list_any p cs ≡ true = member p e in absurd cc
    go false e = refl

-- ---- what is used, in one way ----

module _ (g : Story) (valid : ValidStory g) (flat : call_too_deep g.game ≡ None) (kind : SpentKind) (limit pending verb : ℕ)
    (low : limit ≤ of_kind kind READ_LIMIT PIECE_LIMIT)
    (bye : (w : World) → IsWorldOf g.game w
    → of_kind kind 0 (length (say_text g.game w GOODBYE_MESSAGE)) ≤ limit) where
  abbrev changing : Bool
  changing = verb_may_change g.game

  abbrev own : Condact → ℕ
  own c = own_of kind g.game c

  abbrev count : List Entry → List Entry
  count = counting changing verb

  abbrev Steadily : ℕ → Run → Type 0
  Steadily lv r = Is g valid kind limit pending changing verb low bye lv r

  abbrev EndsSo : (Run → Type 0) → ℕ → Out → Type 0
  EndsSo = Ends g valid kind limit pending changing verb low bye

  abbrev Shut : (lv most : ℕ) → Run → Type 0
  Shut = Outside g valid kind limit pending changing verb low bye

  abbrev Some_way : (lv most : ℕ) → Run → Type 0
  Some_way = Anyhow g valid kind limit pending changing verb low bye

  -- A condact of a table, which follows the rules of a game.
  abbrev Stands : ℕ → Condact → Type 0
  Stands t c = Member (table_condacts g.game t) c × IsTrue (is_condact g.game c)

  of_turn : (t : ℕ) → In t turn_tables → t < length g.game.tables
  of_turn t at = omega (arith, one_of_three t at, some_tables g.game valid.game)

  -- Where the verb doesn't change no condact of a table that is reached may write it.
  quiet : (lv t : ℕ) → lv ≤ LEVEL_LIMIT → In t (called_below g.game turn_tables lv) → (c : Condact) → Stands t c → changing ≡ false → may_write_verb c ≡ false
  quiet lv t few at c stands still =
      none_such may_write_verb (flat_map (table_condacts g.game) (reached_from g.game turn_tables)) still c
      (λ p k. any_within p (table_condacts g.game) (reached_from g.game turn_tables) t
      (in_reached g.game valid.game turn_tables lv t few at (of_game g.game valid.game turn_tables of_turn lv t at)) (stands.0 p k))

  -- How calls from a table at a level end.
  abbrev CallsEnd : (n lv t : ℕ) → Type 0
  CallsEnd n lv t =
      (c : Condact) → Stands t c → c.code ≡ PROCESS → (m : ℕ) (r : Run) → Steadily lv r → used kind r ≤ m + own c →
      m + takes_at g.game own count n c ≤ limit →
      EndsSo (Some_way lv (m + takes_at g.game own count n c)) (m + takes_at g.game own count n c) (table_called g n lv c.a r)

  loops_take : (k : ℕ) (c : Condact) → c.code ≡ DOALL → if_opens k c ≡ k
  loops_take k c h = rw h refl

  -- A table that is read from its start.
  table_end : (n lv t : ℕ) → lv ≤ LEVEL_LIMIT → In t (called_below g.game turn_tables lv) → CallsEnd n lv t → (m : ℕ) (r : Run) → Steadily lv r →
      at_level lv r.turning ≡ None → used kind r ≤ m → m + cost g.game own count n t ≤ limit →
      EndsSo (Shut lv (m + cost g.game own count n t)) (m + cost g.game own count n t) (read_at_level g (table_called g n lv) lv t 0 0 false r)
  table_end n lv t few at calls m r k none u fits =
      let cs : List Condact = flat_map (λ e. e.condacts) (count (table_at g.game t)) in
      let all : ℕ = sum_by (takes_at g.game own count n) cs in
      let once_more : ℕ = all + sum_by (if_opens (length g.game.objects * all)) cs in
      let is : cost g.game own count n t ≡ once_more = cost_is g.game own count n t in
      let ends : EndsSo (Shut lv (m + once_more)) (m + once_more) (read_at_level g (table_called g n lv) lv t 0 0 false r) =
      reads_end g valid kind limit pending changing verb low bye lv (Stands t)
      (λ c stands. stands.1) (quiet lv t few at) (takes_at g.game own count n) (if_opens (length g.game.objects * all))
      (own_takes g.game own count n) all (length g.game.objects * all) (loops_take (length g.game.objects * all))
      (λ once more h. in_all_passes_most all once more (length g.game.objects) h) (table_called g n lv) calls (called_leaves_loop g n lv) t
      (each_of_table g.game valid.game t (Stands t) (λ c member kept. (member, kept))) (omega arith) m r k none u (omega (arith, is, fits)) in
      subst (λ x. EndsSo (Shut lv (m + x)) (m + x) (read_at_level g (table_called g n lv) lv t 0 0 false r)) (sym is) ends

  down : (lv : ℕ) (r : Run) → Steadily lv r → Steadily (suc lv) r
  down lv r k = record {
    world = k.world;
    small = k.small;
    short = k.short;
    speaks = k.speaks;
    loop = deeper_loop r.turning lv k.loop;
    lines = k.lines;
    closed = k.closed;
  }

  up : (lv : ℕ) (r : Run) → Steadily (suc lv) r → at_level (suc lv) r.turning ≡ None → Steadily lv r
  up lv r k none = record {
    world = k.world;
    small = k.small;
    short = k.short;
    speaks = k.speaks;
    loop = upper_loop r.turning lv k.loop none;
    lines = k.lines;
    closed = k.closed;
  }

  calls_end : (n lv t : ℕ) → n + lv ≡ LEVEL_LIMIT → In t (called_below g.game turn_tables lv) → CallsEnd n lv t
  unfolding table_called
  calls_end zero lv t deep at c stands calls m r k u fits =
      let ten : lv ≡ LEVEL_LIMIT = omega (arith, deep) in
      absurd (no_first g.game calls_table (called_below g.game turn_tables LEVEL_LIMIT) flat t (rw ten at at) (stands.0 calls_table (rw calls refl)))
  calls_end (suc n) lv t deep at c stands calls m r k u fits =
      let under : In c.a (called_below g.game turn_tables (suc lv)) =
      calls_below g.game valid.game turn_tables lv t at c stands.0 stands.1 calls in
      let most : ℕ = m + own c + cost g.game own count n c.a in
      let same : takes_at g.game own count (suc n) c ≡ own c + cost g.game own count n c.a = rw calls refl in
      let ends : EndsSo (Shut (suc lv) most) most (read_at_level g (table_called g n (suc lv)) (suc lv) c.a 0 0 false r) =
      table_end n (suc lv) c.a (omega (arith, deep)) under (calls_end n (suc lv) c.a (omega (arith, deep)) under) (m + own c) r (down lv r k)
      (shut r.turning lv k.loop) u (omega (arith, same, fits)) in
      ends_up g valid kind limit pending changing verb low bye (Shut (suc lv) most) (Some_way lv (m + takes_at g.game own count (suc n) c)) most
      (m + takes_at g.game own count (suc n) c) (omega (arith, same)) (λ s i. (up lv s i.0 i.1.0, omega (arith, i.1.1, same)))
      (read_at_level g (table_called g n (suc lv)) (suc lv) c.a 0 0 false r) ends

  -- A table of a turn.
  pub turn_table_end : (t m : ℕ) (r : Run) → In t turn_tables → Steadily 0 r → r.turning ≡ None → used kind r ≤ m →
      m + cost g.game own count LEVEL_LIMIT t ≤ limit →
      EndsSo (Shut 0 (m + cost g.game own count LEVEL_LIMIT t)) (m + cost g.game own count LEVEL_LIMIT t) (table_read g t r)
  unfolding called_below
  turn_table_end t m r at k none u fits =
      table_end LEVEL_LIMIT 0 t (omega arith) at (calls_end LEVEL_LIMIT 0 t refl at) m r k (rw none refl) u fits

  -- The same for a run outside tables, where the table costs at most this.
  pub ready_table_end : (t m most condacts text : ℕ) (r : Run) → In t turn_tables → IsReadyWithin condacts text pending g.game r →
      (changing ≡ false → flag r.world VERB_FLAG ≡ verb) → Closed kind limit r.traces r.pieces → used kind r ≤ m →
      cost g.game own count LEVEL_LIMIT t ≤ most → m + most ≤ limit → EndsSo (Shut 0 (m + most)) (m + most) (table_read g t r)
  ready_table_end t m most condacts text r at ready speaks closed u least fits =
      ends_up g valid kind limit pending changing verb low bye _ (Shut 0 (m + most)) _ (m + most) (omega (arith, least))
      (λ s i. (i.0, (i.1.0, omega (arith, i.1.1, least)))) (table_read g t r)
      (turn_table_end t m r at
      (record {
        world = ready.world;
        small = ready.earlier;
        short = ready.line;
        speaks = speaks;
        loop = rw ready.loop tt;
        lines = ready.lines;
        closed = closed;
      }) ready.loop u (omega (arith, least, fits)))

-- ---- both ways ----

module _ (g : Story) (valid : ValidStory g) (condacts text pending verb reads bytes : ℕ) (few : condacts ≤ READ_LIMIT) (short : text ≤ PIECE_LIMIT)
    (no_bye : (w : World) → IsWorldOf g.game w → 0 ≤ condacts)
    (bye : (w : World) → IsWorldOf g.game w → length (say_text g.game w GOODBYE_MESSAGE) ≤ text) where
  abbrev changes : Bool
  changes = verb_may_change g.game

  abbrev Read : Out → Type 0
  Read x =
      Ends g valid spent.Condacts condacts pending changes verb few no_bye
      (Outside g valid spent.Condacts condacts pending changes verb few no_bye 0 reads) reads x

  abbrev Printed : Out → Type 0
  Printed x =
      Ends g valid spent.Text text pending changes verb short bye (Outside g valid spent.Text text pending changes verb short bye 0 bytes) bytes x

  -- A run that is steady by both counts is ready, where no loop is open.
  ready : (left lv : ℕ) (loose : Bool) (r : Run)
      → Steady g.game spent.Condacts condacts left loose verb lv r.world r.earlier r.pending r.turning r.events r.traces r.pieces
      → Steady g.game spent.Text text left loose verb lv r.world r.earlier r.pending r.turning r.events r.traces r.pieces
      → r.turning ≡ None → IsReadyWithin condacts text left g.game r
  ready left lv loose r h k none = record {
    world = h.world;
    earlier = h.small;
    line = h.short;
    loop = none;
    lines = h.lines;
    closed = record { pieces = k.closed; traces = h.closed };
  }

  both : (x : Out) → Read x → Printed x → TableWithin condacts text pending g.game reads bytes x
  both (Left acted r) h k =
      (ready pending 0 changes r h.0 k.0 (no_loop_left r.turning h.0.loop h.1.0), record { read = h.1.1; current = k.1.1 })
  both (Waits p path r) h k = record { pieces = k; traces = h }
  both (Stopped Redescribes r) h k = (ready pending 0 true r h.0 k.0 h.1.0, record { read = h.1.1; current = k.1.1 })
  both (Stopped Restarts r) h k = (ready 0 0 true r h.0 k.0 h.1.0, record { read = h.1.1; current = k.1.1 })
  both (Stopped (Halts halt.Over) r) h k = record { pieces = k; traces = h }
  both (Stopped (Halts (halt.Spent spent.Condacts)) r) h k = h
  both (Stopped (Halts (halt.Spent spent.Text)) r) h k = k
  both (Stopped (Halts (halt.TooDeep t)) r) h k = h

-- Each table of a turn is read within what it takes.
pub tables_within : TablesWithin
tables_within g condacts text pending reads bytes t r valid flat bound low ready uses fit_reads fit_bytes =
    let verb : ℕ = flag r.world VERB_FLAG in
    let small : verb < 256 = byte_at r.world.flags VERB_FLAG ready.world.flags in
    let at : In t turn_tables = in_three t low in
    let no_bye : (w : World) → IsWorldOf g.game w → 0 ≤ condacts = λ w k. omega arith in
    let bye : (w : World) → IsWorldOf g.game w → length (say_text g.game w GOODBYE_MESSAGE) ≤ text =
    λ w k. omega (arith, say_most g.game w GOODBYE_MESSAGE, bound.goodbye) in
    let reads_most : cost g.game (λ c. 1) (counting (verb_may_change g.game) verb) LEVEL_LIMIT t ≤ reads_of g.game t = verb_most g.game (λ c. 1) t verb small in
    let text_most : cost g.game (most_text g.game) (counting (verb_may_change g.game) verb) LEVEL_LIMIT t ≤ table_text g.game t =
    verb_most g.game (most_text g.game) t verb small in
    both g valid condacts text pending verb (reads + reads_of g.game t) (bytes + table_text g.game t) bound.reads bound.bytes no_bye bye (table_read g t r)
    (ready_table_end g valid flat spent.Condacts condacts pending verb bound.reads no_bye t reads (reads_of g.game t) condacts text r at ready
    (λ e. refl) ready.closed.traces uses.read reads_most fit_reads)
    (ready_table_end g valid flat spent.Text text pending verb bound.bytes bye t bytes (table_text g.game t) condacts text r at ready
    (λ e. refl) ready.closed.pieces uses.current text_most fit_bytes)
