-- The induction over tables, and one over turns, for what is said of runs alone, whatever table is read at whatever level.
use Rattle.std.proofs.Common.{◌≡◌, ℕ, suc, ◌≤◌, ◌<◌, Bool, true, false, List, [], ◌∷◌, Some, refl, length, arith}
use Rattle.paw_base.specs.Bytes.{Bytes, Line, Lines, Text}
use Rattle.paw_base.specs.declared.flags.TheConstants.{LOCATION_FLAG, VERB_FLAG}
use Rattle.paw_base.specs.declared.limits.TheConstants.{READ_LIMIT}
use Rattle.paw_base.specs.declared.messages.TheConstants.{DARK_MESSAGE, UNKNOWN_MESSAGE, TIMEOUT_MESSAGE, LINE_MESSAGE}
use Rattle.paw_base.specs.declared.parts.Condact.{Condact}
use Rattle.paw_base.specs.declared.fault.SpentKind.TheVariants as spent
use Rattle.paw_base.specs.declared.tables.TheConstants.{RESPONSE_TABLE, DESCRIBED_TABLE, FRAME_TABLE}
use Rattle.paw_game.specs.Tables.{exit_at}
use Rattle.paw_world.specs.World.{World, flag, with_flag, is_unlit}
use Rattle.paw_phrase.specs.declared.Sentence.{Sentence}
use Rattle.paw_phrase.specs.Sentence.{IsSentence, IsUnknown}
use Rattle.paw_effects.specs.Story.{Story}
use Rattle.paw_effects.specs.declared.act.Prompt.{Prompt}
use Rattle.paw_effects.specs.declared.act.Prompt.TheVariants as prompt
use Rattle.paw_effects.specs.Texts.{say_text, put_text, location_text}
use Rattle.paw_effects.specs.Holds.{holds}
use Rattle.paw_effects.specs.Effects.{effect_of}
use Rattle.paw_reading.specs.declared.frames.Frame.{Frame}
use Rattle.paw_reading.specs.declared.frames.OpenLoop.{OpenLoop}
use Rattle.paw_reading.specs.declared.halt.Halt.{Halt}
use Rattle.paw_reading.specs.declared.halt.Halt.TheVariants as halt
use Rattle.paw_reading.specs.Run.{Run, piece_closed, fits, text_printed, with_world, without_loop, line_dropped, anew, with_line_heard}
use Rattle.paw_reading.specs.Run.{with_timeout, taken_phrase}
use Rattle.paw_reading.specs.Reading.{Stop, Redescribes, Restarts, Halts, Out, Left, Waits, Stopped, step_noted, object_taken, coming_phrase}
use Rattle.paw_reading.specs.Reading.{carried_out, deeper, rest_of_table, table_read}
use Rattle.paw_reading.specs.GoingOn.{on_path}
use Rattle.paw_reading.specs.Turn.{TurnPhase, Ending, WaitsAt, Halted, Unended, location_described, time_frame_passed, view_text}
use Rattle.paw_reading.specs.Turn.{turn_counted, prompt_text, at_main, refusal_text, table_done, turn, goes_on, timeout_text}
use Rattle.paw_reading.specs.inner.Parts.{line_set, in_table, unknown_text}
use Rattle.paw_reading.proofs.Cases.{either}
use Rattle.paw_reading.proofs.EachStep.{StandsAt, noted_printed, hearing, itself}
use Rattle.paw_reading.proofs.EachPhase.{TurnRelation, TurnSteps, Said, EndAlike, AnyWait, ends_itself, described, turns, table_after, at_prompt}
use Rattle.paw_reading.proofs.Induction.{Claim, Carries, Outside, IsSaid, Puts, Says, Shows, Both, along_any, deeper_carries, rest_carries}
use Rattle.paw_reading.proofs.Induction.{path_carries}

-- What is to hold: of a run that reads on; of one that does so right after an action or a line; of one whose piece is closed
-- before these lines; of a wait; where the turn begins anew; and where play ends for good.
pub record RunClaim : Type 1 where
  pub on : Run → Type 0
  pub acted : Run → Type 0
  pub closed : Run → Lines → Type 0
  pub wait : Prompt → List Frame → Run → Type 0
  pub anew : Run → Type 0
  pub halt : Halt → Run → Type 0

abbrev pub StopsSo : RunClaim → Stop → Run → Type 0
StopsSo i Redescribes r = i.anew r
StopsSo i Restarts r = i.anew r
StopsSo i (Halts halt) r = i.halt halt r

-- It holds of how the reading of a table ends.
abbrev pub Ends : RunClaim → Out → Type 0
Ends i (Left a r) = i.on r
Ends i (Waits p path r) = i.wait p path r
Ends i (Stopped stop r) = StopsSo i stop r

-- Each step of reading keeps it.
pub record RunCarries (g : Story) (i : RunClaim) : Type 0 where
  pub printed : (r : Run) (text : Text) → i.on r → IsSaid g.game text → fits r text ≡ true → i.on (text_printed text r)
  pub tested : (f : Frame) (c : Condact) (b : Bool) (r : Run) → StandsAt g f c → i.on r → length r.read < READ_LIMIT →
      i.on (step_noted f c b (with_world (holds g.game r.world c).world r))
  pub acts : (f : Frame) (c : Condact) (r : Run) → StandsAt g f c → i.on r → length r.read < READ_LIMIT →
      fits (step_noted f c true r) (effect_of g r.world c).text ≡ true →
      i.acted (carried_out (effect_of g r.world c) (noted_printed f c (effect_of g r.world c).text r))
  pub reads_on : (r : Run) → i.acted r → i.on r
  pub sentence : (r : Run) (s : Sentence) (left : Bytes) → i.on r → coming_phrase g r ≡ IsSentence s left → i.on (taken_phrase s left r)
  pub unknown : (r : Run) (left : Bytes) → i.on r → coming_phrase g r ≡ IsUnknown left → i.on (record r { pending = left })
  pub taken : (l : OpenLoop) (o : ℕ) (r : Run) → o < length g.game.objects → i.on r → i.on (object_taken g.game l o r)
  pub no_loop : (r : Run) → i.on r → i.on (without_loop r)
  pub closes : (r : Run) → i.on r → i.closed (piece_closed r) r.events
  pub waits : (p : Prompt) (f : Frame) (r : Run) → i.closed r [] → i.wait p (f ∷ []) (record r { events = [] })
  pub ignored : (r : Run) (line : Line) (lines : Lines) → i.closed r (line ∷ lines) → i.closed (piece_closed (record r { events = lines })) lines
  pub heard : (r : Run) (line : Line) (lines : Lines) → i.closed r (line ∷ lines) → i.acted (with_line_heard line (record r { events = lines }))
  pub above : (p : Prompt) (f : Frame) (path : List Frame) (r : Run) → i.wait p path r → i.wait p (f ∷ path) r
  pub exhausted : (r : Run) → i.on r → i.halt (halt.Spent spent.Condacts) r
  pub too_long : (r : Run) → i.on r → i.halt (halt.Spent spent.Text) r
  pub unfit : (f : Frame) (c : Condact) (r : Run) → i.on r → length r.read < READ_LIMIT → i.halt (halt.Spent spent.Text) (step_noted f c true r)
  pub too_deep : (u : ℕ) (r : Run) → i.on r → i.halt (halt.TooDeep u) r
  pub redescribed : (r : Run) → i.acted r → i.anew (without_loop r)
  pub restarted : (r : Run) → i.acted r → i.anew (anew r)
  pub ended : (r : Run) → i.on r → i.halt halt.Over (piece_closed (without_loop (line_dropped r)))

abbrev by_level : RunClaim → Claim
by_level i = record {
  At = ℕ;
  level = λ lv. lv;
  called = λ lv u. suc lv;
  table = λ lv u. Unit {0};
  loop = λ l. Unit {0};
  call = λ f u. Unit {0};
  asks = λ f p. Unit {0};
  on = λ lv r. i.on r;
  acted = λ lv r. i.acted r;
  closed = λ lv r lines. i.closed r lines;
  wait = λ lv p path r. i.wait p path r;
  stop = StopsSo i;
}

ends : (i : RunClaim) (lv : ℕ) (x : Out) → Outside (by_level i) lv x → Ends i x
ends i lv (Left a r) k = k.0
ends i lv (Waits p path r) k = k
ends i lv (Stopped stop r) k = k

module _ (g : Story) (i : RunClaim) (k : RunCarries g i) where
  carries : Carries g (by_level i)
  carries = record {
    deeper = λ lv u. refl;
    printed = λ lv. k.printed;
    tested = λ lv. k.tested;
    acts = λ lv. k.acts;
    reads_on = λ lv. k.reads_on;
    sentence = λ lv. k.sentence;
    unknown = λ lv. k.unknown;
    opened = λ lv f c r stands is on. tt;
    own = λ lv t r l own on is at. (tt, tt);
    taken = λ lv l o r is own may few on. k.taken l o r few on;
    no_loop = λ lv. k.no_loop;
    asked = λ f c p stands asks. tt;
    closes = λ lv. k.closes;
    waits = λ lv p f r asks own on. k.waits p f r on;
    ignored = λ lv. k.ignored;
    heard = λ lv. k.heard;
    calls = λ f c stands is. tt;
    opens = λ lv u low. tt;
    down = λ lv u r on. on;
    up = λ lv u r on none. on;
    above = λ lv u p f path r own call on. k.above p f path r on;
    exhausted = λ lv. k.exhausted;
    too_long = λ lv. k.too_long;
    unfit = λ lv. k.unfit;
    too_deep = λ lv. k.too_deep;
    redescribed = λ lv. k.redescribed;
    restarted = λ lv. k.restarted;
    ended = λ lv. k.ended;
  }

  pub deeper_ends : (lv u : ℕ) (r : Run) → i.on r → Ends i (deeper g lv u r)
  deeper_ends lv u r on = ends i (suc lv) _ (deeper_carries g (by_level i) carries lv u r on)

  pub rest_ends : (lv t e n : ℕ) (a : Bool) (r : Run) → i.on r → Ends i (rest_of_table g lv t e n a r)
  rest_ends lv t e n a r on = ends i lv _ (rest_carries g (by_level i) carries lv t e n tt a r on)

  pub table_ends : (t : ℕ) (r : Run) → i.on r → Ends i (table_read g t r)
  table_ends t r on = rest_ends 0 t 0 0 false r on

  pub path_ends : (p : Prompt) (lv : ℕ) (f : Frame) (path : List Frame) (r : Run) → i.closed r r.events → Ends i (on_path g p lv (f ∷ path) r)
  path_ends p lv f path r on =
      ends i lv _ (path_carries g (by_level i) carries p lv f path r
      (along_any (by_level i) p r (λ j u. tt) (λ h u. tt) (λ h. tt) (λ j. on) lv f path tt))

-- ---- turns ----

-- It holds of how a turn ends.
abbrev pub TurnEnds : RunClaim → Ending → Type 0
TurnEnds i (WaitsAt p path r) = i.wait p path r
TurnEnds i (Halted halt r) = i.halt halt r
TurnEnds i Unended = Unit {0}

-- Each step of a turn between tables keeps it.
pub record TurnCarries (g : Story) (i : RunClaim) : Type 0 where
  pub begins : (r : Run) → i.anew r → i.on r
  pub described : (r : Run) → i.on r → i.on (with_world (location_described r.world) r)
  pub passed : (r : Run) → i.on r → i.on (with_world (time_frame_passed r.world) r)
  pub went : (r : Run) (to : ℕ) → i.on r → exit_at g.game (flag r.world LOCATION_FLAG) (flag r.world VERB_FLAG) ≡ Some to →
      i.on (with_world (with_flag r.world LOCATION_FLAG to) r)
  pub counted : (r : Run) → i.on r → i.on (with_world (turn_counted r.world) r)
  pub dropped : (r : Run) → i.on r → i.on (line_dropped r)
  pub set : (r : Run) (line : Line) (lines : Lines) → i.closed r (line ∷ lines) → i.on (line_set line (record r { events = lines }))
  pub awaits : (r : Run) → i.closed r [] → i.wait prompt.Main [] (record r { events = [] })

-- So does each that is said or heard, and so does each table that is read from its start.
pub record Between (g : Story) (i : RunClaim) : Type 0 where
  pub printed : (r : Run) (text : Text) → i.on r → IsSaid g.game text → fits r text ≡ true → i.on (text_printed text r)
  pub too_long : (r : Run) → i.on r → i.halt (halt.Spent spent.Text) r
  pub sentence : (r : Run) (s : Sentence) (left : Bytes) → i.on r → coming_phrase g r ≡ IsSentence s left → i.on (taken_phrase s left r)
  pub asks : (r : Run) (text : Text) → i.on (text_printed text (line_dropped r)) → i.closed (piece_closed (text_printed text (line_dropped r))) r.events
  pub ignored : (r : Run) (line : Line) (lines : Lines) → i.closed r (line ∷ lines) → i.closed (piece_closed (record r { events = lines })) lines
  pub heard : (r : Run) (line : Line) (lines : Lines) → i.closed r (line ∷ lines) → i.on (hearing line lines r)
  pub tables : (t : ℕ) (r : Run) → t ≤ FRAME_TABLE → i.on r → Ends i (table_read g t r)

-- It is so where each step of tables keeps it.
pub between : (g : Story) (i : RunClaim) → RunCarries g i → Between g i
between g i k = record {
  printed = k.printed;
  too_long = k.too_long;
  sentence = k.sentence;
  asks = λ r text on. k.closes (text_printed text (line_dropped r)) on;
  ignored = k.ignored;
  heard = λ r line lines on. k.reads_on (hearing line lines r) (k.heard r line lines on);
  tables = λ t r low on. table_ends g i k t r on;
}

module _ (g : Story) (i : RunClaim) (b : Between g i) (m : TurnCarries g i) where
  view_said : (w : World) → IsSaid g.game (view_text g.game w)
  view_said w =
      either (IsSaid g.game) (is_unlit w) (say_text g.game w DARK_MESSAGE) (location_text g.game w (flag w LOCATION_FLAG)) (Says w DARK_MESSAGE)
      (Shows w (flag w LOCATION_FLAG))

  -- From a run of which it holds, so does how a turn ends.
  abbrev relation : TurnRelation
  relation = record {
    phase = λ n s r x y. i.on r → TurnEnds i y;
    after = λ n t z x y. Ends i z → TurnEnds i y;
    prompt = λ n r lines x y. i.closed r lines → TurnEnds i y;
  }

  -- What is said of it.
  says : (text : Text) (r : Run) → IsSaid g.game text → (Given : Type 0) → (Given → i.on r) → (After : Type 0) → (i.on (text_printed text r) → After) →
      Said itself text r (λ x y. After → TurnEnds i y) (λ x y. Given → TurnEnds i y)
  says text r is Given on After go =
      (λ fit x y h given. h (go (b.printed r text (on given) is fit)), λ long given. b.too_long r (on given))

  steps : TurnSteps g itself (λ n. n) AnyWait relation
  steps = record {
    unended = λ s r on. tt;
    describes = λ n r.
        let text : Text = view_text g.game (location_described r.world) in
        says text (described r) (view_said (location_described r.world)) (i.on r) (m.described r) _
        (λ on. b.tables DESCRIBED_TABLE (text_printed text (described r)) (omega arith) on);
    frames = λ n r x y h on. h (b.tables FRAME_TABLE r (omega arith) on);
    responds = λ n r x y h on. h (b.tables RESPONSE_TABLE r (omega arith) on);
    sentence = λ n r s left x y e h on. h (m.counted (taken_phrase s left r) (b.sentence r s left on e));
    unknown = λ n r left e. says (unknown_text g.game r.world) (line_dropped r) (Says r.world UNKNOWN_MESSAGE) (i.on r) (m.dropped r) _ (λ on. on);
    no_phrase = λ n r e.
        says (prompt_text g.game r.world) (line_dropped r)
        (Both (say_text g.game r.world _) (put_text g.game r.world LINE_MESSAGE) (Says r.world _) (Puts r.world LINE_MESSAGE)) (i.on r) (m.dropped r) _
        (λ on. b.asks r (prompt_text g.game r.world) on);
    acted = λ n r x y h on. h on;
    leaves = λ n to r x y e h on. h (m.went r to on e);
    refuses = λ n r e. says (refusal_text g.game r.world) (line_dropped r) (Says r.world _) (i.on r) (m.dropped r) _ (λ on. on);
    described_so = λ n a r x y h on. h on;
    framed = λ n t a r x y h on. h (m.passed r on);
    waits = λ n t p path r x e on. on;
    again = λ n t r x y h on. h (m.begins r on);
    restarts = λ n t r x y h on. h (m.begins r on);
    halts = λ n t halt r on. on;
    awaits = λ n r on. m.awaits r on;
    ignored = λ n r line lines x y h on. h (b.ignored r line lines on);
    times_out = λ n r line lines.
        says (timeout_text g.game r.world) (hearing line lines r) (Says (with_timeout true r.world) TIMEOUT_MESSAGE) (i.closed r (line ∷ lines))
        (b.heard r line lines) _ (λ on. on);
    takes_line = λ n r line lines x y h on. h (m.set r line lines on);
  }

  same : (t : ℕ) (r : Run) → EndAlike itself AnyWait (table_read g t r) (table_read g t r)
  same t r = ends_itself (table_read g t r)

  -- So it holds wherever a turn ends, and where going on from a prompt does.
  pub turn_ends : (n : ℕ) (s : TurnPhase) (r : Run) → i.on r → TurnEnds i (turn g n s r)
  turn_ends n s r on = turns g itself (λ n. n) (λ n. refl) AnyWait same relation steps n s r on

  pub path_goes_on : (n t : ℕ) (x : Out) → Ends i x → TurnEnds i (table_done g (turn g n) t x)
  path_goes_on n t x on =
      table_after g itself (λ n. n) (λ n. refl) AnyWait same relation steps n (turns g itself (λ n. n) (λ n. refl) AnyWait same relation steps n) t x x
      (ends_itself x) on

  pub main_goes_on : (n : ℕ) (r : Run) → i.closed r r.events → TurnEnds i (at_main g (turn g n) r r.events)
  main_goes_on n r on =
      at_prompt g itself (λ n. n) (λ n. refl) AnyWait same relation steps n (turns g itself (λ n. n) (λ n. refl) AnyWait same relation steps n) r r.events on

module _ (g : Story) (i : RunClaim) (k : RunCarries g i) (m : TurnCarries g i) where
  in_table_ends : (n : ℕ) (p : Prompt) (path : List Frame) (r : Run) → i.on r → i.closed r r.events → TurnEnds i (in_table g n p path r)
  in_table_ends n p [] r on closed = path_goes_on g i (between g i k) m n 0 (Left true r) on
  in_table_ends n p (f ∷ path) r on closed =
      path_goes_on g i (between g i k) m n f.table (on_path g p 0 (f ∷ path) r) (path_ends g i k p 0 f path r closed)

  pub goes_on_ends : (n : ℕ) (p : Prompt) (path : List Frame) (r : Run) → i.on r → i.closed r r.events → i.halt halt.Over r →
      TurnEnds i (goes_on g n p path r)
  goes_on_ends n prompt.Main path r on closed over = main_goes_on g i (between g i k) m n r closed
  goes_on_ends n prompt.Quit path r on closed over = in_table_ends n prompt.Quit path r on closed
  goes_on_ends n prompt.Again path r on closed over = in_table_ends n prompt.Again path r on closed
  goes_on_ends n prompt.Key path r on closed over = in_table_ends n prompt.Key path r on closed
  goes_on_ends n prompt.Over path r on closed over = over
