-- Through all phases of all turns no piece takes more than it may.
use Rattle.std.proofs.Common.{◌≡◌, ◌≢◌, ℕ, zero, suc, ◌+◌, ◌*◌, ◌≤◌, ◌<◌, Bool, true, false, [], ◌∷◌, None, refl, subst, length, arith}
use Rattle.std.proofs.Common.{length-append}
use Rattle.std.specs.Prelude.{All}
use Rattle.std.proofs.lemmas.Bool.{le-leb}
use Rattle.paw_base.specs.Bytes.{Line, Lines, Seed, Text}
use Rattle.paw_base.specs.declared.flags.TheConstants.{LOCATION_FLAG, PRONOUN_NOUN_FLAG, PRONOUN_ADJECTIVE_FLAG}
use Rattle.paw_base.specs.declared.limits.TheConstants.{PIECE_LIMIT, LINE_LIMIT}
use Rattle.paw_base.specs.declared.tables.TheConstants.{FRAME_TABLE}
use Rattle.paw_world.specs.World.{World, flag, with_flag}
use Rattle.paw_phrase.specs.Sentence.{Parsed, IsSentence, IsUnknown}
use Rattle.paw_phrase.specs.inner.Leaving.{LeavesBytes, IsTwoLess}
use Rattle.paw_phrase.proofs.Shortens.{phrases_take_two}
use Rattle.paw_effects.specs.Story.{Story}
use Rattle.paw_reading.specs.Bounds.{IsLine, ValidStory}
use Rattle.paw_reading.specs.Run.{Run, piece_closed, fits, text_printed, with_world, line_dropped}
use Rattle.paw_reading.specs.declared.halt.Halt.{Halt}
use Rattle.paw_reading.specs.declared.halt.Halt.TheVariants as halt
use Rattle.paw_reading.specs.Reading.{Redescribes, Restarts, Halts, Out, Left, Stopped, coming_phrase, table_read}
use Rattle.paw_reading.specs.Turn.{TurnPhase, AtDescribe, AtTimeFrame, Ending, WaitsAt, Halted, Unended, location_described}
use Rattle.paw_reading.specs.Turn.{time_frame_passed, view_text, prompt_text, timeout_text, refusal_text, turn, phases_left, opening, reading}
use Rattle.paw_reading.specs.inner.Parts.{line_set, unknown_text}
use Rattle.paw_reading.proofs.EachStep.{hearing, itself}
use Rattle.paw_reading.proofs.EachPhase.{TurnRelation, TurnSteps, Said, AnyWait, ends_itself, described, counted, turns}
use Rattle.paw_reading.proofs.Spends.{shorter}
use Rattle.paw_reading.proofs.Ends.{turns_end}
use Rattle.paw_check.specs.Promise.{EndsWithin}
use Rattle.paw_check.specs.inner.Within.{TableWithin}
use Rattle.paw_check.proofs.Allowances.{for_phrases, whole_line}
use Rattle.paw_check.proofs.TurnWorlds.{described_of, time_frame_of, exit_of}
use Rattle.paw_check.proofs.Room.{Takes, Says, TablesTake, DescribesOnly, reads_of, text_of, round_reads, round_text}
use Rattle.paw_check.proofs.Room.{reads_behind, text_behind}
use Rattle.paw_check.proofs.Room.{with_line, with_words, with_events, heard_ready, line_ready, taken_ready}
use Rattle.paw_check.proofs.Room.{closed_ready, opening_ready}
use Rattle.paw_check.proofs.Room.{Ready, Ends, HasRoom, less, moved, said, dropped, left_room, phrase_room}

-- A bound is enough for all rounds of a piece, and for what is said beside them.
pub record IsEnough (condacts text : ℕ) (k : Takes) : Type 0 where
  pub reads : 129 * round_reads k ≤ condacts
  pub bytes : 129 * round_text k + (k.timeout + k.prompt) ≤ text
  pub limit : text ≤ PIECE_LIMIT

module _ (g : Story) (valid : ValidStory g) (condacts text : ℕ) (k : Takes) (enough : IsEnough condacts text k) (says : Says g k)
    (tables : TablesTake g condacts text k) (only : (t : ℕ) (r : Run) → t ≤ FRAME_TABLE → r.turning ≡ None → DescribesOnly t (table_read g t r)) where
  abbrev IsIn : Run → Type 0
  IsIn r = Ready g valid condacts text r

  abbrev Stays : Ending → Type 0
  Stays e = Ends g valid condacts text e

  abbrev Room : ℕ → ℕ → Run → Type 0
  Room a b r = HasRoom g valid condacts text k a b r

  lesser : (a b c d : ℕ) (r : Run) → Room a b r → c ≤ a → d ≤ b → Room c d r
  lesser = less g valid condacts text k

  -- What is said with room for it isn't too long.
  not_long : (a b most : ℕ) (words : Text) (r : Run) → length words ≤ most → Room a (most + b) r → fits r words ≡ false → ⊥
  not_long a b most words r within h long =
      let fit : fits r words ≡ true = le-leb (length r.current + length words) PIECE_LIMIT (omega (arith, enough.limit, within, h.short)) in cc

  -- What is said takes no more than it may, and what follows it stays within the bound.
  says_on : (a b most : ℕ) (words : Text) (r : Run) (Given : Type 0) (s : TurnPhase) → length words ≤ most → (Given → Room a (most + b) r) →
      reads_of k s ≤ a → text_of k s ≤ b →
      Said itself words r (λ x y. Room (reads_of k s) (text_of k s) (text_printed words r) → Stays y) (λ x y. Given → Stays y)
  says_on a b most words r Given s within has few short = (
    λ fit x y h given. h (lesser a b (reads_of k s) (text_of k s) (text_printed words r) (said g valid condacts text k a b most words r within (has given)) few short),
    λ long given. absurd (not_long a b most words r within (has given) long),
  )

  -- A piece begins with room for a round, for a timeout, and for all phrases of a line.
  fresh : (r : Run) → IsIn r → length r.read ≤ 0 → length r.current ≤ 0 → Room (round_reads k) (k.timeout + round_text k) r
  fresh r ready none empty =
      let few = whole_line (round_reads k) (length r.pending) ready.line in
      let short = whole_line (round_text k) (length r.pending) ready.line in
      record { ready = ready; few = omega (arith, few, enough.reads); short = omega (arith, short, enough.bytes) }

  -- Where a table was begun with room for it and for what follows it, there is room left.
  record TableStays (t : ℕ) (z : Out) : Type 0 where
    m : ℕ
    n : ℕ
    p : ℕ
    low : p ≤ LINE_LIMIT
    few : m + ((k.reads t + reads_behind k t) + for_phrases (round_reads k) p) ≤ condacts
    short : n + ((k.prints t + text_behind k t) + (for_phrases (round_text k) p + k.prompt)) ≤ text
    describes : DescribesOnly t z
    within : TableWithin condacts text p g.game (m + k.reads t) (n + k.prints t) z

  table_stays : (t : ℕ) → t ≤ FRAME_TABLE → (r : Run) → Room (k.reads t + reads_behind k t) (k.prints t + text_behind k t) r →
      TableStays t (table_read g t r)
  table_stays t low r h =
      let q = h.ready in
      record {
        m = length r.read;
        n = length r.current;
        p = length r.pending;
        low = q.line;
        few = h.few;
        short = h.short;
        describes = only t r low q.loop;
        within = tables (length r.pending) (length r.read) (length r.current) t r low
            (record { world = q.world; earlier = q.earlier; line = omega arith; loop = q.loop; lines = q.lines; closed = q.closed })
            (record { read = omega arith; current = omega arith }) (omega (arith, h.few)) (omega (arith, h.short));
      }

  room_left : (t : ℕ) (a : Bool) (r : Run) → TableStays t (Left a r) → Room (reads_behind k t) (text_behind k t) r
  room_left t a r h =
      left_room g valid condacts text k (reads_behind k t) (text_behind k t) (k.reads t) (k.prints t) h.m h.n h.p r h.low h.within.0 h.within.1 h.few h.short

  -- The location is described again, after table 0.
  room_again : (t : ℕ) (r : Run) → TableStays t (Stopped Redescribes r) → Room (reads_of k AtDescribe) (text_of k AtDescribe) r
  room_again zero r h =
      lesser (reads_behind k 0) (text_behind k 0) (reads_of k AtDescribe) (text_of k AtDescribe) r
      (left_room g valid condacts text k (reads_behind k 0) (text_behind k 0) (k.reads 0) (k.prints 0) h.m h.n h.p r h.low h.within.0 h.within.1 h.few h.short)
      (omega arith) (omega arith)
  room_again (suc t) r h = absurd h.describes

  -- The game starts anew, in a new piece.
  room_anew : (t : ℕ) (r : Run) → TableStays t (Stopped Restarts r) → Room (reads_of k AtDescribe) (text_of k AtDescribe) r
  room_anew t r h =
      let u = h.within.0 in
      lesser (round_reads k) (k.timeout + round_text k) (reads_of k AtDescribe) (text_of k AtDescribe) r
      (fresh r (record { world = u.world; earlier = u.earlier; line = omega (arith, u.line); loop = u.loop; lines = u.lines; closed = u.closed })
      h.within.1.read h.within.1.current) (omega arith) (omega arith)

  halts_stay : (t : ℕ) (halt : Halt) (r : Run) → TableStays t (Stopped (Halts halt) r) → Stays (Halted halt r)
  halts_stay t halt.Over r h = h.within
  halts_stay t (halt.Spent kind) r h = absurd h.within
  halts_stay t (halt.TooDeep v) r h = absurd h.within

  -- At the main prompt nothing is used of the open piece.
  record AtPrompt (r : Run) (lines : Lines) : Type 0 where
    ready : IsIn r
    none : length r.read ≤ 0
    empty : length r.current ≤ 0
    are : All IsLine lines

  taken_line : (r : Run) (line : Line) (lines : Lines) → AtPrompt r (line ∷ lines) → AtPrompt (record r { events = lines }) lines
  taken_line r line lines h =
      let later : All IsLine lines = λ i d low. h.are (suc i) d (omega arith) in
      record { ready = with_events g valid condacts text r h.ready lines later; none = h.none; empty = h.empty; are = later }

  prompt_room : (r : Run) (words : Text) → length words ≤ k.prompt → Room 0 0 r → AtPrompt (piece_closed (text_printed words r)) r.events
  prompt_room r words within h =
      let s : Run = text_printed words r in
      let size : length s.current ≡ length r.current + length words = length-append r.current words in
      record {
        ready = closed_ready g valid condacts text s (with_words g valid condacts text r h.ready s.current) (omega (arith, h.few))
            (omega (arith, size, within, h.short));
        none = omega arith;
        empty = omega arith;
        are = h.ready.lines;
      }

  -- ---- each step ----

  abbrev relation : TurnRelation
  relation = record {
    phase = λ n s r x y. Room (reads_of k s) (text_of k s) r → Stays y;
    after = λ n t z x y. TableStays t z → Stays y;
    prompt = λ n r lines x y. AtPrompt r lines → Stays y;
  }

  steps : TurnSteps g itself (λ n. n) AnyWait relation
  steps = record {
    unended = λ s r h. tt;
    describes = λ n r.
        let w : World = location_described r.world in
        let words : Text = view_text g.game w in
        let room : Room (reads_of k AtDescribe) (text_of k AtDescribe) r → Room (k.reads 1 + k.reads 2) (k.view + (k.prints 1 + k.prints 2)) (described r) =
        λ h. moved g valid condacts text k (reads_of k AtDescribe) (text_of k AtDescribe) r h w (described_of g.game valid.game r.world h.ready.world) in (
          λ fit x y h given. h (table_stays 1 (omega arith) (text_printed words (described r))
              (said g valid condacts text k (k.reads 1 + k.reads 2) (k.prints 1 + k.prints 2) k.view words (described r) (says.view w) (room given))),
          λ long given. absurd (not_long (k.reads 1 + k.reads 2) (k.prints 1 + k.prints 2) k.view words (described r) (says.view w) (room given) long),
        );
    frames = λ n r x y h given.
        h (table_stays 2 (omega arith) r (lesser (k.reads 2) (k.prints 2) (k.reads 2 + 0) (k.prints 2 + 0) r given (omega arith) (omega arith)));
    responds = λ n r x y h given. h (table_stays 0 (omega arith) r given);
    sentence = λ n r s left x y e h given.
        let less : length left < length r.pending = shorter g r (IsSentence s left) e in
        h (phrase_room g valid condacts text k r given (counted s left r) (taken_ready g valid condacts text r given.ready s left less e) (omega arith)
        (omega arith) less (two_less r (IsSentence s left) e));
    unknown = λ n r left e.
        let less : length left < length r.pending = shorter g r (IsUnknown left) e in
        let q : Run = record r { pending = left } in
        says_on (round_reads k) (k.prints 2) k.refusal (unknown_text g.game r.world) (line_dropped r) (Room 0 0 r) AtTimeFrame (says.unknown r.world)
        (λ given. lesser (round_reads k) (round_text k) (round_reads k) (k.refusal + k.prints 2) (line_dropped r)
        (dropped g valid condacts text k (round_reads k) (round_text k) q
        (phrase_room g valid condacts text k r given q (with_line g valid condacts text r given.ready left (omega (arith, less, given.ready.line))) (omega arith)
        (omega arith) less (two_less r (IsUnknown left) e))) (omega arith) (omega arith)) (omega arith) (omega arith);
    no_phrase = λ n r e.
        let words : Text = prompt_text g.game r.world in (
          λ fit x y h given. h (prompt_room (line_dropped r) words (says.prompt r.world) (dropped g valid condacts text k 0 0 r given)),
          λ long given.
              let room : Room 0 0 (line_dropped r) = dropped g valid condacts text k 0 0 r given in
              let fit : fits (line_dropped r) words ≡ true =
              le-leb (length r.current + length words) PIECE_LIMIT (omega (arith, enough.limit, says.prompt r.world, room.short)) in absurd cc,
        );
    acted = λ n r x y h so. h (lesser (reads_behind k 0) (text_behind k 0) (k.reads 2) (k.prints 2) r (room_left 0 true r so) (omega arith) (omega arith));
    leaves = λ n to r x y e h so.
        let w : World = with_flag r.world LOCATION_FLAG to in
        let room : Room (reads_behind k 0) (text_behind k 0) r = room_left 0 false r so in
        h (lesser (reads_behind k 0) (text_behind k 0) (reads_of k AtDescribe) (text_of k AtDescribe) (with_world w r)
        (moved g valid condacts text k (reads_behind k 0) (text_behind k 0) r room w (exit_of g.game valid.game r.world room.ready.world to e)) (omega arith)
        (omega arith));
    refuses = λ n r e.
        says_on (k.reads 2) (k.prints 2) k.refusal (refusal_text g.game r.world) (line_dropped r) (TableStays 0 (Left false r)) AtTimeFrame
        (says.refused r.world)
        (λ so. lesser (reads_behind k 0) (text_behind k 0) (k.reads 2) (k.refusal + k.prints 2) (line_dropped r)
        (dropped g valid condacts text k (reads_behind k 0) (text_behind k 0) r (room_left 0 false r so)) (omega arith) (omega arith)) (omega arith)
        (omega arith);
    described_so = λ n a r x y h so. h (room_left 1 a r so);
    framed = λ n t a r x y h so.
        let room : Room 0 0 r = room_left (suc (suc t)) a r so in
        h (moved g valid condacts text k 0 0 r room (time_frame_passed r.world) (time_frame_of g.game valid.game r.world room.ready.world));
    waits = λ n t p path r x is so. so.within;
    again = λ n t r x y h so. h (room_again t r so);
    restarts = λ n t r x y h so. h (room_anew t r so);
    halts = λ n t halt r so. halts_stay t halt r so;
    awaits = λ n r h. record { pieces = h.ready.closed.pieces; traces = h.ready.closed.traces };
    ignored = λ n r line lines x y h at.
        let so : AtPrompt (record r { events = lines }) lines = taken_line r line lines at in
        h (record {
          ready = closed_ready g valid condacts text (record r { events = lines }) so.ready (omega (arith, so.none)) (omega (arith, so.empty));
          none = omega arith;
          empty = omega arith;
          are = so.are;
        });
    times_out = λ n r line lines.
        let s : Run = record r { events = lines } in
        says_on (round_reads k) (k.prints 2) k.timeout (timeout_text g.game r.world) (hearing line lines r) (AtPrompt r (line ∷ lines)) AtTimeFrame
        (says.timeout r.world)
        (λ at.
        let so : AtPrompt s lines = taken_line r line lines at in
        lesser (round_reads k) (k.timeout + round_text k) (round_reads k) (k.timeout + k.prints 2) (hearing line lines r)
        (fresh (hearing line lines r) (heard_ready g valid condacts text line s so.ready) so.none so.empty) (omega arith) (omega arith)) (omega arith)
        (omega arith);
    takes_line = λ n r line lines x y h at.
        let s : Run = record r { events = lines } in
        let so : AtPrompt s lines = taken_line r line lines at in
        h (lesser (round_reads k) (k.timeout + round_text k) 0 0 (line_set line s)
        (fresh (line_set line s) (line_ready g valid condacts text line s (at.are 0 [] (omega arith)) so.ready) so.none so.empty) (omega arith) (omega arith));
  }
    where
      two_less : (r : Run) (p : Parsed) → coming_phrase g r ≡ p → LeavesBytes (IsTwoLess r.pending) p
      two_less r p e =
          subst (LeavesBytes (IsTwoLess r.pending)) e
          (phrases_take_two g.game r.pending r.earlier (flag r.world PRONOUN_NOUN_FLAG) (flag r.world PRONOUN_ADJECTIVE_FLAG))

  -- ---- readings ----

  -- The bound holds through any number of phases.
  turn_stays : (n : ℕ) (s : TurnPhase) (r : Run) → Room (reads_of k s) (text_of k s) r → Stays (turn g n s r)
  turn_stays = turns g itself (λ n. n) (λ n. refl) AnyWait (λ t r. ends_itself (table_read g t r)) relation steps

  ended : (e : Ending) → Stays e → e ≢ Unended → EndsWithin condacts text e
  ended (WaitsAt p path r) h some = h
  ended (Halted halt.Over r) h some = h
  ended (Halted (halt.Spent kind) r) h some = h
  ended (Halted (halt.TooDeep u) r) h some = h
  ended Unended h some = absurd (some refl)

  -- A reading waits or is over, with all its pieces within the bound.
  pub readings_stay : (seed : Seed) (es : Lines) → All IsLine es → EndsWithin condacts text (reading g seed es)
  readings_stay seed es are =
      let r : Run = opening g seed es in
      ended (reading g seed es)
      (turn_stays (phases_left r) AtDescribe r
      (lesser (round_reads k) (k.timeout + round_text k) (reads_of k AtDescribe) (text_of k AtDescribe) r
      (fresh r (opening_ready g valid condacts text seed es are) (omega arith) (omega arith)) (omega arith) (omega arith))) (turns_end g AtDescribe r)
