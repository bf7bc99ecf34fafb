-- Kept frames follow their rules exactly where they are frames of a run.
use Rattle.std.proofs.Common.{◌≡◌, ℕ, zero, suc, ◌-◌, ◌≤◌, ◌<◌, Bool, true, false, ◌&&◌, List, [], ◌∷◌, ◌++◌, Option}
use Rattle.std.proofs.Common.{Some}
use Rattle.std.proofs.Common.{None, refl, sym, ap, ◌∙◌, subst, length, take, replicate, reverse, slice_get, arith}
use Rattle.std.proofs.Common.{length-append}
use Rattle.std.specs.Prelude.{if◌then◌else◌, nat_lt, IfSome}
use Rattle.std.specs.Option.{option_or}
use Rattle.std.proofs.lemmas.Bool.Decides.{nat_tests}
use Rattle.std.proofs.lemmas.Bool.{eqb-true, ltb-true, leb-true}
use Rattle.std.proofs.lemmas.List.{length-replicate, length-take, reverse-reverse}
use Rattle.paw_base.specs.declared.codes.TheConstants.{QUIT, END, ANYKEY, PROCESS, DOALL}
use Rattle.paw_base.specs.declared.tables.TheConstants.{FRAME_TABLE}
use Rattle.paw_base.specs.declared.parts.Condact.{Condact}
use Rattle.paw_game.specs.Game.{GameLists}
use Rattle.paw_game.specs.Tables.{condact_at}
use Rattle.paw_game.specs.Valid.{is_place}
use Rattle.paw_effects.specs.declared.act.Prompt.{Prompt}
use Rattle.paw_effects.specs.declared.act.Prompt.TheVariants as prompt
use Rattle.paw_reading.specs.declared.frames.Frame.{Frame}
use Rattle.paw_reading.specs.declared.frames.OpenLoop.{OpenLoop}
use Rattle.paw_reading.specs.Turn.{first_table}
use Rattle.paw_reading.specs.inner.Waits.{LeadsTo, tables_of, IsLoopIn, AreOpenTo, AreOpenAt, AreFramesAndLoop}
use Rattle.paw_process.specs.Kept.{frames_at, has_code, may_open, parameter_of}
use Rattle.paw_process.specs.inner.Kept.{blank_frame}
use Rattle.paw_process.specs.inner.Kept.{condact_at_frame, frame_stands, first_frame_fault}
use Rattle.paw_process.proofs.OpenFrames.{table_of}
use Rattle.paw_process.specs.Kept.{count_fits}
use Rattle.paw_process.specs.inner.Kept.{is_that_table}
use Rattle.paw_process.specs.inner.Kept.{loop_stands, loop_fault, fault_at, frames_fault}
use Rattle.paw_process.specs.declared.machine.TheConstants.{MOST_FRAMES}
use Rattle.paw_process.specs.declared.kept.Frames.{Frames}
use Rattle.paw_process.proofs.PathFrames.{unused_stand, frame_calls, path_stands, loop_fits, both_none}
use Rattle.paw_process.proofs.Restored.{first_of, second, no_first, none_open}

-- ---- the frames of a run ----

some_table : (g : GameLists) (code : ℕ) (path : List Frame) → LeadsTo g code path → 0 < length path
some_table g code [] leads = absurd leads
some_table g code (f ∷ path) leads = omega arith

pub frames_fit : (g : GameLists) (code : Option ℕ) (path : List Frame) (turning : Option OpenLoop) → AreOpenAt g code path turning
    → fault_at g code (frames_at path turning) ≡ None
frames_fit g None path turning at =
    rw (at.0, at.1) (both_none (first_frame_fault g 0 None 0 0 (replicate MOST_FRAMES blank_frame)) None (unused_stand g 0 None 0 MOST_FRAMES) refl)
frames_fit g (Some code) path turning at =
    let fits : count_fits (Some code) (length path) ≡ true = let few = at.few in let some = some_table g code path at.leads in grind (arith, nat_tests) in
    let opens : may_open None (first_table path) ≡ true = let low = at.outermost in grind (arith, nat_tests) in
    rw fits
    (both_none (first_frame_fault g code None (length path) 0 (path ++ replicate (MOST_FRAMES - length path) blank_frame))
    (loop_fault g (frames_at path turning) turning)
    (path_stands g code None path 0 (MOST_FRAMES - length path) at.leads opens)
    (loop_fits g path (replicate (MOST_FRAMES - length path) blank_frame) (length path) turning turning refl at.loop))

-- There are eleven frames.
pub eleven_frames : (g : GameLists) (code : Option ℕ) (path : List Frame) (turning : Option OpenLoop) → AreOpenAt g code path turning
    → length (frames_at path turning).rows ≡ MOST_FRAMES
eleven_frames g None path turning at = rw at.0 refl
eleven_frames g (Some code) path turning at =
    omega (arith, length-append path (replicate (MOST_FRAMES - length path) blank_frame), length-replicate (MOST_FRAMES - length path) blank_frame, at.few)

-- ---- frames that stand are those of a run ----

coded : (code : ℕ) (o : Option Condact) → has_code code o ≡ true → (c : Condact) × ((o ≡ Some c) × (c.code ≡ code))
coded code None h = cc
coded code (Some c) h = (c, (refl, eqb-true c.code code h))

opened_by : (c : Condact) (u : ℕ) (o : Option Condact) → o ≡ Some c → may_open (Some (parameter_of o)) u ≡ true → c.a ≡ u
opened_by c u o at h = sym (eqb-true u c.a (rw at at h))

-- What a frame that stands says.
record FrameStands (g : GameLists) (code : ℕ) (caller : Option ℕ) (f : Frame) : Type 0 where
  opens : may_open caller f.table ≡ true
  condact : Condact
  stands : condact_at_frame g f ≡ Some condact
  is : condact.code ≡ code

frame_says : (g : GameLists) (code : ℕ) (caller : Option ℕ) (f : Frame) → (may_open caller f.table && has_code code (condact_at_frame g f)) ≡ true →
    FrameStands g code caller f
frame_says g code caller f h =
    let at = coded code (condact_at_frame g f) (second (may_open caller f.table) _ h) in
    record { opens = first_of (may_open caller f.table) _ h; condact = at.0; stands = at.1.0; is = at.1.1 }

later_frames : (g : GameLists) (code : ℕ) (caller : Option ℕ) (n d : ℕ) (f : Frame) (fs : List Frame) →
    first_frame_fault g code caller (suc n) d (f ∷ fs) ≡ None
    → (frame_stands g code caller (suc n) f ≡ true) × (first_frame_fault g code (Some (parameter_of (condact_at_frame g f))) n (suc d) fs ≡ None)
unfolding first_frame_fault
later_frames g code caller n d f fs h = go (frame_stands g code caller (suc n) f) refl h
  where
    go : (b : Bool) → frame_stands g code caller (suc n) f ≡ b
        → ◌≡◌ {A = Option ℕ} (if b then first_frame_fault g code (Some (parameter_of (condact_at_frame g f))) (suc n - 1) (suc d) fs else Some d) None
        → (frame_stands g code caller (suc n) f ≡ true) × (first_frame_fault g code (Some (parameter_of (condact_at_frame g f))) n (suc d) fs ≡ None)
    go true e q = let m : suc n - 1 ≡ n = omega arith in (e, rw m at q)
    go false e q = cc

-- The frames that are used lead to the condact.
frames_lead : (g : GameLists) (code : ℕ) (caller : Option ℕ) (n d : ℕ) (rows : List Frame) → suc n ≤ length rows →
    first_frame_fault g code caller (suc n) d rows ≡ None
    → LeadsTo g code (take (suc n) rows) × (may_open caller (first_table (take (suc n) rows)) ≡ true)
frames_lead g code caller n d [] size h = absurd (omega arith)
frames_lead g code caller zero d (f ∷ fs) size h =
    let row = frame_says g code caller f (later_frames g code caller 0 d f fs h).0 in
    (record { condact = row.condact; stands = row.stands; is = row.is }, row.opens)
frames_lead g code caller (suc n) d (f ∷ []) size h = absurd (omega arith)
frames_lead g code caller (suc n) d (f ∷ i ∷ fs) size h =
    let rows = later_frames g code caller (suc n) d f (i ∷ fs) h in
    let row = frame_says g PROCESS caller f (sym (frame_calls g code caller n f) ∙ rows.0) in
    let rest = frames_lead g code (Some (parameter_of (condact_at_frame g f))) n (suc d) (i ∷ fs) (omega arith) rows.1 in (
      (
        record {
          condact = row.condact;
          stands = row.stands;
          process = row.is;
          called = opened_by row.condact i.table (condact_at_frame g f)
              row.stands rest.1;
        },
        rest.0,
      ),
      row.opens,
    )

table_in : (rows : List Frame) (count i t : ℕ) → i < count → is_that_table (table_of (slice_get rows i)) t ≡ true
    → slice_get (tables_of (take count rows)) i ≡ Some t
table_in [] count i t low h = cc
table_in (f ∷ rows) zero i t low h = absurd (omega arith)
table_in (f ∷ rows) (suc count) zero t low h = ap Some (sym (eqb-true t f.table h))
table_in (f ∷ rows) (suc count) (suc i) t low h = table_in rows count i t (omega arith) h

loop_in : (g : GameLists) (k : Frames) (o : Option OpenLoop) → loop_fault g k o ≡ None → IfSome o (IsLoopIn g (tables_of (take k.count k.rows)))
loop_in g k None h = tt
loop_in g k (Some l) h = go (loop_stands g k l) refl h
  where
    go : (b : Bool) → loop_stands g k l ≡ b → ◌≡◌ {A = Option ℕ} (if b then None else Some MOST_FRAMES) None → IsLoopIn g (tables_of (take k.count k.rows)) l
    go true e q =
        let own = second (nat_lt l.level k.count) _ e in
        let later = second (is_that_table (table_of (slice_get k.rows l.level)) l.table) _ own in
        let last = second (has_code DOALL (condact_at g l.table l.entry l.at)) _ later in
        let at = coded DOALL (condact_at g l.table l.entry l.at) (first_of (has_code DOALL (condact_at g l.table l.entry l.at)) _ later) in
        record {
          level =
              table_in k.rows k.count l.level l.table (ltb-true l.level k.count (first_of (nat_lt l.level k.count) _ e))
              (first_of (is_that_table (table_of (slice_get k.rows l.level)) l.table) _ own);
          doall = record { condact = at.0; stands = at.1.0; is = at.1.1 };
          place = first_of (is_place (length g.locations) l.place) _ last;
          last = ltb-true l.last (length g.objects) (second (is_place (length g.locations) l.place) _ last);
        }
    go false e q = cc

open_frames : (g : GameLists) (code : ℕ) (k : Frames) → length k.rows ≡ MOST_FRAMES → fault_at g (Some code) k ≡ None
    → AreOpenTo g code (take k.count k.rows) k.turning
open_frames g code k size h = go (count_fits (Some code) k.count) refl h
  where
    at : (n : ℕ) → 0 < n → n ≤ MOST_FRAMES → n ≡ k.count → first_frame_fault g code None n 0 k.rows ≡ None → loop_fault g k k.turning ≡ None
        → AreOpenTo g code (take k.count k.rows) k.turning
    at zero some few is rows loop = absurd (omega arith)
    at (suc n) some few is rows loop =
        let lead = frames_lead g code None n 0 k.rows (omega (arith, size)) rows in
        record {
          few = omega (arith, few, is, length-take k.count k.rows);
          outermost = leb-true (first_table (take k.count k.rows)) FRAME_TABLE (subst (λ m. may_open None (first_table (take m k.rows)) ≡ true) is lead.1);
          leads = subst (λ m. LeadsTo g code (take m k.rows)) is lead.0;
          loop = loop_in g k k.turning loop;
        }

    go : (b : Bool) → count_fits (Some code) k.count ≡ b
        → ◌≡◌ {A = Option ℕ} (if b then option_or (first_frame_fault g code None k.count 0 k.rows) (loop_fault g k k.turning) else Some 0) None
        → AreOpenTo g code (take k.count k.rows) k.turning
    go true e q =
        let fits = no_first (first_frame_fault g code None k.count 0 k.rows) (loop_fault g k k.turning) q in
        at k.count (ltb-true 0 k.count (first_of (nat_lt 0 k.count) _ e)) (leb-true k.count MOST_FRAMES (second (nat_lt 0 k.count) _ e)) refl fits.0 fits.1
    go false e q = cc

-- The other way round: kept frames that follow their rules are those of a run.
pub kept_frames_of_run : (g : GameLists) (p : Prompt) (k : Frames) → length k.rows ≡ MOST_FRAMES → frames_fault g p k ≡ None
    → AreFramesAndLoop g p (reverse (reverse (take k.count k.rows))) k.turning
kept_frames_of_run g prompt.Main k size h = let closed = none_open g k h in (ap (λ (s : List Frame). reverse s) closed.frames, closed.turning)
kept_frames_of_run g prompt.Quit k size h = rw (reverse-reverse (take k.count k.rows)) (open_frames g QUIT k size h)
kept_frames_of_run g prompt.Again k size h = rw (reverse-reverse (take k.count k.rows)) (open_frames g END k size h)
kept_frames_of_run g prompt.Key k size h = rw (reverse-reverse (take k.count k.rows)) (open_frames g ANYKEY k size h)
kept_frames_of_run g prompt.Over k size h = let closed = none_open g k h in (ap (λ (s : List Frame). reverse s) closed.frames, closed.turning)
