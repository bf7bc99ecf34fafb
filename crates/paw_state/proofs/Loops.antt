-- The open loop of a state, and that of a machine.
use Rattle.std.proofs.Common.{◌≡◌, ℕ, zero, suc, ◌<◌, ◌≤◌, ◌==◌, Bool, true, false, List, Option}
use Rattle.std.proofs.Common.{Some, None, length, map, is_some, nat_le, nat_lt, refl, sym, ap, ◌∙◌, arith, subst}
use Rattle.std.specs.Prelude.{if◌then◌else◌, slice_get}
use Rattle.std.specs.Option.{option_map, option_map_or}
use Rattle.paw_base.specs.declared.codes.TheConstants.{DOALL}
use Rattle.std.proofs.lemmas.Option.{slice_get-map}
use Rattle.std.proofs.lemmas.Bool.{eqb-true, leb-true, ltb-true}
use Rattle.std.proofs.lemmas.Bool.Decides.{nat_tests}
use Rattle.paw_game.specs.Game.{GameLists}
use Rattle.paw_game.specs.Valid.{is_place}
use Rattle.paw_game.specs.Tables.{head_at, condact_at}
use Rattle.paw_reading.specs.declared.frames.Frame.{Frame}
use Rattle.paw_reading.specs.declared.frames.OpenLoop.{OpenLoop}
use Rattle.paw_process.specs.declared.machine.TheConstants.{MOST_FRAMES}
use Rattle.paw_process.specs.declared.kept.Frames.{Frames}
use Rattle.paw_process.specs.Kept.{has_code}
use Rattle.paw_process.specs.inner.Kept.{is_that_table}
use Rattle.paw_process.specs.inner.Kept.{loop_stands}
use Rattle.paw_process.specs.inner.Kept.{loop_fault as machine_fault}
use Rattle.paw_process.proofs.Restored.{first_of, second}
use Rattle.paw_process.proofs.OpenFrames.{table_of}
use Rattle.paw_state.specs.declared.fields.TheConstants.{LOOP_LEVEL, LOOP_TABLE, LOOP_ENTRY, LOOP_AT, LOOP_PLACE}
use Rattle.paw_state.specs.declared.fields.TheConstants.{LOOP_LAST, EARLIER}
use Rattle.paw_state.specs.declared.fields.FrameField.{FrameField}
use Rattle.paw_state.specs.declared.fields.Fields.{Fields}
use Rattle.paw_state.specs.State.{frame_field_of}
use Rattle.paw_state.specs.inner.State.{loop_or_zeros}
use Rattle.paw_state.specs.inner.Parts.{frame_in, open_loop_in, frames_in}
use Rattle.paw_state.specs.Fields.{fault_from, if_there, loop_fields}
use Rattle.paw_state.proofs.Firsts.{first_holds, all_hold, nothing_left, table_same}
use Rattle.paw_state.proofs.Frames.{both, head_there}

-- Where no loop is open the loop's bytes are 0; else the loop follows its rules.
abbrev pub turning_rest : GameLists → Fields → Option ℕ
turning_rest g f = fault_from g LOOP_LEVEL (loop_fields f f.turning)

-- 1 for what is there, 0 for what isn't.
abbrev pub presence : {A : Type 0} → Option A → ℕ
presence o = if is_some o then 1 else 0

-- The table of a frame that may be there.
abbrev frame_table : Option FrameField → Option ℕ
frame_table o = option_map (λ r. r.table) o

-- Each field of the loop follows its rule, where no loop is open or where one is.
record RuledLoop (g : GameLists) (f : Fields) (closed : Bool) (l : OpenLoop) : Type 0 where
  level : (if closed then l.level == 0 else nat_lt l.level f.count) ≡ true
  table : (if closed then l.table == 0 else option_map_or (λ r. l.table == r.table) (slice_get f.rows l.level) false) ≡ true
  entry : (if closed then l.entry == 0 else is_some (head_at g l.table l.entry)) ≡ true
  at : (if closed then l.at == 0 else has_code DOALL (condact_at g l.table l.entry l.at)) ≡ true
  place : (if closed then l.place == 0 else is_place (length g.locations) l.place) ≡ true
  last : (if closed then l.last == 0 else nat_lt l.last (length g.objects)) ≡ true

ruled_loop : (g : GameLists) (f : Fields) (l : OpenLoop) → fault_from g LOOP_LEVEL (loop_fields f l) ≡ None → RuledLoop g f (f.looping == 0) l
unfolding if_there
ruled_loop g f l h =
    let p0 = first_holds g LOOP_LEVEL _ _ h in
    let p1 = first_holds g LOOP_TABLE _ _ p0.1 in
    let p2 = first_holds g LOOP_ENTRY _ _ p1.1 in
    let p3 = first_holds g LOOP_AT _ _ p2.1 in
    let p4 = first_holds g LOOP_PLACE _ _ p3.1 in
    let p5 = first_holds g LOOP_LAST _ _ p4.1 in
    record { level = p0.0; table = p1.0; entry = p2.0; at = p3.0; place = p4.0; last = p5.0 }

loop_ruled : (g : GameLists) (f : Fields) (l : OpenLoop) → RuledLoop g f (f.looping == 0) l → fault_from g LOOP_LEVEL (loop_fields f l) ≡ None
unfolding if_there
loop_ruled g f l r =
    all_hold g LOOP_LEVEL _ _ r.level (all_hold g LOOP_TABLE _ _ r.table (all_hold g LOOP_ENTRY _ _ r.entry (all_hold g LOOP_AT _ _ r.at
    (all_hold g LOOP_PLACE _ _ r.place (all_hold g LOOP_LAST _ _ r.last (nothing_left g EARLIER))))))

-- ---- fields without a fault ----

zeros_loop : (g : GameLists) (f : Fields) (l : OpenLoop) → RuledLoop g f true l → loop_or_zeros None ≡ l
zeros_loop g f l r =
    let level : l.level ≡ 0 = eqb-true l.level 0 r.level in
    let table : l.table ≡ 0 = eqb-true l.table 0 r.table in
    let entry : l.entry ≡ 0 = eqb-true l.entry 0 r.entry in
    let at : l.at ≡ 0 = eqb-true l.at 0 r.at in
    let place : l.place ≡ 0 = eqb-true l.place 0 r.place in
    let last : l.last ≡ 0 = eqb-true l.last 0 r.last in
    let e : ◌≡◌ {A = OpenLoop} (record { level = 0; table = 0; entry = 0; at = 0; place = 0; last = 0 })
    (record { level = l.level; table = l.table; entry = l.entry; at = l.at; place = l.place; last = l.last }) = cc in e

pub turning_back : (g : GameLists) (f : Fields) → turning_rest g f ≡ None → loop_or_zeros (open_loop_in f) ≡ f.turning
turning_back g f h = go (f.looping == 0) (ruled_loop g f f.turning h)
  where
    go : (b : Bool) → RuledLoop g f b f.turning → loop_or_zeros (if b then None else Some f.turning) ≡ f.turning
    go true r = zeros_loop g f f.turning r
    go false r = refl

-- A byte that is 0 or 1 says whether something is there.
pub presence_back : {A : Type 0} → (x : A) (n : ℕ) → n ≤ 1 → presence (if n == 0 then None else Some x) ≡ n
presence_back x zero low = refl
presence_back x (suc zero) low = refl
presence_back x (suc (suc n)) low = absurd (omega (arith, low))

pub looping_low : (n m : ℕ) → nat_le n (if m == 0 then 0 else 1) ≡ true → n ≤ 1
looping_low n m h = go (m == 0) h
  where
    go : (b : Bool) → nat_le n (if b then 0 else 1) ≡ true → n ≤ 1
    go true q = let k = leb-true n 0 q in omega arith
    go false q = leb-true n 1 q

same_table : (o : Option FrameField) → frame_table o ≡ table_of (option_map frame_in o)
same_table None = refl
same_table (Some r) = refl

frame_field_of_level : (rows : List FrameField) (i : ℕ) → frame_table (slice_get rows i) ≡ table_of (slice_get (map frame_in rows) i)
frame_field_of_level rows i = same_table (slice_get rows i) ∙ ap table_of (sym (slice_get-map frame_in rows i))

stands : (g : GameLists) (f : Fields) (l : OpenLoop) → RuledLoop g f false l → loop_stands g (frames_in f) l ≡ true
stands g f l r =
    let t : is_that_table (table_of (slice_get (map frame_in f.rows) l.level)) l.table ≡ true =
    ap (λ (o : Option ℕ). is_that_table o l.table) (sym (frame_field_of_level f.rows l.level))
    ∙ (sym (table_same l.table (slice_get f.rows l.level)) ∙ r.table) in
    both (nat_lt l.level f.count) _ r.level
    (both (is_that_table (table_of (slice_get (map frame_in f.rows) l.level)) l.table) _ t
    (both (has_code DOALL (condact_at g l.table l.entry l.at)) _ r.at
    (both (is_place (length g.locations) l.place) (nat_lt l.last (length g.objects)) r.place r.last)))

pub loop_sound : (g : GameLists) (f : Fields) → turning_rest g f ≡ None → machine_fault g (frames_in f) (open_loop_in f) ≡ None
loop_sound g f h = go (f.looping == 0) (ruled_loop g f f.turning h)
  where
    go : (b : Bool) → RuledLoop g f b f.turning → machine_fault g (frames_in f) (if b then None else Some f.turning) ≡ None
    go true r = refl
    go false r = let s = stands g f f.turning r in rw s refl

-- ---- a machine without a fault ----

same_frame : (o : Option Frame) → table_of o ≡ frame_table (option_map frame_field_of o)
same_frame None = refl
same_frame (Some f) = refl

frame_of_level : (frames : List Frame) (i : ℕ) → table_of (slice_get frames i) ≡ frame_table (slice_get (map frame_field_of frames) i)
frame_of_level frames i = same_frame (slice_get frames i) ∙ ap frame_table (sym (slice_get-map frame_field_of frames i))

pub loop_found : (g : GameLists) (k : Frames) (f : Fields) → f.count ≡ k.count → f.rows ≡ map frame_field_of k.rows → f.looping ≡ presence k.turning
    → f.turning ≡ loop_or_zeros k.turning → machine_fault g k k.turning ≡ None → turning_rest g f ≡ None
loop_found g k f count rows looping turning h =
    loop_ruled g f f.turning
    (subst (λ (n : ℕ). RuledLoop g f (n == 0) f.turning) (sym looping)
    (subst (λ (l : OpenLoop). RuledLoop g f (presence k.turning == 0) l) (sym turning) (go k.turning h)))
  where
    kept : (l : OpenLoop) → loop_stands g k l ≡ true → RuledLoop g f false l
    kept l s =
        let s1 = second (nat_lt l.level k.count) _ s in
        let s2 = second (is_that_table (table_of (slice_get k.rows l.level)) l.table) _ s1 in
        let s3 = second (has_code DOALL (condact_at g l.table l.entry l.at)) _ s2 in
        let code = first_of (has_code DOALL (condact_at g l.table l.entry l.at)) _ s2 in
        let low : nat_lt l.level f.count ≡ true = ap (nat_lt l.level) count ∙ first_of (nat_lt l.level k.count) _ s in
        let table : is_that_table (frame_table (slice_get f.rows l.level)) l.table ≡ true =
        ap (λ (rs : List FrameField). is_that_table (frame_table (slice_get rs l.level)) l.table) rows
        ∙ (ap (λ (o : Option ℕ). is_that_table o l.table) (sym (frame_of_level k.rows l.level))
        ∙ first_of (is_that_table (table_of (slice_get k.rows l.level)) l.table) _ s1) in
        record {
          level = low;
          table = table_same l.table (slice_get f.rows l.level) ∙ table;
          entry = head_there g DOALL l.table l.entry l.at code;
          at = code;
          place = first_of (is_place (length g.locations) l.place) _ s3;
          last = second (is_place (length g.locations) l.place) _ s3;
        }

    tested : (l : OpenLoop) (b : Bool) → loop_stands g k l ≡ b → ◌≡◌ {A = Option ℕ} (if b then None else Some MOST_FRAMES) None → RuledLoop g f false l
    tested l true e q = kept l e
    tested l false e q = cc

    go : (o : Option OpenLoop) → machine_fault g k o ≡ None → RuledLoop g f (presence o == 0) (loop_or_zeros o)
    go None q = record { level = refl; table = refl; entry = refl; at = refl; place = refl; last = refl }
    go (Some l) q = tested l (loop_stands g k l) refl q

pub loop_counted : (g : GameLists) (k : Frames) → machine_fault g k k.turning ≡ None → nat_le (presence k.turning) (if k.count == 0 then 0 else 1) ≡ true
loop_counted g k h = go k.turning h
  where
    some : (n : ℕ) → 0 < n → nat_le 1 (if n == 0 then 0 else 1) ≡ true
    some zero low = absurd (omega (arith, low))
    some (suc n) low = let e : (suc n == 0) ≡ false = grind (arith, nat_tests) in rw e refl

    tested : (l : OpenLoop) (b : Bool) → loop_stands g k l ≡ b → ◌≡◌ {A = Option ℕ} (if b then None else Some MOST_FRAMES) None
        → nat_le 1 (if k.count == 0 then 0 else 1) ≡ true
    tested l true e q = let low : l.level < k.count = ltb-true l.level k.count (first_of (nat_lt l.level k.count) _ e) in some k.count (omega arith)
    tested l false e q = cc

    none : (b : Bool) → nat_le 0 (if b then 0 else 1) ≡ true
    none true = refl
    none false = refl

    go : (o : Option OpenLoop) → machine_fault g k o ≡ None → nat_le (presence o) (if k.count == 0 then 0 else 1) ≡ true
    go None q = none (k.count == 0)
    go (Some l) q = tested l (loop_stands g k l) refl q
