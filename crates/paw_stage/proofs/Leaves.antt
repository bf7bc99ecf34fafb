-- What a crash leaves of the attached store.
use Rattle.std.proofs.Common.{◌≡◌, ◌≢◌, ℕ, ◌+◌, ◌-◌, ◌<◌, Bool, true, false, List, [], ◌∷◌, ◌++◌, length, take, drop}
use Rattle.std.proofs.Common.{slice_index, refl, sym, ap, ◌∙◌, arith}
use Rattle.std.specs.Prelude.{Some, ◌||◌, ◌==◌, if◌then◌else◌, slice_range}
use Rattle.std.proofs.lemmas.List.{ext_get_or, take_all, length-drop, take-map, drop-map}
use Rattle.paw_base.specs.Bytes.{Bytes, Name}
use Rattle.paw_stage.specs.Disk.{Disk, is_dirty}
use Rattle.paw_stage.specs.Stage.{bytes_or_none}
use Rattle.paw_stage.specs.inner.Done.{DoneCall, fresh, after}
use Rattle.paw_stage.specs.inner.Crash.{bytes_after_crash, bytes_spoiled, spoiled_if}
use Rattle.paw_stage.specs.inner.Log.{done_in, all_done}
use Rattle.paw_stage.specs.inner.Seen.{writes, is_written, FindsStore}
use Rattle.paw_stage.specs.declared.log.Call.{Call}
use Rattle.paw_stage.specs.declared.replay.Store.{Store}
use Rattle.paw_stage.proofs.Disks.{length-spoiled, index-spoiled}
use Rattle.paw_stage.specs.inner.Filed.{after_filed}
use Rattle.paw_stage.proofs.Stores.{is_written-push}

spoiled_twice : (a b : Bool) (x : ℕ) → spoiled_if b (spoiled_if a x) ≡ spoiled_if (a || b) x
spoiled_twice true true x = refl
spoiled_twice true false x = refl
spoiled_twice false true x = refl
spoiled_twice false false x = refl

-- A byte that is spoiled by one call more.
pub spoiled_more : (ds : List DoneCall) (d : DoneCall) (j x y z : ℕ) → z ≡ spoiled_if (writes d.kind (length d.bytes) j) y →
    y ≡ spoiled_if (is_written ds j) x → z ≡ spoiled_if (is_written (ds ++ d ∷ []) j) x
spoiled_more ds d j x y z ez ey =
    ez ∙ (ap (spoiled_if (writes d.kind (length d.bytes) j)) ey
    ∙ (spoiled_twice (is_written ds j) (writes d.kind (length d.bytes) j) x
    ∙ ap (λ b. spoiled_if b x) (sym (is_written-push ds d j))))

-- The file of the attached store has its bytes.
pub store_file : (room : Bytes) (ds : List DoneCall) (store : Store) → FindsStore room ds (Some store) →
    bytes_or_none ((after fresh ds).files (slice_range room store.opened.from store.opened.mid))
    ≡ (after fresh ds).disk.bytes
store_file room ds store h = ap bytes_or_none (after_filed ds (slice_range room store.opened.from store.opened.mid) h.1.attached)

-- It had those at the last sync after the calls up to it.
pub synced_file : (room : Bytes) (calls : List Call) (store : Store) →
    FindsStore room (all_done room calls) (Some store) →
    bytes_or_none ((after fresh (all_done room (take store.synced calls))).files
    (slice_range room store.opened.from store.opened.mid)) ≡ (after fresh (all_done room calls)).disk.synced
synced_file room calls store h =
    let name : Name = slice_range room store.opened.from store.opened.mid in
    let front : all_done room (take store.synced calls) ≡ take store.synced (all_done room calls) = sym (take-map (done_in room) store.synced calls) in
    ap (λ ds. bytes_or_none ((after fresh ds).files name)) front
    ∙ (ap bytes_or_none (after_filed (take store.synced (all_done room calls)) name h.1.before) ∙ h.1.synced)

-- What is left of its bytes once those are spoiled that later calls wrote.
pub spoiled_file : (room : Bytes) (calls : List Call) (store : Store) (whole new : Bytes) →
    FindsStore room (all_done room calls) (Some store) → whole ≡ (after fresh (all_done room calls)).disk.bytes →
    length new ≡ length whole
    → ((j : ℕ) → j < length whole → slice_index new j
    ≡ spoiled_if (is_written (all_done room (take (length calls - store.synced) (drop store.synced calls))) j)
    (slice_index whole j))
    → new ≡ bytes_spoiled (after fresh (all_done room calls)).disk.dirty 0 (after fresh (all_done room calls)).disk.bytes
spoiled_file room calls store whole new h e size each =
    let d : Disk = (after fresh (all_done room calls)).disk in
    let rest : all_done room (take (length calls - store.synced) (drop store.synced calls))
    ≡ drop store.synced (all_done room calls) =
    ap (all_done room) (take_all (length calls - store.synced) (drop store.synced calls)
    (omega (arith, length-drop store.synced calls))) ∙ sym (drop-map (done_in room) store.synced calls) in
    let long : length (bytes_spoiled d.dirty 0 d.bytes) ≡ length d.bytes = length-spoiled d.dirty 0 d.bytes in
    ext_get_or 0 new (bytes_spoiled d.dirty 0 d.bytes) (omega (arith, size, long, ap length e)) (λ j low.
    each j (omega (arith, low, size))
    ∙ (ap (λ ds. spoiled_if (is_written ds j) (slice_index whole j)) rest
    ∙ (ap (λ b. spoiled_if b (slice_index whole j)) (sym (h.1.dirty j))
    ∙ (ap (λ l. spoiled_if (is_dirty d.dirty j) (slice_index l j)) e
    ∙ ((let z : j ≡ 0 + j = omega arith in ap (λ k. spoiled_if (is_dirty d.dirty k) (slice_index d.bytes j)) z)
    ∙ sym (index-spoiled d.dirty 0 d.bytes j (omega (arith, low, size, ap length e))))))))

-- Which pick leaves which bytes.
pub crashed_synced : (d : Disk) (pick : ℕ) → pick ≡ 0 → bytes_after_crash d pick ≡ d.synced
crashed_synced d pick e = ap (bytes_after_crash d) e

pub crashed_read : (d : Disk) (pick : ℕ) → pick ≡ 1 → bytes_after_crash d pick ≡ d.bytes
crashed_read d pick e = ap (bytes_after_crash d) e

pub crashed_other : (d : Disk) (pick : ℕ) → pick ≢ 0 → pick ≢ 1 → bytes_after_crash d pick ≡ bytes_spoiled d.dirty 0 d.bytes
crashed_other d pick n m =
    let a : (pick == 0) ≡ false = grind arith in
    let b : (pick == 1) ≡ false = grind arith in
    ap (λ x. if x then d.synced else if pick == 1 then d.bytes else bytes_spoiled d.dirty 0 d.bytes) a
    ∙ ap (λ x. if x then d.bytes else bytes_spoiled d.dirty 0 d.bytes) b
