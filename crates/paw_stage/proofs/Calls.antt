-- What each call of the stage in memory does, by its record.
use Rattle.std.proofs.Common.{◌≡◌, ℕ, ◌+◌, ◌-◌, [], ◌∷◌, ◌++◌, length, drop, inl, inr, refl, sym, ap, ◌∙◌, subst, arith}
use Rattle.std.specs.Prelude.{Some, Bool, true, false}
use Rattle.paw_base.specs.Bytes.{Bytes, Name, Lines}
use Rattle.paw_stage.specs.Disk.{stable}
use Rattle.paw_stage.specs.Stage.{Standing, with_store_opened, InAsk, InAttach, InSync}
use Rattle.paw_stage.specs.Moments.{Passes}
use Rattle.paw_stage.specs.inner.Done.{DoneCall, fresh, standing_after, after_call_of, after, file_replaced}
use Rattle.paw_stage.specs.inner.Done.{attached_store, synced_store, taken_line}
use Rattle.paw_stage.specs.inner.Replay.{MayStand, StandsInside, since_of}
use Rattle.paw_stage.specs.declared.log.CallKind.{CallKind}
use Rattle.paw_stage.specs.declared.log.CallKind.TheVariants as kind
use Rattle.paw_stage.specs.inner.Log.{Logged, logged_in_spare_room}
use Rattle.paw_stage.specs.inner.Memory.{Memory, standing_of, clock_of, moments_of, lines_when, lines_now, stands_now}
use Rattle.paw_stage.specs.inner.Memory.{IsWithLines}
use Rattle.paw_stage.proofs.Logs.{after-push}
use Rattle.paw_stage.proofs.Replays.{passes}
use Rattle.paw_stage.proofs.Time.{Passes_map, Passes_image}
use Rattle.paw_stage.proofs.Disks.{IsDisk, after_disk, synced_leaves}

-- Whether a call takes a line.
abbrev pub takes : CallKind → Bool
takes kind.Take = true
takes _ = false

-- As many lines were asked for after any other call as before it, and at each moment inside it.
asked_after : (k : CallKind) (name bytes : Bytes) (s : Standing) → takes k ≡ false → (after_call_of k name bytes s).asked ≡ s.asked
asked_after kind.Add name bytes s stays = refl
asked_after kind.Load name bytes s stays = refl
asked_after kind.Save name bytes s stays = refl
asked_after kind.Attach name bytes s stays = refl
asked_after kind.Read name bytes s stays = refl
asked_after (kind.Write at) name bytes s stays = refl
asked_after kind.Sync name bytes s stays = refl
asked_after kind.Take name bytes s stays = cc
asked_after kind.End name bytes s stays = refl
asked_after kind.Show name bytes s stays = refl

same_asked : (s m : Standing) → m ≡ s → m.asked ≡ s.asked
same_asked s m e = ap (λ (q : Standing). q.asked) e

asked_inside : (k : CallKind) (name bytes : Bytes) (s m : Standing) → takes k ≡ false → MayStand k name bytes s m → m.asked ≡ s.asked
asked_inside kind.Add name bytes s m stays (inl e) = same_asked s m e
asked_inside kind.Add name bytes s m stays (inr e) = same_asked (file_replaced name (Some bytes) s) m e
asked_inside kind.Load name bytes s m stays e = same_asked s m e
asked_inside kind.Save name bytes s m stays (inl e) = same_asked s m e
asked_inside kind.Save name bytes s m stays (inr h) = ap (λ (q : Standing). q.asked) h.1.stands
asked_inside kind.Attach name bytes s m stays (inl e) = same_asked s m e
asked_inside kind.Attach name bytes s m stays (inr (inl e)) = ap (λ (q : Standing). q.asked) e
asked_inside kind.Attach name bytes s m stays (inr (inr e)) = ap (λ (q : Standing). q.asked) e
asked_inside kind.Read name bytes s m stays e = same_asked s m e
asked_inside (kind.Write at) name bytes s m stays (inl e) = same_asked s m e
asked_inside (kind.Write at) name bytes s m stays (inr h) = ap (λ (q : Standing). q.asked) h.4
asked_inside kind.Sync name bytes s m stays (inl e) = same_asked s m e
asked_inside kind.Sync name bytes s m stays (inr e) = ap (λ (q : Standing). q.asked) e
asked_inside kind.Take name bytes s m stays h = cc
asked_inside kind.End name bytes s m stays e = same_asked s m e
asked_inside kind.Show name bytes s m stays h = ap (λ (q : Standing). q.asked) h.1

-- What may stand inside a call doesn't depend on the lines that are left.
with_lines : Lines → Standing → Standing
with_lines lines s = record s { lines = lines }

left_inside : (k : CallKind) (name bytes : Bytes) (l : Lines) (s m : Standing) → MayStand k name bytes s m →
    MayStand k name bytes (record s { lines = l }) (record m { lines = l })
unfolding with_lines
left_inside kind.Add name bytes l s m (inl e) = inl (ap (with_lines l) e)
left_inside kind.Add name bytes l s m (inr e) = inr (ap (with_lines l) e)
left_inside kind.Load name bytes l s m e = ap (with_lines l) e
left_inside kind.Save name bytes l s m (inl e) = inl (ap (with_lines l) e)
left_inside kind.Save name bytes l s m (inr h) =
    inr (h.0, record { disk = h.1.disk; apart = h.1.apart; store = h.1.store; stays = h.1.stays; stands = ap (with_lines l) h.1.stands })
left_inside kind.Attach name bytes l s m (inl e) = inl (ap (with_lines l) e)
left_inside kind.Attach name bytes l s m (inr (inl e)) = inr (inl (ap (with_lines l) e))
left_inside kind.Attach name bytes l s m (inr (inr e)) = inr (inr (ap (with_lines l) e))
left_inside kind.Read name bytes l s m e = ap (with_lines l) e
left_inside (kind.Write at) name bytes l s m (inl e) = inl (ap (with_lines l) e)
left_inside (kind.Write at) name bytes l s m (inr h) = inr (h.0, h.1, h.2, h.3, ap (with_lines l) h.4)
left_inside kind.Sync name bytes l s m (inl e) = inl (ap (with_lines l) e)
left_inside kind.Sync name bytes l s m (inr e) = inr (ap (with_lines l) e)
left_inside kind.Take name bytes l s m (inl e) = inl (ap (with_lines l) e)
left_inside kind.Take name bytes l s m (inr e) = inr (ap (with_lines l) e)
left_inside kind.End name bytes l s m e = ap (with_lines l) e
left_inside kind.Show name bytes l s m h = (h.0, ap (with_lines l) h.1)

-- What the record makes of nothing, once a call was recorded.
pub replayed : (m n : Memory) (l : Logged) (d : DoneCall) → m.log ≡ l → n.log ≡ logged_in_spare_room d l →
    after fresh n.log.calls ≡ standing_after (after fresh m.log.calls) d
replayed m n l d em en =
    ap (λ (k : Logged). after fresh k.calls) en ∙ ap (λ (k : Logged). after fresh (k.calls ++ d ∷ [])) (sym em)
    ∙ after-push fresh m.log.calls d

-- What stands after a call that was recorded.
pub stood : (m n : Memory) (l : Logged) (d : DoneCall) → m.log ≡ l → n.log ≡ logged_in_spare_room d l → n.lines ≡ m.lines →
    standing_of n ≡ record (standing_after (after fresh m.log.calls) d) { lines = m.lines }
unfolding with_lines
stood m n l d em en el =
    ap (λ k. with_lines k (after fresh n.log.calls)) el ∙ ap (with_lines m.lines) (replayed m n l d em en)

-- The moments of a call that was recorded, where after it the same lines were left at each of them.
pub passed_with : (m n : Memory) (l : Logged) (d : DoneCall) → m.log ≡ l → n.log ≡ logged_in_spare_room d l →
    ((k : ℕ) → lines_when n k ≡ lines_when m k) →
    Passes (clock_of m) (clock_of n) (moments_of m) (moments_of n) (IsWithLines m (StandsInside (after fresh m.log.calls) d))
passed_with m n l d em en same =
    let calls : n.log.calls ≡ m.log.calls ++ d ∷ [] = ap (λ (k : Logged). k.calls) en ∙ ap (λ (k : Logged). k.calls ++ d ∷ []) (sym em) in
    Passes_image (clock_of m) (clock_of n) (since_of m.log.calls) (since_of n.log.calls) (StandsInside (after fresh m.log.calls) d)
    (λ s. record s { lines = lines_when m s.asked }) (λ s. record s { lines = lines_when n s.asked })
    (λ s. ap (λ k. record s { lines = k }) (same s.asked))
    (subst (λ ds. Passes (length m.log.calls) (length ds) (since_of m.log.calls) (since_of ds)
    (StandsInside (after fresh m.log.calls) d)) (sym calls) (passes m.log.calls d))

-- What stands inside a call that takes no line.
still_left : (m : Memory) (d : DoneCall) (x : Standing) → takes d.kind ≡ false →
    IsWithLines m (StandsInside (after fresh m.log.calls) d) x → StandsInside (standing_of m) d x
still_left m d x stays h =
    subst (StandsInside (standing_of m) d)
    (sym (h.2 ∙ ap (λ l. record h.0 { lines = l }) (ap (lines_when m) (asked_inside d.kind d.name d.bytes (after fresh m.log.calls) h.0 stays h.1)
    ∙ lines_now m)))
    (left_inside d.kind d.name d.bytes m.lines (after fresh m.log.calls) h.0 h.1)

-- The moments of a call that was recorded and takes no line.
pub passed : (m n : Memory) (l : Logged) (d : DoneCall) → takes d.kind ≡ false → m.log ≡ l → n.log ≡ logged_in_spare_room d l →
    n.taken ≡ m.taken → n.lines ≡ m.lines →
    Passes (clock_of m) (clock_of n) (moments_of m) (moments_of n) (StandsInside (standing_of m) d)
passed m n l d stays em en et el =
    let asked : (after fresh n.log.calls).asked ≡ (after fresh m.log.calls).asked =
    ap (λ (q : Standing). q.asked) (replayed m n l d em en) ∙ asked_after d.kind d.name d.bytes (after fresh m.log.calls) stays in
    Passes_map _ _ _ _ _ _ (passed_with m n l d em en (λ k.
    ap (λ a. drop (length n.taken + k - a) (n.taken ++ n.lines)) asked
    ∙ ap (λ t. drop (length t + k - (after fresh m.log.calls).asked) (t ++ n.lines)) et
    ∙ ap (λ l. drop (length m.taken + k - (after fresh m.log.calls).asked) (m.taken ++ l)) el))
    (λ x h. still_left m d x stays h)

-- The moments of a call that was recorded and takes a line.
pub passed_take : (m n : Memory) (l : Logged) → m.log ≡ l → n.log ≡ logged_in_spare_room taken_line l →
    length n.taken ≡ length m.taken + 1 → n.taken ++ n.lines ≡ m.taken ++ m.lines →
    Passes (clock_of m) (clock_of n) (moments_of m) (moments_of n) (InAsk (standing_of m) (standing_of n))
passed_take m n l em en more given =
    let next : after fresh n.log.calls ≡ standing_after (after fresh m.log.calls) taken_line = replayed m n l taken_line em en in
    let asked : (after fresh n.log.calls).asked ≡ (after fresh m.log.calls).asked + 1 = ap (λ (q : Standing). q.asked) next in
    let same : (k : ℕ) → lines_when n k ≡ lines_when m k = λ k.
    (let count : length n.taken + k - (after fresh n.log.calls).asked ≡ length m.taken + k - (after fresh m.log.calls).asked =
    omega (arith, more, asked) in
    ap (λ c. drop c (n.taken ++ n.lines)) count
    ∙ ap (drop (length m.taken + k - (after fresh m.log.calls).asked)) given) in
    Passes_map _ _ _ _ _ _ (passed_with m n l taken_line em en same) (λ x h. elim h.1 [
      | inl e ↦ inl (h.2 ∙ ap (λ (s : Standing). record s { lines = lines_when m s.asked }) e ∙ stands_now m)
      | inr e ↦ inr (h.2 ∙ ap (λ (s : Standing). record s { lines = lines_when m s.asked }) (e ∙ sym next)
          ∙ ap (λ k. record (after fresh n.log.calls) { lines = k }) (sym (same (after fresh n.log.calls).asked)) ∙ stands_now n)
    ])

-- What may stand inside an attach and a sync is what the stage allows there.
pub in_attach : (old new : Standing) (name : Name) (m : Standing) → new ≡ with_store_opened name old →
    StandsInside old (attached_store name) m → InAttach old new name m
in_attach old new name m e (inl before) = inl before
in_attach old new name m e (inr (inl made)) = inr (inl made)
in_attach old new name m e (inr (inr after)) = inr (inr (after ∙ sym e))

pub in_sync : (old m : Standing) → IsDisk old.disk → StandsInside old synced_store m → InSync old m
in_sync old m k (inl e) = record { disk = old.disk; leaves = λ image l. l; stands = e }
in_sync old m k (inr e) = record {
  disk = stable old.disk.bytes;
  leaves = λ image l. synced_leaves old.disk k image l;
  stands = e;
}

-- The disk that the calls of a stage leave.
pub is_disk : (m : Memory) → IsDisk (standing_of m).disk
is_disk m = after_disk m.log.calls
