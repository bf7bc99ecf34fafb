-- At each moment of a stage in memory, what a read of the store gives is among what a crash may leave of it.
use Rattle.std.proofs.Common.{◌≡◌, inl, inr, ℕ, ◌+◌, ◌≤◌, Bool, true, false, List, [], ◌∷◌, ◌++◌, length, take, drop, min, max}
use Rattle.std.proofs.Common.{length-append, refl, sym, subst, arith}
use Rattle.std.proofs.lemmas.List.{length-take, length-drop}
use Rattle.std.specs.Prelude.{if◌then◌else◌}
use Rattle.paw_base.specs.Bytes.{Bytes, Name}
use Rattle.paw_stage.specs.Disk.{Disk, MayStay, IsInWrite, put_at, disk_written, stable}
use Rattle.paw_stage.specs.Stage.{Standing, bytes_or_none}
use Rattle.paw_stage.specs.inner.Done.{DoneCall, fresh, standing_after, after_call_of, after, is_attached}
use Rattle.paw_stage.specs.inner.Replay.{MayStand, StoodInside}
use Rattle.paw_stage.specs.inner.Memory.{Memory, moments_of}
use Rattle.paw_stage.specs.declared.log.CallKind.{CallKind}
use Rattle.paw_stage.specs.declared.log.CallKind.TheVariants as kind

-- How many bytes there are once new ones are put at an offset.
pub length-put : (at : ℕ) (new old : Bytes) → length (put_at at new old) ≡ max (length old) (min at (length old) + length new)
length-put at new old =
    let a : length ((take at old ++ new) ++ drop (at + length new) old)
    ≡ length (take at old ++ new) + length (drop (at + length new) old) =
    length-append (take at old ++ new) (drop (at + length new) old) in
    let b : length (take at old ++ new) ≡ length (take at old) + length new = length-append (take at old) new in
    omega (arith, a, b, length-take at old, length-drop (at + length new) old)

-- So it is where nothing was written since the last sync.
pub stable_stays : (bytes : Bytes) → MayStay (stable bytes)
stable_stays bytes = record { no_shorter = omega arith; no_longer = omega arith; clean = λ i low clean. refl }

-- And of either of two such disks.
pub either_stays : (b : Bool) (x y : Disk) → MayStay x → MayStay y → MayStay (if b then x else y)
either_stays true x y h k = h
either_stays false x y h k = k

-- A write leaves it so.
pub written_stays : (at n : ℕ) (new : Bytes) (d : Disk) → length new ≤ n → MayStay d → MayStay (disk_written at n new d)
written_stays at n new d few h =
    let long : length (put_at at new d.bytes) ≡ max (length d.bytes) (min at (length d.bytes) + length new) = length-put at new d.bytes in
    record {
      no_shorter = omega (arith, long, h.no_shorter);
      no_longer = omega (arith, long, few, h.no_longer);
      clean = λ i low clean. refl;
    }

-- So does a part of a write, of whatever bytes.
part_stays : (at n : ℕ) (old d : Disk) → MayStay old → IsInWrite at n old d → MayStay d
part_stays at n old d h (inl e) = subst MayStay (sym e) h
part_stays at n old d h (inr q) = subst MayStay (sym q.2) (written_stays at n q.0 old q.1 h)

-- So it is where that stands of which it is known.
same_stays : (s m : Standing) → m ≡ s → MayStay s.disk → MayStay m.disk
same_stays s m e h = subst (λ (q : Standing). MayStay q.disk) (sym e) h

-- A call of any kind leaves it so.
call_stays : (k : CallKind) (name bytes : Bytes) (s : Standing) → MayStay s.disk → MayStay (after_call_of k name bytes s).disk
call_stays kind.Add name bytes s h = either_stays (is_attached s.attached name) (stable bytes) s.disk (stable_stays bytes) h
call_stays kind.Load name bytes s h = h
call_stays kind.Save name bytes s h = either_stays (is_attached s.attached name) (stable bytes) s.disk (stable_stays bytes) h
call_stays kind.Attach name bytes s h = stable_stays (bytes_or_none (s.files name))
call_stays kind.Read name bytes s h = h
call_stays (kind.Write at) name bytes s h = written_stays at (length bytes) bytes s.disk (omega arith) h
call_stays kind.Sync name bytes s h = stable_stays s.disk.bytes
call_stays kind.Take name bytes s h = h
call_stays kind.End name bytes s h = h
call_stays kind.Show name bytes s h = h

-- It is so at each moment inside the call.
inside_stays : (k : CallKind) (name bytes : Bytes) (s m : Standing) → MayStay s.disk → MayStand k name bytes s m → MayStay m.disk
inside_stays kind.Add name bytes s m h (inl e) = same_stays s m e h
inside_stays kind.Add name bytes s m h (inr e) =
    same_stays (after_call_of kind.Add name bytes s) m e (call_stays kind.Add name bytes s h)
inside_stays kind.Load name bytes s m h e = same_stays s m e h
inside_stays kind.Save name bytes s m h (inl e) = same_stays s m e h
inside_stays kind.Save name bytes s m h (inr q) = same_stays _ m q.1.stands q.1.stays
inside_stays kind.Attach name bytes s m h (inl e) = same_stays s m e h
inside_stays kind.Attach name bytes s m h (inr (inl e)) = same_stays _ m e h
inside_stays kind.Attach name bytes s m h (inr (inr e)) = same_stays _ m e (stable_stays (bytes_or_none (s.files name)))
inside_stays kind.Read name bytes s m h e = same_stays s m e h
inside_stays (kind.Write at) name bytes s m h (inl e) = same_stays s m e h
inside_stays (kind.Write at) name bytes s m h (inr q) = same_stays _ m q.4 (part_stays at (length bytes) s.disk q.0 h q.2)
inside_stays kind.Sync name bytes s m h (inl e) = same_stays s m e h
inside_stays kind.Sync name bytes s m h (inr e) = same_stays _ m e (stable_stays s.disk.bytes)
inside_stays kind.Take name bytes s m h (inl e) = same_stays s m e h
inside_stays kind.Take name bytes s m h (inr e) = same_stays _ m e h
inside_stays kind.End name bytes s m h e = same_stays s m e h
inside_stays kind.Show name bytes s m h q = same_stays _ m q.1 h

-- Calls in order leave it so.
later_stays : (s : Standing) (ds : List DoneCall) → MayStay s.disk → MayStay (after s ds).disk
later_stays s [] h = h
later_stays s (d ∷ ds) h = later_stays (standing_after s d) ds (call_stays d.kind d.name d.bytes s h)

-- So it is at each moment inside them.
stood_stays : (s : Standing) (ds : List DoneCall) (m : Standing) → MayStay s.disk → StoodInside s ds m → MayStay m.disk
stood_stays s [] m h none = absurd none
stood_stays s (d ∷ ds) m h (inl q) = inside_stays d.kind d.name d.bytes s m h q
stood_stays s (d ∷ ds) m h (inr q) = stood_stays (standing_after s d) ds m (call_stays d.kind d.name d.bytes s h) q

-- So it is after any calls.
pub after_stays : (ds : List DoneCall) → MayStay (after fresh ds).disk
after_stays ds = later_stays fresh ds (stable_stays [])

-- And at each moment of the stage.
pub moment_stays : (s : Memory) (t : ℕ) (m : Standing) → moments_of s t m → MayStay m.disk
moment_stays s t m (x, inl e, is) = same_stays _ m is (same_stays (after fresh s.log.calls) x e (after_stays s.log.calls))
moment_stays s t m (x, inr q, is) =
    same_stays _ m is
    (stood_stays (after fresh (take t s.log.calls)) (drop t s.log.calls) x (after_stays (take t s.log.calls)) q)
