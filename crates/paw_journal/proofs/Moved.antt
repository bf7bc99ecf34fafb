-- Calls that move a stretch of the attached store alone.
use Rattle.std.proofs.Common.{◌≡◌, ℕ, ◌+◌, ◌≤◌, length, inl, inr, refl, sym, ap, subst, ◌∙◌}
use Rattle.std.specs.Prelude.{Option, Some}
use Rattle.paw_base.specs.Bytes.{Name, Bytes}
use Rattle.paw_stage.specs.Disk.{Disk, MayLeave, IsInWrite, IsStable, disk_written, put_at, stable}
use Rattle.paw_stage.specs.Stage.{Standing, Files, InWrite, InSync, store_holding, with_disk, with_written, with_store_synced}
use Rattle.paw_stage.proofs.Names.{held_other, holds_same}
use Rattle.paw_journal.specs.Session.{Recovered}
use Rattle.paw_journal.specs.inner.Writes.{IsWithin}
use Rattle.paw_journal.specs.inner.Store.{ChangesStoreOnly, InStore, CrashLeavesSuch}
use Rattle.paw_journal.proofs.Disks.{within_stable, within_write}

held_same : (attached : Option Name) (n bytes : Bytes) (files : Files) → attached ≡ Some n → store_holding attached bytes files n ≡ Some bytes
held_same attached n bytes files e = ap (λ a. store_holding a bytes files n) e ∙ holds_same n (Some bytes) files

pub beside_none : (s : Standing) → ChangesStoreOnly s s
beside_none s = record { lines = refl; asked = refl; shown = refl; attached = refl; files = λ n ne. refl; file = λ n e h. h }

pub beside_wrote : (s t : Standing) (d : Disk) (n : ℕ) → t ≡ with_disk s d n → ChangesStoreOnly s t
beside_wrote s t d n e = subst (λ x. ChangesStoreOnly s x) (sym e) (record {
  lines = refl;
  asked = refl;
  shown = refl;
  attached = refl;
  files = λ k ne. held_other s.attached k d.bytes s.files ne;
  file = λ k a h. held_same s.attached k d.bytes s.files a;
})

pub beside_part : (s t : Standing) (at n : ℕ) → InWrite s at n t → ChangesStoreOnly s t
beside_part s t at n (inl e) = subst (λ x. ChangesStoreOnly s x) (sym e) (beside_none s)
beside_part s t at n (inr q) = beside_wrote s t q.0 q.1 q.4

pub beside_sync : (s t : Standing) → t ≡ record s { disk = stable s.disk.bytes } → ChangesStoreOnly s t
beside_sync s t e = subst (λ x. ChangesStoreOnly s x) (sym e)
    (record { lines = refl; asked = refl; shown = refl; attached = refl; files = λ n ne. refl; file = λ n a h. h })

-- What was written and synced lasts.
pub written_synced : (at : ℕ) (new : Bytes) (s t u : Standing) → t ≡ with_written at new s → u ≡ with_store_synced t →
    u.disk ≡ stable (put_at at new s.disk.bytes)
written_synced at new s t u w q = ap (λ x. x.disk) q ∙ ap (λ x. stable x.disk.bytes) w

pub beside_same : (s t : Standing) → t ≡ s → ChangesStoreOnly s t
beside_same s t e = subst (λ x. ChangesStoreOnly s x) (sym e) (beside_none s)

pub beside_on : (s t u : Standing) → ChangesStoreOnly s t → ChangesStoreOnly t u → ChangesStoreOnly s u
beside_on s t u h k =
    record {
      lines = k.lines ∙ h.lines;
      asked = k.asked ∙ h.asked;
      shown = k.shown ∙ h.shown;
      attached = k.attached ∙ h.attached;
      files = λ n ne. k.files n (λ e. ne (sym h.attached ∙ e)) ∙ h.files n ne;
      file = λ n a f. k.file n (h.attached ∙ a) (h.file n a f);
    }

-- At a moment after which nothing but the store was moved, all else is as it was.
in_store : (s m : Standing) (P : Disk → Type 0) → ChangesStoreOnly s m → P m.disk → InStore s P m
in_store s m P h p = record { asked = h.asked; shown = h.shown; attached = h.attached; files = h.files; disk = p }

pub in_write : (s : Standing) (at n : ℕ) (P : Disk → Type 0) (m : Standing) → ((d : Disk) → IsInWrite at n s.disk d → P d) → InWrite s at n m → InStore s P m
in_write s at n P m f h = in_store s m P (beside_part s m at n h) (f m.disk (disk_inside s m at n h))
  where
    disk_inside : (s m : Standing) (at n : ℕ) → InWrite s at n m → IsInWrite at n s.disk m.disk
    disk_inside s m at n (inl e) = inl (ap (λ x. x.disk) e)
    disk_inside s m at n (inr q) = subst (IsInWrite at n s.disk) (sym (ap (λ x. x.disk) q.4)) q.2

-- Inside a sync a crash leaves no more than before it.
pub in_sync : (s : Standing) (P : Recovered → Type 0) (m : Standing) → CrashLeavesSuch P s.disk → InSync s m → InStore s (CrashLeavesSuch P) m
in_sync s P m f h = record {
  asked = ap (λ x. x.asked) h.stands;
  shown = ap (λ x. x.shown) h.stands;
  attached = ap (λ x. x.attached) h.stands;
  files = λ k ne. ap (λ x. x.files k) h.stands;
  disk = λ image l. f image (h.leaves image (subst (λ x. MayLeave x.disk image) h.stands l));
}

pub in_later : (s t : Standing) (P Q : Disk → Type 0) (m : Standing) → ChangesStoreOnly s t → ((d : Disk) → P d → Q d) → InStore t P m → InStore s Q m
in_later s t P Q m b f h =
    record {
      asked = h.asked ∙ b.asked;
      shown = h.shown ∙ b.shown;
      attached = h.attached ∙ b.attached;
      files = λ n ne. h.files n (λ e. ne (sym b.attached ∙ e)) ∙ b.files n ne;
      disk = f m.disk h.disk;
    }

-- All but a stretch of the attached store stands as it did.
pub record IsMoved (lo hi : ℕ) (s t : Standing) : Type 0 where
  pub beside : ChangesStoreOnly s t
  pub within : IsWithin lo hi s.disk.bytes t.disk

pub moved_none : (lo hi : ℕ) (s : Standing) → IsStable s.disk → IsMoved lo hi s s
moved_none lo hi s h = record { beside = beside_none s; within = within_stable lo hi s.disk h }

pub moved_wrote : (lo hi at n c : ℕ) (new : Bytes) (s t u : Standing) → IsMoved lo hi s t → lo ≤ at → at + n ≤ hi →
    hi ≤ length s.disk.bytes → length new ≤ n → u ≡ with_disk t (disk_written at n new t.disk) c → IsMoved lo hi s u
moved_wrote lo hi at n c new s t u h low high long short e =
    record {
      beside = beside_on s t u h.beside (beside_wrote t u _ c e);
      within = within_write lo hi at n s.disk.bytes t.disk u.disk h.within low high long (inr (new, short, ap (λ x. x.disk) e));
    }

-- A moment inside a write to the stretch, and inside a sync after it.
pub in_moved_write : (lo hi at n : ℕ) (s t : Standing) (P : Disk → Type 0) (m : Standing) → IsMoved lo hi s t → lo ≤ at →
    at + n ≤ hi → hi ≤ length s.disk.bytes → ((d : Disk) → IsWithin lo hi s.disk.bytes d → P d) → InWrite t at n m →
    InStore s P m
in_moved_write lo hi at n s t P m h low high long f w =
    in_later s t P P m h.beside (λ d p. p) (in_write t at n P m (λ d i. f d (within_write lo hi at n s.disk.bytes t.disk d h.within low high long i)) w)

pub in_moved_sync : (lo hi : ℕ) (s t : Standing) (P : Recovered → Type 0) (m : Standing) → IsMoved lo hi s t →
    ((d : Disk) → IsWithin lo hi s.disk.bytes d → CrashLeavesSuch P d) → InSync t m → InStore s (CrashLeavesSuch P) m
in_moved_sync lo hi s t P m h f w = in_later s t (CrashLeavesSuch P) (CrashLeavesSuch P) m h.beside (λ d p. p) (in_sync t P m (f t.disk h.within) w)
