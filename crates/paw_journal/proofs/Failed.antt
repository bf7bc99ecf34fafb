-- What a call of the journal leaves that a failed write or a failed sync ended, with no crash: the store as it is read now.
use Rattle.std.proofs.Common.{◌≡◌, ◌∙◌, ℕ, ◌≤◌, inl, inr, sym, ap, subst, arith}
use Rattle.std.specs.Prelude.{Result}
use Rattle.paw_base.specs.Bytes.{Bytes, Text}
use Rattle.paw_stage.specs.declared.Stage.{Ghosts}
use Rattle.paw_stage.specs.declared.StageCall.{StageCall}
use Rattle.paw_stage.specs.Disk.{MayStay}
use Rattle.paw_stage.specs.Stage.{Standing}
use Rattle.paw_stage.proofs.Time.{now_inside}
use Rattle.paw_journal.specs.declared.journal.Journal.{Journal}
use Rattle.paw_journal.specs.Session.{Digests, Recovered, IsUnmade, recover, kept_digests}
use Rattle.paw_journal.specs.inner.Session.{session_shown}
use Rattle.paw_journal.specs.inner.Room.{Room}
use Rattle.paw_journal.specs.inner.Journal.{KeptIn}
use Rattle.paw_journal.specs.inner.Store.{IsOldOrNew, IsUnmadeOr, LeavesOldOr, LeavesMade}
use Rattle.paw_journal.specs.inner.Writes.{CommitsTo, MakesSession}
use Rattle.paw_journal.specs.inner.Calls.{WritesStore}

module _ {S : Type 0} (g : Ghosts S) (only : (s : S) (m : Standing) → g.Tells s → g.since s (g.clock s) m → m ≡ g.standing s)
    (counts : (s : S) (t : ℕ) → g.Tells s → t ≤ g.clock s → g.since s t (g.standing s))
    (stays : (s : S) (t : ℕ) (m : Standing) → g.Tells s → g.since s t m → MayStay m.disk)
  where
    -- What a read of the store gives now is among what a crash may leave of it.
    pub stays_now : (s : S) → g.Tells s → MayStay (g.standing s).disk
    stays_now s tells = stays s (g.clock s) (g.standing s) tells (counts s (g.clock s) tells (omega arith))

    -- However a commit ended, the store as it is read now shows what the session showed before, or what was committed.
    pub commit_leaves : {A : Type 0} {result : Result A StageCall} (state : Bytes) (piece : Text) (old new : S) → g.Tells old →
        WritesStore g result (CommitsTo state piece) (LeavesOldOr state piece) old new →
        IsOldOrNew (recover (g.standing old).disk.bytes) (session_shown (kept_digests (g.standing old).disk.bytes) state piece)
        (recover (g.standing new).disk.bytes)
    commit_leaves state piece old new tells h =
        let now = h.serves.tells.0 tells in
        elim (now_inside g only counts old new now (LeavesOldOr state piece (g.standing old)) tells (h.crash tells)) [
          | inl same ↦ inl (ap (λ (s : Standing). recover s.disk.bytes) same)
          | inr inside ↦ inside.disk (g.standing new).disk.bytes (stays_now new now)
        ]

    -- However making a session ended, the store as it is read now is none, or shows that session.
    pub making_leaves : {A : Type 0} {result : Result A StageCall} (digests : Digests) (state : Bytes) (piece : Text) (old new : S) →
        g.Tells old → IsUnmade (recover (g.standing old).disk.bytes) →
        WritesStore g result (MakesSession digests state piece) (LeavesMade digests state piece) old new →
        IsUnmadeOr (session_shown digests state piece) (recover (g.standing new).disk.bytes)
    making_leaves digests state piece old new tells none h =
        let now = h.serves.tells.0 tells in
        elim (now_inside g only counts old new now (LeavesMade digests state piece (g.standing old)) tells (h.crash tells)) [
          | inl same ↦ inl (subst (λ (s : Standing). IsUnmade (recover s.disk.bytes)) (sym same) none)
          | inr inside ↦ inside.disk (g.standing new).disk.bytes (stays_now new now)
        ]

-- So a session that is found in these bytes has the state and the piece of before, or those that were to be committed.
pub found_either : (before after : Recovered) (bytes : Bytes) (journal : Journal) (room : Room) (s : Standing) →
    IsOldOrNew before after (recover bytes) → s.disk.bytes ≡ bytes → KeptIn journal room s →
    IsOldOrNew before after (session_shown (kept_digests bytes) room.state room.piece)
found_either before after bytes journal room s either same kept =
    subst (IsOldOrNew before after)
    (ap recover (sym same) ∙ (kept.shown ∙ ap (λ b. session_shown (kept_digests b) room.state room.piece) same)) either
