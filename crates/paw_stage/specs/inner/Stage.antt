-- What a stage reports, and what its calls do to it: definitions for contracts and proofs, besides those of
-- specs/Stage.antt.
use Rattle.std.specs.Prelude.{ℕ, ◌+◌, ◌≤◌}
use Rattle.std.specs.Prelude.{IsSome}
use Rattle.paw_stage.specs.Disk.{Disk}
use Rattle.paw_stage.specs.Stage.{Standing}

-- A fact of what a crash may leave of the store, where one is attached.
abbrev pub IfAttached : Standing → (Disk → Type 0) → Type 0
IfAttached s P = IsSome s.attached → P s.disk

-- At most n bytes were written to stores.
abbrev pub WritesAtMost : ℕ → Standing → Standing → Type 0
WritesAtMost n old new = new.written ≤ old.written + n
