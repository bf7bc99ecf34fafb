-- What happened at a stage across a call, or across several, one after another: definitions for contracts and proofs,
-- besides those of specs/AcrossCalls.antt.
use Rattle.std.specs.Prelude.{Result, OnOk}
use Rattle.paw_stage.specs.Stage.{Standing}
use Rattle.paw_stage.specs.declared.Stage.{Ghosts}
use Rattle.paw_stage.specs.AcrossCalls.{IfTelling, EachMoment}

-- The same, but only where the calls were done.
abbrev pub OnSuccess : {S A E : Type 0} → Ghosts S → S → S → Result A E → (Standing → Standing → Type 0) → Type 0
OnSuccess g old new result Holds = IfTelling g old new (λ before after. OnOk result (Holds before after))

-- Where the stage reports what stands at it, `Inside` holds for each moment of the calls, by what stood before.
abbrev pub AtEachMoment : {S : Type 0} → Ghosts S → S → S → (Standing → Standing → Type 0) → Type 0
AtEachMoment g old new Inside = g.Tells old → EachMoment g old new (Inside (g.standing old))
