-- What stands when a command has ended: it is one of the command's moments.
use Rattle.std.proofs.Common.{◌≡◌, ℕ, ◌≤◌, refl}
use Rattle.paw_base.specs.Bytes.{RoutineAnswers}
use Rattle.paw_effects.specs.Story.{story_of}
use Rattle.paw_stage.specs.declared.Stage.{Ghosts}
use Rattle.paw_stage.specs.Stage.{Standing}
use Rattle.paw_stage.specs.AcrossCalls.{InTwoParts}
use Rattle.paw_stage.proofs.Time.{now_in_parts}
use Rattle.paw_play.specs.Keeping.{InNewSession, InPlay}
use Rattle.paw_play.specs.Play.{NotYet}
use Rattle.paw_play.specs.Played.{session_begun}
use Rattle.paw_play.proofs.Parts.{not_yet}
use Rattle.paw_top.specs.Commands.{Command, Compile, Decompile, Walk, Play, Resume, Trace, Trial, Check, Wrap, meaning}
use Rattle.paw_top.specs.Sessions.{IsMoment}

pub ends_at_moment : {S : Type 0} (g : Ghosts S) →
    ((s : S) (m : Standing) → g.Tells s → g.since s (g.clock s) m → m ≡ g.standing s) →
    ((s : S) (t : ℕ) → g.Tells s → t ≤ g.clock s → g.since s t (g.standing s)) →
    (old new : S) → g.Tells old → g.Tells new → (c : Command) (X : RoutineAnswers) →
    (meaning c).moments (InTwoParts g old new) X (g.standing old) → (meaning c).moments (IsMoment (g.standing new)) X (g.standing old)
ends_at_moment g only counts old new tells now (Compile source image) X h = h
ends_at_moment g only counts old new tells now (Decompile image) X h = h
ends_at_moment g only counts old new tells now (Walk image seed) X h = h
ends_at_moment g only counts old new tells now (Play image store seed) X h = λ k holds empty.
    now_in_parts g only counts old new now (NotYet store (g.standing old)) (InNewSession (session_begun (story_of k X) seed store) (g.standing old)) tells
    (not_yet store (g.standing old) (g.standing old) refl) (h k holds empty)
ends_at_moment g only counts old new tells now (Resume image store) X h = λ k s holds from.
    now_in_parts g only counts old new now (NotYet store (g.standing old)) (InPlay s (g.standing old)) tells
    (not_yet store (g.standing old) (g.standing old) refl) (h k s holds from)
ends_at_moment g only counts old new tells now (Trace image seed) X h = h
ends_at_moment g only counts old new tells now (Trial n) X h = h
ends_at_moment g only counts old new tells now (Check image) X h = h
ends_at_moment g only counts old new tells now (Wrap width text) X h = h
