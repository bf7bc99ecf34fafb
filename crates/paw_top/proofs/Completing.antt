-- A command whose calls don't fail.
use Rattle.std.proofs.Common.{◌≡◌, ◌≢◌, ◌≤◌, ◌<◌, ℕ, true, false, length, Option, Some, None, refl, sym, ap, ◌∙◌}
use Rattle.std.proofs.Common.{subst, arith}
use Rattle.std.specs.Prelude.{Result, Ok, Err, IfSome, nat_le, if◌then◌else◌}
use Rattle.std.proofs.lemmas.Bool.Decides.{nat_tests}
use Rattle.paw_wrap.specs.declared.columns.TheConstants.{WRAP_LIMIT}
use Rattle.paw_base.specs.Bytes.{Bytes, Name, RoutineAnswers, Seed, Text}
use Rattle.paw_base.specs.declared.fault.SourceFault.{SourceFault}
use Rattle.paw_base.specs.declared.limits.TheConstants.{EVENT_LIMIT}
use Rattle.paw_game.specs.Game.{GameLists}
use Rattle.paw_grammar.specs.Spells.{game_spelled}
use Rattle.paw_image.specs.Images.{IsImage}
use Rattle.paw_stage.specs.Stage.{Standing, CountsFailure}
use Rattle.paw_stage.specs.declared.StageCall.{StageCall}
use Rattle.paw_stage.specs.declared.StageCall.TheVariants as call
use Rattle.paw_top.specs.Answers.{failed_call}
use Rattle.paw_top.specs.Compile as compile
use Rattle.paw_top.specs.Completes.{NoFailure, IsUnhindered}
use Rattle.paw_top.specs.inner.Completes.{IsWalked, halted, out_of_lines, full, no_memory}
use Rattle.paw_top.specs.inner.Completes.{CompletesSource, CompletesCompile, CompletesImage, CompletesWrap}
use Rattle.paw_top.specs.inner.Completes.{Comes}
use Rattle.paw_top.specs.Decompile as decompile
use Rattle.paw_play.specs.ImageFiles.{Holds, HoldsDamage}
use Rattle.paw_play.proofs.ImageFiles.{same_file, same_game}
use Rattle.paw_top.specs.Shows as shows
use Rattle.paw_top.specs.inner.Loads.{HoldsNone}
use Rattle.paw_top.specs.Walk.{WalksAs}
use Rattle.paw_top.specs.Ends.{outcome_of, PlaysFile, plays, unopened}
use Rattle.paw_top.specs.Opens.{Unopened, damaged, absent, failed, without_memory}
use Rattle.paw_play.specs.Walk.{EndingOf, Walks}
use Rattle.paw_play.specs.declared.PlayEnd.{PlayEnd}
use Rattle.paw_play.specs.declared.PlayEnd.TheVariants as end
use Rattle.paw_effects.specs.Story.{Story, story_of}
use Rattle.paw_top.specs.declared.outcome.Outcome.{Outcome}
use Rattle.paw_top.specs.declared.outcome.Outcome.TheVariants as outcome
use Rattle.paw_top.specs.declared.outcome.MemoryAt.{MemoryAt}
use Rattle.paw_top.specs.declared.outcome.MemoryAt.TheVariants as memory
use Rattle.paw_reading.specs.declared.halt.Halt.TheVariants as halt

-- Where no count of failures rose, but maybe that of loads that found no file, only such a load may have failed.
only_absent : (failed : Option StageCall) (first last : StageCall → ℕ) → CountsFailure failed first last → NoFailure first last →
    IfSome failed (λ c. c ≡ call.LoadAbsent)
only_absent None first last out none = tt
only_absent (Some call.LoadAbsent) first last out none = refl
only_absent (Some call.Load) first last out none = absurd (none call.Load (λ q. cc) out.0)
only_absent (Some call.Save) first last out none = absurd (none call.Save (λ q. cc) out.0)
only_absent (Some call.Attach) first last out none = absurd (none call.Attach (λ q. cc) out.0)
only_absent (Some call.Read) first last out none = absurd (none call.Read (λ q. cc) out.0)
only_absent (Some call.Write) first last out none = absurd (none call.Write (λ q. cc) out.0)
only_absent (Some call.Sync) first last out none = absurd (none call.Sync (λ q. cc) out.0)
only_absent (Some call.Ask) first last out none = absurd (none call.Ask (λ q. cc) out.0)
only_absent (Some call.Show) first last out none = absurd (none call.Show (λ q. cc) out.0)

pub unhindered : (o : Outcome) (first last : StageCall → ℕ) → CountsFailure (failed_call o) first last → NoFailure first last → IsUnhindered o
unhindered o first last out none = only_absent (failed_call o) first last out none

-- No call has failed but such a load.
pub hindered : (c : StageCall) → c ≢ call.LoadAbsent → IsUnhindered (outcome.Outside c) → ⊥
hindered c another free = another free

-- A file that isn't there holds nothing.
is_missing : (file : Option Bytes) (bytes : Bytes) → file ≡ None → file ≡ Some bytes → ⊥
is_missing file bytes h k = cc

-- Memory may be lacking for any source.
for_memory : (read : Result GameLists SourceFault) (at : MemoryAt) → CompletesSource read (outcome.Memory at)
for_memory (Ok g) at = tt
for_memory (Err fault) at = tt

-- What is read of the source settles the answer.
reads_so : (file : Option Bytes) (a b : Bytes) (read : Result GameLists SourceFault) (o : Outcome) → file ≡ Some a → game_spelled a ≡ read → file ≡ Some b →
    CompletesSource read o → CompletesSource (game_spelled b) o
reads_so file a b read o h s k done = subst (λ r. CompletesSource r o) (sym s ∙ ap game_spelled (same_file file a b h k)) done

pub completes_compile : (source target : Name) (old new : Standing) (o : Outcome) → compile.Compiles source target old new o →
    IsUnhindered o → CompletesCompile source old o
completes_compile source target old new _ (compile.done g s e) free = λ bytes is. reads_so _ s.0 bytes (Ok g) outcome.Done s.1 s.2 is refl
completes_compile source target old new _ (compile.refused fault s e) free = λ bytes is.
    reads_so _ s.0 bytes (Err fault) (outcome.SourceRefused fault) s.1 s.2 is refl
completes_compile source target old new _ (compile.absent s e) free = λ bytes is. absurd (is_missing _ bytes s is)
completes_compile source target old new _ (compile.unloaded e) free = λ bytes is. absurd (hindered call.Load (λ q. cc) free)
completes_compile source target old new _ (compile.unsaved g s e) free = λ bytes is. absurd (hindered call.Save (λ q. cc) free)
completes_compile source target old new _ (compile.unshown g n s e) free = λ bytes is. absurd (hindered call.Show (λ q. cc) free)
completes_compile source target old new _ (compile.memory at e) free = λ bytes is. for_memory (game_spelled bytes) at

-- A file that is an image isn't none.
is_some : (s : Standing) (name : Name) (g : GameLists) → Holds s name g → HoldsNone s name → ⊥
is_some s name g h k = k.2 g (subst (λ b. IsImage b g) (same_file _ h.0 k.0 h.1 k.1) h.2)

not_both : (s : Standing) (name : Name) (g : GameLists) (at : ℕ) → Holds s name g → HoldsDamage s name at → ⊥
not_both s name g at h k = is_some s name g h (k.0, k.1, k.2)

-- ---- a game that is shown or played ----

-- The file holds a game, with an answer such as it is to be.
completes_game : (name : Name) (Such : GameLists → Outcome → Type 0) (old : Standing) (g : GameLists) (o : Outcome) → Holds old name g → Such g o →
    CompletesImage name Such old o
completes_game name Such old g o s such = record {
  image = λ h k. subst (λ x. Such x o) (sym (same_game old name h g k s)) such;
  other = λ k. absurd (is_some old name g s k);
}

-- The file gives no game.
completes_unopened : (name : Name) (Such : GameLists → Outcome → Type 0) (old new : Standing) (o : Outcome) →
    ((g : GameLists) (at : MemoryAt) → Such g (outcome.Memory at)) → Unopened name old new o →
    IsUnhindered o → CompletesImage name Such old o
completes_unopened name Such old new _ memory (damaged at s e) free =
    record { image = λ h k. absurd (not_both old name h at k s); other = λ k. s }
completes_unopened name Such old new _ memory (absent s e) free =
    record { image = λ h k. absurd (is_missing _ k.0 s k.1); other = λ k. absurd (is_missing _ k.0 s k.1) }
completes_unopened name Such old new _ memory (failed e) free =
    let fault : ⊥ = hindered call.Load (λ q. cc) free in record { image = λ h k. absurd fault; other = λ k. absurd fault }
completes_unopened name Such old new _ memory (without_memory at e) free =
    record { image = λ h k. memory h at; other = λ k. tt }

-- A game of which a text is shown.
pub completes_told : {told : GameLists → Text} {at : MemoryAt} (name : Name) (old new : Standing) (o : Outcome) →
    decompile.ShowsTextOf told at name old new o → IsUnhindered o → CompletesImage name (λ g. Comes outcome.Done) old o
completes_told name old new _ (decompile.done g s e) free = completes_game name (λ g. Comes outcome.Done) old g outcome.Done s refl
completes_told name old new _ (decompile.unopened o u) free =
    completes_unopened name (λ g. Comes outcome.Done) old new o (λ g at. tt) u free
completes_told name old new _ (decompile.unshown g s e) free = absurd (hindered call.Show (λ q. cc) free)
completes_told name old new _ (decompile.lacking_memory e) free = record { image = λ h k. tt; other = λ k. tt }

-- A text of at most this many bytes is wrapped, and a longer one is too long.
within : (bytes : Bytes) → length bytes ≤ WRAP_LIMIT →
    outcome.Done ≡ (if nat_le (length bytes) WRAP_LIMIT then outcome.Done else outcome.TextTooLong)
within bytes h = let t : nat_le (length bytes) WRAP_LIMIT ≡ true = grind (arith, nat_tests) in rw t refl

beyond : (bytes : Bytes) → WRAP_LIMIT < length bytes →
    outcome.TextTooLong ≡ (if nat_le (length bytes) WRAP_LIMIT then outcome.Done else outcome.TextTooLong)
beyond bytes h = let t : nat_le (length bytes) WRAP_LIMIT ≡ false = grind (arith, nat_tests) in rw t refl

-- A text that is shown in columns.
pub completes_wrap : (width : ℕ) (name : Name) (old new : Standing) (o : Outcome) → shows.Wraps width name old new o →
    IsUnhindered o → CompletesWrap name old o
completes_wrap width name old new _ (shows.done text h e) free = λ bytes is.
    within bytes (subst (λ b. length b ≤ WRAP_LIMIT) (same_file _ text bytes h.0 is) h.1)
completes_wrap width name old new _ (shows.too_long text h long e) free = λ bytes is.
    beyond bytes (subst (λ b. WRAP_LIMIT < length b) (same_file _ text bytes h is) long)
completes_wrap width name old new _ (shows.absent h e) free = λ bytes is. absurd (is_missing _ bytes h is)
completes_wrap width name old new _ (shows.unloaded e) free = λ bytes is. absurd (hindered call.Load (λ q. cc) free)
completes_wrap width name old new _ (shows.unshown text h e) free = λ bytes is. absurd (hindered call.Show (λ q. cc) free)
completes_wrap width name old new _ (shows.without_memory at one e) free = λ bytes is. tt
completes_wrap width name old new _ (shows.unwrapped text h e) free = λ bytes is. tt

-- A file whose game is played, where each end is such as it is to be.
pub completes_file : {Comes : GameLists → PlayEnd → Type 0} (name : Name) (Such : GameLists → Outcome → Type 0) (old new : Standing)
    (o : Outcome) → PlaysFile Comes name old new o →
    ((g : GameLists) (end : PlayEnd) → Comes g end → IsUnhindered (outcome_of end) → Such g (outcome_of end)) →
    ((g : GameLists) (at : MemoryAt) → Such g (outcome.Memory at)) →
    IsUnhindered o → CompletesImage name Such old o
completes_file name Such old new _ (plays g end s comes) such memory free =
    completes_game name Such old g (outcome_of end) s (such g end comes free)
completes_file name Such old new _ (unopened o u) such memory free =
    completes_unopened name Such old new o memory u free

-- A walk ends.
pub is_walked : (whole : EndingOf) (most : ℕ) (old new : Standing) (o : PlayEnd) → Walks whole most old new o →
    IsUnhindered (outcome_of o) → IsWalked (outcome_of o)
is_walked whole most old new end.Ended w free = halted halt.Over
is_walked whole most old new end.InputEnded w free = out_of_lines
is_walked whole most old new (end.Spent kind) w free = halted (halt.Spent kind)
is_walked whole most old new (end.TooDeep table) w free = halted (halt.TooDeep table)
is_walked whole most old new (end.Long events) w free = full events
is_walked whole most old new end.Memory w free = no_memory memory.Play
is_walked whole most old new (end.Outside call.Ask) w free = absurd (hindered call.Ask (λ q. cc) free)
is_walked whole most old new (end.Outside call.Show) w free = absurd (hindered call.Show (λ q. cc) free)
is_walked whole most old new _ w free = absurd w

pub completes_walk : (read : Story → ℕ → EndingOf) (answers : RoutineAnswers) (name : Name) (seed : Seed) (old new : Standing) (o : Outcome) →
    WalksAs read answers name seed old new o → IsUnhindered o → CompletesImage name (λ g. IsWalked) old o
completes_walk read answers name seed old new o w free =
    completes_file name (λ g. IsWalked) old new o w
    (λ g end p free. is_walked (read (story_of g answers) seed) EVENT_LIMIT old new end p free) (λ g at. no_memory at) free
