-- A compiler, step by step.
use Rattle.std.proofs.Common.{◌≡◌, ◌+◌, ◌≤◌, true, length, take, refl, sym, ap, ◌∙◌, subst, arith, ◌⊎◌}
use Rattle.std.proofs.Common.{inl, inr}
use Rattle.std.proofs.lemmas.Bool.Decides.{nat_tests}
use Rattle.std.proofs.lemmas.List.{take_all, length-take-le}
use Rattle.std.specs.Prelude.{nat_lt, Ok, Err}
use Rattle.paw_base.specs.Bytes.{Bytes, Name}
use Rattle.paw_base.specs.declared.limits.TheConstants.{SOURCE_LIMIT}
use Rattle.paw_base.specs.declared.fault.SourceKind.TheVariants as kind
use Rattle.paw_game.specs.Game.{GameLists}
use Rattle.paw_game.specs.Image.{image}
use Rattle.paw_grammar.specs.Spells.{game_spelled}
use Rattle.paw_stage.specs.Stage.{Standing}
use Rattle.paw_stage.specs.declared.StageCall.TheVariants as call
use Rattle.paw_top.specs.Compile.{Compiles, done, refused, absent, unloaded, unsaved, unshown, memory, HoldsSource}
use Rattle.paw_top.specs.Compile.{image_line}
use Rattle.paw_top.specs.inner.Compile.{IsRefusal, SavesSo}
use Rattle.paw_stage.specs.inner.Loads.{LoadsSome}
use Rattle.paw_top.specs.inner.Loads.{LoadsNone}
use Rattle.paw_top.specs.declared.outcome.Outcome.{Outcome}
use Rattle.paw_top.specs.declared.outcome.Outcome.TheVariants as outcome
use Rattle.paw_play.proofs.ImageFiles.{in_order}

-- ---- the source ----

-- A source with too many bytes has its fault before its first line.
pub too_long : (bytes : Bytes) → SOURCE_LIMIT + 1 ≤ length bytes → game_spelled bytes ≡ Err (record { line = 0; kind = kind.TooBig })
unfolding game_spelled
too_long bytes h = let t : nat_lt SOURCE_LIMIT (length bytes) ≡ true = grind (arith, nat_tests) in rw t refl

first_bytes : (bytes : Bytes) → (length bytes ≤ SOURCE_LIMIT) ⊎ (SOURCE_LIMIT + 1 ≤ length bytes)
    → game_spelled (take (SOURCE_LIMIT + 1) bytes) ≡ game_spelled bytes
first_bytes bytes (inl k) = ap game_spelled (take_all (SOURCE_LIMIT + 1) bytes (omega (arith, k)))
first_bytes bytes (inr k) = too_long (take (SOURCE_LIMIT + 1) bytes) (omega (arith, length-take-le (SOURCE_LIMIT + 1) bytes k)) ∙ sym (too_long bytes k)

-- What was loaded of a source is read as the whole.
read_whole : (given bytes : Bytes) → given ≡ take (SOURCE_LIMIT + 1) bytes → game_spelled bytes ≡ game_spelled given
read_whole given bytes e = sym (ap game_spelled e ∙ first_bytes bytes (in_order (length bytes) SOURCE_LIMIT))

-- ---- the answers ----

-- A load that gives nothing says why nothing is compiled.
pub no_source : (source target : Name) (old new : Standing) (o : Outcome) → LoadsNone source old new o → Compiles source target old new o
no_source source target old new (outcome.Outside call.LoadAbsent) h = absent h.0 h.1
no_source source target old new (outcome.Outside call.Load) h = unloaded h
no_source source target old new (outcome.Memory at) h = memory at h
no_source source target old new _ h = absurd h

-- A source that gives no image says why nothing is compiled.
pub no_image : (source target given : Bytes) (old new : Standing) (o : Outcome) → LoadsSome source SOURCE_LIMIT old new given →
    IsRefusal (game_spelled given) o →
    Compiles source target old new o
no_image source target given old new (outcome.SourceRefused fault) f h = refused fault (f.0, f.1, read_whole given f.0 f.2 ∙ h) f.3
no_image source target given old new (outcome.Memory at) f h = memory at f.3
no_image source target given old new _ f h = absurd h

saves_so : (source target : Name) (g : GameLists) (old new : Standing) (o : Outcome) → HoldsSource old source (Ok g) →
    SavesSo target (image g) (image_line (length (image g))) old new o → Compiles source target old new o
saves_so source target g old new outcome.Done s k = done g s k
saves_so source target g old new (outcome.Outside call.Save) s k = unsaved g s k
saves_so source target g old new (outcome.Outside call.Show) s k = unshown g k.2.0 s (k.0, k.1, k.2.1)
saves_so source target g old new _ s k = absurd k.2

-- An image that is saved is compiled, as far as it was saved.
pub saves_image : (source target given made line : Bytes) (old mid new : Standing) (o : Outcome) → LoadsSome source SOURCE_LIMIT old mid given →
    (g : GameLists) × (game_spelled given ≡ Ok g) × (made ≡ image g) → line ≡ image_line (length made) →
    SavesSo target made line mid new o → Compiles source target old new o
saves_image source target given made line old mid new o f m l k =
    saves_so source target m.0 old new o (f.0, f.1, read_whole given f.0 f.2 ∙ m.1)
    (subst (λ s. SavesSo target (image m.0) (image_line (length (image m.0))) s new o) f.3
    (subst (λ b. SavesSo target b (image_line (length b)) mid new o) m.2 (subst (λ t. SavesSo target made t mid new o) l k)))
