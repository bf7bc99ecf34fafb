-- The game of an image file, and why there is none.
use Rattle.paw_host.proofs.Cited.{◌≡◌, ap, subst, Bytes, Name, RoutineAnswers, Seed, IMAGE_LIMIT, GameLists, story_of, Standing, LoadsSome, Holds, damage_loaded, same_game, Sessions, BeginsWith, Ends, Hosts, HostsFile, hosts, damaged, absent, failed, without_memory, HostOutcome, ReadsNoImage, OpensNone}
use Rattle.paw_stage.specs.declared.StageCall.TheVariants as call
use Rattle.paw_host.specs.declared.outcome.HostOutcome.TheVariants as outcome

-- ---- the file ----

-- It is the image of one game.
pub same_story : (old : Standing) (name : Name) (g k : GameLists) (answers : RoutineAnswers) → Holds old name g → Holds old name k →
    story_of g answers ≡ story_of k answers
same_story old name g k answers h i =
    ap (λ (x : GameLists). story_of x answers) (same_game old name g k h i)

-- ---- how hosting ends ----

-- A load that gives nothing.
pub unloaded : (answers : RoutineAnswers) (name : Name) (seed : Seed) (old new : Standing) (o : HostOutcome) → ReadsNoImage name old new o →
    HostsFile answers name seed old new o
unloaded answers name seed old new (outcome.Outside call.LoadAbsent) h = absent h.0 h.1
unloaded answers name seed old new (outcome.Outside call.Load) h = failed h
unloaded answers name seed old new outcome.Memory h = without_memory h
unloaded answers name seed old new _ h = absurd h

-- Bytes that give no game.
unopened : (answers : RoutineAnswers) (name given : Bytes) (seed : Seed) (old new : Standing) (o : HostOutcome) →
    LoadsSome name IMAGE_LIMIT old new given → OpensNone given o → HostsFile answers name seed old new o
unopened answers name given seed old new (outcome.ImageDamaged at) f h =
    damaged at (damage_loaded name given old new at f h.0 h.1) f.3
unopened answers name given seed old new outcome.Memory f h = without_memory f.3
unopened answers name given seed old new _ f h = absurd h

pub undecoded : (answers : RoutineAnswers) (name given bytes : Bytes) (seed : Seed) (old new : Standing) (o : HostOutcome) → bytes ≡ given →
    LoadsSome name IMAGE_LIMIT old new given → OpensNone bytes o → HostsFile answers name seed old new o
undecoded answers name given bytes seed old new o e f h = unopened answers name given seed old new o f (subst (λ b. OpensNone b o) e h)

-- A game that is hosted, at a stage where nothing has changed since the load.
pub hosted : (answers : RoutineAnswers) (name : Name) (seed : Seed) (old mid new : Standing) (o : HostOutcome) (g : GameLists) → Holds old name g → mid ≡ old →
    Ends mid new o → ((first : Sessions) → BeginsWith (story_of g answers) first mid → Hosts (story_of g answers) seed first mid new o) →
    HostsFile answers name seed old new o
hosted answers name seed old mid new o g holds still ends h =
    hosts g o holds (subst (λ q. Ends q new o) still ends)
    (subst (λ q. (first : Sessions) → BeginsWith (story_of g answers) first q → Hosts (story_of g answers) seed first q new o) still h)
