-- A player that stays at its game.
use Rattle.paw_host.proofs.Cited.{◌≡◌, ℕ, sym, subst, ◌∙◌, refl, Shared, Bytes, GameLists, HaveAnswers, Routines, PlayerView, IsSeated, IsHosted, AreDigestsOf, StaysSeated}

pub stays_same : {F : Type 0} {a : PlayerView F} → IsSeated a → StaysSeated a a
stays_same h = record { seated = h; game = refl; routines = refl }

pub stays_on : {F : Type 0} {a b c : PlayerView F} → StaysSeated a b → StaysSeated b c → StaysSeated a c
stays_on h k = record { seated = k.seated; game = k.game ∙ h.game; routines = k.routines ∙ h.routines }

pub digests_on : {F : Type 0} (calls : Shared F (ℕ × (ℕ × Unit {0})) ℕ) (g h : GameLists) (r s : Routines F) (game rules : Bytes) →
    g ≡ h → r ≡ s → AreDigestsOf calls g r game rules → AreDigestsOf calls h s game rules
digests_on calls g h r s game rules e f d =
    subst (λ q. AreDigestsOf calls q s game rules) e (subst (λ q. AreDigestsOf calls g q game rules) f d)

-- The game stays hosted.
pub hosted_on : {F : Type 0} {calls : Shared F (ℕ × (ℕ × Unit {0})) ℕ} {tables : GameLists} {game rules : Bytes} {a b : PlayerView F} →
    IsHosted calls tables game rules a → StaysSeated a b → IsHosted calls tables game rules b
hosted_on {calls} {game} {rules} {a} {b} h k = record {
  prepared = record {
    seated = k.seated;
    answers = subst (HaveAnswers calls) (sym k.routines) h.prepared.answers;
    digests = digests_on calls a.game b.game a.routines b.routines game rules (sym k.game) (sym k.routines) h.prepared.digests;
  };
  same = k.game ∙ h.same;
}
