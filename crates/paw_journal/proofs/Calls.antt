-- Calls that write to the attached store or read it: what is said of each, put together to what is said of all.
use Rattle.std.proofs.Common.{◌≡◌, ◌∙◌, sym, subst}
use Rattle.std.proofs.lemmas.Result.{on_ok_weaker}
use Rattle.std.specs.Prelude.{Option, None, Result, Ok, Err, IsErrAnd}
use Rattle.paw_stage.specs.declared.Stage.{Ghosts}
use Rattle.paw_stage.specs.declared.StageCall.{StageCall}
use Rattle.paw_stage.specs.Stage.{Standing, Still}
use Rattle.paw_stage.proofs.Time.{Passes_map, Passes_none, Passes_on}
use Rattle.paw_journal.specs.inner.Calls.{WritesStore, ReadsStore}
use Rattle.paw_journal.specs.inner.Store.{ChangesStoreOnly}
use Rattle.paw_journal.proofs.Moved.{beside_none, beside_on}
use Rattle.paw_journal.proofs.Serving.{serves_none, serves_still, serves_then}

-- ---- writing ----

-- Nothing was called.
pub writes_none : {S A : Type 0} {g : Ghosts S} {x : A} {P C : Standing → Standing → Type 0} {s : S} →
    (g.Tells s → P (g.standing s) (g.standing s)) → WritesStore g (Ok x) P C s s
writes_none {g = g} {s = s} post = record {
  serves = serves_none g _ s;
  beside = λ tells. beside_none (g.standing s);
  post = post;
  crash = λ tells. Passes_none _ _ _;
}

-- Less is said of a call.
pub writes_weaker : {S A : Type 0} {g : Ghosts S} {result : Result A StageCall} {P Q C D : Standing → Standing → Type 0} {old new : S} →
    WritesStore g result P C old new → (g.Tells old → P (g.standing old) (g.standing new) → Q (g.standing old) (g.standing new)) →
    (g.Tells old → (m : Standing) → C (g.standing old) m → D (g.standing old) m) → WritesStore g result Q D old new
writes_weaker {g = g} {result = result} {C = C} {D = D} {old = old} h post crash = record {
  serves = h.serves;
  beside = h.beside;
  post = λ tells. on_ok_weaker result (post tells) (h.post tells);
  crash = λ tells. Passes_map _ _ _ _ (C (g.standing old)) (D (g.standing old)) (h.crash tells) (crash tells);
}

-- A call was done, and the answer says just that.
pub writes_done : {S A B : Type 0} {g : Ghosts S} {x : A} {y : B} {P C : Standing → Standing → Type 0} {old new : S} →
    WritesStore g (Ok x) P C old new → WritesStore g (Ok y) P C old new
writes_done h = record { serves = h.serves; beside = h.beside; post = h.post; crash = h.crash }

-- A call failed, and the answer names it: nothing need hold after it.
pub writes_failed : {S A B : Type 0} {g : Ghosts S} {e : StageCall} {result : Result B StageCall} {P Q C D : Standing → Standing → Type 0}
    {old new : S} → IsErrAnd result (λ y. y ≡ e) → WritesStore {S = S} {A = A} g (Err e) P C old new →
    (g.Tells old → (m : Standing) → C (g.standing old) m → D (g.standing old) m) → WritesStore g result Q D old new
writes_failed {S = S} {B = B} {g = g} {e = e} {result = result} {Q = Q} {C = C} {D = D} {old = old} {new = new} named h crash =
    fails_by result named
  where
    fails_by : (r : Result B StageCall) → IsErrAnd r (λ y. y ≡ e) → WritesStore g r Q D old new
    fails_by (Ok x) is = absurd is
    fails_by (Err y) is =
        subst (λ z. WritesStore {S = S} {A = B} g (Err z) Q D old new) (sym is) (record {
          serves = h.serves;
          beside = h.beside;
          post = λ tells. tt;
          crash = λ tells. Passes_map _ _ _ _ (C (g.standing old)) (D (g.standing old)) (h.crash tells) (crash tells);
        })

-- A call was done, and then another.
pub writes_then : {S A B : Type 0} {g : Ghosts S} {x : A} {result : Result B StageCall} {P Q R C D E : Standing → Standing → Type 0}
    {old mid new : S} → WritesStore g (Ok x) P C old mid → WritesStore g result Q D mid new →
    (g.Tells old → P (g.standing old) (g.standing mid) → Q (g.standing mid) (g.standing new) → R (g.standing old) (g.standing new)) →
    (g.Tells old → (m : Standing) → C (g.standing old) m → E (g.standing old) m) →
    (g.Tells old → P (g.standing old) (g.standing mid) → ChangesStoreOnly (g.standing old) (g.standing mid) → (m : Standing) →
    D (g.standing mid) m → E (g.standing old) m) → WritesStore g result R E old new
writes_then {g = g} {result = result} {C = C} {D = D} {E = E} {old = old} {mid = mid} h k post before after = record {
  serves = serves_then _ _ _ _ _ _ _ h.serves k.serves;
  beside = λ tells. beside_on _ _ _ (h.beside tells) (k.beside (h.serves.tells.0 tells));
  post = λ tells. on_ok_weaker result (post tells (h.post tells)) (k.post (h.serves.tells.0 tells));
  crash = λ tells.
      Passes_on _ _ _ _ _ _ (E (g.standing old)) (D (g.standing mid))
      (Passes_map _ _ _ _ (C (g.standing old)) (E (g.standing old)) (h.crash tells) (before tells))
      (k.crash (h.serves.tells.0 tells)) (after tells (h.post tells) (h.beside tells));
}

-- ---- reading ----

-- No call failed, and the answer names none.
pub reads_named : {S : Type 0} {g : Ghosts S} {failed : Option StageCall} {old new : S} → failed ≡ None → ReadsStore g None old new →
    ReadsStore g failed old new
reads_named e h = record { serves = serves_still _ _ _ _ _ _ e h.serves; still = h.still; crash = h.crash }

-- A call was done, and then others.
pub reads_then : {S : Type 0} {g : Ghosts S} {failed : Option StageCall} {old mid new : S} → ReadsStore g None old mid →
    ReadsStore g failed mid new → ReadsStore g failed old new
reads_then {g = g} {old = old} {mid = mid} h k = record {
  serves = serves_then _ _ _ _ _ _ _ h.serves k.serves;
  still = λ tells. k.still (h.serves.tells.0 tells) ∙ h.still tells;
  crash = λ tells.
      Passes_on _ _ _ _ _ _ (Still (g.standing old)) (Still (g.standing mid)) (h.crash tells) (k.crash (h.serves.tells.0 tells))
      (λ m q. q ∙ h.still tells);
}
