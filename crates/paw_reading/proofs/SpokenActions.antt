-- What is said of an action on objects, whatever is claimed of texts: of all that may be said against it, and where it is done.
use Rattle.std.proofs.Common.{ℕ, Bool, true, false, List, [], ◌∷◌, Option, Some, None}
use Rattle.std.specs.Prelude.{if◌then◌else◌, IfSome}
use Rattle.paw_base.specs.Bytes.{Text}
use Rattle.paw_base.specs.declared.messages.TheConstants.{IMPOSSIBLE_MESSAGE}
use Rattle.paw_game.specs.Game.{GameLists}
use Rattle.paw_world.specs.World.{World, object_moved}
use Rattle.paw_effects.specs.Texts.{say_text}
use Rattle.paw_effects.specs.ObjectWords.{spoken_words}
use Rattle.paw_effects.specs.Referring.{object_referred}
use Rattle.paw_effects.specs.ObjectSearch.{some_fits}
use Rattle.paw_effects.specs.ObjectActions.{destination, first_that_holds, hindrances, outcome, action_tried, acted_on}
use Rattle.paw_effects.specs.AutoActions.{missing_reply, acted_on_found}

-- A fact of what is said at each test.
abbrev pub AllSaid : {A : Type 0} → (A → Type 0) → List (Bool × A) → Type 0
AllSaid P [] = Unit {0}
AllSaid P ((b, x) ∷ tests) = P x × AllSaid P tests

one_of : {A : Type 0} (P : A → Type 0) (b : Bool) (x : A) (rest : Option A) → P x → IfSome rest P → IfSome (if b then Some x else rest) P
one_of P true x rest h k = h
one_of P false x rest h k = k

first_said : (P : _ → Type 0) (tests : _) → AllSaid P tests → IfSome (first_that_holds tests) P
first_said P [] all = tt
first_said P ((b, x) ∷ tests) all = one_of P b x (first_that_holds tests) all.0 (first_said P tests all.1)

module _ (P : Text → Type 0) (g : GameLists) (a : _) (hinders : (u : World) (o : ℕ) → AllSaid (λ x. (v : World) → P (spoken_words g v x)) (hindrances u o a))
    (comes : (u : World) → P (spoken_words g u (outcome a))) (impossible : (u : World) → P (say_text g u IMPOSSIBLE_MESSAGE)) where
  tried : (w : World) (o : ℕ) (reply : Option _) → IfSome reply (λ x. (v : World) → P (spoken_words g v x)) → P (action_tried g w o a reply).text
  tried w o None h = comes (object_moved w o (destination w a))
  tried w o (Some x) h = h w

  pub acted_so : (w : World) (o : ℕ) → P (acted_on g w o a).text
  acted_so w o =
      tried (object_referred w o) o (first_that_holds (hindrances (object_referred w o) o a))
      (first_said (λ x. (v : World) → P (spoken_words g v x)) (hindrances (object_referred w o) o a) (hinders (object_referred w o) o))

  misses : (w : World) (b : Bool) (x y : _) → P (spoken_words g w x) → P (spoken_words g w y) → P (spoken_words g w (if b then x else y))
  misses w true x y h k = h
  misses w false x y h k = k

  pub found_so : (w : World) (o : Option ℕ) → P (spoken_words g w (missing_reply a)) → P (acted_on_found g w a o).text
  found_so w None missing = misses w (some_fits w) (missing_reply a) _ missing (impossible w)
  found_so w (Some o) missing = acted_so w o
