-- The four kept positions.
use Rattle.std.proofs.Common.{ℕ, ◌<◌, ◌∙◌, List, Option, None, Some, set, get_or, replicate, refl}
use Rattle.std.proofs.lemmas.List.{length-set}
use Rattle.std.proofs.lemmas.List.Elements.{All-set, All-get_or, All-replicate}
use Rattle.paw_base.specs.declared.limits.TheConstants.{POSITION_COUNT}
use Rattle.paw_world.specs.World.{Position, IsPosition, IsSavedFor, AreSavedFor}

-- A position of the same size is put among them.
pub kept_with : (objects : ℕ) (kept : List (Option Position)) (n : ℕ) (q : Position) → IsPosition objects q → AreSavedFor objects kept
    → AreSavedFor objects (set kept n (Some q))
kept_with objects kept n q alike all = record {
  four = length-set kept n (Some q) ∙ all.four;
  each = All-set (IsSavedFor objects) kept n (Some q) alike all.each;
}

-- Each of them is of the same size.
pub kept_alike : (objects : ℕ) (kept : List (Option Position)) (n : ℕ) → n < POSITION_COUNT → AreSavedFor objects kept → IsSavedFor objects (get_or kept n None)
kept_alike objects kept n few all = All-get_or (IsSavedFor objects) kept n None (rw all.four few) all.each

-- Where none was kept.
pub none_kept : (objects : ℕ) → AreSavedFor objects (replicate POSITION_COUNT None)
none_kept objects = let none : Option Position = None in
    record { four = refl; each = All-replicate (IsSavedFor objects) POSITION_COUNT none tt }
