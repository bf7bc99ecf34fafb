-- How long is what may be said of an action on an object.
use Rattle.std.proofs.Common.{◌≡◌, ℕ, ◌≤◌, true, ◌++◌, Option, refl}
use Rattle.std.proofs.Common.{length, arith, length-append}
use Rattle.paw_base.specs.declared.messages.TheConstants.{NOT_WORN_MESSAGE, WORN_MESSAGE, HELD_MESSAGE}
use Rattle.paw_base.specs.declared.messages.TheConstants.{NOT_HERE_MESSAGE}
use Rattle.paw_base.specs.declared.messages.TheConstants.{TOO_MANY_MESSAGE, NOT_CARRIED_MESSAGE, WORN_ALREADY_MESSAGE}
use Rattle.paw_base.specs.declared.messages.TheConstants.{NOT_WEARABLE_MESSAGE, NOT_REMOVABLE_MESSAGE}
use Rattle.paw_base.specs.declared.messages.TheConstants.{HANDS_FULL_MESSAGE}
use Rattle.paw_base.specs.declared.messages.TheConstants.{TOO_HEAVY_MESSAGE, NOT_TAKEN_OUT_MESSAGE, NOT_HELD_MESSAGE}
use Rattle.paw_base.specs.declared.messages.TheConstants.{NOT_PUT_ON_MESSAGE, NOT_INSIDE_MESSAGE, NAME_END_MESSAGE}
use Rattle.paw_base.specs.declared.messages.TheConstants.{IMPOSSIBLE_MESSAGE}
use Rattle.paw_game.specs.Game.{GameLists}
use Rattle.paw_world.specs.World.{World}
use Rattle.paw_effects.specs.Texts.{object_text, put_text, say_text}
use Rattle.paw_effects.specs.ObjectWords.{spoken_words}
use Rattle.paw_effects.specs.ObjectActions.{hindrances, outcome, acted_on}
use Rattle.paw_effects.specs.AutoActions.{missing_reply, acted_on_found}
use Rattle.paw_reading.proofs.SpokenActions.{AllSaid, acted_so, found_so}
use Rattle.paw_check.specs.Measures.{most_put}
use Rattle.paw_check.specs.Prints.{said_of_objects, most_of_action}
use Rattle.paw_check.specs.Verbs.{is_among}
use Rattle.paw_check.proofs.Lengths.{name_most, put_most, say_most, among_most}

-- ---- one message ----

-- A message of an action, in any world.
abbrev pub Said : GameLists → ℕ → Type 0
Said g m = (u : World) → length (say_text g u m) ≤ most_of_action g

-- One with the name of a container.
abbrev pub Named : GameLists → ℕ → ℕ → Type 0
Named g m l = (u : World) → length (put_text g u m ++ object_text g l ++ say_text g u NAME_END_MESSAGE) ≤ most_of_action g

pub said : (g : GameLists) (m : ℕ) → is_among said_of_objects m ≡ true → Said g m
said g m among u = omega (arith, say_most g u m, among_most (most_put g) said_of_objects m among)

pub named : (g : GameLists) (m l : ℕ) → is_among said_of_objects m ≡ true → Named g m l
named g m l among u =
    omega (
      arith,
      put_most g u m,
      among_most (most_put g) said_of_objects m among,
      name_most g l,
      say_most g u NAME_END_MESSAGE,
      length-append (put_text g u m ++ object_text g l) (say_text g u NAME_END_MESSAGE),
      length-append (put_text g u m) (object_text g l),
    )

-- ---- actions ----

-- An action, with all that may be said against it and what is said where it is done.
module _ (g : GameLists) (a : _)
    (hinders : (u : World) (o : ℕ) → AllSaid (λ x. (v : World) → length (spoken_words g v x) ≤ most_of_action g) (hindrances u o a))
    (comes : (u : World) → length (spoken_words g u (outcome a)) ≤ most_of_action g) where
  pub acted_most : (w : World) (o : ℕ) → length (acted_on g w o a).text ≤ most_of_action g
  acted_most = acted_so (λ text. length text ≤ most_of_action g) g a hinders comes (said g IMPOSSIBLE_MESSAGE refl)

  pub found_most : (w : World) (found : Option ℕ) → length (spoken_words g w (missing_reply a)) ≤ most_of_action g
      → length (acted_on_found g w a found).text ≤ most_of_action g
  found_most = found_so (λ text. length text ≤ most_of_action g) g a hinders comes (said g IMPOSSIBLE_MESSAGE refl)

-- ---- what may be said against each action ----

pub get_said : (g : GameLists) → Said g HELD_MESSAGE × (Said g NOT_HERE_MESSAGE × (Said g TOO_HEAVY_MESSAGE × (Said g TOO_MANY_MESSAGE × Unit {0})))
get_said g = (said g HELD_MESSAGE refl, (said g NOT_HERE_MESSAGE refl, (said g TOO_HEAVY_MESSAGE refl, (said g TOO_MANY_MESSAGE refl, tt))))

pub wear_said : (g : GameLists)
    → Said g NOT_HELD_MESSAGE × (Said g WORN_ALREADY_MESSAGE × (Said g NOT_CARRIED_MESSAGE × (Said g NOT_WEARABLE_MESSAGE × Unit {0})))
wear_said g =
    (said g NOT_HELD_MESSAGE refl, (said g WORN_ALREADY_MESSAGE refl, (said g NOT_CARRIED_MESSAGE refl, (said g NOT_WEARABLE_MESSAGE refl, tt))))

pub remove_said : (g : GameLists)
    → Said g NOT_PUT_ON_MESSAGE × (Said g NOT_WORN_MESSAGE × (Said g NOT_REMOVABLE_MESSAGE × (Said g HANDS_FULL_MESSAGE × Unit {0})))
remove_said g =
    (said g NOT_PUT_ON_MESSAGE refl, (said g NOT_WORN_MESSAGE refl, (said g NOT_REMOVABLE_MESSAGE refl, (said g HANDS_FULL_MESSAGE refl, tt))))

pub take_out_said : (g : GameLists) (l : ℕ) → Said g HELD_MESSAGE × (Named g NOT_TAKEN_OUT_MESSAGE l × (Named g NOT_INSIDE_MESSAGE l
    × (Said g TOO_HEAVY_MESSAGE × (Said g TOO_MANY_MESSAGE × Unit {0}))))
take_out_said g l = (
  said g HELD_MESSAGE refl,
  (
    named g NOT_TAKEN_OUT_MESSAGE l refl,
    (
      named g NOT_INSIDE_MESSAGE l refl,
      (said g TOO_HEAVY_MESSAGE refl, (said g TOO_MANY_MESSAGE refl, tt)),
    ),
  ),
)

pub drop_said : (g : GameLists) → Said g WORN_MESSAGE × (Said g NOT_HELD_MESSAGE × (Said g NOT_CARRIED_MESSAGE × Unit {0}))
drop_said g = (said g WORN_MESSAGE refl, (said g NOT_HELD_MESSAGE refl, (said g NOT_CARRIED_MESSAGE refl, tt)))
