-- How many rows a valid game has.
use Rattle.std.proofs.Common.{◌≡◌, ◌≤◌, ◌==◌, length, nat_le}
use Rattle.std.proofs.lemmas.Bool.{leb-true, eqb-true}
use Rattle.paw_base.specs.declared.limits.TheConstants.{WORD_LIMIT, SYSTEM_LIMIT, MESSAGE_LIMIT, OBJECT_LIMIT}
use Rattle.paw_base.specs.declared.limits.TheConstants.{LOCATION_LEAST, LOCATION_LIMIT, TABLE_LEAST, TABLE_LIMIT}
use Rattle.paw_game.specs.Game.{GameLists}
use Rattle.paw_game.specs.Valid.{Valid, is_within}
use Rattle.paw_game.proofs.ValidGames.{first_of_and, second_of_and}

pub few_words : (g : GameLists) → Valid g → length g.words ≤ WORD_LIMIT
few_words g v = leb-true (length g.words) WORD_LIMIT (first_of_and _ _ v.words)

pub few_system : (g : GameLists) → Valid g → length g.system ≤ SYSTEM_LIMIT
few_system g v = leb-true (length g.system) SYSTEM_LIMIT (first_of_and _ _ v.system)

pub few_messages : (g : GameLists) → Valid g → length g.messages ≤ MESSAGE_LIMIT
few_messages g v = leb-true (length g.messages) MESSAGE_LIMIT (first_of_and _ _ v.messages)

pub few_objects : (g : GameLists) → Valid g → length g.objects ≤ OBJECT_LIMIT
few_objects g v = leb-true (length g.objects) OBJECT_LIMIT (first_of_and _ _ v.objects)

pub few_locations : (g : GameLists) → Valid g → length g.locations ≤ LOCATION_LIMIT
few_locations g v = leb-true (length g.locations) LOCATION_LIMIT (first_of_and _ _ (second_of_and (nat_le LOCATION_LEAST (length g.locations)) _ v.locations))

pub some_location : (g : GameLists) → Valid g → LOCATION_LEAST ≤ length g.locations
some_location g v =
    leb-true LOCATION_LEAST (length g.locations)
    (first_of_and (nat_le LOCATION_LEAST (length g.locations)) _ v.locations)

pub few_tables : (g : GameLists) → Valid g → length g.tables ≤ TABLE_LIMIT
few_tables g v =
    leb-true (length g.tables) TABLE_LIMIT (second_of_and (nat_le TABLE_LEAST (length g.tables)) _
    (first_of_and (is_within TABLE_LEAST TABLE_LIMIT (length g.tables)) _ v.tables))

pub some_tables : (g : GameLists) → Valid g → TABLE_LEAST ≤ length g.tables
some_tables g v =
    leb-true TABLE_LEAST (length g.tables) (first_of_and (nat_le TABLE_LEAST (length g.tables)) _
    (first_of_and (is_within TABLE_LEAST TABLE_LIMIT (length g.tables)) _ v.tables))

-- Each location has a list of exits.
pub exits_each : (g : GameLists) → Valid g → length g.exits ≡ length g.locations
exits_each g v = eqb-true (length g.exits) (length g.locations) (first_of_and (length g.exits == length g.locations) _ v.exits)
