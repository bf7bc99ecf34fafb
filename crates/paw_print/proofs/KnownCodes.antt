-- A valid game has known condacts alone.
use Rattle.std.proofs.Common.{◌≡◌, Bool, true, leb, ◌||◌, List, [], ◌∷◌, length}
use Rattle.std.specs.List.{list_all, AllByRecursion}
use Rattle.std.proofs.lemmas.Bool.{and_parts}
use Rattle.paw_base.specs.Condacts.{is_code}
use Rattle.paw_base.specs.declared.limits.TheConstants.{ENTRY_LIMIT, CONDACT_LIMIT}
use Rattle.paw_base.specs.declared.words.TheConstants.{NOUN_CLASS}
use Rattle.paw_base.specs.declared.parts.Condact.{Condact}
use Rattle.paw_game.specs.declared.parts.Entry.{Entry}
use Rattle.paw_game.specs.Game.{GameLists}
use Rattle.paw_game.specs.Valid.{has_word, is_verb_value, is_wildcard, is_condact, is_entry, is_table, Valid}
use Rattle.paw_print.specs.inner.Known.{IsKnown, IsKnownEntry, IsKnownTable}

-- What a test gives at each element.
all_give : {A : Type 0} (p : A → Bool) (P : A → Type 0) → ((x : A) → p x ≡ true → P x) → (xs : List A) → list_all p xs ≡ true → AllByRecursion P xs
all_give p P gives [] e = tt
all_give p P gives (x ∷ xs) e = let both = and_parts (p x) (list_all p xs) e in (gives x both.0, all_give p P gives xs both.1)

condact_known : (g : GameLists) (c : Condact) → is_condact g c ≡ true → IsKnown c
condact_known g c e = (and_parts (is_code c.code) _ e).0

entry_known : (g : GameLists) (en : Entry) → is_entry g en ≡ true → IsKnownEntry en
entry_known g en e =
    let verb = and_parts (is_wildcard en.verb || is_verb_value g.words en.verb) _ e in
    let noun = and_parts (is_wildcard en.noun || has_word g.words NOUN_CLASS en.noun) _ verb.1 in
    let condacts = and_parts (leb (length en.condacts) CONDACT_LIMIT) (list_all (is_condact g) en.condacts) noun.1 in
    all_give (is_condact g) IsKnown (condact_known g) en.condacts condacts.1

table_known : (g : GameLists) (es : List Entry) → is_table g es ≡ true → IsKnownTable es
table_known g es e =
    let both = and_parts (leb (length es) ENTRY_LIMIT) (list_all (is_entry g) es) e in
    all_give (is_entry g) IsKnownEntry (entry_known g) es both.1

pub valid_known : (g : GameLists) → Valid g → AllByRecursion IsKnownTable g.tables
valid_known g valid =
    let tables = and_parts _ (list_all (is_table g) g.tables) valid.tables in
    all_give (is_table g) IsKnownTable (table_known g) g.tables tables.1
