-- The rules of a valid game, part by part; and that a valid game fits its image.
use Rattle.std.proofs.Common.{◌≡◌, ℕ, ◌≤◌, Bool, true, leb, eqb, ◌&&◌, ◌||◌, List, [], ◌∷◌, length, ◌∙◌, arith}
use Rattle.std.specs.List.{list_all, AllByRecursion}
use Rattle.std.proofs.lemmas.Bool.{and_parts, leb-true, eqb-true}
use Rattle.paw_base.specs.Bytes.{Text, Letters}
use Rattle.paw_base.specs.declared.parts.Condact.{Condact}
use Rattle.paw_base.specs.declared.rows.ParamKind.{ParamKind}
use Rattle.paw_base.specs.declared.rows.ParamKind.TheVariants as kind
use Rattle.paw_base.specs.Condacts.{is_code, first_kind, second_kind}
use Rattle.paw_base.specs.declared.limits.TheConstants.{WORD_LENGTH, WORD_LIMIT, SYSTEM_LIMIT, MESSAGE_LIMIT}
use Rattle.paw_base.specs.declared.limits.TheConstants.{OBJECT_LIMIT, LOCATION_LEAST, LOCATION_LIMIT, TABLE_LEAST}
use Rattle.paw_base.specs.declared.limits.TheConstants.{TABLE_LIMIT, TEXT_LIMIT, EXIT_LIMIT, ENTRY_LIMIT, CONDACT_LIMIT}
use Rattle.paw_base.specs.declared.limits.TheConstants.{WEIGHT_LIMIT}
use Rattle.paw_base.specs.declared.words.TheConstants.{NOUN_CLASS, ADJECTIVE_CLASS}
use Rattle.paw_game.specs.declared.parts.Word.{Word}
use Rattle.paw_game.specs.declared.parts.ObjectRow.{ObjectRow}
use Rattle.paw_game.specs.declared.parts.Exit.{Exit}
use Rattle.paw_game.specs.declared.parts.Entry.{Entry}
use Rattle.paw_game.specs.Game.{GameLists, counts_of}
use Rattle.paw_game.proofs.Faults.{rise_after, rise_after-none}
use Rattle.paw_game.specs.Valid.{is_within, are_letters, is_word, has_word, is_verb_value, is_word_or_none, is_place}
use Rattle.paw_game.specs.Valid.{is_wildcard}
use Rattle.paw_game.specs.Valid.{is_text, is_object, exits_are_valid, is_parameter, is_condact, is_entry, is_table}
use Rattle.paw_game.specs.Valid.{Valid}
use Rattle.paw_image.specs.inner.Sizes.{FitsWord, FitsText, FitsObject, FitsExits, FitsParameter, FitsCondact}
use Rattle.paw_image.specs.inner.Sizes.{FitsEntry, FitsTable, FitsGame}

-- What a test gives at each element.
all_give : {A : Type 0} (p : A → Bool) (P : A → Type 0) → ((x : A) → p x ≡ true → P x) → (xs : List A) → list_all p xs ≡ true → AllByRecursion P xs
all_give p P gives [] e = tt
all_give p P gives (x ∷ xs) e = let both = and_parts (p x) (list_all p xs) e in (gives x both.0, all_give p P gives xs both.1)

pub letters_fit : (letters : Letters) → are_letters letters ≡ true → length letters ≡ WORD_LENGTH
letters_fit [] e = absurd cc
letters_fit (c ∷ cs) e = eqb-true _ _ (and_parts (eqb (length (c ∷ cs)) WORD_LENGTH) _ e).0

pub word_fits : (w : Word) → is_word w ≡ true → FitsWord w
word_fits w e = letters_fit w.letters (and_parts (are_letters w.letters) _ e).0

text_fits : (text : Text) → is_text text ≡ true → FitsText text
text_fits text e = omega (arith, leb-true _ _ (and_parts (leb (length text) TEXT_LIMIT) _ e).0)

object_fits : (ws : List Word) (locations : ℕ) (o : ObjectRow) → is_object ws locations o ≡ true → FitsObject o
object_fits ws locations o e =
    let text = and_parts (is_text o.text) _ e in
    let noun = and_parts (is_word_or_none ws NOUN_CLASS o.facts.noun) _ text.1 in
    let adjective = and_parts (is_word_or_none ws ADJECTIVE_CLASS o.facts.adjective) _ noun.1 in
    let start = and_parts (is_place locations o.facts.start) (leb o.facts.weight WEIGHT_LIMIT) adjective.1 in
    record { text = text_fits o.text text.0; weight = omega (arith, leb-true _ _ start.1) }

exits_fit : (ws : List Word) (locations : ℕ) (xs : List Exit) → exits_are_valid ws locations xs ≡ true → FitsExits xs
exits_fit ws locations xs e = omega (arith, leb-true _ _ (and_parts (leb (length xs) EXIT_LIMIT) _ e).0)

parameter_fits : (g : GameLists) (k : ParamKind) (x : ℕ) → is_parameter (counts_of g) g.words k x ≡ true → FitsParameter k x
parameter_fits g kind.Absent x e = eqb-true x 0 e
parameter_fits g _ x e = tt

condact_fits : (g : GameLists) (c : Condact) → is_condact g c ≡ true → FitsCondact c
condact_fits g c e =
    let code = and_parts (is_code c.code) _ e in
    let parameters =
    and_parts (is_parameter (counts_of g) g.words (first_kind c.code) c.a)
    (is_parameter (counts_of g) g.words (second_kind c.code) c.b) code.1 in
    record {
      code = code.0;
      a = parameter_fits g (first_kind c.code) c.a parameters.0;
      b = parameter_fits g (second_kind c.code) c.b parameters.1;
    }

entry_fits : (g : GameLists) (en : Entry) → is_entry g en ≡ true → FitsEntry en
entry_fits g en e =
    let verb = and_parts (is_wildcard en.verb || is_verb_value g.words en.verb) _ e in
    let noun = and_parts (is_wildcard en.noun || has_word g.words NOUN_CLASS en.noun) _ verb.1 in
    let condacts = and_parts (leb (length en.condacts) CONDACT_LIMIT) (list_all (is_condact g) en.condacts) noun.1 in
    record { count = omega (arith, leb-true _ _ condacts.0); condacts = all_give (is_condact g) FitsCondact (condact_fits g) en.condacts condacts.1 }

table_fits : (g : GameLists) (es : List Entry) → is_table g es ≡ true → FitsTable es
table_fits g es e =
    let both = and_parts (leb (length es) ENTRY_LIMIT) (list_all (is_entry g) es) e in
    record { count = omega (arith, leb-true _ _ both.0); entries = all_give (is_entry g) FitsEntry (entry_fits g) es both.1 }

-- ---- the rules of a valid game, part by part ----

pub record ValidParts (g : GameLists) : Type 0 where
  pub words_few : leb (length g.words) WORD_LIMIT ≡ true
  pub words_follow : list_all is_word g.words ≡ true
  pub words_rise : rise_after [] g.words ≡ true
  pub system_few : leb (length g.system) SYSTEM_LIMIT ≡ true
  pub system_follow : list_all is_text g.system ≡ true
  pub messages_few : leb (length g.messages) MESSAGE_LIMIT ≡ true
  pub messages_follow : list_all is_text g.messages ≡ true
  pub objects_few : leb (length g.objects) OBJECT_LIMIT ≡ true
  pub objects_follow : list_all (is_object g.words (length g.locations)) g.objects ≡ true
  pub locations_some : leb LOCATION_LEAST (length g.locations) ≡ true
  pub locations_few : leb (length g.locations) LOCATION_LIMIT ≡ true
  pub locations_follow : list_all is_text g.locations ≡ true
  pub exits_many : length g.exits ≡ length g.locations
  pub exits_follow : list_all (exits_are_valid g.words (length g.locations)) g.exits ≡ true
  pub tables_within : is_within TABLE_LEAST TABLE_LIMIT (length g.tables) ≡ true
  pub tables_follow : list_all (is_table g) g.tables ≡ true

-- The two parts of a rule.
few_of : (n most : ℕ) (b : Bool) → (leb n most && b) ≡ true → leb n most ≡ true
few_of n most b h = (and_parts (leb n most) b h).0

follow_of : (a b : Bool) → (a && b) ≡ true → b ≡ true
follow_of a b h = (and_parts a b h).1

pub parts_of : (g : GameLists) → Valid g → ValidParts g
parts_of g valid =
    let words = follow_of (leb (length g.words) WORD_LIMIT) _ valid.words in
    let rise = and_parts (list_all is_word g.words) (rise_after [] g.words) (rise_after-none g.words ∙ words) in
    let some = and_parts (leb LOCATION_LEAST (length g.locations)) _ valid.locations in
    let exits = and_parts (eqb (length g.exits) (length g.locations)) _ valid.exits in
    record {
      words_few = few_of (length g.words) WORD_LIMIT _ valid.words;
      words_follow = rise.0;
      words_rise = rise.1;
      system_few = few_of (length g.system) SYSTEM_LIMIT _ valid.system;
      system_follow = follow_of (leb (length g.system) SYSTEM_LIMIT) _ valid.system;
      messages_few = few_of (length g.messages) MESSAGE_LIMIT _ valid.messages;
      messages_follow = follow_of (leb (length g.messages) MESSAGE_LIMIT) _ valid.messages;
      objects_few = few_of (length g.objects) OBJECT_LIMIT _ valid.objects;
      objects_follow = follow_of (leb (length g.objects) OBJECT_LIMIT) _ valid.objects;
      locations_some = some.0;
      locations_few = few_of (length g.locations) LOCATION_LIMIT _ some.1;
      locations_follow = follow_of (leb (length g.locations) LOCATION_LIMIT) _ some.1;
      exits_many = eqb-true (length g.exits) (length g.locations) exits.0;
      exits_follow = exits.1;
      tables_within = (and_parts (is_within TABLE_LEAST TABLE_LIMIT (length g.tables)) _ valid.tables).0;
      tables_follow = follow_of (is_within TABLE_LEAST TABLE_LIMIT (length g.tables)) _ valid.tables;
    }

pub tables_few : (g : GameLists) → ValidParts g → length g.tables ≤ TABLE_LIMIT
tables_few g v =
    leb-true _ _ (and_parts (leb TABLE_LEAST (length g.tables)) (leb (length g.tables) TABLE_LIMIT) v.tables_within).1

pub valid_fits : (g : GameLists) → Valid g → FitsGame g
valid_fits g valid =
    let v = parts_of g valid in
    record {
      counts = record {
        words = omega (arith, leb-true _ _ v.words_few);
        system = omega (arith, leb-true _ _ v.system_few);
        messages = omega (arith, leb-true _ _ v.messages_few);
        objects = omega (arith, leb-true _ _ v.objects_few);
        locations = omega (arith, leb-true _ _ v.locations_few);
        exits = v.exits_many;
        tables = omega (arith, tables_few g v);
      };
      words = all_give is_word FitsWord word_fits g.words v.words_follow;
      system = all_give is_text FitsText text_fits g.system v.system_follow;
      messages = all_give is_text FitsText text_fits g.messages v.messages_follow;
      objects = all_give (is_object g.words (length g.locations)) FitsObject (object_fits g.words (length g.locations))
          g.objects v.objects_follow;
      locations = all_give is_text FitsText text_fits g.locations v.locations_follow;
      exits = all_give (exits_are_valid g.words (length g.locations)) FitsExits (exits_fit g.words (length g.locations))
          g.exits v.exits_follow;
      tables = all_give (is_table g) FitsTable (table_fits g) g.tables v.tables_follow;
    }
