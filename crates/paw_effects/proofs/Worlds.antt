-- Worlds of a game that is played, and why they stay so.
use Rattle.std.proofs.Common.{◌≡◌, ℕ, zero, suc, ◌+◌, ◌-◌, ◌<◌, ◌≤◌, ◌==◌, Bool, true, false, ◌&&◌, ◌||◌, List, [], ◌∷◌}
use Rattle.std.proofs.Common.{Option, Some, None}
use Rattle.std.proofs.Common.{inl, inr, refl, sym, ◌∙◌, subst, length, map, min, slice_get, IsTrue, arith}
use Rattle.std.specs.Prelude.{if◌then◌else◌, not, nat_lt, nat_le, All, slice_index, slice_set, replicate, sum_by}
use Rattle.std.specs.List.{list_all}
use Rattle.std.specs.Option.{option_map, option_map_or}
use Rattle.std.proofs.Math.Nat.{min-le_left}
use Rattle.std.proofs.lemmas.Bool.{cases_lt, eqb-true, ltb-true, leb-true}
use Rattle.std.proofs.lemmas.Bool.Decides.{nat_tests}
use Rattle.std.proofs.lemmas.List.{length-set, length-map, get_or_past}
use Rattle.std.proofs.lemmas.List.Elements.{All-set, All-replicate}
use Rattle.std.proofs.lemmas.List.Sums.{count_by-le-length}
use Rattle.std.proofs.lemmas.Option.{slice_get-map}
use Rattle.paw_base.specs.Bytes.{Seed, Bytes}
use Rattle.paw_base.specs.declared.words.TheConstants.{LEAST_WORD, GREATEST_WORD, NO_WORD, ADVERB_CLASS, NOUN_CLASS}
use Rattle.paw_base.specs.declared.words.TheConstants.{ADJECTIVE_CLASS, PREPOSITION_CLASS}
use Rattle.paw_base.specs.declared.places.TheConstants.{NOT_CREATED_PLACE, CARRIED_PLACE, HERE_PLACE}
use Rattle.paw_base.specs.declared.limits.TheConstants.{LOCATION_LIMIT, WORD_LIMIT, STARTING_CARRIED, STARTING_WEIGHT}
use Rattle.paw_base.specs.declared.limits.TheConstants.{OBJECT_LIMIT, POSITION_COUNT, MESSAGE_LIMIT, SYSTEM_LIMIT}
use Rattle.paw_base.specs.declared.limits.TheConstants.{TABLE_LEAST, TABLE_LIMIT, WEIGHT_LEVELS, FLAG_COUNT}
use Rattle.paw_base.specs.declared.parts.ObjectFacts.{ObjectFacts}
use Rattle.paw_base.specs.declared.rows.ParamKind.{ParamKind}
use Rattle.paw_base.specs.declared.rows.ParamKind.TheVariants as kind
use Rattle.paw_base.specs.declared.flags.TheConstants.{LOCATION_FLAG, CARRIED_FLAG, MOST_CARRIED_FLAG, VERB_FLAG}
use Rattle.paw_base.specs.declared.flags.TheConstants.{NOUN_FLAG, ADJECTIVE_FLAG, ADVERB_FLAG, PREPOSITION_FLAG}
use Rattle.paw_base.specs.declared.flags.TheConstants.{SECOND_NOUN_FLAG, SECOND_ADJECTIVE_FLAG, PRONOUN_NOUN_FLAG}
use Rattle.paw_base.specs.declared.flags.TheConstants.{PRONOUN_ADJECTIVE_FLAG, REFERRED_FLAG, MOST_WEIGHT_FLAG}
use Rattle.paw_game.specs.declared.parts.Word.{Word}
use Rattle.paw_game.specs.declared.parts.ObjectRow.{ObjectRow}
use Rattle.paw_game.specs.Game.{GameLists, counts_of}
use Rattle.paw_game.specs.Tables.{facts_at}
use Rattle.paw_game.specs.Valid.{Valid, is_argument, is_place, is_parameter, is_within, is_word, words_rise}
use Rattle.paw_game.specs.Valid.{are_letters, has_word, is_word_or_none, is_object, is_text}
use Rattle.paw_game.proofs.ValidGames.{first_of_and, second_of_and, facts_follow, facts-weight}
use Rattle.paw_world.specs.World.{World, flag, with_flag, place, with_place, here, let_go, taken_up, object_moved}
use Rattle.paw_world.specs.World.{first_carried, flags_with}
use Rattle.paw_world.specs.World.{opening_places, starting_world, world_restarted, with_objects_returned}
use Rattle.paw_world.specs.Weight.{filled_weight, weight_down, weight, objects_at}
use Rattle.paw_effects.specs.Worlds.{IsOf}
use Rattle.paw_effects.specs.inner.Worlds.{ArePlacesOf}
use Rattle.paw_effects.specs.Presence.{named_place}
use Rattle.paw_effects.specs.Standing.{AreBytes}
use Rattle.paw_effects.specs.inner.Standing.{MayBePosition, IsWorldOf}

-- A world of the game with this seed, and at most n words drawn.
pub record IsWorldAt (g : GameLists) (seed : Seed) (n : ℕ) (w : World) : Type 0 where
  pub of : IsOf g w
  pub places : ArePlacesOf g w.places
  pub flags : AreBytes w.flags
  pub saved : MayBePosition g w.saved
  pub four : length w.kept ≡ POSITION_COUNT
  pub kept : All (MayBePosition g) w.kept
  pub seeded : w.seed ≡ seed
  pub draws : w.draws ≤ n

pub world_at : (g : GameLists) (seed : Seed) (n : ℕ) (w : World) → IsWorldOf g w → w.seed ≡ seed → w.draws ≤ n → IsWorldAt g seed n w
world_at g seed n w k seeded draws =
    record { of = k.of; places = k.places; flags = k.flags; saved = k.saved; four = k.four; kept = k.kept; seeded = seeded; draws = draws }

pub world_is : (g : GameLists) (seed : Seed) (n : ℕ) (w : World) → IsWorldAt g seed n w → IsWorldOf g w
world_is g seed n w k = record { of = k.of; flags = k.flags; places = k.places; saved = k.saved; four = k.four; kept = k.kept }

-- ---- bytes ----

pub byte_at : (xs : Bytes) (i : ℕ) → AreBytes xs → slice_index xs i < 256
byte_at xs i all = elim (cases_lt i (length xs)) [
  | inl low ↦ all i 0 low
  | inr high ↦ let none : slice_index xs i ≡ 0 = get_or_past xs i 0 high in omega (arith, none)
]

pub byte_set : (xs : Bytes) (i x : ℕ) → x < 256 → AreBytes xs → AreBytes (slice_set xs i x)
byte_set xs i x small all = All-set (λ b. b < 256) xs i x small all

-- ---- what the rules of a game say of numbers ----

pub few_locations : (g : GameLists) → Valid g → (1 ≤ length g.locations) × (length g.locations ≤ LOCATION_LIMIT)
few_locations g v = (
  leb-true 1 (length g.locations) (first_of_and (nat_le 1 (length g.locations)) _ v.locations),
  leb-true (length g.locations) LOCATION_LIMIT
      (first_of_and (nat_le (length g.locations) LOCATION_LIMIT) _ (second_of_and (nat_le 1 (length g.locations)) _ v.locations)),
)

pub few_objects : (g : GameLists) → Valid g → length g.objects ≤ OBJECT_LIMIT
few_objects g v = leb-true (length g.objects) OBJECT_LIMIT
    (first_of_and (nat_le (length g.objects) OBJECT_LIMIT) _ v.objects)

few_messages : (g : GameLists) → Valid g → length g.messages ≤ MESSAGE_LIMIT
few_messages g v = leb-true (length g.messages) MESSAGE_LIMIT (first_of_and (nat_le (length g.messages) MESSAGE_LIMIT) _ v.messages)

few_system : (g : GameLists) → Valid g → length g.system ≤ SYSTEM_LIMIT
few_system g v = leb-true (length g.system) SYSTEM_LIMIT (first_of_and (nat_le (length g.system) SYSTEM_LIMIT) _ v.system)

few_tables : (g : GameLists) → Valid g → length g.tables ≤ TABLE_LIMIT
few_tables g v =
    leb-true (length g.tables) TABLE_LIMIT
    (second_of_and (nat_le TABLE_LEAST (length g.tables)) _ (first_of_and (is_within TABLE_LEAST TABLE_LIMIT (length g.tables)) _ v.tables))

value_small : (w : Word) → IsTrue (is_word w) → w.value < 256
value_small w h =
    let range = first_of_and (is_within LEAST_WORD GREATEST_WORD w.value) _ (second_of_and (are_letters w.letters) _ h) in
    omega (arith, leb-true w.value GREATEST_WORD (second_of_and (nat_le LEAST_WORD w.value) _ range))

word_small : (ws : List Word) (class value : ℕ) → IsTrue (list_all is_word ws) → IsTrue (has_word ws class value) → value < 256
word_small [] class value all has = cc
word_small (w ∷ ws) class value all has = go ((w.class == class) && (w.value == value)) refl has (word_small ws class value (second_of_and (is_word w) _ all))
  where
    go : (b : Bool) → ((w.class == class) && (w.value == value)) ≡ b → IsTrue (b || has_word ws class value) →
        (IsTrue (has_word ws class value) → value < 256) → value < 256
    go true e h later =
        let is : w.value ≡ value = eqb-true w.value value (second_of_and (w.class == class) _ e) in
        subst (λ x. x < 256) is (value_small w (first_of_and (is_word w) _ all))
    go false e h later = later h

words_are_valid : (g : GameLists) → Valid g → IsTrue (list_all is_word g.words)
words_are_valid g v = first_of_and _ (words_rise g.words) (second_of_and (nat_le (length g.words) WORD_LIMIT) _ v.words)

pub word_or_none_small : (g : GameLists) → Valid g → (class value : ℕ) → IsTrue (is_word_or_none g.words class value) → value < 256
word_or_none_small g v class value h = go (value == NO_WORD) refl h
  where
    go : (b : Bool) → (value == NO_WORD) ≡ b → IsTrue (b || has_word g.words class value) → value < 256
    go true e k = omega (arith, eqb-true value NO_WORD e)
    go false e k = word_small g.words class value (words_are_valid g v) k

pub place_small : (g : GameLists) → Valid g → (p : ℕ) → IsTrue (is_place (length g.locations) p) → p < 256
place_small g v p h = let few = (few_locations g v).1 in grind (arith, nat_tests)

-- A parameter is a byte.
pub parameter_small : (g : GameLists) → Valid g → (k : ParamKind) (x : ℕ) → IsTrue (is_parameter (counts_of g) g.words k x) → x < 256
parameter_small g v kind.Absent x h = omega (arith, eqb-true x 0 h)
parameter_small g v kind.Location x h = omega (arith, ltb-true x (length g.locations) h, (few_locations g v).1)
parameter_small g v kind.Place x h = let few = (few_locations g v).1 in grind (arith, nat_tests)
parameter_small g v kind.Object x h = omega (arith, ltb-true x (length g.objects) h, few_objects g v)
parameter_small g v kind.Flag x h = ltb-true x 256 h
parameter_small g v kind.Number x h = ltb-true x 256 h
parameter_small g v kind.Message x h = omega (arith, ltb-true x (length g.messages) h, few_messages g v)
parameter_small g v kind.System x h = omega (arith, ltb-true x (length g.system) h, few_system g v)
parameter_small g v kind.Table x h = omega (arith, ltb-true x (length g.tables) h, few_tables g v)
parameter_small g v kind.Adverb x h = word_or_none_small g v ADVERB_CLASS x h
parameter_small g v kind.Noun x h = word_or_none_small g v NOUN_CLASS x h
parameter_small g v kind.Adjective x h = word_or_none_small g v ADJECTIVE_CLASS x h
parameter_small g v kind.Preposition x h = word_or_none_small g v PREPOSITION_CLASS x h

-- So is one that arises in play.
pub argument_small : (g : GameLists) → Valid g → (k : ParamKind) (x : ℕ) → IsTrue (is_argument g k x) → x < 256
argument_small g v kind.Adverb x h = ltb-true x 256 h
argument_small g v kind.Noun x h = ltb-true x 256 h
argument_small g v kind.Adjective x h = ltb-true x 256 h
argument_small g v kind.Preposition x h = ltb-true x 256 h
argument_small g v k x h = parameter_small g v k x h

-- The words of an object's facts.
pub record AreSmall (f : ObjectFacts) : Type 0 where
  pub noun : f.noun < 256
  pub adjective : f.adjective < 256

pub facts_small : (g : GameLists) → Valid g → (o : ℕ) (f : ObjectFacts) → facts_at g o ≡ Some f → AreSmall f
facts_small g v o f e =
    let kept = facts_follow g v o f e in
    record {
      noun = word_or_none_small g v NOUN_CLASS f.noun (first_of_and (is_word_or_none g.words NOUN_CLASS f.noun) _ kept);
      adjective =
          word_or_none_small g v ADJECTIVE_CLASS f.adjective
          (first_of_and (is_word_or_none g.words ADJECTIVE_CLASS f.adjective) _ (second_of_and (is_word_or_none g.words NOUN_CLASS f.noun) _ kept));
    }

-- The facts of a world are those of the game.
facts_same : (os : List ObjectRow) (o : ℕ) → slice_get (map (λ (r : ObjectRow). r.facts) os) o ≡ option_map (λ (r : ObjectRow). r.facts) (slice_get os o)
facts_same os o = slice_get-map (λ (r : ObjectRow). r.facts) os o

module _ (g : GameLists) (v : Valid g) (seed : Seed) where
  abbrev pub IsPlace : ℕ → Type 0
  IsPlace p = IsTrue (is_place (length g.locations) p)

  pub zero_place : IsPlace 0
  zero_place = let some = (few_locations g v).0 in grind (arith, nat_tests)

  -- ---- parts of a world ----

  module _ (n : ℕ) where
    -- What holds in both cases.
    pub world_of : (b : Bool) (x y : World) → IsWorldAt g seed n x → IsWorldAt g seed n y → IsWorldAt g seed n (if b then x else y)
    world_of true x y h k = h
    world_of false x y h k = k

    pub later : (w : World) → IsWorldAt g seed n w → (m : ℕ) → n ≤ m → IsWorldAt g seed m w
    later w k m more = world_at g seed m w (world_is g seed n w k) k.seeded (omega (arith, k.draws))

    pub flag_small : (w : World) → IsWorldAt g seed n w → (f : ℕ) → flag w f < 256
    flag_small w k f = byte_at w.flags f k.flags

    pub flagged : (w : World) → IsWorldAt g seed n w → (f x : ℕ) → x < 256 → IsWorldAt g seed n (with_flag w f x)
    flagged w k f x small = record {
      of = record { facts = k.of.facts; locations = k.of.locations; flags = length-set w.flags f x ∙ k.of.flags; places = k.of.places };
      places = k.places;
      flags = byte_set w.flags f x small k.flags;
      saved = k.saved;
      four = k.four;
      kept = k.kept;
      seeded = k.seeded;
      draws = k.draws;
    }

    pub placed : (w : World) → IsWorldAt g seed n w → (o p : ℕ) → IsPlace p → IsWorldAt g seed n (with_place w o p)
    placed w k o p at = record {
      of = record { facts = k.of.facts; locations = k.of.locations; flags = k.of.flags; places = length-set w.places o p ∙ k.of.places };
      places = All-set (λ q. IsPlace q) w.places o p at k.places;
      flags = k.flags;
      saved = k.saved;
      four = k.four;
      kept = k.kept;
      seeded = k.seeded;
      draws = k.draws;
    }

    pub place_of : (w : World) → IsWorldAt g seed n w → (o : ℕ) → IsPlace (place w o)
    place_of w k o = elim (cases_lt o (length w.places)) [
      | inl low ↦ k.places o 0 low
      | inr high ↦ let none : place w o ≡ 0 = get_or_past w.places o 0 high in subst IsPlace (sym none) zero_place
    ]

    pub place_is_small : (w : World) → IsWorldAt g seed n w → (o : ℕ) → place w o < 256
    place_is_small w k o = place_small g v (place w o) (place_of w k o)

    pub here_place : (w : World) → IsWorldAt g seed n w → IsPlace (here w)
    here_place w k = go (nat_lt (flag w LOCATION_FLAG) w.locations) refl
      where
        go : (b : Bool) → nat_lt (flag w LOCATION_FLAG) w.locations ≡ b
            → IsPlace (if b then flag w LOCATION_FLAG else NOT_CREATED_PLACE)
        go true e =
            let low : flag w LOCATION_FLAG < length g.locations =
            subst (λ l. flag w LOCATION_FLAG < l) k.of.locations (ltb-true (flag w LOCATION_FLAG) w.locations e) in
            grind (arith, nat_tests)
        go false e = let few = (few_locations g v).1 in grind (arith, nat_tests)

    pub named : (w : World) → IsWorldAt g seed n w → (p : ℕ) → IsTrue (is_parameter (counts_of g) g.words kind.Place p) → IsPlace (named_place w p)
    named w k p h = go (p == HERE_PLACE) refl
      where
        go : (b : Bool) → (p == HERE_PLACE) ≡ b → IsPlace (if b then here w else p)
        go true e = here_place w k
        go false e = grind (arith, nat_tests)

    let_go_so : (w : World) → IsWorldAt g seed n w → (p : ℕ) → IsWorldAt g seed n (let_go w p)
    let_go_so w k p =
        let small = flag_small w k CARRIED_FLAG in
        world_of (p == CARRIED_PLACE) (with_flag w CARRIED_FLAG (flag w CARRIED_FLAG - 1)) w
        (flagged w k CARRIED_FLAG (flag w CARRIED_FLAG - 1) (omega arith)) k

    taken_up_so : (w : World) → IsWorldAt g seed n w → (p : ℕ) → IsWorldAt g seed n (taken_up w p)
    taken_up_so w k p =
        let most = min-le_left 255 (flag w CARRIED_FLAG + 1) in
        world_of (p == CARRIED_PLACE) (with_flag w CARRIED_FLAG (min 255 (flag w CARRIED_FLAG + 1))) w
        (flagged w k CARRIED_FLAG (min 255 (flag w CARRIED_FLAG + 1)) (omega arith)) k

    pub moved_so : (w : World) → IsWorldAt g seed n w → (o p : ℕ) → IsPlace p → IsWorldAt g seed n (object_moved w o p)
    moved_so w k o p at =
        let free : World = let_go w (place w o) in
        let up : World = taken_up free p in
        world_of (place w o == p) w (with_place up o p) k (placed up (taken_up_so free (let_go_so w k (place w o)) p) o p at)

    -- What an object weighs is a byte.
    facts_are : (w : World) → IsWorldAt g seed n w → (o : ℕ) → slice_get w.facts o ≡ facts_at g o
    facts_are w k o = subst (λ fs. slice_get w.facts o ≡ slice_get fs o) k.of.facts refl ∙ facts_same g.objects o

    own_small : (o : ℕ) (found : Option ObjectFacts) → facts_at g o ≡ found → option_map_or (λ (f : ObjectFacts). f.weight) found 0 < 256
    own_small o None e = omega arith
    own_small o (Some f) e = omega (arith, facts-weight g v o f e)

    filled_small : (o contents : ℕ) (found : Option ObjectFacts) → facts_at g o ≡ found → filled_weight found contents < 256
    filled_small o contents None e = omega arith
    filled_small o contents (Some f) e = go (f.container && not (f.weight == 0)) where
      go : (b : Bool) → (if b then min 255 (f.weight + contents) else f.weight) < 256
      go true = omega (arith, min-le_left 255 (f.weight + contents))
      go false = omega (arith, facts-weight g v o f e)

    weight_down_small : (w : World) → IsWorldAt g seed n w → (levels o : ℕ) → weight_down w levels o < 256
    unfolding weight_down
    weight_down_small w k zero o =
        subst (λ found. option_map_or (λ (f : ObjectFacts). f.weight) found 0 < 256) (sym (facts_are w k o)) (own_small o (facts_at g o) refl)
    weight_down_small w k (suc levels) o =
        let contents = sum_by (weight_down w levels) (objects_at w o) in
        subst (λ found. filled_weight found contents < 256) (sym (facts_are w k o)) (filled_small o contents (facts_at g o) refl)

    pub weight_small : (w : World) → IsWorldAt g seed n w → (o : ℕ) → weight w o < 256
    weight_small w k o = weight_down_small w k WEIGHT_LEVELS o

  -- ---- places and flags at the start ----

  carried_small : first_carried (map (λ o. o.facts) g.objects) < 256
  carried_small =
      omega (
        arith,
        count_by-le-length (λ (f : ObjectFacts). f.start == CARRIED_PLACE) (map (λ o. o.facts) g.objects),
        length-map g.objects (λ (o : ObjectRow). o.facts),
        few_objects g v,
      )

  starts_are_places : (os : List ObjectRow) → IsTrue (list_all (is_object g.words (length g.locations)) os) →
      ArePlacesOf g (opening_places (map (λ o. o.facts) os))
  starts_are_places [] all k d low = absurd (omega arith)
  starts_are_places (o ∷ os) all zero d low =
      first_of_and (is_place (length g.locations) o.facts.start) _ (second_of_and (is_word_or_none g.words ADJECTIVE_CLASS o.facts.adjective) _
      (second_of_and (is_word_or_none g.words NOUN_CLASS o.facts.noun) _
      (second_of_and (is_text o.text) _ (first_of_and (is_object g.words (length g.locations) o) _ all))))
  starts_are_places (o ∷ os) all (suc k) d low = starts_are_places os (second_of_and (is_object g.words (length g.locations) o) _ all) k d (omega arith)

  start_places : ArePlacesOf g (opening_places (map (λ o. o.facts) g.objects))
  start_places = starts_are_places g.objects (second_of_and (nat_le (length g.objects) OBJECT_LIMIT) _ v.objects)

  start_count : length (opening_places (map (λ o. o.facts) g.objects)) ≡ length g.objects
  start_count = length-map (map (λ (o : ObjectRow). o.facts) g.objects) (λ (f : ObjectFacts). f.start) ∙ length-map g.objects (λ (o : ObjectRow). o.facts)

  -- 256 flags that are bytes.
  record AreFlags (flags : Bytes) : Type 0 where
    all : length flags ≡ FLAG_COUNT
    bytes : AreBytes flags

  one_set : (flags : Bytes) → AreFlags flags → (f x : ℕ) → x < 256 → AreFlags (slice_set flags f x)
  one_set flags k f x small = record { all = length-set flags f x ∙ k.all; bytes = byte_set flags f x small k.bytes }

  none_set : (flags : Bytes) → AreFlags flags → (f : ℕ) → AreFlags (slice_set flags f NO_WORD)
  none_set flags k f = one_set flags k f NO_WORD (omega arith)

  flags_at_start : (carried : ℕ) → carried < 256 → AreFlags (flags_with carried)
  unfolding flags_with
  flags_at_start carried small =
      let blank : AreFlags (replicate FLAG_COUNT 0) = record { all = refl; bytes = All-replicate (λ b. b < 256) FLAG_COUNT 0 (omega arith) } in
      one_set _ (one_set _ (none_set _ (none_set _ (none_set _ (none_set _ (none_set _ (none_set _
      (none_set _ (none_set _ (none_set _ (none_set _ (one_set (replicate FLAG_COUNT 0) blank CARRIED_FLAG carried small)
      VERB_FLAG) NOUN_FLAG) ADJECTIVE_FLAG) ADVERB_FLAG) PREPOSITION_FLAG) SECOND_NOUN_FLAG) SECOND_ADJECTIVE_FLAG)
      PRONOUN_NOUN_FLAG) PRONOUN_ADJECTIVE_FLAG) REFERRED_FLAG) MOST_CARRIED_FLAG STARTING_CARRIED (omega arith))
      MOST_WEIGHT_FLAG STARTING_WEIGHT (omega arith)

  pub start_so : IsWorldAt g seed 0 (starting_world (map (λ o. o.facts) g.objects) (length g.locations) seed)
  start_so =
      let start = flags_at_start (first_carried (map (λ o. o.facts) g.objects)) carried_small in
      record {
        of = record { facts = refl; locations = refl; flags = start.all; places = start_count };
        places = start_places;
        flags = start.bytes;
        saved = tt;
        four = refl;
        kept = All-replicate (MayBePosition g) POSITION_COUNT None tt;
        seeded = refl;
        draws = omega arith;
      }

  module _ (n : ℕ) (w : World) (k : IsWorldAt g seed n w) where
    pub anew_so : IsWorldAt g seed n (world_restarted w)
    anew_so =
        let start = flags_at_start (first_carried (map (λ o. o.facts) g.objects)) carried_small in
        record {
          of = record {
            facts = k.of.facts;
            locations = k.of.locations;
            flags = rw k.of.facts start.all;
            places = rw k.of.facts start_count;
          };
          places = rw k.of.facts start_places;
          flags = rw k.of.facts start.bytes;
          saved = k.saved;
          four = k.four;
          kept = k.kept;
          seeded = k.seeded;
          draws = k.draws;
        }

    pub returned_so : IsWorldAt g seed n (with_objects_returned w)
    returned_so = record {
      of = record {
        facts = k.of.facts;
        locations = k.of.locations;
        flags = length-set w.flags 1 _ ∙ k.of.flags;
        places = rw k.of.facts start_count;
      };
      places = rw k.of.facts start_places;
      flags = rw k.of.facts (byte_set w.flags 1 (first_carried (map (λ o. o.facts) g.objects)) carried_small k.flags);
      saved = k.saved;
      four = k.four;
      kept = k.kept;
      seeded = k.seeded;
      draws = k.draws;
    }
