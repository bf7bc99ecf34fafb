-- What a game prints has only bytes of its texts, of numbers and of marks.
use Rattle.std.proofs.Common.{◌≡◌, ℕ, zero, suc, ◌<◌, ◌^◌, ◌==◌, ◌||◌, Bool, true, false, List, [], ◌∷◌, ◌++◌, Option, Some, None}
use Rattle.std.proofs.Common.{refl, sym, ◌∙◌, ◌-◌, subst, map, slice_get, IsTrue, arith}
use Rattle.std.specs.Prelude.{if◌then◌else◌, decimal, codes, nat_le}
use Rattle.std.specs.List.{list_any, list_all, slice_index_or}
use Rattle.std.specs.Option.{option_map, option_map_or, unwrap_or}
use Rattle.std.specs.Str.Parse.{AllDigits}
use Rattle.std.proofs.lemmas.Bool.{and_from, and_parts, or_left, or_right, le-leb, eq-eqb}
use Rattle.std.proofs.lemmas.Fmt.{decimal_is_IsNumeral}
use Rattle.std.proofs.lemmas.Str.Parse.{digit_from_value}
use Rattle.std.proofs.lemmas.Option.{slice_get-map}
use Rattle.paw_base.specs.Bytes.{Text, Texts}
use Rattle.paw_base.specs.declared.codes.TheConstants.{INDIRECT}
use Rattle.paw_base.specs.declared.flags.TheConstants.{LOW_TURNS_FLAG, HIGH_TURNS_FLAG, SCORE_FLAG, LOCATION_FLAG}
use Rattle.paw_base.specs.declared.flags.TheConstants.{REFERRED_FLAG}
use Rattle.paw_base.specs.declared.messages.TheConstants.{PLURAL_MESSAGE, IS_WORN_MESSAGE, SEEN_MESSAGE, IMPOSSIBLE_MESSAGE}
use Rattle.paw_base.specs.declared.messages.TheConstants.{TURNS_MESSAGE, TURN_MESSAGE, TURNS_END_MESSAGE, SCORE_MESSAGE, SCORE_END_MESSAGE}
use Rattle.paw_base.specs.declared.messages.TheConstants.{INVENTORY_MESSAGE, EMPTY_HANDED_MESSAGE, NAME_END_MESSAGE, AGAIN_MESSAGE}
use Rattle.paw_base.specs.declared.messages.TheConstants.{OK_MESSAGE, KEY_MESSAGE, NOTHING_THERE_MESSAGE}
use Rattle.paw_base.specs.declared.messages.TheConstants.{NOT_WORN_MESSAGE, WORN_MESSAGE, HELD_MESSAGE, NOT_HERE_MESSAGE, TOO_MANY_MESSAGE}
use Rattle.paw_base.specs.declared.messages.TheConstants.{NOT_CARRIED_MESSAGE, WORN_ALREADY_MESSAGE, TAKEN_MESSAGE, PUT_ON_MESSAGE}
use Rattle.paw_base.specs.declared.messages.TheConstants.{TAKEN_OFF_MESSAGE, DROPPED_MESSAGE, NOT_WEARABLE_MESSAGE, NOT_REMOVABLE_MESSAGE}
use Rattle.paw_base.specs.declared.messages.TheConstants.{HANDS_FULL_MESSAGE, TOO_HEAVY_MESSAGE, PUT_IN_MESSAGE, NOT_TAKEN_OUT_MESSAGE}
use Rattle.paw_base.specs.declared.messages.TheConstants.{NOT_HELD_MESSAGE, NOT_PUT_ON_MESSAGE, NOT_INSIDE_MESSAGE}
use Rattle.paw_base.specs.declared.parts.Condact.{Condact}
use Rattle.paw_base.specs.declared.places.TheConstants.{WORN_PLACE}
use Rattle.paw_base.specs.declared.rows.ParamKind.{ParamKind}
use Rattle.paw_base.specs.declared.rows.ParamKind.TheVariants.{Absent}
use Rattle.paw_base.specs.Condacts.{CondactLine, condact_lines, plain_line, line_of, indirect_line, no_line, name_of, first_kind, second_kind}
use Rattle.paw_base.specs.Condacts.{is_indirect, plain_code}
use Rattle.paw_game.specs.Game.{GameLists}
use Rattle.paw_game.specs.Valid.{Valid, is_argument}
use Rattle.paw_game.specs.inner.Valid.{is_right}
use Rattle.paw_game.proofs.Right.{right-first, right-second}
use Rattle.paw_world.specs.World.{World, Position, flag, place, is_somewhere}
use Rattle.paw_world.specs.Weight.{objects_at}
use Rattle.paw_effects.specs.Standing.{AreBytes}
use Rattle.paw_effects.specs.Story.{Story}
use Rattle.paw_effects.specs.Texts.{object_text, with_name, printed_text, ended_text, put_text, say_text, message_text}
use Rattle.paw_effects.specs.Counts.{turns_taken, turns_text, score_text}
use Rattle.paw_effects.specs.Lists.{as_lines, joint, others_joined, as_sentence, lists_are_sentences, list_of, list_or_say, seen_text}
use Rattle.paw_effects.specs.Lists.{texts_at, held_text, inventory_text, here_list_text}
use Rattle.paw_effects.specs.Presence.{named_place, held_objects}
use Rattle.paw_effects.specs.Signs.{parameter_text, sign_text}
use Rattle.paw_effects.specs.ObjectWords.{spoken_words}
use Rattle.paw_effects.specs.ObjectSearch.{first_fitting}
use Rattle.paw_effects.specs.ObjectActions.{hindrances, outcome, acted_on}
use Rattle.paw_effects.specs.AutoActions.{missing_reply, looks_at, acted_on_found}
use Rattle.paw_effects.specs.Positions.{position_number, position_loaded}
use Rattle.paw_world.specs.World.{kept_position}
use Rattle.paw_effects.specs.Meanings.{Meaning, Tests, Acts, changing, meanings, meaning_of}
use Rattle.paw_effects.specs.Indirect.{as_plain, plain_with}
use Rattle.paw_effects.specs.Effects.{makes, done_by, plain_effect, effect_of}
use Rattle.paw_effects.proofs.Actions.{get, drop, wear, remove, put_in, take_out}
use Rattle.paw_effects.proofs.Worlds.{argument_small, byte_at}
use Rattle.paw_reading.specs.inner.Always.{is_byte_of, may_be_shown}
use Rattle.paw_reading.proofs.Induction.{IsSaid, Puts, Says, Shows, Both}
use Rattle.paw_reading.proofs.Cases.{either}
use Rattle.paw_reading.proofs.SpokenActions.{AllSaid, acted_so, found_so}

-- ---- bytes of texts ----

all_own : (text : Text) (p : ℕ → Bool) → ((b : ℕ) → is_byte_of b text ≡ true → p b ≡ true) → list_all p text ≡ true
all_own [] p h = refl
all_own (x ∷ text) p h =
    and_from (p x) _ (h x (or_left (x == x) _ (eq-eqb x x refl))) (all_own text p (λ b k. h b (or_right (x == b) _ k)))

any_at : {A : Type 0} (p : A → Bool) (xs : List A) (n : ℕ) (x : A) → slice_get xs n ≡ Some x → p x ≡ true → list_any p xs ≡ true
any_at p [] n x at h = cc
any_at p (y ∷ xs) zero x at h = let same : y ≡ x = cc in or_left (p y) _ (subst (λ z. p z ≡ true) (sym same) h)
any_at p (y ∷ xs) (suc n) x at h = or_right (p y) _ (any_at p xs n x at h)

any_left : {A : Type 0} (p : A → Bool) (xs ys : List A) → list_any p xs ≡ true → list_any p (xs ++ ys) ≡ true
any_left p [] ys h = cc
any_left p (x ∷ xs) ys h = go (p x) h (any_left p xs ys)
  where
    go : (b : Bool) → (b || list_any p xs) ≡ true → (list_any p xs ≡ true → list_any p (xs ++ ys) ≡ true) → (b || list_any p (xs ++ ys)) ≡ true
    go true k later = refl
    go false k later = later k

any_right : {A : Type 0} (p : A → Bool) (xs ys : List A) → list_any p ys ≡ true → list_any p (xs ++ ys) ≡ true
any_right p [] ys h = h
any_right p (x ∷ xs) ys h = or_right (p x) _ (any_right p xs ys h)

-- ---- what may be shown ----

module _ (g : GameLists) where
  -- A text of bytes that may be shown.
  abbrev pub Only : Text → Type 0
  Only text = list_all (may_be_shown g) text ≡ true

  pub both : (xs ys : Text) → Only xs → Only ys → Only (xs ++ ys)
  both [] ys h k = k
  both (x ∷ xs) ys h k =
      let parts = and_parts (may_be_shown g x) (list_all (may_be_shown g) xs) h in and_from (may_be_shown g x) _ parts.0 (both xs ys parts.1 k)

  -- Texts of such bytes.
  abbrev pub AllOnly : Texts → Type 0
  AllOnly [] = Unit {0}
  AllOnly (text ∷ texts) = Only text × AllOnly texts

  map_only : (f : ℕ → Text) → ((o : ℕ) → Only (f o)) → (os : List ℕ) → AllOnly (map f os)
  map_only f h [] = tt
  map_only f h (o ∷ os) = (h o, map_only f h os)

  -- ---- the texts of the game ----

  own : (texts : Texts) (n : ℕ) (text : Text) → slice_get texts n ≡ Some text → ((b : ℕ) → list_any (is_byte_of b) texts ≡ true → may_be_shown g b ≡ true) →
      Only text
  own texts n text at h = all_own text (may_be_shown g) (λ b k. h b (any_at (is_byte_of b) texts n text at k))

  own_or_none : (texts : Texts) (found : Option Text) → ((text : Text) → found ≡ Some text → Only text) → Only (unwrap_or found [])
  own_or_none texts None h = refl
  own_or_none texts (Some text) h = h text refl

  system_only : (n : ℕ) → Only (unwrap_or (slice_get g.system n) [])
  system_only n = own_or_none g.system (slice_get g.system n) (λ text at. own g.system n text at
      (λ b k. or_right _ _ (any_left (is_byte_of b) g.system _ k)))

  messages_only : (n : ℕ) → Only (unwrap_or (slice_get g.messages n) [])
  messages_only n = own_or_none g.messages (slice_get g.messages n) (λ text at. own g.messages n text at
      (λ b k. or_right _ _ (any_right (is_byte_of b) g.system _ (any_left (is_byte_of b) g.messages _ k))))

  locations_only : (n : ℕ) → Only (unwrap_or (slice_get g.locations n) [])
  locations_only n = own_or_none g.locations (slice_get g.locations n) (λ text at. own g.locations n text at
      (λ b k. or_right _ _
      (any_right (is_byte_of b) g.system _ (any_right (is_byte_of b) g.messages _ (any_right (is_byte_of b) (map (λ row. row.text) g.objects) _ k)))))

  object_only : (o : ℕ) → Only (object_text g o)
  object_only o = own_or_none (map (λ row. row.text) g.objects) (option_map (λ row. row.text) (slice_get g.objects o))
      (λ text at. own (map (λ row. row.text) g.objects) o text (slice_get-map (λ row. row.text) g.objects o ∙ at)
      (λ b k. or_right _ _
      (any_right (is_byte_of b) g.system _ (any_right (is_byte_of b) g.messages _ (any_left (is_byte_of b) (map (λ row. row.text) g.objects) _ k)))))

  named : (name text : Text) → Only name → Only text → Only (with_name name text)
  named name [] k h = refl
  named name (b ∷ text) k h =
      let parts = and_parts (may_be_shown g b) (list_all (may_be_shown g) text) h in
      either Only (b == 95) (name ++ with_name name text) (b ∷ with_name name text)
      (both name (with_name name text) k (named name text k parts.1))
      (and_from (may_be_shown g b) _ parts.0 (named name text k parts.1))

  printed : (w : World) (text : Text) → Only text → Only (printed_text g w text)
  printed w text h = named (object_text g (flag w REFERRED_FLAG)) text (object_only (flag w REFERRED_FLAG)) h

  ended : (w : World) (text : Text) → Only text → Only (ended_text g w text)
  ended w [] h = refl
  ended w (b ∷ text) h = both (printed_text g w (b ∷ text)) (10 ∷ []) (printed w (b ∷ text) h) refl

  put : (w : World) (s : ℕ) → Only (put_text g w s)
  put w s = printed w (unwrap_or (slice_get g.system s) []) (system_only s)

  say : (w : World) (s : ℕ) → Only (say_text g w s)
  say w s = ended w (unwrap_or (slice_get g.system s) []) (system_only s)

  message : (w : World) (m : ℕ) → Only (message_text g w m)
  message w m = printed w (unwrap_or (slice_get g.messages m) []) (messages_only m)

  pub said : (text : Text) → IsSaid g text → Only text
  said text (Puts w s) = put w s
  said text (Says w s) = say w s
  said text (Shows w l) = ended w (unwrap_or (slice_get g.locations l) []) (locations_only l)
  said text (Both a b h k) = both a b (said a h) (said b k)

  -- ---- numbers, signs and counts ----

  digits : (ds : Text) → AllDigits 10 ds → Only ds
  digits [] h = refl
  digits (c ∷ ds) h =
      let range = digit_from_value c h.0 in
      and_from (may_be_shown g c) _ (or_left _ _ (or_left _ _ (and_from (nat_le 48 c) (nat_le c 57) (le-leb 48 c range.0) (le-leb c 57 range.1)))) (digits ds h.1)

  number : (n : ℕ) → n < 2 ^ 64 → Only (decimal n)
  number n small = digits (decimal n) (decimal_is_IsNumeral n small).0.1

  flag_number : (w : World) (f : ℕ) → AreBytes w.flags → Only (decimal (flag w f))
  flag_number w f bytes = number (flag w f) (omega (arith, byte_at w.flags f bytes))

  line_name : (lines : List CondactLine) (code : ℕ) → list_all (λ (l : CondactLine). list_all (may_be_shown g) l.name) lines ≡ true →
      Only (slice_index_or lines code no_line).name
  line_name [] code all = refl
  line_name (line ∷ lines) zero all = (and_parts (list_all (may_be_shown g) line.name) _ all).0
  line_name (line ∷ lines) (suc code) all = line_name lines code (and_parts (list_all (may_be_shown g) line.name) _ all).1

  plain_name : (code : ℕ) → Only (plain_line code).name
  unfolding plain_line condact_lines
  plain_name code = line_name condact_lines code refl

  either_name : (b : Bool) (plain code : ℕ) → Only (if b then indirect_line plain else plain_line code).name
  either_name true plain code = plain_name plain
  either_name false plain code = plain_name code

  name : (code : ℕ) → Only (name_of code)
  unfolding line_of
  name code = either_name (is_indirect code) (code - INDIRECT) code

  parameter : (k : ParamKind) (x : ℕ) → x < 256 → Only (parameter_text k x)
  parameter Absent x small = refl
  parameter k x small = number x (omega (arith, small))

  sign : (c : Condact) → c.a < 256 → c.b < 256 → Only (sign_text c)
  sign c first second =
      let end : Text = codes "]\n" in
      let b : Text = parameter_text (second_kind c.code) c.b in
      let a : Text = parameter_text (first_kind c.code) c.a in
      both (codes "[") (name_of c.code ++ (a ++ (b ++ end))) refl
      (both (name_of c.code) (a ++ (b ++ end)) (name c.code)
      (both a (b ++ end) (parameter (first_kind c.code) c.a first) (both b end (parameter (second_kind c.code) c.b second) refl)))

  plural : (w : World) (one : Bool) → Only (if one then [] else put_text g w PLURAL_MESSAGE)
  plural w true = refl
  plural w false = put w PLURAL_MESSAGE

  turns : (w : World) → AreBytes w.flags → Only (turns_text g w)
  turns w bytes =
      let small : turns_taken w < 2 ^ 64 = omega (arith, byte_at w.flags LOW_TURNS_FLAG bytes, byte_at w.flags HIGH_TURNS_FLAG bytes) in
      both (put_text g w TURNS_MESSAGE) _ (put w TURNS_MESSAGE) (both (decimal (turns_taken w)) _ (number (turns_taken w) small)
      (both (put_text g w TURN_MESSAGE) _ (put w TURN_MESSAGE)
      (both (if turns_taken w == 1 then [] else put_text g w PLURAL_MESSAGE) _ (plural w (turns_taken w == 1)) (say w TURNS_END_MESSAGE))))

  score : (w : World) → AreBytes w.flags → Only (score_text g w)
  score w bytes =
      both (put_text g w SCORE_MESSAGE) _ (put w SCORE_MESSAGE)
      (both (decimal (flag w SCORE_FLAG)) _ (flag_number w SCORE_FLAG bytes) (say w SCORE_END_MESSAGE))

  -- ---- lists ----

  lines : (texts : Texts) → AllOnly texts → Only (as_lines texts)
  lines [] h = refl
  lines (text ∷ texts) h = both (text ++ 10 ∷ []) _ (both text (10 ∷ []) h.0 refl) (lines texts h.1)

  joins : (texts : Texts) → Only (joint texts)
  joins [] = refl
  joins (text ∷ texts) = refl

  others : (texts : Texts) → AllOnly texts → Only (others_joined texts)
  others [] h = refl
  others (text ∷ texts) h = both (joint texts) _ (joins texts) (both text _ h.0 (others texts h.1))

  sentence : (texts : Texts) → AllOnly texts → Only (as_sentence texts)
  sentence [] h = refl
  sentence (text ∷ texts) h = both text _ h.0 (others texts h.1)

  list : (w : World) (texts : Texts) → AllOnly texts → Only (list_of w texts)
  list w texts h = either Only (lists_are_sentences w) (as_sentence texts) (as_lines texts) (sentence texts h) (lines texts h)

  list_or : (w : World) (s : ℕ) (texts : Texts) → AllOnly texts → Only (list_or_say g w s texts)
  list_or w s [] h = say w s
  list_or w s (text ∷ texts) h = list w (text ∷ texts) h

  seen : (w : World) (texts : Texts) → AllOnly texts → Only (seen_text g w texts)
  seen w [] h = refl
  seen w (text ∷ texts) h = both (say_text g w SEEN_MESSAGE) _ (say w SEEN_MESSAGE) (list w (text ∷ texts) h)

  held : (w : World) (o : ℕ) → Only (held_text g w o)
  held w o =
      both (object_text g o) _ (object_only o)
      (either Only (place w o == WORN_PLACE) (put_text g w IS_WORN_MESSAGE) [] (put w IS_WORN_MESSAGE) refl)

  inventory : (w : World) → Only (inventory_text g w)
  inventory w =
      both (say_text g w INVENTORY_MESSAGE) _ (say w INVENTORY_MESSAGE)
      (list_or w EMPTY_HANDED_MESSAGE (map (held_text g w) (held_objects w)) (map_only (held_text g w) (held w) (held_objects w)))

  here_list : (w : World) → Only (here_list_text g w)
  here_list w =
      either Only (is_somewhere w) (seen_text g w (texts_at g w (flag w LOCATION_FLAG))) []
      (seen w (texts_at g w (flag w LOCATION_FLAG)) (map_only (object_text g) object_only (objects_at w (flag w LOCATION_FLAG)))) refl

  loaded : (w : World) (q : Option Position) → Only (position_loaded g w q).text
  loaded w None = say w IMPOSSIBLE_MESSAGE
  loaded w (Some q) = refl

-- ---- actions on objects ----

-- An action, with all that may be said against it and what is said where it is done.
module _ (g : GameLists) (a : _) (hinders : (u : World) (o : ℕ) → AllSaid (λ x. (v : World) → Only g (spoken_words g v x)) (hindrances u o a))
    (comes : (u : World) → Only g (spoken_words g u (outcome a))) where
  acted : (w : World) (o : ℕ) → Only g (acted_on g w o a).text
  acted = acted_so (Only g) g a hinders comes (λ u. say g u IMPOSSIBLE_MESSAGE)

  found : (w : World) (o : Option ℕ) → Only g (spoken_words g w (missing_reply a)) → Only g (acted_on_found g w a o).text
  found = found_so (Only g) g a hinders comes (λ u. say g u IMPOSSIBLE_MESSAGE)

-- A message, and one with the name of a container.
abbrev Told : GameLists → ℕ → Type 0
Told g m = (v : World) → Only g (say_text g v m)

abbrev Named : GameLists → ℕ → ℕ → Type 0
Named g m l = (v : World) → Only g ((put_text g v m ++ object_text g l) ++ say_text g v NAME_END_MESSAGE)

container : (g : GameLists) (m l : ℕ) → Named g m l
container g m l v =
    both g (put_text g v m ++ object_text g l) (say_text g v NAME_END_MESSAGE) (both g (put_text g v m) (object_text g l) (put g v m) (object_only g l))
    (say g v NAME_END_MESSAGE)

three : (g : GameLists) (a b c : ℕ) → Told g a × (Told g b × (Told g c × Unit {0}))
three g a b c = (λ v. say g v a, (λ v. say g v b, (λ v. say g v c, tt)))

four : (g : GameLists) (a b c d : ℕ) → Told g a × (Told g b × (Told g c × (Told g d × Unit {0})))
four g a b c d = (λ v. say g v a, three g b c d)

five : (g : GameLists) (a b c d e l : ℕ) → Told g a × (Named g b l × (Named g c l × (Told g d × (Told g e × Unit {0}))))
five g a b c d e l = (λ v. say g v a, (container g b l, (container g c l, (λ v. say g v d, (λ v. say g v e, tt)))))

-- ---- each row ----

-- What an action of this meaning prints.
abbrev PrintsOnly : Meaning → Type 0
PrintsOnly (Tests tested) = Unit {0}
PrintsOnly (Acts done) =
    (s : Story) (w : World) (c : Condact) → AreBytes w.flags → c.a < 256 → c.b < 256 → Only s.game (done s w c).text

quiet : (made : World → Condact → World) → PrintsOnly (changing made)
quiet made s w c k a b = refl

-- A fact of each row of a list.
abbrev Each : (Meaning → Type 0) → List Meaning → Type 0
Each P [] = Unit {0}
Each P (m ∷ ms) = P m × Each P ms

infixr 10 ◌&◌
-- The fact of a row, and those of the rows after it.
abbrev ◌&◌ : {A B : Type 0} → A → B → A × B
one & others = (one, others)

row_at : (P : Meaning → Type 0) (ms : List Meaning) (past : Meaning) → Each P ms → P past → (n : ℕ) → P (slice_index_or ms n past)
row_at P [] past rows beyond n = beyond
row_at P (m ∷ ms) past rows beyond zero = rows.0
row_at P (m ∷ ms) past rows beyond (suc n) = row_at P ms past rows.1 beyond n

each_row : Each PrintsOnly meanings
unfolding meanings
each_row =
    tt & tt & tt & tt & tt & tt & tt & tt &  -- AT, NOTAT, ATGT, ATLT, PRESENT, ABSENT, WORN, NOTWORN
    tt & tt & tt & tt & tt & tt & tt & tt &  -- CARRIED, NOTCARR, CHANCE, ZERO, NOTZERO, EQ, NOTEQ, GT
    tt & tt & tt & tt & tt & tt & tt & tt &  -- LT, SAME, NOTSAME, ADJECT1, ADVERB, PREP, NOUN2, ADJECT2
    tt & tt & tt & tt & tt &  -- ISAT, ISNOTAT, TIMEOUT, QUIT, MOVE
    (λ s w c k a b. inventory s.game w) &  -- INVEN
    (λ s w c k a b. refl) &  -- DESC
    (λ s w c k a b. put s.game w AGAIN_MESSAGE) &  -- END
    (λ s w c k a b. refl) & (λ s w c k a b. refl) &  -- DONE, NOTDONE
    (λ s w c k a b. say s.game w OK_MESSAGE) &  -- OK
    (λ s w c k a b. put s.game w KEY_MESSAGE) &  -- ANYKEY
    (λ s w c k a b. refl) &  -- SAVE
    (λ s w c k a b. loaded s.game w (kept_position w (position_number w))) &  -- LOAD
    (λ s w c k a b. refl) & (λ s w c k a b. refl) &  -- RAMSAVE, RAMLOAD
    (λ s w c k a b. turns s.game w k) &  -- TURNS
    (λ s w c k a b. score s.game w k) &  -- SCORE
    (λ s w c k a b. refl) &  -- DROPALL
    (λ s w c k a b. found s.game get (λ u o. four s.game HELD_MESSAGE NOT_HERE_MESSAGE TOO_HEAVY_MESSAGE TOO_MANY_MESSAGE) (λ u. say s.game u TAKEN_MESSAGE) w (first_fitting w (looks_at get)) (say s.game w NOT_HERE_MESSAGE)) &  -- AUTOG
    (λ s w c k a b. found s.game drop (λ u o. three s.game WORN_MESSAGE NOT_HELD_MESSAGE NOT_CARRIED_MESSAGE) (λ u. say s.game u DROPPED_MESSAGE) w (first_fitting w (looks_at drop)) (say s.game w NOT_CARRIED_MESSAGE)) &  -- AUTOD
    (λ s w c k a b. found s.game wear (λ u o. four s.game NOT_HELD_MESSAGE WORN_ALREADY_MESSAGE NOT_CARRIED_MESSAGE NOT_WEARABLE_MESSAGE) (λ u. say s.game u PUT_ON_MESSAGE) w (first_fitting w (looks_at wear)) (say s.game w NOT_CARRIED_MESSAGE)) &  -- AUTOW
    (λ s w c k a b. found s.game remove (λ u o. four s.game NOT_PUT_ON_MESSAGE NOT_WORN_MESSAGE NOT_REMOVABLE_MESSAGE HANDS_FULL_MESSAGE) (λ u. say s.game u TAKEN_OFF_MESSAGE) w (first_fitting w (looks_at remove)) (say s.game w NOT_WORN_MESSAGE)) &  -- AUTOR
    (λ s w c k a b. found s.game (put_in c.a) (λ u o. three s.game WORN_MESSAGE NOT_HELD_MESSAGE NOT_CARRIED_MESSAGE) (λ u. container s.game PUT_IN_MESSAGE c.a u) w (first_fitting w (looks_at (put_in c.a))) (say s.game w NOT_CARRIED_MESSAGE)) &  -- AUTOP
    (λ s w c k a b. found s.game (take_out c.a) (λ u o. five s.game HELD_MESSAGE NOT_TAKEN_OUT_MESSAGE NOT_INSIDE_MESSAGE TOO_HEAVY_MESSAGE TOO_MANY_MESSAGE c.a) (λ u. say s.game u TAKEN_MESSAGE) w (first_fitting w (looks_at (take_out c.a))) (container s.game NOT_INSIDE_MESSAGE c.a w)) &  -- AUTOT
    (λ s w c k a b. refl) &  -- GOTO
    (λ s w c k a b. message s.game w c.a) &  -- MES
    (λ s w c k a b. both s.game (message_text s.game w c.a) (10 ∷ []) (message s.game w c.a) refl) &  -- MESSAGE
    (λ s w c k a b. put s.game w c.a) &  -- SYSMESS
    (λ s w c k a b. refl) &  -- NEWLINE
    (λ s w c k a b. flag_number s.game w c.a k) &  -- PRINT
    (λ s w c k a b. acted s.game get (λ u o. four s.game HELD_MESSAGE NOT_HERE_MESSAGE TOO_HEAVY_MESSAGE TOO_MANY_MESSAGE) (λ u. say s.game u TAKEN_MESSAGE) w c.a) &  -- GET
    (λ s w c k a b. acted s.game drop (λ u o. three s.game WORN_MESSAGE NOT_HELD_MESSAGE NOT_CARRIED_MESSAGE) (λ u. say s.game u DROPPED_MESSAGE) w c.a) &  -- DROP
    (λ s w c k a b. acted s.game wear (λ u o. four s.game NOT_HELD_MESSAGE WORN_ALREADY_MESSAGE NOT_CARRIED_MESSAGE NOT_WEARABLE_MESSAGE) (λ u. say s.game u PUT_ON_MESSAGE) w c.a) &  -- WEAR
    (λ s w c k a b. acted s.game remove (λ u o. four s.game NOT_PUT_ON_MESSAGE NOT_WORN_MESSAGE NOT_REMOVABLE_MESSAGE HANDS_FULL_MESSAGE) (λ u. say s.game u TAKEN_OFF_MESSAGE) w c.a) &  -- REMOVE
    (λ s w c k a b. acted s.game (put_in c.b) (λ u o. three s.game WORN_MESSAGE NOT_HELD_MESSAGE NOT_CARRIED_MESSAGE) (λ u. container s.game PUT_IN_MESSAGE c.b u) w c.a) &  -- PUTIN
    (λ s w c k a b. acted s.game (take_out c.b) (λ u o. five s.game HELD_MESSAGE NOT_TAKEN_OUT_MESSAGE NOT_INSIDE_MESSAGE TOO_HEAVY_MESSAGE TOO_MANY_MESSAGE c.b) (λ u. say s.game u TAKEN_MESSAGE) w c.a) &  -- TAKEOUT
    (λ s w c k a b. refl) & (λ s w c k a b. refl) & (λ s w c k a b. refl) &  -- CREATE, DESTROY, SWAP
    (λ s w c k a b. refl) & (λ s w c k a b. refl) & (λ s w c k a b. refl) &  -- PLACE, PUTO, SET
    (λ s w c k a b. refl) & (λ s w c k a b. refl) & (λ s w c k a b. refl) &  -- CLEAR, PLUS, MINUS
    (λ s w c k a b. refl) & (λ s w c k a b. refl) & (λ s w c k a b. refl) &  -- LET, ADD, SUB
    (λ s w c k a b. refl) & (λ s w c k a b. refl) & (λ s w c k a b. refl) &  -- RANDOM, COPYOO, COPYOF
    (λ s w c k a b. refl) & (λ s w c k a b. refl) &  -- COPYFO, COPYFF
    (λ s w c k a b. here_list s.game w) &  -- LISTOBJ
    (λ s w c k a b. list_or s.game w NOTHING_THERE_MESSAGE (texts_at s.game w (named_place w c.a)) (map_only s.game (object_text s.game) (object_only s.game) (objects_at w (named_place w c.a)))) &  -- LISTAT
    (λ s w c k a b. refl) & (λ s w c k a b. refl) & (λ s w c k a b. refl) &  -- WHATO, WEIGH, WEIGHT
    (λ s w c k a b. refl) & (λ s w c k a b. refl) & (λ s w c k a b. refl) &  -- ABILITY, PARSE, PROCESS
    (λ s w c k a b. refl) & (λ s w c k a b. refl) & (λ s w c k a b. refl) &  -- DOALL, PROMPT, TIME
    (λ s w c k a b. refl) & (λ s w c k a b. refl) & (λ s w c k a b. refl) &  -- NEWTEXT, RESET, EXTERN
    (λ s w c k a b. sign s.game c a b) & (λ s w c k a b. sign s.game c a b) & (λ s w c k a b. sign s.game c a b) &  -- PICTURE, GRAPHIC, BEEP
    (λ s w c k a b. sign s.game c a b) & (λ s w c k a b. sign s.game c a b) & (λ s w c k a b. sign s.game c a b) &  -- CLS, PAPER, INK
    (λ s w c k a b. sign s.game c a b) & (λ s w c k a b. sign s.game c a b) & (λ s w c k a b. sign s.game c a b) &  -- BORDER, CHARSET, PROTECT
    (λ s w c k a b. sign s.game c a b) & (λ s w c k a b. sign s.game c a b) & (λ s w c k a b. sign s.game c a b) &  -- SAVEAT, BACKAT, PRINTAT
    (λ s w c k a b. sign s.game c a b) & (λ s w c k a b. sign s.game c a b) & (λ s w c k a b. sign s.game c a b) &  -- PAUSE, MODE, LINE
    (λ s w c k a b. sign s.game c a b) &  -- INPUT
    tt

done_only : (m : Meaning) (s : Story) (w : World) (c : Condact) → PrintsOnly m → AreBytes w.flags → c.a < 256 → c.b < 256 → Only s.game (done_by m s w c).text
done_only (Tests tested) s w c h k a b = refl
done_only (Acts done) s w c h k a b = h s w c k a b

plain_only : (s : Story) (w : World) (c : Condact) → AreBytes w.flags → c.a < 256 → c.b < 256 → Only s.game (plain_effect s w c).text
unfolding plain_effect meaning_of
plain_only s w c = done_only (meaning_of c.code) s w c (row_at PrintsOnly meanings (changing (λ w c. w)) each_row (quiet (λ w c. w)) c.code)

-- The condact that is carried out has bytes.
carried_small : (g : GameLists) (w : World) (c d : Condact) → c.a < 256 → flag w c.a < 256 → c.b < 256 → as_plain g w c ≡ Some d →
    (d.a < 256) × (d.b < 256)
unfolding as_plain
carried_small g w c d first value second = go (is_indirect c.code)
  where
    given : (b : Bool) → ◌≡◌ {A = Option Condact} (if b then Some (record { code = plain_code c.code; a = flag w c.a; b = c.b }) else None) (Some d) →
        (d.a < 256) × (d.b < 256)
    given true is = let same : record { code = plain_code c.code; a = flag w c.a; b = c.b } ≡ d = cc in
        subst (λ x. (x.a < 256) × (x.b < 256)) same (value, second)
    given false is = absurd cc

    go : (b : Bool) → ◌≡◌ {A = Option Condact} (if b then plain_with g c (flag w c.a) else Some c) (Some d) → (d.a < 256) × (d.b < 256)
    go true is = given (is_argument g (first_kind (plain_code c.code)) (flag w c.a)) is
    go false is = let same : c ≡ d = cc in subst (λ x. (x.a < 256) × (x.b < 256)) same (first, second)

pub effect_only : (g : Story) → Valid g.game → (w : World) (c : Condact) → AreBytes w.flags → IsTrue (is_right g.game c) → Only g.game (effect_of g w c).text
unfolding effect_of
effect_only g v w c k right = go (as_plain g.game w c) refl
  where
    first : c.a < 256
    first = argument_small g.game v (first_kind c.code) c.a (right-first g.game c right)

    second : c.b < 256
    second = argument_small g.game v (second_kind c.code) c.b (right-second g.game c right)

    go : (o : Option Condact) → as_plain g.game w c ≡ o → Only g.game (option_map_or (plain_effect g w) o (makes w)).text
    go None is = refl
    go (Some d) is =
        let small = carried_small g.game w c d first (byte_at w.flags c.a k) second is in plain_only g w d k small.0 small.1
