-- Lists break no rule exactly where they are those of a valid game.
use Rattle.std.proofs.Common.{◌≡◌, ℕ, suc, ◌+◌, ◌≤◌, ◌==◌, ◌&&◌, Bool, true, false, not, cond, List, [], ◌∷◌, length}
use Rattle.std.proofs.Common.{Option, Some, None, nat_le}
use Rattle.std.proofs.Common.{nat_lt, refl, sym, ap, ◌∙◌, inl, inr, arith, if◌then◌else◌}
use Rattle.std.specs.Option.{option_or, is_none}
use Rattle.std.specs.List.{list_all, prefix_len}
use Rattle.std.specs.Ordering.{is_lt, nat_cmp}
use Rattle.std.specs.Cmp.Lexicographic.{slice_cmp}
use Rattle.std.proofs.lemmas.Bool.{cases_Bool, and_parts, false≢true, leb-true}
use Rattle.std.proofs.lemmas.Bool.Decides.{nat_tests}
use Rattle.paw_base.specs.Bytes.{Letters, Texts, Bytes}
use Rattle.paw_base.specs.declared.limits.TheConstants.{WORD_LIMIT, SYSTEM_LIMIT, MESSAGE_LIMIT, OBJECT_LIMIT}
use Rattle.paw_base.specs.declared.limits.TheConstants.{LOCATION_LEAST, LOCATION_LIMIT, TABLE_LEAST, TABLE_LIMIT}
use Rattle.paw_game.specs.declared.parts.Word.{Word}
use Rattle.paw_game.specs.declared.parts.ObjectRow.{ObjectRow}
use Rattle.paw_game.specs.declared.parts.Exit.{Exit}
use Rattle.paw_game.specs.declared.parts.GamePart.{GamePart}
use Rattle.paw_game.specs.declared.parts.GamePart.TheVariants as part
use Rattle.paw_game.specs.Game.{GameLists}
use Rattle.paw_game.specs.Valid.{Valid, are_letters, is_word, is_text, is_object, exits_are_valid, is_table, is_within}
use Rattle.paw_game.specs.Valid.{rows_are_valid, words_rise}
use Rattle.paw_game.specs.Valid.{words_are_valid}
use Rattle.paw_game.specs.inner.Fault.{part_row_fault, first_bad, bad_word, words_fault, texts_fault}
use Rattle.paw_game.specs.inner.Fault.{objects_fault, exits_fault, tables_fault, fault_in, game_fault}

-- ---- rows

is_none-row_fault : (least most count : ℕ) (bad : Option ℕ)
    → is_none (part_row_fault least most count bad) ≡ (nat_le least count && (nat_le count most && is_none bad))
is_none-row_fault least most count bad = grind (arith, nat_tests)

at_least_zero : (n : ℕ) (b : Bool) → (nat_le 0 n && b) ≡ b
at_least_zero n b = grind (arith, nat_tests)

both_ends : (m n : ℕ) (b : Bool) → (nat_le m n && (nat_le n m && b)) ≡ ((n == m) && b)
both_ends m n b = grind (arith, nat_tests)

and_assoc : (a b c : Bool) → (a && (b && c)) ≡ ((a && b) && c)
and_assoc true b c = refl
and_assoc false b c = refl

position_next : (b : Bool) (n m : ℕ)
    → is_none (cond (nat_lt (cond (not (not b)) (1 + n) 0) (suc m)) (Some (cond (not (not b)) (1 + n) 0)) None)
    ≡ (b && is_none (cond (nat_lt n m) (Some n) None))
position_next true n m = grind (arith, nat_tests)
position_next false n m = grind (arith, nat_tests)

is_none-first_bad : {X : Type 0} (rule : X → Bool) (xs : List X) → is_none (first_bad rule xs) ≡ list_all rule xs
is_none-first_bad rule [] = refl
is_none-first_bad rule (x ∷ xs) =
    position_next (rule x) (prefix_len (λ y. not (not (rule y))) xs) (length xs)
    ∙ ap (λ b. rule x && b) (is_none-first_bad rule xs)

-- ---- words

-- The words rise after these letters.
unfoldable pub rise_after : Bytes → List Word → Bool
rise_after before [] = true
rise_after before (w ∷ ws) = is_lt (slice_cmp nat_cmp before w.letters) && rise_after w.letters ws

bad_word_next : (b l all rise : Bool) (rest : Option ℕ) (n : ℕ) → is_none rest ≡ (all && rise)
    → is_none (if b && l then rest else Some n) ≡ ((b && all) && (l && rise))
bad_word_next true true all rise rest n h = h
bad_word_next true false true rise rest n h = refl
bad_word_next true false false rise rest n h = refl
bad_word_next false l all rise rest n h = refl

is_none-bad_word : (n : ℕ) (before : Bytes) (ws : List Word) → is_none (bad_word n before ws) ≡ (list_all is_word ws && rise_after before ws)
unfolding rise_after
is_none-bad_word n before [] = refl
is_none-bad_word n before (w ∷ ws) =
    bad_word_next (is_word w) (is_lt (slice_cmp nat_cmp before w.letters)) (list_all is_word ws) (rise_after w.letters ws)
    (bad_word (suc n) w.letters ws) n (is_none-bad_word (suc n) w.letters ws)

rise_after-is : (w : Word) (ws : List Word) → rise_after w.letters ws ≡ words_rise (w ∷ ws)
unfolding rise_after
rise_after-is w [] = refl
rise_after-is w (v ∷ ws) = ap (λ b. is_lt (slice_cmp nat_cmp w.letters v.letters) && b) (rise_after-is v ws)

no_letters_stand_below : (letters : Letters) → are_letters letters ≡ true → is_lt (slice_cmp nat_cmp [] letters) ≡ true
no_letters_stand_below [] h = absurd (false≢true h)
no_letters_stand_below (c ∷ cs) h = refl

pub rise_after-none : (ws : List Word) → (list_all is_word ws && rise_after [] ws) ≡ (list_all is_word ws && words_rise ws)
unfolding rise_after
rise_after-none [] = refl
rise_after-none (w ∷ ws) =
    elim (cases_Bool (is_word w)) [
      | inl h ↦ rw (no_letters_stand_below w.letters (and_parts (are_letters w.letters) _ h).0, rise_after-is w ws) refl
      | inr h ↦ rw h refl
    ]

is_none-words_fault : (ws : List Word) → is_none (words_fault ws) ≡ words_are_valid ws
unfolding words_fault
is_none-words_fault ws =
    is_none-row_fault 0 WORD_LIMIT (length ws) (bad_word 0 [] ws)
    ∙ (ap (λ b. nat_le 0 (length ws) && (nat_le (length ws) WORD_LIMIT && b))
    (is_none-bad_word 0 [] ws ∙ rise_after-none ws)
    ∙ at_least_zero (length ws) _)

-- ---- the other parts

is_none-texts_fault : (least most : ℕ) (ts : Texts) → is_none (texts_fault least most ts) ≡ (nat_le least (length ts) && rows_are_valid most is_text ts)
unfolding texts_fault
is_none-texts_fault least most ts =
    is_none-row_fault least most (length ts) (first_bad is_text ts)
    ∙ ap (λ b. nat_le least (length ts) && (nat_le (length ts) most && b)) (is_none-first_bad is_text ts)

is_none-objects_fault : (ws : List Word) (locations : ℕ) (os : List ObjectRow)
    → is_none (objects_fault ws locations os) ≡ rows_are_valid OBJECT_LIMIT (is_object ws locations) os
unfolding objects_fault
is_none-objects_fault ws locations os =
    is_none-row_fault 0 OBJECT_LIMIT (length os) (first_bad (is_object ws locations) os)
    ∙ (ap (λ b. nat_le 0 (length os) && (nat_le (length os) OBJECT_LIMIT && b))
    (is_none-first_bad (is_object ws locations) os)
    ∙ at_least_zero (length os) _)

is_none-exits_fault : (ws : List Word) (locations : ℕ) (es : List (List Exit))
    → is_none (exits_fault ws locations es) ≡ ((length es == locations) && list_all (exits_are_valid ws locations) es)
unfolding exits_fault
is_none-exits_fault ws locations es =
    is_none-row_fault locations locations (length es) (first_bad (exits_are_valid ws locations) es)
    ∙ (ap (λ b. nat_le locations (length es) && (nat_le (length es) locations && b)) (is_none-first_bad (exits_are_valid ws locations) es)
    ∙ both_ends locations (length es) _)

is_none-tables_fault : (g : GameLists) → is_none (tables_fault g)
    ≡ (is_within TABLE_LEAST TABLE_LIMIT (length g.tables) && list_all (is_table g) g.tables)
unfolding tables_fault
is_none-tables_fault g =
    is_none-row_fault TABLE_LEAST TABLE_LIMIT (length g.tables) (first_bad (is_table g) g.tables)
    ∙ (ap (λ b. nat_le TABLE_LEAST (length g.tables) && (nat_le (length g.tables) TABLE_LIMIT && b)) (is_none-first_bad (is_table g) g.tables)
    ∙ and_assoc (nat_le TABLE_LEAST (length g.tables)) _ _)

-- ---- the whole game

none_first : {X : Type 0} (a b : Option X) → option_or a b ≡ None → (a ≡ None) × (b ≡ None)
none_first None b h = (refl, h)
none_first (Some x) b h = cc

none_in : (p : GamePart) (row : Option ℕ) → fault_in p row ≡ None → is_none row ≡ true
none_in p None h = refl
none_in p (Some row) h = cc

fault_in-none : (p : GamePart) (row : Option ℕ) → is_none row ≡ true → fault_in p row ≡ None
fault_in-none p None h = refl
fault_in-none p (Some row) h = absurd (false≢true h)

-- What no fault in the whole says of the parts.
record AllNone (g : GameLists) : Type 0 where
  words : fault_in part.Words (words_fault g.words) ≡ None
  system : fault_in part.System (texts_fault 0 SYSTEM_LIMIT g.system) ≡ None
  messages : fault_in part.Messages (texts_fault 0 MESSAGE_LIMIT g.messages) ≡ None
  objects : fault_in part.Objects (objects_fault g.words (length g.locations) g.objects) ≡ None
  locations : fault_in part.Locations (texts_fault LOCATION_LEAST LOCATION_LIMIT g.locations) ≡ None
  exits : fault_in part.Exits (exits_fault g.words (length g.locations) g.exits) ≡ None
  tables : fault_in part.Tables (tables_fault g) ≡ None

AllNone-from : (g : GameLists) → game_fault g ≡ None → AllNone g
unfolding game_fault
AllNone-from g h =
    let a = none_first (fault_in part.Words (words_fault g.words)) _ h in
    let b = none_first (fault_in part.System (texts_fault 0 SYSTEM_LIMIT g.system)) _ a.1 in
    let c = none_first (fault_in part.Messages (texts_fault 0 MESSAGE_LIMIT g.messages)) _ b.1 in
    let d = none_first (fault_in part.Objects (objects_fault g.words (length g.locations) g.objects)) _ c.1 in
    let e = none_first (fault_in part.Locations (texts_fault LOCATION_LEAST LOCATION_LIMIT g.locations)) _ d.1 in
    let f = none_first (fault_in part.Exits (exits_fault g.words (length g.locations) g.exits)) _ e.1 in
    record { words = a.0; system = b.0; messages = c.0; objects = d.0; locations = e.0; exits = f.0; tables = f.1 }

none-from_AllNone : (g : GameLists) → AllNone g → game_fault g ≡ None
unfolding game_fault
none-from_AllNone g h = rw (h.words, h.system, h.messages, h.objects, h.locations, h.exits, h.tables) refl

pub Valid-from_no_fault : (g : GameLists) → game_fault g ≡ None → Valid g
Valid-from_no_fault g h =
    let n = AllNone-from g h in
    record {
      words = sym (is_none-words_fault g.words) ∙ none_in _ _ n.words;
      system = (and_parts (nat_le 0 (length g.system)) _ (sym (is_none-texts_fault 0 SYSTEM_LIMIT g.system) ∙ none_in _ _ n.system)).1;
      messages = (and_parts (nat_le 0 (length g.messages)) _ (sym (is_none-texts_fault 0 MESSAGE_LIMIT g.messages) ∙ none_in _ _ n.messages)).1;
      objects = sym (is_none-objects_fault g.words (length g.locations) g.objects) ∙ none_in _ _ n.objects;
      locations = sym (is_none-texts_fault LOCATION_LEAST LOCATION_LIMIT g.locations) ∙ none_in _ _ n.locations;
      exits = sym (is_none-exits_fault g.words (length g.locations) g.exits) ∙ none_in _ _ n.exits;
      tables = sym (is_none-tables_fault g) ∙ none_in _ _ n.tables;
    }

pub no_fault-from_Valid : (g : GameLists) → Valid g → game_fault g ≡ None
no_fault-from_Valid g h =
    none-from_AllNone g (record {
      words = fault_in-none _ _ (is_none-words_fault g.words ∙ h.words);
      system = fault_in-none _ _
          (is_none-texts_fault 0 SYSTEM_LIMIT g.system ∙ (at_least_zero (length g.system) _ ∙ h.system));
      messages = fault_in-none _ _ (is_none-texts_fault 0 MESSAGE_LIMIT g.messages ∙ (at_least_zero (length g.messages) _ ∙ h.messages));
      objects = fault_in-none _ _ (is_none-objects_fault g.words (length g.locations) g.objects ∙ h.objects);
      locations = fault_in-none _ _ (is_none-texts_fault LOCATION_LEAST LOCATION_LIMIT g.locations ∙ h.locations);
      exits = fault_in-none _ _ (is_none-exits_fault g.words (length g.locations) g.exits ∙ h.exits);
      tables = fault_in-none _ _ (is_none-tables_fault g ∙ h.tables);
    })

pub few_locations : (ts : Texts)
    → fault_in part.Locations (texts_fault LOCATION_LEAST LOCATION_LIMIT ts) ≡ None → length ts ≤ LOCATION_LIMIT
few_locations ts h =
    let kept = and_parts (nat_le LOCATION_LEAST (length ts)) _
    (sym (is_none-texts_fault LOCATION_LEAST LOCATION_LIMIT ts) ∙ none_in _ _ h) in
    leb-true (length ts) LOCATION_LIMIT (and_parts (nat_le (length ts) LOCATION_LIMIT) _ kept.1).0
