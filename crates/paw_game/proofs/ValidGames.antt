-- What the rules say of the objects, texts, exits and entries of a valid game.
use Rattle.std.proofs.Common.{◌≡◌, ℕ, zero, suc, ◌<◌, ◌≤◌, ◌==◌, ◌&&◌, ◌||◌, Bool, true, false, not, Bor, List, [], ◌∷◌}
use Rattle.std.proofs.Common.{length}
use Rattle.std.proofs.Common.{Option, Some, None, IfSome, IsTrue, nat_le, nat_lt, refl, sym, ◌∙◌, inl, inr, arith}
use Rattle.std.proofs.Common.{if◌then◌else◌}
use Rattle.std.specs.Prelude.{find, slice_get}
use Rattle.std.specs.List.{All, list_all, slice_index_or}
use Rattle.std.specs.Option.{option_copied, option_map, unwrap_or}
use Rattle.std.proofs.lemmas.Option.{none-some, same_Some, slice_get_within, slice_get_past}
use Rattle.std.proofs.lemmas.Bool.{and_from, and_parts, cases_lt, leb-true, ltb-true}
use Rattle.std.proofs.lemmas.Bool.Decides.{nat_tests}
use Rattle.paw_base.specs.Bytes.{Bytes, Text}
use Rattle.paw_base.specs.Condacts.{is_code, first_kind, second_kind}
use Rattle.paw_base.specs.inner.Condacts.{IsCode}
use Rattle.paw_base.specs.declared.limits.TheConstants.{SYSTEM_LIMIT, MESSAGE_LIMIT, OBJECT_LIMIT, LOCATION_LEAST}
use Rattle.paw_base.specs.declared.limits.TheConstants.{LOCATION_LIMIT, TABLE_LEAST, TABLE_LIMIT, TEXT_LIMIT}
use Rattle.paw_base.specs.declared.limits.TheConstants.{EXIT_LIMIT, ENTRY_LIMIT, CONDACT_LIMIT, WEIGHT_LIMIT}
use Rattle.paw_base.specs.declared.words.TheConstants.{NOUN_CLASS, ADJECTIVE_CLASS}
use Rattle.paw_base.specs.declared.parts.Condact.{Condact}
use Rattle.paw_base.specs.declared.parts.ObjectFacts.{ObjectFacts}
use Rattle.paw_base.specs.declared.rows.ParamKind.{ParamKind}
use Rattle.paw_game.specs.declared.parts.Word.{Word}
use Rattle.paw_game.specs.declared.parts.ObjectRow.{ObjectRow}
use Rattle.paw_game.specs.declared.parts.Exit.{Exit}
use Rattle.paw_game.specs.declared.parts.Entry.{Entry}
use Rattle.paw_game.specs.declared.parts.GamePart.{GamePart}
use Rattle.paw_game.specs.declared.parts.GamePart.TheVariants as part
use Rattle.paw_game.specs.Game.{GameLists, counts_of}
use Rattle.paw_game.specs.Valid.{Valid, begins_no_line, is_parameter, is_printed, is_text_byte, are_exits}
use Rattle.paw_game.specs.Valid.{facts_are_valid, fits_kinds, is_condact, is_entry}
use Rattle.paw_game.specs.Valid.{exits_are_valid, is_object, is_place, is_table, is_text, is_word_or_none}
use Rattle.paw_game.specs.Valid.{is_verb_value, is_within, is_wildcard, has_word}
use Rattle.paw_game.specs.Tables.{condact_at, condacts_of, entry_at, exit_at, exit_of, facts_at, head_at, table_at}
use Rattle.paw_game.specs.inner.Tables.{text_at}

-- ---- tests

pub first_of_and : (a b : Bool) → IsTrue (a && b) → IsTrue a
first_of_and a b h = (and_parts a b h).0

pub second_of_and : (a b : Bool) → IsTrue (a && b) → IsTrue b
second_of_and a b h = (and_parts a b h).1

-- What holds of what a call found, by what stands there.
pub IfSome-from : {X : Type 0} (P : X → Type 0) (r o : Option X) → r ≡ o → ((x : X) → o ≡ Some x → P x) → IfSome r P
IfSome-from P None o e h = tt
IfSome-from P (Some x) o e h = h x (sym e)

-- The same of what a call lent.
pub IfSome-copied : {X : Type 0} (P : X → Type 0) (r : Option (Bor X)) (o : Option X) → option_copied r ≡ o
    → ((x : X) → o ≡ Some x → P x) → IfSome r (λ x. P x.now)
IfSome-copied P None o e h = tt
IfSome-copied P (Some x) o e h = h x.now (sym e)

-- The value that a mapped value comes from.
pub option_map-Some : {A B : Type 0} (f : A → B) (o : Option A) (y : B) → option_map f o ≡ Some y → (x : A) × (o ≡ Some x) × (f x ≡ y)
option_map-Some f None y e = absurd (none-some y e)
option_map-Some f (Some x) y e = (x, refl, same_Some (f x) y e)

-- ---- rows

pub list_all-at : {X : Type 0} (rule : X → Bool) (xs : List X) (i : ℕ) (x : X) → IsTrue (list_all rule xs) → slice_get xs i ≡ Some x → IsTrue (rule x)
list_all-at rule [] i x h e = absurd (none-some x e)
list_all-at rule (y ∷ ys) zero x h e = rw (← same_Some y x e) (first_of_and (rule y) _ h)
list_all-at rule (y ∷ ys) (suc i) x h e = list_all-at rule ys i x (second_of_and (rule y) _ h) e

-- A number within the list has a row.
pub row_at : {X : Type 0} (xs : List X) (i : ℕ) → i < length xs → (x : X) × (slice_get xs i ≡ Some x)
row_at [] i h = absurd (omega arith)
row_at (x ∷ xs) zero h = (x, refl)
row_at (x ∷ xs) (suc i) h = row_at xs i (omega arith)

-- ---- objects

pub object_follows : (g : GameLists) → Valid g → (o : ℕ) (row : ObjectRow) → slice_get g.objects o ≡ Some row → IsTrue (is_object g.words (length g.locations) row)
object_follows g v o row e =
    list_all-at (is_object g.words (length g.locations)) g.objects o row (second_of_and (nat_le (length g.objects) OBJECT_LIMIT) _ v.objects) e

pub facts_follow : (g : GameLists) → Valid g → (o : ℕ) (f : ObjectFacts) → facts_at g o ≡ Some f → IsTrue (facts_are_valid g.words (length g.locations) f)
facts_follow g v o f e =
    let at = option_map-Some (λ (row : ObjectRow). row.facts) (slice_get g.objects o) f e in
    rw (← at.2) (second_of_and (is_text at.0.text) _ (object_follows g v o at.0 at.1))

pub facts-start : (g : GameLists) → Valid g → (o : ℕ) (f : ObjectFacts) → facts_at g o ≡ Some f → IsTrue (is_place (length g.locations) f.start)
facts-start g v o f e =
    let kept = facts_follow g v o f e in
    first_of_and (is_place (length g.locations) f.start) _
    (second_of_and (is_word_or_none g.words ADJECTIVE_CLASS f.adjective) _
    (second_of_and (is_word_or_none g.words NOUN_CLASS f.noun) _ kept))

pub facts-weight : (g : GameLists) → Valid g → (o : ℕ) (f : ObjectFacts) → facts_at g o ≡ Some f
    → f.weight ≤ WEIGHT_LIMIT
facts-weight g v o f e =
    let kept = facts_follow g v o f e in
    leb-true f.weight WEIGHT_LIMIT (second_of_and (is_place (length g.locations) f.start) _
    (second_of_and (is_word_or_none g.words ADJECTIVE_CLASS f.adjective) _
    (second_of_and (is_word_or_none g.words NOUN_CLASS f.noun) _ kept)))

-- ---- texts

pub text_follows : (g : GameLists) → Valid g → (p : GamePart) (n : ℕ) (t : Text) → text_at g p n ≡ Some t → IsTrue (is_text t)
text_follows g v part.Words n t e = absurd (none-some t e)
text_follows g v part.System n t e = list_all-at is_text g.system n t (second_of_and (nat_le (length g.system) SYSTEM_LIMIT) _ v.system) e
text_follows g v part.Messages n t e = list_all-at is_text g.messages n t (second_of_and (nat_le (length g.messages) MESSAGE_LIMIT) _ v.messages) e
text_follows g v part.Objects n t e =
    let at = option_map-Some (λ (row : ObjectRow). row.text) (slice_get g.objects n) t e in
    rw (← at.2) (first_of_and (is_text at.0.text) _ (object_follows g v n at.0 at.1))
text_follows g v part.Locations n t e =
    list_all-at is_text g.locations n t
    (second_of_and (nat_le (length g.locations) LOCATION_LIMIT) _
    (second_of_and (nat_le LOCATION_LEAST (length g.locations)) _ v.locations)) e
text_follows g v part.Exits n t e = absurd (none-some t e)
text_follows g v part.Tables n t e = absurd (none-some t e)

pub text-short : (t : Text) → IsTrue (is_text t) → length t ≤ TEXT_LIMIT
text-short t h = leb-true (length t) TEXT_LIMIT (first_of_and _ _ h)

printed_byte : (b : ℕ) → IsTrue (is_text_byte b) → b < 256
printed_byte b h = grind (arith, nat_tests)

printed-bytes : (first : Bool) (bs : Bytes) (k d : ℕ) → IsTrue (is_printed first bs) → k < length bs → slice_index_or bs k d < 256
printed-bytes first [] k d h l = absurd (omega arith)
printed-bytes first (b ∷ bs) zero d h l =
    printed_byte b (first_of_and (is_text_byte b) _ (first_of_and _ (is_printed (b == 10) bs) h))
printed-bytes first (b ∷ bs) (suc k) d h l =
    printed-bytes (b == 10) bs k d (second_of_and (is_text_byte b && not (first && begins_no_line b)) _ h) (omega arith)

pub text-bytes : (t : Text) → IsTrue (is_text t) → All (λ b. b < 256) t
text-bytes t h = λ k d high. printed-bytes true t k d (second_of_and (nat_le (length t) TEXT_LIMIT) _ h) high

-- ---- exits

exit_of_next : (b : Bool) (here : Exit) (to locations : ℕ) (later : Option Exit) → here.to < locations
    → (option_map (λ (x : Exit). x.to) later ≡ Some to → to < locations)
    → option_map (λ (x : Exit). x.to) (if b then Some here else later) ≡ Some to → to < locations
exit_of_next true here to locations later h k e = omega (arith, h, same_Some here.to to e)
exit_of_next false here to locations later h k e = k e

exit_of-leads : (ws : List Word) (locations : ℕ) (xs : List Exit) (verb to : ℕ) → IsTrue (are_exits ws locations xs)
    → exit_of xs verb ≡ Some to → to < locations
exit_of-leads ws locations [] verb to h e = absurd (none-some to e)
exit_of-leads ws locations (x ∷ xs) verb to h e =
    exit_of_next (x.verb == verb) x to locations (find (λ (y : Exit). y.verb == verb) xs)
    (ltb-true x.to locations
    (first_of_and (nat_lt x.to locations) _ (second_of_and (is_verb_value ws x.verb) _ (first_of_and _ (are_exits ws locations xs) h))))
    (exit_of-leads ws locations xs verb to (second_of_and _ (are_exits ws locations xs) h)) e

pub exits_follow_at : (g : GameLists) → Valid g → (l : ℕ) (xs : List Exit) → slice_get g.exits l ≡ Some xs →
    IsTrue (exits_are_valid g.words (length g.locations) xs)
exits_follow_at g v l xs e =
    list_all-at (exits_are_valid g.words (length g.locations)) g.exits l xs (second_of_and (length g.exits == length g.locations) _ v.exits) e

exit_in-leads : (ws : List Word) (locations : ℕ) (o : Option (List Exit)) (verb to : ℕ)
    → ((xs : List Exit) → o ≡ Some xs → IsTrue (exits_are_valid ws locations xs)) → exit_of (unwrap_or o []) verb ≡ Some to → to < locations
exit_in-leads ws locations None verb to h e = absurd (none-some to e)
exit_in-leads ws locations (Some xs) verb to h e =
    exit_of-leads ws locations xs verb to (second_of_and (nat_le (length xs) EXIT_LIMIT) _ (h xs refl)) e

pub exit-leads : (g : GameLists) → Valid g → (l verb to : ℕ) → exit_at g l verb ≡ Some to → to < length g.locations
exit-leads g v l verb to e = exit_in-leads g.words (length g.locations) (slice_get g.exits l) verb to (exits_follow_at g v l) e

-- ---- tables

table_in : (g : GameLists) (o : Option (List Entry)) → ((es : List Entry) → o ≡ Some es → IsTrue (is_table g es)) → IsTrue (is_table g (unwrap_or o []))
table_in g None h = refl
table_in g (Some es) h = h es refl

pub table_follows : (g : GameLists) → Valid g → (t : ℕ) → IsTrue (is_table g (table_at g t))
table_follows g v t =
    table_in g (slice_get g.tables t)
    (λ es e. list_all-at (is_table g) g.tables t es
    (second_of_and (is_within TABLE_LEAST TABLE_LIMIT (length g.tables)) _ v.tables) e)

pub table-short : (g : GameLists) → Valid g → (t : ℕ) → length (table_at g t) ≤ ENTRY_LIMIT
table-short g v t = leb-true (length (table_at g t)) ENTRY_LIMIT (first_of_and _ _ (table_follows g v t))

pub entry_follows : (g : GameLists) → Valid g → (t e : ℕ) (en : Entry) → entry_at g t e ≡ Some en → IsTrue (is_entry g en)
entry_follows g v t e en h =
    list_all-at (is_entry g) (table_at g t) e en (second_of_and (nat_le (length (table_at g t)) ENTRY_LIMIT) _ (table_follows g v t)) h

pub entry-small : (g : GameLists) → Valid g → (t e : ℕ) (en : Entry) → entry_at g t e ≡ Some en → e < ENTRY_LIMIT
entry-small g v t e en h = omega (arith, slice_get_within (table_at g t) e en h, table-short g v t)

-- An entry's condacts follow their rules, and are few.
condacts_follow : (g : GameLists) (en : Entry) → IsTrue (is_entry g en)
    → IsTrue (nat_le (length en.condacts) CONDACT_LIMIT && list_all (is_condact g) en.condacts)
condacts_follow g en h =
    second_of_and (is_wildcard en.noun || has_word g.words NOUN_CLASS en.noun) _ (second_of_and (is_wildcard en.verb || is_verb_value g.words en.verb) _ h)

pub condacts-short : (g : GameLists) (en : Entry) → IsTrue (is_entry g en) → length en.condacts ≤ CONDACT_LIMIT
condacts-short g en h = leb-true (length en.condacts) CONDACT_LIMIT (first_of_and _ (list_all (is_condact g) en.condacts) (condacts_follow g en h))

condacts_of-Some : (o : Option Entry) (k : ℕ) (c : Condact) → slice_get (condacts_of o) k ≡ Some c
    → (en : Entry) × (o ≡ Some en) × (slice_get en.condacts k ≡ Some c)
condacts_of-Some None k c e = absurd (none-some c e)
condacts_of-Some (Some en) k c e = (en, refl, e)

pub condact-small : (g : GameLists) → Valid g → (t e k : ℕ) (c : Condact) → condact_at g t e k ≡ Some c
    → e < ENTRY_LIMIT
condact-small g v t e k c h =
    let at = condacts_of-Some (entry_at g t e) k c h in
    entry-small g v t e at.0 at.1

pub condact-early : (g : GameLists) → Valid g → (t e k : ℕ) (c : Condact) → condact_at g t e k ≡ Some c
    → k < CONDACT_LIMIT
condact-early g v t e k c h =
    let at = condacts_of-Some (entry_at g t e) k c h in
    omega (arith, slice_get_within at.0.condacts k c at.2, condacts-short g at.0 (entry_follows g v t e at.0 at.1))

pub condact_follows : (g : GameLists) → Valid g → (t e k : ℕ) (c : Condact) → condact_at g t e k ≡ Some c → IsTrue (is_condact g c)
condact_follows g v t e k c h =
    let at = condacts_of-Some (entry_at g t e) k c h in
    list_all-at (is_condact g) at.0.condacts k c
    (second_of_and (nat_le (length at.0.condacts) CONDACT_LIMIT) _
    (condacts_follow g at.0 (entry_follows g v t e at.0 at.1))) at.2

-- An entry with a head stands there.
head_stands : (o : Option Entry) (h : ℕ × ℕ) → option_map {U = ℕ × ℕ} (λ (en : Entry). (en.verb, en.noun)) o ≡ Some h → (en : Entry) × (o ≡ Some en)
head_stands o h e = let at = option_map-Some {B = ℕ × ℕ} (λ (en : Entry). (en.verb, en.noun)) o h e in (at.0, at.1)

pub head-small : (g : GameLists) → Valid g → (t e : ℕ) (h : ℕ × ℕ) → head_at g t e ≡ Some h → e < ENTRY_LIMIT
head-small g v t e h i =
    let at = head_stands (entry_at g t e) h i in
    entry-small g v t e at.0 at.1

-- ---- where entries and condacts end

pub head-within : (g : GameLists) (t e : ℕ) (h : ℕ × ℕ) → head_at g t e ≡ Some h → e < length (table_at g t)
head-within g t e h i =
    let at = head_stands (entry_at g t e) h i in
    slice_get_within (table_at g t) e at.0 at.1

pub head-past : (g : GameLists) (t e : ℕ) → length (table_at g t) ≤ e → head_at g t e ≡ None
head-past g t e h = rw (slice_get_past (table_at g t) e h) refl

pub head-none : (g : GameLists) (t e : ℕ) → head_at g t e ≡ None → length (table_at g t) ≤ e
head-none g t e h =
    elim (cases_lt e (length (table_at g t))) [
      | inl l ↦ let at = row_at (table_at g t) e l in absurd (none-some (at.0.verb, at.0.noun) (sym h ∙ rw at.1 refl))
      | inr l ↦ l
    ]

pub condact-within : (g : GameLists) (t e k : ℕ) (c : Condact) → condact_at g t e k ≡ Some c → k < length (condacts_of (entry_at g t e))
condact-within g t e k c h = slice_get_within (condacts_of (entry_at g t e)) k c h

pub condact-past : (g : GameLists) (t e k : ℕ) → length (condacts_of (entry_at g t e)) ≤ k → condact_at g t e k ≡ None
condact-past g t e k h = slice_get_past (condacts_of (entry_at g t e)) k h

pub condact-none : (g : GameLists) (t e k : ℕ) → condact_at g t e k ≡ None → length (condacts_of (entry_at g t e)) ≤ k
condact-none g t e k h =
    elim (cases_lt k (length (condacts_of (entry_at g t e)))) [
      | inl l ↦ let at = row_at (condacts_of (entry_at g t e)) k l in absurd (none-some at.0 (sym h ∙ at.1))
      | inr l ↦ l
    ]

-- ---- the parts of a condact

pub code_follows : (rule : ParamKind → ℕ → Bool) (c : Condact) → IsTrue (fits_kinds rule c) → IsCode c.code
code_follows rule c h = first_of_and (is_code c.code) _ h

pub first_follows : (rule : ParamKind → ℕ → Bool) (c : Condact) → IsTrue (fits_kinds rule c) → IsTrue (rule (first_kind c.code) c.a)
first_follows rule c h = first_of_and (rule (first_kind c.code) c.a) _ (second_of_and (is_code c.code) _ h)

pub second_follows : (rule : ParamKind → ℕ → Bool) (c : Condact) → IsTrue (fits_kinds rule c) → IsTrue (rule (second_kind c.code) c.b)
second_follows rule c h = second_of_and (rule (first_kind c.code) c.a) _ (second_of_and (is_code c.code) _ h)

-- A condact that follows a rule follows another that the first one gives.
pub follows_other : (rule other : ParamKind → ℕ → Bool) (c : Condact) → ((k : ParamKind) (x : ℕ) → IsTrue (rule k x) → IsTrue (other k x))
    → IsTrue (fits_kinds rule c) → IsTrue (fits_kinds other c)
follows_other rule other c gives h =
    and_from (is_code c.code) _ (first_of_and (is_code c.code) _ h)
    (and_from (other (first_kind c.code) c.a) _ (gives (first_kind c.code) c.a (first_follows rule c h)) (gives (second_kind c.code) c.b (second_follows rule c h)))

pub condact-first : (g : GameLists) (c : Condact) → IsTrue (is_condact g c) → IsTrue (is_parameter (counts_of g) g.words (first_kind c.code) c.a)
condact-first g c h = first_follows (is_parameter (counts_of g) g.words) c h

pub condact-second : (g : GameLists) (c : Condact) → IsTrue (is_condact g c) → IsTrue (is_parameter (counts_of g) g.words (second_kind c.code) c.b)
condact-second g c h = second_follows (is_parameter (counts_of g) g.words) c h
