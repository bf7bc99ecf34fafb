-- The whole canonical source of a game is read as this game.
use Rattle.std.proofs.Common.{◌≡◌, ℕ, ◌≤◌, ◌+◌, Bool, true, false, eqb, ltb, leb, List, [], ◌∷◌, ◌++◌, length, map, Ok}
use Rattle.std.proofs.Common.{refl, sym, ap, ◌∙◌, zero-add, arith}
use Rattle.std.specs.Prelude.{codes}
use Rattle.std.specs.List.{list_all, count_by}
use Rattle.std.proofs.Math.ListN.{length-map}
use Rattle.std.proofs.lemmas.Bool.{and_parts, and_from, leb-true, le-ltb, eqb-true, ne_eqb}
use Rattle.paw_base.specs.Bytes.{Name, Lines, Texts}
use Rattle.paw_base.specs.declared.limits.TheConstants.{IMAGE_LIMIT, LOCATION_LIMIT, SOURCE_LIMIT, WORD_LIMIT}
use Rattle.paw_base.specs.declared.limits.TheConstants.{OBJECT_LIMIT, SYSTEM_LIMIT, MESSAGE_LIMIT, TABLE_LEAST}
use Rattle.paw_base.specs.declared.limits.TheConstants.{TABLE_LIMIT}
use Rattle.paw_game.specs.declared.parts.Word.{Word}
use Rattle.paw_game.specs.declared.parts.Exit.{Exit}
use Rattle.paw_game.specs.declared.parts.Entry.{Entry}
use Rattle.paw_game.specs.declared.parts.ObjectRow.{ObjectRow}
use Rattle.paw_game.specs.Game.{GameLists}
use Rattle.paw_game.specs.Image.{image}
use Rattle.paw_game.specs.Valid.{is_word, words_rise, is_text, is_object, exits_are_valid, is_table, facts_are_valid}
use Rattle.paw_game.specs.Valid.{is_within, rows_are_valid, Valid}
use Rattle.paw_lex.specs.Lines.{lines_of}
use Rattle.paw_lex.proofs.Printed.{lines_of-printed_lines}
use Rattle.paw_grammar.specs.declared.section.Section.{Section}
use Rattle.paw_grammar.specs.declared.section.Section.TheVariants as section
use Rattle.paw_grammar.specs.GrammarState.{Spelt, nothing_yet, all_exits, game_of}
use Rattle.paw_grammar.specs.GrammarTexts.{with_texts, text_limit}
use Rattle.paw_grammar.specs.GrammarHeads.{section_opened, lacks_rows}
use Rattle.paw_grammar.specs.Spells.{begins_table, spelled_after, game_spelled}
use Rattle.paw_source.specs.inner.Laws.{CountsTables}
use Rattle.paw_print.specs.Lines.{tokens_spaced, object_tokens, text_lines}
use Rattle.paw_print.specs.Canonical.{words_lines, texts_lines, location_lines, exits_lines, objects_lines, table_lines}
use Rattle.paw_print.specs.Canonical.{numbered_lines}
use Rattle.paw_print.specs.Canonical.{canonical_lines, canonical_of}
use Rattle.paw_top.specs.Round.{SpellsItself}
use Rattle.paw_top.proofs.After.{LineReads, Reads, reads_line, reads_append, reads_whole}
use Rattle.paw_top.proofs.Headers.{header_reads, exits_header_reads}
use Rattle.paw_top.proofs.WordRows.{word_tokens, words_read}
use Rattle.paw_top.proofs.TextItems.{is_text_section, items_read}
use Rattle.paw_top.proofs.ExitRows.{Scene, Filled, locations_read}
use Rattle.paw_top.proofs.ObjectRows.{objects_read, objects_of-map}
use Rattle.paw_top.proofs.CondactRows.{Small}
use Rattle.paw_top.proofs.TableRows.{spelt_of, table_read, tables_read}

-- ---- what a valid game is ----

-- The rules of a valid game, one by one.
record Rules (g : GameLists) : Type 0 where
  few_words : length g.words ≤ WORD_LIMIT
  all_words : list_all is_word g.words ≡ true
  rise : words_rise g.words ≡ true
  few_system : length g.system ≤ SYSTEM_LIMIT
  system : list_all is_text g.system ≡ true
  few_messages : length g.messages ≤ MESSAGE_LIMIT
  messages : list_all is_text g.messages ≡ true
  few_objects : length g.objects ≤ OBJECT_LIMIT
  objects : list_all (is_object g.words (length g.locations)) g.objects ≡ true
  some_locations : 1 ≤ length g.locations
  few_locations : length g.locations ≤ LOCATION_LIMIT
  locations : list_all is_text g.locations ≡ true
  one_each : length g.exits ≡ length g.locations
  exits : list_all (exits_are_valid g.words (length g.locations)) g.exits ≡ true
  some_tables : TABLE_LEAST ≤ length g.tables
  few_tables : length g.tables ≤ TABLE_LIMIT
  tables : list_all (is_table g) g.tables ≡ true

rules : (g : GameLists) → Valid g → Rules g
rules g v =
    let words = and_parts (leb (length g.words) WORD_LIMIT) _ v.words in
    let each = and_parts (list_all is_word g.words) (words_rise g.words) words.1 in
    let system = and_parts (leb (length g.system) SYSTEM_LIMIT) (list_all is_text g.system) v.system in
    let messages = and_parts (leb (length g.messages) MESSAGE_LIMIT) (list_all is_text g.messages) v.messages in
    let objects = and_parts (leb (length g.objects) OBJECT_LIMIT)
    (list_all (is_object g.words (length g.locations)) g.objects) v.objects in
    let some = and_parts (leb 1 (length g.locations)) (rows_are_valid LOCATION_LIMIT is_text g.locations) v.locations in
    let locations = and_parts (leb (length g.locations) LOCATION_LIMIT) (list_all is_text g.locations) some.1 in
    let exits = and_parts (eqb (length g.exits) (length g.locations)) (list_all (exits_are_valid g.words (length g.locations)) g.exits) v.exits in
    let tables = and_parts (is_within TABLE_LEAST TABLE_LIMIT (length g.tables)) (list_all (is_table g) g.tables) v.tables in
    let range = and_parts (leb TABLE_LEAST (length g.tables)) (leb (length g.tables) TABLE_LIMIT) tables.0 in
    record {
      few_words = leb-true _ _ words.0;
      all_words = each.0;
      rise = each.1;
      few_system = leb-true _ _ system.0;
      system = system.1;
      few_messages = leb-true _ _ messages.0;
      messages = messages.1;
      few_objects = leb-true _ _ objects.0;
      objects = objects.1;
      some_locations = leb-true _ _ some.0;
      few_locations = leb-true _ _ locations.0;
      locations = locations.1;
      one_each = eqb-true _ _ exits.0;
      exits = exits.1;
      some_tables = leb-true _ _ range.0;
      few_tables = leb-true _ _ range.1;
      tables = tables.1;
    }

small : (g : GameLists) → Rules g → Small (length g.tables) g
small g r = assumption

texts_of_objects : (ws : List Word) (locations : ℕ) (os : List ObjectRow) →
    list_all (is_object ws locations) os ≡ true → list_all is_text (map (λ o. o.text) os) ≡ true
texts_of_objects ws locations [] h = refl
texts_of_objects ws locations (o ∷ os) h =
    let both = and_parts (is_object ws locations o) (list_all (is_object ws locations) os) h in
    and_from _ _ (and_parts (is_text o.text) (facts_are_valid ws locations o.facts) both.0).0 (texts_of_objects ws locations os both.1)

-- ---- sections ----

-- After lines that are read, a section of texts.
texts_read : (p : ℕ) (s : Section) (name : Name) (d : Spelt) (before : Lines) (texts : Texts) → Reads p nothing_yet before d →
    LineReads p d name (section_opened s d) → with_texts s false [] (section_opened s d) ≡ section_opened s d → is_text_section s ≡ true
    → length texts ≤ text_limit s → list_all is_text texts ≡ true → (b : Bool)
    × Reads p nothing_yet (before ++ texts_lines name texts) (with_texts s b texts (section_opened s d))
texts_read p s name d before texts reads first none text room all =
    let items = items_read p s false (section_opened s d) [] 0 texts refl text refl room all in
    let rest : Reads p (section_opened s d) (numbered_lines text_lines 0 texts) (with_texts s items.0 texts (section_opened s d)) = rw none at items.1 in
    (items.0, reads_append p nothing_yet d _ before _ reads (reads_line p _ _ _ name (numbered_lines text_lines 0 texts) first rest))

-- What is spelled before the tables.
abbrev before_tables : GameLists → Bool → List (List Exit) → Spelt
before_tables g b exits = record (spelt_of g exits []) { section = section.Obj; begun = b }

no_row_lacks : (g : GameLists) (b : Bool) (exits : List (List Exit)) → lacks_rows (before_tables g b exits) ≡ false
no_row_lacks g b exits =
    let facts = length-map g.objects (λ (o : ObjectRow). o.facts) in
    let names = length-map g.objects (λ (o : ObjectRow). o.text) in
    le-ltb _ _ (omega (arith, facts, names))

tables_section : (p : ℕ) (g : GameLists) (b : Bool) (exits : List (List Exit)) (ts : List (List Entry)) → Small p g →
    TABLE_LEAST ≤ length ts → length ts ≤ TABLE_LIMIT → list_all (is_table g) ts ≡ true
    → Reads p (before_tables g b exits) (numbered_lines (table_lines g.words) 0 ts) (spelt_of g exits ts)
tables_section p g b exits [] s some few h = absurd (omega arith)
tables_section p g b exits (t ∷ ts) s some few h =
    let both = and_parts (is_table g t) (list_all (is_table g) ts) h in
    let first = table_read p g exits (before_tables g b exits) [] 0 t s refl refl refl (omega arith) (no_row_lacks g b exits) both.0 in
    reads_append p _ _ _ (table_lines g.words 0 t) _ first (tables_read p g exits (t ∷ []) 1 ts s refl (omega arith) few both.1)

-- ---- the whole ----

-- The lines are read as the lists of the game.
record WholeRead (p : ℕ) (g : GameLists) : Type 0 where
  exits : List (List Exit)
  reads : Reads p nothing_yet (canonical_lines g) (spelt_of g exits g.tables)
  filled : Filled exits (length g.locations) g.exits

whole_read : (p : ℕ) (g : GameLists) → Rules g → Small p g → WholeRead p g
unfolding canonical_lines
whole_read p g r s =
    let names : Texts = map (λ (o : ObjectRow). o.text) g.objects in
    let as_many = length-map g.objects (λ (o : ObjectRow). o.text) in
    let names_few : length names ≤ OBJECT_LIMIT = omega (arith, as_many, r.few_objects) in
    -- The words.
    let d0 : Spelt = section_opened section.Voc nothing_yet in
    let d1 : Spelt = record d0 { words = g.words } in
    let l1 : Lines = words_lines g.words in
    let r1 : Reads p nothing_yet l1 d1 =
    reads_line p nothing_yet d0 d1 (codes "/VOC") (map (λ (w : Word). tokens_spaced (word_tokens w)) g.words)
    (header_reads p nothing_yet section.Before refl tt)
    (words_read p d0 [] g.words refl r.all_words r.rise r.few_words) in
    -- The texts.
    let t2 = texts_read p section.Stx (codes "/STX") d1 l1 g.system r1 (header_reads p d1 section.Voc refl tt) refl refl r.few_system r.system in
    let d2 : Spelt = with_texts section.Stx t2.0 g.system (section_opened section.Stx d1) in
    let l2 : Lines = l1 ++ texts_lines (codes "/STX") g.system in
    let t3 = texts_read p section.Mtx (codes "/MTX") d2 l2 g.messages t2.1 (header_reads p d2 section.Stx refl tt) refl refl r.few_messages r.messages in
    let d3 : Spelt = with_texts section.Mtx t3.0 g.messages (section_opened section.Mtx d2) in
    let l3 : Lines = l2 ++ texts_lines (codes "/MTX") g.messages in
    let all_names = texts_of_objects g.words (length g.locations) g.objects r.objects in
    let t4 = texts_read p section.Otx (codes "/OTX") d3 l3 names t3.1 (header_reads p d3 section.Mtx refl tt) refl refl names_few all_names in
    let d4 : Spelt = with_texts section.Otx t4.0 names (section_opened section.Otx d3) in
    let l4 : Lines = l3 ++ texts_lines (codes "/OTX") names in
    let t5 = texts_read p section.Ltx (codes "/LTX") d4 l4 g.locations t4.1 (header_reads p d4 section.Otx refl tt) refl refl r.few_locations r.locations in
    let d5 : Spelt = with_texts section.Ltx t5.0 g.locations (section_opened section.Ltx d4) in
    let l5 : Lines = l4 ++ texts_lines (codes "/LTX") g.locations in
    -- The exits.
    let some : eqb (length g.locations) 0 ≡ false = ne_eqb (length g.locations) 0 (λ e. omega (arith, r.some_locations)) in
    let c5 : Spelt = section_opened section.Con d5 in
    let scene5 : Scene c5 = record { words = s.words; few = r.few_locations } in
    let none : Filled [] 0 [] = record { short = omega arith; is = refl } in
    let m : length g.locations ≡ 0 + length g.exits = omega (arith, r.one_each) in
    let x6 = locations_read p c5 [] [] 0 (length g.locations) g.exits refl scene5 none refl m (omega arith) r.exits in
    let d6 : Spelt = record c5 { exits = x6.exits } in
    let con : Lines = exits_lines g.words g.exits in
    let t6 : Reads p d5 con d6 =
    reads_line p d5 c5 d6 (codes "/CON") (numbered_lines (location_lines g.words) 0 g.exits) (exits_header_reads p d5 refl some) x6.reads in
    let r6 : Reads p nothing_yet (l5 ++ con) d6 = reads_append p nothing_yet d5 d6 l5 con t5.1 t6 in
    -- The objects.
    let c6 : Spelt = section_opened section.Obj d6 in
    let scene6 : Scene c6 = record { words = s.words; few = r.few_locations } in
    let rows : 0 + length g.objects ≤ length names = omega (arith, as_many) in
    let d7 : Spelt = record c6 { facts = map (λ (o : ObjectRow). o.facts) g.objects } in
    let obj : Lines = objects_lines g.words g.objects in
    let t7 : Reads p d6 obj d7 =
    reads_line p d6 c6 d7 (codes "/OBJ") (numbered_lines (λ n (o : ObjectRow). tokens_spaced (object_tokens g.words n o.facts) ∷ []) 0 g.objects)
    (header_reads p d6 section.Con refl tt) (objects_read p c6 [] 0 g.objects refl scene6 refl rows names_few r.objects) in
    let l7 : Lines = l5 ++ con ++ obj in
    let r7 : Reads p nothing_yet l7 d7 = reads_append p nothing_yet d6 d7 (l5 ++ con) obj r6 t7 in
    -- The tables.
    let e : Spelt = spelt_of g x6.exits g.tables in
    let pro : Lines = numbered_lines (table_lines g.words) 0 g.tables in
    let t8 : Reads p d7 pro e = tables_section p g false x6.exits g.tables s r.some_tables r.few_tables r.tables in
    record { exits = x6.exits; reads = reads_append p nothing_yet d7 e l7 pro r7 t8; filled = x6.filled }

-- ---- the game ----

game_is : (g : GameLists) (exits : List (List Exit)) → Filled exits (length g.locations) g.exits → game_of (spelt_of g exits g.tables) ≡ g
game_is g exits f =
    ap (λ (os : List ObjectRow). record g { objects = os; exits = all_exits (length g.locations) exits }) (objects_of-map g.objects)
    ∙ ap (λ (xs : List (List Exit)). record g { exits = xs }) f.is

counted : CountsTables → (p : ℕ) (g : GameLists) (exits : List (List Exit)) →
    Reads p nothing_yet (canonical_lines g) (spelt_of g exits g.tables) →
    count_by begins_table (canonical_lines g) ≡ length g.tables
counted counts p g exits reads = sym (counts p nothing_yet (spelt_of g exits g.tables) (canonical_lines g) reads.is
    ∙ zero-add (count_by begins_table (canonical_lines g)))

read_again : CountsTables → (g : GameLists) → Rules g → length (image g) ≤ IMAGE_LIMIT →
    spelled_after (count_by begins_table (canonical_lines g)) 0 nothing_yet (canonical_lines g) ≡ Ok g
read_again counts g r within =
    let whole = whole_read (length g.tables) g r (small g r) in
    let e : Spelt = spelt_of g whole.exits g.tables in
    let same : game_of e ≡ g = game_is g whole.exits whole.filled in
    let many : ltb (length g.tables) TABLE_LEAST ≡ false = le-ltb _ _ r.some_tables in
    let short : ltb IMAGE_LIMIT (length (image (game_of e))) ≡ false = ap (λ h. ltb IMAGE_LIMIT (length (image h))) same ∙ le-ltb _ _ within in
    ap (λ p. spelled_after p 0 nothing_yet (canonical_lines g)) (counted counts (length g.tables) g whole.exits whole.reads)
    ∙ reads_whole (length g.tables) nothing_yet e (canonical_lines g) whole.reads many short
    ∙ ap (λ (h : GameLists). Ok h) same

lines_are : (g : GameLists) → Rules g → lines_of (canonical_of g) ≡ canonical_lines g
unfolding canonical_of
lines_are g r = lines_of-printed_lines (canonical_lines g) (whole_read (length g.tables) g r (small g r)).reads.printed

-- The canonical source of a game spells that game.
pub spells_itself : CountsTables → SpellsItself
unfolding game_spelled
spells_itself counts = λ g v within short.
    let r = rules g v in
    let fits : ltb SOURCE_LIMIT (length (canonical_of g)) ≡ false = le-ltb _ _ short in
    rw fits (ap (λ (ls : Lines). spelled_after (count_by begins_table ls) 0 nothing_yet ls) (lines_are g r) ∙ read_again counts g r within)
