-- The printed tables of a game are read as its tables.
use Rattle.std.proofs.Common.{◌≡◌, ℕ, suc, ◌<◌, ◌≤◌, true, false, ◌||◌, eqb, ltb, leb, List, [], ◌∷◌, ◌++◌, length, map}
use Rattle.std.proofs.Common.{Result, Ok, refl, ap, ◌∙◌, arith}
use Rattle.std.proofs.Common.{length-append}
use Rattle.std.specs.Prelude.{codes}
use Rattle.std.specs.List.{list_all, flat_map}
use Rattle.std.specs.Fmt.{decimal}
use Rattle.std.proofs.lemmas.Bool.{and_parts, leb-true, lt-ltb, eq-eqb, ne_eqb}
use Rattle.std.proofs.lemmas.List.{append_assoc, append-nil}
use Rattle.paw_base.specs.Bytes.{Tokens}
use Rattle.paw_base.specs.declared.limits.TheConstants.{ENTRY_LIMIT, CONDACT_LIMIT, TABLE_LIMIT}
use Rattle.paw_base.specs.declared.words.TheConstants.{NOUN_CLASS}
use Rattle.paw_base.specs.declared.fault.SourceKind.{SourceKind}
use Rattle.paw_base.specs.declared.parts.Condact.{Condact}
use Rattle.paw_game.specs.declared.parts.Word.{Word}
use Rattle.paw_game.specs.declared.parts.Exit.{Exit}
use Rattle.paw_game.specs.declared.parts.Entry.{Entry}
use Rattle.paw_game.specs.Game.{GameLists}
use Rattle.paw_game.specs.Valid.{has_word, is_verb_value, is_wildcard, is_condact, is_entry, is_table}
use Rattle.paw_grammar.specs.declared.section.Section.TheVariants as section
use Rattle.paw_read_error.specs.Bind.{◌>>=◌}
use Rattle.paw_grammar.specs.Vocabulary.{entry_verb, entry_noun}
use Rattle.paw_grammar.specs.Condacts.{condacts_in, more_condacts}
use Rattle.paw_grammar.specs.GrammarState.{Spelt, with_last}
use Rattle.paw_grammar.specs.GrammarHeads.{next_header, section_opened, lacks_rows}
use Rattle.paw_grammar.specs.GrammarRows.{entry_row, no_entry, more_row}
use Rattle.paw_print.specs.Lines.{verb_token, value_token, condact_line, tokens_spaced}
use Rattle.paw_print.specs.Canonical.{numbered_lines, entry_lines, table_lines}
use Rattle.paw_top.proofs.After.{LineReads, Reads, reads_none, reads_line, reads_append}
use Rattle.paw_top.proofs.Rows.{is_plain, row_next, more_next, slash_next, printed-spaced, printed-behind}
use Rattle.paw_top.proofs.Digits.{number-decimal, plain-decimal}
use Rattle.paw_top.proofs.Lasts.{last_or-push, with_last-push}
use Rattle.paw_top.proofs.KnownWords.{ReadsBack, entry_verb_back, entry_noun_back}
use Rattle.paw_top.proofs.CondactRows.{condact_tokens, bounds, Small, CondactBack, condact_back, more_condacts-is}

-- All of a game is spelled, but for its tables, of which these are.
abbrev pub spelt_of : GameLists → List (List Exit) → List (List Entry) → Spelt
spelt_of g exits tables = record {
  section = section.Pro;
  words = g.words;
  system = g.system;
  messages = g.messages;
  names = map (λ o. o.text) g.objects;
  locations = g.locations;
  begun = false;
  exits = exits;
  facts = map (λ o. o.facts) g.objects;
  tables = tables;
}

-- ---- a condact ----

-- An entry with these condacts.
abbrev with_condacts : Entry → List Condact → Entry
with_condacts e cs = record e { condacts = cs }

more_row-is : (p : ℕ) (g : GameLists) (es : List Entry) (e : Entry) (done : List Condact) (c : Condact) → CondactBack p g c → length done < CONDACT_LIMIT
    → more_row (bounds p g) g.words (es ++ with_condacts e done ∷ []) (condact_tokens g.words c) ≡ Ok (es ++ with_condacts e (done ++ c ∷ []) ∷ [])
unfolding more_row
more_row-is p g es e done c back few =
    let now : Entry = with_condacts e done in
    let some : eqb (length (es ++ now ∷ [])) 0 ≡ false = ne_eqb _ 0 (λ z. omega (arith, length-append es (now ∷ []))) in
    rw (some, last_or-push no_entry es now)
    (ap (λ (r : Result (List Condact) SourceKind). r >>= λ cs. Ok (with_last (with_condacts e cs) (es ++ now ∷ []))) (more_condacts-is p g done c back few)
    ∙ ap (λ (xs : List Entry). Ok xs) (with_last-push (with_condacts e (done ++ c ∷ [])) es now))

condact_next : (p : ℕ) (g : GameLists) (exits : List (List Exit)) (ts : List (List Entry)) (es : List Entry) (e : Entry)
    (done : List Condact) (c : Condact) → CondactBack p g c → length done < CONDACT_LIMIT
    → LineReads p (spelt_of g exits (ts ++ (es ++ with_condacts e done ∷ []) ∷ [])) (condact_line g.words c)
    (spelt_of g exits (ts ++ (es ++ with_condacts e (done ++ c ∷ []) ∷ []) ∷ []))
condact_next p g exits ts es e done c back few =
    let last : List Entry = es ++ with_condacts e done ∷ [] in
    let d : Spelt = spelt_of g exits (ts ++ last ∷ []) in
    record {
      printed = printed-behind (condact_tokens g.words c) back.plain;
      is =
          more_next p d _ _ back.plain refl
          ∙ ap (λ (xs : List Entry). more_row (bounds p g) g.words xs (condact_tokens g.words c) >>= λ us. Ok
          (spelt_of g exits (with_last us (ts ++ last ∷ [])))) (last_or-push [] ts last)
          ∙ ap (λ (r : Result (List Entry) SourceKind). r >>= λ us. Ok
          (spelt_of g exits (with_last us (ts ++ last ∷ [])))) (more_row-is p g es e done c back few)
          ∙ ap (λ (us : List (List Entry)). Ok (spelt_of g exits us)) (with_last-push (es ++ with_condacts e (done ++ c ∷ []) ∷ []) ts last);
    }

condacts_read : (p : ℕ) (g : GameLists) (exits : List (List Exit)) (ts : List (List Entry)) (es : List Entry)
    (e : Entry) (done cs : List Condact) → Small p g → length (done ++ cs) ≤ CONDACT_LIMIT → list_all (is_condact g) cs ≡ true
    → Reads p (spelt_of g exits (ts ++ (es ++ with_condacts e done ∷ []) ∷ [])) (map (condact_line g.words) cs)
    (spelt_of g exits (ts ++ (es ++ with_condacts e (done ++ cs) ∷ []) ∷ []))
condacts_read p g exits ts es e done [] s few h = rw (append-nil done) (reads_none p (spelt_of g exits (ts ++ (es ++ with_condacts e done ∷ []) ∷ [])))
condacts_read p g exits ts es e done (c ∷ cs) s few h =
    let both = and_parts (is_condact g c) (list_all (is_condact g) cs) h in
    let room : length done < CONDACT_LIMIT = omega (arith, length-append done (c ∷ cs), few) in
    let same : (done ++ c ∷ []) ++ cs ≡ done ++ c ∷ cs = append_assoc done (c ∷ []) cs in
    let rest = condacts_read p g exits ts es e (done ++ c ∷ []) cs s (rw same few) both.1 in
    reads_line p _ _ _ _ _ (condact_next p g exits ts es e done c (condact_back p g c s both.0) room) (rw same at rest)

-- ---- an entry ----

-- Verb, noun.
abbrev entry_tokens : List Word → Entry → Tokens
entry_tokens ws e = verb_token ws e.verb ∷ value_token ws NOUN_CLASS e.noun ∷ []

-- What the line of an entry needs.
record EntryRow (ws : List Word) (e : Entry) : Type 0 where
  verb : ReadsBack (verb_token ws e.verb) (entry_verb ws) e.verb
  noun : ReadsBack (value_token ws NOUN_CLASS e.noun) (entry_noun ws) e.noun

entry_row-is : (p : ℕ) (g : GameLists) (es : List Entry) (e : Entry) → EntryRow g.words e → length es < ENTRY_LIMIT
    → entry_row (bounds p g) g.words es (entry_tokens g.words e) ≡ Ok (es ++ with_condacts e [] ∷ [])
unfolding entry_row more_condacts condacts_in
entry_row-is p g es e r room =
    let below : ltb (length es) ENTRY_LIMIT ≡ true = lt-ltb (length es) ENTRY_LIMIT room in
    let few : ltb CONDACT_LIMIT 0 ≡ false = refl in
    rw (r.verb.is (value_token g.words NOUN_CLASS e.noun ∷ []), r.noun.is []) (rw below refl)

entry_next : (p : ℕ) (g : GameLists) (exits : List (List Exit)) (ts : List (List Entry)) (es : List Entry) (e : Entry) →
    EntryRow g.words e → length es < ENTRY_LIMIT
    → LineReads p (spelt_of g exits (ts ++ es ∷ [])) (tokens_spaced (entry_tokens g.words e)) (spelt_of g exits (ts ++ (es ++ with_condacts e [] ∷ []) ∷ []))
entry_next p g exits ts es e r room =
    let d : Spelt = spelt_of g exits (ts ++ es ∷ []) in
    let plain : list_all is_plain (entry_tokens g.words e) ≡ true = rw (r.verb.plain, r.noun.plain) refl in
    record {
      printed = printed-spaced (verb_token g.words e.verb) (value_token g.words NOUN_CLASS e.noun ∷ []) plain;
      is =
          row_next p d (verb_token g.words e.verb) (value_token g.words NOUN_CLASS e.noun ∷ []) plain r.verb.slash refl
          ∙ ap (λ (xs : List Entry). entry_row (bounds p g) g.words xs (entry_tokens g.words e) >>= λ us. Ok
          (spelt_of g exits (with_last us (ts ++ es ∷ [])))) (last_or-push [] ts es)
          ∙ ap (λ (x : Result (List Entry) SourceKind). x >>= λ us. Ok (spelt_of g exits (with_last us (ts ++ es ∷ [])))) (entry_row-is p g es e r room)
          ∙ ap (λ (us : List (List Entry)). Ok (spelt_of g exits us)) (with_last-push (es ++ with_condacts e [] ∷ []) ts es);
    }

entries_read : (p : ℕ) (g : GameLists) (exits : List (List Exit)) (ts : List (List Entry)) (done es : List Entry) →
    Small p g → length (done ++ es) ≤ ENTRY_LIMIT → list_all (is_entry g) es ≡ true
    → Reads p (spelt_of g exits (ts ++ done ∷ [])) (flat_map (entry_lines g.words) es) (spelt_of g exits (ts ++ (done ++ es) ∷ []))
entries_read p g exits ts done [] s few h = rw (append-nil done) (reads_none p (spelt_of g exits (ts ++ done ∷ [])))
entries_read p g exits ts done (e ∷ es) s few h =
    let both = and_parts (is_entry g e) (list_all (is_entry g) es) h in
    let verb = and_parts (is_wildcard e.verb || is_verb_value g.words e.verb) _ both.0 in
    let noun = and_parts (is_wildcard e.noun || has_word g.words NOUN_CLASS e.noun) _ verb.1 in
    let cs = and_parts (leb (length e.condacts) CONDACT_LIMIT) (list_all (is_condact g) e.condacts) noun.1 in
    let row : EntryRow g.words e = record { verb = entry_verb_back g.words e.verb s.words verb.0; noun = entry_noun_back g.words e.noun s.words noun.0 } in
    let room : length done < ENTRY_LIMIT = omega (arith, length-append done (e ∷ es), few) in
    let same : (done ++ e ∷ []) ++ es ≡ done ++ e ∷ es = append_assoc done (e ∷ []) es in
    let rows = condacts_read p g exits ts done e [] e.condacts s
    (leb-true (length e.condacts) CONDACT_LIMIT cs.0) cs.1 in
    let rest = entries_read p g exits ts (done ++ e ∷ []) es s (rw same few) both.1 in
    reads_append p _ _ _ (entry_lines g.words e) _ (reads_line p _ _ _ _ _ (entry_next p g exits ts done e row room) rows) (rw same at rest)

-- ---- a table ----

-- A table begins.
abbrev table_begun : Spelt → Spelt
table_begun d = record (section_opened section.Pro d) { tables = d.tables ++ [] ∷ [] }

header_next : (p : ℕ) (d : Spelt) (n : ℕ) → next_header d.section ≡ (codes "/PRO", section.Pro) → n ≡ length d.tables → n ≤ 255 →
    lacks_rows d ≡ false → LineReads p d (tokens_spaced (codes "/PRO" ∷ decimal n ∷ [])) (table_begun d)
header_next p d n at is few rows =
    let small : n ≤ 65535 = omega arith in
    let within : ltb n TABLE_LIMIT ≡ true = lt-ltb n TABLE_LIMIT (omega arith) in
    let next : eqb n (length d.tables) ≡ true = eq-eqb n (length d.tables) is in
    let plain : list_all is_plain (codes "/PRO" ∷ decimal n ∷ []) ≡ true = rw (plain-decimal n small) refl in
    record {
      is = slash_next p d (codes "PRO") (decimal n ∷ []) plain ∙ rw at (rw (number-decimal n small, within, next, rows) refl);
      printed = printed-spaced (codes "/PRO") (decimal n ∷ []) plain;
    }

pub table_read : (p : ℕ) (g : GameLists) (exits : List (List Exit)) (d : Spelt) (ts : List (List Entry)) (n : ℕ)
    (es : List Entry) → Small p g → table_begun d ≡ spelt_of g exits (ts ++ [] ∷ [])
    → next_header d.section ≡ (codes "/PRO", section.Pro) → n ≡ length d.tables → n ≤ 255 → lacks_rows d ≡ false →
    is_table g es ≡ true → Reads p d (table_lines g.words n es) (spelt_of g exits (ts ++ es ∷ []))
table_read p g exits d ts n es s begun at is few rows h =
    let both = and_parts (leb (length es) ENTRY_LIMIT) (list_all (is_entry g) es) h in
    reads_line p _ _ _ _ _ (rw begun at (header_next p d n at is few rows)) (entries_read p g exits ts [] es s (leb-true (length es) ENTRY_LIMIT both.0) both.1)

no_row_lacks : (g : GameLists) (exits : List (List Exit)) (ts : List (List Entry)) → 0 < length ts → lacks_rows (spelt_of g exits ts) ≡ false
no_row_lacks g exits ts some =
    let more : eqb (length ts) 0 ≡ false = ne_eqb (length ts) 0 (λ e. omega arith) in
    rw more refl

-- The tables after those that were read.
pub tables_read : (p : ℕ) (g : GameLists) (exits : List (List Exit)) (ts : List (List Entry)) (n : ℕ)
    (rest : List (List Entry)) → Small p g → n ≡ length ts → 0 < n → length (ts ++ rest) ≤ TABLE_LIMIT
    → list_all (is_table g) rest ≡ true → Reads p (spelt_of g exits ts) (numbered_lines (table_lines g.words) n rest) (spelt_of g exits (ts ++ rest))
tables_read p g exits ts n [] s is some few h = rw (append-nil ts) (reads_none p (spelt_of g exits ts))
tables_read p g exits ts n (es ∷ rest) s is some few h =
    let both = and_parts (is_table g es) (list_all (is_table g) rest) h in
    let room : n ≤ 255 = omega (arith, length-append ts (es ∷ rest), few) in
    let next : suc n ≡ length (ts ++ es ∷ []) = omega (arith, length-append ts (es ∷ [])) in
    let same : (ts ++ es ∷ []) ++ rest ≡ ts ++ es ∷ rest = append_assoc ts (es ∷ []) rest in
    let first = table_read p g exits (spelt_of g exits ts) ts n es s refl refl is room (no_row_lacks g exits ts (omega arith)) both.0 in
    let others = tables_read p g exits (ts ++ es ∷ []) (suc n) rest s next (omega arith) (rw same few) both.1 in
    reads_append p _ _ _ (table_lines g.words n es) _ first (rw same at others)
