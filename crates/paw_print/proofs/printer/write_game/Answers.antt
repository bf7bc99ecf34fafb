use Rattle.std.proofs.Common.{◌≡◌, List, ◌++◌, ◌∙◌, ap, map}
use Rattle.std.specs.Prelude.{codes}
use Rattle.paw_base.specs.Bytes.{Lines, Texts}
use Rattle.paw_game.specs.declared.parts.Word.{Word}
use Rattle.paw_game.specs.declared.parts.Exit.{Exit}
use Rattle.paw_game.specs.declared.parts.Entry.{Entry}
use Rattle.paw_game.specs.declared.parts.ObjectRow.{ObjectRow}
use Rattle.paw_print.specs.Canonical.{canonical_lines, words_lines, texts_lines, exits_lines, objects_lines}
use Rattle.paw_print.specs.Canonical.{table_lines, numbered_lines, with_line_ends}
use Rattle.paw_print.proofs.Growing.{written_more, written_last}
use Rattle.paw_print.proofs.printer.write_game.Goals as goal

abbrev tables_lines : List Word → List (List Entry) → Lines
tables_lines ws tables = numbered_lines (table_lines ws) 0 tables

pub returns : goal.returns
unfolding canonical_lines
returns c =
    let g = c.args.parts.now in
    let is = c.parts.view_is in
    let before = c.args.out.now.items in
    let vocabulary = c.new-vocabulary.result in
    let words : vocabulary ≡ g.words = c.new-vocabulary.ensures.value ∙ c.deref.ensures.value ∙ ap (λ l. l.words) is in
    let system : c.deref-2.result.now ≡ g.system = c.deref-2.ensures.value ∙ ap (λ l. l.system) is in
    let messages : c.deref-3.result.now ≡ g.messages = c.deref-3.ensures.value ∙ ap (λ l. l.messages) is in
    let names : c.deref-4.result.now ≡ g.objects = c.deref-4.ensures.value ∙ ap (λ l. l.objects) is in
    let locations : c.deref-5.result.now ≡ g.locations = c.deref-5.ensures.value ∙ ap (λ l. l.locations) is in
    let exits : c.deref-6.result.now ≡ g.exits = c.deref-6.ensures.value ∙ ap (λ l. l.exits) is in
    let objects : c.deref-7.result.now ≡ g.objects = c.deref-7.ensures.value ∙ ap (λ l. l.objects) is in
    let tables : c.deref-8.result.now ≡ g.tables = c.deref-8.ensures.value ∙ ap (λ l. l.tables) is in
    let to_words = words_lines g.words in
    let to_system = to_words ++ texts_lines (codes "/STX") g.system in
    let to_messages = to_system ++ texts_lines (codes "/MTX") g.messages in
    let to_names = to_messages ++ texts_lines (codes "/OTX") (map (λ (o : ObjectRow). o.text) g.objects) in
    let to_locations = to_names ++ texts_lines (codes "/LTX") g.locations in
    let to_exits = to_locations ++ exits_lines g.words g.exits in
    let to_objects = to_exits ++ objects_lines g.words g.objects in
    let w_words = c.in_ok-write_words.ensures.writes ∙ ap (λ (ws : List Word). before ++ with_line_ends (words_lines ws)) words in
    let w_system = written_more before _ _ _ to_words (texts_lines (codes "/STX") g.system) w_words c.in_ok-write_texts.ensures.writes
    (ap (λ (ts : Texts). with_line_ends (texts_lines (codes "/STX") ts)) system) in
    let w_messages = written_more before _ _ _ to_system (texts_lines (codes "/MTX") g.messages) w_system c.in_ok-write_texts-2.ensures.writes
    (ap (λ (ts : Texts). with_line_ends (texts_lines (codes "/MTX") ts)) messages) in
    let w_names =
    written_more before _ _ _ to_messages (texts_lines (codes "/OTX") (map (λ (o : ObjectRow). o.text) g.objects))
    w_messages c.in_ok-write_object_texts.ensures.writes
    (ap (λ (os : List ObjectRow). with_line_ends (texts_lines (codes "/OTX") (map (λ (o : ObjectRow). o.text) os))) names) in
    let w_locations = written_more before _ _ _ to_names (texts_lines (codes "/LTX") g.locations) w_names c.in_ok-write_texts-3.ensures.writes
    (ap (λ (ts : Texts). with_line_ends (texts_lines (codes "/LTX") ts)) locations) in
    let w_exits = written_more before _ _ _ to_locations (exits_lines g.words g.exits) w_locations c.in_ok-write_exits.ensures.writes
    (ap (λ (xs : List (List Exit)). with_line_ends (exits_lines vocabulary xs)) exits
    ∙ ap (λ (ws : List Word). with_line_ends (exits_lines ws g.exits)) words) in
    let w_objects = written_more before _ _ _ to_exits (objects_lines g.words g.objects) w_exits c.in_ok-write_objects.ensures.writes
    (ap (λ (os : List ObjectRow). with_line_ends (objects_lines vocabulary os)) objects
    ∙ ap (λ (ws : List Word). with_line_ends (objects_lines ws g.objects)) words) in
    record {
      writes = written_last c.write_tables.result before _ _ _ to_objects (tables_lines g.words g.tables) w_objects c.write_tables.ensures.writes
          (ap (λ (ts : List (List Entry)). with_line_ends (tables_lines vocabulary ts)) tables
          ∙ ap (λ (ws : List Word). with_line_ends (tables_lines ws g.tables)) words);
    }
