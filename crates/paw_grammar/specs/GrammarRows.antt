-- The rows of the sections that have rows.
use Rattle.std.specs.Prelude.{ℕ, ◌==◌, Bool, List, [], ◌∷◌, ◌++◌, length, nat_lt, if◌then◌else◌, Result, Ok, Err}
use Rattle.std.specs.List.{list_any}
use Rattle.paw_base.specs.Bytes.{Tokens}
use Rattle.paw_base.specs.declared.words.TheConstants.{NOUN_CLASS, ADJECTIVE_CLASS, LEAST_WORD, GREATEST_WORD}
use Rattle.paw_base.specs.declared.limits.TheConstants.{ENTRY_LIMIT, WEIGHT_LIMIT}
use Rattle.paw_base.specs.declared.fault.SourceKind.{SourceKind}
use Rattle.paw_base.specs.declared.fault.SourceKind.TheVariants as fault
use Rattle.paw_game.specs.declared.parts.Word.{Word}
use Rattle.paw_game.specs.declared.parts.Exit.{Exit}
use Rattle.paw_game.specs.declared.parts.Entry.{Entry}
use Rattle.paw_base.specs.declared.parts.ObjectFacts.{ObjectFacts}
use Rattle.paw_grammar.specs.declared.section.Section.{Section}
use Rattle.paw_grammar.specs.declared.section.Section.TheVariants as section
use Rattle.paw_read_error.specs.Bind.{◌>>=◌}
use Rattle.paw_grammar.specs.Tokens.{end_of_line}
use Rattle.paw_grammar.specs.Numbers.{number_within, number_below, row_number}
use Rattle.paw_grammar.specs.Vocabulary.{word, class, object_kind, with_word_declared, word_or_none}
use Rattle.paw_grammar.specs.Vocabulary.{verb_word, entry_verb, entry_noun}
use Rattle.paw_grammar.specs.declared.bounds.Bounds.{Bounds}
use Rattle.paw_grammar.specs.Condacts.{first_place, more_condacts}
use Rattle.paw_grammar.specs.GrammarState.{Spelt, last_or, with_last}

-- ---- /VOC ----

-- `word value class`: the words, with this one in its place.
unfoldable pub voc_row : List Word → Tokens → Result (List Word) SourceKind
voc_row ws ts = do
  w ← word ts
  v ← number_within LEAST_WORD GREATEST_WORD w.1
  c ← class v.1
  end ← end_of_line c.1
  with_word_declared (record { letters = w.0; value = v.0; class = c.0 }) ws

-- ---- /CON ----

-- `word location`: the exits of a location, with this one added, whose verb no other has.
unfoldable pub exit_row : List Word → ℕ → List Exit → Tokens → Result (List Exit) SourceKind
exit_row ws locations xs ts = do
  v ← verb_word ws ts
  to ← number_below locations v.1
  end ← end_of_line to.1
  if list_any (λ x. x.verb == v.0) xs then Err fault.Duplicate
      else Ok (xs ++ (record { verb = v.0; to = to.0 }) ∷ [])

-- A row of /CON adds an exit to the location of the last item.
abbrev pub con_row : Spelt → Tokens → Result Spelt SourceKind
con_row d ts =
    if length d.exits == 0 then Err fault.Section
    else exit_row d.words (length d.locations) (last_or [] d.exits) ts >>= λ xs.
    Ok (record d { exits = with_last xs d.exits })

-- ---- /OBJ ----

-- `n place weight kind noun adjective`: the facts of the next object.
unfoldable pub object_row : List Word → ℕ → ℕ → ℕ → Tokens → Result ObjectFacts SourceKind
object_row ws locations next count ts = do
  n ← row_number next count ts
  place ← first_place locations n.1
  weight ← number_within 0 WEIGHT_LIMIT place.1
  k ← object_kind weight.1
  noun ← word_or_none ws NOUN_CLASS k.1
  adjective ← word_or_none ws ADJECTIVE_CLASS noun.1
  end ← end_of_line adjective.1
  Ok (record {
    noun = noun.0;
    adjective = adjective.0;
    start = place.0;
    weight = weight.0;
    container = k.0.0;
    wearable = k.0.1;
  })

-- A row of /OBJ adds the facts of one more object.
abbrev pub obj_row : Spelt → Tokens → Result Spelt SourceKind
obj_row d ts =
    object_row d.words (length d.locations) (length d.facts) (length d.names) ts
    >>= λ f. Ok (record d { facts = d.facts ++ f ∷ [] })

-- ---- /PRO ----

-- The bounds of what parameters may name; p is the number of tables.
abbrev pub bounds_of : ℕ → Spelt → Bounds
bounds_of p d = record {
  system = length d.system;
  messages = length d.messages;
  objects = length d.names;
  locations = length d.locations;
  tables = p;
}

-- `verb noun condacts`: the entries of a table with one more. An entry has at most 255 condacts, a table 4,000 entries.
unfoldable pub entry_row : Bounds → List Word → List Entry → Tokens → Result (List Entry) SourceKind
entry_row bounds ws es ts = do
  v ← entry_verb ws ts
  n ← entry_noun ws v.1
  cs ← more_condacts bounds ws [] n.1
  if nat_lt (length es) ENTRY_LIMIT then Ok (es ++ (record { verb = v.0; noun = n.0; condacts = cs }) ∷ [])
      else Err fault.TooBig

-- An entry with nothing in it.
abbrev pub no_entry : Entry
no_entry = record { verb = 0; noun = 0; condacts = [] }

-- ` condacts`: more condacts of the last entry, which has to be there.
unfoldable pub more_row : Bounds → List Word → List Entry → Tokens → Result (List Entry) SourceKind
more_row bounds ws es ts =
    if length es == 0 then Err fault.Section
    else more_condacts bounds ws (last_or no_entry es).condacts ts
    >>= λ cs. Ok (with_last (record (last_or no_entry es) { condacts = cs }) es)

-- A line of the last table: more condacts where it begins with a blank, and otherwise an entry.
abbrev pub pro_row : ℕ → Spelt → Bool → Tokens → Result Spelt SourceKind
pro_row p d more ts =
    (if more then more_row (bounds_of p d) d.words (last_or [] d.tables) ts
    else entry_row (bounds_of p d) d.words (last_or [] d.tables) ts)
    >>= λ es. Ok (record d { tables = with_last es d.tables })

-- ---- a row ----

-- A row of a section; no other section has rows.
abbrev pub row_in : Section → ℕ → Spelt → Bool → Tokens → Result Spelt SourceKind
row_in section.Voc p d more ts = voc_row d.words ts >>= λ ws. Ok (record d { words = ws })
row_in section.Con p d more ts = con_row d ts
row_in section.Obj p d more ts = obj_row d ts
row_in section.Pro p d more ts = pro_row p d more ts
row_in _ p d more ts = Err fault.Section
