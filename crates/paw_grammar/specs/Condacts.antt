-- The condacts of a line.
use Rattle.std.specs.Prelude.{ℕ, zero, suc, ◌+◌, ◌&&◌, ◌||◌, Bool, List, [], ◌∷◌, ◌++◌, drop, min, nat_lt}
use Rattle.std.specs.Prelude.{if◌then◌else◌, Option, Result, Ok, codes}
use Rattle.std.specs.Option.{option_map, option_or, ok_or}
use Rattle.paw_base.specs.Bytes.{Name, Names, Token, Tokens}
use Rattle.paw_base.specs.declared.codes.TheConstants.{INDIRECT}
use Rattle.paw_base.specs.declared.places.TheConstants.{NOT_CREATED_PLACE, CARRIED_PLACE, HERE_PLACE}
use Rattle.paw_base.specs.declared.words.TheConstants.{ADVERB_CLASS, NOUN_CLASS, ADJECTIVE_CLASS, PREPOSITION_CLASS}
use Rattle.paw_base.specs.declared.limits.TheConstants.{CONDACT_LIMIT, FLAG_COUNT}
use Rattle.paw_base.specs.declared.parts.Condact.{Condact}
use Rattle.paw_base.specs.declared.fault.SourceKind.{SourceKind}
use Rattle.paw_base.specs.declared.fault.SourceKind.TheVariants as fault
use Rattle.paw_base.specs.declared.rows.ParamKind.{ParamKind}
use Rattle.paw_base.specs.declared.rows.ParamKind.TheVariants as kind
use Rattle.paw_base.specs.Condacts.{code_named, first_kind, second_kind, params_of, may_be_indirect}
use Rattle.paw_game.specs.declared.parts.Word.{Word}
use Rattle.paw_game.specs.Valid.{is_within}
use Rattle.paw_grammar.specs.declared.bounds.Bounds.{Bounds}
use Rattle.paw_read_error.specs.Bind.{◌>>=◌}
use Rattle.paw_grammar.specs.Tokens.{Reads, read_by, at_most, at_is_next}
use Rattle.paw_grammar.specs.Numbers.{number, in_range, number_below}
use Rattle.paw_grammar.specs.Vocabulary.{index_among, word_or_none}

-- ---- places ----

-- The names of the places other than locations where an object may begin, in the order of their numbers.
abbrev pub place_names : Names
place_names = codes "NOTCREATED" ∷ codes "WORN" ∷ codes "CARRIED" ∷ []

-- A place, by its number or by its name: a location, or one of the others up to the last that is allowed here. Names
-- count from the first place that isn't a location.
abbrev pub place_up_to : ℕ → (Token → Option ℕ) → ℕ → Reads ℕ
place_up_to last named locations ts =
    read_by fault.Number (λ t. option_or (number t) (option_map (λ i. NOT_CREATED_PLACE + i) (named t))) ts
    >>= in_range (λ n. nat_lt n locations || is_within NOT_CREATED_PLACE last n)

-- The place where an object begins.
abbrev pub first_place : ℕ → Reads ℕ
first_place locations ts = place_up_to CARRIED_PLACE (index_among place_names) locations ts

-- The place that a parameter names; HERE is one too.
abbrev pub any_place : ℕ → Reads ℕ
any_place locations ts = place_up_to HERE_PLACE (index_among (place_names ++ codes "HERE" ∷ [])) locations ts

-- ---- parameters ----

-- The number of a table, below the number of table headers. One above 255 is read as 255: there are then more than 256
-- headers, and one of them has a fault.
abbrev pub table : ℕ → Reads ℕ
table tables ts = number_below tables ts >>= λ n. Ok (min n.0 255, n.1)

-- A parameter of a kind; one that the condact doesn't have takes no token, and is 0.
abbrev pub parameter : Bounds → List Word → ParamKind → Reads ℕ
parameter bounds ws kind.Absent ts = Ok (0, ts)
parameter bounds ws kind.Location ts = number_below bounds.locations ts
parameter bounds ws kind.Place ts = any_place bounds.locations ts
parameter bounds ws kind.Object ts = number_below bounds.objects ts
parameter bounds ws kind.Flag ts = number_below FLAG_COUNT ts
parameter bounds ws kind.Number ts = number_below 256 ts
parameter bounds ws kind.Message ts = number_below bounds.messages ts
parameter bounds ws kind.System ts = number_below bounds.system ts
parameter bounds ws kind.Table ts = table bounds.tables ts
parameter bounds ws kind.Adverb ts = word_or_none ws ADVERB_CLASS ts
parameter bounds ws kind.Noun ts = word_or_none ws NOUN_CLASS ts
parameter bounds ws kind.Adjective ts = word_or_none ws ADJECTIVE_CLASS ts
parameter bounds ws kind.Preposition ts = word_or_none ws PREPOSITION_CLASS ts

-- ---- indirect parameters ----

-- Whether the condact with this plain code is indirect: it may be, and `@` follows its name.
abbrev pub is_indirect_before : ℕ → Tokens → Bool
is_indirect_before plain ts = may_be_indirect plain && at_is_next ts

-- The number of a flag after the first byte of a token, which is `@`.
abbrev pub flag_after_at : Reads ℕ
flag_after_at ts = read_by fault.Number (λ t. number (drop 1 t)) ts >>= in_range (λ n. nat_lt n FLAG_COUNT)

-- The first parameter: a flag after `@` where the condact is indirect.
abbrev pub first_parameter : Bounds → List Word → Bool → ParamKind → Reads ℕ
first_parameter bounds ws indirect k ts = if indirect then flag_after_at ts else parameter bounds ws k ts

-- The code of a condact: that of the plain one, plus 128 where it is indirect.
abbrev pub code_of : Bool → ℕ → ℕ
code_of indirect plain = if indirect then plain + INDIRECT else plain

-- ---- condacts ----

-- A condact: its name (the fault Condact where no condact has it), and its parameters, which are the next tokens. The
-- first may be `@` and the number of a flag where the condact may be indirect.
unfoldable pub condact : Bounds → List Word → Name → Reads Condact
condact bounds ws name ts = do
  plain ← ok_or (code_named name) fault.Condact
  a ← first_parameter bounds ws (is_indirect_before plain ts) (first_kind plain) ts
  b ← parameter bounds ws (second_kind plain) a.1
  Ok (record { code = code_of (is_indirect_before plain ts) plain; a = a.0; b = b.0 }, b.1)

-- The condacts from here to the end of the line, where the next `skip` tokens are parameters of the one before.
unfoldable pub condacts_in : Bounds → List Word → ℕ → Tokens → Result (List Condact) SourceKind
condacts_in bounds ws skip [] = Ok []
condacts_in bounds ws (suc skip) (t ∷ ts) = condacts_in bounds ws skip ts
condacts_in bounds ws zero (t ∷ ts) = do
  c ← condact bounds ws t ts
  cs ← condacts_in bounds ws (params_of c.0.code) ts
  Ok (c.0 ∷ cs)

-- The condacts of an entry, followed by those of one more line.
abbrev pub with_more_condacts : List Condact → Result (List Condact) SourceKind → Result (List Condact) SourceKind
with_more_condacts before cs = cs >>= λ more. Ok (before ++ more)

-- The condacts of an entry, followed by those of one more line; 255 at most.
unfoldable pub more_condacts : Bounds → List Word → List Condact → Tokens → Result (List Condact) SourceKind
more_condacts bounds ws before ts = with_more_condacts before (condacts_in bounds ws 0 ts) >>= at_most CONDACT_LIMIT
