-- Which condacts may change the verb of the sentence while a table is read.
use Rattle.std.specs.Prelude.{ℕ, ◌==◌, ◌&&◌, ◌||◌, Bool, List, [], ◌∷◌, nat_le}
use Rattle.std.specs.List.{list_any}
use Rattle.paw_base.specs.declared.codes.TheConstants.{MOVE, RAMLOAD, SET, CLEAR, PLUS, MINUS, LET, ADD, SUB, RANDOM}
use Rattle.paw_base.specs.declared.codes.TheConstants.{COPYOF, COPYFF, WEIGH, WEIGHT, PARSE, EXTERN}
use Rattle.paw_base.specs.declared.flags.TheConstants.{VERB_FLAG}
use Rattle.paw_base.specs.declared.parts.Condact.{Condact}
use Rattle.paw_base.specs.Condacts.{is_indirect, plain_code}

-- Whether a number is one of these.
abbrev pub is_among : List ℕ → ℕ → Bool
is_among ns n = list_any (λ m. m == n) ns

-- Whether the plain code of a condact is one of these.
abbrev pub does_one_of : List ℕ → Condact → Bool
does_one_of codes c = is_among codes (plain_code c.code)

-- The codes that write the flag which their first parameter names.
abbrev pub writes_first : List ℕ
writes_first = MOVE ∷ SET ∷ CLEAR ∷ PLUS ∷ MINUS ∷ LET ∷ RANDOM ∷ WEIGHT ∷ []

-- The codes that write the flag which their second parameter names.
abbrev pub writes_second : List ℕ
writes_second = ADD ∷ SUB ∷ COPYOF ∷ COPYFF ∷ WEIGH ∷ EXTERN ∷ []

-- Whether the first parameter may be the verb's flag: it is, or it comes from a flag, and so may be any.
abbrev pub first_may_be_verb : Condact → Bool
first_may_be_verb c = is_indirect c.code || (c.a == VERB_FLAG)

-- Whether a RAMLOAD of this condact's first parameter may take back the verb's flag: it takes back all flags up to that
-- number, which may be any where it comes from a flag.
abbrev pub reaches_verb : Condact → Bool
reaches_verb c = is_indirect c.code || nat_le VERB_FLAG c.a

-- Whether a condact may give the verb's flag another value and go on reading the table. PARSE does so with a sentence
-- that it takes. LOAD takes back all flags, but then all tables are left.
abbrev pub may_write_verb : Condact → Bool
may_write_verb c =
    does_one_of (PARSE ∷ []) c || ((does_one_of (RAMLOAD ∷ []) c && reaches_verb c)
    || ((does_one_of writes_first c && first_may_be_verb c) || (does_one_of writes_second c && (c.b == VERB_FLAG))))
