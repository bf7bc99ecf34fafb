-- Names for lists of bytes, by what the bytes are, for places of objects, and for seeds. Each is another name for a
-- list of numbers, or for a number, and unfolds by itself.
use Rattle.std.specs.Prelude.{ℕ, List, replicate}

-- A list of bytes, each below 256.
abbrev pub Bytes : Type 0
Bytes = List ℕ

-- The bytes of one line, without its line end.
abbrev pub Line : Type 0
Line = Bytes

-- Lines in their order.
abbrev pub Lines : Type 0
Lines = List Line

-- The bytes of a text that is shown, or that stands in a game.
abbrev pub Text : Type 0
Text = Bytes

-- Texts in their order.
abbrev pub Texts : Type 0
Texts = List Text

-- The bytes of a name: of a file, a player, a command or a condact.
abbrev pub Name : Type 0
Name = Bytes

-- Names in their order.
abbrev pub Names : Type 0
Names = List Name

-- The letters of a word of a game: five bytes, of which the last may be spaces.
abbrev pub Letters : Type 0
Letters = Bytes

-- The bytes of one token of a line, which is a line of a source or one that was typed.
abbrev pub Token : Type 0
Token = Bytes

-- Tokens in their order.
abbrev pub Tokens : Type 0
Tokens = List Token

-- The answers of routines: for each routine those to the bytes 0 to 255, in this order.
abbrev pub RoutineAnswers : Type 0
RoutineAnswers = List Bytes

-- The places of the objects, in their order.
abbrev pub ObjectPlaces : Type 0
ObjectPlaces = List ℕ

-- The number from which a play draws its random words. A play has one below 2^64.
abbrev pub Seed : Type 0
Seed = ℕ

-- A list of n bytes that are 0.
unfoldable pub zeros : ℕ → Bytes
zeros n = replicate n 0
