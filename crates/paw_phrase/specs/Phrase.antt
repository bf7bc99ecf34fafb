-- How a line is cut into phrases.
use Rattle.std.specs.Prelude.{ℕ, ◌-◌, ◌==◌, Bool, true, false, List, [], ◌∷◌, ◌++◌, Option}
use Rattle.std.specs.Prelude.{Some, None, length, take, replicate, codes, if◌then◌else◌}
use Rattle.std.specs.Char.{to_ascii_uppercase, is_ascii_alphanumeric}
use Rattle.std.specs.List.{list_any}
use Rattle.std.specs.Option.{option_map_or, option_to_list}
use Rattle.paw_base.specs.Bytes.{Bytes, Letters, Token}
use Rattle.paw_base.specs.declared.words.TheConstants.{CONJUNCTION_CLASS}
use Rattle.paw_base.specs.declared.limits.TheConstants.{WORD_LENGTH}
use Rattle.paw_game.specs.Game.{GameLists}
use Rattle.paw_game.specs.Tables.{word_at}

-- Whether a byte separates phrases.
abbrev pub is_separator : ℕ → Bool
is_separator b = list_any (λ s. s == b) (codes ".,;:!?\"")

-- A token cut to five letters, filled up with spaces.
abbrev pub five_letters : Token → Letters
five_letters token = take WORD_LENGTH token ++ replicate (WORD_LENGTH - length token) 32

-- A token, or a separator (which has no token), and the bytes after it.
pub record Lexeme : Type 0 where
  pub token : Option Letters
  pub after : Bytes

-- The lexeme of a token with these bytes; none where there are no bytes.
abbrev pub token_lexeme : Token → Bytes → List Lexeme
token_lexeme [] after = []
token_lexeme (b ∷ bs) after = record { token = Some (five_letters (b ∷ bs)); after = after } ∷ []

-- The lexeme of a separator, where this byte is one.
abbrev pub separator_lexeme : ℕ → Bytes → List Lexeme
separator_lexeme b after = if is_separator b then record { token = None; after = after } ∷ [] else []

-- The tokens and separators of bytes, in order, where `begun` is the part of a token that stands right before them.
unfoldable pub lexemes_from : Token → Bytes → List Lexeme
lexemes_from begun [] = token_lexeme begun []
lexemes_from begun (b ∷ bs) =
    if is_ascii_alphanumeric b then lexemes_from (begun ++ to_ascii_uppercase b ∷ []) bs
    else token_lexeme begun (b ∷ bs) ++ separator_lexeme b bs ++ lexemes_from [] bs

-- The tokens and separators of bytes, in order. A token is a longest run of letters and digits, with small letters read
-- as capitals; a byte that is neither in a token nor a separator is a blank.
abbrev pub lexemes : Bytes → List Lexeme
lexemes bytes = lexemes_from [] bytes

-- Whether a lexeme separates phrases: it is a separator, or a token whose letters are those of a conjunction.
abbrev pub is_parting : GameLists → Option Letters → Bool
is_parting g None = true
is_parting g (Some letters) = option_map_or (λ word. word.1 == CONJUNCTION_CLASS) (word_at g letters) false

-- The lexemes from the first one that doesn't separate phrases to the end.
abbrev pub from_phrase : GameLists → List Lexeme → List Lexeme
from_phrase g [] = []
from_phrase g (m ∷ ms) = if is_parting g m.token then from_phrase g ms else m ∷ ms

-- The tokens up to the next lexeme that separates phrases.
abbrev pub phrase_tokens : GameLists → List Lexeme → List Letters
phrase_tokens g [] = []
phrase_tokens g (m ∷ ms) = if is_parting g m.token then [] else option_to_list m.token ++ phrase_tokens g ms

-- The bytes after the next lexeme that separates phrases; none where there is no such lexeme.
abbrev pub bytes_after : GameLists → List Lexeme → Bytes
bytes_after g [] = []
bytes_after g (m ∷ ms) = if is_parting g m.token then m.after else bytes_after g ms
