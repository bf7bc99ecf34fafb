-- The four sections of texts: items and text lines.
use Rattle.std.specs.Prelude.{ℕ, ◌==◌, Bool, not, [], ◌∷◌}
use Rattle.std.specs.Prelude.{◌++◌, length, nat_lt, if◌then◌else◌, Result, Ok, Err}
use Rattle.paw_base.specs.Bytes.{Line, Text, Texts}
use Rattle.paw_base.specs.declared.limits.TheConstants.{SYSTEM_LIMIT, MESSAGE_LIMIT, OBJECT_LIMIT, LOCATION_LIMIT}
use Rattle.paw_base.specs.declared.limits.TheConstants.{TEXT_LIMIT}
use Rattle.paw_base.specs.declared.fault.SourceKind.{SourceKind}
use Rattle.paw_base.specs.declared.fault.SourceKind.TheVariants as kind
use Rattle.paw_grammar.specs.declared.section.Section.{Section}
use Rattle.paw_grammar.specs.declared.section.Section.TheVariants as section
use Rattle.paw_read_error.specs.Bind.{◌>>=◌}
use Rattle.paw_grammar.specs.Tokens.{at_most}
use Rattle.paw_grammar.specs.GrammarState.{Spelt, last_or, with_last}

-- The texts of a section; none where it isn't a section of texts.
abbrev pub texts_of : Section → Spelt → Texts
texts_of section.Stx d = d.system
texts_of section.Mtx d = d.messages
texts_of section.Otx d = d.names
texts_of section.Ltx d = d.locations
texts_of _ d = []

-- What is spelled with these texts in a section; `begun` says whether the last of them has a line.
abbrev pub with_texts : Section → Bool → Texts → Spelt → Spelt
with_texts section.Stx begun ts d = record d { system = ts; begun = begun }
with_texts section.Mtx begun ts d = record d { messages = ts; begun = begun }
with_texts section.Otx begun ts d = record d { names = ts; begun = begun }
with_texts section.Ltx begun ts d = record d { locations = ts; begun = begun }
with_texts _ begun ts d = d

-- The most texts that a section may have; none where it isn't a section of texts.
abbrev pub text_limit : Section → ℕ
text_limit section.Stx = SYSTEM_LIMIT
text_limit section.Mtx = MESSAGE_LIMIT
text_limit section.Otx = OBJECT_LIMIT
text_limit section.Ltx = LOCATION_LIMIT
text_limit _ = 0

-- The texts with one more, which is empty. Its number is how many there were before it, which has to be below the
-- limit.
abbrev pub text_item : ℕ → ℕ → Texts → Result Texts SourceKind
text_item limit n ts =
    if not (n == length ts) then Err kind.Range
    else if not (nat_lt (length ts) limit) then Err kind.TooBig
    else Ok (ts ++ [] ∷ [])

-- Whether a line that doesn't begin with `/` belongs to a text: it follows an item of a section of texts. (A line that
-- begins with `;` never does, as it is a comment everywhere.)
abbrev pub is_in_text : Spelt → Bool
is_in_text d = not (length (texts_of d.section d) == 0)

-- A text with one line more; lines are joined by LF.
abbrev pub with_line : Bool → Text → Line → Text
with_line begun text line = text ++ (if begun then 10 ∷ line else line)

-- The texts with one line more at the end of the last, where that isn't too long.
abbrev pub text_line : Bool → Line → Texts → Result Texts SourceKind
text_line begun line ts = at_most TEXT_LIMIT (with_line begun (last_or [] ts) line) >>= λ t. Ok (with_last t ts)
