-- The parts of a file that stand between `/IF` and `/ENDIF`.
use Rattle.std.specs.Prelude.{ℕ, ◌==◌, Bool, true, false, not, List, [], ◌∷◌, ◌++◌, if◌then◌else◌, Result, Ok, Err, codes}
use Rattle.std.specs.List.{list_all, list_any}
use Rattle.paw_base.specs.Bytes.{Name, Names}
use Rattle.paw_base.specs.declared.fault.SourceKind.TheVariants.{Section, Missing}
use Rattle.paw_read_error.specs.Bind.{◌>>=◌}
use Rattle.paw_author.specs.declared.fragment.Origin.{Origin}
use Rattle.paw_author.specs.declared.mistake.Mistake.{Mistake}
use Rattle.paw_author.specs.declared.choices.IfLine.{IfLine}
use Rattle.paw_author.specs.declared.choices.IfLine.TheVariants.{If, Else, EndIf, Wrong, Other}
use Rattle.paw_author.specs.declared.choices.OpenIf.{OpenIf}
use Rattle.paw_author.specs.Mistakes.{wrong_line}
use Rattle.paw_author.specs.Fragments.{Fragments, LinesInParts}
use Rattle.paw_author.specs.Tokens.{leading_word, line_origin, token_at, token_count, is_same}

-- ---- what a line says ----

-- The kind of a line that has to have this number of tokens.
abbrev pub with_token_count : ℕ → IfLine → Fragments → IfLine
with_token_count count kind line = if token_count line == count then kind else Wrong

-- What a line says: `/IF` has one token after it, `/ELSE` and `/ENDIF` have none.
abbrev pub if_line : Fragments → IfLine
if_line line =
    if is_same (leading_word line) (codes "/IF") then with_token_count 2 If line
    else if is_same (leading_word line) (codes "/ELSE") then with_token_count 1 Else line
    else if is_same (leading_word line) (codes "/ENDIF") then with_token_count 1 EndIf line
    else Other

-- Whether one of the switches has this name, in any case of letters.
abbrev pub is_on : Names → Name → Bool
is_on switches name = list_any (λ switch. is_same switch name) switches

-- ---- what is open ----

-- `/IF` begins a part inside of all that are open. Its first half is taken where the switch is on.
abbrev pub after_if : Bool → Origin → List OpenIf → Result (List OpenIf) Mistake
after_if taken origin parts = Ok (record { taken = taken; second = false; origin = origin } ∷ parts)

-- `/ELSE` begins the second half of the innermost part. It is a fault where no part is open, or a second half.
abbrev pub after_else : Origin → List OpenIf → Result (List OpenIf) Mistake
after_else origin [] = Err (wrong_line origin Section)
after_else origin (part ∷ parts) =
    if part.second then Err (wrong_line origin Section)
    else Ok (record { taken = not part.taken; second = true; origin = part.origin } ∷ parts)

-- `/ENDIF` ends the innermost part. It is a fault where no part is open.
abbrev pub after_endif : Origin → List OpenIf → Result (List OpenIf) Mistake
after_endif origin [] = Err (wrong_line origin Section)
after_endif origin (part ∷ parts) = Ok parts

-- What is open after a line of this kind.
abbrev pub after_change : Names → IfLine → Fragments → List OpenIf → Result (List OpenIf) Mistake
after_change switches If line parts = after_if (is_on switches (token_at 1 line)) (line_origin line) parts
after_change switches Else line parts = after_else (line_origin line) parts
after_change switches EndIf line parts = after_endif (line_origin line) parts
after_change switches Wrong line parts = Err (wrong_line (line_origin line) Section)
after_change switches Other line parts = Ok parts

-- ---- all lines of a file ----

-- The parts that are open, the innermost first, and the lines that were taken.
pub record Chosen : Type 0 where
  pub parts : List OpenIf
  pub lines : LinesInParts

-- Whether all halves that are read are taken.
abbrev pub all_taken : List OpenIf → Bool
all_taken parts = list_all (λ part. part.taken) parts

-- A line that says nothing of parts is taken where all halves that it stands in are; any other changes what is open,
-- and is left out.
abbrev pub line_chosen : Names → IfLine → Chosen → Fragments → Result Chosen Mistake
line_chosen switches Other s line =
    Ok (record s { lines = if all_taken s.parts then s.lines ++ line ∷ [] else s.lines })
line_chosen switches kind s line = after_change switches kind line s.parts >>= λ parts. Ok (record s { parts = parts })

-- What was chosen after one line more.
abbrev pub chosen_with : Names → Chosen → Fragments → Result Chosen Mistake
chosen_with switches s line = line_chosen switches (if_line line) s line

-- What was chosen after all these lines.
unfoldable pub chosen_from : Names → Chosen → LinesInParts → Result Chosen Mistake
chosen_from switches s [] = Ok s
chosen_from switches s (line ∷ lines) = chosen_with switches s line >>= λ next. chosen_from switches next lines

-- Nothing is open, and no line was taken.
abbrev pub no_line_yet : Chosen
no_line_yet = record { parts = []; lines = [] }

-- At the end of a file no part may be open; the innermost one that is lacks its `/ENDIF`.
abbrev pub at_end : List OpenIf → Result (Unit {0}) Mistake
at_end [] = Ok tt
at_end (part ∷ parts) = Err (wrong_line part.origin Missing)

-- The lines of a file without those that aren't taken.
abbrev pub chosen_lines : Names → LinesInParts → Result LinesInParts Mistake
chosen_lines switches lines =
    chosen_from switches no_line_yet lines >>= λ s. at_end s.parts >>= λ _. Ok s.lines
