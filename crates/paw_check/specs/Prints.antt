-- The most bytes that each condact prints: a row for each plain code, in the order of the codes, as the table of
-- meanings has them.
use Rattle.std.specs.Prelude.{ℕ, ◌+◌, ◌*◌, max, List, [], ◌∷◌, length, map, sum_by, if◌then◌else◌}
use Rattle.std.specs.List.{slice_index_or}
use Rattle.paw_base.specs.Bytes.{Texts}
use Rattle.paw_base.specs.declared.messages.TheConstants.{SEEN_MESSAGE, IMPOSSIBLE_MESSAGE, INVENTORY_MESSAGE}
use Rattle.paw_base.specs.declared.messages.TheConstants.{IS_WORN_MESSAGE, EMPTY_HANDED_MESSAGE, QUIT_MESSAGE}
use Rattle.paw_base.specs.declared.messages.TheConstants.{AGAIN_MESSAGE, OK_MESSAGE, KEY_MESSAGE, TURNS_MESSAGE}
use Rattle.paw_base.specs.declared.messages.TheConstants.{TURN_MESSAGE, PLURAL_MESSAGE, TURNS_END_MESSAGE}
use Rattle.paw_base.specs.declared.messages.TheConstants.{SCORE_MESSAGE, SCORE_END_MESSAGE, NOT_WORN_MESSAGE}
use Rattle.paw_base.specs.declared.messages.TheConstants.{WORN_MESSAGE, HELD_MESSAGE, NOT_HERE_MESSAGE}
use Rattle.paw_base.specs.declared.messages.TheConstants.{TOO_MANY_MESSAGE, NOT_CARRIED_MESSAGE}
use Rattle.paw_base.specs.declared.messages.TheConstants.{WORN_ALREADY_MESSAGE, TAKEN_MESSAGE, PUT_ON_MESSAGE}
use Rattle.paw_base.specs.declared.messages.TheConstants.{TAKEN_OFF_MESSAGE, DROPPED_MESSAGE, NOT_WEARABLE_MESSAGE}
use Rattle.paw_base.specs.declared.messages.TheConstants.{NOT_REMOVABLE_MESSAGE, HANDS_FULL_MESSAGE, TOO_HEAVY_MESSAGE}
use Rattle.paw_base.specs.declared.messages.TheConstants.{PUT_IN_MESSAGE, NOT_TAKEN_OUT_MESSAGE, NOT_HELD_MESSAGE}
use Rattle.paw_base.specs.declared.messages.TheConstants.{NOT_PUT_ON_MESSAGE, NAME_END_MESSAGE, NOT_INSIDE_MESSAGE}
use Rattle.paw_base.specs.declared.messages.TheConstants.{NOTHING_THERE_MESSAGE}
use Rattle.paw_base.specs.declared.parts.Condact.{Condact}
use Rattle.paw_base.specs.Condacts.{is_indirect, plain_code}
use Rattle.paw_game.specs.Game.{GameLists}
use Rattle.paw_check.specs.Measures.{greatest, longest_name, most_at, most_of, most_put, most_said}

-- ---- parts ----

-- The most bytes of a flag that is printed: three digits.
abbrev pub most_flag : ℕ
most_flag = 3

-- The most bytes of the number of turns, which stands in two flags: five digits.
abbrev pub most_turns : ℕ
most_turns = 5

-- The most bytes of a list of objects, in lines or as a sentence: the texts of all objects, at most five bytes for each
-- that end its line or join it to the one before, and two that end the sentence.
abbrev pub most_list : GameLists → ℕ
most_list g = sum_by (λ o. length o.text) g.objects + 5 * length g.objects + 2

-- The most bytes of a list of objects, or of a message where there is nothing to list.
abbrev pub most_list_or_said : GameLists → ℕ → ℕ
most_list_or_said g s = max (most_list g) (most_said g s)

-- The most bytes of INVEN: its message, and then a list in which each object may be marked as worn, or a message.
abbrev pub most_inventory : GameLists → ℕ
most_inventory g =
    let held = most_list g + length g.objects * most_put g IS_WORN_MESSAGE in
    most_said g INVENTORY_MESSAGE + max held (most_said g EMPTY_HANDED_MESSAGE)

-- The most bytes of TURNS: the number of turns between its messages.
abbrev pub most_count : GameLists → ℕ
most_count g =
    most_put g TURNS_MESSAGE + most_turns + most_put g TURN_MESSAGE + most_put g PLURAL_MESSAGE
    + most_said g TURNS_END_MESSAGE

-- The most bytes of SCORE: the score between its messages.
abbrev pub most_score : GameLists → ℕ
most_score g = most_put g SCORE_MESSAGE + most_flag + most_said g SCORE_END_MESSAGE

-- The messages that an action on an object may put.
abbrev pub said_of_objects : List ℕ
said_of_objects =
    IMPOSSIBLE_MESSAGE ∷ NOT_WORN_MESSAGE ∷ WORN_MESSAGE ∷ HELD_MESSAGE ∷ NOT_HERE_MESSAGE ∷ TOO_MANY_MESSAGE
    ∷ NOT_CARRIED_MESSAGE ∷ WORN_ALREADY_MESSAGE ∷ TAKEN_MESSAGE ∷ PUT_ON_MESSAGE ∷ TAKEN_OFF_MESSAGE
    ∷ DROPPED_MESSAGE ∷ NOT_WEARABLE_MESSAGE ∷ NOT_REMOVABLE_MESSAGE ∷ HANDS_FULL_MESSAGE ∷ TOO_HEAVY_MESSAGE
    ∷ PUT_IN_MESSAGE ∷ NOT_TAKEN_OUT_MESSAGE ∷ NOT_HELD_MESSAGE ∷ NOT_PUT_ON_MESSAGE ∷ NOT_INSIDE_MESSAGE ∷ []

-- The most bytes of an action on an object: one of these messages, and maybe a container's text and a line's end.
abbrev pub most_of_action : GameLists → ℕ
most_of_action g =
    greatest (map (most_put g) said_of_objects) + longest_name g + most_said g NAME_END_MESSAGE

-- The most bytes of the text that a condact's first parameter names; of any text, where the number comes from a flag.
abbrev pub most_named : GameLists → Texts → Condact → ℕ
most_named g texts c = if is_indirect c.code then most_of g texts else most_at g texts c.a

-- ---- rows ----

-- The row of a condact that prints nothing.
abbrev pub silent : GameLists → Condact → ℕ
silent g c = 0

-- The row of an action on an object, which its number or the sentence names.
abbrev pub on_object : GameLists → Condact → ℕ
on_object g c = most_of_action g

-- The row of a sign: its name and its numbers, in at most 20 bytes.
abbrev pub sign_most : GameLists → Condact → ℕ
sign_most g c = 20

-- The most bytes that the condacts of the plain codes from 0 on print, in their order.
unfoldable pub most_printed : List (GameLists → Condact → ℕ)
most_printed =
    silent ∷ silent ∷ silent ∷ silent ∷  -- AT, NOTAT, ATGT, ATLT
    silent ∷ silent ∷ silent ∷ silent ∷  -- PRESENT, ABSENT, WORN, NOTWORN
    silent ∷ silent ∷ silent ∷  -- CARRIED, NOTCARR, CHANCE
    silent ∷ silent ∷ silent ∷ silent ∷  -- ZERO, NOTZERO, EQ, NOTEQ
    silent ∷ silent ∷ silent ∷ silent ∷  -- GT, LT, SAME, NOTSAME
    silent ∷ silent ∷ silent ∷ silent ∷ silent ∷  -- ADJECT1, ADVERB, PREP, NOUN2, ADJECT2
    silent ∷ silent ∷ silent ∷  -- ISAT, ISNOTAT, TIMEOUT
    (λ g c. most_put g QUIT_MESSAGE) ∷  -- QUIT
    silent ∷  -- MOVE
    (λ g c. most_inventory g) ∷  -- INVEN
    silent ∷  -- DESC
    (λ g c. most_put g AGAIN_MESSAGE) ∷  -- END
    silent ∷  -- DONE
    silent ∷  -- NOTDONE
    (λ g c. most_said g OK_MESSAGE) ∷  -- OK
    (λ g c. most_put g KEY_MESSAGE) ∷  -- ANYKEY
    silent ∷  -- SAVE
    (λ g c. most_said g IMPOSSIBLE_MESSAGE) ∷  -- LOAD
    silent ∷  -- RAMSAVE
    silent ∷  -- RAMLOAD
    (λ g c. most_count g) ∷  -- TURNS
    (λ g c. most_score g) ∷  -- SCORE
    silent ∷  -- DROPALL
    on_object ∷ on_object ∷ on_object ∷ on_object ∷  -- AUTOG, AUTOD, AUTOW, AUTOR
    on_object ∷ on_object ∷  -- AUTOP, AUTOT
    silent ∷  -- GOTO
    (λ g c. most_named g g.messages c) ∷  -- MES
    (λ g c. most_named g g.messages c + 1) ∷  -- MESSAGE
    (λ g c. most_named g g.system c) ∷  -- SYSMESS
    (λ g c. 1) ∷  -- NEWLINE
    (λ g c. most_flag) ∷  -- PRINT
    on_object ∷ on_object ∷ on_object ∷ on_object ∷  -- GET, DROP, WEAR, REMOVE
    on_object ∷ on_object ∷  -- PUTIN, TAKEOUT
    silent ∷ silent ∷ silent ∷ silent ∷ silent ∷  -- CREATE, DESTROY, SWAP, PLACE, PUTO
    silent ∷ silent ∷ silent ∷ silent ∷ silent ∷  -- SET, CLEAR, PLUS, MINUS, LET
    silent ∷ silent ∷ silent ∷  -- ADD, SUB, RANDOM
    silent ∷ silent ∷ silent ∷ silent ∷  -- COPYOO, COPYOF, COPYFO, COPYFF
    (λ g c. most_said g SEEN_MESSAGE + most_list g) ∷  -- LISTOBJ
    (λ g c. most_list_or_said g NOTHING_THERE_MESSAGE) ∷  -- LISTAT
    silent ∷ silent ∷ silent ∷ silent ∷  -- WHATO, WEIGH, WEIGHT, ABILITY
    silent ∷ silent ∷ silent ∷  -- PARSE, PROCESS, DOALL
    silent ∷ silent ∷ silent ∷  -- PROMPT, TIME, NEWTEXT
    silent ∷ silent ∷  -- RESET, EXTERN
    sign_most ∷ sign_most ∷ sign_most ∷ sign_most ∷  -- PICTURE, GRAPHIC, BEEP, CLS
    sign_most ∷ sign_most ∷ sign_most ∷ sign_most ∷  -- PAPER, INK, BORDER, CHARSET
    sign_most ∷ sign_most ∷ sign_most ∷ sign_most ∷  -- PROTECT, SAVEAT, BACKAT, PRINTAT
    sign_most ∷ sign_most ∷ sign_most ∷ sign_most ∷  -- PAUSE, MODE, LINE, INPUT
    []

-- The most bytes that a condact prints; an indirect one has the row of the plain one.
unfoldable pub most_text : GameLists → Condact → ℕ
most_text g c = (slice_index_or most_printed (plain_code c.code) silent) g c
