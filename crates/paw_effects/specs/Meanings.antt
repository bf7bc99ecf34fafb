-- What each plain condact means, as the table of the manual has it: a row for each, in the order of the codes.
use Rattle.std.specs.Prelude.{ℕ, ◌+◌, ◌-◌, ◌==◌, Bool, true, false, not, nat_lt, nat_le, min, List, [], ◌∷◌, ◌++◌}
use Rattle.std.specs.Prelude.{decimal}
use Rattle.std.specs.List.{slice_index_or}
use Rattle.std.specs.Option.{option_map_or}
use Rattle.paw_base.specs.Bytes.{RoutineAnswers, Text}
use Rattle.paw_base.specs.declared.flags.TheConstants.{LOCATION_FLAG, ADJECTIVE_FLAG, ADVERB_FLAG, PREPOSITION_FLAG}
use Rattle.paw_base.specs.declared.flags.TheConstants.{SECOND_NOUN_FLAG, SECOND_ADJECTIVE_FLAG}
use Rattle.paw_base.specs.declared.flags.TheConstants.{TIMED_OUT_FLAG, TIMED_OUT_BIT, MOST_CARRIED_FLAG, PROMPT_FLAG}
use Rattle.paw_base.specs.declared.flags.TheConstants.{TIMEOUT_FLAG, MOST_WEIGHT_FLAG}
use Rattle.paw_base.specs.declared.messages.TheConstants.{AGAIN_MESSAGE, OK_MESSAGE, KEY_MESSAGE}
use Rattle.paw_base.specs.declared.messages.TheConstants.{NOTHING_THERE_MESSAGE}
use Rattle.paw_base.specs.declared.places.TheConstants.{WORN_PLACE, CARRIED_PLACE, NOT_CREATED_PLACE}
use Rattle.paw_base.specs.declared.parts.Condact.{Condact}
use Rattle.paw_game.specs.Game.{GameLists}
use Rattle.paw_routines.specs.Answers.{value_at}
use Rattle.paw_world.specs.World.{World, flag, with_flag, place, object_moved, here, is_present, drawn_on}
use Rattle.paw_world.specs.World.{position_saved, saved_position_loaded}
use Rattle.paw_world.specs.World.{position_kept, kept_position}
use Rattle.paw_world.specs.Weight.{weight, carried_weight}
use Rattle.paw_effects.specs.declared.act.Truth.TheVariants as truth
use Rattle.paw_effects.specs.declared.act.Prompt.TheVariants as prompt
use Rattle.paw_effects.specs.declared.act.Effect.TheVariants as effect
use Rattle.paw_effects.specs.declared.object_actions.Action.TheVariants as action
use Rattle.paw_effects.specs.Story.{Story}
use Rattle.paw_effects.specs.Done.{Done, dropping_act, prints_then, leads, prints, makes}
use Rattle.paw_effects.specs.Tested.{Tested, answers, moves}
use Rattle.paw_effects.specs.Chance.{percent_drawn}
use Rattle.paw_effects.specs.Presence.{named_place}
use Rattle.paw_effects.specs.Texts.{message_text, put_text, say_text}
use Rattle.paw_effects.specs.Counts.{turns_text, score_text}
use Rattle.paw_effects.specs.Lists.{inventory_text, here_list_text, list_or_say, texts_at}
use Rattle.paw_effects.specs.Signs.{sign_text}
use Rattle.paw_effects.specs.Positions.{position_number, position_loaded}
use Rattle.paw_effects.specs.MoveActions.{all_dropped, objects_swapped, referred_moved, moved_if_place, reset}
use Rattle.paw_effects.specs.ObjectActions.{acted_on}
use Rattle.paw_effects.specs.AutoActions.{acted_by_name, referred_by_name}

-- What a condact means: a condition tests the world, and may change it; an action acts on it, and may use the routines.
pub data Meaning : Type 0 where
  Tests : (GameLists → World → Condact → Tested) → Meaning
  Acts : (Story → World → Condact → Done) → Meaning

-- A condition that changes nothing.
abbrev pub tests : (World → Condact → Bool) → Meaning
tests holds = Tests (λ g w c. answers w (holds w c))

-- An action that needs no routine.
abbrev pub doing : (GameLists → World → Condact → Done) → Meaning
doing done = Acts (λ s w c. done s.game w c)

-- An action that prints, and changes nothing.
abbrev pub printing_action : (GameLists → World → Condact → Text) → Meaning
printing_action text = doing (λ g w c. prints w (text g w c))

-- An action that changes the world, and prints nothing.
abbrev pub changing : (World → Condact → World) → Meaning
changing made = doing (λ g w c. makes (made w c))

-- An action for what is shown or played besides the text: it prints its name and its numbers.
abbrev pub mark : Meaning
mark = printing_action (λ g w c. sign_text c)

-- EXTERN: a flag becomes the answer of a routine to its value, if there is such a routine.
abbrev pub answered_by : RoutineAnswers → World → ℕ → ℕ → World
answered_by answers w n f = option_map_or (with_flag w f) (value_at answers n (flag w f)) w

-- The meanings of the plain codes from 0 on, in their order.
unfoldable pub meanings : List Meaning
meanings =
    tests (λ w c. flag w LOCATION_FLAG == c.a) ∷  -- AT
    tests (λ w c. not (flag w LOCATION_FLAG == c.a)) ∷  -- NOTAT
    tests (λ w c. nat_lt c.a (flag w LOCATION_FLAG)) ∷  -- ATGT
    tests (λ w c. nat_lt (flag w LOCATION_FLAG) c.a) ∷  -- ATLT
    tests (λ w c. is_present w c.a) ∷  -- PRESENT
    tests (λ w c. not (is_present w c.a)) ∷  -- ABSENT
    tests (λ w c. place w c.a == WORN_PLACE) ∷  -- WORN
    tests (λ w c. not (place w c.a == WORN_PLACE)) ∷  -- NOTWORN
    tests (λ w c. place w c.a == CARRIED_PLACE) ∷  -- CARRIED
    tests (λ w c. not (place w c.a == CARRIED_PLACE)) ∷  -- NOTCARR
    Tests (λ g w c. answers (drawn_on w 1) (nat_le (percent_drawn w) c.a)) ∷  -- CHANCE
    tests (λ w c. flag w c.a == 0) ∷  -- ZERO
    tests (λ w c. not (flag w c.a == 0)) ∷  -- NOTZERO
    tests (λ w c. flag w c.a == c.b) ∷  -- EQ
    tests (λ w c. not (flag w c.a == c.b)) ∷  -- NOTEQ
    tests (λ w c. nat_lt c.b (flag w c.a)) ∷  -- GT
    tests (λ w c. nat_lt (flag w c.a) c.b) ∷  -- LT
    tests (λ w c. flag w c.a == flag w c.b) ∷  -- SAME
    tests (λ w c. not (flag w c.a == flag w c.b)) ∷  -- NOTSAME
    tests (λ w c. flag w ADJECTIVE_FLAG == c.a) ∷  -- ADJECT1
    tests (λ w c. flag w ADVERB_FLAG == c.a) ∷  -- ADVERB
    tests (λ w c. flag w PREPOSITION_FLAG == c.a) ∷  -- PREP
    tests (λ w c. flag w SECOND_NOUN_FLAG == c.a) ∷  -- NOUN2
    tests (λ w c. flag w SECOND_ADJECTIVE_FLAG == c.a) ∷  -- ADJECT2
    tests (λ w c. place w c.a == named_place w c.b) ∷  -- ISAT
    tests (λ w c. not (place w c.a == named_place w c.b)) ∷  -- ISNOTAT
    tests (λ w c. nat_le TIMED_OUT_BIT (flag w TIMED_OUT_FLAG)) ∷  -- TIMEOUT
    Tests (λ g w c. record { answer = truth.Ask; world = w }) ∷  -- QUIT
    Tests (λ g w c. moves g w c.a) ∷  -- MOVE
    printing_action (λ g w c. inventory_text g w) ∷  -- INVEN
    doing (λ g w c. leads w effect.Redescribe) ∷  -- DESC
    doing (λ g w c. prints_then w (put_text g w AGAIN_MESSAGE) (effect.Ask prompt.Again)) ∷  -- END
    doing (λ g w c. leads w (effect.Exit true)) ∷  -- DONE
    doing (λ g w c. leads w (effect.Exit false)) ∷  -- NOTDONE
    doing (λ g w c. prints_then w (say_text g w OK_MESSAGE) (effect.Exit true)) ∷  -- OK
    doing (λ g w c. prints_then w (put_text g w KEY_MESSAGE) (effect.Ask prompt.Key)) ∷  -- ANYKEY
    doing (λ g w c. leads (position_kept w (position_number w)) effect.Redescribe) ∷  -- SAVE
    doing (λ g w c. position_loaded g w (kept_position w (position_number w))) ∷  -- LOAD
    changing (λ w c. position_saved w) ∷  -- RAMSAVE
    changing (λ w c. saved_position_loaded w c.a) ∷  -- RAMLOAD
    printing_action (λ g w c. turns_text g w) ∷  -- TURNS
    printing_action (λ g w c. score_text g w) ∷  -- SCORE
    changing (λ w c. all_dropped w) ∷  -- DROPALL
    doing (λ g w c. acted_by_name g w action.Get) ∷  -- AUTOG
    doing (λ g w c. acted_by_name g w action.Drop) ∷  -- AUTOD
    doing (λ g w c. acted_by_name g w action.Wear) ∷  -- AUTOW
    doing (λ g w c. acted_by_name g w action.Remove) ∷  -- AUTOR
    doing (λ g w c. acted_by_name g w (action.PutIn c.a)) ∷  -- AUTOP
    doing (λ g w c. acted_by_name g w (action.TakeOut c.a)) ∷  -- AUTOT
    changing (λ w c. with_flag w LOCATION_FLAG c.a) ∷  -- GOTO
    printing_action (λ g w c. message_text g w c.a) ∷  -- MES
    printing_action (λ g w c. message_text g w c.a ++ 10 ∷ []) ∷  -- MESSAGE
    printing_action (λ g w c. put_text g w c.a) ∷  -- SYSMESS
    printing_action (λ g w c. 10 ∷ []) ∷  -- NEWLINE
    printing_action (λ g w c. decimal (flag w c.a)) ∷  -- PRINT
    doing (λ g w c. acted_on g w c.a action.Get) ∷  -- GET
    doing (λ g w c. acted_on g w c.a action.Drop) ∷  -- DROP
    doing (λ g w c. acted_on g w c.a action.Wear) ∷  -- WEAR
    doing (λ g w c. acted_on g w c.a action.Remove) ∷  -- REMOVE
    doing (λ g w c. acted_on g w c.a (action.PutIn c.b)) ∷  -- PUTIN
    doing (λ g w c. acted_on g w c.a (action.TakeOut c.b)) ∷  -- TAKEOUT
    changing (λ w c. object_moved w c.a (here w)) ∷  -- CREATE
    changing (λ w c. object_moved w c.a NOT_CREATED_PLACE) ∷  -- DESTROY
    changing (λ w c. objects_swapped w c.a c.b) ∷  -- SWAP
    changing (λ w c. object_moved w c.a (named_place w c.b)) ∷  -- PLACE
    changing (λ w c. referred_moved w (named_place w c.a)) ∷  -- PUTO
    changing (λ w c. with_flag w c.a 255) ∷  -- SET
    changing (λ w c. with_flag w c.a 0) ∷  -- CLEAR
    changing (λ w c. with_flag w c.a (min 255 (flag w c.a + c.b))) ∷  -- PLUS
    changing (λ w c. with_flag w c.a (flag w c.a - c.b)) ∷  -- MINUS
    changing (λ w c. with_flag w c.a c.b) ∷  -- LET
    changing (λ w c. with_flag w c.b (min 255 (flag w c.b + flag w c.a))) ∷  -- ADD
    changing (λ w c. with_flag w c.b (flag w c.b - flag w c.a)) ∷  -- SUB
    changing (λ w c. with_flag (drawn_on w 1) c.a (percent_drawn w)) ∷  -- RANDOM
    changing (λ w c. object_moved w c.b (place w c.a)) ∷  -- COPYOO
    changing (λ w c. with_flag w c.b (place w c.a)) ∷  -- COPYOF
    changing (λ w c. moved_if_place w c.b (flag w c.a)) ∷  -- COPYFO
    changing (λ w c. with_flag w c.b (flag w c.a)) ∷  -- COPYFF
    printing_action (λ g w c. here_list_text g w) ∷  -- LISTOBJ
    printing_action (λ g w c. list_or_say g w NOTHING_THERE_MESSAGE (texts_at g w (named_place w c.a))) ∷  -- LISTAT
    changing (λ w c. referred_by_name w) ∷  -- WHATO
    changing (λ w c. with_flag w c.b (weight w c.a)) ∷  -- WEIGH
    changing (λ w c. with_flag w c.a (carried_weight w)) ∷  -- WEIGHT
    changing (λ w c. with_flag (with_flag w MOST_CARRIED_FLAG c.a) MOST_WEIGHT_FLAG c.b) ∷  -- ABILITY
    doing (λ g w c. leads w effect.Parse) ∷  -- PARSE
    doing (λ g w c. leads w (effect.Call c.a)) ∷  -- PROCESS
    doing (λ g w c. leads w (effect.Loop (named_place w c.a))) ∷  -- DOALL
    changing (λ w c. with_flag w PROMPT_FLAG c.a) ∷  -- PROMPT
    changing (λ w c. with_flag (with_flag w TIMEOUT_FLAG c.a) TIMED_OUT_FLAG c.b) ∷  -- TIME
    doing (λ g w c. record { text = []; world = w; act = dropping_act effect.Go }) ∷  -- NEWTEXT
    doing (λ g w c. leads (reset w c.a) effect.Redescribe) ∷  -- RESET
    Acts (λ s w c. makes (answered_by s.answers w c.a c.b)) ∷  -- EXTERN
    mark ∷ mark ∷ mark ∷ mark ∷  -- PICTURE, GRAPHIC, BEEP, CLS
    mark ∷ mark ∷ mark ∷ mark ∷  -- PAPER, INK, BORDER, CHARSET
    mark ∷ mark ∷ mark ∷ mark ∷  -- PROTECT, SAVEAT, BACKAT, PRINTAT
    mark ∷ mark ∷ mark ∷ mark ∷  -- PAUSE, MODE, LINE, INPUT
    []

-- The meaning of a plain code; for a number above the last one, an action that changes nothing.
unfoldable pub meaning_of : ℕ → Meaning
meaning_of code = slice_index_or meanings code (changing (λ w c. w))

-- Whether a meaning is that of a condition.
abbrev pub is_test : Meaning → Bool
is_test (Tests holds) = true
is_test (Acts done) = false
