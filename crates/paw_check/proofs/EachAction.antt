-- What each condact prints at most, whether it leaves the verb, and where reading goes on: a row for each action.
use Rattle.std.proofs.Common.{ℕ, ◌≤◌, [], ◌∷◌, Option, Some, None, refl, length, inl, inr, arith, length-append}
use Rattle.std.specs.Prelude.{nat_lt}
use Rattle.std.specs.List.{slice_index_or}
use Rattle.paw_base.specs.declared.codes.TheConstants.{MOVE, RAMLOAD, RANDOM, EXTERN}
use Rattle.paw_base.specs.declared.flags.TheConstants.{VERB_FLAG, REFERRED_FLAG}
use Rattle.paw_base.specs.declared.messages.TheConstants.{AGAIN_MESSAGE, OK_MESSAGE, KEY_MESSAGE, IMPOSSIBLE_MESSAGE}
use Rattle.paw_base.specs.declared.messages.TheConstants.{NOTHING_THERE_MESSAGE, NOT_HERE_MESSAGE, NOT_WORN_MESSAGE}
use Rattle.paw_base.specs.declared.messages.TheConstants.{NOT_CARRIED_MESSAGE, NOT_INSIDE_MESSAGE, TAKEN_MESSAGE}
use Rattle.paw_base.specs.declared.messages.TheConstants.{DROPPED_MESSAGE, PUT_ON_MESSAGE, TAKEN_OFF_MESSAGE}
use Rattle.paw_base.specs.declared.messages.TheConstants.{PUT_IN_MESSAGE}
use Rattle.paw_game.specs.Game.{GameLists}
use Rattle.paw_game.specs.Tables.{exit_at}
use Rattle.paw_routines.specs.Answers.{value_at}
use Rattle.paw_world.specs.World.{World, Position, flag, place, here, object_moved, drawn_on, kept_position}
use Rattle.paw_effects.specs.Chance.{percent_drawn}
use Rattle.paw_effects.specs.Presence.{named_place, held_objects}
use Rattle.paw_effects.specs.Positions.{position_number, position_loaded}
use Rattle.paw_effects.specs.Texts.{message_text}
use Rattle.paw_effects.specs.MoveActions.{names_place}
use Rattle.paw_effects.specs.Meanings.{meanings, meaning_of}
use Rattle.paw_effects.proofs.Worlds.{byte_at}
use Rattle.paw_effects.proofs.Actions.{get, drop, wear, remove, put_in, take_out}
use Rattle.paw_check.specs.Measures.{most_said}
use Rattle.paw_check.specs.Prints.{most_printed, silent}
use Rattle.paw_check.specs.Verbs.{writes_first, writes_second}
use Rattle.paw_check.proofs.EachPlain.{Each, ◌&◌, each_plain, with_conditions, with_marks}
use Rattle.paw_check.proofs.ActionFacts.{Facts, row, quiet, prints, says}
use Rattle.paw_check.proofs.ActionFacts.{still, verb_left, moving, set, set_two, set_first, set_second, writes_one}
use Rattle.paw_check.proofs.ActionFacts.{going, leaving, describing, calling, looping, asking, parsing}
use Rattle.paw_check.proofs.ActionFacts.{leads, loaded_leads, condition, tested, marked, on_object, by_name}
use Rattle.paw_check.proofs.Lengths.{put_most, say_most, message_most, byte_digits}
use Rattle.paw_check.proofs.Listed.{inventory_most, place_list_most, here_list_most}
use Rattle.paw_check.proofs.Signs.{turns_most, score_most}
use Rattle.paw_check.proofs.Spoken.{named, get_said, wear_said, remove_said, take_out_said, drop_said}
use Rattle.paw_check.proofs.Verb.{one_has, other_has, answered_has, moves_has, moved_has, dropped_has}
use Rattle.paw_check.proofs.Verb.{referred_found_has, loaded_leaves, ramloaded_has}

loaded_most : (g : GameLists) (w : World) (q : Option Position)
    → length (position_loaded g w q).text ≤ most_said g IMPOSSIBLE_MESSAGE
loaded_most g w None = say_most g w IMPOSSIBLE_MESSAGE
loaded_most g w (Some q) = omega arith

-- A row says what its action prints, how it leaves the verb, and where reading goes on. Actions on an object say all
-- three at once, by what they may say.
each_action : Each Facts most_printed meanings
unfolding most_printed meanings
each_action =
    with_conditions Facts tested
    (condition (λ n g w c is spares k. k))  -- CHANCE
    (condition (λ n g w c is spares k. k))  -- QUIT
    (condition (λ n g w c is spares k.
    moves_has n w c.a (exit_at g (flag w c.a) (flag w VERB_FLAG))
    (spares.first (writes_one writes_first MOVE c refl is)) k))  -- MOVE
    (
    row (prints (λ s w c d of k. inventory_most s.game w of.of)) still going &  -- INVEN
    row quiet still (describing refl) &  -- DESC
    row (prints (λ s w c d of k. put_most s.game w AGAIN_MESSAGE)) still asking &  -- END
    row quiet still leaving &  -- DONE
    row quiet still leaving &  -- NOTDONE
    row (prints (λ s w c d of k. say_most s.game w OK_MESSAGE)) still leaving &  -- OK
    row (prints (λ s w c d of k. put_most s.game w KEY_MESSAGE)) still asking &  -- ANYKEY
    row quiet (verb_left (λ n s w c is spares of k. inl k)) (describing refl) &  -- SAVE
    row
    (prints (λ s w c d of k. loaded_most s.game w (kept_position w (position_number w))))
    (verb_left (λ n s w c is spares of k. loaded_leaves n s.game w (kept_position w (position_number w))))
    (leads (λ s w c. loaded_leads s.game w (kept_position w (position_number w)))) &  -- LOAD
    row quiet (verb_left (λ n s w c is spares of k. inl k)) going &  -- RAMSAVE
    row quiet
    (verb_left (λ n s w c is spares of k.
    inl (ramloaded_has n s.game w c.a w.saved of.saved
    (spares.back (writes_one (RAMLOAD ∷ []) RAMLOAD c refl is)) k))) going &  -- RAMLOAD
    row (prints (λ s w c d of k. turns_most s.game w of.flags)) still going &  -- TURNS
    row (prints (λ s w c d of k. score_most s.game w of.flags)) still going &  -- SCORE
    row quiet (verb_left (λ n s w c is spares of k. inl (dropped_has n (here w) (held_objects w) w k))) going &  -- DROPALL
    by_name (λ d. get) (λ g d u o. get_said g) (says TAKEN_MESSAGE refl) (says NOT_HERE_MESSAGE refl) &  -- AUTOG
    by_name (λ d. drop) (λ g d u o. drop_said g) (says DROPPED_MESSAGE refl) (says NOT_CARRIED_MESSAGE refl) &  -- AUTOD
    by_name (λ d. wear) (λ g d u o. wear_said g) (says PUT_ON_MESSAGE refl) (says NOT_CARRIED_MESSAGE refl) &  -- AUTOW
    by_name (λ d. remove) (λ g d u o. remove_said g) (says TAKEN_OFF_MESSAGE refl)
    (says NOT_WORN_MESSAGE refl) &  -- AUTOR
    by_name (λ d. put_in d.a) (λ g d u o. drop_said g) (λ g d. named g PUT_IN_MESSAGE d.a refl)
    (says NOT_CARRIED_MESSAGE refl) &  -- AUTOP
    by_name (λ d. take_out d.a) (λ g d u o. take_out_said g d.a) (says TAKEN_MESSAGE refl)
    (λ g d. named g NOT_INSIDE_MESSAGE d.a refl) &  -- AUTOT
    row quiet (set refl) going &  -- GOTO
    row
    (prints (λ s w c d of k. omega (arith, message_most s.game w d.a, k.named s.game.messages)))
    still going &  -- MES
    row
    (prints (λ s w c d of k.
    omega (
      arith,
      message_most s.game w d.a,
      k.named s.game.messages,
      length-append (message_text s.game w d.a) (10 ∷ []),
    ))) still going &  -- MESSAGE
    row (prints (λ s w c d of k. omega (arith, put_most s.game w d.a, k.named s.game.system))) still going &  -- SYSMESS
    row (prints (λ s w c d of k. omega arith)) still going &  -- NEWLINE
    row (prints (λ s w c d of k. byte_digits (flag w d.a) (byte_at w.flags d.a of.flags))) still going &  -- PRINT
    on_object (λ d. get) (λ g d u o. get_said g) (says TAKEN_MESSAGE refl) &  -- GET
    on_object (λ d. drop) (λ g d u o. drop_said g) (says DROPPED_MESSAGE refl) &  -- DROP
    on_object (λ d. wear) (λ g d u o. wear_said g) (says PUT_ON_MESSAGE refl) &  -- WEAR
    on_object (λ d. remove) (λ g d u o. remove_said g) (says TAKEN_OFF_MESSAGE refl) &  -- REMOVE
    on_object (λ d. put_in d.b) (λ g d u o. drop_said g) (λ g d. named g PUT_IN_MESSAGE d.b refl) &  -- PUTIN
    on_object (λ d. take_out d.b) (λ g d u o. take_out_said g d.b) (says TAKEN_MESSAGE refl) &  -- TAKEOUT
    row quiet (moving _ _) going &  -- CREATE
    row quiet (moving _ _) going &  -- DESTROY
    row quiet
    (verb_left (λ n s w c is spares of k.
    inl (moved_has n (object_moved w c.a (place w c.b)) c.b (place w c.a)
    (moved_has n w c.a (place w c.b) k)))) going &  -- SWAP
    row quiet (moving _ _) going &  -- PLACE
    row quiet
    (verb_left (λ n s w c is spares of k.
    inl (one_has n (nat_lt (flag w REFERRED_FLAG) (length w.places))
    (object_moved w (flag w REFERRED_FLAG) (named_place w c.a)) w
    (moved_has n w (flag w REFERRED_FLAG) (named_place w c.a) k) k))) going &  -- PUTO
    row quiet (set_first refl) going &  -- SET
    row quiet (set_first refl) going &  -- CLEAR
    row quiet (set_first refl) going &  -- PLUS
    row quiet (set_first refl) going &  -- MINUS
    row quiet (set_first refl) going &  -- LET
    row quiet (set_second refl) going &  -- ADD
    row quiet (set_second refl) going &  -- SUB
    row quiet
    (verb_left (λ n s w c is spares of k.
    inl (other_has n (drawn_on w 1) c.a (percent_drawn w)
    (spares.first (writes_one writes_first RANDOM c refl is)) k))) going &  -- RANDOM
    row quiet (moving _ _) going &  -- COPYOO
    row quiet (set_second refl) going &  -- COPYOF
    row quiet
    (verb_left (λ n s w c is spares of k.
    inl (one_has n (names_place w (flag w c.a)) _ w
    (moved_has n w c.b (named_place w (flag w c.a)) k) k))) going &  -- COPYFO
    row quiet (set_second refl) going &  -- COPYFF
    row (prints (λ s w c d of k. here_list_most s.game w of.of)) still going &  -- LISTOBJ
    row
    (prints (λ s w c d of k. place_list_most s.game w NOTHING_THERE_MESSAGE (named_place w d.a) of.of))
    still going &  -- LISTAT
    row quiet (verb_left (λ n s w c is spares of k. inl (referred_found_has n w _ k))) going &  -- WHATO
    row quiet (set_second refl) going &  -- WEIGH
    row quiet (set_first refl) going &  -- WEIGHT
    row quiet (set_two refl refl) going &  -- ABILITY
    row quiet still (parsing refl) &  -- PARSE
    row quiet still calling &  -- PROCESS
    row quiet still looping &  -- DOALL
    row quiet (set refl) going &  -- PROMPT
    row quiet (set_two refl refl) going &  -- TIME
    row quiet still going &  -- NEWTEXT
    row quiet (verb_left (λ n s w c is spares of k. inr refl)) (describing refl) &  -- RESET
    row quiet
    (verb_left (λ n s w c is spares of k.
    inl (answered_has n w c.b (value_at s.answers c.a (flag w c.b))
    (spares.second (writes_one writes_second EXTERN c refl is)) k))) going &  -- EXTERN
    with_marks Facts marked tt)

pub facts : (code : ℕ) → Facts code (slice_index_or most_printed code silent) (meaning_of code)
facts = each_plain Facts each_action (λ code. row quiet still going)
