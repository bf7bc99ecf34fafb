-- What is true of each condact: how reading goes on after it, and what it leaves of a world.
use Rattle.std.proofs.Common.{◌≡◌, ◌≢◌, ℕ, suc, ◌+◌, ◌<◌, Bool, true, false, List, Option, refl, slice_get, length}
use Rattle.std.proofs.Common.{All, IsTrue, arith}
use Rattle.std.proofs.Math.Nat.{min-le_left}
use Rattle.paw_base.specs.Bytes.{RoutineAnswers, Seed, Text}
use Rattle.paw_base.specs.declared.codes.TheConstants.{QUIT, SAVE, PLACE, PUTO}
use Rattle.paw_base.specs.declared.flags.TheConstants.{VERB_FLAG, REFERRED_FLAG, LOCATION_FLAG}
use Rattle.paw_base.specs.declared.parts.Condact.{Condact}
use Rattle.paw_base.specs.declared.rows.ParamKind.TheVariants as kind
use Rattle.paw_base.specs.Condacts.{first_kind, second_kind}
use Rattle.paw_game.specs.Game.{GameLists}
use Rattle.paw_game.specs.Tables.{exit_at}
use Rattle.paw_game.specs.Valid.{Valid, is_condact, is_place}
use Rattle.paw_game.specs.inner.Valid.{is_right}
use Rattle.paw_game.proofs.Right.{right-first, right-second, right_condact}
use Rattle.paw_routines.specs.Answers.{value_at}
use Rattle.paw_world.specs.World.{World, Position, flag, with_flag, place, here, object_moved, drawn_on, kept_position}
use Rattle.paw_world.specs.World.{with_objects_returned}
use Rattle.paw_effects.specs.declared.act.Act.{Act}
use Rattle.paw_effects.specs.declared.act.Truth.TheVariants as truth
use Rattle.paw_effects.specs.declared.object_actions.Action.{Action}
use Rattle.paw_effects.specs.declared.object_actions.Action.TheVariants as action
use Rattle.paw_effects.specs.Story.{Story, story_of}
use Rattle.paw_effects.specs.Chance.{percent_drawn}
use Rattle.paw_effects.specs.Presence.{named_place, held_objects}
use Rattle.paw_effects.specs.Positions.{position_number}
use Rattle.paw_effects.specs.MoveActions.{names_place}
use Rattle.paw_effects.specs.ObjectSearch.{first_fitting}
use Rattle.paw_effects.specs.ObjectActions.{acted_on}
use Rattle.paw_effects.specs.AutoActions.{looks_at, acted_by_name}
use Rattle.paw_effects.specs.Standing.{AreBytes}
use Rattle.paw_effects.specs.Meanings.{Meaning, Tests, Acts, tests, doing, printing_action, changing, meanings}
use Rattle.paw_effects.specs.Meanings.{meaning_of}
use Rattle.paw_effects.specs.Indirect.{as_plain}
use Rattle.paw_effects.specs.Effects.{Done, makes, effect_of, plain_effect}
use Rattle.paw_effects.specs.Holds.{Tested, answers, holds, plain_holds}
use Rattle.paw_effects.proofs.Rows.{Each, ◌&◌, each_meaning}
use Rattle.paw_effects.proofs.Carried.{of_carried, carried_right}
use Rattle.paw_effects.proofs.Asking.{Leads, LeadsOn, AsksInner, truth_told, move_told, acted_leads, named_leads}
use Rattle.paw_effects.proofs.Asking.{loaded_leads}
use Rattle.paw_effects.proofs.Asking.{leads_by, asks_by, leads_inner, leads_as, same_code, quit_itself, save_itself}
use Rattle.paw_effects.proofs.Placed.{IsPlaced, PlacesBy, Goes, at_place, here_place, named_is_place, moved_placed}
use Rattle.paw_effects.proofs.Placed.{returned_placed, dropped, if_place}
use Rattle.paw_effects.proofs.Placed.{place_takes, puto_takes, first_follows, second_follows, not_created, swapped_placed}
use Rattle.paw_effects.proofs.Placed.{to_placed, autop_goes, putin_goes}
use Rattle.paw_effects.proofs.Placed.{acted_placed, found_placed, referred_found, loaded_placed, taken_placed}
use Rattle.paw_effects.proofs.Placed.{kept_stands, saved_placed}
use Rattle.paw_effects.proofs.Placed.{answered_placed, moves_placed, done_placed, tested_placed}
use Rattle.paw_effects.proofs.Worlds.{IsPlace, argument_small, world_of, flag_small, flagged, place_of, place_is_small}
use Rattle.paw_effects.proofs.Worlds.{here_place as here_so}
use Rattle.paw_effects.proofs.Worlds.{named, moved_so, weight_small, returned_so}
use Rattle.paw_effects.proofs.Changes.{Is, IsNext, SoBy, Puts, next, loaded_so, saved_so, drawn_so, kept_at, position_kept_so}
use Rattle.paw_effects.proofs.Changes.{back_so, rolled_small}
use Rattle.paw_effects.proofs.Changes.{flag_so, flags_so, carried_small, all_so, place_is, puto_is, autop_is, putin_is}
use Rattle.paw_effects.proofs.Changes.{not_created as not_created_so}
use Rattle.paw_effects.proofs.Changes.{names, to, if_so, acted_so, meant_so, first_small, value_small, answered_so}
use Rattle.paw_effects.proofs.Changes.{named_so, swapped_so, less_small}
use Rattle.paw_effects.proofs.Changes.{moves_so, done_so, tested_so}
use Rattle.paw_effects.proofs.Saving.{AreKept, LeavesKept, one_kept, moved_kept, dropped_kept, acted_kept, found_kept}
use Rattle.paw_effects.proofs.Saving.{referred_found as kept_found}
use Rattle.paw_effects.proofs.Saving.{ramloaded_kept, loaded_kept, answered_kept, moves_kept, done_kept, tested_kept}

-- What a meaning of this code leads to, and what it leaves.
record Facts (code : ℕ) (m : Meaning) : Type 0 where
  leads : LeadsOn code m
  places : PlacesBy code m
  stays : (g : GameLists) (v : Valid g) (seed : Seed) (n : ℕ) → SoBy g v seed n code m
  kept : (ks : List (Option Position)) → LeavesKept ks code m

-- ---- kinds of rows ----

-- A condition that changes nothing.
tested : (code : ℕ) (so : World → Condact → Bool) → Facts code (tests so)
tested code so = record {
  leads = λ g w c is h. absurd (truth_told _ h);
  places = λ g w c k. k;
  stays = λ g v seed n w c k. next g v seed n w k;
  kept = λ ks g w c k. k;
}

-- A condition that makes a draw.
chance : (code : ℕ) (so : World → Condact → Bool) → Facts code (Tests (λ g w c. answers (drawn_on w 1) (so w c)))
chance code so = record {
  leads = λ g w c is h. absurd (truth_told _ h);
  places = λ g w c k. k;
  stays = λ g v seed n w c k. drawn_so g v seed n w k;
  kept = λ ks g w c k. k;
}

-- An action that changes nothing.
still : (code : ℕ) (text : Story → World → Condact → Text) (act : Story → World → Condact → Act)
    → ((s : Story) (w : World) (c : Condact) → c.code ≡ code → Leads w c (act s w c).effect)
    → Facts code (Acts (λ s w c. record { text = text s w c; world = w; act = act s w c }))
still code text act leads = record {
  leads = leads;
  places = λ s w c is v r k. k;
  stays = λ g v seed n X w c is bytes k kept a b. next g v seed n w k;
  kept = λ ks s w c is o k. k;
}

-- An action that prints.
printed : (code : ℕ) (text : GameLists → World → Condact → Text) → Facts code (printing_action text)
printed code text = still code _ _ (λ s w c is. tt)

-- An action that gives a flag a byte.
set : (code : ℕ) (f x : World → Condact → ℕ)
    → ((g : GameLists) (v : Valid g) (seed : Seed) (n : ℕ) (w : World) (c : Condact) → Is g v seed n w → c.a < 256 → c.b < 256 → x w c < 256)
    → Facts code (changing (λ w c. with_flag w (f w c) (x w c)))
set code f x small = record {
  leads = λ s w c is. tt;
  places = λ s w c is v r k. k;
  stays = λ g v seed n X w c is bytes k kept a b. flag_so g v seed n w k (f w c) (x w c) (small g v seed n w c k a b);
  kept = λ ks s w c is o k. k;
}

-- An action that gives two flags its numbers.
set_two : (code f h : ℕ) → Facts code (changing (λ w c. with_flag (with_flag w f c.a) h c.b))
set_two code f h = record {
  leads = λ s w c is. tt;
  places = λ s w c is v r k. k;
  stays = λ g v seed n X w c is bytes k kept a b. flags_so g v seed n w k f c.a h c.b a b;
  kept = λ ks s w c is o k. k;
}

-- An action that moves an object to a place.
moving : (code : ℕ) (o p : World → Condact → ℕ)
    → ((g : GameLists) (w : World) (c : Condact) → c.code ≡ code → Valid g → IsTrue (is_right g c) → IsPlaced g w
    → is_place (length g.locations) (p w c) ≡ true)
    → ((g : GameLists) (v : Valid g) (seed : Seed) (n : ℕ) (w : World) (c : Condact) → c.code ≡ code → Is g v seed n w → is_right g c ≡ true
    → IsPlace g v seed (p w c))
    → Facts code (changing (λ w c. object_moved w (o w c) (p w c)))
moving code o p at stands = record {
  leads = λ s w c is. tt;
  places = λ s w c is v r k. moved_placed s.game w (o w c) (p w c) (at s.game w c is v r k) k;
  stays = λ g v seed n X w c is bytes k kept a b. to g v seed n w k (o w c) (p w c) (stands g v seed n w c is k kept);
  kept = λ ks s w c is o_is k. moved_kept ks w (o w c) (p w c) k;
}

-- An action on the object that it names.
on_object : (code : ℕ) (a : Condact → Action) → ((g : GameLists) (c : Condact) → c.code ≡ code → IsTrue (is_right g c) → Goes g (a c))
    → ((g : GameLists) (v : Valid g) (seed : Seed) (n : ℕ) (c : Condact) → c.code ≡ code → is_right g c ≡ true → Puts g v seed n (a c))
    → Facts code (doing (λ g w c. acted_on g w c.a (a c)))
on_object code a goes puts = record {
  leads = λ s w c is. acted_leads s.game w c c.a (a c);
  places = λ s w c is v r k. acted_placed s.game w c.a (a c) (goes s.game c is r) k;
  stays = λ g v seed n X w c is bytes k kept small b. next g v seed n _ (acted_so g v seed n w k c.a (a c) small (puts g v seed n c is kept));
  kept = λ ks s w c is o k. acted_kept ks s.game w c.a (a c) k;
}

-- An action on the object that the sentence names.
by_name : (code : ℕ) (a : Condact → Action) → ((g : GameLists) (c : Condact) → c.code ≡ code → IsTrue (is_right g c) → Goes g (a c))
    → ((g : GameLists) (v : Valid g) (seed : Seed) (n : ℕ) (c : Condact) → c.code ≡ code → is_right g c ≡ true → Puts g v seed n (a c))
    → Facts code (doing (λ g w c. acted_by_name g w (a c)))
by_name code a goes puts = record {
  leads = λ s w c is. named_leads s.game w c (a c);
  places = λ s w c is v r k. found_placed s.game w (a c) (first_fitting w (looks_at (a c))) (goes s.game c is r) k;
  stays = λ g v seed n X w c is bytes k kept small b. named_so g v seed n w k (a c) (puts g v seed n c is kept);
  kept = λ ks s w c is o k. found_kept ks s.game w (a c) (first_fitting w (looks_at (a c))) k;
}

-- ---- each row ----

each_row : Each Facts meanings
unfolding meanings
each_row =
    tested _ _ &  -- AT
    tested _ _ &  -- NOTAT
    tested _ _ &  -- ATGT
    tested _ _ &  -- ATLT
    tested _ _ &  -- PRESENT
    tested _ _ &  -- ABSENT
    tested _ _ &  -- WORN
    tested _ _ &  -- NOTWORN
    tested _ _ &  -- CARRIED
    tested _ _ &  -- NOTCARR
    chance _ _ &  -- CHANCE
    tested _ _ &  -- ZERO
    tested _ _ &  -- NOTZERO
    tested _ _ &  -- EQ
    tested _ _ &  -- NOTEQ
    tested _ _ &  -- GT
    tested _ _ &  -- LT
    tested _ _ &  -- SAME
    tested _ _ &  -- NOTSAME
    tested _ _ &  -- ADJECT1
    tested _ _ &  -- ADVERB
    tested _ _ &  -- PREP
    tested _ _ &  -- NOUN2
    tested _ _ &  -- ADJECT2
    tested _ _ &  -- ISAT
    tested _ _ &  -- ISNOTAT
    tested _ _ &  -- TIMEOUT
    (record {
      leads = λ g w c is h. is;
      places = λ g w c k. k;
      stays = λ g v seed n w c k. next g v seed n w k;
      kept = λ ks g w c k. k;
    }) &  -- QUIT
    (record {
      leads = λ g w c is h. absurd (move_told w c.a _ h);
      places = λ g w c k. moves_placed g w c.a _ k;
      stays = λ g v seed n w c k. next g v seed n _ (moves_so g v seed n w k c.a (exit_at g (flag w c.a) (flag w VERB_FLAG)) refl);
      kept = λ ks g w c k. moves_kept ks w c.a _ k;
    }) &  -- MOVE
    printed _ _ &  -- INVEN
    still _ _ _ (λ s w c is. tt) &  -- DESC
    still _ _ _ (λ s w c is. is) &  -- END
    still _ _ _ (λ s w c is. tt) &  -- DONE
    still _ _ _ (λ s w c is. tt) &  -- NOTDONE
    still _ _ _ (λ s w c is. tt) &  -- OK
    still _ _ _ (λ s w c is. is) &  -- ANYKEY
    (record {
      leads = λ s w c is. tt;
      places = λ s w c is v r k. saved_placed s.game w k;
      stays = λ g v seed n X w c is bytes k kept a b. next g v seed n _ (position_kept_so g v seed n w k (position_number w));
      kept = λ ks s w c is o k. absurd (o refl);
    }) &  -- SAVE
    (record {
      leads = λ s w c is. loaded_leads s.game w c (kept_position w (position_number w));
      places = λ s w c is v r k. taken_placed s.game w (kept_position w (position_number w)) (kept_stands s.game w (position_number w) k) k;
      stays = λ g v seed n X w c is bytes k kept a b.
          next g v seed n _ (back_so g v seed n w k (kept_position w (position_number w)) (kept_at g v seed n w k (position_number w)));
      kept = λ ks s w c is o k. loaded_kept ks s.game w (kept_position w (position_number w)) k;
    }) &  -- LOAD
    (record {
      leads = λ s w c is. tt;
      places = λ s w c is v r k. (k.0, (k.1.0, (k.1.1.0, (k.1.1.0, k.1.1.1.1))));
      stays = λ g v seed n X w c is bytes k kept a b. next g v seed n _ (saved_so g v seed n w k);
      kept = λ ks s w c is o k. k;
    }) &  -- RAMSAVE
    (record {
      leads = λ s w c is. tt;
      places = λ s w c is v r k. loaded_placed s.game w c.a w.saved refl k;
      stays = λ g v seed n X w c is bytes k kept a b. next g v seed n _ (loaded_so g v seed n w c.a w.saved k.saved k);
      kept = λ ks s w c is o k. ramloaded_kept ks w c.a w.saved k;
    }) &  -- RAMLOAD
    printed _ _ &  -- TURNS
    printed _ _ &  -- SCORE
    (record {
      leads = λ s w c is. tt;
      places = λ s w c is v r k. dropped s.game (here w) (held_objects w) w (here_place s.game w k.1.0) k;
      stays = λ g v seed n X w c is bytes k kept a b. next g v seed n _ (all_so g v seed n (here w) (here_so g v seed n w k) (held_objects w) w k);
      kept = λ ks s w c is o k. dropped_kept ks (here w) (held_objects w) w k;
    }) &  -- DROPALL
    by_name _ (λ c. action.Get) (λ g c is r. record { to = tt {0} }) (λ g v seed n c is kept. record { at = tt {0} }) &  -- AUTOG
    by_name _ (λ c. action.Drop) (λ g c is r. record { to = tt {0} }) (λ g v seed n c is kept. record { at = tt {0} }) &  -- AUTOD
    by_name _ (λ c. action.Wear) (λ g c is r. record { to = tt {0} }) (λ g v seed n c is kept. record { at = tt {0} }) &  -- AUTOW
    by_name _ (λ c. action.Remove) (λ g c is r. record { to = tt {0} }) (λ g v seed n c is kept. record { at = tt {0} }) &  -- AUTOR
    by_name _ (λ c. action.PutIn c.a) autop_goes (λ g v seed n c is kept. record { at = autop_is g v seed n c is kept }) &  -- AUTOP
    by_name _ (λ c. action.TakeOut c.a) (λ g c is r. record { to = tt {0} }) (λ g v seed n c is kept. record { at = tt {0} }) &  -- AUTOT
    set _ _ _ (λ g v seed n w c k a b. a) &  -- GOTO
    printed _ _ &  -- MES
    printed _ _ &  -- MESSAGE
    printed _ _ &  -- SYSMESS
    printed _ _ &  -- NEWLINE
    printed _ _ &  -- PRINT
    on_object _ (λ c. action.Get) (λ g c is r. record { to = tt {0} }) (λ g v seed n c is kept. record { at = tt {0} }) &  -- GET
    on_object _ (λ c. action.Drop) (λ g c is r. record { to = tt {0} }) (λ g v seed n c is kept. record { at = tt {0} }) &  -- DROP
    on_object _ (λ c. action.Wear) (λ g c is r. record { to = tt {0} }) (λ g v seed n c is kept. record { at = tt {0} }) &  -- WEAR
    on_object _ (λ c. action.Remove) (λ g c is r. record { to = tt {0} }) (λ g v seed n c is kept. record { at = tt {0} }) &  -- REMOVE
    on_object _ (λ c. action.PutIn c.b) putin_goes (λ g v seed n c is kept. record { at = putin_is g v seed n c is kept }) &  -- PUTIN
    on_object _ (λ c. action.TakeOut c.b) (λ g c is r. record { to = tt {0} }) (λ g v seed n c is kept. record { at = tt {0} }) &  -- TAKEOUT
    moving _ _ _ (λ g w c is v r k. here_place g w k.1.0)
    (λ g v seed n w c is k kept. here_so g v seed n w k) &  -- CREATE
    moving _ _ _ (λ g w c is v r k. not_created g)
    (λ g v seed n w c is k kept. not_created_so g v seed n) &  -- DESTROY
    (record {
      leads = λ s w c is. tt;
      places = λ s w c is v r k. swapped_placed s.game v w c.a c.b k;
      stays = λ g v seed n X w c is bytes k kept a b. swapped_so g v seed n w k c.a c.b;
      kept = λ ks s w c is o k. moved_kept ks (object_moved w c.a (place w c.b)) c.b (place w c.a) (moved_kept ks w c.a (place w c.b) k);
    }) &  -- SWAP
    moving _ _ _ (λ g w c is v r k. named_is_place g w c.b k.1.0 (second_follows g c PLACE kind.Place place_takes is r))
    (λ g v seed n w c is k kept. named g v seed n w k c.b (place_is g v seed n c is kept)) &  -- PLACE
    (record {
      leads = λ s w c is. tt;
      places = λ s w c is v r k. to_placed s.game w _ (named_is_place s.game w c.a k.1.0 (first_follows s.game c PUTO kind.Place puto_takes is r)) k;
      stays = λ g v seed n X w c is bytes k kept a b. next g v seed n _
          (world_of g v seed n _ _ w (moved_so g v seed n w k (flag w REFERRED_FLAG) _ (named g v seed n w k c.a (puto_is g v seed n c is kept))) k);
      kept = λ ks s w c is o k. one_kept ks _ _ w (moved_kept ks w (flag w REFERRED_FLAG) (named_place w c.a) k) k;
    }) &  -- PUTO
    set _ _ _ (λ g v seed n w c k a b. omega arith) &  -- SET
    set _ _ _ (λ g v seed n w c k a b. omega arith) &  -- CLEAR
    set _ _ _ (λ g v seed n w c k a b. omega (arith, min-le_left 255 (flag w c.a + c.b))) &  -- PLUS
    set _ _ _ (λ g v seed n w c k a b. less_small g v seed n w k c.a c.b) &  -- MINUS
    set _ _ _ (λ g v seed n w c k a b. b) &  -- LET
    set _ _ _ (λ g v seed n w c k a b. omega (arith, min-le_left 255 (flag w c.b + flag w c.a))) &  -- ADD
    set _ _ _ (λ g v seed n w c k a b. less_small g v seed n w k c.b (flag w c.a)) &  -- SUB
    (record {
      leads = λ s w c is. tt;
      places = λ s w c is v r k. k;
      stays = λ g v seed n X w c is bytes k kept a b.
          flagged g v seed (suc n) (drawn_on w 1) (drawn_so g v seed n w k) c.a (percent_drawn w) (rolled_small g v seed n w);
      kept = λ ks s w c is o k. k;
    }) &  -- RANDOM
    moving _ _ _ (λ g w c is v r k. at_place g v w.places c.a k.1.1.0)
    (λ g v seed n w c is k kept. place_of g v seed n w k c.a) &  -- COPYOO
    set _ _ _ (λ g v seed n w c k a b. place_is_small g v seed n w k c.a) &  -- COPYOF
    (record {
      leads = λ s w c is. tt;
      places = λ s w c is v r k. if_place s.game w c.b (flag w c.a) k;
      stays = λ g v seed n X w c is bytes k kept a b. if_so g v seed n (names_place w (flag w c.a)) _ w
          (λ own. to g v seed n w k c.b _ (names g v seed n w k (flag w c.a) own)) (next g v seed n w k);
      kept = λ ks s w c is o k. one_kept ks (names_place w (flag w c.a)) _ w (moved_kept ks w c.b (named_place w (flag w c.a)) k) k;
    }) &  -- COPYFO
    set _ _ _ (λ g v seed n w c k a b. flag_small g v seed n w k c.a) &  -- COPYFF
    printed _ _ &  -- LISTOBJ
    printed _ _ &  -- LISTAT
    (record {
      leads = λ s w c is. tt;
      places = λ s w c is v r k. referred_found s.game w _ k;
      stays = λ g v seed n X w c is bytes k kept a b. next g v seed n _
          (meant_so g v seed n w k (first_fitting w (looks_at action.Drop)) (first_small g v seed n w k (looks_at action.Drop)));
      kept = λ ks s w c is o k. kept_found ks w _ k;
    }) &  -- WHATO
    set _ _ _ (λ g v seed n w c k a b. weight_small g v seed n w k c.a) &  -- WEIGH
    set _ _ _ (λ g v seed n w c k a b. carried_small g v seed n w) &  -- WEIGHT
    set_two _ _ _ &  -- ABILITY
    still _ _ _ (λ s w c is. tt) &  -- PARSE
    still _ _ _ (λ s w c is. (is, refl)) &  -- PROCESS
    still _ _ _ (λ s w c is. (is, refl)) &  -- DOALL
    set _ _ _ (λ g v seed n w c k a b. a) &  -- PROMPT
    set_two _ _ _ &  -- TIME
    still _ _ _ (λ s w c is. tt) &  -- NEWTEXT
    (record {
      leads = λ s w c is. tt;
      places = λ s w c is v r k. returned_placed s.game w v k;
      stays = λ g v seed n X w c is bytes k kept a b.
          next g v seed n _ (flagged g v seed n (with_objects_returned w) (returned_so g v seed n w k) LOCATION_FLAG c.a a);
      kept = λ ks s w c is o k. k;
    }) &  -- RESET
    (record {
      leads = λ s w c is. tt;
      places = λ s w c is v r k. answered_placed s.game w c.b (value_at s.answers c.a (flag w c.b)) k;
      stays = λ g v seed n X w c is bytes k kept a b. next g v seed n _
          (answered_so g v seed n w k c.b (value_at X c.a (flag w c.b))
          (λ y at. value_small g v seed n X bytes c.a (flag w c.b) y (slice_get X c.a) refl at));
      kept = λ ks s w c is o k. answered_kept ks w c.b (value_at s.answers c.a (flag w c.b)) k;
    }) &  -- EXTERN
    printed _ _ &  -- PICTURE
    printed _ _ &  -- GRAPHIC
    printed _ _ &  -- BEEP
    printed _ _ &  -- CLS
    printed _ _ &  -- PAPER
    printed _ _ &  -- INK
    printed _ _ &  -- BORDER
    printed _ _ &  -- CHARSET
    printed _ _ &  -- PROTECT
    printed _ _ &  -- SAVEAT
    printed _ _ &  -- BACKAT
    printed _ _ &  -- PRINTAT
    printed _ _ &  -- PAUSE
    printed _ _ &  -- MODE
    printed _ _ &  -- LINE
    printed _ _ &  -- INPUT
    tt

facts : (code : ℕ) → Facts code (meaning_of code)
facts = each_meaning Facts each_row (λ code. still code _ _ (λ s w c is. tt))

-- ---- each plain condact ----

module _ (w : World) (c : Condact) where
  plain_leads : (s : Story) → Leads w c (plain_effect s w c).act.effect
  unfolding plain_effect
  plain_leads s = leads_by (meaning_of c.code) s w c (facts c.code).leads

  plain_asks : (g : GameLists) → (plain_holds g w c).answer ≡ truth.Ask → c.code ≡ QUIT
  unfolding plain_holds
  plain_asks g = asks_by (meaning_of c.code) g w c (facts c.code).leads

  plain_placed : (s : Story) → Valid s.game → is_right s.game c ≡ true → IsPlaced s.game w → IsPlaced s.game (plain_effect s w c).world
  unfolding plain_effect
  plain_placed s = done_placed (meaning_of c.code) s w c (facts c.code).places

  plain_test_placed : (g : GameLists) → IsPlaced g w → IsPlaced g (plain_holds g w c).world
  unfolding plain_holds
  plain_test_placed g = tested_placed (meaning_of c.code) g w c (facts c.code).places

  plain_kept : (ks : List (Option Position)) (s : Story) → c.code ≢ SAVE → AreKept ks w → AreKept ks (plain_effect s w c).world
  unfolding plain_effect
  plain_kept ks s = done_kept ks (meaning_of c.code) s w c ((facts c.code).kept ks)

  plain_test_kept : (ks : List (Option Position)) (g : GameLists) → AreKept ks w → AreKept ks (plain_holds g w c).world
  unfolding plain_holds
  plain_test_kept ks g = tested_kept ks (meaning_of c.code) g w c ((facts c.code).kept ks)

  module _ (g : GameLists) (v : Valid g) (seed : Seed) (n : ℕ) (k : Is g v seed n w) where
    plain_so : (X : RoutineAnswers) → All AreBytes X → is_right g c ≡ true → IsNext g v seed n (plain_effect (story_of g X) w c).world
    unfolding plain_effect
    plain_so X bytes kept =
        done_so g v seed n (meaning_of c.code) X w c ((facts c.code).stays g v seed n) bytes k kept
        (argument_small g v (first_kind c.code) c.a (right-first g c kept))
        (argument_small g v (second_kind c.code) c.b (right-second g c kept))

    plain_test_so : IsNext g v seed n (plain_holds g w c).world
    unfolding plain_holds
    plain_test_so = tested_so g v seed n (meaning_of c.code) w c ((facts c.code).stays g v seed n) k

-- ---- each condact ----

pub effect_leads : (s : Story) (w : World) (c : Condact) → Leads w c (effect_of s w c).act.effect
unfolding effect_of
effect_leads s w c =
    of_carried (λ (d : Done). Leads w c d.act.effect) (plain_effect s w) (as_plain s.game w c) (makes w)
    (λ d is. leads_as s.game w c d is (plain_effect s w d).act.effect (plain_leads w d s)) tt

-- An action asks only at prompts in tables.
pub effect_asks : (s : Story) (w : World) (c : Condact) → AsksInner (effect_of s w c).act.effect
effect_asks s w c = leads_inner w c (effect_of s w c).act.effect (effect_leads s w c)

-- Of the conditions only QUIT asks.
pub condition_asks : (g : GameLists) (w : World) (c : Condact) → (holds g w c).answer ≡ truth.Ask → c.code ≡ QUIT
unfolding holds
condition_asks g w c =
    of_carried (λ (t : Tested). t.answer ≡ truth.Ask → c.code ≡ QUIT) (plain_holds g w) (as_plain g w c) (answers w false)
    (λ d is asks. same_code g w c d is QUIT quit_itself (plain_asks w d g asks)) (λ asks. absurd (truth_told false asks))

-- Objects stand at places of the game.
pub effect_placed : (s : Story) (w : World) (c : Condact) → Valid s.game → IsTrue (is_right s.game c) → IsPlaced s.game w
    → IsPlaced s.game (effect_of s w c).world
unfolding effect_of
effect_placed s w c v right k =
    of_carried (λ (d : Done). IsPlaced s.game d.world) (plain_effect s w) (as_plain s.game w c) (makes w)
    (λ d is. plain_placed w d s v (carried_right s.game w c d is right) k) k

pub condition_placed : (g : GameLists) (w : World) (c : Condact) → IsPlaced g w → IsPlaced g (holds g w c).world
unfolding holds
condition_placed g w c k =
    of_carried (λ (t : Tested). IsPlaced g t.world) (plain_holds g w) (as_plain g w c) (answers w false)
    (λ d is. plain_test_placed w d g k) k

-- The positions that are kept stay as they are.
pub effect_kept : (ks : List (Option Position)) (s : Story) (w : World) (c : Condact) → c.code ≢ SAVE → AreKept ks w
    → AreKept ks (effect_of s w c).world
unfolding effect_of
effect_kept ks s w c other k =
    of_carried (λ (d : Done). AreKept ks d.world) (plain_effect s w) (as_plain s.game w c) (makes w)
    (λ d is. plain_kept w d ks s (λ saves. other (same_code s.game w c d is SAVE save_itself saves)) k) k

pub condition_kept : (ks : List (Option Position)) (g : GameLists) (w : World) (c : Condact) → AreKept ks w → AreKept ks (holds g w c).world
unfolding holds
condition_kept ks g w c k =
    of_carried (λ (t : Tested). AreKept ks t.world) (plain_holds g w) (as_plain g w c) (answers w false)
    (λ d is. plain_test_kept w d ks g k) k

-- The world stays one of the game that is played.
module _ (g : GameLists) (v : Valid g) (seed : Seed) (n : ℕ) where
  pub effect_so : (X : RoutineAnswers) (w : World) (c : Condact) → All AreBytes X → Is g v seed n w → is_condact g c ≡ true
      → IsNext g v seed n (effect_of (story_of g X) w c).world
  unfolding effect_of
  effect_so X w c bytes k kept =
      of_carried (λ (d : Done). IsNext g v seed n d.world) (plain_effect (story_of g X) w) (as_plain g w c) (makes w)
      (λ d is. plain_so w d g v seed n k X bytes (carried_right g w c d is (right_condact g c v kept))) (next g v seed n w k)

  pub condition_so : (w : World) (c : Condact) → Is g v seed n w → IsNext g v seed n (holds g w c).world
  unfolding holds
  condition_so w c k =
      of_carried (λ (t : Tested). IsNext g v seed n t.world) (plain_holds g w) (as_plain g w c) (answers w false)
      (λ d is. plain_test_so w d g v seed n k) (next g v seed n w k)
