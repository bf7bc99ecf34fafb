-- What takes the rules of a state one by one: the first fault of its fields, and the state that fields without a fault
-- say.
use Rattle.std.proofs.Common.{◌≡◌, ℕ, ◌+◌, ◌*◌, ◌<◌, ◌≤◌, ◌∷◌, length, take, drop, refl, ap, arith, suc, ◌-◌}
use Rattle.std.proofs.Common.{Bool, true, Option, None, sym, ◌∙◌, ◌==◌, ◌||◌, false, not, is_some, nat_le, map, get_or}
use Rattle.std.proofs.Common.{[], subst}
use Rattle.std.proofs.lemmas.Bool.{leb-true, le-leb}
use Rattle.std.proofs.lemmas.List.{length-take, length-map}
use Rattle.std.proofs.lemmas.List.Elements.{All-map, All-take}
use Rattle.std.specs.Option.{unwrap_or, option_or}
use Rattle.std.specs.Prelude.{nat_le, is_some, if◌then◌else◌, IfNone, slice_index, slice_range}
use Rattle.paw_base.specs.Bytes.{Bytes}
use Rattle.paw_base.specs.declared.layout.TheConstants.{STATE_LENGTH}
use Rattle.paw_base.specs.declared.limits.TheConstants.{EVENT_LIMIT, READ_LIMIT, LINE_LIMIT, OBJECT_LIMIT, FLAG_COUNT}
use Rattle.paw_base.specs.declared.limits.TheConstants.{POSITION_COUNT}
use Rattle.paw_effects.specs.Worlds.{IsOf}
use Rattle.paw_effects.specs.declared.act.Prompt.{Prompt}
use Rattle.paw_game.proofs.Counts.{few_objects}
use Rattle.paw_game.specs.Game.{GameLists}
use Rattle.paw_game.specs.Valid.{is_place, Valid}
use Rattle.paw_game.specs.declared.parts.ObjectRow.{ObjectRow}
use Rattle.paw_process.specs.Kept.{count_fits, waiting_code}
use Rattle.paw_process.specs.declared.machine.TheConstants.{MOST_FRAMES}
use Rattle.paw_process.specs.declared.kept.Frames.{Frames}
use Rattle.paw_process.specs.inner.Kept.{fault_at}
use Rattle.paw_state.proofs.Back.{kept_back, same_world, kept_again, objects_stand, turning_again, prompt_again}
use Rattle.paw_state.proofs.Back.{places_back, code_back, same_frames, held_back, line_length, same_pending, held_again}
use Rattle.paw_state.proofs.EachField.{from_places, from_prompt, HasLengths, sized_at, from_numbers, from_pending}
use Rattle.paw_state.proofs.EachField.{same_fields, from_saved, listed, from_piece, from_looping, from_tables}
use Rattle.paw_state.proofs.Firsts.{nothing_left, or_none, free, frames_faults, held_faults, step, first_holds}
use Rattle.paw_state.proofs.Firsts.{places_same, kept_faults, line_same, all_hold}
use Rattle.paw_state.proofs.Found.{take_filled, all_so, drop_filled, two, filled_take, none_in_zeros, length-filled}
use Rattle.paw_state.proofs.Found.{no_first, two_none, none_first}
use Rattle.paw_state.proofs.Following.{objects_length, kept_right, no_machine_fault, machine_sound, line_right, saved_sized}
use Rattle.paw_state.proofs.Following.{places_sound, kept_sound, kept_from, saved_from, line_sound, code_low, held_sound}
use Rattle.paw_state.proofs.Following.{places_from, held_right}
use Rattle.paw_state.proofs.Listed.{each_bytes, pending_same, frames_same, looping_same, held_same}
use Rattle.paw_state.proofs.Loops.{turning_rest, loop_counted, looping_low, presence_back, loop_sound, turning_back}
use Rattle.paw_state.proofs.Loops.{loop_found}
use Rattle.paw_state.proofs.Pieces.{each_byte, range_bytes}
use Rattle.paw_state.proofs.Positions.{held_size_for, IsHeldOf, kept_held, held_placed, saved_held}
use Rattle.paw_state.proofs.Frames.{frame_fields_back, frames_back, frame_fields_sound, frames_sound}
use Rattle.paw_state.proofs.Written.{length-frames}
use Rattle.paw_state.proofs.Shaped.{length-held}
use Rattle.paw_state.proofs.Sizes.{helds_at_fit, held_at_fits, held_size, kept_size, entries_fit, loop_fits}
use Rattle.paw_state.specs.Fields.{IsSizedPosition, AreSized, position_fields, flag_fields, place_fields, number_fields}
use Rattle.paw_state.specs.Fields.{prompt_fields, table_fields, looping_fields, pending_fields, inside, fault_from}
use Rattle.paw_state.specs.Fields.{prompt_of}
use Rattle.paw_state.specs.State.{AreBytes, State, fields_of, filled_with_zeros, position_field_of, frame_field_of, IsValidState, FitsFields}
use Rattle.paw_state.specs.declared.fields.Fields.{Fields}
use Rattle.paw_state.specs.declared.fields.TheConstants.{POSITION_LENGTH, PENDING, PLACES, SAVED, SEED, PROMPT, FRAMES}
use Rattle.paw_state.specs.declared.fields.TheConstants.{LOOPING, EARLIER, PIECE, KEPT, DRAWS, EVENTS, COUNT, LINE}
use Rattle.paw_state.specs.declared.fields.TheConstants.{FLAGS, FRAME_LENGTH}
use Rattle.paw_state.specs.inner.Faults.{first, first_not, is_zero, places_fault, position_fault, kept_fault}
use Rattle.paw_state.specs.inner.Faults.{frame_fields_fault, fields_fault}
use Rattle.paw_state.specs.inner.Fields.{parts_fault}
use Rattle.paw_state.specs.inner.Fields.{fields_at}
use Rattle.paw_state.specs.inner.Parts.{position_in, world_in, frames_in, frame_in}
use Rattle.paw_state.specs.inner.State.{state_in}
use Rattle.paw_state.specs.inner.State.{FollowsEachRule}
use Rattle.paw_world.specs.World.{Position, IsSavedFor, IsWorld}
use Rattle.std.proofs.Common.{reverse}
use Rattle.paw_reading.specs.declared.frames.OpenLoop.{OpenLoop}
use Rattle.paw_process.specs.Kept.{frames_at}
use Rattle.paw_state.specs.State.{last_piece}
use Rattle.paw_state.specs.inner.State.{state_with}
use Rattle.paw_state.specs.inner.State.{StateOfParts}

-- ---- from each part on ----

piece_faults : (g : GameLists) (f : Fields) → HasLengths f → fault_from g PIECE (from_piece f) ≡ kept_fault g KEPT f.kept
unfolding fault_from
piece_faults g f s = kept_faults g KEPT f.kept s.kept

pending_faults : (g : GameLists) (f : Fields) → HasLengths f
    → fault_from g EARLIER (from_pending f) ≡ option_or (fault_from g EARLIER (pending_fields f)) (kept_fault g KEPT f.kept)
pending_faults g f s =
    step g EARLIER (suc (suc LINE_LIMIT)) (pending_fields f) (from_piece f) (fault_from g EARLIER (pending_fields f)) (kept_fault g KEPT f.kept) refl
    (ap length (pending_same f) ∙ ap (λ (n : ℕ). suc (suc n)) s.line) (piece_faults g f s)

-- ---- all fields ----

pub faults_same : (g : GameLists) (f : Fields) → HasLengths f → fields_fault g f ≡ parts_fault g f
faults_same g f s =
    let kept = kept_fault g KEPT f.kept in
    let places = places_fault g PLACES f.places in
    let saved = position_fault g SAVED f.saved in
    let numbers = fault_from g SEED (number_fields f) in
    let prompts = fault_from g PROMPT (prompt_fields f) in
    let tables = frame_fields_fault g (unwrap_or (inside f) 0) None f.count FRAMES f.rows in
    let looping = fault_from g LOOPING (looping_fields f) in
    let pending = fault_from g EARLIER (pending_fields f) in
    let from_loop = step g LOOPING 8 (looping_fields f) (from_pending f) looping (option_or pending kept) refl (ap length (looping_same f))
    (pending_faults g f s) in
    let from_rows = step g FRAMES (MOST_FRAMES * FRAME_LENGTH) (table_fields f) (from_looping f) tables (option_or looping (option_or pending kept))
    (frames_faults g (unwrap_or (inside f) 0) (λ g. None) f.count FRAMES f.rows)
    (ap length (frames_same (unwrap_or (inside f) 0) (λ g. None) f.count f.rows) ∙ (length-frames f.rows ∙ ap (λ n. FRAME_LENGTH * n) s.rows)) from_loop in
    let from_code = step g PROMPT 2 (prompt_fields f) (from_tables f) prompts (option_or tables (option_or looping (option_or pending kept)))
    refl refl from_rows in
    let from_seed = step g SEED 24 (number_fields f) (from_prompt f) numbers
    (option_or prompts (option_or tables (option_or looping (option_or pending kept)))) refl refl from_code in
    let later = option_or numbers (option_or prompts (option_or tables (option_or looping (option_or pending kept)))) in
    let from_held = step g SAVED POSITION_LENGTH (position_fields f.saved) (from_numbers f) saved later (held_faults g SAVED f.saved s.saved)
    (ap length (held_same f.saved) ∙ length-held f.saved s.saved) from_seed in
    let all = step g PLACES OBJECT_LIMIT (place_fields f.places) (from_saved f) places (option_or saved later) (places_same g PLACES f.places)
    (ap length (each_bytes _ 0 f.places) ∙ s.places) from_held in
    ap (fault_from g 0) (listed f)
    ∙ (step g FLAGS FLAG_COUNT (flag_fields f.flags) (from_places f) None (option_or places (option_or saved later))
    (free g FLAGS 0 f.flags) (ap length (each_bytes _ 0 f.flags) ∙ s.flags) all
    ∙ ap (λ (o : Option ℕ). option_or places (option_or saved (option_or numbers (option_or prompts (option_or tables
    (option_or looping (option_or pending o))))))) (sym (or_none kept)))

-- ---- each rule ----

-- Each part follows its rules.
pub record AreSound (g : GameLists) (f : Fields) : Type 0 where
  pub places : places_fault g PLACES f.places ≡ None
  pub saved : position_fault g SAVED f.saved ≡ None
  pub events : nat_le f.events EVENT_LIMIT ≡ true
  pub draws : nat_le f.draws (READ_LIMIT * (f.events + 1)) ≡ true
  pub prompt : nat_le f.prompt 4 ≡ true
  pub count : count_fits (inside f) f.count ≡ true
  pub frames : frame_fields_fault g (unwrap_or (inside f) 0) None f.count FRAMES f.rows ≡ None
  pub looping : nat_le f.looping (if f.count == 0 then 0 else 1) ≡ true
  pub turning : turning_rest g f ≡ None
  pub pending : (is_some (inside f) || (f.pending == 0)) ≡ true
  pub line : first_not is_zero (LINE + f.pending) (drop f.pending f.line) ≡ None
  pub kept : kept_fault g KEPT f.kept ≡ None

pub eight : (a b c d e f g h : Option ℕ) → first (a ∷ b ∷ c ∷ d ∷ e ∷ f ∷ g ∷ h ∷ []) ≡ None
    → (a ≡ None) × (b ≡ None) × (c ≡ None) × (d ≡ None) × (e ≡ None) × (f ≡ None) × (g ≡ None) × (h ≡ None)
eight a b c d e f g h q =
    let p0 = no_first a (first (b ∷ c ∷ d ∷ e ∷ f ∷ g ∷ h ∷ [])) q in
    let p1 = no_first b (first (c ∷ d ∷ e ∷ f ∷ g ∷ h ∷ [])) p0.1 in
    let p2 = no_first c (first (d ∷ e ∷ f ∷ g ∷ h ∷ [])) p1.1 in
    let p3 = no_first d (first (e ∷ f ∷ g ∷ h ∷ [])) p2.1 in
    let p4 = no_first e (first (f ∷ g ∷ h ∷ [])) p3.1 in
    let p5 = no_first f (first (g ∷ h ∷ [])) p4.1 in
    let p6 = two g h p5.1 in
    (p0.0, p1.0, p2.0, p3.0, p4.0, p5.0, p6.0, p6.1)

eight_none : (a b c d e f g h : Option ℕ) → a ≡ None → b ≡ None → c ≡ None → d ≡ None → e ≡ None → f ≡ None → g ≡ None → h ≡ None
    → first (a ∷ b ∷ c ∷ d ∷ e ∷ f ∷ g ∷ h ∷ []) ≡ None
eight_none a b c d e f g h ka kb kc kd ke kf kg kh =
    none_first a (first (b ∷ c ∷ d ∷ e ∷ f ∷ g ∷ h ∷ [])) ka
    (none_first b (first (c ∷ d ∷ e ∷ f ∷ g ∷ h ∷ [])) kb
    (none_first c (first (d ∷ e ∷ f ∷ g ∷ h ∷ [])) kc
    (none_first d (first (e ∷ f ∷ g ∷ h ∷ [])) kd
    (none_first e (first (f ∷ g ∷ h ∷ [])) ke
    (none_first f (first (g ∷ h ∷ [])) kf (two_none g h kg kh))))))

draws_hold : (few drawn : Bool) → (not few || drawn) ≡ true → few ≡ true → drawn ≡ true
draws_hold true drawn h k = h
draws_hold false drawn h k = cc

draws_said : (few drawn : Bool) → drawn ≡ true → (not few || drawn) ≡ true
draws_said true drawn h = h
draws_said false drawn h = refl

pub sound_of : (g : GameLists) (f : Fields) → parts_fault g f ≡ None → AreSound g f
sound_of g f h =
    let few = nat_le f.events EVENT_LIMIT in
    let drawn = nat_le f.draws (READ_LIMIT * (f.events + 1)) in
    let p =
    eight (places_fault g PLACES f.places) (position_fault g SAVED f.saved) (fault_from g SEED (number_fields f)) (fault_from g PROMPT (prompt_fields f))
    (frame_fields_fault g (unwrap_or (inside f) 0) None f.count FRAMES f.rows) (fault_from g LOOPING (looping_fields f))
    (fault_from g EARLIER (pending_fields f)) (kept_fault g KEPT f.kept) h in
    let n = first_holds g DRAWS _ _ (first_holds g SEED _ _ p.2).1 in
    let m = first_holds g EVENTS _ _ n.1 in
    let q = first_holds g PROMPT _ _ p.3 in
    let c = first_holds g COUNT _ _ q.1 in
    let t = first_holds g LOOPING _ _ p.5 in
    let l = first_holds g PENDING _ _ (first_holds g EARLIER _ _ p.6).1 in
    record {
      places = p.0;
      saved = p.1;
      events = m.0;
      draws = draws_hold few drawn n.0 m.0;
      prompt = q.0;
      count = c.0;
      frames = p.4;
      looping = t.0;
      turning = t.1;
      pending = l.0;
      line = sym (line_same g LINE f) ∙ l.1;
      kept = p.7;
    }

pub none_of : (g : GameLists) (f : Fields) → AreSound g f → parts_fault g f ≡ None
none_of g f s =
    let few = nat_le f.events EVENT_LIMIT in
    let drawn = nat_le f.draws (READ_LIMIT * (f.events + 1)) in
    let numbers : fault_from g SEED (number_fields f) ≡ None =
    all_hold g SEED _ _ refl (all_hold g DRAWS _ _ (draws_said few drawn s.draws) (all_hold g EVENTS _ _ s.events (nothing_left g PROMPT))) in
    let prompts : fault_from g PROMPT (prompt_fields f) ≡ None =
    all_hold g PROMPT _ _ s.prompt (all_hold g COUNT _ _ s.count (nothing_left g FRAMES)) in
    let looping : fault_from g LOOPING (looping_fields f) ≡ None =
    all_hold g LOOPING _ _ s.looping s.turning in
    let pending : fault_from g EARLIER (pending_fields f) ≡ None =
    all_hold g EARLIER _ _ refl (all_hold g PENDING _ _ s.pending (line_same g LINE f ∙ s.line)) in
    eight_none (places_fault g PLACES f.places) (position_fault g SAVED f.saved) (fault_from g SEED (number_fields f)) (fault_from g PROMPT (prompt_fields f))
    (frame_fields_fault g (unwrap_or (inside f) 0) None f.count FRAMES f.rows) (fault_from g LOOPING (looping_fields f))
    (fault_from g EARLIER (pending_fields f)) (kept_fault g KEPT f.kept) s.places s.saved numbers prompts s.frames looping pending s.kept

-- ---- from fields to a state, and back ----

pub state_back : (g : GameLists) (f : Fields) → Valid g → AreSized f → AreSound g f → fields_of (state_in g f) ≡ f
state_back g f v z s =
    let n : length (take f.pending f.line) ≡ f.pending = line_length f.pending f.line z.line z.pending in
    same_fields (fields_of (state_in g f)) f refl
    (places_back g PLACES f.places v z.places s.places)
    (held_back g SAVED f.saved v z.saved s.saved)
    refl refl refl
    (code_back f.prompt (leb-true f.prompt 4 s.prompt))
    refl
    (frame_fields_back g (unwrap_or (waiting_code (prompt_of f.prompt)) 0) None f.count FRAMES f.rows s.frames)
    (presence_back f.turning f.looping (looping_low f.looping f.count s.looping))
    (turning_back g f s.turning)
    refl n
    (filled_take (LINE + f.pending) f.pending f.line z.line (omega (arith, z.pending)) s.line)
    refl
    (kept_back g KEPT f.kept v z.kept s.kept)

same_state : (a b : State) → a.world ≡ b.world → a.frames ≡ b.frames → a.pending ≡ b.pending → a.prompt ≡ b.prompt → a.events ≡ b.events → a.piece ≡ b.piece
    → a ≡ b
same_state a b world frames pending at events piece =
    let e : ◌≡◌ {A = State}
    (record { world = a.world; frames = a.frames; pending = a.pending; prompt = a.prompt; events = a.events; piece = a.piece })
    (record { world = b.world; frames = b.frames; pending = b.pending; prompt = b.prompt; events = b.events; piece = b.piece }) = cc in e

pub fields_back : (g : GameLists) (s : State) → FollowsEachRule g s → state_in g (fields_of s) ≡ s
fields_back g s k =
    same_state (state_in g (fields_of s)) s
    (same_world (world_in g (fields_of s)) s.world (sym k.world.facts) (sym k.world.locations) refl
    (take_filled (length g.objects) s.world.places k.world.places)
    (held_again g s.world.saved (saved_held g s k)) (kept_again g s.world.kept (kept_held g s k)) refl refl)
    (same_frames (frames_in (fields_of s)) s.frames refl (frames_back s.frames.rows) (turning_again s.frames.turning))
    (same_pending _ s.pending (take_filled (length s.pending.bytes) s.pending.bytes refl) refl)
    (prompt_again s.prompt) refl refl

-- ---- a state follows its rules where its fields have no fault ----

pub frames_right : (g : GameLists) (f : Fields) → AreSound g f → fault_at g (waiting_code (prompt_of f.prompt)) (frames_in f) ≡ None
frames_right g f s =
    no_machine_fault g (waiting_code (prompt_of f.prompt)) (frames_in f) s.count
    (frame_fields_sound g (unwrap_or (waiting_code (prompt_of f.prompt)) 0) None f.count FRAMES 0 f.rows s.frames) (loop_sound g f s.turning)

-- The world that the fields say is a world.
sound_in : (g : GameLists) (f : Fields) → Valid g → AreSized f → AreSound g f → IsWorld (state_in g f).world
sound_in g f v z s =
    let each : length g.objects ≡ length (take (length g.objects) f.places) = sym (objects_length g f.places v z.places) in
    let alike : (o : Option Position) → IsHeldOf g o → IsSavedFor (length (take (length g.objects) f.places)) o =
    λ o h. subst (λ (n : ℕ). IsSavedFor n o) each (held_size_for g o h) in
    let kept = map (position_in (length g.objects)) f.kept in
    record {
      objects = omega (arith, each, few_objects g v);
      facts = length-map g.objects (λ (o : ObjectRow). o.facts) ∙ each;
      flags = z.flags;
      saved = alike (position_in (length g.objects) f.saved) (held_right g SAVED f.saved v z.saved s.saved);
      kept = record {
        four = length-map f.kept (position_in (length g.objects)) ∙ z.four;
        each = λ i d low. alike (get_or kept i d) (kept_right g KEPT f.kept v z.kept s.kept i d low);
      };
    }

pub follows_in : (g : GameLists) (f : Fields) → Valid g → AreSized f → AreSound g f → FollowsEachRule g (state_in g f)
follows_in g f v z s = record {
  world = record { facts = refl; locations = refl; flags = z.flags; places = objects_length g f.places v z.places };
  sound = sound_in g f v z s;
  places = (
    all_so (is_place (length g.locations)) PLACES (take (length g.objects) f.places) (objects_stand g PLACES f.places s.places),
    (
      held_placed g (position_in (length g.objects) f.saved) (held_right g SAVED f.saved v z.saved s.saved),
      λ i d low. held_placed g (get_or (map (position_in (length g.objects)) f.kept) i d) (kept_right g KEPT f.kept v z.kept s.kept i d low),
    ),
  );
  events = leb-true f.events EVENT_LIMIT s.events;
  draws = leb-true f.draws (READ_LIMIT * (f.events + 1)) s.draws;
  rows = length-map f.rows frame_in ∙ z.rows;
  frames = frames_right g f s;
  line = omega (arith, length-take f.pending f.line, z.line);
  pending = line_right (waiting_code (prompt_of f.prompt)) f.pending f.line s.pending;
}

pub sound_fields : (g : GameLists) (s : State) → FollowsEachRule g s → AreSound g (fields_of s)
sound_fields g s k =
    let m = machine_sound g (waiting_code s.prompt) s.frames k.frames in
    let again = sym (prompt_again s.prompt) in
    record {
      places = places_sound g PLACES s.world.places k.world.places k.places.0;
      saved = held_sound g SAVED s.world.saved (saved_held g s k);
      events = le-leb s.events EVENT_LIMIT k.events;
      draws = le-leb s.world.draws (READ_LIMIT * (s.events + 1)) k.draws;
      prompt = code_low s.prompt;
      count = subst (λ (p : Prompt). count_fits (waiting_code p) s.frames.count ≡ true) again m.count;
      frames =
          subst (λ (p : Prompt). frame_fields_fault g (unwrap_or (waiting_code p) 0) None s.frames.count FRAMES (map frame_field_of s.frames.rows) ≡ None) again
          (frames_sound g (unwrap_or (waiting_code s.prompt) 0) None s.frames.count FRAMES 0 s.frames.rows m.rows);
      looping = loop_counted g s.frames m.turning;
      turning = loop_found g s.frames (fields_of s) refl refl refl refl m.turning;
      pending = subst (λ (p : Prompt). (is_some (waiting_code p) || (length s.pending.bytes == 0)) ≡ true) again
          (line_sound (waiting_code s.prompt) s.pending.bytes k.pending);
      line = ap (first_not is_zero (LINE + length s.pending.bytes)) (drop_filled (length s.pending.bytes) s.pending.bytes refl)
          ∙ none_in_zeros (LINE + length s.pending.bytes) (LINE_LIMIT - length s.pending.bytes);
      kept = kept_sound g KEPT s.world.kept (kept_held g s k);
    }

lengths_of : (g : GameLists) (s : State) → IsOf g s.world → IsWorld s.world → length s.frames.rows ≡ MOST_FRAMES
    → length s.pending.bytes ≤ LINE_LIMIT
    → HasLengths (fields_of s)
lengths_of g s of world rows line = record {
  flags = of.flags;
  places = length-filled s.world.places world.objects;
  saved = saved_sized (length s.world.places) s.world.saved world.objects world.saved;
  rows = length-map s.frames.rows frame_field_of ∙ rows;
  line = length-filled s.pending.bytes line;
  kept = All-map IsSizedPosition position_field_of s.world.kept
      (λ i d low. saved_sized (length s.world.places) (get_or s.world.kept i d) world.objects (world.kept.each i d low));
}

pub each_of : (g : GameLists) (s : State) → IsValidState g s → FollowsEachRule g s
each_of g s k =
    let f = fields_of s in
    let none : parts_fault g f ≡ None = sym (faults_same g f (lengths_of g s k.world k.sound k.rows k.line)) ∙ k.fields in
    let sound = sound_of g f none in
    let frames : frames_in f ≡ s.frames = same_frames (frames_in f) s.frames refl (frames_back s.frames.rows) (turning_again s.frames.turning) in
    record {
      world = k.world;
      sound = k.sound;
      places = (
        places_from g PLACES s.world.places k.world.places sound.places,
        (
          saved_from g SAVED (length s.world.places) s.world.saved k.world.places k.sound.saved sound.saved,
          kept_from g KEPT (length s.world.places) s.world.kept k.world.places k.sound.kept.each sound.kept,
        ),
      );
      events = leb-true s.events EVENT_LIMIT sound.events;
      draws = leb-true s.world.draws (READ_LIMIT * (s.events + 1)) sound.draws;
      rows = k.rows;
      frames = subst (λ (x : Frames). fault_at g (waiting_code s.prompt) x ≡ None) frames
          (subst (λ (p : Prompt). fault_at g (waiting_code p) (frames_in f) ≡ None) (prompt_again s.prompt) (frames_right g f sound));
      line = k.line;
      pending = subst (λ (l : Bytes). IfNone (waiting_code s.prompt) (l ≡ [])) (take_filled (length s.pending.bytes) s.pending.bytes refl)
          (subst (λ (p : Prompt). IfNone (waiting_code p) (take (length s.pending.bytes) (filled_with_zeros LINE_LIMIT s.pending.bytes) ≡ []))
          (prompt_again s.prompt)
          (line_right (waiting_code (prompt_of f.prompt)) (length s.pending.bytes) (filled_with_zeros LINE_LIMIT s.pending.bytes) sound.pending));
    }

-- ---- to fields ----

pub valid_of : (g : GameLists) (s : State) → FollowsEachRule g s → IsValidState g s
valid_of g s k = record {
  world = k.world;
  sound = k.sound;
  rows = k.rows;
  line = k.line;
  fields = faults_same g (fields_of s) (lengths_of g s k.world k.sound k.rows k.line) ∙ none_of g (fields_of s) (sound_fields g s k);
}

-- ---- sizes ----

pub fits_at : (g : GameLists) (bytes : Bytes) → STATE_LENGTH ≤ length bytes → AreBytes bytes → FitsFields (state_in g (fields_at bytes))
fits_at g bytes n h =
    let s = sized_at bytes n h in
    record {
      flags = range_bytes bytes FLAGS PLACES h;
      places = All-take (λ (b : ℕ). b < 256) (length g.objects) (slice_range bytes PLACES SAVED) (range_bytes bytes PLACES SAVED h);
      saved = held_at_fits (length g.objects) SAVED bytes h;
      kept = helds_at_fit (length g.objects) POSITION_COUNT KEPT bytes h;
      seed = s.seed;
      draws = s.draws;
      events = s.events;
      earlier = each_byte bytes h EARLIER;
      line = All-take (λ (b : ℕ). b < 256) (slice_index bytes PENDING) (slice_range bytes LINE PIECE) (range_bytes bytes LINE PIECE h);
      piece = s.piece;
    }

pub sized_of : (g : GameLists) (s : State) → Valid g → FollowsEachRule g s → FitsFields s → AreSized (fields_of s)
sized_of g s v k h =
    let m = machine_sound g (waiting_code s.prompt) s.frames k.frames in
    record {
      flags = k.world.flags;
      places = length-filled s.world.places (omega (arith, k.world.places, few_objects g v));
      saved = held_size g s.world.saved v (saved_held g s k);
      seed = h.seed;
      draws = h.draws;
      events = h.events;
      rows = length-map s.frames.rows frame_field_of ∙ k.rows;
      entries = entries_fit g (unwrap_or (waiting_code s.prompt) 0) None s.frames.count 0 s.frames.rows v m.rows;
      loop_entry = loop_fits g s.frames s.frames.turning v m.turning;
      pending = omega (arith, k.line);
      line = length-filled s.pending.bytes k.line;
      piece = h.piece;
      four = length-map s.world.kept position_field_of ∙ k.sound.kept.four;
      kept = kept_size g s.world.kept v (kept_held g s k);
    }

-- ---- the state of a run and of its parts ----

pub state_of_parts : StateOfParts
state_of_parts lines at m r turning =
    let kept_with : Option OpenLoop → State = λ open_loop. state_with r.world (frames_at (reverse m.frames) open_loop)
    (record { bytes = r.pending; earlier = r.earlier }) at lines (length (last_piece r.pieces)) in
    ap kept_with turning
