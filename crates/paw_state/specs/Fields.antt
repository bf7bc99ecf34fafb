-- The fields of a state in the order of their bytes, each with its rule. Numbers of several bytes have the low one
-- first.
use Rattle.std.specs.Prelude.{◌≡◌, ℕ, suc, ◌+◌, ◌-◌, ◌*◌, ◌^◌, ◌<◌, ◌==◌, ◌||◌, Bool, true, false, not, List, [], ◌∷◌}
use Rattle.std.specs.Prelude.{◌++◌}
use Rattle.std.specs.Prelude.{Option, Some, None, All, length, flat_map, is_some, nat_lt, nat_le, slice_get}
use Rattle.std.specs.Prelude.{slice_index_or, if◌then◌else◌}
use Rattle.std.specs.Option.{option_map_or, unwrap_or}
use Rattle.std.specs.Int.{w64, to_le_bytes}
use Rattle.paw_base.specs.Bytes.{Bytes}
use Rattle.paw_base.specs.declared.codes.TheConstants.{PROCESS, DOALL}
use Rattle.paw_base.specs.declared.limits.TheConstants.{READ_LIMIT, EVENT_LIMIT, OBJECT_LIMIT, FLAG_COUNT, LINE_LIMIT}
use Rattle.paw_base.specs.declared.limits.TheConstants.{POSITION_COUNT}
use Rattle.paw_game.specs.Game.{GameLists}
use Rattle.paw_game.specs.Image.{two_bytes}
use Rattle.paw_game.specs.Tables.{head_at, condact_at}
use Rattle.paw_game.specs.Valid.{is_place}
use Rattle.paw_effects.specs.declared.act.Prompt.{Prompt}
use Rattle.paw_effects.specs.declared.act.Prompt.TheVariants as prompt
use Rattle.paw_reading.specs.declared.frames.OpenLoop.{OpenLoop}
use Rattle.paw_process.specs.declared.machine.TheConstants.{MOST_FRAMES}
use Rattle.paw_process.specs.Kept.{waiting_code, may_open, has_code, parameter_of, count_fits}
use Rattle.paw_state.specs.declared.fields.FrameField.{FrameField}
use Rattle.paw_state.specs.declared.fields.Fields.{Fields}
use Rattle.paw_state.specs.declared.position_field.PositionField.{PositionField}

-- ---- fields ----

-- A field: its value, its bytes, and whether its rule holds in a game.
pub record Field : Type 0 where
  pub value : ℕ
  pub bytes : Bytes
  pub holds : GameLists → Bool

-- A number of one byte, with its rule.
abbrev pub byte : ℕ → (GameLists → Bool) → Field
byte n holds = record { value = n; bytes = n ∷ []; holds = holds }

-- A number of two bytes.
abbrev pub two : ℕ → (GameLists → Bool) → Field
two n holds = record { value = n; bytes = two_bytes n; holds = holds }

-- A number of eight bytes.
abbrev pub eight : ℕ → (GameLists → Bool) → Field
eight n holds = record { value = n; bytes = to_le_bytes w64 n; holds = holds }

-- Each of these bytes as a field; the rule of a field takes the number of its byte, counted from i on, and the byte.
unfoldable pub one_by_one : (ℕ → ℕ → GameLists → Bool) → ℕ → Bytes → List Field
one_by_one holds i [] = []
one_by_one holds i (b ∷ bs) = byte b (holds i b) ∷ one_by_one holds (suc i) bs

-- The fields of something that is there unless this number is 0; where it is 0, each of the fields has to be 0.
unfoldable pub if_there : ℕ → List Field → List Field
if_there there [] = []
if_there there (f ∷ fs) =
    record f { holds = λ g. if there == 0 then f.value == 0 else f.holds g } ∷ if_there there fs

-- The bytes of these fields, in order.
abbrev pub bytes_of : List Field → Bytes
bytes_of fields = flat_map (λ f. f.bytes) fields

-- The offset of the first field whose rule doesn't hold in a game; the first of the fields stands at this offset.
unfoldable pub fault_from : GameLists → ℕ → List Field → Option ℕ
fault_from g at [] = None
fault_from g at (f ∷ fs) = if f.holds g then fault_from g (at + length f.bytes) fs else Some at

-- ---- the fields of a state ----

-- The rule for byte i of the places: for an object of the game it is a place of the game, and past the last one 0.
abbrev pub place_holds : ℕ → ℕ → GameLists → Bool
place_holds i place g = if nat_lt i (length g.objects) then is_place (length g.locations) place else place == 0

-- The flags, which have no rule.
abbrev pub flag_fields : Bytes → List Field
flag_fields flags = one_by_one (λ i flag g. true) 0 flags

-- The places of the objects, and zeros.
abbrev pub place_fields : Bytes → List Field
place_fields places = one_by_one place_holds 0 places

-- The fields of a position: 1 where it is there, its flags, and its places.
abbrev pub position_fields : PositionField → List Field
position_fields h =
    byte h.there (λ g. nat_le h.there 1) ∷ if_there h.there (flag_fields h.flags ++ place_fields h.places)

-- The fields of a frame, where n frames are used from this one on: table, entry, condact, and 1 where an action was
-- carried out; all are 0 where n is 0. Its table is the one called, or 0, 1 or 2 for the outermost. The last used frame
-- is at the condact with this code, each other at a PROCESS.
abbrev pub frame_fields : ℕ → (GameLists → Option ℕ) → ℕ → FrameField → List Field
frame_fields code caller n r = if_there n (
    byte r.table (λ g. may_open (caller g) r.table)
    ∷ two r.entry (λ g. is_some (head_at g r.table r.entry))
    ∷ byte r.at (λ g. has_code (if n == 1 then code else PROCESS) (condact_at g r.table r.entry r.at))
    ∷ byte r.acted (λ g. nat_le r.acted 1)
    ∷ [])

-- The fields of frames, the first n of which are used; the PROCESS of each calls the table of the next.
unfoldable pub frames_fields : ℕ → (GameLists → Option ℕ) → ℕ → List FrameField → List Field
frames_fields code caller n [] = []
frames_fields code caller n (r ∷ rs) =
    frame_fields code caller n r
    ++ frames_fields code (λ g. Some (parameter_of (condact_at g r.table r.entry r.at))) (n - 1) rs

-- The fields of the open loop: the level and the number of an open table, entry, condact (a DOALL), place, last object.
abbrev pub loop_fields : Fields → OpenLoop → List Field
loop_fields f l = if_there f.looping (
    byte l.level (λ g. nat_lt l.level f.count)
    ∷ byte l.table (λ g. option_map_or (λ r. l.table == r.table) (slice_get f.rows l.level) false)
    ∷ two l.entry (λ g. is_some (head_at g l.table l.entry))
    ∷ byte l.at (λ g. has_code DOALL (condact_at g l.table l.entry l.at))
    ∷ byte l.place (λ g. is_place (length g.locations) l.place)
    ∷ byte l.last (λ g. nat_lt l.last (length g.objects))
    ∷ [])

-- The prompt with this code, from 0 to 3; from 4 on the game is over.
abbrev pub prompt_of : ℕ → Prompt
prompt_of n = slice_index_or (prompt.Main ∷ prompt.Quit ∷ prompt.Again ∷ prompt.Key ∷ []) n prompt.Over

-- The condact at which a game waits at the prompt of these fields, where it is one inside tables.
abbrev pub inside : Fields → Option ℕ
inside f = waiting_code (prompt_of f.prompt)

-- The seed, the number of words drawn, and that of lines taken. At most 1,000,000,000 lines were taken. At most 200,000
-- words were drawn for each of them, and 200,000 for the piece before the first; this isn't checked where the lines are
-- too many.
abbrev pub number_fields : Fields → List Field
number_fields f =
    eight f.seed (λ g. true)
    ∷ eight f.draws (λ g. not (nat_le f.events EVENT_LIMIT) || nat_le f.draws (READ_LIMIT * (f.events + 1)))
    ∷ eight f.events (λ g. nat_le f.events EVENT_LIMIT)
    ∷ []

-- The prompt, and the number of open tables.
abbrev pub prompt_fields : Fields → List Field
prompt_fields f = byte f.prompt (λ g. nat_le f.prompt 4) ∷ byte f.count (λ g. count_fits (inside f) f.count) ∷ []

-- The frames of the open tables.
abbrev pub table_fields : Fields → List Field
table_fields f = frames_fields (unwrap_or (inside f) 0) (λ g. None) f.count f.rows

-- Whether a loop is open (never where no table is), and the loop.
abbrev pub looping_fields : Fields → List Field
looping_fields f = byte f.looping (λ g. nat_le f.looping (if f.count == 0 then 0 else 1)) ∷ loop_fields f f.turning

-- The pending bytes, filled up with zeros.
abbrev pub line_fields : Fields → List Field
line_fields f = one_by_one (λ i b g. nat_lt i f.pending || (b == 0)) 0 f.line

-- The verb of the sentence before, the number of pending bytes (0 at a prompt outside tables), and these.
abbrev pub pending_fields : Fields → List Field
pending_fields f =
    byte f.earlier (λ g. true) ∷ byte f.pending (λ g. is_some (inside f) || (f.pending == 0)) ∷ line_fields f

-- All fields of a state, in order: flags and places, now and in the saved position; the numbers; the prompt, the number
-- of open tables, and their frames; the open loop; what is pending; the length of the last piece; the kept positions.
unfoldable pub state_fields : Fields → List Field
state_fields f =
    flag_fields f.flags
    ++ place_fields f.places
    ++ position_fields f.saved
    ++ number_fields f
    ++ prompt_fields f
    ++ table_fields f
    ++ looping_fields f
    ++ pending_fields f
    ++ two f.piece (λ g. true)
    ∷ flat_map position_fields f.kept

-- The arrays of a position have their full lengths.
pub record IsSizedPosition (h : PositionField) : Type 0 where
  pub flags : length h.flags ≡ FLAG_COUNT
  pub places : length h.places ≡ OBJECT_LIMIT

-- The arrays have their full lengths, and the numbers fit their fields.
pub record AreSized (f : Fields) : Type 0 where
  pub flags : length f.flags ≡ FLAG_COUNT
  pub places : length f.places ≡ OBJECT_LIMIT
  pub saved : IsSizedPosition f.saved
  pub seed : f.seed < 2 ^ 64
  pub draws : f.draws < 2 ^ 64
  pub events : f.events < 2 ^ 64
  pub rows : length f.rows ≡ MOST_FRAMES
  pub entries : All (λ r. r.entry < 2 ^ 16) f.rows
  pub loop_entry : f.turning.entry < 2 ^ 16
  pub pending : f.pending < 256
  pub line : length f.line ≡ LINE_LIMIT
  pub piece : f.piece < 2 ^ 16
  pub four : length f.kept ≡ POSITION_COUNT
  pub kept : All IsSizedPosition f.kept
