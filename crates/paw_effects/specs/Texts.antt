-- The texts that a game prints.
use Rattle.std.specs.Prelude.{ℕ, ◌==◌, [], ◌∷◌, ◌++◌, slice_get, if◌then◌else◌}
use Rattle.std.specs.Option.{option_map, unwrap_or}
use Rattle.paw_base.specs.Bytes.{Text}
use Rattle.paw_base.specs.declared.flags.TheConstants.{REFERRED_FLAG}
use Rattle.paw_game.specs.Game.{GameLists}
use Rattle.paw_world.specs.World.{World, flag}

-- The text of an object, as it is; none where there is no such object.
abbrev pub object_text : GameLists → ℕ → Text
object_text g o = unwrap_or (option_map (λ row. row.text) (slice_get g.objects o)) []

-- A text with each underscore replaced by the name; underscores of the name itself stay.
abbrev pub with_name : Text → Text → Text
with_name name [] = []
with_name name (b ∷ bs) = if b == 95 then name ++ with_name name bs else b ∷ with_name name bs

-- A text as it is printed, with the text of the object last referred to in place of each underscore.
abbrev pub printed_text : GameLists → World → Text → Text
printed_text g w text = with_name (object_text g (flag w REFERRED_FLAG)) text

-- A text and a newline; nothing where the text is empty.
abbrev pub ended_text : GameLists → World → Text → Text
ended_text g w [] = []
ended_text g w (b ∷ bs) = printed_text g w (b ∷ bs) ++ 10 ∷ []

-- A system message as it is printed; nothing where there is none.
abbrev pub put_text : GameLists → World → ℕ → Text
put_text g w s = printed_text g w (unwrap_or (slice_get g.system s) [])

-- A system message as it is printed, and a newline; nothing where there is none or it is empty.
abbrev pub say_text : GameLists → World → ℕ → Text
say_text g w s = ended_text g w (unwrap_or (slice_get g.system s) [])

-- The description of a location, and a newline; nothing where there is none or it is empty.
abbrev pub location_text : GameLists → World → ℕ → Text
location_text g w l = ended_text g w (unwrap_or (slice_get g.locations l) [])

-- A message as it is printed; nothing where there is none.
abbrev pub message_text : GameLists → World → ℕ → Text
message_text g w m = printed_text g w (unwrap_or (slice_get g.messages m) [])
