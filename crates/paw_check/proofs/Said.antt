-- What a turn says beside its tables isn't longer than it is measured.
use Rattle.std.proofs.Common.{ℕ, ◌+◌, ◌≤◌, ◌==◌, Bool, true, false, [], ◌∷◌, refl, length, slice_get, arith}
use Rattle.std.proofs.Common.{length-append}
use Rattle.std.specs.Prelude.{if◌then◌else◌, max, nat_lt}
use Rattle.std.specs.Option.{unwrap_or}
use Rattle.paw_base.specs.Bytes.{Text}
use Rattle.paw_base.specs.declared.flags.TheConstants.{LOCATION_FLAG, VERB_FLAG, PROMPT_FLAG}
use Rattle.paw_base.specs.declared.messages.TheConstants.{DARK_MESSAGE, UNKNOWN_MESSAGE, NO_WAY_MESSAGE}
use Rattle.paw_base.specs.declared.messages.TheConstants.{IMPOSSIBLE_MESSAGE, TIMEOUT_MESSAGE, PROMPT_MESSAGE}
use Rattle.paw_base.specs.declared.messages.TheConstants.{LINE_MESSAGE}
use Rattle.paw_base.specs.declared.words.TheConstants.{FIRST_PLAIN_VERB}
use Rattle.paw_game.specs.Game.{GameLists}
use Rattle.paw_world.specs.World.{World, flag, is_unlit}
use Rattle.paw_effects.specs.Texts.{put_text, say_text, location_text}
use Rattle.paw_reading.specs.Run.{with_timeout}
use Rattle.paw_reading.specs.Turn.{view_text, prompt_text, timeout_text, refusal_text}
use Rattle.paw_reading.specs.inner.Parts.{unknown_text}
use Rattle.paw_check.specs.Measures.{most_of, most_put, most_said}
use Rattle.paw_check.specs.Bounds.{most_view, most_refusal, most_prompt}
use Rattle.paw_check.proofs.Lengths.{among_most, ended_most, put_most, say_most, at_most}

-- ---- the location ----

either_most : (b : Bool) (x y : Text) (m n : ℕ) → length x ≤ m + 1 → length y ≤ n + 1 → length (if b then x else y) ≤ max m n + 1
either_most true x y m n h k = omega arith
either_most false x y m n h k = omega arith

location_most : (g : GameLists) (w : World) (l : ℕ) → length (location_text g w l) ≤ most_of g g.locations + 1
location_most g w l = omega (arith, ended_most g w (unwrap_or (slice_get g.locations l) []), at_most g g.locations l)

pub view_short : (g : GameLists) (w : World) → length (view_text g w) ≤ most_view g
view_short g w =
    either_most (is_unlit w) (say_text g w DARK_MESSAGE) (location_text g w (flag w LOCATION_FLAG))
    (most_put g DARK_MESSAGE) (most_of g g.locations) (say_most g w DARK_MESSAGE)
    (location_most g w (flag w LOCATION_FLAG))

-- ---- refusals ----

pub unknown_short : (g : GameLists) (w : World) → length (unknown_text g w) ≤ most_refusal g
unknown_short g w = omega (
  arith,
  say_most g w UNKNOWN_MESSAGE,
  among_most (most_put g) (UNKNOWN_MESSAGE ∷ NO_WAY_MESSAGE ∷ IMPOSSIBLE_MESSAGE ∷ []) UNKNOWN_MESSAGE refl,
)

refused_short : (g : GameLists) (w : World) (b : Bool)
    → length (say_text g w (if b then NO_WAY_MESSAGE else IMPOSSIBLE_MESSAGE)) ≤ most_refusal g
refused_short g w true = omega (
  arith,
  say_most g w NO_WAY_MESSAGE,
  among_most (most_put g) (UNKNOWN_MESSAGE ∷ NO_WAY_MESSAGE ∷ IMPOSSIBLE_MESSAGE ∷ []) NO_WAY_MESSAGE refl,
)
refused_short g w false = omega (
  arith,
  say_most g w IMPOSSIBLE_MESSAGE,
  among_most (most_put g) (UNKNOWN_MESSAGE ∷ NO_WAY_MESSAGE ∷ IMPOSSIBLE_MESSAGE ∷ []) IMPOSSIBLE_MESSAGE refl,
)

pub refusal_short : (g : GameLists) (w : World) → length (refusal_text g w) ≤ most_refusal g
refusal_short g w = refused_short g w (nat_lt (flag w VERB_FLAG) FIRST_PLAIN_VERB)

-- ---- lines ----

pub timeout_short : (g : GameLists) (w : World) → length (timeout_text g w) ≤ most_said g TIMEOUT_MESSAGE
timeout_short g w = say_most g (with_timeout true w) TIMEOUT_MESSAGE

pub prompt_short : (g : GameLists) (w : World) → length (prompt_text g w) ≤ most_prompt g
prompt_short g w =
    let s : ℕ = if flag w PROMPT_FLAG == 0 then PROMPT_MESSAGE else flag w PROMPT_FLAG in
    omega (
      arith,
      length-append (say_text g w s) (put_text g w LINE_MESSAGE),
      say_most g w s,
      at_most g g.system s,
      put_most g w LINE_MESSAGE,
    )
