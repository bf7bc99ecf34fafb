-- How long the signs and the counts of a game are.
use Rattle.std.proofs.Common.{◌≡◌, ℕ, zero, suc, ◌-◌, ◌<◌, ◌≤◌, ◌==◌, Bool, true, false, List, [], ◌∷◌, ◌++◌, refl}
use Rattle.std.proofs.Common.{length}
use Rattle.std.proofs.Common.{nat_le, arith, length-append}
use Rattle.std.specs.Prelude.{if◌then◌else◌, decimal, codes}
use Rattle.std.specs.List.{list_all, slice_index_or}
use Rattle.std.proofs.lemmas.Bool.{and_parts, leb-true}
use Rattle.paw_base.specs.Bytes.{Text}
use Rattle.paw_base.specs.declared.flags.TheConstants.{SCORE_FLAG, LOW_TURNS_FLAG, HIGH_TURNS_FLAG}
use Rattle.paw_base.specs.declared.messages.TheConstants.{TURNS_MESSAGE, TURN_MESSAGE, PLURAL_MESSAGE}
use Rattle.paw_base.specs.declared.messages.TheConstants.{TURNS_END_MESSAGE}
use Rattle.paw_base.specs.declared.messages.TheConstants.{SCORE_MESSAGE, SCORE_END_MESSAGE}
use Rattle.paw_base.specs.declared.codes.TheConstants.{INDIRECT}
use Rattle.paw_base.specs.declared.parts.Condact.{Condact}
use Rattle.paw_base.specs.declared.rows.ParamKind.{ParamKind}
use Rattle.paw_base.specs.declared.rows.ParamKind.TheVariants.{Absent}
use Rattle.paw_base.specs.Condacts.{CondactLine, condact_lines, no_line, plain_line, indirect_line, line_of}
use Rattle.paw_base.specs.Condacts.{is_indirect, name_of, first_kind, second_kind}
use Rattle.paw_game.specs.Game.{GameLists}
use Rattle.paw_world.specs.World.{World, flag}
use Rattle.paw_effects.specs.Standing.{AreBytes}
use Rattle.paw_effects.specs.Texts.{put_text, say_text}
use Rattle.paw_effects.specs.Counts.{turns_taken, turns_text, score_text}
use Rattle.paw_effects.specs.Signs.{parameter_text, sign_text}
use Rattle.paw_effects.proofs.Worlds.{byte_at}
use Rattle.paw_check.specs.Measures.{most_put}
use Rattle.paw_check.specs.Prints.{most_count, most_score}
use Rattle.paw_check.proofs.Lengths.{put_most, say_most, byte_digits, pair_digits}

-- ---- names of condacts ----

abbrev is_short : CondactLine → Bool
is_short line = nat_le (length line.name) 7

all_short : list_all is_short condact_lines ≡ true
unfolding condact_lines
all_short = refl

line_short : (lines : List CondactLine) (code : ℕ) → list_all is_short lines ≡ true → length (slice_index_or lines code no_line).name ≤ 7
line_short [] code all = omega arith
line_short (line ∷ lines) zero all = leb-true (length line.name) 7 (and_parts (is_short line) (list_all is_short lines) all).0
line_short (line ∷ lines) (suc code) all = line_short lines code (and_parts (is_short line) (list_all is_short lines) all).1

plain_short : (code : ℕ) → length (plain_line code).name ≤ 7
unfolding plain_line
plain_short code = line_short condact_lines code all_short

either_short : (b : Bool) (plain code : ℕ) → length (if b then indirect_line plain else plain_line code).name ≤ 7
either_short true plain code = plain_short plain
either_short false plain code = plain_short code

name_short : (code : ℕ) → length (name_of code) ≤ 7
unfolding line_of
name_short code = either_short (is_indirect code) (code - INDIRECT) code

-- ---- marks ----

parameter_most : (k : ParamKind) (x : ℕ) → x < 256 → length (parameter_text k x) ≤ 4
parameter_most Absent x small = omega arith
parameter_most k x small = omega (arith, byte_digits x small)

pub sign_most : (c : Condact) → c.a < 256 → c.b < 256 → length (sign_text c) ≤ 20
sign_most c first second =
    let end : Text = codes "]\n" in
    let b : Text = parameter_text (second_kind c.code) c.b in
    let a : Text = parameter_text (first_kind c.code) c.a in
    omega (
      arith,
      name_short c.code,
      parameter_most (first_kind c.code) c.a first,
      parameter_most (second_kind c.code) c.b second,
      length-append (name_of c.code) (a ++ (b ++ end)),
      length-append a (b ++ end),
      length-append b end,
    )

-- ---- counts ----

plural_most : (one : Bool) (g : GameLists) (w : World) → length (if one then [] else put_text g w PLURAL_MESSAGE) ≤ most_put g PLURAL_MESSAGE
plural_most true g w = omega arith
plural_most false g w = put_most g w PLURAL_MESSAGE

turns_small : (w : World) → AreBytes w.flags → turns_taken w < 65536
turns_small w bytes = omega (arith, byte_at w.flags LOW_TURNS_FLAG bytes, byte_at w.flags HIGH_TURNS_FLAG bytes)

pub turns_most : (g : GameLists) (w : World) → AreBytes w.flags → length (turns_text g w) ≤ most_count g
turns_most g w bytes =
    let number : Text = decimal (turns_taken w) in
    let plural : Text = if turns_taken w == 1 then [] else put_text g w PLURAL_MESSAGE in
    let end : Text = say_text g w TURNS_END_MESSAGE in
    omega (
      arith,
      put_most g w TURNS_MESSAGE,
      pair_digits (turns_taken w) (turns_small w bytes),
      put_most g w TURN_MESSAGE,
      plural_most (turns_taken w == 1) g w,
      say_most g w TURNS_END_MESSAGE,
      length-append (put_text g w TURNS_MESSAGE) (number ++ (put_text g w TURN_MESSAGE ++ (plural ++ end))),
      length-append number (put_text g w TURN_MESSAGE ++ (plural ++ end)),
      length-append (put_text g w TURN_MESSAGE) (plural ++ end),
      length-append plural end,
    )

pub score_most : (g : GameLists) (w : World) → AreBytes w.flags → length (score_text g w) ≤ most_score g
score_most g w bytes =
    let number : Text = decimal (flag w SCORE_FLAG) in
    omega (
      arith,
      put_most g w SCORE_MESSAGE,
      byte_digits (flag w SCORE_FLAG) (byte_at w.flags SCORE_FLAG bytes),
      say_most g w SCORE_END_MESSAGE,
      length-append (put_text g w SCORE_MESSAGE) (number ++ say_text g w SCORE_END_MESSAGE),
      length-append number (say_text g w SCORE_END_MESSAGE),
    )
