-- The signs that stand for what a game shows or plays besides its text.
use Rattle.std.specs.Prelude.{ℕ, [], ◌∷◌, ◌++◌, codes, decimal}
use Rattle.paw_base.specs.Bytes.{Text}
use Rattle.paw_base.specs.declared.parts.Condact.{Condact}
use Rattle.paw_base.specs.declared.rows.ParamKind.{ParamKind}
use Rattle.paw_base.specs.declared.rows.ParamKind.TheVariants.{Absent}
use Rattle.paw_base.specs.Condacts.{name_of, first_kind, second_kind}

-- A space and the number; nothing where there is no parameter.
abbrev pub parameter_text : ParamKind → ℕ → Text
parameter_text Absent x = []
parameter_text _ x = 32 ∷ decimal x

-- The sign of a condact: `[NAME p q]` with as many parameters as it has, and a newline.
abbrev pub sign_text : Condact → Text
sign_text c =
    codes "[" ++ (name_of c.code ++ (parameter_text (first_kind c.code) c.a
    ++ (parameter_text (second_kind c.code) c.b ++ codes "]\n")))
