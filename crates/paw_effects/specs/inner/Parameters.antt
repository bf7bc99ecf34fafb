-- What the parameters of the condacts name.
use Rattle.std.specs.Prelude.{ℕ, Bool, true, false}
use Rattle.paw_base.specs.Condacts.{first_kind, second_kind}
use Rattle.paw_base.specs.declared.rows.ParamKind.{ParamKind}
use Rattle.paw_base.specs.declared.rows.ParamKind.TheVariants as kind

-- Whether a parameter of this kind is an object.
abbrev pub names_object : ParamKind → Bool
names_object kind.Object = true
names_object _ = false

-- Whether the first parameter of a code is an object.
abbrev pub takes_object : ℕ → Bool
takes_object code = names_object (first_kind code)

-- Whether the second parameter of a code is an object.
abbrev pub takes_second_object : ℕ → Bool
takes_second_object code = names_object (second_kind code)
