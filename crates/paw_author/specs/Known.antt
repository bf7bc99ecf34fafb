-- Names, and the numbers that they stand for.
use Rattle.std.specs.Prelude.{ℕ, ◌==◌, ◌&&◌, ◌||◌, Bool, false, not, List, [], ◌∷◌, ◌++◌, find, Option, Some, None, Result, Ok, Err}
use Rattle.std.specs.List.{list_all, list_any, range_with_len}
use Rattle.std.specs.Option.{option_map}
use Rattle.std.specs.Char.{is_ascii_alphabetic, is_ascii_alphanumeric}
use Rattle.paw_base.specs.Bytes.{Name, Token}
use Rattle.paw_base.specs.declared.fault.SourceKind.TheVariants.{TooBig}
use Rattle.paw_author.specs.declared.fragment.Origin.{Origin}
use Rattle.paw_author.specs.declared.known.NameKind.{NameKind}
use Rattle.paw_author.specs.declared.known.NameKind.TheVariants.{Flag, Number, Location, Object, Message, System, Table}
use Rattle.paw_author.specs.declared.mistake.Mistake.{Mistake}
use Rattle.paw_author.specs.Mistakes.{wrong_line}
use Rattle.paw_author.specs.Tokens.{is_same}

-- A name: what it is the name of, and the number of that.
pub record KnownName : Type 0 where
  pub kind : NameKind
  pub name : Name
  pub number : ℕ

-- Names that are known, of which the first counts.
abbrev pub KnownNames : Type 0
KnownNames = List KnownName

-- Each kind of name has a number of its own.
abbrev pub kind_index : NameKind → ℕ
kind_index Flag = 0
kind_index Number = 1
kind_index Location = 2
kind_index Object = 3
kind_index Message = 4
kind_index System = 5
kind_index Table = 6

-- The number of the first name for which a test holds.
abbrev pub number_where : (KnownName → Bool) → KnownNames → Option ℕ
number_where test known = option_map (λ k. k.number) (find test known)

-- Whether a name is this one, of this kind.
abbrev pub is_known_as : NameKind → Token → KnownName → Bool
is_known_as kind word k = kind_index k.kind == kind_index kind && is_same k.name word

-- The number that a word stands for as a name of this kind.
abbrev pub number_for : NameKind → Token → KnownNames → Option ℕ
number_for kind word known = number_where (is_known_as kind word) known

-- The number that a word stands for as a name of any kind.
abbrev pub number_of_any : Token → KnownNames → Option ℕ
number_of_any word known = number_where (λ k. is_same k.name word) known

-- Whether a byte may stand in a name after its first letter.
abbrev pub may_be_in_name : ℕ → Bool
may_be_in_name b = is_ascii_alphanumeric b || b == 95

-- Whether a word may be a name: letters, digits and underscores, a letter first.
abbrev pub may_be_name : Token → Bool
may_be_name [] = false
may_be_name (b ∷ bs) = is_ascii_alphabetic b && list_all may_be_in_name bs

-- Whether a number is one of these.
abbrev pub is_in_use : List ℕ → ℕ → Bool
is_in_use numbers n = list_any (λ m. m == n) numbers

-- The least number from this one on that isn't taken, of this count.
abbrev pub least_free : ℕ → ℕ → List ℕ → Option ℕ
least_free from count taken = find (λ n. not (is_in_use taken n)) (range_with_len from count)

-- A name of this kind for a number.
abbrev pub name_for : NameKind → Name → ℕ → KnownName
name_for kind name number = record { kind = kind; name = name; number = number }

-- ---- numbers that are given ----

-- The names so far, and the numbers that are taken.
pub record NumbersGiven : Type 0 where
  pub known : KnownNames
  pub taken : List ℕ

-- A number for a name, if there is one left.
abbrev pub with_given : Option ℕ → NameKind → Origin → Name → NumbersGiven → Result NumbersGiven Mistake
with_given None kind origin name s = Err (wrong_line origin TooBig)
with_given (Some n) kind origin name s = Ok (record { known = s.known ++ name_for kind name n ∷ []; taken = s.taken ++ n ∷ [] })

-- The number of a name: the one that it has, or else a new one.
abbrev pub given_unless : Option ℕ → Option ℕ → NameKind → Origin → Name → NumbersGiven → Result NumbersGiven Mistake
given_unless (Some n) free kind origin name s = Ok s
given_unless None free kind origin name s = with_given free kind origin name s

-- The number of a name: the one that it has, or the least from this one on that isn't taken, of this count.
abbrev pub given_once : ℕ → ℕ → NameKind → Origin → Name → NumbersGiven → Result NumbersGiven Mistake
given_once from count kind origin name s =
    given_unless (number_for kind name s.known) (least_free from count s.taken) kind origin name s
