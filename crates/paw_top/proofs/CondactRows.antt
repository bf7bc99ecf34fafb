-- The printed line of a condact is read as this condact.
use Rattle.std.proofs.Common.{◌≡◌, ℕ, ◌+◌, ◌-◌, ◌<◌, ◌≤◌, Bool, true, false, not, ◌||◌, cond, ltb, leb, min, List, []}
use Rattle.std.proofs.Common.{◌∷◌, ◌++◌, length, map, Option, Some, Result, Ok}
use Rattle.std.proofs.Common.{refl, sym, ap, subst, ◌∙◌, inl, inr, arith, length-append}
use Rattle.std.specs.List.{list_all}
use Rattle.std.specs.Option.{ok_or}
use Rattle.std.specs.Fmt.{decimal}
use Rattle.std.proofs.lemmas.Bool.{and_parts, and_from, and_right, or_cases, not-true, eqb-true, leb-true, ltb-true}
use Rattle.std.proofs.lemmas.Bool.{le-ltb, false≢true}
use Rattle.std.proofs.lemmas.List.{append-nil}
use Rattle.std.proofs.lemmas.List.Folds.{list_all-append}
use Rattle.std.proofs.Math.ListN.{length-map}
use Rattle.paw_base.specs.Bytes.{Tokens, Token}
use Rattle.paw_base.specs.declared.limits.TheConstants.{LOCATION_LIMIT, SYSTEM_LIMIT, MESSAGE_LIMIT, OBJECT_LIMIT}
use Rattle.paw_base.specs.declared.limits.TheConstants.{TABLE_LIMIT, FLAG_COUNT, CONDACT_LIMIT}
use Rattle.paw_base.specs.declared.places.TheConstants.{NOT_CREATED_PLACE, HERE_PLACE}
use Rattle.paw_base.specs.declared.codes.TheConstants.{INDIRECT}
use Rattle.paw_base.specs.declared.words.TheConstants.{ADVERB_CLASS, NOUN_CLASS, ADJECTIVE_CLASS, PREPOSITION_CLASS}
use Rattle.paw_base.specs.declared.fault.SourceKind.{SourceKind}
use Rattle.paw_base.specs.declared.fault.SourceKind.TheVariants as fault
use Rattle.paw_base.specs.declared.parts.Condact.{Condact}
use Rattle.paw_base.specs.declared.rows.ParamKind.{ParamKind}
use Rattle.paw_base.specs.declared.rows.ParamKind.TheVariants as kind
use Rattle.paw_base.specs.Condacts.{is_code, is_plain_code, is_indirect, may_be_indirect, plain_code, condact_lines}
use Rattle.paw_base.specs.Condacts.{plain_line, line_of, code_named, name_of}
use Rattle.paw_base.specs.Condacts.{first_kind, second_kind, param_count, params_of}
use Rattle.paw_base.specs.inner.Condacts.{IsCode, IsPlainCode}
use Rattle.paw_base.proofs.Table.{below, each_code, indirect_within, within_code}
use Rattle.paw_base.proofs.Named.{code_named-name_of}
use Rattle.paw_game.specs.declared.parts.Word.{Word}
use Rattle.paw_game.specs.declared.parts.ObjectRow.{ObjectRow}
use Rattle.paw_game.specs.Game.{GameLists, counts_of}
use Rattle.paw_game.specs.Valid.{is_within, is_parameter, is_condact, is_word_or_none}
use Rattle.paw_grammar.specs.declared.bounds.Bounds.{Bounds}
use Rattle.paw_read_error.specs.Bind.{◌>>=◌}
use Rattle.paw_grammar.specs.Tokens.{at_most, begins_with_at, at_is_next}
use Rattle.paw_grammar.specs.Vocabulary.{word_or_none}
use Rattle.paw_grammar.specs.Numbers.{in_range}
use Rattle.paw_grammar.specs.Condacts.{parameter, is_indirect_before, flag_after_at, first_parameter, code_of}
use Rattle.paw_grammar.specs.Condacts.{condact, condacts_in, with_more_condacts, more_condacts}
use Rattle.paw_grammar.proofs.Indirect.{condact_made, name_of-read, second_kind-read}
use Rattle.paw_print.specs.Lines.{value_token, parameter_tokens, first_tokens}
use Rattle.paw_top.proofs.Rows.{is_plain}
use Rattle.paw_top.proofs.Digits.{number-decimal, plain-decimal, decimal-at, plain-flag}
use Rattle.paw_top.proofs.KnownWords.{Words, ReadsBack, word_or_none_back}

-- ---- names ----

plain_names : below (λ code. not (is_code code) || is_plain (name_of code)) 256 ≡ true
unfolding condact_lines plain_line line_of is_plain_code is_indirect below
plain_names = refl

plain-name_of : (code : ℕ) → IsCode code → is_plain (name_of code) ≡ true
plain-name_of = each_code (λ code. is_plain (name_of code)) plain_names

-- ---- plain codes ----

-- What is known of an indirect code.
record Indirect (code : ℕ) : Type 0 where
  high : INDIRECT ≤ code
  may : may_be_indirect (code - INDIRECT) ≡ true
  first : first_kind code ≡ kind.Flag

indirect_first : (code : ℕ) → is_indirect code ≡ true → first_kind code ≡ kind.Flag
unfolding line_of
indirect_first code h = rw (h, first_kind) refl

indirect : (code : ℕ) → is_indirect code ≡ true → Indirect code
unfolding is_indirect
indirect code h =
    let both = and_parts (leb INDIRECT code) (may_be_indirect (code - INDIRECT)) h in
    record { high = leb-true INDIRECT code both.0; may = both.1; first = indirect_first code h }

code_back : (code : ℕ) → code_of (is_indirect code) (plain_code code) ≡ code
code_back code =
    elim (is_indirect code) as
    (λ b. is_indirect code ≡ b → cond b (cond b (code - INDIRECT) code + INDIRECT) (cond b (code - INDIRECT) code) ≡ code) [
      | true ↦ λ h. let high = (indirect code h).high in omega (arith, high)
      | false ↦ λ h. refl
    ] refl

plain_is : (code : ℕ) → IsCode code → IsPlainCode (plain_code code)
plain_is code is =
    elim (is_indirect code) as (λ b. is_indirect code ≡ b → IsPlainCode (cond b (code - INDIRECT) code)) [
      | true ↦ λ h. within_code (code - INDIRECT) (indirect_within (code - INDIRECT) (indirect code h).may)
      | false ↦ λ h. elim (or_cases (is_plain_code code) (is_indirect code) is) [
        | inl plain ↦ plain
        | inr other ↦ absurd (false≢true (sym h ∙ other))
      ]
    ] refl

plain_may : (code : ℕ) → is_indirect code ≡ true → may_be_indirect (plain_code code) ≡ true
plain_may code h = subst (λ n. may_be_indirect n ≡ true) (sym (ap (λ b. cond b (code - INDIRECT) code) h)) (indirect code h).may

name_code : (code : ℕ) → IsCode code → code_named (name_of code) ≡ Some (plain_code code)
name_code code is =
    let plain = plain_is code is in
    let name : name_of code ≡ name_of (plain_code code) =
    ap name_of (sym (code_back code)) ∙ name_of-read (plain_code code) (is_indirect code) plain (plain_may code) in
    ap code_named name ∙ code_named-name_of (plain_code code) plain

plain_second : (code : ℕ) → IsCode code → second_kind (plain_code code) ≡ second_kind code
plain_second code is =
    sym (second_kind-read (plain_code code) (is_indirect code) (plain_is code is) (plain_may code)) ∙ ap second_kind (code_back code)

-- ---- parameters ----

-- What parameters may name in the source of a game with p tables.
abbrev pub bounds : ℕ → GameLists → Bounds
bounds p g = record {
  system = length g.system;
  messages = length g.messages;
  objects = length (map (λ o. o.text) g.objects);
  locations = length g.locations;
  tables = p;
}

-- A game whose parameters are small numbers.
pub record Small (p : ℕ) (g : GameLists) : Type 0 where
  pub words : Words g.words
  pub system : length g.system ≤ SYSTEM_LIMIT
  pub messages : length g.messages ≤ MESSAGE_LIMIT
  pub objects : length g.objects ≤ OBJECT_LIMIT
  pub locations : length g.locations ≤ LOCATION_LIMIT
  pub tables : length g.tables ≤ TABLE_LIMIT
  pub counted : p ≡ length g.tables

-- A token doesn't begin with `@`.
abbrev has_no_at : Token → Bool
has_no_at t = not (begins_with_at t)

-- The tokens of a parameter are read as this parameter.
record ParameterBack (p : ℕ) (g : GameLists) (k : ParamKind) (x : ℕ) : Type 0 where
  plain : list_all is_plain (parameter_tokens g.words k x) ≡ true
  no_at : list_all has_no_at (parameter_tokens g.words k x) ≡ true
  count : length (parameter_tokens g.words k x) ≡ param_count k
  read : (ts : Tokens) → parameter (bounds p g) g.words k (parameter_tokens g.words k x ++ ts) ≡ Ok (x, ts)

below_small : (x n : ℕ) → n ≤ 256 → ltb x n ≡ true → x ≤ 65535
below_small x n h g = omega (arith, ltb-true x n g)

word_parameter : (p : ℕ) (g : GameLists) (class x : ℕ) → Small p g → is_word_or_none g.words class x ≡ true →
    ReadsBack (value_token g.words class x) (word_or_none g.words class) x
word_parameter p g class x s h = word_or_none_back g.words class x s.words h

place_follows : (x locations : ℕ) → locations ≤ LOCATION_LIMIT → (ltb x locations || is_within NOT_CREATED_PLACE HERE_PLACE x) ≡ true → x ≤ 65535
place_follows x locations few h =
    elim (or_cases (ltb x locations) (is_within NOT_CREATED_PLACE HERE_PLACE x) h) [
      | inl is ↦ omega (arith, ltb-true x locations is)
      | inr is ↦ omega (arith, leb-true x HERE_PLACE (and_parts (leb NOT_CREATED_PLACE x) (leb x HERE_PLACE) is).1)
    ]

parameter_back : (p : ℕ) (g : GameLists) (k : ParamKind) (x : ℕ) → Small p g → is_parameter (counts_of g) g.words k x ≡ true → ParameterBack p g k x
parameter_back p g kind.Absent x s h = record { plain = refl; no_at = refl; count = refl; read = λ ts. ap (λ n. Ok (n, ts)) (sym (eqb-true x 0 h)) }
parameter_back p g kind.Location x s h =
    let small = below_small x (length g.locations) (omega (arith, s.locations)) h in
    record { plain = rw (plain-decimal x small) refl; no_at = rw (decimal-at x small) refl; count = refl; read = λ ts. rw (number-decimal x small, h) refl }
parameter_back p g kind.Place x s h =
    let small = place_follows x (length g.locations) s.locations h in
    record { plain = rw (plain-decimal x small) refl; no_at = rw (decimal-at x small) refl; count = refl; read = λ ts. rw (number-decimal x small, h) refl }
parameter_back p g kind.Object x s h =
    let small = below_small x (length g.objects) (omega (arith, s.objects)) h in
    let named : ltb x (length (map (λ (o : ObjectRow). o.text) g.objects)) ≡ true = ap (ltb x) (length-map g.objects (λ (o : ObjectRow). o.text)) ∙ h in
    record { plain = rw (plain-decimal x small) refl; no_at = rw (decimal-at x small) refl; count = refl; read = λ ts. rw (number-decimal x small, named) refl }
parameter_back p g kind.Flag x s h =
    let small = below_small x FLAG_COUNT (omega arith) h in
    record { plain = rw (plain-decimal x small) refl; no_at = rw (decimal-at x small) refl; count = refl; read = λ ts. rw (number-decimal x small, h) refl }
parameter_back p g kind.Number x s h =
    let small = below_small x 256 (omega arith) h in
    record { plain = rw (plain-decimal x small) refl; no_at = rw (decimal-at x small) refl; count = refl; read = λ ts. rw (number-decimal x small, h) refl }
parameter_back p g kind.Message x s h =
    let small = below_small x (length g.messages) s.messages h in
    record { plain = rw (plain-decimal x small) refl; no_at = rw (decimal-at x small) refl; count = refl; read = λ ts. rw (number-decimal x small, h) refl }
parameter_back p g kind.System x s h =
    let small = below_small x (length g.system) s.system h in
    record { plain = rw (plain-decimal x small) refl; no_at = rw (decimal-at x small) refl; count = refl; read = λ ts. rw (number-decimal x small, h) refl }
parameter_back p g kind.Table x s h =
    let small = below_small x (length g.tables) s.tables h in
    let counted : ltb x p ≡ true = ap (ltb x) s.counted ∙ h in
    let low : x < 256 = omega (arith, s.tables, ltb-true x (length g.tables) h) in
    let least : min x 255 ≡ x = omega arith in
    record {
      plain = rw (plain-decimal x small) refl;
      no_at = rw (decimal-at x small) refl;
      count = refl;
      read = λ ts. rw (number-decimal x small, counted) (ap (λ n. Ok (n, ts)) least);
    }
parameter_back p g kind.Adverb x s h =
    let b = word_parameter p g ADVERB_CLASS x s h in
    record { plain = rw b.plain refl; no_at = rw b.at refl; count = refl; read = λ ts. b.is ts }
parameter_back p g kind.Noun x s h =
    let b = word_parameter p g NOUN_CLASS x s h in
    record { plain = rw b.plain refl; no_at = rw b.at refl; count = refl; read = λ ts. b.is ts }
parameter_back p g kind.Adjective x s h =
    let b = word_parameter p g ADJECTIVE_CLASS x s h in
    record { plain = rw b.plain refl; no_at = rw b.at refl; count = refl; read = λ ts. b.is ts }
parameter_back p g kind.Preposition x s h =
    let b = word_parameter p g PREPOSITION_CLASS x s h in
    record { plain = rw b.plain refl; no_at = rw b.at refl; count = refl; read = λ ts. b.is ts }

-- ---- the first parameter ----

-- The tokens of the first parameter decide whether the condact is indirect, and are read as this parameter.
record FirstBack (p : ℕ) (g : GameLists) (c : Condact) : Type 0 where
  plain : list_all is_plain (first_tokens g.words c) ≡ true
  count : length (first_tokens g.words c) ≡ param_count (first_kind c.code)
  told : (ts : Tokens) → list_all has_no_at ts ≡ true
      → is_indirect_before (plain_code c.code) (first_tokens g.words c ++ ts) ≡ is_indirect c.code
  read : (ts : Tokens)
      → first_parameter (bounds p g) g.words (is_indirect c.code) (first_kind (plain_code c.code)) (first_tokens g.words c ++ ts) ≡ Ok (c.a, ts)

flag_read : (a : ℕ) (ts : Tokens) → a ≤ 65535 → ltb a FLAG_COUNT ≡ true → flag_after_at ((64 ∷ decimal a) ∷ ts) ≡ Ok (a, ts)
flag_read a ts small low =
    ap (λ (o : Option ℕ). (ok_or o fault.Number >>= λ n. Ok (n, ts)) >>= in_range (λ n. ltb n FLAG_COUNT)) (number-decimal a small)
    ∙ rw low refl

flag_back : (p : ℕ) (g : GameLists) (c : Condact) → is_indirect c.code ≡ true
    → is_parameter (counts_of g) g.words (first_kind c.code) c.a ≡ true → FirstBack p g c
flag_back p g c h kept =
    let code = indirect c.code h in
    let low : ltb c.a FLAG_COUNT ≡ true = subst (λ (k : ParamKind). is_parameter (counts_of g) g.words k c.a ≡ true) code.first kept in
    let small = below_small c.a FLAG_COUNT (omega arith) low in
    record {
      plain = rw h (and_from _ _ (plain-flag c.a small) refl);
      count = rw (h, code.first) refl;
      told = λ ts all. rw h (and_from _ _ code.may refl);
      read = λ ts. rw h (flag_read c.a ts small low);
    }

no_at_next : (ts us : Tokens) → list_all has_no_at ts ≡ true → list_all has_no_at us ≡ true → at_is_next (ts ++ us) ≡ false
no_at_next [] [] h g = refl
no_at_next [] (u ∷ us) h g = not-true (begins_with_at u) (and_parts (has_no_at u) (list_all has_no_at us) g).0
no_at_next (t ∷ ts) us h g = not-true (begins_with_at t) (and_parts (has_no_at t) (list_all has_no_at ts) h).0

plain_back : (p : ℕ) (g : GameLists) (c : Condact) → is_indirect c.code ≡ false → ParameterBack p g (first_kind c.code) c.a → FirstBack p g c
plain_back p g c h a = record {
  plain = rw h a.plain;
  count = rw h a.count;
  told = λ ts all. rw h (and_right _ _ (no_at_next (parameter_tokens g.words (first_kind c.code) c.a) ts a.no_at all));
  read = λ ts. rw h (a.read ts);
}

first_back : (p : ℕ) (g : GameLists) (c : Condact) → Small p g
    → is_parameter (counts_of g) g.words (first_kind c.code) c.a ≡ true → FirstBack p g c
first_back p g c s kept =
    elim (is_indirect c.code) as (λ b. is_indirect c.code ≡ b → FirstBack p g c) [
      | true ↦ λ h. flag_back p g c h kept
      | false ↦ λ h. plain_back p g c h (parameter_back p g (first_kind c.code) c.a s kept)
    ] refl

-- ---- a condact ----

-- Name, parameters.
abbrev pub condact_tokens : List Word → Condact → Tokens
condact_tokens ws c = name_of c.code ∷ (first_tokens ws c ++ parameter_tokens ws (second_kind c.code) c.b)

skipped : (p : ℕ) (g : GameLists) (ts : Tokens) → condacts_in (bounds p g) g.words (length ts) ts ≡ Ok []
unfolding condacts_in
skipped p g [] = refl
skipped p g (t ∷ ts) = skipped p g ts

-- The tokens of a condact are plain and read as this condact.
pub record CondactBack (p : ℕ) (g : GameLists) (c : Condact) : Type 0 where
  pub plain : list_all is_plain (condact_tokens g.words c) ≡ true
  pub read : condacts_in (bounds p g) g.words 0 (condact_tokens g.words c) ≡ Ok (c ∷ [])

condact-is : (p : ℕ) (g : GameLists) (c : Condact) → IsCode c.code → FirstBack p g c → ParameterBack p g (second_kind c.code) c.b
    → condact (bounds p g) g.words (name_of c.code)
    (first_tokens g.words c ++ parameter_tokens g.words (second_kind c.code) c.b) ≡ Ok (c, [])
condact-is p g c code a b =
    let rest : Tokens = parameter_tokens g.words (second_kind c.code) c.b in
    let second : parameter (bounds p g) g.words (second_kind c.code) rest ≡ Ok (c.b, []) =
    ap (parameter (bounds p g) g.words (second_kind c.code)) (sym (append-nil rest)) ∙ b.read [] in
    condact_made (bounds p g) g.words (name_of c.code) (first_tokens g.words c ++ rest) (plain_code c.code) (is_indirect c.code)
    (c.a, rest) (c.b, []) (name_code c.code code) (a.told rest b.no_at) (a.read rest)
    (ap (λ (k : ParamKind). parameter (bounds p g) g.words k rest) (plain_second c.code code) ∙ second)
    ∙ ap (λ (n : ℕ). Ok (record c { code = n }, [])) (code_back c.code)

skipped_both : (p : ℕ) (g : GameLists) (c : Condact) → FirstBack p g c → ParameterBack p g (second_kind c.code) c.b
    → condacts_in (bounds p g) g.words (params_of c.code)
    (first_tokens g.words c ++ parameter_tokens g.words (second_kind c.code) c.b) ≡ Ok []
skipped_both p g c a b =
    let ts : Tokens = first_tokens g.words c ++ parameter_tokens g.words (second_kind c.code) c.b in
    let count : length ts ≡ params_of c.code =
    length-append (first_tokens g.words c) (parameter_tokens g.words (second_kind c.code) c.b)
    ∙ rw (a.count, b.count) refl in
    ap (λ n. condacts_in (bounds p g) g.words n ts) (sym count) ∙ skipped p g ts

condact_read : (p : ℕ) (g : GameLists) (c : Condact) → IsCode c.code → FirstBack p g c → ParameterBack p g (second_kind c.code) c.b
    → condacts_in (bounds p g) g.words 0 (condact_tokens g.words c) ≡ Ok (c ∷ [])
unfolding condacts_in
condact_read p g c code a b = rw (condact-is p g c code a b, skipped_both p g c a b) refl

pub condact_back : (p : ℕ) (g : GameLists) (c : Condact) → Small p g → is_condact g c ≡ true → CondactBack p g c
condact_back p g c s h =
    let both = and_parts (is_code c.code) _ h in
    let code : IsCode c.code = both.0 in
    let parameters =
    and_parts (is_parameter (counts_of g) g.words (first_kind c.code) c.a)
    (is_parameter (counts_of g) g.words (second_kind c.code) c.b) both.1 in
    let a = first_back p g c s parameters.0 in
    let b = parameter_back p g (second_kind c.code) c.b s parameters.1 in
    record {
      plain = and_from _ _ (plain-name_of c.code code)
          (list_all-append is_plain (first_tokens g.words c) _ ∙ and_from _ _ a.plain b.plain);
      read = condact_read p g c code a b;
    }

-- A condact more of an entry.
pub more_condacts-is : (p : ℕ) (g : GameLists) (done : List Condact) (c : Condact) → CondactBack p g c → length done < CONDACT_LIMIT
    → more_condacts (bounds p g) g.words done (condact_tokens g.words c) ≡ Ok (done ++ c ∷ [])
unfolding more_condacts
more_condacts-is p g done c back few =
    let within : ltb CONDACT_LIMIT (length (done ++ c ∷ [])) ≡ false = le-ltb CONDACT_LIMIT _ (omega (arith, length-append done (c ∷ []))) in
    ap (λ (r : Result (List Condact) SourceKind). with_more_condacts done r >>= at_most CONDACT_LIMIT) back.read ∙ rw within refl
