-- The first fault of the list of fields is that of its parts.
use Rattle.std.proofs.Common.{◌≡◌, ℕ, zero, suc, ◌+◌, ◌-◌, ◌≤◌, ◌==◌, ◌||◌, Bool, true, false, List, [], ◌∷◌, ◌++◌}
use Rattle.std.proofs.Common.{Option, Some, None, length, take, drop, refl, sym, ap, ◌∙◌, add-one, arith}
use Rattle.std.specs.Prelude.{All, flat_map, nat_le, nat_lt, is_some, if◌then◌else◌}
use Rattle.std.specs.Option.{option_map, option_map_or, option_or}
use Rattle.std.proofs.lemmas.List.{length-append}
use Rattle.std.proofs.lemmas.Bool.Decides.{nat_tests}
use Rattle.paw_base.specs.Bytes.{Bytes, ObjectPlaces}
use Rattle.paw_base.specs.declared.limits.TheConstants.{FLAG_COUNT}
use Rattle.paw_base.specs.declared.codes.TheConstants.{PROCESS}
use Rattle.paw_game.specs.Game.{GameLists}
use Rattle.paw_game.specs.Tables.{head_at, condact_at}
use Rattle.paw_game.specs.Valid.{is_place}
use Rattle.paw_process.specs.Kept.{may_open, has_code, parameter_of}
use Rattle.paw_process.specs.inner.Kept.{is_that_table}
use Rattle.paw_state.specs.declared.fields.TheConstants.{POSITION_LENGTH, POSITION_FLAGS, POSITION_PLACES, FRAME_ENTRY}
use Rattle.paw_state.specs.declared.fields.TheConstants.{FRAME_AT, FRAME_ACTED, FRAME_LENGTH}
use Rattle.paw_state.specs.declared.fields.FrameField.{FrameField}
use Rattle.paw_state.specs.declared.fields.Fields.{Fields}
use Rattle.paw_state.specs.declared.position_field.PositionField.{PositionField}
use Rattle.paw_state.specs.Fields.{Field, one_by_one, if_there, bytes_of, fault_from, place_holds, position_fields}
use Rattle.paw_state.specs.Fields.{frame_fields, frames_fields, IsSizedPosition, prompt_of}
use Rattle.paw_state.specs.Fields.{flag_fields, place_fields}
use Rattle.paw_state.specs.Fields.{line_fields}
use Rattle.paw_effects.specs.declared.act.Prompt.TheVariants as prompt
use Rattle.paw_state.specs.inner.Faults.{rule, first, first_not, is_zero, places_fault, absent_fault, position_fault}
use Rattle.paw_state.specs.inner.Faults.{kept_fault, frame_fault, frame_fields_fault}
use Rattle.paw_state.proofs.Shaped.{length-held}
use Rattle.paw_state.proofs.Listed.{each_bytes, there_bytes, held_same, frame_same}

-- ---- options ----

pub or_none : (a : Option ℕ) → option_or a None ≡ a
or_none None = refl
or_none (Some x) = refl

or_assoc : (a b c : Option ℕ) → option_or (option_or a b) c ≡ option_or a (option_or b c)
or_assoc None b c = refl
or_assoc (Some x) b c = refl

-- A rule, and then others.
ruled : (at : ℕ) (holds : Bool) (x y : Option ℕ) → x ≡ y → (if holds then x else Some at) ≡ option_or (rule at holds) y
ruled at true x y e = e
ruled at false x y e = refl

-- ---- lists of fields ----

-- Fields, and then others.
pub joined : (g : GameLists) (at : ℕ) (xs ys : List Field) →
    fault_from g at (xs ++ ys) ≡ option_or (fault_from g at xs) (fault_from g (at + length (bytes_of xs)) ys)
unfolding fault_from
joined g at [] ys = let e : at ≡ at + 0 = omega arith in ap (λ (i : ℕ). fault_from g i ys) e
joined g at (x ∷ xs) ys = go (x.holds g)
    (joined g (at + length x.bytes) xs ys)
  where
    behind : at + length x.bytes + length (bytes_of xs) ≡ at + length (x.bytes ++ bytes_of xs)
    behind = omega (arith, length-append x.bytes (bytes_of xs))

    go : (b : Bool) → fault_from g (at + length x.bytes) (xs ++ ys)
        ≡ option_or (fault_from g (at + length x.bytes) xs) (fault_from g (at + length x.bytes + length (bytes_of xs)) ys)
        → ◌≡◌ {A = Option ℕ} (if b then fault_from g (at + length x.bytes) (xs ++ ys) else Some at)
        (option_or (if b then fault_from g (at + length x.bytes) xs else Some at) (fault_from g (at + length (x.bytes ++ bytes_of xs)) ys))
    go true e = e ∙ ap (λ (i : ℕ). option_or (fault_from g (at + length x.bytes) xs) (fault_from g i ys)) behind
    go false e = refl

-- A field whose rule holds, and others without a fault.
pub first_holds : (g : GameLists) (at : ℕ) (x : Field) (xs : List Field) → fault_from g at (x ∷ xs) ≡ None
    → (x.holds g ≡ true) × (fault_from g (at + length x.bytes) xs ≡ None)
unfolding fault_from
first_holds g at x xs h = go (x.holds g) refl h
  where
    go : (b : Bool) → x.holds g ≡ b → ◌≡◌ {A = Option ℕ} (if b then fault_from g (at + length x.bytes) xs else Some at) None
        → (x.holds g ≡ true) × (fault_from g (at + length x.bytes) xs ≡ None)
    go true e q = (e, q)
    go false e q = cc

pub nothing_left : (g : GameLists) (at : ℕ) → fault_from g at [] ≡ None
unfolding fault_from
nothing_left g at = refl

pub all_hold : (g : GameLists) (at : ℕ) (x : Field) (xs : List Field) → x.holds g ≡ true → fault_from g (at + length x.bytes) xs ≡ None
    → fault_from g at (x ∷ xs) ≡ None
unfolding fault_from
all_hold g at x xs h k = rw h k

pub step : (g : GameLists) (at n : ℕ) (xs ys : List Field) (x y : Option ℕ) → fault_from g at xs ≡ x → length (bytes_of xs) ≡ n
    → fault_from g (at + n) ys ≡ y → fault_from g at (xs ++ ys) ≡ option_or x y
step g at n xs ys x y e k h =
    joined g at xs ys
    ∙ (ap (λ (o : Option ℕ). option_or o (fault_from g (at + length (bytes_of xs)) ys)) e
    ∙ (ap (λ (i : ℕ). option_or x (fault_from g (at + i) ys)) k ∙ ap (option_or x) h))

-- ---- bytes ----

-- Bytes without a rule.
pub free : (g : GameLists) (at i : ℕ) (bs : Bytes) → fault_from g at (one_by_one (λ i b g. true) i bs) ≡ None
unfolding fault_from one_by_one
free g at i [] = refl
free g at i (b ∷ bs) = free g (at + 1) (suc i) bs

-- Bytes that have one rule from number n on.
behind : (g : GameLists) (h : ℕ → ℕ → GameLists → Bool) (q : ℕ → Bool) (n : ℕ) → ((i b : ℕ) → n ≤ i → h i b g ≡ q b)
    → (at i : ℕ) (bs : Bytes) → n ≤ i → fault_from g at (one_by_one h i bs) ≡ first_not q at bs
unfolding fault_from one_by_one first_not
behind g h q n e at i [] low = refl
behind g h q n e at i (b ∷ bs) low =
    let k : at + 1 ≡ suc at = add-one at in
    rw (e i b low, k) (ap (λ (o : Option ℕ). if q b then o else Some at) (behind g h q n e (suc at) (suc i) bs (omega (arith, low))))

-- Bytes that have one rule up to number n, and another one from there on.
pub parted : (g : GameLists) (h : ℕ → ℕ → GameLists → Bool) (p q : ℕ → Bool) (n : ℕ)
    → ((i b : ℕ) → suc i ≤ n → h i b g ≡ p b) → ((i b : ℕ) → n ≤ i → h i b g ≡ q b)
    → (m at i : ℕ) (bs : Bytes) → i + m ≡ n
    → fault_from g at (one_by_one h i bs) ≡ option_or (first_not p at (take m bs)) (first_not q (at + m) (drop m bs))
unfolding fault_from one_by_one first_not
parted g h p q n ep eq zero at i bs s =
    let k : at ≡ at + 0 = omega arith in
    behind g h q n eq at i bs (omega (arith, s)) ∙ ap (λ (j : ℕ). first_not q j bs) k
parted g h p q n ep eq (suc m) at i [] s = refl
parted g h p q n ep eq (suc m) at i (b ∷ bs) s = go (p b) (ep i b (omega (arith, s))) (parted g h p q n ep eq m (suc at) (suc i) bs (omega (arith, s)))
  where
    there : suc at + m ≡ at + suc m
    there = omega arith

    go : (t : Bool) → h i b g ≡ t
        → fault_from g (suc at) (one_by_one h (suc i) bs) ≡ option_or (first_not p (suc at) (take m bs)) (first_not q (suc at + m) (drop m bs))
        → ◌≡◌ {A = Option ℕ} (if h i b g then fault_from g (at + 1) (one_by_one h (suc i) bs) else Some at)
        (option_or (if t then first_not p (suc at) (take m bs) else Some at) (first_not q (at + suc m) (drop m bs)))
    go true e r =
        let k : at + 1 ≡ suc at = add-one at in
        rw (e, k) (r ∙ ap (λ (j : ℕ). option_or (first_not p (suc at) (take m bs)) (first_not q j (drop m bs))) there)
    go false e r = rw e refl

nothing : (at : ℕ) (bs : Bytes) → first_not (λ b. true) at bs ≡ None
unfolding first_not
nothing at [] = refl
nothing at (b ∷ bs) = nothing (suc at) bs

pub places_same : (g : GameLists) (at : ℕ) (places : ObjectPlaces) → fault_from g at (place_fields places) ≡ places_fault g at places
places_same g at places =
    let n = length g.objects in
    let p = is_place (length g.locations) in
    parted g place_holds p is_zero n (λ i b low. let t : nat_lt i n ≡ true = grind (arith, nat_tests) in rw t refl)
    (λ i b low. let t : nat_lt i n ≡ false = grind (arith, nat_tests) in rw t refl) n at 0 places (omega arith)
    ∙ ap (option_or (first_not p at (take n places))) (sym (or_none (first_not is_zero (at + n) (drop n places))))

pub line_same : (g : GameLists) (at : ℕ) (f : Fields) → fault_from g at (line_fields f) ≡ first_not is_zero (at + f.pending) (drop f.pending f.line)
line_same g at f =
    let n = f.pending in
    parted g (λ i b g. nat_lt i n || (b == 0)) (λ b. true) is_zero n (λ i b low. let t : nat_lt i n ≡ true = grind (arith, nat_tests) in rw t refl)
    (λ i b low. let t : nat_lt i n ≡ false = grind (arith, nat_tests) in rw t refl) n at 0 f.line (omega arith)
    ∙ ap (λ (o : Option ℕ). option_or o (first_not is_zero (at + n) (drop n f.line))) (nothing at (take n f.line))

-- ---- what may be there ----

there_joined : (n : ℕ) (xs ys : List Field) → if_there n (xs ++ ys) ≡ if_there n xs ++ if_there n ys
unfolding if_there
there_joined n [] ys = refl
there_joined n (x ∷ xs) ys =
    ap (λ (l : List Field). record x { holds = λ g. if n == 0 then x.value == 0 else x.holds g } ∷ l) (there_joined n xs ys)

there_zero : (g : GameLists) (n : ℕ) (h : ℕ → ℕ → GameLists → Bool) (at i : ℕ) (bs : Bytes) → (n == 0) ≡ true
    → fault_from g at (if_there n (one_by_one h i bs)) ≡ first_not is_zero at bs
unfolding fault_from if_there one_by_one first_not
there_zero g n h at i [] e = refl
there_zero g n h at i (b ∷ bs) e =
    let k : at + 1 ≡ suc at = add-one at in
    rw (e, k) (ap (λ (o : Option ℕ). if b == 0 then o else Some at) (there_zero g n h (suc at) (suc i) bs e))

there_is : (g : GameLists) (n : ℕ) (at : ℕ) (fs : List Field) → (n == 0) ≡ false → fault_from g at (if_there n fs) ≡ fault_from g at fs
unfolding fault_from if_there
there_is g n at [] e = refl
there_is g n at (f ∷ fs) e = rw e (ap (λ (o : Option ℕ). if f.holds g then o else Some at) (there_is g n (at + length f.bytes) fs e))

-- ---- positions ----

held_there : (g : GameLists) (at : ℕ) (h : PositionField) (b : Bool) → IsSizedPosition h → (h.there == 0) ≡ b
    → fault_from g (at + POSITION_FLAGS) (if_there h.there (flag_fields h.flags ++ place_fields h.places))
    ≡ (if b then absent_fault at h else places_fault g (at + POSITION_PLACES) h.places)
held_there g at h true s e =
    let flags = if_there h.there (flag_fields h.flags) in
    let places = if_there h.there (place_fields h.places) in
    let long : length (bytes_of flags) ≡ FLAG_COUNT = ap length (there_bytes h.there (flag_fields h.flags) ∙ each_bytes _ 0 h.flags) ∙ s.flags in
    let k : at + POSITION_FLAGS + FLAG_COUNT ≡ at + POSITION_PLACES = omega arith in
    ap (fault_from g (at + POSITION_FLAGS)) (there_joined h.there (flag_fields h.flags) (place_fields h.places))
    ∙ (step g (at + POSITION_FLAGS) FLAG_COUNT flags places (first_not is_zero (at + POSITION_FLAGS) h.flags)
    (first_not is_zero (at + POSITION_PLACES) h.places)
    (there_zero g h.there _ (at + POSITION_FLAGS) 0 h.flags e) long (rw k (there_zero g h.there _ (at + POSITION_PLACES) 0 h.places e))
    ∙ ap (option_or (first_not is_zero (at + POSITION_FLAGS) h.flags)) (sym (or_none (first_not is_zero (at + POSITION_PLACES) h.places))))
held_there g at h false s e =
    let long : length (bytes_of (flag_fields h.flags)) ≡ FLAG_COUNT = ap length (each_bytes _ 0 h.flags) ∙ s.flags in
    let k : at + POSITION_FLAGS + FLAG_COUNT ≡ at + POSITION_PLACES = omega arith in
    there_is g h.there (at + POSITION_FLAGS) (flag_fields h.flags ++ place_fields h.places) e
    ∙ step g (at + POSITION_FLAGS) FLAG_COUNT (flag_fields h.flags) (place_fields h.places) None (places_fault g (at + POSITION_PLACES) h.places)
    (free g (at + POSITION_FLAGS) 0 h.flags) long (rw k (places_same g (at + POSITION_PLACES) h.places))

pub held_faults : (g : GameLists) (at : ℕ) (h : PositionField) → IsSizedPosition h → fault_from g at (position_fields h) ≡ position_fault g at h
unfolding fault_from
held_faults g at h s =
    ruled at (nat_le h.there 1) _ _
    (held_there g at h (h.there == 0) s refl ∙ sym (or_none (if h.there == 0 then absent_fault at h else places_fault g (at + POSITION_PLACES) h.places)))

pub kept_faults : (g : GameLists) (at : ℕ) (hs : List PositionField) → All IsSizedPosition hs → fault_from g at (flat_map position_fields hs) ≡ kept_fault g at hs
unfolding fault_from kept_fault
kept_faults g at [] s = refl
kept_faults g at (h ∷ hs) s =
    let own = s 0 h (omega arith) in
    step g at POSITION_LENGTH (position_fields h) (flat_map position_fields hs) (position_fault g at h) (kept_fault g (at + POSITION_LENGTH) hs) (held_faults g at h own)
    (ap length (held_same h) ∙ length-held h own)
    (kept_faults g (at + POSITION_LENGTH) hs (λ i d low. s (suc i) d (omega (arith, low))))

-- ---- frames ----

four_rules : (at : ℕ) (a b c d : Bool) →
    ◌≡◌ {A = Option ℕ} (if a then (if b then (if c then (if d then None else Some (at + 1 + 2 + 1)) else Some (at + 1 + 2)) else Some (at + 1)) else Some at)
    (first (rule at a ∷ rule (at + FRAME_ENTRY) b ∷ rule (at + FRAME_AT) c ∷ rule (at + FRAME_ACTED) d ∷ []))
four_rules at false b c d = refl
four_rules at true false c d = refl
four_rules at true true false d = ap Some (omega arith)
four_rules at true true true false = ap Some (omega arith)
four_rules at true true true true = refl

frame_faults : (g : GameLists) (code : ℕ) (caller : GameLists → Option ℕ) (n at : ℕ) (r : FrameField)
    → fault_from g at (frame_fields code caller n r) ≡ frame_fault g code (caller g) n at r
unfolding fault_from if_there
frame_faults g code caller n at r = go (n == 0)
  where
    opens : Bool
    opens = may_open (caller g) r.table

    heads : Bool
    heads = is_some (head_at g r.table r.entry)

    codes : Bool
    codes = has_code (if n == 1 then code else PROCESS) (condact_at g r.table r.entry r.at)

    go : (b : Bool) →
        ◌≡◌ {A = Option ℕ} (if (if b then r.table == 0 else may_open (caller g) r.table)
        then (if (if b then r.entry == 0 else is_some (head_at g r.table r.entry))
        then (if (if b then r.at == 0 else has_code (if n == 1 then code else PROCESS) (condact_at g r.table r.entry r.at))
        then (if (if b then r.acted == 0 else nat_le r.acted 1) then None else Some (at + 1 + 2 + 1)) else Some (at + 1 + 2)) else Some (at + 1)) else Some at)
        (if b then first (rule at (r.table == 0) ∷ rule (at + FRAME_ENTRY) (r.entry == 0) ∷ rule (at + FRAME_AT) (r.at == 0)
        ∷ rule (at + FRAME_ACTED) (r.acted == 0) ∷ [])
        else first (rule at (may_open (caller g) r.table) ∷ rule (at + FRAME_ENTRY) (is_some (head_at g r.table r.entry))
        ∷ rule (at + FRAME_AT) (has_code (if n == 1 then code else PROCESS) (condact_at g r.table r.entry r.at))
        ∷ rule (at + FRAME_ACTED) (nat_le r.acted 1) ∷ []))
    go true = four_rules at (r.table == 0) (r.entry == 0) (r.at == 0) (r.acted == 0)
    go false = four_rules at opens heads codes (nat_le r.acted 1)

pub frames_faults : (g : GameLists) (code : ℕ) (caller : GameLists → Option ℕ) (n at : ℕ) (rs : List FrameField)
    → fault_from g at (frames_fields code caller n rs) ≡ frame_fields_fault g code (caller g) n at rs
unfolding fault_from frames_fields frame_fields_fault
frames_faults g code caller n at [] = refl
frames_faults g code caller n at (r ∷ rs) =
    let next : GameLists → Option ℕ = λ g. Some (parameter_of (condact_at g r.table r.entry r.at)) in
    step g at FRAME_LENGTH (frame_fields code caller n r) (frames_fields code next (n - 1) rs) (frame_fault g code (caller g) n at r) _
    (frame_faults g code caller n at r) (ap length (frame_same code caller n r)) (frames_faults g code next (n - 1) (at + FRAME_LENGTH) rs)

-- ---- the open loop ----

-- A frame of this table.
pub table_same : (t : ℕ) (o : Option FrameField) → option_map_or (λ r. t == r.table) o false ≡ is_that_table (option_map (λ r. r.table) o) t
table_same t None = refl
table_same t (Some r) = refl

-- ---- the prompt ----

pub prompt_chain : (n : ℕ) → prompt_of n
    ≡ (if n == 0 then prompt.Main else if n == 1 then prompt.Quit else if n == 2 then prompt.Again else if n == 3 then prompt.Key else prompt.Over)
prompt_chain zero = refl
prompt_chain (suc zero) = refl
prompt_chain (suc (suc zero)) = refl
prompt_chain (suc (suc (suc zero))) = refl
prompt_chain (suc (suc (suc (suc n)))) =
    let a : (suc (suc (suc (suc n))) == 0) ≡ false = grind (arith, nat_tests) in
    let b : (suc (suc (suc (suc n))) == 1) ≡ false = grind (arith, nat_tests) in
    let c : (suc (suc (suc (suc n))) == 2) ≡ false = grind (arith, nat_tests) in
    let d : (suc (suc (suc (suc n))) == 3) ≡ false = grind (arith, nat_tests) in
    rw (a, b, c, d) refl
