-- The objects that a loop takes, one by one.
use Rattle.std.proofs.Common.{◌≡◌, ℕ, zero, suc, ◌-◌, ◌≤◌, ◌<◌, Bool, true, false, ◌&&◌, Option, Some, None, length}
use Rattle.std.proofs.Common.{refl, sym, ap, ◌∙◌, arith}
use Rattle.std.specs.Prelude.{◌==◌, if◌then◌else◌}
use Rattle.paw_game.specs.Game.{GameLists}
use Rattle.paw_game.specs.Tables.{facts_at}
use Rattle.paw_world.specs.World.{World, place}
use Rattle.paw_world.specs.inner.World.{first_at}
use Rattle.paw_world.specs.inner.Places.{least_at, left_above}
use Rattle.paw_reading.specs.Reading.{may_be_taken}
use Rattle.paw_process.specs.inner.Objects.{is_next, least_taken}

-- The object found at the place, or the next one that is taken.
abbrev pub tried : GameLists → World → ℕ → Option ℕ → Option ℕ
tried g w p None = None
tried g w p (Some o) = if may_be_taken w (facts_at g o) then Some o else least_taken g w p (length g.objects - suc o)

pub least_taken_tried : (g : GameLists) (w : World) (p n : ℕ) → length w.places ≡ length g.objects → n ≤ length g.objects
    → least_taken g w p n ≡ tried g w p (least_at w.places p n)
unfolding least_taken least_at
least_taken_tried g w p zero same low = refl
least_taken_tried g w p (suc n) same low =
    rw same (go (least_taken_tried g w p n same (omega arith)) (place w (length g.objects - suc n) == p))
  where
    here : (b : Bool) → length g.objects - suc (length g.objects - suc n) ≡ n
        → ◌≡◌ {A = Option ℕ} (if b then Some (length g.objects - suc n) else least_taken g w p n)
        (if b then Some (length g.objects - suc n) else least_taken g w p (length g.objects - suc (length g.objects - suc n)))
    here b e = rw e refl

    go : least_taken g w p n ≡ tried g w p (least_at w.places p n) → (b : Bool)
        → ◌≡◌ {A = Option ℕ} (if b && may_be_taken w (facts_at g (length g.objects - suc n)) then Some (length g.objects - suc n)
        else least_taken g w p n) (tried g w p (if b then Some (length g.objects - suc n) else least_at w.places p n))
    go later true = here (may_be_taken w (facts_at g (length g.objects - suc n))) (omega arith)
    go later false = later

pub left_above_low : (w : World) (above : Option ℕ) → left_above w.places above ≤ length w.places
left_above_low w None = omega arith
left_above_low w (Some o) = omega arith

-- The object that is found next, or the one after it.
found_next : (g : GameLists) (w : World) (p : ℕ) (last found : Option ℕ) → length w.places ≡ length g.objects → found ≡ first_at w p last
    → least_taken g w p (left_above w.places last) ≡ tried g w p found
found_next g w p last found same h =
    least_taken_tried g w p (left_above w.places last) same (omega (arith, left_above_low w last)) ∙ ap (tried g w p) (sym h)

pub found_taken : (g : GameLists) (w : World) (p : ℕ) (last : Option ℕ) (o : ℕ) (x : Option ℕ) → length w.places ≡ length g.objects
    → x ≡ least_taken g w p (left_above w.places last) → Some o ≡ first_at w p last → true ≡ may_be_taken w (facts_at g o) → Some o ≡ x
found_taken g w p last o x same h is may =
    let e : tried g w p (Some o) ≡ Some o = rw (← may) refl in
    sym (h ∙ (found_next g w p last (Some o) same is ∙ e))

pub found_passed : (g : GameLists) (w : World) (p : ℕ) (last : Option ℕ) (o : ℕ) (x : Option ℕ) → length w.places ≡ length g.objects
    → x ≡ least_taken g w p (left_above w.places last) → Some o ≡ first_at w p last → false ≡ may_be_taken w (facts_at g o)
    → x ≡ least_taken g w p (length w.places - suc o)
found_passed g w p last o x same h is may =
    let e : tried g w p (Some o) ≡ least_taken g w p (length w.places - suc o) = rw (← may, same) refl in
    h ∙ (found_next g w p last (Some o) same is ∙ e)

pub found_none : (g : GameLists) (w : World) (p : ℕ) (last : Option ℕ) (x : Option ℕ) → length w.places ≡ length g.objects
    → x ≡ least_taken g w p (left_above w.places last) → None ≡ first_at w p last → None ≡ x
found_none g w p last x same h is = sym (h ∙ found_next g w p last None same is)

-- The object that is taken is among the last n.
least_taken_within : (g : GameLists) (w : World) (p n o : ℕ) → n ≤ length g.objects → least_taken g w p n ≡ Some o
    → (length g.objects - n ≤ o) × (o < length g.objects)
unfolding least_taken
least_taken_within g w p zero o low h = cc
least_taken_within g w p (suc n) o low h = go (least_taken_within g w p n o (omega arith)) (is_next g w p (length g.objects - suc n)) h
  where
    go : (least_taken g w p n ≡ Some o → (length g.objects - n ≤ o) × (o < length g.objects)) → (b : Bool)
        → ◌≡◌ {A = Option ℕ} (if b then Some (length g.objects - suc n) else least_taken g w p n) (Some o)
        → (length g.objects - suc n ≤ o) × (o < length g.objects)
    go later true q = let e : length g.objects - suc n ≡ o = cc in (omega arith, omega arith)
    go later false q = let m = later q in (omega (arith, m.0), m.1)

-- The object that is taken after another is above it.
pub taken_above : (g : GameLists) (w : World) (p last o : ℕ) → length w.places ≡ length g.objects
    → Some o ≡ least_taken g w p (left_above w.places (Some last)) → last < o
taken_above g w p last o same h =
    let m = least_taken_within g w p (length w.places - suc last) o (omega arith) (sym h) in
    omega (arith, m.0, m.1)
