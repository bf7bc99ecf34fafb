-- The part of a record of calls up to one of the stage's calls.
use Rattle.std.proofs.Common.{◌≡◌, ◌≢◌, ℕ, suc, ◌+◌, ◌-◌, ◌≤◌, ◌<◌, Bool, true, false, List, [], ◌∷◌, ◌++◌, length}
use Rattle.std.proofs.Common.{take, drop, get_or}
use Rattle.std.proofs.Common.{refl, sym, ap, ◌∙◌, arith, append_assoc, length-append}
use Rattle.std.specs.Prelude.{Some, None, cond, if◌then◌else◌}
use Rattle.std.specs.List.{filter}
use Rattle.std.proofs.lemmas.List.{drop_more, drop_all, take_all}
use Rattle.std.proofs.lemmas.List.Elements.{filter-append}
use Rattle.paw_base.specs.Bytes.{Bytes}
use Rattle.paw_stage.specs.inner.Done.{DoneCall, is_call, calls_made, first_calls}
use Rattle.paw_stage.specs.inner.Log.{done_in, all_done, IsEndOf}
use Rattle.paw_stage.specs.declared.log.Call.{Call}
use Rattle.paw_stage.proofs.Logs.{done-next}

-- One more, where this is a call of the stage.
abbrev pub one_if : Bool → ℕ
one_if true = 1
one_if false = 0

made_by : (b : Bool) (d : DoneCall) (ds : List DoneCall) → length (cond b (d ∷ ds) ds) ≡ one_if b + length ds
made_by true d ds = omega arith
made_by false d ds = omega arith

made-more : (d : DoneCall) (ds : List DoneCall) → calls_made (d ∷ ds) ≡ one_if (is_call d.kind) + calls_made ds
made-more d ds = made_by (is_call d.kind) d (filter (λ d. is_call d.kind) ds)

made-push : (ds : List DoneCall) (d : DoneCall) → calls_made (ds ++ d ∷ []) ≡ calls_made ds + one_if (is_call d.kind)
made-push ds d =
    let a : calls_made (ds ++ d ∷ []) ≡ length (filter (λ d. is_call d.kind) ds ++ filter (λ d. is_call d.kind) (d ∷ [])) =
    ap length (filter-append (λ d. is_call d.kind) ds (d ∷ [])) in
    let b : length (filter (λ d. is_call d.kind) ds ++ filter (λ d. is_call d.kind) (d ∷ []))
    ≡ calls_made ds + calls_made (d ∷ []) =
    length-append (filter (λ d. is_call d.kind) ds) (filter (λ d. is_call d.kind) (d ∷ [])) in
    let c : calls_made (d ∷ []) ≡ one_if (is_call d.kind) + 0 = made-more d [] in
    omega (arith, a, b, c)

-- ---- counting ----

-- This number of the first k calls are the stage's.
abbrev pub IsCounted : List Call → ℕ → ℕ → Type 0
IsCounted calls k made = (made ≤ k) × ((room : Bytes) → made ≡ calls_made (all_done room (take k calls)))

pub counted_next : (calls : List Call) (k made now : ℕ) (e : Call) → k < length calls → now ≡ made + one_if (is_call (get_or calls k e).kind) →
    IsCounted calls k made → IsCounted calls (k + 1) now
counted_next calls k made now e low is h = (
  within (is_call (get_or calls k e).kind) is h.0,
  λ room. is ∙ (ap (λ n. n + one_if (is_call (get_or calls k e).kind)) (h.1 room)
      ∙ (sym (made-push (all_done room (take k calls)) (done_in room (get_or calls k e)))
      ∙ ap calls_made (sym (done-next room calls k e low)))),
)
  where
    within : (b : Bool) → now ≡ made + one_if b → made ≤ k → now ≤ k + 1
    within true e h = omega arith
    within false e h = omega arith

pub counted_all : (calls : List Call) (k made : ℕ) → length calls ≤ k → IsCounted calls k made →
    (room : Bytes) → made ≡ calls_made (all_done room calls)
counted_all calls k made high h room = h.1 room ∙ ap (λ l. calls_made (all_done room l)) (take_all k calls high)

-- ---- the end of a call ----

-- The first k calls were passed, and this number of calls of the stage stand before the one looked for.
abbrev pub IsPassed : List Call → ℕ → ℕ → ℕ → Type 0
IsPassed calls number k before =
    (room : Bytes) → (before + calls_made (all_done room calls) ≡ number + calls_made (all_done room (drop k calls)))
    × (first_calls (suc number) (all_done room calls)
    ≡ all_done room (take k calls) ++ first_calls (suc before) (all_done room (drop k calls)))

pub passed_none : (calls : List Call) (number : ℕ) → IsPassed calls number 0 number
passed_none calls number room = (refl, refl)

-- The next call and those after it.
rest : (room : Bytes) (calls : List Call) (k : ℕ) (e : Call) → k < length calls →
    all_done room (drop k calls) ≡ done_in room (get_or calls k e) ∷ all_done room (drop (k + 1) calls)
rest room calls k e low = ap (all_done room) (drop_more calls k e low)

counted_on : (b : Bool) (before next a c n : ℕ) → (if b then before else suc before) ≡ suc next →
    before + a ≡ n + (one_if b + c) → next + a ≡ n + c
counted_on true before next a c n e h = omega arith
counted_on false before next a c n e h = omega arith

pub passed_next : (calls : List Call) (number k before next : ℕ) (e : Call) → k < length calls →
    (if is_call (get_or calls k e).kind then before else suc before) ≡ suc next →
    IsPassed calls number k before → IsPassed calls number (k + 1) next
passed_next calls number k before next e low is h room =
    let d : DoneCall = done_in room (get_or calls k e) in
    let back : List DoneCall = all_done room (drop (k + 1) calls) in
    let front : List DoneCall = all_done room (take k calls) in
    let more : calls_made (all_done room (drop k calls)) ≡ one_if (is_call d.kind) + calls_made back =
    ap calls_made (rest room calls k e low) ∙ made-more d back in
    let first : first_calls (suc before) (all_done room (drop k calls)) ≡ d ∷ first_calls (suc next) back =
    ap (first_calls (suc before)) (rest room calls k e low) ∙ ap (λ n. d ∷ first_calls n back) is in (
      counted_on (is_call d.kind) before next (calls_made (all_done room calls)) (calls_made back) number is
          ((h room).0 ∙ ap (λ n. number + n) more),
      (h room).1 ∙ (ap (λ l. front ++ l) first
          ∙ (sym (append_assoc front (d ∷ []) (first_calls (suc next) back))
          ∙ ap (λ l. l ++ first_calls (suc next) back) (sym (done-next room calls k e low)))),
    )

pub passed_call : (calls : List Call) (number k before next : ℕ) (e : Call) (b : Bool) → k < length calls →
    b ≡ is_call (get_or calls k e).kind → b ≡ true → before ≢ 0 → next ≡ before - 1 → IsPassed calls number k before →
    IsPassed calls number (k + 1) next
passed_call calls number k before next e b low is here some last h =
    passed_next calls number k before next e low (ap (λ x. if x then before else suc before) (sym is ∙ here) ∙ omega (arith, last, some)) h

pub passed_file : (calls : List Call) (number k before next : ℕ) (e : Call) (b : Bool) → k < length calls →
    b ≡ is_call (get_or calls k e).kind → b ≡ false → next ≡ before → IsPassed calls number k before →
    IsPassed calls number (k + 1) next
passed_file calls number k before next e b low is other same h =
    passed_next calls number k before next e low (ap (λ x. if x then before else suc before) (sym is ∙ other) ∙ ap suc (sym same)) h

pub ends_here : (calls : List Call) (number k before : ℕ) (e : Call) → k < length calls →
    is_call (get_or calls k e).kind ≡ true → before ≡ 0 → IsPassed calls number k before →
    IsEndOf calls number (Some (k + 1))
ends_here calls number k before e low is none h = (
  omega (arith, low),
  λ room.
      (let d : DoneCall = done_in room (get_or calls k e) in
      let back : List DoneCall = all_done room (drop (k + 1) calls) in
      let front : List DoneCall = all_done room (take k calls) in
      let more : calls_made (all_done room (drop k calls)) ≡ 1 + calls_made back =
      ap calls_made (rest room calls k e low) ∙ (made-more d back ∙ ap (λ b. one_if b + calls_made back) is) in
      let first : first_calls (suc before) (all_done room (drop k calls)) ≡ d ∷ [] =
      ap (λ n. first_calls (suc n) (all_done room (drop k calls))) none
      ∙ (ap (first_calls 1) (rest room calls k e low) ∙ ap (λ b. d ∷ first_calls (if b then 0 else 1) back) is) in (
        omega (arith, (h room).0, more, none),
        (h room).1 ∙ (ap (λ l. front ++ l) first ∙ sym (done-next room calls k e low)),
      )),
)

pub ends_nowhere : (calls : List Call) (number k before : ℕ) → length calls ≤ k → IsPassed calls number k before →
    IsEndOf calls number None
ends_nowhere calls number k before high h room =
    let none : calls_made (all_done room (drop k calls)) ≡ 0 = ap (λ l. calls_made (all_done room l)) (drop_all k calls high) in
    omega (arith, (h room).0, none)
