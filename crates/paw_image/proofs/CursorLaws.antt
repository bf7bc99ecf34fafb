-- The condacts that a cursor stands at.
use Rattle.std.proofs.Common.{◌≡◌, ℕ, zero, suc, ◌+◌, ◌-◌, ◌<◌, ◌≤◌, [], ◌∷◌, length, take, drop, get_or, Option}
use Rattle.std.proofs.Common.{Some, None, Ok}
use Rattle.std.proofs.Common.{refl, sym, ap, subst, ◌∙◌, inl, inr, arith}
use Rattle.std.proofs.lemmas.Bool.{cases_lt, lt-ltb, le-ltb}
use Rattle.std.proofs.lemmas.List.{length-drop, take_all}
use Rattle.paw_base.specs.Bytes.{Bytes}
use Rattle.paw_base.specs.declared.parts.Condact.{Condact}
use Rattle.std.specs.Prelude.{IfSome}
use Rattle.std.proofs.lemmas.Option.{none-some, same_Some, slice_get-get_or}
use Rattle.paw_game.specs.Tables.{condact_at, condacts_of, entry_at}
use Rattle.paw_read_error.specs.Bind.{◌>>=◌}
use Rattle.paw_image.specs.Damage.{Passing, each}
use Rattle.paw_image.specs.Reading.{Reading}
use Rattle.paw_image.specs.inner.Milestones.{IsEnd, AreFrom, AreNth}
use Rattle.paw_image.specs.inner.Reading.{IsFault, leading_condact}
use Rattle.paw_image.specs.inner.Rows.{past_condact, condact_among, head_here, nth_condact, value_of}
use Rattle.paw_image.specs.inner.Views.{game_read, AreLeft, CondactsStand, EntryStands, HeadCounts, condact_count}
use Rattle.paw_image.proofs.CondactLaws.{each_add, each_more}
use Rattle.paw_image.proofs.EndLaws.{end_whole, end_taken, end_of_end, end_fits}
use Rattle.paw_image.proofs.Faults.{fault_first, no_value}
use Rattle.paw_image.proofs.FieldLaws.{IsBytes, at_ok, bind_then}
use Rattle.paw_image.proofs.RowLaws.{condact_takes}

-- ---- the end of the bytes ----

after_first : (b : ℕ) (bytes : Bytes) → IsEnd (b ∷ bytes) bytes
after_first b bytes = let n : length (b ∷ bytes) - length bytes ≡ 1 = omega arith in rw n refl

pub drop_end : (n : ℕ) (bytes : Bytes) → IsEnd bytes (drop n bytes)
drop_end zero bytes = end_whole bytes
drop_end (suc n) [] = refl
drop_end (suc n) (b ∷ bytes) = end_of_end (b ∷ bytes) bytes (drop n bytes) (after_first b bytes) (drop_end n bytes)

-- Condacts that were walked over end where the last of the bytes begin.
pub walked_end : (n : ℕ) (bytes rest : Bytes) → IsBytes bytes → each past_condact n bytes ≡ Ok rest → IsEnd bytes rest
unfolding each
walked_end zero bytes rest fits e = at_ok (λ (r : Bytes). IsEnd bytes r) bytes rest e (end_whole bytes)
walked_end (suc n) bytes rest fits e =
    bind_then _ (past_condact bytes) _ rest e (λ after after_ok e.
    bind_then _ (leading_condact bytes) _ after after_ok (λ c c_ok same.
    let first = at_ok (λ (r : Bytes). IsEnd bytes r) c.1 after same (end_taken bytes _ c.1 (condact_takes bytes c fits c_ok)) in
    end_of_end bytes after rest first (walked_end n after rest (end_fits bytes after fits first) e)))

-- ---- condacts after others ----

among_past : (k count : ℕ) (bytes : Bytes) → count ≤ k → condact_among k count bytes ≡ None
among_past k count bytes le = rw (le-ltb k count le) refl

pub among_none : (k : ℕ) (bytes : Bytes) → condact_among k 0 bytes ≡ None
among_none k bytes = among_past k 0 bytes (omega arith)

-- No condact is left from a number on that isn't below their count.
pub none_from : (at count : ℕ) (condacts rest : Bytes) → count ≤ at → AreFrom at count condacts 0 rest
none_from at count condacts rest le k = among_none k rest ∙ sym (among_past (at + k) count condacts (omega (arith, le)))

-- Past the first m condacts stand those from number m on.
pub among_from : (m count left : ℕ) (condacts rest : Bytes) → each past_condact m condacts ≡ Ok rest → count ≡ m + left
    → AreFrom m count condacts left rest
among_from m count left condacts rest e sum k =
    elim (cases_lt k left) [
      | inl lt ↦
          rw (lt-ltb k left lt, lt-ltb (m + k) count (omega (arith, lt, sum)), each_more past_condact m k (m + k) condacts rest refl e) refl
      | inr le ↦ among_past k left rest le ∙ sym (among_past (m + k) count condacts (omega (arith, le, sum)))
    ]

-- Where there is a fault among the condacts before, none stands from there on.
pub fault_from : (m n at count : ℕ) (condacts rest end : Bytes) → each past_condact m condacts ≡ Ok rest → IsFault (each past_condact n rest)
    → at ≡ m + n → AreFrom at count condacts 0 end
fault_from m n at count condacts rest end e fault sum k =
    let walk = each_more past_condact m (n + k) (at + k) condacts rest (omega (arith, sum)) e ∙ each_add past_condact n k rest in
    let none = no_value (each past_condact (at + k) condacts >>= leading_condact)
    (subst (λ (p : Passing). IsFault (p >>= leading_condact)) (sym walk)
    (fault_first (each past_condact n rest >>= each past_condact k) leading_condact
    (fault_first (each past_condact n rest) (each past_condact k) fault))) in
    elim (cases_lt (at + k) count) [
      | inl lt ↦ among_none k end ∙ sym (rw (lt-ltb (at + k) count lt) none)
      | inr le ↦ among_none k end ∙ sym (among_past (at + k) count condacts le)
    ]

-- ---- the condacts of the entry at the front ----

nth_from : (at left : ℕ) (row rest : Bytes) → 3 ≤ length row → AreFrom at (get_or row 2 0) (take (length row - 3) (drop 3 row)) left rest
    → AreNth at row left rest
unfolding nth_condact
nth_from at left [] rest le h = absurd (omega (arith, le))
nth_from at left (verb ∷ []) rest le h = absurd (omega (arith, le))
nth_from at left (verb ∷ noun ∷ []) rest le h = absurd (omega (arith, le))
nth_from at left (verb ∷ noun ∷ count ∷ condacts) rest le h =
    subst (λ (cs : Bytes). AreFrom at count cs left rest) (take_all (length (verb ∷ noun ∷ count ∷ condacts) - 3) condacts (omega arith)) h

condacts_end : (row : Bytes) → 3 ≤ length row → IsEnd row (take (length row - 3) (drop 3 row))
condacts_end row le = subst (IsEnd row) (sym (take_all (length row - 3) (drop 3 row) (omega (arith, length-drop 3 row)))) (drop_end 3 row)

-- They are those that begin at an offset of the bytes.
pub nth_read : (bytes : Bytes) (start at left : ℕ) (row rest : Bytes) → row ≡ drop start bytes → 3 ≤ length row
    → AreFrom at (get_or row 2 0) (take (length row - 3) (drop 3 row)) left rest → IsEnd (take (length row - 3) (drop 3 row)) rest
    → AreNth at (drop start bytes) left (drop (length bytes - length rest) bytes)
nth_read bytes start at left row rest same le from end =
    let within = end_of_end row (take (length row - 3) (drop 3 row)) rest (condacts_end row le) end in
    let all = end_of_end bytes row rest (subst (IsEnd bytes) (sym same) (drop_end start bytes)) within in
    subst (λ (r : Bytes). AreNth at r left (drop (length bytes - length rest) bytes)) same
    (subst (λ (r : Bytes). AreNth at row left r) (sym all) (nth_from at left row rest le from))

-- ---- the condact at the front, and the next ----

pub among_first : (left : ℕ) (bytes : Bytes) → 0 < left → condact_among 0 left bytes ≡ value_of (leading_condact bytes)
unfolding each
among_first left bytes lt = rw (lt-ltb 0 left lt) refl

past_one : (bytes rest : Bytes) (c : Condact) → leading_condact bytes ≡ Ok (c, rest) → each past_condact 1 bytes ≡ Ok rest
unfolding each
past_one bytes rest c e = rw e refl

-- ---- a cursor ----

pub stands_first : (bytes : Bytes) (t e at left offset : ℕ) → CondactsStand bytes t e at left offset → 0 < left
    → value_of (leading_condact (drop offset bytes)) ≡ condact_at (game_read bytes) t e at
stands_first bytes t e at left offset stands lt =
    let here : at + 0 ≡ at = omega arith in
    sym (among_first left (drop offset bytes) lt) ∙ stands 0 ∙ ap (λ (n : ℕ). condact_at (game_read bytes) t e n) here

pub stands_read : (bytes : Bytes) (t e at left offset next : ℕ) (c : Condact) → CondactsStand bytes t e at left offset → 0 < left
    → leading_condact (drop offset bytes) ≡ Ok (c, drop next bytes) → condact_at (game_read bytes) t e at ≡ Some c
stands_read bytes t e at left offset next c stands lt is =
    sym (stands_first bytes t e at left offset stands lt) ∙ ap (λ (r : Reading Condact). value_of r) is

pub stands_none : (bytes : Bytes) (t e at left offset : ℕ) → CondactsStand bytes t e at left offset → left ≡ 0
    → condact_at (game_read bytes) t e at ≡ None
stands_none bytes t e at left offset stands none =
    let here : at ≡ at + 0 = omega arith in
    ap (λ (n : ℕ). condact_at (game_read bytes) t e n) here ∙ sym (stands 0) ∙ among_past 0 left (drop offset bytes) (omega (arith, none))

pub stands_next : (bytes : Bytes) (t e at left offset next : ℕ) (c : Condact) → CondactsStand bytes t e at left offset → 0 < left
    → leading_condact (drop offset bytes) ≡ Ok (c, drop next bytes) → CondactsStand bytes t e (at + 1) (left - 1) next
stands_next bytes t e at left offset next c stands lt is k =
    let past = past_one (drop offset bytes) (drop next bytes) c is in
    let same : at + (1 + k) ≡ at + 1 + k = omega arith in
    among_from 1 left (left - 1) (drop offset bytes) (drop next bytes) past (omega (arith, lt)) k
    ∙ stands (1 + k) ∙ ap (λ (n : ℕ). condact_at (game_read bytes) t e n) same

pub stands_in : (bytes : Bytes) (t e at left offset start : ℕ) → EntryStands bytes t e start
    → AreNth at (drop start bytes) left (drop offset bytes) → CondactsStand bytes t e at left offset
stands_in bytes t e at left offset start there are k = are k ∙ there (at + k)

pub stands_nowhere : (bytes : Bytes) (t e at offset : ℕ) → entry_at (game_read bytes) t e ≡ None → CondactsStand bytes t e at 0 offset
stands_nowhere bytes t e at offset none k = among_none k (drop offset bytes) ∙ sym (rw none refl)

-- A condact for where there is none.
no_condact : Condact
no_condact = record { code = 0; a = 0; b = 0 }

-- Where condacts are left, the first of them is there.
pub left_there : (bytes : Bytes) (t e at left offset : ℕ) → CondactsStand bytes t e at left offset → AreLeft bytes t e at left → 0 < left
    → value_of (leading_condact (drop offset bytes)) ≡ None → ⊥
left_there bytes t e at left offset stands there lt none =
    let here = stands_first bytes t e at left offset stands lt in
    let within : at < condact_count bytes t e = omega (arith, there lt, lt) in
    none-some (get_or (condacts_of (entry_at (game_read bytes) t e)) at no_condact)
    (sym none ∙ here ∙ slice_get-get_or (condacts_of (entry_at (game_read bytes) t e)) at no_condact within)

-- After one of them, one fewer is left.
pub left_next : (bytes : Bytes) (t e at left : ℕ) → AreLeft bytes t e at left → 0 < left → AreLeft bytes t e (at + 1) (left - 1)
left_next bytes t e at left there lt some = omega (arith, there lt, lt, some)

-- An entry has the condacts that its head counts.
pub left_in : (bytes : Bytes) (t e at left start : ℕ) → HeadCounts bytes t e start
    → (0 < left → IfSome (head_here (drop start bytes)) (λ x. at + left ≤ x.1)) → AreLeft bytes t e at left
left_in bytes t e at left start counts few some =
    subst (λ (h : Option ((ℕ × ℕ) × ℕ)). IfSome h (λ x. at + left ≤ x.1)) counts.1 (few some)

pub left_whole : (bytes : Bytes) (t e start : ℕ) (head : ℕ × ℕ) (left : ℕ) → HeadCounts bytes t e start
    → head_here (drop start bytes) ≡ Some (head, left) → AreLeft bytes t e 0 left
left_whole bytes t e start head left counts h some =
    let same = ap (λ (x : (ℕ × ℕ) × ℕ). x.1) (same_Some _ _ (sym h ∙ counts.1)) in
    omega (arith, same)
