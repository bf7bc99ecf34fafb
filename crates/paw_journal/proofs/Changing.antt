-- Change records that make one state of another.
use Rattle.std.proofs.Common.{◌≡◌, ◌≢◌, ℕ, zero, suc, ◌+◌, ◌*◌, ◌/◌, ◌%◌, ◌≤◌, ◌<◌, Bool, true, false, List, [], ◌∷◌}
use Rattle.std.proofs.Common.{◌++◌, length, take, drop}
use Rattle.std.proofs.Common.{refl, sym, ap, subst, ◌∙◌}
use Rattle.std.proofs.Common.{arith, add-one, get_or, append_assoc, append-nil}
use Rattle.std.specs.Prelude.{Option, Some, None, cond, not, ◌==◌, if◌then◌else◌, slice_set}
use Rattle.std.specs.List.{position_from}
use Rattle.std.proofs.lemmas.Bool.Decides.{nat_tests}
use Rattle.std.proofs.lemmas.Iterator.Adapters.{position_from-zero}
use Rattle.std.proofs.lemmas.List.{length-append, length-take-le, take_all, drop_all, get_or-drop, get_or-take}
use Rattle.std.proofs.Math.Seq.{take-suc, drop-cons, set-append_seam}
use Rattle.paw_base.specs.Bytes.{Bytes}
use Rattle.paw_journal.specs.Session.{Change, changes, with_changes, is_sound, first_unsound}
use Rattle.paw_journal.specs.Session.{differing, change_bytes, differences_from}
use Rattle.paw_journal.specs.inner.Writes.{ChangesInto, ChangesTo}
use Rattle.paw_journal.specs.Session.{base_length}

pub changes-append : (n : ℕ) (a b : Bytes) → length a ≡ 4 * n → changes (a ++ b) ≡ changes a ++ changes b
changes-append zero [] b e = refl
changes-append zero (x ∷ a) b e = absurd (omega arith)
changes-append (suc n) (w ∷ x ∷ y ∷ z ∷ a) b e = ap (λ l. record { at = w + 256 * x; byte = y; last = z } ∷ l) (changes-append n a b (omega arith))
changes-append (suc n) [] b e = absurd (omega arith)
changes-append (suc n) (w ∷ []) b e = absurd (omega arith)
changes-append (suc n) (w ∷ x ∷ []) b e = absurd (omega arith)
changes-append (suc n) (w ∷ x ∷ y ∷ []) b e = absurd (omega arith)

pub changed-append : (a b : List Change) (bytes : Bytes) → with_changes (a ++ b) bytes ≡ with_changes b (with_changes a bytes)
changed-append [] b bytes = refl
changed-append (c ∷ a) b bytes = changed-append a b (slice_set bytes c.at c.byte)

-- The first one that isn't sound, of two lists of changes that are all sound.
none_of : (b : Bool) (i : ℕ) (r : Option ℕ) → cond b (Some i) r ≡ None → (b ≡ false) × (r ≡ None)
none_of true i r e = absurd (cc e)
none_of false i r e = (refl, e)

from_any : (p : Change → Bool) (m n : ℕ) (a : List Change) → position_from p m a ≡ None → position_from p n a ≡ None
from_any p m n [] e = refl
from_any p m n (c ∷ a) e =
    let h = none_of (p c) m (position_from p (m + 1) a) e in
    ap (λ t. cond t (Some n) (position_from p (n + 1) a)) h.0 ∙ from_any p (m + 1) (n + 1) a h.1

from-append : (p : Change → Bool) (m : ℕ) (a b : List Change) → position_from p m a ≡ None → position_from p 0 b ≡ None → position_from p m (a ++ b) ≡ None
from-append p m [] b e f = from_any p 0 m b f
from-append p m (c ∷ a) b e f =
    let h = none_of (p c) m (position_from p (m + 1) a) e in
    ap (λ t. cond t (Some m) (position_from p (m + 1) (a ++ b))) h.0 ∙ from-append p (m + 1) a b h.1 f

pub sound-append : (a b : List Change) → first_unsound a ≡ None → first_unsound b ≡ None → first_unsound (a ++ b) ≡ None
sound-append a b e f =
    let p : Change → Bool = λ c. not (is_sound c) in
    position_from-zero p (a ++ b) ∙ from-append p 0 a b (sym (position_from-zero p a) ∙ e) (sym (position_from-zero p b) ∙ f)

sound_one : (c : Change) → c.at < base_length → c.last ≡ 0 → first_unsound (c ∷ []) ≡ None
sound_one c low e =
    let h : is_sound c ≡ true = grind (arith, nat_tests) in
    position_from-zero (λ d. not (is_sound d)) (c ∷ []) ∙ first (is_sound c) h
  where
    first : (b : Bool) → b ≡ true → cond (not b) (Some 0) (position_from (λ d. not (is_sound d)) 1 []) ≡ None
    first true e = refl
    first false e = absurd (cc e)

-- One position more.
differing-append : (a b : Bytes) (x y : ℕ) → length a ≡ length b → differing (a ++ x ∷ []) (b ++ y ∷ []) ≡ differing a b + (if x == y then 0 else 1)
unfolding differing
differing-append [] [] x y e = omega arith
differing-append [] (z ∷ b) x y e = absurd (omega arith)
differing-append (w ∷ a) [] x y e = absurd (omega arith)
differing-append (w ∷ a) (z ∷ b) x y e = omega (arith, differing-append a b x y (omega arith))

-- The change records from one offset on, where the bytes there are the same or differ.
difference_step : (old new : Bytes) (i : ℕ) → length old ≡ length new → i < length old → (t : Bool) →
    (get_or old i 0 == get_or new i 0) ≡ t →
    differences_from i (drop i old) (drop i new)
    ≡ (if t then [] else change_bytes i (get_or new i 0)) ++ differences_from (suc i) (drop (suc i) old) (drop (suc i) new)
unfolding differences_from
difference_step old new i n low t e =
    let l : i < length new = omega arith in
    ap (λ a. differences_from i a (drop i new)) (drop-cons old i 0 low)
    ∙ (ap (λ b. differences_from i (get_or old i 0 ∷ drop (suc i) old) b) (drop-cons new i 0 l)
    ∙ ap (λ c. (if c then [] else change_bytes i (get_or new i 0)) ++ differences_from (suc i) (drop (suc i) old) (drop (suc i) new)) e)

pub leads_none : (old new records : Bytes) → records ≡ [] → ChangesTo old new 0 records
unfolding differing
leads_none old new records e = record {
  exact = ap (λ r. r ++ differences_from 0 old new) e;
  many = ap length e;
  few = omega (arith, ap length e);
  sound =
      ap (λ r. first_unsound (changes r)) e;
  made = ap (λ r. with_changes (changes r) old) e;
}

more : (old new : Bytes) (i : ℕ) → length old ≡ length new → i < length old →
    differing (take (suc i) old) (take (suc i) new)
    ≡ differing (take i old) (take i new) + (if get_or old i 0 == get_or new i 0 then 0 else 1)
more old new i n low =
    let l : i < length new = omega arith in
    ap (λ a. differing a (take (suc i) new)) (take-suc old i 0 low)
    ∙ (ap (λ b. differing (take i old ++ get_or old i 0 ∷ []) b) (take-suc new i 0 l)
    ∙ differing-append (take i old) (take i new) (get_or old i 0) (get_or new i 0)
    (length-take-le i old (omega arith) ∙ sym (length-take-le i new (omega arith))))

pub leads_same : (old new records : Bytes) (i : ℕ) → ChangesTo old new i records → length old ≡ length new →
    i < length old → get_or old i 0 ≡ get_or new i 0 → ChangesTo old new (suc i) records
leads_same old new records i h n low e =
    let l : i < length new = omega arith in
    let t : (get_or old i 0 == get_or new i 0) ≡ true = grind (arith, nat_tests) in
    let d = more old new i n low ∙ ap (λ b. differing (take i old) (take i new) + (if b then 0 else 1)) t in
    record {
      exact = ap (λ l. records ++ l) (sym (difference_step old new i n low true t)) ∙ h.exact;
      many = omega (arith, h.many, d);
      few = omega (arith, h.few);
      sound = h.sound;
      made =
          h.made
          ∙ (ap (λ l. take i new ++ l) (drop-cons old i 0 low ∙ ap (λ x. x ∷ drop (suc i) old) e)
          ∙ (sym (append_assoc (take i new) (get_or new i 0 ∷ []) (drop (suc i) old))
          ∙ ap (λ l. l ++ drop (suc i) old) (sym (take-suc new i 0 l))));
    }

-- A byte of a stretch is a byte of the whole.
read_at : (xs : Bytes) (i n k : ℕ) → k < n → get_or (take n (drop i xs)) k 0 ≡ get_or xs (i + k) 0
read_at xs i n k low = get_or-take n (drop i xs) k 0 low ∙ get_or-drop i xs k 0

-- Bytes that are the same in both states need no records.
pub skips_stretch : (old new records : Bytes) (i n : ℕ) (k : ℕ) → ChangesTo old new i records → length old ≡ length new →
    i + n ≤ length old → take n (drop i old) ≡ take n (drop i new) → k ≤ n → ChangesTo old new (i + k) records
skips_stretch old new records i n zero h l low e le = subst (λ m. ChangesTo old new m records) (omega arith) h
skips_stretch old new records i n (suc k) h l low e le =
    let same : get_or old (i + k) 0 ≡ get_or new (i + k) 0 =
    sym (read_at old i n k (omega arith)) ∙ ap (λ xs. get_or xs k 0) e ∙ read_at new i n k (omega arith) in
    let before : ChangesTo old new (i + k) records = skips_stretch old new records i n k h l low e (omega arith) in
    subst (λ m. ChangesTo old new m records) (omega arith) (leads_same old new records (i + k) before l (omega arith) same)

one_change : (x y z i : ℕ) → x + 256 * y ≡ i → changes (x ∷ y ∷ z ∷ 0 ∷ []) ≡ record { at = i; byte = z; last = 0 } ∷ []
one_change x y z i e = ap (λ k. record { at = k; byte = z; last = 0 } ∷ []) e

pub leads_other : (old new records now : Bytes) (i z : ℕ) → ChangesTo old new i records → length old ≡ length new →
    i < length old → i < base_length → get_or old i 0 ≢ get_or new i 0 → z ≡ get_or new i 0 →
    now ≡ records ++ change_bytes i z → ChangesTo old new (suc i) now
leads_other old new records now i z h n low short ne q e =
    let p : i % 256 + 256 * (i / 256) ≡ i = omega arith in
    let rest : Bytes = differences_from (suc i) (drop (suc i) old) (drop (suc i) new) in
    let l : i < length new = omega arith in
    let t : (get_or old i 0 == get_or new i 0) ≡ false = grind (arith, nat_tests) in
    let d = more old new i n low ∙ ap (λ b. differing (take i old) (take i new) + (if b then 0 else 1)) t in
    let c : Change = record { at = i; byte = z; last = 0 } in
    let all : changes now ≡ changes records ++ c ∷ [] =
    ap changes e ∙ (changes-append (differing (take i old) (take i new)) records (change_bytes i z) h.many
    ∙ ap (λ l. changes records ++ l) (one_change (i % 256) (i / 256) z i p)) in
    let m : length now ≡ length records + 4 = ap length e ∙ length-append records (change_bytes i z) in
    let at : i ≡ length (take i new) = sym (length-take-le i new (omega arith)) in
    record {
      exact =
          ap (λ l. l ++ rest) e
          ∙ (append_assoc records (change_bytes i z) rest
          ∙ (ap (λ b. records ++ (change_bytes i b ++ rest)) q
          ∙ (ap (λ l. records ++ l) (sym (difference_step old new i n low false t)) ∙ h.exact)));
      many = omega (arith, h.many, d, m);
      few = omega (arith, h.few, m);
      sound = ap first_unsound all ∙ sound-append (changes records) (c ∷ []) h.sound (sound_one c short refl);
      made =
          ap (λ cs. with_changes cs old) all
          ∙ (changed-append (changes records) (c ∷ []) old
          ∙ (ap (λ l. slice_set l i z) (h.made ∙ ap (λ l. take i new ++ l) (drop-cons old i 0 low))
          ∙ (ap (λ k. slice_set (take i new ++ get_or old i 0 ∷ drop (suc i) old) k z) at
          ∙ (set-append_seam (take i new) (get_or old i 0) (drop (suc i) old) z
          ∙ (ap (λ b. take i new ++ b ∷ drop (suc i) old) q
          ∙ (sym (append_assoc (take i new) (get_or new i 0 ∷ []) (drop (suc i) old))
          ∙ ap (λ l. l ++ drop (suc i) old) (sym (take-suc new i 0 l))))))));
    }

pub leads_all : (old new records : Bytes) (n : ℕ) → ChangesTo old new n records → length old ≡ n → length new ≡ n → ChangesInto old new records
unfolding differences_from
leads_all old new records n h e f = record {
  exact = sym (append-nil records) ∙ (ap (λ a. records ++ differences_from n a (drop n new)) (sym (drop_all n old (omega arith))) ∙ h.exact);
  many = h.many ∙ ap (λ a. 4 * differing a (take n new)) (take_all n old (omega arith)) ∙ ap (λ b. 4 * differing old b) (take_all n new (omega arith));
  sound = h.sound;
  made = h.made ∙ ap (λ l. l ++ drop n old) (take_all n new (omega arith)) ∙ ap (λ l. new ++ l) (drop_all n old (omega arith)) ∙ append-nil new;
}

pub at_next : (old new records : Bytes) (i : ℕ) → ChangesTo old new (suc i) records → ChangesTo old new (i + 1) records
at_next old new records i h = subst (λ k. ChangesTo old new k records) (sym (add-one i)) h
