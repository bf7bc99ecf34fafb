-- Fields that are written one after the other.
use Rattle.std.proofs.Common.{◌≡◌, ℕ, ◌+◌, ◌-◌, ◌*◌, ◌<◌, ◌≤◌, List, [], ◌∷◌, ◌++◌, length, map, take}
use Rattle.std.proofs.Common.{drop, set, get_or, replicate, refl, sym, ap, ◌∙◌, add-one, arith}
use Rattle.std.specs.Prelude.{flat_map}
use Rattle.std.proofs.Math.Seq.{take-suc, take-suc-set, take-add}
use Rattle.std.proofs.lemmas.List.{append_assoc, take_all, length-append, length-map, get_or-map, drop-drop}
use Rattle.std.proofs.lemmas.List.{drop-replicate, take-replicate, length-take}
use Rattle.std.proofs.lemmas.Slice.{take-put_mid, drop-put_mid}
use Rattle.paw_base.specs.Bytes.{Bytes}
use Rattle.paw_process.specs.declared.machine.TheConstants.{MOST_FRAMES}
use borrow.Rule.Slice.PartMut.{put_mid}
use Rattle.paw_state.specs.declared.fields.TheConstants.{STATE_ROOM, FRAME_LENGTH}
use Rattle.paw_state.specs.declared.fields.FrameField.{FrameField}
use Rattle.paw_state.specs.State.{zeros}
use Rattle.paw_state.specs.inner.Fields.{frame_shape}
use Rattle.paw_state.specs.inner.Writer.{WritesField}

-- ---- zeros ----

pub zeros_all : (n : ℕ) → replicate n 0 ≡ zeros n
unfolding zeros
zeros_all n = refl

pub drop-zeros : (n m : ℕ) → drop n (zeros m) ≡ zeros (m - n)
unfolding zeros
drop-zeros n m = drop-replicate n m 0

-- ---- a field more ----

pub zeros_behind : (bytes field : Bytes) (count : ℕ) → count + length field ≤ STATE_ROOM → length bytes ≡ STATE_ROOM →
    drop count bytes ≡ zeros (STATE_ROOM - count)
    → drop (count + length field) (put_mid count (count + length field - count) bytes field) ≡ zeros (STATE_ROOM - (count + length field))
zeros_behind bytes field count room size behind =
    let k : count + length field - count ≡ length field = omega arith in
    let n : STATE_ROOM - count - length field ≡ STATE_ROOM - (count + length field) = omega arith in
    drop-put_mid count (count + length field - count) bytes field (count + length field) (omega arith) (omega arith) (sym k)
    ∙ (sym (drop-drop (length field) count bytes)
    ∙ (ap (drop (length field)) behind ∙ (drop-zeros (length field) (STATE_ROOM - count) ∙ ap zeros n)))

pub one_more : (bytes field old : Bytes) (count : ℕ) → count + length field ≤ STATE_ROOM → length bytes ≡ STATE_ROOM → take count bytes ≡ old
    → take (count + length field) (put_mid count (count + length field - count) bytes field) ≡ old ++ field
one_more bytes field old count room size h =
    take-put_mid count (count + length field - count) bytes field (count + length field) refl (omega arith)
    ∙ ap (λ (l : Bytes). l ++ field) h

-- ---- zeros more ----

pub zeros_left : (bytes : Bytes) (count more : ℕ) → count + more ≤ STATE_ROOM → drop count bytes ≡ zeros (STATE_ROOM - count)
    → drop (count + more) bytes ≡ zeros (STATE_ROOM - (count + more))
zeros_left bytes count more room behind =
    let n : STATE_ROOM - count - more ≡ STATE_ROOM - (count + more) = omega arith in
    sym (drop-drop more count bytes) ∙ (ap (drop more) behind ∙ (drop-zeros more (STATE_ROOM - count) ∙ ap zeros n))

pub take-zeros : (n m : ℕ) → n ≤ m → take n (zeros m) ≡ zeros n
unfolding zeros
take-zeros n m low = take-replicate n m 0 low

pub zeros_more : (bytes old : Bytes) (count more : ℕ) → count + more ≤ STATE_ROOM → length bytes ≡ STATE_ROOM → take count bytes ≡ old
    → drop count bytes ≡ zeros (STATE_ROOM - count) → WritesField (zeros more) more old (take (count + more) bytes)
zeros_more bytes old count more room size h behind =
    let split : take (count + more) bytes ≡ take count bytes ++ take more (drop count bytes) = take-add count more bytes in
    let tail : take more (drop count bytes) ≡ zeros more = ap (take more) behind ∙ take-zeros more (STATE_ROOM - count) (omega arith) in
    record {
      puts = split ∙ (ap (λ (l : Bytes). l ++ take more (drop count bytes)) h ∙ ap (λ (l : Bytes). old ++ l) tail);
      long = omega (arith, length-take (count + more) bytes, length-take count bytes, ap length h);
    }

-- What was written has its count of bytes.
pub count_of : (bytes old : Bytes) (count : ℕ) → count ≤ STATE_ROOM → length bytes ≡ STATE_ROOM → take count bytes ≡ old → length old ≡ count
count_of bytes old count low size h = ap length (sym h) ∙ omega (arith, length-take count bytes)

-- ---- three fields, and more ----

pub three : (w0 w1 w2 w3 x y z : List ℕ) → w1 ≡ w0 ++ x → w2 ≡ w1 ++ y → w3 ≡ w2 ++ z → w3 ≡ w0 ++ (x ++ (y ++ z))
three w0 w1 w2 w3 x y z e f g = rw (g, f, e) (simp append_assoc)

-- ---- frames ----

pub length-frames : (rows : List FrameField) → length (flat_map frame_shape.bytes rows) ≡ FRAME_LENGTH * length rows
length-frames [] = refl
length-frames (r ∷ rs) = length-append (frame_shape.bytes r) (flat_map frame_shape.bytes rs) ∙ (ap (λ n. FRAME_LENGTH + n) (length-frames rs) ∙ omega arith)

-- ---- lists that are mapped one by one ----

pub mapped_more : {A B : Type 0} → (f : A → B) (xs : List A) (ys : List B) (i : ℕ) (y : B) (x : A) → i < length xs → i < length ys
    → take i ys ≡ take i (map f xs) → y ≡ f (get_or xs i x) → take (i + 1) (set ys i y) ≡ take (i + 1) (map f xs)
mapped_more {B = B} f xs ys i y x low room h e =
    let k : i < length (map f xs) = omega (arith, length-map xs f) in
    rw add-one (take-suc-set ys i y room ∙ (ap (λ (l : List B). l ++ y ∷ []) h ∙ (ap (λ (z : B). take i (map f xs) ++ z ∷ []) e
    ∙ (ap (λ (z : B). take i (map f xs) ++ z ∷ []) (sym (get_or-map f xs i x (f x) low)) ∙ sym (take-suc (map f xs) i (f x) k)))))

pub mapped_all : {A B : Type 0} → (f : A → B) (xs : List A) (ys : List B) (i : ℕ) → length xs ≡ MOST_FRAMES → length ys ≡ MOST_FRAMES → MOST_FRAMES ≤ i
    → take i ys ≡ take i (map f xs) → ys ≡ map f xs
mapped_all f xs ys i kx ky low h =
    sym (take_all i ys (omega arith)) ∙ (h ∙ take_all i (map f xs) (omega (arith, length-map xs f)))
