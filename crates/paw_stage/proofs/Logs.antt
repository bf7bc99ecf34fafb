-- One more call in a record of calls.
use Rattle.std.proofs.Common.{◌≡◌, ◌≤◌, ◌<◌, ℕ, ◌+◌, ◌-◌, List, [], ◌∷◌, ◌++◌, length, take, drop, get_or, zero, suc}
use Rattle.std.proofs.Common.{refl, ap, ◌∙◌, subst, arith, append_assoc}
use Rattle.std.proofs.Common.{length-append}
use Rattle.std.specs.Prelude.{slice_range}
use Rattle.std.proofs.Math.Seq.{take-append_seam, drop-append_seam, take-length}
use Rattle.std.proofs.lemmas.List.{take-append-le, drop-append-le, length-drop, map-append, take_more, drop_more}
use Rattle.std.proofs.lemmas.List.Sums.{fold-append}
use Rattle.paw_base.specs.Bytes.{Bytes}
use Rattle.paw_stage.specs.Stage.{Standing}
use Rattle.paw_stage.specs.inner.Done.{DoneCall, standing_after, after}
use Rattle.paw_stage.specs.inner.Log.{done_in, all_done, AreLaid}
use Rattle.paw_stage.specs.declared.log.Call.{Call}

-- What stands after one call more.
pub after-push : (s : Standing) (ds : List DoneCall) (d : DoneCall) → after s (ds ++ d ∷ []) ≡ standing_after (after s ds) d
after-push s ds d = fold-append standing_after s ds (d ∷ [])

-- A part of the room stays when the room grows.
slice_range-append : (room extra : Bytes) (a b : ℕ) → a ≤ b → b ≤ length room → slice_range (room ++ extra) a b ≡ slice_range room a b
slice_range-append room extra a b ab h =
    ap (take (b - a)) (drop-append-le a room extra (omega arith)) ∙ take-append-le (b - a) (drop a room) extra (omega (arith, length-drop a room))

-- The part that was added in the middle.
slice_range-seam : (room bytes extra : Bytes) (a b : ℕ) → a ≡ length room → b ≡ length room + length bytes → slice_range ((room ++ bytes) ++ extra) a b ≡ bytes
slice_range-seam room bytes extra a b ea eb =
    let n : b - a ≡ length bytes = omega arith in
    ap (λ r. slice_range r a b) (append_assoc room bytes extra)
    ∙ (ap (λ k. take (b - a) (drop k (room ++ (bytes ++ extra)))) ea
    ∙ (ap (take (b - a)) (drop-append_seam room (bytes ++ extra))
    ∙ (ap (λ k. take k (bytes ++ extra)) n ∙ take-append_seam bytes extra)))

-- The part that was added last.
slice_range-last : (room bytes : Bytes) (a b : ℕ) → a ≡ length room → b ≡ length room + length bytes → slice_range (room ++ bytes) a b ≡ bytes
slice_range-last room bytes a b ea eb =
    let n : b - a ≡ length bytes = omega arith in
    ap (λ k. take (b - a) (drop k (room ++ bytes))) ea ∙ (ap (take (b - a)) (drop-append_seam room bytes) ∙ (ap (λ k. take k bytes) n ∙ take-length bytes))

pub laid_low : (calls : List Call) (start end : ℕ) → AreLaid calls start end → start ≤ end
laid_low [] start end h = omega arith
laid_low (c ∷ calls) start end h = omega (arith, h.0, h.1, h.2, laid_low calls c.to end h.3)

-- A call's part of the room stays when the room grows.
done_in-append : (room extra : Bytes) (c : Call) → c.from ≤ c.mid → c.mid ≤ c.to → c.to ≤ length room → done_in (room ++ extra) c ≡ done_in room c
done_in-append room extra c low high within =
    rw (slice_range-append room extra c.from c.mid low (omega arith), slice_range-append room extra c.mid c.to high within)

all_done-append : (room extra : Bytes) (calls : List Call) (start : ℕ) → AreLaid calls start (length room) →
    all_done (room ++ extra) calls ≡ all_done room calls
all_done-append room extra [] start h = refl
all_done-append room extra (c ∷ calls) start h =
    let low : c.to ≤ length room = laid_low calls c.to (length room) h.3 in
    ap (λ d. d ∷ all_done (room ++ extra) calls) (done_in-append room extra c h.1 h.2 low)
    ∙ ap (λ ds. done_in room c ∷ ds) (all_done-append room extra calls c.to h.3)

pub all_done-push : (room name bytes : Bytes) (calls : List Call) (c : Call) (start : ℕ) →
    AreLaid calls start (length room) → c.from ≡ length room → c.mid ≡ length room + length name →
    c.to ≡ length room + length name + length bytes →
    all_done ((room ++ name) ++ bytes) (calls ++ c ∷ [])
    ≡ all_done room calls ++ record { kind = c.kind; name = name; bytes = bytes } ∷ []
all_done-push room name bytes calls c start h from mid to =
    let old : all_done ((room ++ name) ++ bytes) calls ≡ all_done room calls =
    ap (λ r. all_done r calls) (append_assoc room name bytes) ∙ all_done-append room (name ++ bytes) calls start h in
    let n : slice_range ((room ++ name) ++ bytes) c.from c.mid ≡ name = slice_range-seam room name bytes c.from c.mid from mid in
    let b : slice_range ((room ++ name) ++ bytes) c.mid c.to ≡ bytes =
    slice_range-last (room ++ name) bytes c.mid c.to (omega (arith, length-append room name))
    (omega (arith, length-append room name)) in
    let d : done_in ((room ++ name) ++ bytes) c ≡ record { kind = c.kind; name = name; bytes = bytes } = rw (n, b) in
    map-append (done_in ((room ++ name) ++ bytes)) calls (c ∷ [])
    ∙ (ap (λ ds. ds ++ done_in ((room ++ name) ++ bytes) c ∷ []) old ∙ ap (λ x. all_done room calls ++ x ∷ []) d)

pub laid-push : (calls : List Call) (c : Call) (start mid end : ℕ) → AreLaid calls start mid → c.from ≡ mid →
    c.from ≤ c.mid → c.mid ≤ c.to → c.to ≡ end → AreLaid (calls ++ c ∷ []) start end
laid-push [] c start mid end h from low high to = (omega arith, low, high, omega arith)
laid-push (x ∷ calls) c start mid end h from low high to = (h.0, h.1, h.2, laid-push calls c x.to mid end h.3 from low high to)

-- Each of the calls lies in the room.
pub laid-at : (calls : List Call) (start end k : ℕ) (d : Call) → AreLaid calls start end → k < length calls →
    ((get_or calls k d).from ≤ (get_or calls k d).mid) × ((get_or calls k d).mid ≤ (get_or calls k d).to)
    × ((get_or calls k d).to ≤ end)
laid-at [] start end k d h low = absurd (omega arith)
laid-at (c ∷ calls) start end zero d h low = (h.1, h.2, laid_low calls c.to end h.3)
laid-at (c ∷ calls) start end (suc k) d h low = laid-at calls c.to end k d h.3 (omega arith)

-- One call more of those in the room.
pub done-next : (room : Bytes) (calls : List Call) (k : ℕ) (d : Call) → k < length calls →
    all_done room (take (k + 1) calls) ≡ all_done room (take k calls) ++ done_in room (get_or calls k d) ∷ []
done-next room calls k d low =
    ap (all_done room) (take_more calls k d low) ∙ map-append (done_in room) (take k calls) (get_or calls k d ∷ [])

-- The next call lies after those before it.
pub laid-next : (calls : List Call) (k start end : ℕ) (d : Call) → k < length calls → AreLaid (drop k calls) start end →
    AreLaid (get_or calls k d ∷ drop (k + 1) calls) start end
laid-next calls k start end d low h = subst (λ l. AreLaid l start end) (drop_more calls k d low) h

-- The calls lie after any earlier offset too.
pub laid-from : (calls : List Call) (start low end : ℕ) → low ≤ start → AreLaid calls start end → AreLaid calls low end
laid-from [] start low end l h = omega arith
laid-from (c ∷ calls) start low end l h = (omega (arith, h.0), h.1, h.2, h.3)

-- So do the first of them, and the last.
pub laid-take : (calls : List Call) (n start end : ℕ) → AreLaid calls start end → AreLaid (take n calls) start end
laid-take calls zero start end h = laid_low calls start end h
laid-take [] (suc n) start end h = h
laid-take (c ∷ calls) (suc n) start end h = (h.0, h.1, h.2, laid-take calls n c.to end h.3)

pub laid-drop : (calls : List Call) (n start end : ℕ) → AreLaid calls start end → AreLaid (drop n calls) start end
laid-drop calls zero start end h = h
laid-drop [] (suc n) start end h = h
laid-drop (c ∷ calls) (suc n) start end h = laid-from (drop n calls) c.to start end (omega (arith, h.0, h.1, h.2)) (laid-drop calls n c.to end h.3)
