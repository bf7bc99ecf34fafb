-- A text that is asked of an open session: it is taken, or the session stays.
use Rattle.paw_host.proofs.Cited.{◌≡◌, ◌⊎◌, inl, inr, ℕ, [], ◌∷◌, ◌++◌, refl, true, false, Bool, length, nat_le, codes, if◌then◌else◌, Lines, Text, Seed, EVENT_LIMIT, Story, Ending, WaitsAt, Halted, Unended, reading, pieces_of, last_piece, NamedSession, At, Answer, gone_on, unless_closed, answer_taking, is_over}
use Rattle.paw_reading.specs.declared.halt.Halt.TheVariants as halt

-- An answer leaves the session as it was; or it is this piece, and the session becomes the other.
abbrev pub StaysOrGoes : NamedSession → NamedSession → Text → Answer → Type 0
StaysOrGoes old new piece a = (a.session ≡ old) ⊎ (a ≡ record { body = piece; session = new })

-- By how a reading ended.
pub goes : (old new : NamedSession) (e : Ending) → StaysOrGoes old new (last_piece (pieces_of e)) (gone_on old new e)
goes old new (WaitsAt p path r) = inr refl
goes old new (Halted halt.Over r) = inr refl
goes old new (Halted (halt.Spent kind) r) = inl refl
goes old new (Halted (halt.TooDeep table) r) = inl refl
goes old new Unended = inr refl

closed_by : (old new : NamedSession) (piece : Text) (later : Answer) (over full : Bool) → StaysOrGoes old new piece later →
    StaysOrGoes old new piece
    (if over then record { body = codes "over"; session = old } else if full then record { body = codes "full"; session = old } else later)
closed_by old new piece later true full h = inl refl
closed_by old new piece later false true h = inl refl
closed_by old new piece later false false h = h

-- A session that may be over or full.
pub text_goes : (old new : NamedSession) (so_far later : Ending) (n : ℕ) →
    StaysOrGoes old new (last_piece (pieces_of later)) (unless_closed old so_far n (gone_on old new later))
text_goes old new so_far later n =
    closed_by old new (last_piece (pieces_of later)) (gone_on old new later) (is_over so_far) (nat_le EVENT_LIMIT n) (goes old new later)

-- One that stands at lines.
pub line_goes : (g : Story) (seed : Seed) (es : Lines) (text : Text) →
    StaysOrGoes (At seed es) (At seed (es ++ text ∷ [])) (last_piece (pieces_of (reading g seed (es ++ text ∷ [])))) (answer_taking g seed es text)
line_goes g seed es text =
    text_goes (At seed es) (At seed (es ++ text ∷ [])) (reading g seed es) (reading g seed (es ++ text ∷ [])) (length es)
