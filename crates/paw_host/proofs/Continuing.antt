-- Sessions stay such as may be, whatever is asked of them.
use Rattle.paw_host.proofs.Cited.{◌≡◌, inl, inr, ℕ, ◌+◌, ◌<◌, ◌^◌, [], ◌∷◌, ◌++◌, refl, sym, subst, true, Option, Some, None, All-append, All-cons, All-nil, Lines, Text, Seed, Story, IsLine, ValidStory, Ending, WaitsAt, Halted, Unended, reading, going_on, IsPlayedWith, Request, is_name, NamedSession, Absent, At, From, Refused, Sessions, from_end, Answer, begun_answer, begun_with_text, answer_taking, sessions_with, MayBe, AllMay, answer}
use Rattle.paw_reading.specs.declared.halt.Halt.TheVariants as halt
use Rattle.paw_host.proofs.{Serving.each_name, Texts.StaysOrGoes, Texts.goes, Texts.text_goes, Texts.line_goes}

-- The text, if there is one, is a line.
abbrev pub IfLine : Option Text → Type 0
IfLine None = Unit {0}
IfLine (Some text) = IsLine text

one_more : (g : Story) (own : ℕ) (es : Lines) (text : Text) → IsPlayedWith g own es → IsLine text → IsPlayedWith g own (es ++ text ∷ [])
one_more g own es text p l =
    record { valid = p.valid; fits = p.fits; lines = All-append IsLine es (text ∷ []) p.lines (All-cons IsLine text [] l (All-nil IsLine)) }

may_go : (g : Story) (old new : NamedSession) (piece : Text) (a : Answer) → StaysOrGoes old new piece a → MayBe g old → MayBe g new → MayBe g a.session
may_go g old new piece a (inl stays) before after = subst (MayBe g) (sym stays) before
may_go g old new piece a (inr goes) before after = subst (λ (b : Answer). MayBe g b.session) (sym goes) after

taken_may : (g : Story) (own : ℕ) (es : Lines) (text : Text) → IsPlayedWith g own es → IsLine text → MayBe g (answer_taking g own es text).session
taken_may g own es text p l = may_go g (At own es) (At own (es ++ text ∷ [])) _ _ (line_goes g own es text) p (one_more g own es text p l)

end_may : (g : Story) (n : ℕ) (e : Ending) → MayBe g (from_end n e)
end_may g n (WaitsAt p path r) = tt
end_may g n (Halted halt r) = tt
end_may g n Unended = tt

begun_may : (g : Story) (text : Option Text) (body : Text) (s : NamedSession) → MayBe g s → IfLine text → MayBe g (begun_with_text g text body s).session
begun_may g None body s p l = p
begun_may g (Some text) body (At own es) p l = taken_may g own es text p l
begun_may g (Some text) body _ p l = tt

-- What a session becomes that may be.
pub answer_may : (g : Story) (seed : Seed) (before : NamedSession) (text : Option Text) → ValidStory g → seed < 2 ^ 64 → IfLine text → MayBe g before →
    MayBe g (answer g seed before text).session
unfolding answer
answer_may g seed Absent text valid small l p =
    begun_may g text (begun_answer g seed).body (begun_answer g seed).session
    (may_go g Absent (At seed []) _ _ (goes Absent (At seed []) (reading g seed [])) tt (record { valid = valid; fits = small; lines = All-nil IsLine })) l
answer_may g seed (At own es) None valid small l p = p
answer_may g seed (At own es) (Some text) valid small l p = taken_may g own es text p l
answer_may g seed (From st piece) None valid small l p = tt
answer_may g seed (From st piece) (Some text) valid small l p =
    let later = going_on g st piece (text ∷ []) in
    may_go g (From st piece) (from_end (st.events + 1) later) _ _
    (text_goes (From st piece) (from_end (st.events + 1) later) (going_on g st piece []) later st.events) tt (end_may g (st.events + 1) later)
answer_may g seed (Refused bytes) text valid small l p = tt

-- What all sessions become.
pub all_may : (g : Story) (seed : Seed) (sessions : Sessions) (request : Option Request) → ValidStory g → seed < 2 ^ 64 →
    ((r : Request) → request ≡ Some r → (is_name r.name ≡ true) × IfLine r.text) → AllMay g sessions → AllMay g (sessions_with g seed sessions request)
all_may g seed sessions None valid small lines may = may
all_may g seed sessions (Some r) valid small lines may =
    each_name (λ name s. is_name name ≡ true → MayBe g s) r.name (answer g seed (sessions r.name) r.text).session sessions
    (λ is. answer_may g seed (sessions r.name) r.text valid small (lines r refl).1 (may r.name (lines r refl).0)) (λ name other. may name)
