-- Answers that are put together of the parts of a session's work.
use Rattle.paw_host.proofs.Cited.{◌≡◌, ◌⊎◌, inl, inr, [], ◌∷◌, ◌++◌, refl, sym, ap, ◌∙◌, subst, append_assoc, Option, Some, None, Bytes, Lines, Text, Seed, Story, Standing, IsUnmade, recover, ChangesStoreOnly, Stands, NamedSession, Absent, At, Answer, begun_answer, begun_with_text, answer_taking, Stores, LeftOfMaking, Answers, InFile, LeftOf, LeftOfBeginning, StoresEither, answer}
use Rattle.paw_reading.specs.declared.halt.Halt.TheVariants as halt
use Rattle.paw_host.proofs.{Reaching.in_file, Reaching.in_file_on, Texts.line_goes}

-- ---- sessions that are begun ----

answer_absent : (g : Story) (seed : Seed) (text : Option Text) → answer g seed Absent text
    ≡ begun_with_text g text (begun_answer g seed).body (begun_answer g seed).session
unfolding answer
answer_absent g seed text = refl

with_absent : (g : Story) (text : Option Text) (body : Text) (s : NamedSession) → s ≡ Absent → begun_with_text g text body s
    ≡ record { body = body; session = s }
with_absent g None body s e = refl
with_absent g (Some text) body (At seed es) e = cc
with_absent g (Some text) body _ e = refl

-- The game isn't begun.
pub not_begun : (g : Story) (seed : Seed) (text : Option Text) (before after bytes : Bytes) → (begun_answer g seed).session ≡ Absent →
    after ≡ before ++ (begun_answer g seed).body → bytes ≡ [] → Answers g (answer g seed Absent text) before after bytes
not_begun g seed text before after bytes none grown empty =
    rw (answer_absent g seed text, with_absent g text (begun_answer g seed).body (begun_answer g seed).session none) (record {
      body = grown;
      stores = subst (λ s. Stores g s bytes) (sym none) empty;
    })

-- It is, and no text is taken.
pub just_begun : (g : Story) (seed : Seed) (before after bytes : Bytes) → (begun_answer g seed).session ≡ At seed [] →
    after ≡ before ++ (begun_answer g seed).body → Stands g seed [] bytes → Answers g (answer g seed Absent None) before after bytes
just_begun g seed before after bytes at grown stands = rw (answer_absent g seed None) (record {
  body = grown;
  stores = subst (λ s. Stores g s bytes) (sym at) stands;
})

begun_takes : (g : Story) (seed : Seed) (text : Text) → (begun_answer g seed).session ≡ At seed [] →
    answer g seed Absent (Some text)
    ≡ record { body = (begun_answer g seed).body ++ (answer_taking g seed [] text).body; session = (answer_taking g seed [] text).session }
begun_takes g seed text at = answer_absent g seed (Some text) ∙ ap (begun_with_text g (Some text) (begun_answer g seed).body) at

-- It is, and takes a text.
pub begun_then : (g : Story) (seed : Seed) (text before mid after bytes : Bytes) → (begun_answer g seed).session ≡ At seed [] →
    mid ≡ before ++ (begun_answer g seed).body → Answers g (answer g seed (At seed []) (Some text)) mid after bytes →
    Answers g (answer g seed Absent (Some text)) before after bytes
unfolding answer
begun_then g seed text before mid after bytes at grown a = rw (begun_takes g seed text at) (record {
  body = a.body ∙ ap (λ x. x ++ (answer_taking g seed [] text).body) grown ∙ append_assoc before (begun_answer g seed).body (answer_taking g seed [] text).body;
  stores = a.stores;
})

-- ---- what a crash leaves of them meanwhile ----

-- A text leaves a session.
taken_at : (g : Story) (seed : Seed) (es : Lines) (text : Text) → (o : Lines) × ((answer_taking g seed es text).session ≡ At seed o)
taken_at g seed es text = elim (line_goes g seed es text) [
  | inl stays ↦ (es, stays)
  | inr goes ↦ (es ++ text ∷ [], ap (λ (a : Answer). a.session) goes)
]

answer_at : (g : Story) (seed : Seed) (text : Option Text) → (begun_answer g seed).session ≡ At seed [] →
    (o : Lines) × ((answer g seed Absent text).session ≡ At seed o)
answer_at g seed None at = ([], ap (λ (a : Answer). a.session) (answer_absent g seed None) ∙ at)
answer_at g seed (Some text) at =
    let t = taken_at g seed [] text in (t.0, ap (λ (a : Answer). a.session) (begun_takes g seed text at) ∙ t.1)

making_by : (g : Story) (seed : Seed) (s : NamedSession) (o : Lines) (bytes : Bytes) → s ≡ At seed o → IsUnmade (recover bytes) ⊎ Stands g seed [] bytes →
    LeftOfMaking g seed Absent s bytes
making_by g seed s o bytes e h = subst (λ x. LeftOfMaking g seed Absent x bytes) (sym e) h

-- While the game is begun.
pub in_new_begun : (g : Story) (seed : Seed) (text : Option Text) (old m : Standing) → InFile (LeftOfBeginning g seed) old m →
    InFile (LeftOf g seed Absent (answer g seed Absent text).session) old m
in_new_begun g seed text old m i = in_file i (λ left h. elim h [
  | inl e ↦ inl e
  | inr h ↦ let at = answer_at g seed text h.0 in inr (inr (making_by g seed (answer g seed Absent text).session at.0 left at.1 h.1))
])

left_taking : (g : Story) (seed : Seed) (text : Text) (bytes : Bytes) → Stores g (answer g seed (At seed []) (Some text)).session bytes →
    Stores g (answer_taking g seed [] text).session bytes
unfolding answer
left_taking g seed text bytes h = h

-- While it takes a text.
pub in_new_taking : (g : Story) (seed : Seed) (text : Text) (old mid : Standing) (m : Standing) → (begun_answer g seed).session ≡ At seed [] →
    ChangesStoreOnly old mid →
    InFile (StoresEither g (At seed []) (answer g seed (At seed []) (Some text)).session) mid m →
    InFile (LeftOf g seed Absent (answer g seed Absent (Some text)).session) old m
in_new_taking g seed text old mid m at b i = in_file_on b i (λ left h. elim h [
  | inl e ↦ let o = answer_at g seed (Some text) at in inr (inr (making_by g seed (answer g seed Absent (Some text)).session o.0 left o.1 (inr e)))
  | inr h ↦ inr (inl (subst (λ (a : Answer). Stores g a.session left) (sym (begun_takes g seed text at)) (left_taking g seed text left h)))
])
