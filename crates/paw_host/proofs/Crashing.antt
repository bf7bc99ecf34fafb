-- Hosting that is begun again after a crash.
use Rattle.paw_host.proofs.Cited.{◌≡◌, ◌⊎◌, inl, inr, ℕ, zero, suc, ◌<◌, ◌^◌, Some, [], ◌∷◌, Bool, true, false, refl, take, All, All-nil, All-head, All-tail, All-take, Bytes, Lines, Text, Name, Seed, Story, AreBytes, IsLine, ValidStory, file_bytes, Standing, IsUnmade, recover, request_of, is_name, store_name, NamedSession, Absent, At, From, Refused, Sessions, sessions_with, Stores, MayBe, EachLeft, LeftOfMaking, IsUpToDate, before_last, AfterCrash, as_before, as_after, at_no_lines, half_made, MayBeBegunAgain, NoFileIsLeftOut, AllMay, sessions_after}
use Rattle.paw_host.proofs.{Continuing.all_may, Hosting.asks_line, Reaching.not_shown}

-- Whatever lines were taken, each session may be.
may_after : (g : Story) (seed : Seed) (first : Sessions) (lines : Lines) → ValidStory g → seed < 2 ^ 64 → All AreBytes lines → AllMay g first →
    AllMay g (sessions_after g seed first lines)
unfolding sessions_after
may_after g seed first [] valid small bytes may = may
may_after g seed first (line ∷ lines) valid small bytes may =
    may_after g seed (sessions_with g seed first (request_of line)) lines valid small (All-tail AreBytes line lines bytes)
    (all_may g seed first (request_of line) valid small (asks_line line (All-head AreBytes line lines bytes)) may)

may_before : (g : Story) (seed : Seed) (first : Sessions) (lines : Lines) (n : ℕ) → ValidStory g → seed < 2 ^ 64 → All AreBytes lines → AllMay g first →
    AllMay g (sessions_after g seed first (before_last lines n))
may_before g seed first lines zero valid small bytes may = may_after g seed first [] valid small (All-nil AreBytes) may
may_before g seed first lines (suc n) valid small bytes may =
    may_after g seed first (take n lines) valid small (All-take AreBytes n lines bytes) may

-- What a crash leaves while the last of n lines is at work.
left_at : (g : Story) (seed : Seed) (first : Sessions) (lines : Lines) (n : ℕ) (text : Text) (m : Standing) → IsUpToDate g seed first lines n text m →
    EachLeft g seed (sessions_after g seed first (before_last lines n)) (sessions_after g seed first (take n lines)) m
unfolding sessions_after
left_at g seed first lines zero text m k = λ name is bytes may. inl (k.1 name is bytes may)
left_at g seed first lines (suc n) text m k = k.0

-- A session that these bytes are those of, such as there may be after a crash.
abbrev Found : Story → ℕ → NamedSession → NamedSession → Bytes → NamedSession → Type 0
Found g seed before after bytes s = MayBe g s × Stores g s bytes × AfterCrash seed before after s

half : (g : Story) (seed : Seed) (own : ℕ) (lines : Lines) (bytes : Bytes) → IsUnmade (recover bytes) →
    (s : NamedSession) × Found g seed Absent (At own lines) bytes s
half g seed own lines [] h = (Absent, (tt, refl, as_before))
half g seed own lines (b ∷ bytes) h =
    (Refused (b ∷ bytes), (tt, (refl, (λ e. cc, λ some. not_shown (recover (b ∷ bytes)) _ _ _ h some.shows.shown)), half_made (b ∷ bytes) refl tt))

in_making : (g : Story) (seed : Seed) (before after : NamedSession) (bytes : Bytes) → ValidStory g → seed < 2 ^ 64 → LeftOfMaking g seed before after bytes →
    (s : NamedSession) × Found g seed before after bytes s
in_making g seed Absent (At own lines) bytes valid small (inl h) = half g seed own lines bytes h
in_making g seed Absent (At own lines) bytes valid small (inr h) =
    (At seed [], (record { valid = valid; fits = small; lines = All-nil IsLine }, h, at_no_lines refl tt))
in_making g seed Absent _ bytes valid small h = absurd h
in_making g seed _ after bytes valid small h = absurd h

found : (g : Story) (seed : Seed) (before after : NamedSession) (bytes : Bytes) (Attached : Type 0) → ValidStory g → seed < 2 ^ 64 → MayBe g before →
    MayBe g after →
    Stores g before bytes ⊎ (Attached × (Stores g after bytes ⊎ LeftOfMaking g seed before after bytes)) → (s : NamedSession)
    × Found g seed before after bytes s
found g seed before after bytes Attached valid small b a (inl h) = (before, (b, h, as_before))
found g seed before after bytes Attached valid small b a (inr (at, inl h)) = (after, (a, h, as_after))
found g seed before after bytes Attached valid small b a (inr (at, inr h)) = in_making g seed before after bytes valid small h

-- The session of a name; what is no name has none.
chosen : (b : Bool) → (b ≡ true → NamedSession) → NamedSession
chosen true f = f refl
chosen false f = Absent

chosen_is : (b : Bool) (f : b ≡ true → NamedSession) (P : NamedSession → Type 0) → ((t : b ≡ true) → P (f t)) → b ≡ true → P (chosen b f)
unfolding chosen
chosen_is true f P h e = h refl
chosen_is false f P h e = cc

pub may_be_begun_again : MayBeBegunAgain
may_be_begun_again g seed first old next m valid small b i left lines =
    (again, record { may = λ name is. (each name is).0; files = λ name is. (each name is).1; lines = lines }, λ name is. (each name is).2)
  where
    before : Sessions
    before = sessions_after g seed first (before_last old.lines i.taken)

    after : Sessions
    after = sessions_after g seed first (take i.taken old.lines)

    one : (name : Name) → is_name name ≡ true → (s : NamedSession) × Found g seed (before name) (after name) (file_bytes next (store_name name)) s
    one name is = found g seed (before name) (after name) (file_bytes next (store_name name)) (m.attached ≡ Some (store_name name)) valid small
        (may_before g seed first old.lines i.taken valid small b.lines b.may name is)
        (may_after g seed first (take i.taken old.lines) valid small (All-take AreBytes i.taken old.lines b.lines) b.may name is)
        (left_at g seed first old.lines i.taken i.text m i.up_to_date name is (file_bytes next (store_name name)) (left name is))

    again : Sessions
    again name = chosen (is_name name) (λ is. (one name is).0)

    each : (name : Name) → is_name name ≡ true → Found g seed (before name) (after name) (file_bytes next (store_name name)) (again name)
    each name is = chosen_is (is_name name) (λ t. (one name t).0) (Found g seed (before name) (after name) (file_bytes next (store_name name)))
        (λ t. (one name t).1) is

-- ---- any file ----

pub no_file_is_left_out : NoFileIsLeftOut
no_file_is_left_out g [] none = none Absent tt refl
no_file_is_left_out g (b ∷ bytes) none =
    none (Refused (b ∷ bytes)) tt (
      refl,
      (
        λ e. cc,
        λ some. none (From some.state some.piece) tt
            (record { digests = some.digests; belongs = some.belongs; shows = some.shows }),
      ),
    )
