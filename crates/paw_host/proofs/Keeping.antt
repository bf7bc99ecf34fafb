-- Answers of a session that was kept.
use Rattle.paw_host.proofs.Cited.{◌≡◌, inl, ◌<◌, [], ◌++◌, refl, sym, ap, ◌∙◌, subst, length, arith, Option, None, codes, Ok, Err, Bytes, Text, Seed, Valid, Story, pieces_of, IsStable, EachMoment, Ghosts, StageCall, Passes_map, PlayerView, recover, ReadsStore, stable_leaves, last_piece, PlayEnd, OpenSession, ShowsSome, PlayedSession, from_shown, from_played, from_lines, from_state, call_of_end, IsOpen, ResumesTo, open_from, refuses_none, NamedSession, Absent, At, From, Refused, Stores, MayBe, IsPlayedAs, after_lines, after_state, end_word, TakesTexts, Answers, InFile, StoresEither, answer}
use Rattle.paw_play.specs.declared.PlayEnd.TheVariants as end
use Rattle.paw_host.proofs.{Played.piece_shown, Played.same_piece, Played.takes_texts, Reaching.not_shown, Reaching.unmade}

-- ---- a session that is resumed ----

module _ {F : Type 0} (g : Story) (valid : Valid g.game) (bytes : Bytes) (seat : PlayerView F) (piece : Text) where
  -- The store of a name that is resumed has the session of the name, and that is played.
  pub resumed : (o : OpenSession) → ResumesTo g bytes seat piece (Ok o) → (a : NamedSession) → MayBe g a → Stores g a bytes →
      (s : PlayedSession) × IsPlayedAs g a s × IsOpen g s 0 [] seat [] piece bytes × (o.events ≡ s.before)
  resumed o r Absent may stores = absurd (not_shown (recover bytes) _ _ _ (unmade bytes stores) r.2.shown)
  resumed o r (At seed es) may stores =
      let s : PlayedSession = from_lines g seed es stores.digests [] in
      let opened = open_from g [] bytes s valid (from_played seed es may stores) seat piece o r in
      (s, after_lines seed es stores.digests [] stores.belongs, opened.0, opened.1)
  resumed o r (From st last) may stores =
      let s : PlayedSession = from_state g st last stores.digests [] in
      let opened = open_from g [] bytes s valid (from_shown st last stores.digests stores.belongs stores.shows) seat piece o r in
      (s, after_state st last stores.digests [] stores.belongs, opened.0, opened.1)
  resumed o r (Refused kept) may stores =
      let some : ShowsSome g bytes = record { digests = _; belongs = r.0; state = r.1; piece = piece; shows = r.2 } in
      absurd (stores.1.1 (subst (ShowsSome g) stores.0 some))

  refused_word : (o : PlayEnd) → ResumesTo g bytes seat piece (Err o) → call_of_end o ≡ None → end_word o ≡ codes "refused"
  refused_word (end.Refused r) h none = refl
  refused_word (end.State at) h none = refl
  refused_word (end.Outside c) h none = cc
  refused_word _ h none = absurd h

  -- One that isn't resumed is refused.
  pub kept_refused : (seed : Seed) → 0 < length bytes → (o : PlayEnd) → ResumesTo g bytes seat piece (Err o) → call_of_end o ≡ None →
      (a : NamedSession) (text : Option Text) (old new : Bytes) → MayBe g a → Stores g a bytes → new ≡ old ++ end_word o →
      Answers g (answer g seed a text) old new bytes
  unfolding answer
  kept_refused seed some o h none Absent text old new may stores grown = absurd (omega (arith, some, ap length stores))
  kept_refused seed some o h none (At own es) text old new may stores grown =
      absurd (refuses_none g [] bytes (from_lines g own es stores.digests []) valid (from_played own es may stores) seat piece o h none)
  kept_refused seed some o h none (From st last) text old new may stores grown =
      absurd (refuses_none g [] bytes (from_state g st last stores.digests []) valid
      (from_shown st last stores.digests stores.belongs stores.shows) seat piece o h none)
  kept_refused seed some o h none (Refused kept) text old new may stores grown =
      record { body = grown ∙ ap (λ w. old ++ w) (refused_word o h none); stores = stores }

-- A session that is open answers its name with its last piece.
pub kept_told : {F : Type 0} {g : Story} {a : NamedSession} {s : PlayedSession} {seat : PlayerView F} {piece bytes : Bytes} → IsPlayedAs g a s →
    IsOpen g s 0 [] seat [] piece bytes → (seed : Seed) (old new : Bytes) → Stores g a bytes → new ≡ old ++ piece →
    Answers g (answer g seed a None) old new bytes
unfolding answer
kept_told {g} {a} {s} {piece} {bytes} plays opened seed old new stores grown =
    told a (takes_texts plays) stores
  where
    last : {x : Bytes} → last_piece (pieces_of (s.whole [])) ≡ x → new ≡ old ++ x
    last e = grown ∙ ap (λ w. old ++ w) (sym opened.played.last ∙ e)

    told : (b : NamedSession) → TakesTexts b → Stores g b bytes → Answers g (answer g seed b None) old new bytes
    told (At own es) is kept = record { body = last (piece_shown opened.keeps kept.keeps); stores = kept }
    told (From st q) is kept = record { body = last (same_piece _ _ _ _ _ _ (sym opened.keeps.shown ∙ kept.shows.shown)); stores = kept }
    told _ is kept = absurd is

-- While it is read.
pub in_reading : {S : Type 0} {stage : Ghosts S} {failed : Option StageCall} {old new : S} (g : Story) (before after : NamedSession) →
    ReadsStore stage failed old new → stage.Tells old → IsStable (stage.standing old).disk → Stores g before (stage.standing old).disk.bytes →
    EachMoment stage old new (InFile (StoresEither g before after) (stage.standing old))
in_reading {stage} {old} g before after reads tells settled stores =
    Passes_map _ _ _ _ _ (InFile (StoresEither g before after) (stage.standing old)) (reads.crash tells)
    (λ m e. subst (InFile (StoresEither g before after) (stage.standing old)) (sym e) (record {
      asked = refl;
      shown = refl;
      attached = refl;
      files = λ n other. refl;
      disk = λ left may. inl (subst (Stores g before) (sym (stable_leaves (stage.standing old).disk left settled may)) stores);
    }))
