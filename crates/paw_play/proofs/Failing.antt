-- What stands after calls, with no crash: it is a moment of them, and a crash then may leave of each file what it has.
use Rattle.paw_play.proofs.Names.{◌≡◌, ◌⊎◌, ℕ, ◌≤◌, Bool, true, false, inl, inr, refl, sym, ap, ◌∙◌, subst, Option, Some, None, Name, Ghosts, MayLeave, MayStay, Standing, file_bytes, InTwoParts, now_in_parts, NotYet, MayBeLeft, StandsAtMoment, bytes_eq, bytes_eq-Decides, stays_now}
use Rattle.paw_play.proofs.Parts.{not_yet}

module _ {S : Type 0} (g : Ghosts S) (only : (s : S) (m : Standing) → g.Tells s → g.since s (g.clock s) m → m ≡ g.standing s)
    (counts : (s : S) (t : ℕ) → g.Tells s → t ≤ g.clock s → g.since s t (g.standing s))
    (stays : (s : S) (t : ℕ) (m : Standing) → g.Tells s → g.since s t m → MayStay m.disk)
    (hold : (s : S) (name : Name) → g.Tells s → (g.standing s).attached ≡ Some name →
    file_bytes (g.standing s) name ≡ (g.standing s).disk.bytes)
  where
    -- The file of a name by which one is attached, or none.
    left_by : (s : S) (name : Name) (attached : Option Name) → g.Tells s → (g.standing s).attached ≡ attached →
        MayBeLeft name (g.standing s) (file_bytes (g.standing s) name)
    left_by s name None tells is = inr (λ e. cc, refl)
    left_by s name (Some n) tells is = at (bytes_eq n name) refl
      where
        at : (b : Bool) → bytes_eq n name ≡ b → MayBeLeft name (g.standing s) (file_bytes (g.standing s) name)
        at true e =
            let named : (g.standing s).attached ≡ Some name = is ∙ ap Some ((bytes_eq-Decides n name).0 e) in
            inl (named, subst (MayLeave (g.standing s).disk) (sym (hold s name tells named)) (stays_now g only counts stays s tells))
        at false e = inr (λ named. other (sym is ∙ named) e, refl)
          where
            other : Some n ≡ Some name → bytes_eq n name ≡ false → ⊥
            other same unlike =
                let e : n ≡ name = cc in
                let yes : bytes_eq n name ≡ true = (bytes_eq-Decides n name).1 e in
                cc

    -- A crash may leave of each file what it has.
    pub left_as_read : (s : S) (name : Name) → g.Tells s → MayBeLeft name (g.standing s) (file_bytes (g.standing s) name)
    left_as_read s name tells = left_by s name (g.standing s).attached tells refl

    -- What stands after calls that attach a store and go on is a moment of them, or what stood before.
    pub stands_in_parts : (old new : S) (name : Name) (After : Standing → Type 0) → g.Tells old → g.Tells new →
        InTwoParts g old new (NotYet name (g.standing old)) After →
        StandsAtMoment (λ m. NotYet name (g.standing old) m ⊎ After m) name (g.standing new)
    stands_in_parts old new name After tells now h = record {
      moment = now_in_parts g only counts old new now (NotYet name (g.standing old)) After tells (not_yet name (g.standing old) _ refl) h;
      left = left_as_read new name now;
    }
