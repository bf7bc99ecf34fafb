-- The host, from line to line.
use Rattle.paw_host.proofs.Cited.{◌≡◌, ◌≢◌, ◌⊎◌, inl, inr, ℕ, zero, suc, ◌+◌, ◌≤◌, [], ◌∷◌, ◌++◌, Option, Some, None, true, refl, sym, ap, ◌∙◌, subst, length, take, drop, arith, append_assoc, append-nil, append_cancel_right, take-add, codes, if◌then◌else◌, Bytes, Line, Lines, Name, Seed, Story, Standing, file_bytes, bytes_or_none, MayBeLeft, Request, request_of, is_name, store_name, NamedSession, Sessions, with_named_session, answer, reply_text, reply_to, sessions_with, Stores, AllStore, EachLeft, AllLeft, IsNotOf, LeftOfMaking, attached_with, MayAttach, Answers, InAnswer, IsAside, IsNotFor, IsDone, AnswersRequest, Doing, attached_after, AttachedIn, sessions_after, replies}
use Rattle.paw_host.proofs.Named.{by_name}

-- ---- lists of lines ----

-- The first n lines and one more.
pub line_more : (lines : Lines) (n : ℕ) (line : Line) (rest : Lines) → drop n lines ≡ line ∷ rest → take (suc n) lines ≡ take n lines ++ line ∷ []
line_more lines n line rest at =
    let count : suc n ≡ n + 1 = omega arith in
    ap (λ k. take k lines) count ∙ take-add n 1 lines ∙ ap (λ xs. take n lines ++ take 1 xs) at

pub sessions_more : (g : Story) (seed : Seed) (first : Sessions) (lines : Lines) (line : Line) →
    sessions_after g seed first (lines ++ line ∷ []) ≡ sessions_with g seed (sessions_after g seed first lines) (request_of line)
unfolding sessions_after
sessions_more g seed first [] line = refl
sessions_more g seed first (l ∷ lines) line = sessions_more g seed (sessions_with g seed first (request_of l)) lines line

pub replies_more : (g : Story) (seed : Seed) (first : Sessions) (lines : Lines) (line : Line) →
    replies g seed first (lines ++ line ∷ []) ≡ replies g seed first lines ++ reply_to g seed (sessions_after g seed first lines) (request_of line)
unfolding sessions_after replies
replies_more g seed first [] line = append-nil (reply_to g seed first (request_of line))
replies_more g seed first (l ∷ lines) line =
    let next : Sessions = sessions_with g seed first (request_of l) in
    ap (λ t. reply_to g seed first (request_of l) ++ t) (replies_more g seed next lines line)
    ∙ sym (append_assoc (reply_to g seed first (request_of l)) (replies g seed next lines)
    (reply_to g seed (sessions_after g seed next lines) (request_of line)))

-- A file that is none of the lines' is none of those before the last, and not the last one's.
pub not_of_more : (lines : Lines) (line : Line) (f : Name) → IsNotOf (lines ++ line ∷ []) f → IsNotOf lines f × IsNotFor (request_of line) f
not_of_more [] line f k = (tt, k.0)
not_of_more (l ∷ lines) line f k = let m = not_of_more lines line f k.1 in ((k.0, m.0), m.1)

-- Where there are lines there is a last one.
pub last_line : (lines : Lines) (n : ℕ) → suc n ≤ length lines → (line : Line) × (rest : Lines) × (drop n lines ≡ line ∷ rest)
last_line [] n h = absurd (omega (arith, h))
last_line (l ∷ lines) zero h = (l, lines, refl)
last_line (l ∷ lines) (suc n) h = last_line lines n (omega (arith, h))

-- ---- the attached store ----

pub attached_more : (start : Option Name) (lines : Lines) (line : Line) →
    attached_after start (lines ++ line ∷ []) ≡ attached_with (request_of line) (attached_after start lines)
unfolding attached_after
attached_more start [] line = refl
attached_more start (l ∷ lines) line = attached_more (attached_with (request_of l) start) lines line

done_attached : (request : Option Request) (start : Option Name) → MayAttach request start (attached_with request start)
done_attached None start = refl
done_attached (Some r) start = inr (inl refl)

-- After lines that are done.
pub attached_now : (start : Option Name) (lines : Lines) → AttachedIn start lines (attached_after start lines)
unfolding attached_after AttachedIn
attached_now start [] = refl
attached_now start (line ∷ []) = done_attached (request_of line) start
attached_now start (line ∷ next ∷ lines) = attached_now (attached_with (request_of line) start) (next ∷ lines)

-- While one more is at work.
pub attached_in : (start : Option Name) (lines : Lines) (line : Line) (attached : Option Name) →
    MayAttach (request_of line) (attached_after start lines) attached → AttachedIn start (lines ++ line ∷ []) attached
unfolding attached_after AttachedIn
attached_in start [] line attached k = k
attached_in start (l ∷ []) line attached k = k
attached_in start (l ∷ next ∷ lines) line attached k = attached_in (attached_with (request_of l) start) (next ∷ lines) line attached k

-- ---- names ----

-- What holds of one name's session as it becomes, and of each other as it was, holds of all.
pub each_name : (P : Name → NamedSession → Type 0) (name : Name) (session : NamedSession) (sessions : Sessions) → P name session →
    ((other : Name) → other ≢ name → P other (sessions other)) → (n : Name) → P n (with_named_session name session sessions n)
each_name P name session sessions own others n =
    by_name (λ b. P n (if b then session else sessions n)) n name (λ e. subst (λ x. P x session) (sym e) own) (others n)

-- ---- what a line asks for ----

-- What a crash may leave of the file of a name while a line is at work.
abbrev LeftOfName : Story → Seed → NamedSession → NamedSession → Name → Standing → Bytes → Type 0
LeftOfName g seed before after name m bytes = Stores g before bytes
    ⊎ ((m.attached ≡ Some (store_name name)) × (Stores g after bytes ⊎ LeftOfMaking g seed before after bytes))

-- Nothing.
pub nothing_done : (g : Story) (sessions : Sessions) (old : Standing) → AllStore g sessions old → IsDone g sessions None old old
nothing_done g sessions old stores =
    record { lines = refl; asked = refl; shown = refl; files = λ f h. refl; stores = stores; attached = refl }

-- Once it is done.
pub each_done : (g : Story) (seed : Seed) (sessions : Sessions) (request : Option Request) (start : Option Name) (m : Standing) →
    m.attached ≡ attached_with request start → AllLeft g (sessions_with g seed sessions request) m →
    EachLeft g seed sessions (sessions_with g seed sessions request) m
each_done g seed sessions None start m attached all = λ name is bytes may. inl (all name is bytes may)
each_done g seed sessions (Some r) start m attached all = λ name is bytes may.
    each_name (λ n s. Stores g s bytes → LeftOfName g seed (sessions n) s n m bytes) r.name (answer g seed (sessions r.name) r.text).session sessions
    (λ h. inr (attached, inl h)) (λ n other h. inl h) name (all name is bytes may)

-- ---- the reply ----

spoken : (name body : Bytes) → ((codes "[" ++ (name ++ codes "]\n")) ++ body) ++ codes "\n" ≡ reply_text name body
spoken name body =
    ap (λ x. 91 ∷ x) (append_assoc (name ++ codes "]\n") body (codes "\n") ∙ append_assoc name (codes "]\n") (body ++ codes "\n"))

module _ (g : Story) (seed : Seed) (sessions : Sessions) (old : Standing) (r : Request) (store : Name) (stores : AllStore g sessions old)
    (is : store ≡ store_name r.name) where
  other_file : (n : Name) → n ≢ r.name → store_name n ≢ store
  other_file n other e = other (append_cancel_right n r.name (codes ".paw") (e ∙ is))

  -- A session was asked for something, and the reply is made.
  pub does_request : (new : Standing) (begun grown whole : Bytes) → IsAside store old new → new.attached ≡ Some store →
      begun ≡ codes "[" ++ (r.name ++ codes "]\n") → Answers g (answer g seed (sessions r.name) r.text) begun grown (file_bytes new store) →
      whole ≡ grown ++ codes "\n" → AnswersRequest g seed sessions (Some r) whole old new
  does_request new begun grown whole aside attached opens a ends = (
    ends ∙ ap (λ x. x ++ codes "\n") (a.body ∙ ap (λ x. x ++ (answer g seed (sessions r.name) r.text).body) opens)
        ∙ spoken r.name (answer g seed (sessions r.name) r.text).body,
    record {
      attached = attached ∙ ap Some is;
      lines = aside.lines;
      asked = aside.asked;
      shown = aside.shown;
      files = λ f none. aside.files f (λ e. none r refl (e ∙ is));
      stores = each_name (λ n s. is_name n ≡ true → Stores g s (file_bytes new (store_name n))) r.name (answer g seed (sessions r.name) r.text).session
          sessions (λ named. subst (λ x. Stores g (answer g seed (sessions r.name) r.text).session (file_bytes new x)) is a.stores)
          (λ n other named. subst (Stores g (sessions n)) (sym (ap bytes_or_none (aside.files (store_name n) (other_file n other)))) (stores n named));
    },
  )

  -- While it is asked.
  pub doing_request : (m : Standing) → InAnswer g seed store (sessions r.name) (answer g seed (sessions r.name) r.text).session old m →
      Doing g seed sessions (Some r) old m
  doing_request m i = record {
    asked = i.asked;
    shown = i.shown;
    files = λ f none. i.files f (λ e. none r refl (e ∙ is));
    attached = subst (λ x. (m.attached ≡ old.attached) ⊎ (m.attached ≡ Some x) ⊎ (m.attached ≡ None)) is i.attached;
    left = each_name (λ n s. is_name n ≡ true → (bytes : Bytes) → MayBeLeft (store_name n) m bytes → LeftOfName g seed (sessions n) s n m bytes) r.name
        (answer g seed (sessions r.name) r.text).session sessions
        (λ named. subst (λ x. (bytes : Bytes) → MayBeLeft x m bytes → Stores g (sessions r.name) bytes
        ⊎ ((m.attached ≡ Some x) × (Stores g (answer g seed (sessions r.name) r.text).session bytes
        ⊎ LeftOfMaking g seed (sessions r.name) (answer g seed (sessions r.name) r.text).session bytes))) is i.left)
        (λ n other named bytes may.
        inl (subst (Stores g (sessions n)) (sym (i.others (store_name n) (other_file n other) bytes may)) (stores n named)));
  }
