-- The host, from line to line: what stands, and what stands at each moment.
use Rattle.paw_host.proofs.Cited.{◌≡◌, inl, inr, ℕ, zero, suc, ◌+◌, ◌<◌, ◌≤◌, ◌^◌, ◌==◌, [], ◌∷◌, ◌++◌, Option, Some, None, Bool, true, false, refl, sym, ap, ◌∙◌, subst, length, take, drop, arith, append_assoc, All, position, IfSome, if◌then◌else◌, append-nil, take-append-drop, length-drop, length-take, All-drop, All-take, All-head, Bytes, Line, Lines, Text, Seed, Name, LINE_LIMIT, Story, AreBytes, ValidStory, Standing, IsCut, file_bytes, with_shown, InAsk, InShow, EachMoment, IsOneOf, Ghosts, Passes_map, Passes_on, DoneWithMoments, session_calls, drop_more, drop_all, Request, line_split, split_at, request_in, is_name, store_name, Sessions, reply_to, sessions_with, Stores, AllStore, AllLeft, EachLeft, IsUpToDate, IsNotOf, InHost, Answered, BeginsWith, attached_with, MayAttach, AttachedIn, HasTaken, Ends, Hosts, host_failure, HOST_LIMIT, HostOutcome, AllMay, AnswersRequest, Doing, IsDone, IsNotFor, InWork, IsServing, SameLines, ServesTo, TakesTo, Rests, request_of, attached_after, sessions_after, replies}
use Rattle.paw_host.specs.declared.outcome.HostOutcome.TheVariants as outcome
use Rattle.paw_host.proofs.{Continuing.IfLine, Continuing.all_may, Reaching.rest_left, Serving.line_more, Serving.sessions_more, Serving.replies_more, Serving.not_of_more, Serving.last_line, Serving.attached_more, Serving.attached_now, Serving.attached_in, Serving.each_done}

-- The files of all sessions, at rest.
all_left : (g : Story) (sessions : Sessions) (s : Standing) → AllStore g sessions s → Rests s → AllLeft g sessions s
all_left g sessions s stores rests name is bytes may = subst (Stores g (sessions name)) (sym (rest_left s rests (store_name name) bytes may)) (stores name is)

-- ---- what a line asks for ----

-- What the first bytes of a line ask for is what the line does.
pub cut_request : (line into given : Bytes) (n : ℕ) → IsCut line into n → given ≡ take n into → request_in given ≡ request_of line
unfolding request_of
cut_request line into given n cut e = ap request_in (e ∙ cut.same)

text_line : (line : Line) (at : Option ℕ) → length line ≤ LINE_LIMIT → AreBytes line → IfLine (split_at line at).text
text_line line None short bytes = tt
text_line line (Some at) short bytes =
    record { short = omega (arith, length-drop (at + 1) line, short); bytes = All-drop (λ b. b < 256) (at + 1) line bytes }

request_line : (line : Line) (named : Bool) → is_name (line_split line).name ≡ named → length line ≤ LINE_LIMIT → AreBytes line → (r : Request) →
    (if named then Some (line_split line) else None) ≡ Some r → (is_name r.name ≡ true) × IfLine r.text
request_line line true is short bytes r e =
    let same : line_split line ≡ r = cc in
    subst (λ (q : Request). (is_name q.name ≡ true) × IfLine q.text) same (is, text_line line (position (λ b. b == 32) line) short bytes)
request_line line false is short bytes r e = cc

-- A name, and a text that is a line.
pub asks_line : (line : Line) → AreBytes line → (r : Request) → request_of line ≡ Some r → (is_name r.name ≡ true) × IfLine r.text
unfolding request_of
asks_line line bytes r e =
    request_line (take LINE_LIMIT line) (is_name (line_split (take LINE_LIMIT line)).name) refl (omega (arith, length-take LINE_LIMIT line))
    (All-take (λ b. b < 256) LINE_LIMIT line bytes) r e

-- Each line that is left is made of bytes.
line_bytes : (lines : Lines) (n : ℕ) (line : Line) (rest : Lines) → drop n lines ≡ line ∷ rest → All AreBytes lines → AreBytes line
line_bytes lines n line rest e all = All-head AreBytes line rest (subst (All AreBytes) e (All-drop AreBytes n lines all))

-- ---- before the first line ----

pub serving_first : (g : Story) (seed : Seed) (first : Sessions) (old : Standing) → BeginsWith g first old → Rests old → IsServing g seed first old old 0
unfolding sessions_after replies attached_after
serving_first g seed first old b rests = record {
  answered = record {
    there = omega arith;
    lines = refl;
    asked = omega arith;
    shown = sym (append-nil old.shown);
    files = b.files;
    attached = refl;
    others = λ f h. refl;
  };
  may = b.may;
  rests = rests;
}

-- ---- at a prompt ----

module _ (g : Story) (seed : Seed) (first : Sessions) (lines : Lines) (n : ℕ) (line : Line) (split : take (suc n) lines ≡ take n lines ++ line ∷ []) where
  sessions_then : sessions_after g seed first (take (suc n) lines) ≡ sessions_with g seed (sessions_after g seed first (take n lines)) (request_of line)
  sessions_then = ap (sessions_after g seed first) split ∙ sessions_more g seed first (take n lines) line

  replies_then : replies g seed first (take (suc n) lines)
      ≡ replies g seed first (take n lines) ++ reply_to g seed (sessions_after g seed first (take n lines)) (request_of line)
  replies_then = ap (replies g seed first) split ∙ replies_more g seed first (take n lines) line

  attached_then : (start : Option Name) → attached_after start (take (suc n) lines) ≡ attached_with (request_of line) (attached_after start (take n lines))
  attached_then start = ap (attached_after start) split ∙ attached_more start (take n lines) line

  -- The line is answered, and a part of its reply is shown.
  part_shown : (start : Option Name) (m : Standing) (part rest : Text) → m.attached ≡ attached_with (request_of line) start →
      AllLeft g (sessions_after g seed first (take (suc n) lines)) m →
      part ++ rest ≡ reply_to g seed (sessions_after g seed first (take n lines)) (request_of line) →
      IsUpToDate g seed first lines (suc n) (replies g seed first (take n lines) ++ part) m
  part_shown start m part rest attached all whole = (
    subst (λ x. EachLeft g seed (sessions_after g seed first (take n lines)) x m) (sym sessions_then)
        (each_done g seed (sessions_after g seed first (take n lines)) (request_of line) start m attached (subst (λ x. AllLeft g x m) sessions_then all)),
    inr (
      (
        (part, refl),
        (
          rest,
          append_assoc (replies g seed first (take n lines)) part rest ∙ ap (λ x. replies g seed first (take n lines) ++ x) whole ∙ sym replies_then,
        ),
      ),
      all,
    ),
  )

up_to_date_now : (g : Story) (seed : Seed) (first : Sessions) (start : Option Name) (lines : Lines) (n : ℕ) (m : Standing) → n ≤ length lines →
    m.attached ≡ attached_after start (take n lines) → AllLeft g (sessions_after g seed first (take n lines)) m →
    IsUpToDate g seed first lines n (replies g seed first (take n lines)) m
unfolding sessions_after replies
up_to_date_now g seed first start lines zero m there attached h = (refl, h)
up_to_date_now g seed first start lines (suc n) m there attached h =
    let last = last_line lines n there in
    let split = line_more lines n last.0 last.1 last.2 in
    let reply : Text = reply_to g seed (sessions_after g seed first (take n lines)) (request_of last.0) in
    subst (λ text. IsUpToDate g seed first lines (suc n) text m) (sym (replies_then g seed first lines n last.0 split))
    (part_shown g seed first lines n last.0 split (attached_after start (take n lines)) m reply []
    (attached ∙ attached_then g seed first lines n last.0 split start) h (append-nil reply))

pub still_at_prompt : {g : Story} {seed : Seed} {first : Sessions} {old now : Standing} {n : ℕ} → IsServing g seed first old now n → (m : Standing) →
    m ≡ now → InHost g seed first old m
still_at_prompt {g} {seed} {first} {old} {now} {n} s m e = subst (InHost g seed first old) (sym e) (record {
  taken = n;
  text = replies g seed first (take n old.lines);
  there = s.answered.there;
  asked = s.answered.asked;
  shown = s.answered.shown;
  attached = subst (AttachedIn old.attached (take n old.lines)) (sym s.answered.attached) (attached_now old.attached (take n old.lines));
  up_to_date = up_to_date_now g seed first old.attached old.lines n now s.answered.there s.answered.attached
      (all_left g (sessions_after g seed first (take n old.lines)) now s.answered.files s.rests);
  others = s.answered.others;
})

-- Before the first line.
pub at_first : (g : Story) (seed : Seed) (first : Sessions) (old : Standing) → BeginsWith g first old → Rests old → (m : Standing) → m ≡ old →
    InHost g seed first old m
at_first g seed first old b rests = still_at_prompt (serving_first g seed first old b rests)

-- No line is left.
pub all_answered : {g : Story} {seed : Seed} {first : Sessions} {old now : Standing} {n : ℕ} → IsServing g seed first old now n → now.lines ≡ [] →
    n ≡ length old.lines
all_answered {old} {n} s none = drop_all old.lines n (sym s.answered.lines ∙ none) s.answered.there

nothing_attached : (request : Option Request) (attached : Option Name) → MayAttach request attached attached
nothing_attached None attached = refl
nothing_attached (Some r) attached = inl refl

-- ---- one line more ----

module _ {g : Story} {seed : Seed} {first : Sessions} {old now mid : Standing} {n : ℕ} {line : Line} (s : IsServing g seed first old now n)
    (left : now.lines ≡ line ∷ mid.lines) (took : mid ≡ record now { lines = mid.lines; asked = now.asked + 1 }) where
  abbrev before : Sessions
  before = sessions_after g seed first (take n old.lines)

  abbrev after : Sessions
  after = sessions_with g seed before (request_of line)

  at : drop n old.lines ≡ line ∷ mid.lines
  at = sym s.answered.lines ∙ left

  split : take (suc n) old.lines ≡ take n old.lines ++ line ∷ []
  split = line_more old.lines n line mid.lines at

  after_is : sessions_after g seed first (take (suc n) old.lines) ≡ after
  after_is = sessions_then g seed first old.lines n line split

  asked_more : mid.asked ≡ old.asked + suc n
  asked_more = let a = ap (λ (q : Standing). q.asked) took in let b = s.answered.asked in omega (arith, a, b)

  shown_same : mid.shown ≡ old.shown ++ replies g seed first (take n old.lines)
  shown_same = ap (λ (q : Standing). q.shown) took ∙ s.answered.shown

  attached_same : mid.attached ≡ attached_after old.attached (take n old.lines)
  attached_same = ap (λ (q : Standing). q.attached) took ∙ s.answered.attached

  -- No file changes that isn't that of a name.
  others_more : (files : Name → Option Bytes) → ((f : Name) → IsNotFor (request_of line) f → files f ≡ mid.files f) → (f : Name) →
      IsNotOf (take (suc n) old.lines) f → files f ≡ old.files f
  others_more files same f h =
      let k = not_of_more (take n old.lines) line f (subst (λ x. IsNotOf x f) split h) in
      same f k.1 ∙ (ap (λ (q : Standing). q.files f) took ∙ s.answered.others f k.0)

  pub mid_stores : AllStore g before mid
  mid_stores name is = subst (λ (q : Standing). Stores g (before name) (file_bytes q (store_name name))) (sym took) (s.answered.files name is)

  -- While it is asked for, and while what it asks for is done.
  in_work : (m : Standing) → InWork g seed before after (request_of line) mid m → InHost g seed first old m
  in_work m i = record {
    taken = suc n;
    text = replies g seed first (take n old.lines);
    there = (drop_more old.lines n line mid.lines at).1;
    asked = i.asked ∙ asked_more;
    shown = i.shown ∙ shown_same;
    up_to_date = (subst (λ x. EachLeft g seed before x m) (sym after_is) i.left, inl refl);
    attached = subst (λ x. AttachedIn old.attached x m.attached) (sym split)
        (attached_in old.attached (take n old.lines) line m.attached (subst (λ a. MayAttach (request_of line) a m.attached) attached_same i.attached));
    others = others_more m.files i.files;
  }

  -- Once it was taken nothing is done yet.
  not_begun : InWork g seed before after (request_of line) mid mid
  not_begun = record {
    asked = refl;
    shown = refl;
    files = λ f h. refl;
    attached = nothing_attached (request_of line) mid.attached;
    left = λ name is bytes may.
        inl (all_left g before mid mid_stores (subst Rests (sym took) (record { stable = s.rests.stable; files = s.rests.files })) name is bytes may);
  }

  -- While the host asks for it.
  pub in_ask : (m : Standing) → InAsk now mid m → InHost g seed first old m
  in_ask m (inl e) = still_at_prompt s m e
  in_ask m (inr e) = in_work m (subst (InWork g seed before after (request_of line) mid) (sym e) not_begun)

  module _ (request : Option Request) (same : request ≡ request_of line) where
    -- While what it asks for is done.
    pub in_doing : (m : Standing) → Doing g seed before request mid m → InHost g seed first old m
    in_doing m i = in_work m (subst (λ r. Doing g seed before r mid m) same i)

    -- While it is asked for, and what it asks for is done.
    pub works : {S : Type 0} {stage : Ghosts S} {t u v : S} {Done : Type 0} → DoneWithMoments stage u v Done (Doing g seed before request mid) →
        EachMoment stage t u (InAsk now mid) → EachMoment stage t v (InHost g seed first old)
    works does asks = Passes_on _ _ _ _ _ _ (InHost g seed first old) (Doing g seed before request mid)
        (Passes_map _ _ _ _ _ (InHost g seed first old) asks in_ask) does.any_moment in_doing

    module _ (text : Text) (done : Standing) (does : AnswersRequest g seed before request text mid done) (rests : Rests done) (shown : Text)
        (said : shown ≡ text) where
      is : IsDone g after (request_of line) mid done
      is = subst (λ r. IsDone g (sessions_with g seed before r) r mid done) same does.1

      reply_is : shown ≡ reply_to g seed before (request_of line)
      reply_is = said ∙ does.0 ∙ ap (reply_to g seed before) same

      shown_before : (part : Text) → done.shown ++ part ≡ old.shown ++ (replies g seed first (take n old.lines) ++ part)
      shown_before part = ap (λ x. x ++ part) (is.shown ∙ shown_same) ∙ append_assoc old.shown (replies g seed first (take n old.lines)) part

      attached_done : done.attached ≡ attached_after old.attached (take (suc n) old.lines)
      attached_done = is.attached ∙ ap (attached_with (request_of line)) attached_same
          ∙ sym (attached_then g seed first old.lines n line split old.attached)

      stores_done : AllStore g (sessions_after g seed first (take (suc n) old.lines)) done
      stores_done = subst (λ x. AllStore g x done) (sym after_is) is.stores

      -- While its reply is shown.
      pub in_show : (m : Standing) → InShow done shown m → InHost g seed first old m
      in_show m i = subst (InHost g seed first old) (sym i.1) (record {
        taken = suc n;
        text = replies g seed first (take n old.lines) ++ take i.0 shown;
        there = (drop_more old.lines n line mid.lines at).1;
        asked = is.asked ∙ asked_more;
        shown = shown_before (take i.0 shown);
        up_to_date = part_shown g seed first old.lines n line split mid.attached done (take i.0 shown) (drop i.0 shown) is.attached
            (all_left g (sessions_after g seed first (take (suc n) old.lines)) done stores_done rests) (take-append-drop i.0 shown ∙ reply_is);
        attached = subst (AttachedIn old.attached (take (suc n) old.lines)) (sym attached_done) (attached_now old.attached (take (suc n) old.lines));
        others = others_more done.files is.files;
      })

      -- The next line may come.
      pub next_serves : (new : Standing) → new ≡ with_shown shown done → Rests new → ValidStory g → seed < 2 ^ 64 → All AreBytes old.lines →
          IsServing g seed first old new (suc n)
      next_serves new e resting valid small bytes = record {
        answered = subst (λ q. Answered g seed first old q (suc n)) (sym e) (record {
          there = (drop_more old.lines n line mid.lines at).1;
          lines = is.lines ∙ sym (drop_more old.lines n line mid.lines at).0;
          asked = is.asked ∙ asked_more;
          shown = shown_before shown ∙ ap (λ x. old.shown ++ (replies g seed first (take n old.lines) ++ x)) reply_is
              ∙ ap (λ x. old.shown ++ x) (sym (replies_then g seed first old.lines n line split));
          attached = attached_done;
          files = stores_done;
          others = others_more done.files is.files;
        });
        may = subst (AllMay g) (sym after_is)
            (all_may g seed before (request_of line) valid small (asks_line line (line_bytes old.lines n line mid.lines at bytes)) s.may);
        rests = resting;
      }

-- ---- how taking lines ends ----

-- What the last line did, if there was one.
pub hosts_by : (g : Story) (seed : Seed) (first : Sessions) (old new : Standing) (n : ℕ) (o : HostOutcome) → ServesTo g seed first old new n (Some o) →
    InHost g seed first old new → Hosts g seed first old new o
hosts_by g seed first old new n outcome.InputEnded h i = subst (Answered g seed first old new) h.0 h.1.answered
hosts_by g seed first old new n (outcome.Outside c) h i = i
hosts_by g seed first old new n _ h i = absurd h

-- ---- lines that were taken ----

-- A line was asked for, and its reply was made and shown.
pub took_one : (old mid done new : Standing) (line shown : Bytes) → old.lines ≡ line ∷ mid.lines →
    mid ≡ record old { lines = mid.lines; asked = old.asked + 1 } →
    SameLines mid done → new ≡ with_shown shown done → TakesTo old new None
took_one old mid done new line shown left took same grew = (
  line,
  left ∙ ap (λ x. line ∷ x) (sym (ap (λ (q : Standing). q.lines) grew ∙ same.lines)),
  ap (λ (q : Standing). q.asked) grew ∙ same.asked ∙ ap (λ (q : Standing). q.asked) took,
)

pub taken_none : (old : Standing) → HasTaken old old 0
taken_none old = record { there = omega arith; lines = refl; asked = omega arith }

-- One line more.
pub taken_more : (old now new : Standing) (n : ℕ) → HasTaken old now n → TakesTo now new None → HasTaken old new (n + 1)
taken_more old now new n h k =
    let m = drop_more old.lines n k.0 new.lines (sym h.lines ∙ k.1) in
    let count : suc n ≡ n + 1 = omega arith in
    subst (HasTaken old new) count (record { there = m.1; lines = sym m.0; asked = omega (arith, k.2, h.asked) })

-- None was left, or a call failed.
pub ends_by : (old now new : Standing) (n : ℕ) (o : HostOutcome) → HasTaken old now n → n < HOST_LIMIT → TakesTo now new (Some o) →
    IfSome (host_failure o) (IsOneOf session_calls) → Ends old new o
ends_by old now new n outcome.InputEnded h few k among =
    let all : n ≡ length old.lines = drop_all old.lines n (sym h.lines ∙ k.0) h.there in
    (omega (arith, all, few), subst (λ q. HasTaken old q (length old.lines)) (sym k.1) (subst (HasTaken old now) all h))
ends_by old now new n (outcome.Outside c) h few k among = among
ends_by old now new n _ h few k among = absurd k
