-- How the breaks are found, word by word.
use Rattle.std.proofs.Common.{◌≡◌, ℕ, zero, suc, ◌<◌, ◌≤◌, ◌+◌, ◌-◌, true, eqb, List, [], ◌∷◌, ◌++◌, length, take, drop}
use Rattle.std.proofs.Common.{get_or, ◌≢◌, refl, sym, ap, ◌∙◌, arith}
use Rattle.std.proofs.Common.{add-one, zero-add, drop-cons, append-nil, append_assoc, length-drop}
use Rattle.std.proofs.lemmas.Bool.{eqb-true, lt-ltb, le-ltb, ne_eqb}
use Rattle.std.proofs.lemmas.List.{get_or-drop, drop-drop, take_all, drop_all}
use Rattle.std.proofs.lemmas.List.Sums.{passes_at_first}
use Rattle.paw_base.specs.Bytes.{Bytes, Text}
use Rattle.paw_wrap.specs.FirstFit.{space, line_feed, ends_word, word_length, breaks_from}
use Rattle.paw_wrap.proofs.Breaking.{NextBreak, step, left_true, breaks_from-empty, breaks_from-word}

after_line_feed : (w at before b : ℕ) (bs : Bytes) → b ≡ line_feed → breaks_from w at before (b ∷ bs) ≡ breaks_from w (suc at) 0 bs
unfolding breaks_from
after_line_feed w at before b bs e = rw e refl

after_break : (w at before b : ℕ) (bs : Bytes) → b ≡ space → w < before + 1 + word_length bs
    → breaks_from w at before (b ∷ bs) ≡ at ∷ breaks_from w (suc at) 0 bs
unfolding breaks_from
after_break w at before b bs e h = rw (e, lt-ltb _ _ h) refl

after_space : (w at before b : ℕ) (bs : Bytes) → b ≡ space → before + 1 + word_length bs ≤ w
    → breaks_from w at before (b ∷ bs) ≡ breaks_from w (suc at) (suc before) bs
unfolding breaks_from
after_space w at before b bs e h = rw (e, le-ltb _ _ h) refl

-- The breaks so far and those that are left are all. The line began before, and a word ends here.
pub record Reached (w : ℕ) (text : Text) (breaks : List ℕ) (line at : ℕ) : Type 0 where
  pub begun : line ≤ at
  pub within : at ≤ length text
  pub word_end : at < length text → ends_word (get_or text at 0) ≡ true
  pub so_far : breaks ++ breaks_from w at (at - line) (drop at text) ≡ breaks_from w 0 0 text

-- After the offset `at` there are n bytes before the next space or LF, or before the end.
pub record Word (text : Text) (at n : ℕ) : Type 0 where
  pub size : n ≡ word_length (drop (suc at) text)
  pub within : suc at + n ≤ length text

pub word_in : (text : Text) (at n : ℕ) → at < length text → n ≡ word_length (take (length text - (at + 1)) (drop (at + 1) text))
    → n ≤ length (take (length text - (at + 1)) (drop (at + 1) text)) → Word text at n
word_in text at n h e within =
    let all : take (length text - (at + 1)) (drop (at + 1) text) ≡ drop (suc at) text =
    take_all _ (drop (at + 1) text) (omega (arith, length-drop (at + 1) text)) ∙ ap (λ k. drop k text) (add-one at) in
    record {
      size = e ∙ ap word_length all;
      within = omega (arith, h, within, ap length all, length-drop (suc at) text);
    }

word_ends : (text : Text) (from n : ℕ) → n ≡ word_length (drop from text) → from + n < length text → ends_word (get_or text (from + n) 0) ≡ true
word_ends text from n e h =
    ap ends_word (sym (get_or-drop from text n 0) ∙ ap (λ k. get_or (drop from text) k 0) e)
    ∙ passes_at_first ends_word (drop from text) 0 (omega (arith, e, length-drop from text))

-- What first fit does after a word.
next_word : (w before after at n : ℕ) (text : Text) → Word text at n → after ≡ before + n
    → breaks_from w (suc at) before (drop (suc at) text) ≡ breaks_from w (at + 1 + n) after (drop (at + 1 + n) text)
next_word w before after at n text word e =
    breaks_from-word w (suc at) before n (at + 1 + n) after (drop (suc at) text) (omega arith) e (omega (arith, word.size))
    ∙ ap (breaks_from w (at + 1 + n) after) (drop-drop n (suc at) text ∙ ap (λ k. drop k text) (omega arith))

-- The word after the offset is passed.
passed : (w line next at n : ℕ) (text : Text) (breaks more : List ℕ) → Reached w text breaks line at → at < length text → Word text at n → next ≤ at + 1
    → breaks_from w at (at - line) (get_or text at 0 ∷ drop (suc at) text) ≡ more ++ breaks_from w (suc at) (at + 1 - next) (drop (suc at) text)
    → Reached w text (breaks ++ more) next (at + 1 + n)
passed w line next at n text breaks more r h word begins e =
    let place : suc at + n ≡ at + 1 + n = omega arith in
    let rest : breaks_from w at (at - line) (drop at text) ≡ more ++ breaks_from w (at + 1 + n) (at + 1 + n - next) (drop (at + 1 + n) text) =
    ap (breaks_from w at (at - line)) (drop-cons text at 0 h) ∙ e
    ∙ ap (λ (left : List ℕ). more ++ left) (next_word w (at + 1 - next) (at + 1 + n - next) at n text word (omega (arith, begins))) in
    record {
      begun = omega (arith, begins);
      within = omega (arith, word.within);
      word_end = λ inside. ap (λ k. ends_word (get_or text k 0)) (sym place) ∙ word_ends text (suc at) n word.size (omega (arith, inside));
      so_far = append_assoc breaks more _ ∙ ap (λ (left : List ℕ). breaks ++ left) (sym rest) ∙ r.so_far;
    }

pub begins : (w n : ℕ) (text : Text) → n ≡ word_length text → n ≤ length text → Reached w text [] 0 n
begins w n text e h = record {
  begun = omega arith;
  within = h;
  word_end = λ inside. ap (λ k. ends_word (get_or text k 0)) (sym (zero-add n)) ∙ word_ends text 0 n e (omega (arith, inside));
  so_far = sym (breaks_from-word w 0 0 n n (n - 0) text (omega arith) (omega arith) (omega (arith, e)));
}

pub past_line_feed : (w line at n : ℕ) (text : Text) (breaks : List ℕ) → Reached w text breaks line at → at < length text → Word text at n
    → get_or text at 0 ≡ line_feed → Reached w text breaks (at + 1) (at + 1 + n)
past_line_feed w line at n text breaks r h word e =
    let none : at + 1 - (at + 1) ≡ 0 = omega arith in
    rw (append-nil breaks) at (passed w line (at + 1) at n text breaks [] r h word (omega arith)
    (rw none (after_line_feed w at (at - line) (get_or text at 0) (drop (suc at) text) e)))

-- The byte at which a word ends is a space, where it isn't an LF.
space_at : (b : ℕ) → ends_word b ≡ true → b ≢ line_feed → b ≡ space
space_at b e other = eqb-true b space (left_true (eqb b space) (eqb b line_feed) (ne_eqb b line_feed other) e)

pub past_break : (w line at n : ℕ) (text : Text) (breaks : List ℕ) → Reached w text breaks line at → at < length text → Word text at n
    → get_or text at 0 ≢ line_feed → w < at + 1 + n - line → Reached w text (breaks ++ at ∷ []) (at + 1) (at + 1 + n)
past_break w line at n text breaks r h word other long =
    let none : at + 1 - (at + 1) ≡ 0 = omega arith in
    passed w line (at + 1) at n text breaks (at ∷ []) r h word (omega arith)
    (rw none (after_break w at (at - line) (get_or text at 0) (drop (suc at) text) (space_at _ (r.word_end h) other) (omega (arith, word.size, r.begun))))

pub past_space : (w line at n : ℕ) (text : Text) (breaks : List ℕ) → Reached w text breaks line at → at < length text → Word text at n
    → get_or text at 0 ≢ line_feed → at + 1 + n - line ≤ w → Reached w text breaks line (at + 1 + n)
past_space w line at n text breaks r h word other short =
    let more : at + 1 - line ≡ suc (at - line) = omega (arith, r.begun) in
    rw (append-nil breaks) at (passed w line line at n text breaks [] r h word (omega (arith, r.begun))
    (rw more (after_space w at (at - line) (get_or text at 0) (drop (suc at) text) (space_at _ (r.word_end h) other) (omega (arith, word.size, r.begun)))))

pub all_found : (w line at : ℕ) (text : Text) (breaks : List ℕ) → Reached w text breaks line at → length text ≤ at → breaks ≡ breaks_from w 0 0 text
all_found w line at text breaks r h =
    sym (append-nil breaks) ∙ ap (λ (left : List ℕ). breaks ++ left)
    (sym (ap (breaks_from w at (at - line)) (drop_all at text h) ∙ breaks_from-empty w at (at - line))) ∙ r.so_far

more_inside : (at size : ℕ) (places : List ℕ) → ((i : ℕ) → i < length places → get_or places i 0 < suc at + size)
    → (i : ℕ) → i < length (at ∷ places) → get_or (at ∷ places) i 0 < suc at + size
more_inside at size places inside zero h = omega arith
more_inside at size places inside (suc i) h = inside i (omega (arith, h))

inside_from : (w at before : ℕ) (text : Text) (i : ℕ) → i < length (breaks_from w at before text)
    → get_or (breaks_from w at before text) i 0 < at + length text
inside_from w at before [] i = rw (breaks_from-empty w at before) (λ h. absurd (omega (arith, h)))
inside_from w at before (b ∷ bs) i =
    let more : at + suc (length bs) ≡ suc at + length bs = omega arith in
    elim (step w at before b bs) as
    (λ _. i < length (breaks_from w at before (b ∷ bs)) → get_or (breaks_from w at before (b ∷ bs)) i 0 < at + suc (length bs)) [
      | NextBreak.ends_line e r ↦ rw (r, more) (inside_from w (suc at) 0 bs i)
      | NextBreak.breaks e f g r ↦ rw (r, more) (more_inside at (length bs) (breaks_from w (suc at) 0 bs) (inside_from w (suc at) 0 bs) i)
      | NextBreak.goes_on e f r ↦ rw (r, more) (inside_from w (suc at) (suc before) bs i)
    ]

-- Each break is an offset of the text.
pub is_inside : (w : ℕ) (text : Text) (places : List ℕ) (i : ℕ) → places ≡ breaks_from w 0 0 text → i < length places → get_or places i 0 < length text
is_inside w text places i e h = rw e (omega (arith, inside_from w 0 0 text i (rw e at h)))
