-- The lines of a trial, and how they are taken.
use Rattle.std.proofs.Common.{◌≡◌, ℕ, ◌/◌, ◌%◌, ◌≤◌, ◌<◌, Bool, true, false, [], ◌∷◌, ◌++◌, map, length, get_or}
use Rattle.std.proofs.Common.{take, drop, refl, sym, ap, ◌∙◌, subst}
use Rattle.std.proofs.Common.{arith, append_assoc}
use Rattle.std.specs.Prelude.{All, ◌==◌, nat_lt, nat_le, codes, if◌then◌else◌}
use Rattle.std.specs.List.{list_all}
use Rattle.std.proofs.lemmas.Bool.Decides.{nat_tests}
use Rattle.std.proofs.lemmas.List.{take_all, take-append-drop}
use Rattle.std.proofs.lemmas.List.Elements.{All-tail, All-head, All-take, All-drop}
use Rattle.std.proofs.lemmas.List.Folds.{list_all_at}
use Rattle.std.proofs.lemmas.List.FromFn.{get_or-map-range_with_len}
use Rattle.paw_base.specs.Bytes.{Bytes, Line, Lines}
use Rattle.paw_base.specs.declared.limits.TheConstants.{LINE_LIMIT}
use Rattle.paw_play.specs.Walk.{first_lines}
use Rattle.paw_reading.specs.Bounds.{IsLine, ValidStory}
use Rattle.paw_play.specs.Stands.{IsPlayedWith}
use Rattle.paw_gen.specs.Trial.{trial_line, trial_lines, line_count}
use Rattle.paw_gen.proofs.Rows.{length_rows}
use Rattle.paw_gen.proofs.Valids.{trial_valid}
use Rattle.paw_trial.specs.Trial.{trial_story}
use Rattle.paw_trial.specs.inner.Session.{first_half, second_half}

-- ---- they are lines ----

each_byte : (bytes : Bytes) → list_all (λ b. nat_lt b 256) bytes ≡ true → (k d : ℕ) → k < length bytes → get_or bytes k d < 256
each_byte bytes h k d low = by_test (nat_lt (get_or bytes k d) 256) refl
  where
    by_test : (b : Bool) → nat_lt (get_or bytes k d) 256 ≡ b → get_or bytes k d < 256
    by_test true e = grind (arith, nat_tests)
    by_test false e =
        let broken : list_all (λ b. nat_lt b 256) bytes ≡ false = list_all_at (λ b. nat_lt b 256) bytes k d low e in
        absurd cc

is_line : (line : Line) → nat_le (length line) LINE_LIMIT ≡ true → list_all (λ b. nat_lt b 256) line ≡ true
    → IsLine line
is_line line short bytes = record { short = grind (arith, nat_tests); bytes = each_byte line bytes }

by_tests : (P : Line → Type 0) (a b c d e : Bool) (u v w x y z : Line) → P u → P v → P w → P x → P y → P z →
    P (if a then u else if b then v else if c then w else if d then x else if e then y else z)
by_tests P true b c d e u v w x y z pu pv pw px py pz = pu
by_tests P false true c d e u v w x y z pu pv pw px py pz = pv
by_tests P false false true d e u v w x y z pu pv pw px py pz = pw
by_tests P false false false true e u v w x y z pu pv pw px py pz = px
by_tests P false false false false true u v w x y z pu pv pw px py pz = py
by_tests P false false false false false u v w x y z pu pv pw px py pz = pz

each_line : (j : ℕ) → IsLine (trial_line j)
each_line j =
    by_tests IsLine (j % 6 == 0) (j % 6 == 1) (j % 6 == 2) (j % 6 == 3) (j % 6 == 4)
    (codes "NORTH") (codes "GET ALL") (codes "INVEN") (codes "LOOK") (codes "DROP ALL") (codes "SOUTH AND GET ALL")
    (is_line (codes "NORTH") refl refl) (is_line (codes "GET ALL") refl refl) (is_line (codes "INVEN") refl refl)
    (is_line (codes "LOOK") refl refl) (is_line (codes "DROP ALL") refl refl) (is_line (codes "SOUTH AND GET ALL") refl refl)

pub all_lines : (n : ℕ) → All IsLine (trial_lines n)
unfolding trial_lines
all_lines n = λ k d low.
    let within : k < line_count n = omega (arith, low, length_rows trial_line (line_count n)) in
    subst IsLine (sym (get_or-map-range_with_len trial_line 0 (line_count n) k k d within (omega arith))) (each_line k)

pub few_lines : (n : ℕ) → length (trial_lines n) ≤ 99
unfolding trial_lines
few_lines n = omega (arith, length_rows trial_line (line_count n))

-- ---- the two halves ----

pub first_are : (n : ℕ) → All IsLine (first_half n)
first_are n = All-take IsLine (length (trial_lines n) / 2) (trial_lines n) (all_lines n)

pub second_are : (n : ℕ) → All IsLine (second_half n)
second_are n = All-drop IsLine (length (trial_lines n) / 2) (trial_lines n) (all_lines n)

pub both_halves : (n : ℕ) → first_half n ++ second_half n ≡ trial_lines n
both_halves n = take-append-drop (length (trial_lines n) / 2) (trial_lines n)

-- The game is valid, and no routine is there.
trial_story_valid : (n : ℕ) → ValidStory (trial_story n)
trial_story_valid n = record {
  game = trial_valid n;
  whole = λ k d low. absurd (omega (arith, low));
  bytes = λ k d low. absurd (omega (arith, low));
}

-- The game is played with the first half.
pub plays_first : (n : ℕ) → n < 65536 → IsPlayedWith (trial_story n) n (first_half n)
plays_first n low = record { valid = trial_story_valid n; fits = omega (arith, low); lines = first_are n }

pub plays_all : (n : ℕ) → n < 65536 → IsPlayedWith (trial_story n) n (trial_lines n)
plays_all n low = record { valid = trial_story_valid n; fits = omega (arith, low); lines = all_lines n }

-- ---- taking lines ----

-- No line is cut.
uncut : (lines : Lines) → All IsLine lines → map (take LINE_LIMIT) lines ≡ lines
uncut [] are = refl
uncut (line ∷ lines) are =
    let rest : map (take LINE_LIMIT) lines ≡ lines = uncut lines (All-tail IsLine line lines are) in
    let this : take LINE_LIMIT line ≡ line = take_all LINE_LIMIT line (All-head IsLine line lines are).short in
    cc

pub first_taken : (k : ℕ) (lines : Lines) → All IsLine lines → first_lines k lines ≡ take k lines
first_taken k lines are = uncut (take k lines) (All-take IsLine k lines are)

pub all_taken : (lines : Lines) → All IsLine lines → first_lines (length lines) lines ≡ lines
all_taken lines are = first_taken (length lines) lines are ∙ take_all (length lines) lines (omega arith)

-- Those that were taken and those that are left.
pub taken_and_left : (before lines behind : Lines) (k : ℕ) → All IsLine lines →
    (before ++ first_lines k lines) ++ (drop k lines ++ behind) ≡ (before ++ lines) ++ behind
taken_and_left before lines behind k are =
    ap (λ xs. (before ++ xs) ++ (drop k lines ++ behind)) (first_taken k lines are)
    ∙ (sym (append_assoc (before ++ take k lines) (drop k lines) behind)
    ∙ ap (λ xs. xs ++ behind) (append_assoc before (take k lines) (drop k lines) ∙ ap (λ xs. before ++ xs) (take-append-drop k lines)))
