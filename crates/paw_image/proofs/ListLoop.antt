-- Reading rows one after another into a list, as a loop does.
use Rattle.std.proofs.Common.{◌≡◌, ℕ, suc, ◌-◌, ◌+◌, ◌≤◌, ◌<◌, List, [], ◌∷◌, ◌++◌, length, Some, Ok, Err}
use Rattle.std.proofs.Common.{refl, sym, ap, subst, ◌∙◌, append_assoc, arith}
use Rattle.std.specs.Prelude.{slice_get}
use Rattle.std.proofs.lemmas.List.{append-nil, length-append}
use Rattle.paw_base.specs.Bytes.{Bytes}
use Rattle.paw_game.specs.declared.parts.Word.{Word}
use Rattle.paw_read_error.specs.declared.read_error.ReadError.{ReadError}
use Rattle.paw_read_error.specs.Bind.{◌>>=◌}
use Rattle.paw_image.specs.Reading.{Reading}
use Rattle.paw_image.specs.Damage.{checked_word, words_above}
use Rattle.paw_read_error.specs.inner.Gives.{Fails}
use Rattle.paw_image.specs.inner.Reading.{leading_rows}
use Rattle.paw_image.specs.inner.Words.{letters_if_word, last_letters}
use Rattle.paw_image.proofs.Faults.{fails_next}

-- What was read before, and what is still read.
abbrev pub with_front : {A : Type 0} → List A → Reading (List A) → Reading (List A)
with_front front reading = reading >>= λ x. Ok (front ++ x.0, x.1)

-- A row, and what is still read after it.
abbrev pub one_more : {A : Type 0} → Reading A → (A → Bytes → Reading (List A)) → Reading (List A)
one_more one others = one >>= λ x. others x.0 x.1 >>= λ y. Ok (x.0 ∷ y.0, y.1)

regroup : {A : Type 0} (front : List A) (x : A) (reading : Reading (List A))
    → with_front front (reading >>= λ y. Ok (x ∷ y.0, y.1)) ≡ with_front (front ++ x ∷ []) reading
regroup {A} front x (Ok y) = ap (λ (xs : List A). Ok (xs, y.1)) (simp append_assoc)
regroup front x (Err left) = refl

module _ {A : Type 0} (front : List A) (one : Reading A) (others : A → Bytes → Reading (List A))
    (all total : Reading (List A)) (is : all ≡ one_more one others) (so_far : with_front front all ≡ total) where
  pub goes_on : (x : A) (after : Bytes) → one ≡ Ok (x, after) → with_front (front ++ x ∷ []) (others x after) ≡ total
  goes_on x after h =
      let next : one_more one others ≡ (others x after >>= λ y. Ok (x ∷ y.0, y.1)) = rw h refl in
      sym (regroup front x (others x after)) ∙ sym (ap (with_front front) (is ∙ next)) ∙ so_far

  pub ends : (e : ReadError ℕ) → Fails e one → Fails e total
  ends e h =
      let fails = fails_next e one (λ x. others x.0 x.1 >>= λ y. Ok (x.0 ∷ y.0, y.1)) h in
      subst (Fails e) so_far (fails_next e all _ (subst (Fails e) (sym is) fails))

pub is_done : {A : Type 0} (front : List A) (bytes : Bytes) (all total : Reading (List A)) → all ≡ Ok ([], bytes)
    → with_front front all ≡ total → total ≡ Ok (front, bytes)
is_done {A} front bytes all total none so_far =
    sym so_far ∙ rw none (ap (λ (xs : List A). Ok (xs, bytes)) (append-nil front))

-- ---- rows ----

module _ {A : Type 0} (row : Bytes → Reading A) (count i : ℕ) (bytes : Bytes) where
  pub row_more : i < count → leading_rows row (count - i) bytes ≡ one_more (row bytes) (λ _. leading_rows row (count - (i + 1)))
  unfolding leading_rows
  row_more lt = let k : count - i ≡ suc (count - (i + 1)) = omega arith in rw k refl

  pub no_row_more : count ≤ i → leading_rows row (count - i) bytes ≡ Ok ([], bytes)
  unfolding leading_rows
  no_row_more le = let k : count - i ≡ 0 = omega arith in rw k refl

-- ---- words ----

module _ (before : Bytes) (count i : ℕ) (bytes : Bytes) where
  pub word_more : i < count
      → words_above before (count - i) bytes
      ≡ one_more (checked_word before bytes) (λ w. words_above w.letters (count - (i + 1)))
  unfolding words_above
  word_more lt = let k : count - i ≡ suc (count - (i + 1)) = omega arith in rw k refl

  pub no_word_more : count ≤ i → words_above before (count - i) bytes ≡ Ok ([], bytes)
  unfolding words_above
  no_word_more le = let k : count - i ≡ 0 = omega arith in rw k refl

at_end : (ws : List Word) (w : Word) (k : ℕ) → k ≡ length ws → slice_get (ws ++ w ∷ []) k ≡ Some w
at_end [] w k e = rw e refl
at_end (v ∷ ws) w k e = rw e (at_end ws w (length ws) refl)

pub last_is : (ws : List Word) (w : Word) → last_letters (ws ++ w ∷ []) ≡ w.letters
last_is ws w = ap letters_if_word (at_end ws w (length (ws ++ w ∷ []) - 1) (omega (arith, length-append ws (w ∷ []))))
