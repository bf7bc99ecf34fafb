-- The generator of a seed, word by word.
use Rattle.std.proofs.Common.{◌≡◌, ℕ, zero, suc, ◌+◌, refl, sym, ap, ◌∙◌, zero-add, suc-add}
use Rattle.rand_pcg.specs.Lcg.{Lcg, next, advance, state_after, next_state, started, increment_of}
use Rattle.rand_pcg.specs.Pcg.{multiplier_64, pcg32}
use Rattle.paw_base.specs.Bytes.{Seed}
use Rattle.paw_world.specs.Draws.{random_word}
use Rattle.paw_world.specs.inner.Draws.{generator_after}

-- After k steps, n steps more.
state_after-state_after : (w m p k n s : ℕ) → state_after w m p n (state_after w m p k s) ≡ state_after w m p (k + n) s
unfolding state_after
state_after-state_after w m p zero n s = ap (λ (j : ℕ). state_after w m p j s) (sym (zero-add n))
state_after-state_after w m p (suc k) n s =
    state_after-state_after w m p k n (next_state w m p s) ∙ ap (λ (j : ℕ). state_after w m p j s) (sym (suc-add k n))

advance-advance : (w m k n : ℕ) (g : Lcg) → advance w m n (advance w m k g) ≡ advance w m (k + n) g
advance-advance w m k n g = ap (λ (s : ℕ). record g { state = s }) (state_after-state_after w m g.increment k n g.state)

next-is_advance : (w m : ℕ) (g : Lcg) → next w m g ≡ advance w m 1 g
unfolding state_after
next-is_advance w m g = refl

pub no_words : (seed : Seed) (g : Lcg) → g ≡ started 64 multiplier_64 seed (increment_of 64 0) → g ≡ generator_after seed 0
unfolding state_after
no_words seed g fresh = fresh

-- After k words, n words more.
pub words_on : (seed : Seed) (k n : ℕ) (g : Lcg) → g ≡ generator_after seed k → advance 64 multiplier_64 n g ≡ generator_after seed (k + n)
words_on seed k n g given =
    ap (advance 64 multiplier_64 n) given ∙ advance-advance 64 multiplier_64 k n (started 64 multiplier_64 seed (increment_of 64 0))

-- One word after k words.
pub word_on : (seed : Seed) (k : ℕ) (g : Lcg) → g ≡ generator_after seed k → next 64 multiplier_64 g ≡ generator_after seed (k + 1)
word_on seed k g given = next-is_advance 64 multiplier_64 g ∙ words_on seed k 1 g given

pub word_is : (seed : Seed) (k : ℕ) (g : Lcg) → g ≡ generator_after seed k → (pcg32 g).0 ≡ random_word seed k
unfolding random_word
word_is seed k g given = ap (λ (h : Lcg). (pcg32 h).0) given
