-- The random words of a seed: those of the generator PCG XSH RR 64/32 on stream 0.
use Rattle.std.specs.Prelude.{ℕ}
use Rattle.rand_pcg.specs.Lcg.{advance, started, increment_of}
use Rattle.rand_pcg.specs.Pcg.{multiplier_64, pcg32}
use Rattle.paw_base.specs.Bytes.{Seed}

-- Word k of a seed, counted from 0: what its generator gives after k words.
unfoldable pub random_word : Seed → ℕ → ℕ
random_word seed k = (pcg32 (advance 64 multiplier_64 k (started 64 multiplier_64 seed (increment_of 64 0)))).0
