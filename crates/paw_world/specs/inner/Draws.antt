-- The random words of a seed: definitions for contracts and proofs, besides those of specs/Draws.antt.
use Rattle.std.specs.Prelude.{ℕ}
use Rattle.rand_pcg.specs.Lcg.{Lcg, advance, started, increment_of}
use Rattle.rand_pcg.specs.Pcg.{multiplier_64}
use Rattle.paw_base.specs.Bytes.{Seed}

-- How many words were drawn for a seed.
pub record Drawn : Type 0 where
  pub seed : Seed
  pub count : ℕ

-- The generator of a seed after k words.
abbrev pub generator_after : Seed → ℕ → Lcg
generator_after seed k = advance 64 multiplier_64 k (started 64 multiplier_64 seed (increment_of 64 0))
