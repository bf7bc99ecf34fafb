-- The bounds within which each reading stays: words that contracts between crates and proofs use besides those of
-- specs/Bounds.antt.
use Rattle.std.specs.Prelude.{◌≡◌, ℕ, ◌+◌, ◌*◌, ◌≤◌, length, All}
use Rattle.paw_base.specs.Bytes.{Seed}
use Rattle.paw_base.specs.declared.limits.TheConstants.{PIECE_LIMIT, READ_LIMIT}
use Rattle.paw_reading.specs.Run.{Run}

-- A run with this seed that drew n random words before its closed pieces, and in each of these at most as many as it
-- may read condacts; each closed piece has at most 65,535 bytes, and the steps of each are kept.
pub record IsBounded (seed : Seed) (n : ℕ) (r : Run) : Type 0 where
  pub seeded : r.world.seed ≡ seed
  pub draws : r.world.draws ≤ n + READ_LIMIT * length r.pieces
  pub pieces : All (λ piece. length piece ≤ PIECE_LIMIT) r.pieces
  pub traced : length r.traces ≡ length r.pieces
