-- The answers of the routines that the programs have.
use Rattle.std.specs.Prelude.{ℕ, ◌-◌, ◌/◌, ◌==◌, count_ones, if◌then◌else◌}

-- The answer of a routine to a byte: routine 0 gives the complement, 1 the half, and any other the number of one bits.
abbrev pub program_routine : ℕ → ℕ → ℕ
program_routine n x = if n == 0 then 255 - x else if n == 1 then x / 2 else count_ones x
