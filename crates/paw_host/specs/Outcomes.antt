-- What an outcome says to the system.
use Rattle.std.specs.Prelude.{ℕ, Option, Some, None}
use Rattle.paw_stage.specs.declared.StageCall.{StageCall}
use Rattle.paw_host.specs.declared.outcome.HostOutcome.{HostOutcome}
use Rattle.paw_host.specs.declared.outcome.HostOutcome.TheVariants as outcome

-- The exit status of the program.
abbrev pub host_status : HostOutcome → ℕ
host_status outcome.InputEnded = 0
host_status outcome.Usage = 1
host_status (outcome.ImageDamaged at) = 3
host_status (outcome.Outside c) = 7
host_status outcome.Memory = 8
host_status (outcome.Long lines) = 9

-- The call that failed, by the outcome.
abbrev pub host_failure : HostOutcome → Option StageCall
host_failure (outcome.Outside c) = Some c
host_failure _ = None
