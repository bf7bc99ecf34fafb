-- Counts of failures, one for each call.
use Rattle.std.specs.Prelude.{ℕ, ◌+◌, ◌-◌, ◌^◌, min, Option, Some, None}
use Rattle.paw_stage.specs.declared.StageCall.{StageCall}
use Rattle.paw_stage.specs.declared.StageCall.TheVariants as call
use Rattle.paw_stage.specs.declared.failures.FailureCounts.{FailureCounts}

-- The count of a call.
abbrev pub count_of : FailureCounts → StageCall → ℕ
count_of c call.Load = c.load
count_of c call.LoadAbsent = c.absent
count_of c call.Save = c.save
count_of c call.Attach = c.attach
count_of c call.Read = c.read
count_of c call.Write = c.write
count_of c call.Sync = c.sync
count_of c call.Ask = c.ask
count_of c call.Show = c.show

-- No call has failed.
abbrev pub no_failures : FailureCounts
no_failures = record { load = 0; absent = 0; save = 0; attach = 0; read = 0; write = 0; sync = 0; ask = 0; show = 0 }

-- One more, up to the last value of a count.
abbrev pub one_more : ℕ → ℕ
one_more n = min (n + 1) (2 ^ 64 - 1)

-- The counts after one more failure of a call: only its own count rises.
abbrev pub failure_counted : StageCall → FailureCounts → FailureCounts
failure_counted call.Load c = record c { load = one_more c.load }
failure_counted call.LoadAbsent c = record c { absent = one_more c.absent }
failure_counted call.Save c = record c { save = one_more c.save }
failure_counted call.Attach c = record c { attach = one_more c.attach }
failure_counted call.Read c = record c { read = one_more c.read }
failure_counted call.Write c = record c { write = one_more c.write }
failure_counted call.Sync c = record c { sync = one_more c.sync }
failure_counted call.Ask c = record c { ask = one_more c.ask }
failure_counted call.Show c = record c { show = one_more c.show }

-- The counts after a call, by which of them failed: one more failure of that one, or the same where none failed.
abbrev pub counts_after : Option StageCall → FailureCounts → FailureCounts
counts_after None c = c
counts_after (Some failed) c = failure_counted failed c
