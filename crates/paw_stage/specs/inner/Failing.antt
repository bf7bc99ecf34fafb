-- The rules that make calls fail: those with listed numbers, and all after a number of calls that pass.
use Rattle.std.specs.Prelude.{ℕ, ◌==◌, Bool, List}
use Rattle.std.specs.List.{list_any}
use Rattle.paw_stage.specs.inner.Failures.{one_more}

-- The numbers of the calls that should fail, and the number of the next call.
pub record Listing : Type 0 where
  pub calls : List ℕ
  pub next : ℕ

-- These calls should fail, and none was made yet.
abbrev pub listing_of : List ℕ → Listing
listing_of calls = record { calls = calls; next = 0 }

-- Whether the next call should fail.
abbrev pub is_listed : Listing → Bool
is_listed l = list_any (λ n. n == l.next) l.calls

-- The rule once one more call was made.
abbrev pub call_counted : Listing → Listing
call_counted l = record l { next = one_more l.next }
