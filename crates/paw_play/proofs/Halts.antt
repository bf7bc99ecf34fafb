-- Ends of playing that are halts.
use Rattle.paw_play.proofs.Names.{◌≡◌, Some, ap, option_map_or, Halt, PlayEnd, end_halt, end_of_halt}
use Rattle.paw_play.specs.declared.PlayEnd.TheVariants as end

-- An end of playing that is a halt is the end that this halt makes.
pub ends_by_halt : (o : PlayEnd) (halt : Halt) → end_halt o ≡ Some halt → o ≡ end_of_halt halt
ends_by_halt end.Ended halt e = ap (λ x. option_map_or end_of_halt x end.Memory) e
ends_by_halt (end.Spent kind) halt e = ap (λ x. option_map_or end_of_halt x end.Memory) e
ends_by_halt (end.TooDeep table) halt e = ap (λ x. option_map_or end_of_halt x end.Memory) e
ends_by_halt end.InputEnded halt e = cc
ends_by_halt (end.Occupied n) halt e = cc
ends_by_halt (end.Refused r) halt e = cc
ends_by_halt (end.State at) halt e = cc
ends_by_halt (end.Long events) halt e = cc
ends_by_halt (end.Outside c) halt e = cc
ends_by_halt end.Memory halt e = cc
