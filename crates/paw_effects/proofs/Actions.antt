-- The actions on an object, by names that proofs of other crates may use: the type of an action is this crate's own.
use Rattle.std.proofs.Common.{ℕ}
use Rattle.paw_effects.specs.declared.object_actions.Action.{Action}
use Rattle.paw_effects.specs.declared.object_actions.Action.TheVariants as action

abbrev pub get : Action
get = action.Get

abbrev pub drop : Action
drop = action.Drop

abbrev pub wear : Action
wear = action.Wear

abbrev pub remove : Action
remove = action.Remove

abbrev pub put_in : ℕ → Action
put_in l = action.PutIn l

abbrev pub take_out : ℕ → Action
take_out l = action.TakeOut l
