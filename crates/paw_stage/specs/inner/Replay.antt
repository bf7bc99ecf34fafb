-- The moments of a stage in memory, which its record of calls gives.
use Rattle.std.specs.Prelude.{◌≡◌, ◌⊎◌, ℕ, ◌+◌, List, [], ◌∷◌, length, take, drop, Some}
use Rattle.std.proofs.Common.{inl, inr}
use Rattle.paw_base.specs.Bytes.{Bytes, Name}
use Rattle.paw_stage.specs.Stage.{Standing, with_store_opened, with_store_synced}
use Rattle.paw_stage.specs.Stage.{Still, InAsk, InSave, InAttach, InWrite, InShow}
use Rattle.paw_stage.specs.inner.Done.{DoneCall, fresh, file_replaced, standing_after, after}
use Rattle.paw_stage.specs.declared.log.CallKind.{CallKind}
use Rattle.paw_stage.specs.declared.log.CallKind.TheVariants as kind

-- What may stand at the moments inside a call, its start and its end among them: of the stage's calls what the stage
-- allows there.
abbrev pub MayStand : CallKind → Name → Bytes → Standing → Standing → Type 0
MayStand kind.Add name bytes s m = (m ≡ s) ⊎ (m ≡ file_replaced name (Some bytes) s)
MayStand kind.Load name bytes s m = Still s m
MayStand kind.Save name bytes s m = InSave s name m
MayStand kind.Attach name bytes s m = InAttach s (with_store_opened name s) name m
MayStand kind.Read name bytes s m = Still s m
MayStand (kind.Write at) name bytes s m = InWrite s at (length bytes) m
MayStand kind.Sync name bytes s m = (m ≡ s) ⊎ (m ≡ with_store_synced s)
MayStand kind.Take name bytes s m = InAsk s (record s { asked = s.asked + 1 }) m
MayStand kind.End name bytes s m = Still s m
MayStand kind.Show name bytes s m = InShow s bytes m

-- What may stand inside a call that was done.
abbrev pub StandsInside : Standing → DoneCall → Standing → Type 0
StandsInside s d m = MayStand d.kind d.name d.bytes s m

-- What may have stood inside one of these calls, the first of which began with s.
abbrev pub StoodInside : Standing → List DoneCall → Standing → Type 0
StoodInside s [] m = ⊥
StoodInside s (d ∷ ds) m = StandsInside s d m ⊎ StoodInside (standing_after s d) ds m

-- The moments since this number of calls were done: what stands after all of them, and what stood inside the later
-- ones.
abbrev pub since_of : List DoneCall → ℕ → Standing → Type 0
since_of ds t m = (m ≡ after fresh ds) ⊎ StoodInside (after fresh (take t ds)) (drop t ds) m

-- After the last call no moment comes.
none_later : (s : Standing) (ds : List DoneCall) (m : Standing) → StoodInside s (drop (length ds) ds) m → ⊥
none_later s [] m h = h
none_later s (d ∷ ds) m h = none_later s ds m h

-- Since the last call there is no moment but this.
pub only_now : (ds : List DoneCall) (m : Standing) → since_of ds (length ds) m → m ≡ after fresh ds
only_now ds m (inl h) = h
only_now ds m (inr h) = absurd (none_later _ ds m h)
