-- What calls promise, one after another.
use Rattle.paw_play.proofs.Names.{Ghosts, Standing, EachMoment, DoneWithMoments, Passes_map, Passes_on, Passes_none}

-- No call was made.
pub done_none : {S : Type 0} {g : Ghosts S} {s : S} {Done : Type 0} {Inside : Standing → Type 0} → Done → DoneWithMoments g s s Done Inside
done_none done = record { meaning = done; any_moment = Passes_none _ _ _ }

-- Each moment of the calls is one of those that are promised.
pub done_by : {S : Type 0} {g : Ghosts S} {old new : S} {Done : Type 0} {Inside Within : Standing → Type 0} → Done → EachMoment g old new Inside →
    ((m : Standing) → Inside m → Within m) → DoneWithMoments g old new Done Within
done_by done h f = record { meaning = done; any_moment = Passes_map _ _ _ _ _ _ h f }

-- So is each of those before, and of the call that follows.
pub done_then : {S : Type 0} {g : Ghosts S} {old new : S} {Done : Type 0} {Inside Then : Standing → Type 0} (mid : S) → Done → EachMoment g old mid Inside →
    EachMoment g mid new Then → ((m : Standing) → Then m → Inside m) → DoneWithMoments g old new Done Inside
done_then mid done h k f = record { meaning = done; any_moment = Passes_on _ _ _ _ _ _ _ _ h k f }
