-- What calls in a row did to the stage, and in which state the store is after them.
use Rattle.paw_host.proofs.Cited.{◌≡◌, ◌+◌, ◌++◌, ◌∙◌, List, ◌∷◌, [], Option, None, Result, refl, ap, length, length-append, on_ok_weaker, OnOk, Ok, Err, Name, Text, Ghosts, StageCall, EachMoment, IsOneOf, FailsOnlyBy, Passes_map, Passes_on, DoneWithMoments, Standing, with_store_opened, writing_calls, IsAtRest, failed_stage_call, ChangesStoreOnly, ReadsStore, beside_same, in_front, serves_among, serves_then, IsAside, answer_calls, IsAttachedStable, LeavesStage}
use Rattle.paw_stage.specs.declared.StageCall.TheVariants as call
use Rattle.paw_host.proofs.Reaching.{attached_still, aside_beside}

-- Calls that read and change nothing are among those that may also write.
pub leaves_read : {S : Type 0} (g : Ghosts S) (failed : Option StageCall) (Left : Standing → Standing → Type 0) (old new : S) →
    ReadsStore g failed old new → (g.Tells old → Left (g.standing old) (g.standing new)) →
    LeavesStage g (call.Read ∷ writing_calls) failed ChangesStoreOnly Left old new
leaves_read g failed Left old new reads left = record {
  serves = serves_among g (call.Read ∷ []) (call.Read ∷ writing_calls) failed old new (in_front (call.Read ∷ []) writing_calls) reads.serves;
  beside = λ tells. beside_same (g.standing old) (g.standing new) (reads.still tells);
  left = left;
}

-- The store of this name is attached, and calls follow that change it alone: it is attached still, and all else is
-- as before.
pub leaves_attached : {S A E : Type 0} (g : Ghosts S) (first calls : List StageCall) (failed : Option StageCall) (result : Result A E)
    (name : Name) (old mid new : S) → ((c : StageCall) → IsOneOf calls c → IsOneOf answer_calls c) → FailsOnlyBy g first None old mid →
    (g.Tells old → g.standing mid ≡ with_store_opened name (g.standing old)) →
    LeavesStage g calls failed ChangesStoreOnly (λ before after. OnOk result (IsAtRest after)) mid new →
    LeavesStage g answer_calls failed (IsAside name) (λ before after. OnOk result (IsAttachedStable name after)) old new
leaves_attached g first calls failed result name old mid new among attach opens leaves = record {
  serves = serves_then g first answer_calls failed old mid new attach (serves_among g calls answer_calls failed mid new among leaves.serves);
  beside = λ tells. aside_beside name (g.standing old) (g.standing mid) (g.standing new) (opens tells) (leaves.beside (attach.tells.0 tells));
  left = λ tells.
      let now = attach.tells.0 tells in
      on_ok_weaker result (λ r. record {
        stable = r.stable;
        attached = attached_still name (g.standing old) (g.standing mid) (g.standing new) (opens tells) (leaves.beside now);
      }) (leaves.left now);
}

-- What is said where no call failed.
pub on_ok_said : {A Said P : Type 0} (result : Result A StageCall) → OnOk result Said → (failed_stage_call result ≡ None → Said → P) → OnOk result P
on_ok_said (Ok a) said holds = holds refl said
on_ok_said (Err c) said holds = tt

pub on_ok_both : {A E P Q R : Type 0} (result : Result A E) → OnOk result P → OnOk result Q → (P → Q → R) → OnOk result R
on_ok_both (Ok a) p q holds = holds p q
on_ok_both (Err e) p q holds = tt

-- The length of a text that has grown.
pub grown_length : (before piece after : Text) → after ≡ before ++ piece → length after ≡ length before + length piece
grown_length before piece after grown = ap length grown ∙ length-append before piece

-- ---- calls in a row ----

-- Calls none of which failed, and then others.
pub serves_next : {S : Type 0} {g : Ghosts S} {first next calls : List StageCall} {failed : Option StageCall} {old mid new : S} →
    FailsOnlyBy g first None old mid → FailsOnlyBy g next failed mid new → ((c : StageCall) → IsOneOf next c → IsOneOf calls c) →
    FailsOnlyBy g calls failed old new
serves_next a b among = serves_then _ _ _ _ _ _ _ a (serves_among _ _ _ _ _ _ among b)

-- What calls promise, by less.
pub promised : {S : Type 0} {g : Ghosts S} {old new : S} {Done Less : Type 0} {Inside Within : Standing → Type 0} →
    DoneWithMoments g old new Done Inside → (Done → Less) → ((m : Standing) → Inside m → Within m) → DoneWithMoments g old new Less Within
promised {Inside} {Within} h less within = record { meaning = less h.meaning; any_moment = Passes_map _ _ _ _ Inside Within h.any_moment within }

-- What they promise after others.
pub promised_after : {S : Type 0} {g : Ghosts S} {old mid new : S} {Done Less : Type 0} {Inside Within : Standing → Type 0} →
    DoneWithMoments g mid new Done Inside → EachMoment g old mid Within → (Done → Less) → ((m : Standing) → Inside m → Within m) →
    DoneWithMoments g old new Less Within
promised_after {Inside} {Within} h before less within =
    record { meaning = less h.meaning; any_moment = Passes_on _ _ _ _ _ _ Within Inside before h.any_moment within }
