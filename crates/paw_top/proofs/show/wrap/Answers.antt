use Rattle.std.proofs.Common.{◌≡◌, ◌+◌, ◌≤◌, ◌<◌, ◌⊎◌, ◌∙◌, ℕ, [], ◌∷◌, Some, length, take, refl, sym, ap}
use Rattle.std.proofs.Common.{subst, arith, inl, inr}
use Rattle.std.proofs.lemmas.List.{take_all}
use Rattle.paw_base.specs.Bytes.{Bytes, Name}
use Rattle.paw_wrap.specs.declared.columns.TheConstants.{WRAP_LIMIT}
use Rattle.paw_stage.specs.AcrossCalls.{IsOneOf}
use Rattle.paw_stage.specs.Stage.{Standing}
use Rattle.paw_stage.specs.declared.StageCall.TheVariants as call
use Rattle.paw_wrap.specs.FirstFit.{WrappedText, first_fit}
use Rattle.paw_journal.proofs.Serving.{in_front, behind, serves_among, serves_still, serves_then}
use Rattle.paw_stage.specs.Loads.{load_calls}
use Rattle.paw_top.specs.Answers.{IfMemory, load_memory}
use Rattle.paw_top.specs.Shows.{Shows, HoldsText, Wraps, done, too_long, absent, unloaded, unshown, without_memory, unwrapped}
use Rattle.paw_stage.specs.inner.Loads.{LoadsSome}
use Rattle.paw_top.specs.inner.Loads.{LoadsNone}
use Rattle.paw_top.specs.declared.outcome.Outcome.{Outcome}
use Rattle.paw_top.specs.declared.outcome.Outcome.TheVariants as outcome
use Rattle.paw_play.proofs.ImageFiles.{in_order, short_enough}
use Rattle.paw_top.proofs.show.wrap.Goals as goal

-- A load that gives nothing says why nothing is wrapped.
no_file : (width : ℕ) (name : Name) (old new : Standing) (o : Outcome) → LoadsNone name old new o →
    IfMemory o (IsOneOf load_memory) → Wraps width name old new o
no_file width name old new (outcome.Outside call.LoadAbsent) h m = absent h.0 h.1
no_file width name old new (outcome.Outside call.Load) h m = unloaded h
no_file width name old new (outcome.Memory at) h m = without_memory at m h
no_file width name old new _ h m = absurd h

-- What was loaded and isn't too long is the text of the file.
holds_text : (name given : Bytes) (old new : Standing) → LoadsSome name WRAP_LIMIT old new given → length given ≤ WRAP_LIMIT →
    HoldsText old name given
holds_text name given old new f short =
    let whole : length f.0 ≤ WRAP_LIMIT = short_enough WRAP_LIMIT f.0 (subst (λ b. length b ≤ WRAP_LIMIT) f.2 short) (in_order (length f.0) WRAP_LIMIT) in
    (f.1 ∙ ap Some (sym (f.2 ∙ take_all (WRAP_LIMIT + 1) f.0 (omega (arith, whole)))), short)

-- What was loaded and is too long comes of a file that is.
is_long : (given bytes : Bytes) → given ≡ take (WRAP_LIMIT + 1) bytes → WRAP_LIMIT < length given →
    (length bytes ≤ WRAP_LIMIT) ⊎ (WRAP_LIMIT + 1 ≤ length bytes) → WRAP_LIMIT < length bytes
is_long given bytes e h (inl k) =
    absurd (omega (arith, k, subst (λ b. WRAP_LIMIT < length b) (e ∙ take_all (WRAP_LIMIT + 1) bytes (omega (arith, k))) h))
is_long given bytes e h (inr k) = omega (arith, k)

-- A text that is shown in columns is wrapped, as far as it was shown.
shows_so : (width : ℕ) (name text : Bytes) (old new : Standing) (o : Outcome) → HoldsText old name text →
    Shows (first_fit width text).bytes old new o → Wraps width name old new o
shows_so width name text old new outcome.Done h s = done text h s
shows_so width name text old new (outcome.Outside call.Show) h s = unshown text h s
shows_so width name text old new _ h s = absurd s

shows_text : (width : ℕ) (name text shown : Bytes) (old mid new : Standing) (o : Outcome) → HoldsText old name text → mid ≡ old →
    shown ≡ (first_fit width text).bytes → Shows shown mid new o → Wraps width name old new o
shows_text width name text shown old mid new o h still is s =
    shows_so width name text old new o h (subst (λ q. Shows (first_fit width text).bytes q new o) still (subst (λ t. Shows t mid new o) is s))

pub returns-in-Err-clause-wraps : goal.returns-in-Err-clause-wraps
returns-in-Err-clause-wraps g c = λ tells.
    no_file c.args.width.columns c.args.text.now _ _ c.in-Err.outcome (c.in-Err.ensures.none tells) c.in-Err.ensures.memory

pub returns-then-len-gt-WRAP_LIMIT-clause-wraps : goal.returns-then-len-gt-WRAP_LIMIT-clause-wraps
returns-then-len-gt-WRAP_LIMIT-clause-wraps g c = λ tells.
    let f = c.in-Ok.ensures.some tells in
    let long = subst (λ n. WRAP_LIMIT < n) (c.len.ensures ∙ c.in-Ok.given.ok.0) c.if-len-gt-WRAP_LIMIT.true in
    too_long f.0 f.1 (is_long c.in-Ok.given.items f.0 f.2 long (in_order (length f.0) WRAP_LIMIT)) f.3

pub returns-in_default-clause-wraps : goal.returns-in_default-clause-wraps
returns-in_default-clause-wraps g c = λ tells.
    let f = c.in-Ok.ensures.some tells in
    let short = subst (λ n. n ≤ WRAP_LIMIT) (c.len.ensures ∙ c.in-Ok.given.ok.0) c.if-len-gt-WRAP_LIMIT.false in
    unwrapped c.in-Ok.given.items (holds_text c.args.text.now c.in-Ok.given.items _ _ f short) f.3

pub returns-clause-wraps : goal.returns-clause-wraps
returns-clause-wraps g c = λ tells.
    let f = c.in-Ok.ensures.some tells in
    let short = subst (λ n. n ≤ WRAP_LIMIT) (c.len.ensures ∙ c.in-Ok.given.ok.0) c.if-len-gt-WRAP_LIMIT.false in
    shows_text c.args.width.columns c.args.text.now c.in-Ok.given.items c.as_slice-2.result.now _ _ _ c.show_text.result
    (holds_text c.args.text.now c.in-Ok.given.items _ _ f short) f.3
    (c.as_slice-2.ensures.value ∙ ap (λ (w : WrappedText). w.bytes) (c.wrapped.view_is ∙ c.in-Ok-wrap.ensures.value)
    ∙ ap (λ t. (first_fit c.args.width.columns t).bytes) c.as_slice.ensures.value)
    (c.show_text.ensures.shows (c.load.ensures.serves.tells.0 tells))

pub returns-in-Err-clause-serves : goal.returns-in-Err-clause-serves
returns-in-Err-clause-serves g c = serves_among _ _ _ _ _ _ (behind (call.Show ∷ []) load_calls) c.in-Err.ensures.serves

pub returns-then-len-gt-WRAP_LIMIT-clause-serves : goal.returns-then-len-gt-WRAP_LIMIT-clause-serves
returns-then-len-gt-WRAP_LIMIT-clause-serves g c = serves_still _ _ _ _ _ _ refl c.in-Ok.ensures.serves

pub returns-in_default-clause-serves : goal.returns-in_default-clause-serves
returns-in_default-clause-serves g c = serves_still _ _ _ _ _ _ refl c.in-Ok.ensures.serves

pub returns-clause-serves : goal.returns-clause-serves
returns-clause-serves g c = serves_then _ _ _ _ _ _ _ c.in-Ok.ensures.serves
    (serves_among _ _ _ _ _ _ (in_front (call.Show ∷ []) load_calls) c.show_text.ensures.serves)
