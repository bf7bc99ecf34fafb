use Rattle.paw_play.proofs.Names.{◌≡◌, ◌<◌, ◌++◌, ◌∙◌, refl, ap, subst, length, arith, length-append, Result, Ok, Err, OnOk, OnErr, Text, Standing, InShow, failed_in, with_shown, Passes_map, Passes_on, preface, serves_then}
use Rattle.paw_stage.specs.declared.StageCall.TheVariants as call
use Rattle.paw_play.proofs.ShownSteps.{part_before, both_shown, part_after}
use Rattle.paw_play.proofs.walk.show_last.Goals as goal

-- What follows from what an answer means.
of_ok : {A E P Q : Type 0} (r : Result A E) → (P → Q) → OnOk r P → OnOk r Q
of_ok (Ok a) f h = f h
of_ok (Err e) f h = tt

of_err : {A E P Q : Type 0} (r : Result A E) → (P → Q) → OnErr r P → OnErr r Q
of_err (Ok a) f h = tt
of_err (Err e) f h = f h

pub returns-in-Err : goal.returns-in-Err
returns-in-Err g c =
    let before : Text = preface g.P.Preface.showing c.args.player.now.machine.steps in
    let is : c.text.result.now ≡ before = c.text.ensures.text ∙ ap (preface g.P.Preface.showing) c.steps.ensures.value in
    let old : Standing = g.S.Stage.standing c.args.stage.now in
    let some : 0 < length before = subst (λ t. 0 < length t) is (c.in-Err.ensures.some refl) in
    let part = λ (m : Standing) (i : InShow old c.text.result.now m). part_before old before c.args.player.now.piece m (subst (λ t. InShow old t m) is i) in
    record {
      serves = c.in-Err.ensures.serves;
      some = λ h. omega (arith, some, length-append before c.args.player.now.piece);
      shown = λ tells. tt;
      part = λ tells. part _ (c.in-Err.ensures.part tells);
      time = λ tells. Passes_map _ _ _ _ _ _ (c.in-Err.ensures.time tells) part;
    }

pub returns-in-Ok : goal.returns-in-Ok
returns-in-Ok g c =
    let before : Text = preface g.P.Preface.showing c.args.player.now.machine.steps in
    let is : c.text.result.now ≡ before = c.text.ensures.text ∙ ap (preface g.P.Preface.showing) c.steps.ensures.value in
    let piece : Text = c.args.player.now.piece in
    let own : c.piece.result.now ≡ piece = c.piece.ensures.value in
    let old : Standing = g.S.Stage.standing c.args.stage.now in
    let mid : Standing = g.S.Stage.standing c.show.new.stage in
    let after = λ (tells : g.S.Stage.Tells c.args.stage.now). c.in-Ok.ensures.shown tells ∙ ap (λ t. with_shown t old) is in
    let then = c.show.ensures.serves.tells.0 in
    record {
      serves = serves_then g.S.Stage _ _ (failed_in call.Show c.show-in-Ok.result) _ _ _ c.in-Ok.ensures.serves c.show-in-Ok.ensures.serves;
      some = λ h.
          let some : 0 < length piece = subst (λ t. 0 < length t) own (c.show-in-Ok.ensures.some h) in
          omega (arith, some, length-append before piece);
      shown = λ tells. of_ok c.show-in-Ok.result
          (λ f. both_shown old before piece mid _ (after tells) (f ∙ ap (λ t. with_shown t mid) own)) (c.show-in-Ok.ensures.shown (then tells));
      part = λ tells. of_err c.show-in-Ok.result
          (λ h. part_after old before piece mid _ (after tells) (subst (λ t. InShow mid t (g.S.Stage.standing c.show-in-Ok.new.stage)) own h)) (c.show-in-Ok.ensures.part (then tells));
      time = λ tells. Passes_on _ _ _ _ _ _ (InShow old (before ++ piece)) _
          (Passes_map _ _ _ _ _ _ (c.in-Ok.ensures.time tells) (λ m i. part_before old before piece m (subst (λ t. InShow old t m) is i)))
          (c.show-in-Ok.ensures.time (then tells)) (λ m i. part_after old before piece mid m (after tells) (subst (λ t. InShow mid t m) own i));
    }
