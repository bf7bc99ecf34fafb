-- What was closed before changes nothing, and stays in front.
use Rattle.std.proofs.Common.{◌≡◌, ◌≢◌, ℕ, suc, false, List, [], ◌∷◌, ◌++◌, refl}
use Rattle.std.proofs.Common.{sym, ap, ◌∙◌, append_assoc, append-nil}
use Rattle.std.specs.List.{concat}
use Rattle.std.proofs.lemmas.List.Folds.{concat-append}
use Rattle.paw_base.specs.Bytes.{Texts}
use Rattle.paw_effects.specs.Story.{Story}
use Rattle.paw_effects.specs.declared.act.Prompt.{Prompt}
use Rattle.paw_effects.specs.declared.act.Prompt.TheVariants as prompt
use Rattle.paw_reading.specs.declared.frames.Frame.{Frame}
use Rattle.paw_reading.specs.Run.{Run, StepRow}
use Rattle.paw_reading.specs.Reading.{Out, Left, Waits, Stopped}
use Rattle.paw_reading.specs.Reading.{table_read}
use Rattle.paw_reading.specs.GoingOn.{on_path}
use Rattle.paw_reading.specs.inner.GoingOn.{with_lines}
use Rattle.paw_reading.specs.Turn.{TurnPhase, Ending, WaitsAt, Halted}
use Rattle.paw_reading.specs.Turn.{Unended}
use Rattle.paw_reading.specs.Turn.{at_main}
use Rattle.paw_reading.specs.Turn.{turn, phases_left, first_table, goes_on}
use Rattle.paw_reading.specs.Turn.{going_on_from, reading}
use Rattle.paw_reading.specs.Turn.{text_of}
use Rattle.paw_reading.specs.inner.Parts.{in_table}
use Rattle.paw_reading.specs.inner.Longer.{with_past, without_past, ending_with_past, PastStays, LongerReading}
use Rattle.paw_reading.specs.inner.Longer.{LongerText}
use Rattle.paw_reading.proofs.Onward.{waits_on}
use Rattle.paw_reading.proofs.Stops.{Stops, rest_stops, path_stops}
use Rattle.paw_reading.proofs.EachStep.{Beside}
use Rattle.paw_reading.proofs.EachPhase.{TurnRelation, TurnSteps, EndAlike, turns, table_after, at_prompt}
use Rattle.paw_reading.proofs.Extends.{around, extends, rest_extends, path_extends}
use Rattle.paw_reading.proofs.Ends.{going_on_ends}
use Rattle.paw_reading.proofs.Followed.{going_on_is_reading}

-- Going on with no line waits where it is.
waits_there : (g : Story) (p : Prompt) (lv : ℕ) (path : List Frame) (r : Run) → path ≢ [] → r.events ≡ [] → on_path g p lv path r ≡ Waits p path r
waits_there g p lv [] r some none = absurd (some refl)
waits_there g p lv (f ∷ []) r some none = waits_on g lv p f r none
waits_there g p lv (f ∷ h ∷ path) r some none = rw (waits_there g p (suc lv) (h ∷ path) r (λ e. cc) none) refl

module _ (g : Story) (ps : Texts) (ts : List (List StepRow)) where
  -- How reading tables ends, with these pieces before.
  abbrev out_with_past : Out → Out
  out_with_past (Left a r) = Left a (with_past ps ts r)
  out_with_past (Waits p path r) = Waits p path (with_past ps ts r)
  out_with_past (Stopped stop r) = Stopped stop (with_past ps ts r)

  -- With no lines more.
  past_around : (r : Run) → around ps ts [] r ≡ with_past ps ts r
  past_around r = ap (λ es. record (with_past ps ts r) { events = es }) (append-nil r.events)

  extends_past : (lv : ℕ) (x : Out) → Stops x → extends g ps ts [] lv x ≡ out_with_past x
  extends_past lv (Left a r) k = ap (Left a) (past_around r)
  extends_past lv (Waits p path r) k = rw (past_around r) (waits_there g p lv path (with_past ps ts r) k.some k.none_left)
  extends_past lv (Stopped stop r) k = ap (Stopped stop) (past_around r)

  table_past : (t : ℕ) (r : Run) → table_read g t (with_past ps ts r) ≡ out_with_past (table_read g t r)
  table_past t r =
      ap (table_read g t) (sym (past_around r)) ∙ rest_extends g ps ts [] 0 t 0 0 false r ∙ extends_past 0 (table_read g t r) (rest_stops g 0 t 0 0 false r)

  path_past : (p : Prompt) (lv : ℕ) (path : List Frame) (r : Run) → on_path g p lv path (with_past ps ts r) ≡ out_with_past (on_path g p lv path r)
  path_past p lv path r =
      ap (on_path g p lv path) (sym (past_around r)) ∙ path_extends g ps ts [] p lv path r ∙ extends_past lv (on_path g p lv path r) (path_stops g p lv path r)

  -- ---- turns ----

  abbrev past : Beside
  past = record {
    pieces = λ qs. ps ++ qs;
    traces = λ us. ts ++ us;
    events = λ es. es;
    closes = λ qs p. sym (append_assoc ps qs (p ∷ []));
    traced = λ us t. sym (append_assoc ts us (t ∷ []));
    takes = λ line es. refl;
  }

  abbrev WaitsPast : Prompt → List Frame → Run → Out → Type 0
  WaitsPast p path r x = x ≡ Waits p path (with_past ps ts r)

  ends_past : (x : Out) → EndAlike past WaitsPast (out_with_past x) x
  ends_past (Left a r) = refl
  ends_past (Waits p path r) = refl
  ends_past (Stopped stop r) = refl

  tables_past : (t : ℕ) (r : Run) → EndAlike past WaitsPast (table_read g t (with_past ps ts r)) (table_read g t r)
  tables_past t r = rw (table_past t r) (ends_past (table_read g t r))

  abbrev with_it : TurnRelation
  with_it = record {
    phase = λ n s r x y. x ≡ ending_with_past ps ts y;
    after = λ n t z x y. x ≡ ending_with_past ps ts y;
    prompt = λ n r es x y. x ≡ ending_with_past ps ts y;
  }

  steps : TurnSteps g past (λ n. n) WaitsPast with_it
  unfolding turn at_main
  steps = record {
    unended = λ s r. refl;
    describes = λ n r. (λ fit x y h. h, λ long. refl);
    frames = λ n r x y h. h;
    responds = λ n r x y h. h;
    sentence = λ n r s left x y e h. h;
    unknown = λ n r left e. (λ fit x y h. h, λ long. refl);
    no_phrase = λ n r e. (λ fit x y h. h, λ long. refl);
    acted = λ n r x y h. h;
    leaves = λ n to r x y e h. h;
    refuses = λ n r e. (λ fit x y h. h, λ long. refl);
    described_so = λ n a r x y h. h;
    framed = λ n t a r x y h. h;
    waits = λ n t p path r x is. rw is refl;
    again = λ n t r x y h. h;
    restarts = λ n t r x y h. h;
    halts = λ n t halt r. refl;
    awaits = λ n r. refl;
    ignored = λ n r line es x y h. h;
    times_out = λ n r line es. (λ fit x y h. h, λ long. refl);
    takes_line = λ n r line es x y h. h;
  }

  turn_past : (n : ℕ) (s : TurnPhase) (r : Run) → turn g n s (with_past ps ts r) ≡ ending_with_past ps ts (turn g n s r)
  turn_past = turns g past (λ n. n) (λ n. refl) WaitsPast tables_past with_it steps

  in_table_past : (n : ℕ) (p : Prompt) (path : List Frame) (r : Run) → in_table g n p path (with_past ps ts r) ≡ ending_with_past ps ts (in_table g n p path r)
  in_table_past n p path r =
      rw (path_past p 0 path r)
      (table_after g past (λ j. j) (λ j. refl) WaitsPast tables_past with_it steps n (turn_past n) (first_table path) _ (on_path g p 0 path r)
      (ends_past (on_path g p 0 path r)))

  goes_on_past : (n : ℕ) (p : Prompt) (path : List Frame) (r : Run) → goes_on g n p path (with_past ps ts r) ≡ ending_with_past ps ts (goes_on g n p path r)
  goes_on_past n prompt.Main path r = at_prompt g past (λ j. j) (λ j. refl) WaitsPast tables_past with_it steps n (turn_past n) r r.events
  goes_on_past n prompt.Quit path r = in_table_past n prompt.Quit path r
  goes_on_past n prompt.Again path r = in_table_past n prompt.Again path r
  goes_on_past n prompt.Key path r = in_table_past n prompt.Key path r
  goes_on_past n prompt.Over path r = refl

pub past_stays : PastStays
past_stays g ps ts p path r = goes_on_past g ps ts (phases_left r) p path r

-- The reading of more lines has the pieces of some, and then those of going on.
pub longer_reading : LongerReading
longer_reading g seed es fs p path r e =
    let whole : reading g seed (es ++ fs) ≡ going_on_from g p path (with_lines fs r) = rw e at (going_on_is_reading g seed es fs) in
    let apart : with_past r.pieces r.traces (with_lines fs (without_past r)) ≡ with_lines fs r = rw (append-nil r.pieces, append-nil r.traces) refl in
    whole ∙ ap (going_on_from g p path) (sym apart) ∙ past_stays g r.pieces r.traces p path (with_lines fs (without_past r))

past_text : (ps : Texts) (ts : List (List StepRow)) (x : Ending) → x ≢ Unended →
    text_of (ending_with_past ps ts x) ≡ concat ps ++ text_of x
past_text ps ts (WaitsAt p path r) h = concat-append ps r.pieces
past_text ps ts (Halted halt r) h = concat-append ps r.pieces
past_text ps ts Unended h = absurd (h refl)

-- And so has its text.
pub longer_text : LongerText
longer_text g seed es fs p path r e =
    ap text_of (longer_reading g seed es fs p path r e)
    ∙ past_text r.pieces r.traces (going_on_from g p path (with_lines fs (without_past r))) (going_on_ends g p path (with_lines fs (without_past r)))
    ∙ ap (λ x. text_of x ++ text_of (going_on_from g p path (with_lines fs (without_past r)))) (sym e)
