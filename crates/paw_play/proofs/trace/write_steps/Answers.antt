use Rattle.paw_play.proofs.Names.{◌≡◌, ℕ, List, ◌+◌, ◌≤◌, ◌++◌, length, take, arith, ap, ◌∙◌, ◌-◌, flat_map, take_all, STEP_LIMIT, PIECE_LIMIT, StepRow, step_line, more_line}
use Rattle.paw_play.proofs.Lines.{put_whole, more_short}
use Rattle.paw_play.proofs.trace.write_steps.Goals as goal

pub returns : goal.returns
returns c =
    let loop = c.loop-step.invariant in
    let items : List StepRow = c.steps_to_show-step-items.result.now in
    let more : ℕ = c.saturating_sub.result in
    let short : length (more_line more) ≤ 27 = more_short more c.saturating_sub.type_inv in
    let fits : length c.loop-step.text + length (more_line more) ≤ PIECE_LIMIT =
    omega (arith, loop.short, c.loop-step.auto.step-index-end, c.steps_to_show-step-items.ensures.few, short) in
    let whole = put_whole c.put_more-fits.result c.loop-step.text c.put_more-fits.new.text (more_line more) c.put_more-fits.ensures.puts fits in
    let all : take c.loop-step.step-index items ≡ take STEP_LIMIT c.args.steps.now.rows =
    take_all c.loop-step.step-index items c.loop-step-test.false ∙ c.steps_to_show-step-items.ensures.value
    ∙ ap (take STEP_LIMIT) c.rows.ensures.value in
    let count : more ≡ c.args.steps.now.count - STEP_LIMIT =
    c.saturating_sub.ensures ∙ ap (λ n. n - STEP_LIMIT) c.count.ensures.value in
    record {
      text = whole ∙ ap (λ t. t ++ more_line more) (loop.lines ∙ ap (flat_map step_line) all)
          ∙ ap (λ n. flat_map step_line (take STEP_LIMIT c.args.steps.now.rows) ++ more_line n) count;
    }
