use Rattle.std.proofs.Common.{◌≡◌, ◌∷◌, Ok, sym, ◌∙◌}
use Rattle.std.proofs.lemmas.Result.{err_from_is_err_and}
use Rattle.paw_author.specs.Includes.{FileOrder, lines_before, file_before}
use Rattle.paw_author.proofs.RowOfFiles.{bound_fails, bound_goes_on, last_of_left, file_goes_on}
use Rattle.paw_author.proofs.includes.+row.Goals as goal

pub file_before-returns-in_err-more : goal.file_before-returns-in_err-more
file_before-returns-in_err-more t c =
    let p = err_from_is_err_and c.from_residual.result c.from_residual.ensures.1 in
    let files = c.args.files.now in
    let own = c.index-files-file.result in
    let name : c.as_slice.result.now ≡ own.name = cc in
    let lines : c.as_slice-2.result.now ≡ own.lines = cc in
    let is = file_goes_on c.args.depth files c.args.file own c.args.row.items c.if-depth-eq0.false
    (sym c.stands_in.ensures.value ∙ c.if-stands_in.false) c.index-files-file.is c.requires.known in
    record {
      gives = rw (p.1, p.2) (bound_fails c.in_err-more.field-0.0 _ (λ (more : FileOrder). Ok (c.args.file ∷ more)) _ is
          (rw (name, lines) at c.in_err-more.ensures.gives));
    }

pub file_before-returns : goal.file_before-returns
file_before-returns t c =
    let files = c.args.files.now in
    let own = c.index-files-file.result in
    let name : c.as_slice.result.now ≡ own.name = cc in
    let lines : c.as_slice-2.result.now ≡ own.lines = cc in
    let is = file_goes_on c.args.depth files c.args.file own c.args.row.items c.if-depth-eq0.false
    (sym c.stands_in.ensures.value ∙ c.if-stands_in.false) c.index-files-file.is c.requires.known in
    record {
      gives = rw c.in_ok-push_front.ensures.items (bound_goes_on c.in_ok-more.more.items _ (λ (more : FileOrder). Ok (c.args.file ∷ more)) _ is
          (rw (name, lines) at c.in_ok-more.ensures.gives));
    }

pub lines_before-returns-in_err-more : goal.lines_before-returns-in_err-more
lines_before-returns-in_err-more t c =
    let p = err_from_is_err_and c.from_residual.result c.from_residual.ensures.1 in
    let files = c.args.files.now in
    let before = file_before c.args.depth files in
    let name = c.args.name.now in
    let above = c.in-Some.above.now in
    let line : c.as_slice.result.now ≡ c.in-Some.line.now = cc in
    let is = last_of_left before files name c.loop-line.left.now above c.in-Some.line.now c.loop-line.more.items c.in-Some.ensures.cases.0 in
    record {
      gives = rw (p.1, p.2) (bound_fails c.in_err-more.field-0.0 _ (λ (more : FileOrder). lines_before before files name above more) _
          (sym c.loop-line.invariant ∙ is) (rw line at c.in_err-more.ensures.gives));
    }

pub lines_before-loop-line-preserved : goal.lines_before-loop-line-preserved
lines_before-loop-line-preserved t c =
    let files = c.args.files.now in
    let before = file_before c.args.depth files in
    let name = c.args.name.now in
    let above = c.in-Some.above.now in
    let line : c.as_slice.result.now ≡ c.in-Some.line.now = cc in
    let is = last_of_left before files name c.loop-line.left.now above c.in-Some.line.now c.loop-line.more.items c.in-Some.ensures.cases.0 in
    sym (bound_goes_on c.in_ok-more.more.items _ (λ (more : FileOrder). lines_before before files name above more) _
    (sym c.loop-line.invariant ∙ is) (rw line at c.in_ok-more.ensures.gives))
