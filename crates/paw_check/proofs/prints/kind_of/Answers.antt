use Rattle.std.proofs.Common.{◌∙◌, ap, sym, ℕ, None}
use Rattle.std.specs.List.{slice_index_or}
use Rattle.std.specs.Slice.{IsItemAt}
use Rattle.std.proofs.lemmas.List.{get_or_past}
use Rattle.paw_check.specs.declared.prints.Printed.TheVariants.{Nothing}
use Rattle.paw_check.specs.declared.prints.TheConstants.{PRINTED}
use Rattle.paw_check.proofs.prints.kind_of.Goals as goal

pub returns-in-None : goal.returns-in-None
returns-in-None c =
    let h : IsItemAt PRINTED c.plain_code.result None = c.in-None.ensures.lookup in
    record {
      value = sym (get_or_past PRINTED c.plain_code.result Nothing h.3)
          ∙ ap (λ (n : ℕ). slice_index_or PRINTED n Nothing) c.plain_code.ensures.value;
    }
