use Rattle.std.proofs.Common.{[], ◌∷◌, refl, sym, subst}
use Rattle.paw_base.specs.Bytes.{Bytes}
use Rattle.paw_page.specs.Answers.{IsReply, no_memory, no_request, replied}
use Rattle.paw_page.specs.declared.export.TheConstants.{NO_REQUEST, NO_MEMORY}
use Rattle.paw_page.proofs.export.paw_page.Goals as goal

pub returns-in-Ok : goal.returns-in-Ok
returns-in-Ok c =
    let found = c.in-Ok.ensures.replied in
    let given = c.as_slice.result.now in
    let said = subst (λ (b : Bytes). IsReply found.0 b) (sym c.as_slice.ensures.value) found.2 in
    record { answers = (given, replied found.0 found.1 said, c.put_reply.ensures.len, c.put_reply.ensures.put) }

pub returns-in-Err-NoRequest : goal.returns-in-Err-NoRequest
returns-in-Err-NoRequest c = record {
  answers = (
    NO_REQUEST ∷ [],
    no_request (c.in-Err-NoRequest.ensures.none c.in-Err-NoRequest.field-0-is) refl,
    c.put_reply-in-Err-NoRequest.ensures.len,
    c.put_reply-in-Err-NoRequest.ensures.put,
  );
}

pub returns-in-Err-Memory : goal.returns-in-Err-Memory
returns-in-Err-Memory c = record {
  answers = (NO_MEMORY ∷ [], no_memory refl, c.put_reply-in-Err-Memory.ensures.len, c.put_reply-in-Err-Memory.ensures.put);
}
