use Rattle.std.proofs.Common.{◌≡◌, ◌∙◌, List, ℕ, sym, ap, inl, true, false}
use Rattle.std.specs.Prelude.{is_some}
use Rattle.ppq_engine.specs.ppq_script.Words.{words}
use Rattle.ppq_requests.specs.Requests.{request_of}
use Rattle.ppq_answer.proofs.Asked.{some-is, none-is}
use Rattle.ppq_answer.proofs.talk.answer_first.Goals as goal

pub returns-then-not-is_request-clause-refused : goal.returns-then-not-is_request-clause-refused
returns-then-not-is_request-clause-refused g c = let w = words g.R.PartialEq g.R.PartialOrd g.R.Ord g.R.Record g.R.Fields in
    let same = ap (λ (b : List ℕ). is_some (request_of w b)) (sym c.in-Request.ensures.1) in
    let none : is_some (request_of w c.in-Request.request.now) ≡ false = sym c.is_request.ensures ∙ c.if-not-is_request.true in
    inl (c.in-Request.ensures.0, none-is _ (same ∙ none))

pub returns-clause-taken : goal.returns-clause-taken
returns-clause-taken g c = let w = words g.R.PartialEq g.R.PartialOrd g.R.Ord g.R.Record g.R.Fields in
    let some : is_some (request_of w c.in-Request.request.now) ≡ true = sym c.is_request.ensures ∙ c.if-not-is_request.false in
    let asked = some-is (request_of w c.in-Request.request.now) some in
    record {
      commands = asked.0;
      first = c.in-Request.ensures.0;
      asked = ap (request_of w) (sym c.in-Request.ensures.1) ∙ asked.1;
      serves = c.answer-answered.ensures.serves asked.0 asked.1;
      put = c.answer-answered.ensures.put;
      next = c.skip.ensures.next;
    }
