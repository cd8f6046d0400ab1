use Rattle.std.proofs.Common.{All, ◌∷◌, sym, subst}
use Rattle.std.proofs.lemmas.List.Elements.{All-head, All-tail, All-push}
use Rattle.ppq_pass.specs.ppq_array.Owner.{HasBlock}
use Rattle.ppq_session.proofs.equip.lend.Goals as goal

pub returns-in-Some-clause-blocks : goal.returns-in-Some-clause-blocks
returns-in-Some-clause-blocks g c = λ block from to.
    let buf = c.in-Some.buf in
    let rest = c.pop_front.new.self in
    let all : All (HasBlock block) (buf ∷ rest) = subst (All (HasBlock block)) c.in-Some.ensures.first from in
    (All-tail (HasBlock block) buf rest all, subst (All (HasBlock block)) (sym c.push_back.ensures) (All-push (HasBlock block) c.args.to.now buf to (All-head (HasBlock block) buf rest all)))
