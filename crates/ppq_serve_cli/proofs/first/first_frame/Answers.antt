use Rattle.std.proofs.Common.{refl, subst, inl, inr}
use Rattle.ppq_answer.specs.ppq_frames.declared.filled.Filled.{Filled}
use Rattle.ppq_answer.specs.ppq_frames.Frames.{first_request}
use Rattle.ppq_answer.specs.Waiting.{IsAwaited}
use Rattle.ppq_serve_cli.proofs.Named.{none-part, came-frame}
use Rattle.ppq_serve_cli.proofs.first.first_frame.Goals as goal

pub returns-in-End : goal.returns-in-End
returns-in-End g c =
    let P : Filled → Type 0 = λ f. IsAwaited (g.I.Source.over c.wait.new.source) c.wait.new.incoming f in
    let ended = subst P c.in-End.is c.in-Ok.ensures.awaited in
    record { taken = tt; lacks = record { came = c.wait.ensures.came; says = (refl, inr (ended.0, none-part c.wait.new.incoming ended.1), c.in-Ok.ensures.cause.ok) } }

pub returns-in-CutOff : goal.returns-in-CutOff
returns-in-CutOff g c =
    let P : Filled → Type 0 = λ f. IsAwaited (g.I.Source.over c.wait.new.source) c.wait.new.incoming f in
    let ended = subst P c.in-CutOff.is c.in-Ok.ensures.awaited in
    record { taken = tt; lacks = record { came = c.wait.ensures.came; says = (refl, inr (ended.0, ended.2), c.in-Ok.ensures.cause.ok) } }

pub returns-in-Err : goal.returns-in-Err
returns-in-Err g c = record { taken = tt; lacks = record { came = c.wait.ensures.came; says = (c.in-Err.ensures.cause.failed, c.in-Err.ensures.part) } }

pub returns-in-None : goal.returns-in-None
returns-in-None g c = record { taken = tt; lacks = record { came = c.wait.ensures.came; says = (refl, inl c.in-None.ensures.none, c.in-Ok.ensures.cause.ok) } }

pub returns-in-Some : goal.returns-in-Some
returns-in-Some g c = record {
  taken = record {
    frame = first_request c.wait.new.incoming;
    named = c.in-Some.ensures.named.1;
    came = λ told taken was. came-frame told (g.I.Source.told c.wait.new.source) (g.I.Source.gave c.wait.new.source) taken (first_request c.wait.new.incoming) c.wait.new.incoming c.skip.new.self (c.wait.ensures.came told taken was) c.skip.ensures.next;
    same = c.in-Ok.ensures.cause.ok;
  };
  lacks = tt;
}
