use Rattle.std.proofs.Common.{◌∙◌, ℕ, List, length, refl, sym, ap, subst, arith, length-append}
use Rattle.ppq_frames.specs.ppq_outside.Told.{Rose}
use Rattle.ppq_frames.specs.declared.filled.Filled.{Filled}
use Rattle.ppq_frames.specs.Frames.{IsPart, IsFilled}
use Rattle.ppq_answer.proofs.Talked.{first-not_part, long-not_part, part-short}
use Rattle.ppq_answer.proofs.waiting.wait.Goals as goal

pub waiting-init : goal.waiting-init
waiting-init g c = record { came = λ told requests was. was; stays = refl }

pub waiting-preserved : goal.waiting-preserved
waiting-preserved g c = record { came = λ told requests was. c.fill.ensures.came told requests (c.waiting.invariant.came told requests was); stays = c.in-Ok.ensures.cause.ok ∙ c.waiting.invariant.stays }

pub waiting-smaller : goal.waiting-smaller
waiting-smaller g c =
    let old = c.waiting.incoming in
    let P : Filled → Type 0 = λ f. IsFilled (g.I.Source.over c.fill.new.source) old c.fill.new.self f in
    let has = subst P c.in-More.is c.in-Ok.ensures.filled in
    omega (arith, ap length has.2, length-append old has.0, has.1, part-short old c.in-Part.ensures)

pub returns-in-Request : goal.returns-in-Request
returns-in-Request g c =
    let v = c.waiting.invariant in
    record { awaited = first-not_part c.waiting.incoming c.in-Request.ensures.0; part = tt; came = v.came; cause = record { later = omega (arith, v.stays); failed = tt; ok = v.stays } }

pub returns-in-TooLong : goal.returns-in-TooLong
returns-in-TooLong g c =
    let v = c.waiting.invariant in
    record { awaited = long-not_part c.waiting.incoming c.in-TooLong.ensures; part = tt; came = v.came; cause = record { later = omega (arith, v.stays); failed = tt; ok = v.stays } }

pub returns-in-End : goal.returns-in-End
returns-in-End g c =
    let v = c.waiting.invariant in
    let same = c.in-Ok.ensures.cause.ok ∙ v.stays in
    let P : Filled → Type 0 = λ f. IsFilled (g.I.Source.over c.fill.new.source) c.waiting.incoming c.fill.new.self f in
    let has = subst P c.in-End.is c.in-Ok.ensures.filled in
    record {
      awaited = (has.0, has.2);
      part = tt;
      came = λ told requests was. c.fill.ensures.came told requests (v.came told requests was);
      cause = record { later = omega (arith, same); failed = tt; ok = same };
    }

pub returns-in-CutOff : goal.returns-in-CutOff
returns-in-CutOff g c =
    let v = c.waiting.invariant in
    let same = c.in-Ok.ensures.cause.ok ∙ v.stays in
    let P : Filled → Type 0 = λ f. IsFilled (g.I.Source.over c.fill.new.source) c.waiting.incoming c.fill.new.self f in
    let has = subst P c.in-CutOff.is c.in-Ok.ensures.filled in
    let Q : List ℕ → Type 0 = λ bytes. IsPart bytes in
    record {
      awaited = (has.0, λ none. has.1 (sym has.2 ∙ none), subst Q (sym has.2) c.in-Part.ensures);
      part = tt;
      came = λ told requests was. c.fill.ensures.came told requests (v.came told requests was);
      cause = record { later = omega (arith, same); failed = tt; ok = same };
    }

pub returns-in-Err : goal.returns-in-Err
returns-in-Err g c =
    let v = c.waiting.invariant in
    let P : ℕ → Type 0 = λ n. Rose n (g.I.Source.faults c.fill.new.source) in
    let Q : List ℕ → Type 0 = λ bytes. IsPart bytes in
    record {
      awaited = tt;
      part = subst Q (sym c.in-Err.ensures.same) c.in-Part.ensures;
      came = λ told requests was. c.fill.ensures.came told requests (v.came told requests was);
      cause = record { later = omega (arith, c.in-Err.ensures.cause.later, v.stays); failed = subst P v.stays c.in-Err.ensures.cause.failed; ok = tt };
    }
