use Rattle.std.proofs.Common.{◌≡◌, ◌+◌, ◌++◌, ◌∷◌, [], All, length, take, sym, ap, ◌∙◌, subst, arith, length-set}
use Rattle.std.specs.List.{AllByRecursion as Each}
use Rattle.std.proofs.lemmas.Grind.{take_at_read}
use Rattle.ppq_array.proofs.ppq_record.Order.{Each-append}
use Rattle.ppq_array.specs.External.{External, IsLabelled}
use Rattle.ppq_fetch.specs.Bench.{Marks}
use Rattle.ppq_fetch.proofs.Hints.{tell_more}
use Rattle.ppq_fetch.proofs.hint.tell_all.Goals as goal

pub loop-run-preserved : goal.loop-run-preserved
loop-run-preserved g c =
    let l = c.loop-run in
    let i = l.invariant in
    let xs = c.args.external.now in
    let a = c.index-external-run.result in
    let cut : take (l.run + 1) xs ≡ take l.run xs ++ a ∷ [] = (take_at_read xs l.run a c.loop-run-test.true).1 ∙ ap (λ b. take l.run xs ++ b ∷ []) (sym c.index-external-run.is) in
    let P : External g.row.S.Denot g.row.R.Denot → Type 0 = λ a. All (IsLabelled g.R.Record.record_of g.R.Record.WIDTH g.S.Slot.shown) a.stored in
    record {
      long = ap length c.hint.ensures.hints ∙ (length-set l.bench.hints l.run c.next_to_lift.result ∙ i.long);
      told = ap (take (l.run + 1)) c.hint.ensures.hints ∙ (tell_more xs l.bench.hints l.run a c.next_to_lift.result (omega (arith, i.long, c.loop-run-test.true)) cut c.next_to_lift.ensures.minimum i.told);
      labelled = subst (λ ys. Each P ys) (sym cut) (Each-append P (take l.run xs) (a ∷ []) i.labelled (c.next_to_lift.ensures.labelled, tt));
      rest = c.hint.ensures.rest ∙ ap (λ (b : Marks g.row.R.Denot). record b { hints = c.hint.new.self.hints }) i.rest;
    }
