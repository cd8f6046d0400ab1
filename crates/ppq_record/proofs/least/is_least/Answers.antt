use Rattle.std.proofs.Common.{◌≡◌, ◌∙◌, sym}
use Rattle.std.specs.List.{AllByRecursion as Each}
use Rattle.ppq_record.specs.Order.{Ascends}
use Rattle.ppq_record.specs.Bag.{IsCounted, front}
use Rattle.ppq_record.proofs.Counting.{least_by_counts, each_counted, refuted}
use Rattle.ppq_record.proofs.least.is_least.Goals as goal

pub returns-then-not-ascends : goal.returns-then-not-ascends
returns-then-not-ascends g c =
    let laws = c.record_laws.ensures in
    let is = least_by_counts laws.order laws.same c.args.all.now c.args.k c.args.out.now in
    refuted c.ascends.result (Ascends g.R.Ord.cmp c.args.out.now) (c.args.out.now ≡ front g.R.Ord.cmp c.args.all.now c.args.k) c.if-not-ascends.true c.ascends.ensures.1 (λ e. (is.1 e).0)

pub returns-then-not-are_counted : goal.returns-then-not-are_counted
returns-then-not-are_counted g c =
    let laws = c.record_laws.ensures in
    let is = least_by_counts laws.order laws.same c.args.all.now c.args.k c.args.out.now in
    let each = each_counted g.R.Ord.cmp c.args.all.now c.args.k c.args.out.now c.args.out.now in
    refuted c.are_counted.result (Each (IsCounted g.R.Ord.cmp c.args.all.now c.args.k c.args.out.now) c.args.out.now) (c.args.out.now ≡ front g.R.Ord.cmp c.args.all.now c.args.k) c.if-not-are_counted.true (λ e. c.are_counted.ensures ∙ each.1 e) (λ e. (is.1 e).1)

pub returns : goal.returns
returns g c =
    let laws = c.record_laws.ensures in
    let is = least_by_counts laws.order laws.same c.args.all.now c.args.k c.args.out.now in
    let of_out = each_counted g.R.Ord.cmp c.args.all.now c.args.k c.args.out.now c.args.out.now in
    let of_all = each_counted g.R.Ord.cmp c.args.all.now c.args.k c.args.out.now c.args.all.now in (
      (λ h. is.0 (c.ascends.ensures.0 c.if-not-ascends.false, of_out.0 (sym c.are_counted.ensures ∙ c.if-not-are_counted.false), of_all.0 (sym c.are_counted-2.ensures ∙ h))),
      (λ e. c.are_counted-2.ensures ∙ of_all.1 (is.1 e).2),
    )
