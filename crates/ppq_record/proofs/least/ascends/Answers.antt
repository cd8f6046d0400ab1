use Rattle.std.proofs.Common.{◌≡◌, ◌∙◌, ◌-◌, ◌≤◌, ℕ, true, false, sym, refl, ap, ap₂, subst, suc, arith, get_or, true≢false}
use Rattle.std.specs.Ordering.{is_lt}
use Rattle.std.proofs.lemmas.List.{get_or_read}
use Rattle.ppq_record.specs.Order.{is_before, Le}
use Rattle.ppq_record.proofs.Fronts.{Ascends-adjacent}
use Rattle.ppq_record.proofs.Counting.{rising_at}
use Rattle.ppq_record.proofs.least.ascends.Goals as goal

pub returns-then-is_lt : goal.returns-then-is_lt
returns-then-is_lt g c = (
  (λ h. absurd (true≢false (sym h))),
  (λ up.
      let lt = is_before g.R.Ord.cmp in
      let xs = c.args.items.now in
      let i = c.loop-i.i in
      let d = c.index-items-i.result in
      let low : 1 ≤ i = c.loop-i.auto.i in
      let here : lt (get_or xs i d) (get_or xs (i - 1) d) ≡ true =
      ap₂ lt (sym (get_or_read xs i _ c.loop-i-test.true c.index-items-i.is d)) (sym (get_or_read xs (i - 1) _ (omega arith) c.index-items-i-in-loop-i.is d)) ∙ ap is_lt (sym c.cmp.ensures) ∙ sym c.is_lt.ensures ∙ c.if-is_lt.true in
      let step : suc (i - 1) ≡ i = omega arith in
      let never : lt (get_or xs i d) (get_or xs (i - 1) d) ≡ false = subst (λ (j : ℕ). Le lt (get_or xs (i - 1) d) (get_or xs j d)) step (rising_at lt xs (i - 1) d up (omega arith)) in
      absurd (true≢false (sym here ∙ never))),
)

pub returns : goal.returns
returns g c = (
  (λ h. Ascends-adjacent c.record_laws.ensures.order c.args.items.now (λ k d h. c.loop-i.invariant k d (omega arith))),
  (λ up. refl),
)
