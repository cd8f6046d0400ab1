use Rattle.std.proofs.Common.{◌≡◌, ◌+◌, ◌-◌, ◌/◌, true, false, not, refl, sym, ap, ◌∙◌, subst, arith}
use Rattle.std.specs.Prelude.{count_by}
use Rattle.ppq_block.specs.ppq_record.Order.{is_before, Ascends}
use Rattle.ppq_block.proofs.ppq_record.Fronts.{ranks}
use Rattle.ppq_array.specs.Run.{items_of}
use Rattle.ppq_array.proofs.Searching.{Found, found_none, found_high, found_low, found_count}
use Rattle.ppq_array.proofs.external_array.ExternalArray.loaded_at_most.Goals as goal

pub loop-low-init : goal.loop-low-init
loop-low-init g c =
    let xs = items_of c.self.inside.loaded in
    record {
      order = omega arith;
      within = omega (arith, c.len-high.ensures.len);
      found = λ _. found_none (is_before g.R.Ord.cmp) c.args.u.now xs c.len-high.result (omega (arith, c.len-high.ensures.len));
    }

pub loop-low-preserved-then-is_lt : goal.loop-low-preserved-then-is_lt
loop-low-preserved-then-is_lt g c =
    let l = c.loop-low in
    let xs = items_of c.self.inside.loaded in
    let before : is_before g.R.Ord.cmp c.args.u.now c.at.result ≡ true = cc in
    record {
      order = omega (arith, c.loop-low-test.true);
      within = omega (arith, c.loop-low-test.true, l.invariant.within);
      found = λ up. found_high (is_before g.R.Ord.cmp) (ranks c.record_laws.ensures.order) c.args.u.now xs l.low l.high (l.low + (l.high - l.low) / 2) c.at.result up c.at.ensures.record before (l.invariant.found up);
    }

pub loop-low-preserved : goal.loop-low-preserved
loop-low-preserved g c =
    let l = c.loop-low in
    let xs = items_of c.self.inside.loaded in
    let before : is_before g.R.Ord.cmp c.args.u.now c.at.result ≡ false = cc in
    record {
      order = omega (arith, c.loop-low-test.true);
      within = omega (arith, c.loop-low-test.true, l.invariant.within);
      found = λ up. found_low (is_before g.R.Ord.cmp) (ranks c.record_laws.ensures.order) c.args.u.now xs l.low l.high (l.low + (l.high - l.low) / 2) (l.low + (l.high - l.low) / 2 + 1) c.at.result refl up c.at.ensures.record before (l.invariant.found up);
    }

pub returns-clause-count : goal.returns-clause-count
returns-clause-count g c =
    let l = c.loop-low in
    let lt = is_before g.R.Ord.cmp in
    let u = c.args.u.now in
    let xs = items_of c.self.inside.loaded in
    let same : l.high ≡ l.low = omega (arith, l.invariant.order, c.loop-low-test.false) in
    let items = ap (λ a. items_of a.loaded) c.self.view_is in
    λ up.
    let here = subst (λ h. Found lt u xs l.low h) same (l.invariant.found (subst (λ ys. Ascends g.R.Ord.cmp ys) (sym items) up)) in
    found_count lt (ranks c.record_laws.ensures.order) u xs l.low (omega (arith, l.invariant.within, l.invariant.order)) here
    ∙ ap (λ ys. count_by (λ x. not (lt u x)) ys) items
