use Rattle.std.proofs.Common.{◌≡◌, ◌+◌, ◌-◌, ◌/◌, true, false, refl, sym, ap, ◌∙◌, subst, arith, true≢false}
use Rattle.ppq_array.proofs.ppq_record.Fronts.{ranks}
use Rattle.ppq_fetch.specs.Edges.{is_within}
use Rattle.ppq_fetch.proofs.Marking.{Found, found_none, found_high, found_low, found_count, edge_downward}
use Rattle.ppq_fetch.proofs.mark.count_inside.Goals as goal

pub loop-low-init : goal.loop-low-init
loop-low-init g c =
    let xs = g.Q.Loaded.list c.args.run.now in
    record {
      order = omega arith;
      within = omega (arith, c.loaded_len-high.ensures);
      whole = λ e. c.loaded_len-high.ensures;
      found = λ _. found_none (is_within g.R.Ord.cmp c.args.edge.now) xs c.loaded_len-high.result (omega (arith, c.loaded_len-high.ensures));
    }

pub get-requires : goal.get-requires
get-requires g c = omega (arith, c.loop-low-test.true, c.loop-low.invariant.within)

pub loop-low-preserved-then-is_inside : goal.loop-low-preserved-then-is_inside
loop-low-preserved-then-is_inside g c =
    let l = c.loop-low in
    let o = ranks c.record_laws.ensures.order in
    let xs = g.Q.Loaded.list c.args.run.now in
    let inside : is_within g.R.Ord.cmp c.args.edge.now c.get.result ≡ true = cc in
    record {
      order = omega (arith, c.loop-low-test.true);
      within = omega (arith, c.loop-low-test.true, l.invariant.within);
      whole = l.invariant.whole;
      found = λ up. found_low g.R.Ord.cmp o (is_within g.R.Ord.cmp c.args.edge.now) (edge_downward g.R.Ord.cmp o c.args.edge.now) xs l.low l.high (l.low + (l.high - l.low) / 2) (l.low + (l.high - l.low) / 2 + 1) c.get.result refl up c.get.ensures inside (l.invariant.found up);
    }

pub loop-low-preserved : goal.loop-low-preserved
loop-low-preserved g c =
    let l = c.loop-low in
    let o = ranks c.record_laws.ensures.order in
    let xs = g.Q.Loaded.list c.args.run.now in
    let outside : is_within g.R.Ord.cmp c.args.edge.now c.get.result ≡ false = cc in
    record {
      order = omega (arith, c.loop-low-test.true);
      within = omega (arith, c.loop-low-test.true, l.invariant.within);
      whole = λ e. absurd (true≢false (sym (ap (λ v. is_within g.R.Ord.cmp v c.get.result) e) ∙ outside));
      found = λ up. found_high g.R.Ord.cmp o (is_within g.R.Ord.cmp c.args.edge.now) (edge_downward g.R.Ord.cmp o c.args.edge.now) xs l.low l.high (l.low + (l.high - l.low) / 2) c.get.result up c.get.ensures outside (l.invariant.found up);
    }

pub returns-clause-within : goal.returns-clause-within
returns-clause-within g c = omega (arith, c.loop-low.invariant.order, c.loop-low.invariant.within)

pub returns-clause-count : goal.returns-clause-count
returns-clause-count g c =
    let l = c.loop-low in
    let p = is_within g.R.Ord.cmp c.args.edge.now in
    let xs = g.Q.Loaded.list c.args.run.now in
    let same : l.high ≡ l.low = omega (arith, l.invariant.order, c.loop-low-test.false) in
    λ up.
    let here = subst (λ h. Found p xs l.low h) same (l.invariant.found up) in
    found_count p xs l.low (omega (arith, l.invariant.within, l.invariant.order)) here

pub returns-clause-whole : goal.returns-clause-whole
returns-clause-whole g c = λ e. omega (arith, c.loop-low.invariant.whole e, c.loop-low.invariant.order, c.loop-low-test.false)
