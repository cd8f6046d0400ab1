use Rattle.std.proofs.Common.{◌≡◌, ◌+◌, ◌-◌, ◌≤◌, length, take}
use Rattle.ppq_fetch.specs.Fetching.{state, MayFetch, Fetched, blocks_in}
use Rattle.ppq_fetch.specs.Hints.{AreHints}
use Rattle.ppq_fetch.proofs.fetch.take_least.Given as goal

abbrev pub invariant-loop-to : goal.invariant-loop-to
invariant-loop-to g l =
    let old = state l.fn.internal l.fn.external l.fn.idle (g.P.Supply.stock l.fn.supply) in
    let now = state l.internal l.external l.idle (g.P.Supply.stock l.supply) in
    record {
      within : l.to ≤ length l.out;
      out : length l.out ≡ length l.fn.out;
      fetched : Fetched g.R.Ord.cmp g.R.Record.record_of g.R.Record.WIDTH g.S.Slot.shown l.below old now (take l.to l.out);
      may : MayFetch g.S.Slot.shown g.R.Record.WIDTH l.ahead now;
      hints : AreHints g.R.Record.record_of g.R.Record.WIDTH g.S.Slot.shown l.external l.bench.hints;
      places : length l.places ≡ length l.fn.places;
      bench : length l.bench.places ≡ length l.fn.bench.places;
      workers : l.bench.workers ≡ l.fn.bench.workers;
      home : g.P.Supply.home l.supply ≡ g.P.Supply.home l.fn.supply;
    }

abbrev pub decreases-loop-to : goal.decreases-loop-to
decreases-loop-to g l = blocks_in l.external + (length l.out - l.to)
