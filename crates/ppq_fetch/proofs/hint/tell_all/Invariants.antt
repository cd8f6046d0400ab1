use Rattle.std.proofs.Common.{◌≡◌, length, take, All}
use Rattle.std.specs.List.{AllByRecursion as Each}
use Rattle.ppq_array.specs.External.{IsLabelled}
use Rattle.ppq_fetch.specs.Hints.{nexts_of}
use Rattle.ppq_fetch.proofs.hint.tell_all.Given as goal

abbrev pub invariant-loop-run : goal.invariant-loop-run
invariant-loop-run g l = record {
  long : length l.bench.hints ≡ length l.external;
  told : take l.run l.bench.hints ≡ nexts_of (take l.run l.external);
  labelled : Each (λ a. All (IsLabelled g.R.Record.record_of g.R.Record.WIDTH g.S.Slot.shown) a.stored) (take l.run l.external);
  rest : l.bench ≡ record l.fn.bench { hints = l.bench.hints };
}
