use Rattle.std.proofs.Common.{◌≡◌, length, take, sym, ap, ◌∙◌, subst, arith, length-take}
use Rattle.std.specs.List.{AllByRecursion as Each}
use Rattle.ppq_array.specs.ppq_record.Order.{Ascends}
use Rattle.ppq_array.specs.ppq_record.Runs.{all_of}
use Rattle.ppq_array.specs.ppq_record.Bag.{IsSameBag, front}
use Rattle.ppq_array.specs.Run.{items_of}
use Rattle.ppq_merge.specs.ppq_split.Cut.{AreWithin}
use Rattle.ppq_merge.specs.Parts.{before}
use Rattle.ppq_fetch.specs.Parts.{firsts}
use Rattle.ppq_fetch.specs.Fetching.{loaded_lists}
use Rattle.ppq_fetch.proofs.Sums.{loaded_of, loaded_long}
use Rattle.ppq_fetch.proofs.Listings.{first_total, firsts_length, within_length, long_lists}
use Rattle.ppq_fetch.proofs.Marking.{total_within}
use Rattle.ppq_fetch.proofs.take.merge_parts.Goals as goal

pub merge-requires-clause-count : goal.merge-requires-clause-count
merge-requires-clause-count g c κs within =
    let qs = loaded_lists c.args.internal.now c.args.external.now in
    omega (arith, ap (λ xs. length (all_of xs)) c.new-parts.ensures, first_total c.args.places.now qs c.requires.may.within, c.requires.may.count)

pub merge-requires-clause-room : goal.merge-requires-clause-room
merge-requires-clause-room g c κs within =
    let qs = loaded_lists c.args.internal.now c.args.external.now in
    omega (arith, ap (λ xs. length (all_of xs)) c.new-parts.ensures, first_total c.args.places.now qs c.requires.may.within, total_within c.args.places.now qs c.requires.may.within, loaded_long c.args.internal.now c.args.external.now, c.requires.may.few_records)

pub merge-requires-clause-bench : goal.merge-requires-clause-bench
merge-requires-clause-bench g c κs within =
    let qs = loaded_lists c.args.internal.now c.args.external.now in
    omega (arith, ap length c.new-parts.ensures, firsts_length c.args.places.now qs c.requires.may.within, long_lists items_of loaded_of c.args.internal.now c.args.external.now, c.requires.may.bench_room)

pub copy_cuts-requires-clause-long : goal.copy_cuts-requires-clause-long
copy_cuts-requires-clause-long g c =
    omega (arith, within_length c.args.places.now (loaded_lists c.args.internal.now c.args.external.now) c.requires.may.within, long_lists items_of loaded_of c.args.internal.now c.args.external.now, c.requires.may.bench_room, c.merge.ensures.bench)

pub copy_cuts-requires-clause-few : goal.copy_cuts-requires-clause-few
copy_cuts-requires-clause-few g c = omega (arith, within_length c.args.places.now (loaded_lists c.args.internal.now c.args.external.now) c.requires.may.within, long_lists items_of loaded_of c.args.internal.now c.args.external.now, c.requires.may.few_runs)

pub returns-clause-merged : goal.returns-clause-merged
returns-clause-merged g c =
    let fs = firsts c.args.places.now (loaded_lists c.args.internal.now c.args.external.now) in
    let b = c.merge.new.self.places in
    let out = c.merge.new.out in
    let qs = loaded_lists c.args.internal.now c.args.external.now in
    let e = ap (λ k. take k b) (firsts_length c.args.places.now qs c.requires.may.within ∙ sym (within_length c.args.places.now qs c.requires.may.within)) ∙ sym c.copy_cuts.ensures in
    let least = subst (λ xs. Each (Ascends g.R.Ord.cmp) xs → out ≡ front g.R.Ord.cmp (all_of xs) (length c.args.out.now)) c.new-parts.ensures c.merge.ensures.front in
    record {
      within = subst (λ ps. AreWithin ps fs) e (subst (λ xs. AreWithin (take (length xs) b) xs) c.new-parts.ensures c.merge.ensures.within);
      bag = subst (λ ps. IsSameBag out (before ps fs)) e (subst (λ xs. IsSameBag out (before (take (length xs) b) xs)) c.new-parts.ensures c.merge.ensures.bag);
      least = λ up. least up ∙ ap (front g.R.Ord.cmp (all_of fs)) (sym c.merge.ensures.length);
    }

pub returns-clause-room : goal.returns-clause-room
returns-clause-room g c = record {
  out = c.merge.ensures.length;
  places = omega (arith, ap length c.copy_cuts.ensures, length-take (length c.args.places.now) c.merge.new.self.places, c.merge.ensures.bench, c.requires.may.bench_room, within_length c.args.places.now (loaded_lists c.args.internal.now c.args.external.now) c.requires.may.within, long_lists items_of loaded_of c.args.internal.now c.args.external.now);
  bench = c.merge.ensures.bench;
  workers = c.merge.ensures.workers;
}
