use Rattle.std.proofs.Common.{length, ap, arith}
use Rattle.ppq_record.proofs.Listed.{run_is, item_is}
use Rattle.ppq_record.proofs.lists.ListsListing.at.Goals as goal

pub offset_bounds-as_slice-i : goal.offset_bounds-as_slice-i
offset_bounds-as_slice-i g c =
    let e = ap length (run_is (λ v. v.items) c.args.self.now.lists.now c.args.run c.index-self-run.result c.as_slice.result.now c.requires.run c.as_slice.ensures.value) in
    omega (arith, c.requires.place)

pub bounds-as_slice-i : goal.bounds-as_slice-i
bounds-as_slice-i g c =
    let e = ap length (run_is (λ v. v.items) c.args.self.now.lists.now c.args.run c.index-self-run.result c.as_slice.result.now c.requires.run c.as_slice.ensures.value) in
    omega (arith, c.requires.place)

pub returns : goal.returns
returns g c = item_is c.as_slice.result.now _ c.args.i c.index-as_slice-i.result (run_is (λ v. v.items) c.args.self.now.lists.now c.args.run c.index-self-run.result c.as_slice.result.now c.requires.run c.as_slice.ensures.value) c.requires.place c.index-as_slice-i.is
