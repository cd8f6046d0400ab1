use Rattle.std.proofs.Common.{map, take, drop, sym, ap, ◌∙◌, subst, arith}
use Rattle.std.proofs.lemmas.List.{length-map}
use Rattle.ppq_array.specs.Run.{items_of}
use Rattle.ppq_merge.specs.ppq_split.Cut.{AreWithin}
use Rattle.ppq_fetch.specs.Steps.{RunsConsumed, ArraysConsumed}
use Rattle.ppq_fetch.specs.Fetching.{loaded_lists}
use Rattle.ppq_fetch.proofs.Sums.{loaded_of}
use Rattle.ppq_fetch.proofs.Listings.{within_length, long_lists}
use Rattle.ppq_fetch.proofs.Parted.{within_take}
use Rattle.ppq_fetch.proofs.take.consume_taken.Goals as goal

pub split_at-requires : goal.split_at-requires
split_at-requires g c = omega (arith, within_length c.args.places.now (loaded_lists c.args.internal.now c.args.external.now) c.requires.within, long_lists items_of loaded_of c.args.internal.now c.args.external.now)

pub consume_internal-requires-clause-within : goal.consume_internal-requires-clause-within
consume_internal-requires-clause-within g c =
    let ps = c.args.places.now in
    let qs = map items_of c.args.internal.now in
    subst (λ ns. AreWithin ns qs) (ap (λ k. take k ps) (length-map c.args.internal.now items_of) ∙ sym c.split_at.ensures.front) (within_take ps qs (map loaded_of c.args.external.now) c.requires.within).0

pub consume_external-requires-clause-within : goal.consume_external-requires-clause-within
consume_external-requires-clause-within g c =
    let ps = c.args.places.now in
    let qs = map items_of c.args.internal.now in
    let rs = map loaded_of c.args.external.now in
    subst (λ ns. AreWithin ns rs) (ap (λ k. drop k ps) (length-map c.args.internal.now items_of) ∙ sym c.split_at.ensures.back) (within_take ps qs rs c.requires.within).1

pub returns-clause-consumed : goal.returns-clause-consumed
returns-clause-consumed g c =
    let a = c.args in
    let r = c.consume_internal in
    let e = c.consume_external in
    record {
      runs = subst (λ ps. RunsConsumed ps a.internal.now r.new.internal (g.P.Supply.stock a.supply.now) (g.P.Supply.stock r.new.supply)) c.split_at.ensures.front r.ensures.consumed;
      arrays = subst (λ ps. ArraysConsumed ps a.external.now e.new.external a.idle.now e.new.idle) c.split_at.ensures.back e.ensures.consumed;
    }
