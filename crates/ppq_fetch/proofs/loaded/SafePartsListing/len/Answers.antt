use Rattle.std.proofs.Common.{map, ◌++◌, arith}
use Rattle.ppq_fetch.proofs.Listings.{within_length, firsts_length, first_length}
use Rattle.ppq_fetch.proofs.loaded.SafePartsListing.len.Goals as goal

pub bounds-self-run : goal.bounds-self-run
bounds-self-run g c =
    let s = c.args.self.now in
    let qs = map g.I.Loaded.list s.internal.now ++ map g.E.Loaded.list s.external.now in
    omega (arith, c.requires, within_length s.places.now qs s.within, firsts_length s.places.now qs s.within)

pub returns : goal.returns
returns g c = let s = c.args.self.now in first_length s.places.now (map g.I.Loaded.list s.internal.now ++ map g.E.Loaded.list s.external.now) s.within c.args.run
