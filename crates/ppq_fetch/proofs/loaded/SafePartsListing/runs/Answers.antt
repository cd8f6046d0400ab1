use Rattle.std.proofs.Common.{map, ◌++◌, arith}
use Rattle.ppq_fetch.proofs.Listings.{firsts_length, long_lists}
use Rattle.ppq_fetch.proofs.loaded.SafePartsListing.runs.Goals as goal

pub returns : goal.returns
returns g c =
    let s = c.args.self.now in
    omega (arith, firsts_length s.places.now (map g.I.Loaded.list s.internal.now ++ map g.E.Loaded.list s.external.now) s.within, long_lists g.I.Loaded.list g.E.Loaded.list s.internal.now s.external.now)
