use Rattle.std.proofs.Common.{◌≡◌, ◌<◌, ◌+◌, ◌-◌, ◌++◌, length, map, ◌∙◌, arith}
use Rattle.ppq_array.specs.ppq_record.Runs.{list_at}
use Rattle.std.proofs.lemmas.List.{length-map}
use Rattle.ppq_fetch.proofs.Listings.{firsts_length, long_lists, list_left, list_right, in_first}
use Rattle.ppq_fetch.proofs.loaded.SafePartsListing.at.Goals as goal

pub record_at-requires-clause-place : goal.record_at-requires-clause-place
record_at-requires-clause-place g c =
    let s = c.args.self.now in
    let qs = map g.I.Loaded.list s.internal.now in
    let rs = map g.E.Loaded.list s.external.now in
    let h : c.args.run < length qs = omega (arith, c.if-run-self.true, length-map s.internal.now g.I.Loaded.list) in
    (in_first s.places.now (qs ++ rs) s.within c.args.run c.args.i (list_at qs c.args.run) c.requires.place (list_left qs rs c.args.run h)).0

pub returns-then-run-self : goal.returns-then-run-self
returns-then-run-self g c =
    let s = c.args.self.now in
    let qs = map g.I.Loaded.list s.internal.now in
    let rs = map g.E.Loaded.list s.external.now in
    let h : c.args.run < length qs = omega (arith, c.if-run-self.true, length-map s.internal.now g.I.Loaded.list) in
    (in_first s.places.now (qs ++ rs) s.within c.args.run c.args.i (list_at qs c.args.run) c.requires.place (list_left qs rs c.args.run h)).1 ∙ c.record_at.ensures

pub record_at-requires-2-clause-run : goal.record_at-requires-2-clause-run
record_at-requires-2-clause-run g c =
    let s = c.args.self.now in
    omega (arith, c.requires.run, c.if-run-self.false, firsts_length s.places.now (map g.I.Loaded.list s.internal.now ++ map g.E.Loaded.list s.external.now) s.within, long_lists g.I.Loaded.list g.E.Loaded.list s.internal.now s.external.now)

pub record_at-requires-2-clause-place : goal.record_at-requires-2-clause-place
record_at-requires-2-clause-place g c =
    let s = c.args.self.now in
    let qs = map g.I.Loaded.list s.internal.now in
    let rs = map g.E.Loaded.list s.external.now in
    let at = c.args.run - length s.internal.now in
    let e : c.args.run ≡ length qs + at = omega (arith, c.if-run-self.false, length-map s.internal.now g.I.Loaded.list) in
    (in_first s.places.now (qs ++ rs) s.within c.args.run c.args.i (list_at rs at) c.requires.place (list_right qs rs c.args.run at e)).0

pub returns : goal.returns
returns g c =
    let s = c.args.self.now in
    let qs = map g.I.Loaded.list s.internal.now in
    let rs = map g.E.Loaded.list s.external.now in
    let at = c.args.run - length s.internal.now in
    let e : c.args.run ≡ length qs + at = omega (arith, c.if-run-self.false, length-map s.internal.now g.I.Loaded.list) in
    (in_first s.places.now (qs ++ rs) s.within c.args.run c.args.i (list_at rs at) c.requires.place (list_right qs rs c.args.run at e)).1 ∙ c.record_at-2.ensures
