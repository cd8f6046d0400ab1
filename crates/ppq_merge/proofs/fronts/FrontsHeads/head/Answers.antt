use Rattle.std.proofs.Common.{sym, ◌∙◌, arith}
use Rattle.ppq_merge.proofs.Heads.{heads-length, AreParts-length, AreParts-at, head_some, head_none}
use Rattle.ppq_merge.proofs.fronts.FrontsHeads.head.Goals as goal

pub bounds-self-leaf : goal.bounds-self-leaf
bounds-self-leaf g c =
    let f = c.args.self.now in
    omega (arith, c.requires, heads-length f.from.now f.to.now (g.Q.Listing.lists f.runs.now) f.parts)

pub bounds-self-leaf-2 : goal.bounds-self-leaf-2
bounds-self-leaf-2 g c =
    let f = c.args.self.now in
    let qs = g.Q.Listing.lists f.runs.now in
    omega (arith, c.requires, heads-length f.from.now f.to.now qs f.parts, (AreParts-length f.from.now f.to.now qs f.parts).0)

pub at-requires-clause-run : goal.at-requires-clause-run
at-requires-clause-run g c =
    let f = c.args.self.now in
    let qs = g.Q.Listing.lists f.runs.now in
    omega (arith, c.requires, heads-length f.from.now f.to.now qs f.parts, (AreParts-length f.from.now f.to.now qs f.parts).1)

pub at-requires-clause-place : goal.at-requires-clause-place
at-requires-clause-place g c =
    let f = c.args.self.now in
    omega (arith, (AreParts-at f.from.now f.to.now (g.Q.Listing.lists f.runs.now) f.parts c.args.leaf).1, c.if-place-self.true)

pub returns-then-place-self : goal.returns-then-place-self
returns-then-place-self g c =
    let f = c.args.self.now in
    sym (head_some f.from.now f.to.now (g.Q.Listing.lists f.runs.now) c.args.leaf f.parts c.if-place-self.true ∙ c.at.ensures)

pub returns-else-place-self : goal.returns-else-place-self
returns-else-place-self g c =
    let f = c.args.self.now in
    sym (head_none f.from.now f.to.now (g.Q.Listing.lists f.runs.now) c.args.leaf f.parts c.if-place-self.false)
