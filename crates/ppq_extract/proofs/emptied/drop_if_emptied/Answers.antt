use Rattle.std.proofs.Common.{rules, ◌≡◌, ◌<◌, get_or, arith}
use Rattle.ppq_extract.proofs.Removing.{lost_none, lost_at, length_removed, within_kept, within_removed}
use Rattle.ppq_extract.proofs.emptied.drop_if_emptied.Goals as goal

pub returns-then-is_emptied-clause-lost : goal.returns-then-is_emptied-clause-lost
returns-then-is_emptied-clause-lost g c =
    let r = c.swap_remove-emptied in
    let at : c.index.result.now ≡ get_or c.args.runs.now.items c.args.at c.index.result.now = search rules in
    lost_at g.Q.Emptied.is_empty c.args.runs.now.items r.new.self.items c.args.at r.result c.index.result.now c.requires.within at r.ensures.value r.ensures.items (c.is_emptied.ensures.emptied c.if-is_emptied.true)

pub returns-then-is_emptied-clause-after : goal.returns-then-is_emptied-clause-after
returns-then-is_emptied-clause-after g c =
    let r = c.swap_remove-emptied in
    within_removed (λ (q : g.row.Q.Denot). 0 < g.Q.Emptied.size q) c.args.runs.now.items r.new.self.items c.args.at r.result c.requires.within r.ensures.items c.requires.after

pub returns-then-is_emptied-clause-within : goal.returns-then-is_emptied-clause-within
returns-then-is_emptied-clause-within g c =
    let r = c.swap_remove-emptied in
    omega (arith, length_removed c.args.runs.now.items r.new.self.items c.args.at r.result c.requires.within r.ensures.items, c.requires.within)

pub returns-else-is_emptied-clause-lost : goal.returns-else-is_emptied-clause-lost
returns-else-is_emptied-clause-lost g c = lost_none g.Q.Emptied.is_empty c.args.runs.now.items

pub returns-else-is_emptied-clause-after : goal.returns-else-is_emptied-clause-after
returns-else-is_emptied-clause-after g c =
    let at : c.index.result.now ≡ get_or c.args.runs.now.items c.args.at c.index.result.now = search rules in
    within_kept (λ (q : g.row.Q.Denot). 0 < g.Q.Emptied.size q) c.args.runs.now.items c.args.at c.index.result.now at c.requires.within (c.is_emptied.ensures.some c.if-is_emptied.false) c.requires.after
