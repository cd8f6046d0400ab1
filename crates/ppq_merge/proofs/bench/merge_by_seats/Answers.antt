use Rattle.std.proofs.Common.{◌≡◌, length, arith, rules}
use Rattle.std.specs.Prelude.{replicate}
use Rattle.ppq_merge.proofs.Planned.{zeros_behind}
use Rattle.ppq_merge.proofs.bench.merge_by_seats.Goals as goal

pub returns-clause-rest : goal.returns-clause-rest
returns-clause-rest g c =
    let filled : c.fill.new.self ≡ replicate (length c.args.places.now) 0 = c.fill.ensures.after (λ y e. e) in
    let same : length c.merge_runs.new.places ≡ length (g.Q.Listing.lists c.args.team.now.runs.now) = search rules in
    λ run far. zeros_behind c.merge_runs.new.places c.fill.new.self (length c.args.places.now) c.runs-used.result run filled (omega arith)
