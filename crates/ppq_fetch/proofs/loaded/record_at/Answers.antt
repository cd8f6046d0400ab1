use Rattle.std.proofs.Common.{◌<◌, length, subst, sym, ap, ◌∙◌}
use Rattle.std.specs.List.{slice_get}
use Rattle.ppq_fetch.proofs.Listings.{run_only}
use Rattle.ppq_fetch.proofs.loaded.record_at.Goals as goal

pub get-requires : goal.get-requires
get-requires g c =
    let e = run_only g.Q.Loaded.list c.args.runs.now c.args.run c.index-runs-run.result c.requires.run ∙ sym (ap g.Q.Loaded.list c.index-runs-run.is) in
    subst (λ xs. c.args.i < length xs) e c.requires.place

pub returns : goal.returns
returns g c =
    let e = run_only g.Q.Loaded.list c.args.runs.now c.args.run c.index-runs-run.result c.requires.run ∙ sym (ap g.Q.Loaded.list c.index-runs-run.is) in
    ap (λ xs. slice_get xs c.args.i) e ∙ c.get.ensures
