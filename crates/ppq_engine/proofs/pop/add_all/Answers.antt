use Rattle.std.proofs.Common.{◌≡◌, ◌++◌, ◌∷◌, [], ◌∙◌, ℕ, List, length, ap, sym, subst, take, arith, append_assoc}
use Rattle.ppq_script.specs.Words.{words}
use Rattle.std.proofs.Math.Seq.{take-length}
use Rattle.ppq_engine.specs.Gathers.{IsSummary}
use Rattle.ppq_engine.proofs.Running.{take-next}
use Rattle.ppq_engine.proofs.pop.add_all.Goals as goal

pub loop-i-preserved : goal.loop-i-preserved
loop-i-preserved g c = let w = words g.R.PartialEq g.R.PartialOrd g.R.Ord g.R.Record g.R.Fields in
    let items = c.args.items.now in
    let item = c.item_at.result in
    let P : List g.row.R.Denot → Type 0 = λ xs. IsSummary w xs c.add-drained.result in
    record {
      count = omega (arith, c.add-drained.ensures.count, c.loop-i.invariant.count);
      summary =
          λ had is.
          subst P (append_assoc had (take c.loop-i.i items) (item ∷ []) ∙ ap (λ (xs : List g.row.R.Denot). had ++ xs) (sym (take-next items c.loop-i.i item (omega arith) c.item_at.ensures)))
          (c.add-drained.ensures.summary (had ++ take c.loop-i.i items) (c.loop-i.invariant.summary had is));
    }

pub returns-clause-summary : goal.returns-clause-summary
returns-clause-summary g c = let w = words g.R.PartialEq g.R.PartialOrd g.R.Ord g.R.Record g.R.Fields in
    λ had is.
    let items = c.args.items.now in
    let P : ℕ → Type 0 = λ n. IsSummary w (had ++ take n items) c.loop-i.drained in
    let Q : List g.row.R.Denot → Type 0 = λ xs. IsSummary w (had ++ xs) c.loop-i.drained in
    let all : c.loop-i.i ≡ length items = omega arith in
    subst Q (take-length items) (subst P all (c.loop-i.invariant.summary had is))
