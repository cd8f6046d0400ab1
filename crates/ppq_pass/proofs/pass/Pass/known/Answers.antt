use Rattle.ppq_pass.proofs.PassPushed.{known_of}
use Rattle.ppq_pass.proofs.pass.Pass.known.Goals as goal

pub returns : goal.returns
returns g c =
    let s = c.self.inside in
    known_of g.S.Slot.shown g.R.Ord.cmp g.R.Record.record_of g.R.Record.WIDTH s.sizes s.heap s.body s.begun s.accepted s.refused s.stores s.parts s.failed c.self.invariant c.args.self.now c.self.view_is
