use Rattle.std.proofs.Common.{◌∙◌, ap, sym, subst}
use Rattle.ppq_pass.specs.ppq_outside.Shown.{AllTell}
use Rattle.ppq_queue.specs.Resting.{runs_bag}
use Rattle.ppq_session.specs.Fronts.{IsReady, least_below}
use Rattle.ppq_session.proofs.Belows.{ready_first}
use Rattle.ppq_session.proofs.front.Front.first.Goals as goal

pub returns : goal.returns
returns g c = record {
  answer = λ tell.
      let laws = c.record_laws.ensures in
      let s = c.self.inside in
      let view = c.self.view_is in
      let cmp = g.R.Ord.cmp in
      let q = s.parts in
      let sound = c.self.invariant.2 (ap (λ f. f.failed) view ∙ c.requires.sound) in
      let told = subst (λ f. AllTell f.slots) (sym view) tell in
      let ready = subst (λ f. IsReady cmp f) (sym view) c.requires.ready in
      let runs = runs_bag g.S.Slot.shown g.R.Record.record_of g.R.Record.WIDTH q.body in
      c.front.ensures
      ∙ ready_first laws.order laws.same s.limit q.extract.items runs (sound.ascends told) (sound.order told) (sound.under told) (λ z. ready z told)
      ∙ ap (λ f. least_below cmp f.limit f.bag) view;
}
