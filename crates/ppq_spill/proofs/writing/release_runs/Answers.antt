use Rattle.std.proofs.Common.{◌≡◌, ◌+◌, ◌-◌, ◌++◌, ◌∷◌, [], All, length, sym, ap, ◌∙◌, subst, arith, length-append}
use Rattle.std.proofs.lemmas.List.{drop_all}
use Rattle.std.proofs.lemmas.List.Elements.{All-head}
use Rattle.std.proofs.lemmas.List.Sums.{sum_by-cons, sum_by-append}
use Rattle.ppq_fetch.specs.ppq_array.Run.{Run, items_of, buffers_of}
use Rattle.ppq_fetch.specs.ppq_array.Owner.{HasBlock}
use Rattle.ppq_fetch.specs.ppq_array.Holdings.{internal_buffers, RunHasBlock}
use Rattle.ppq_spill.specs.Moves.{with_buffers}
use Rattle.ppq_fetch.proofs.ppq_array.Items.{no_live}
use Rattle.ppq_fetch.proofs.ppq_array.Noted.{all_left, all_right}
use Rattle.ppq_spill.proofs.writing.release_runs.Goals as goal

pub release_run-requires-clause-blocks : goal.release_run-requires-clause-blocks
release_run-requires-clause-blocks g c =
    let i = c.loop-run.invariant in
    let old = g.P.Supply.stock c.args.supply.now in
    let run = c.in-Some.run' in
    let e : c.loop-run.internal.items ≡ c.pop.new.self.items ++ run ∷ [] = c.in-Some.ensures.items in
    let all = all_right (RunHasBlock old.block) c.pop.new.self.items (run ∷ []) (subst (All (RunHasBlock old.block)) e i.blocks) in
    let here : All (HasBlock old.block) (buffers_of run) = All-head (RunHasBlock old.block) run [] all in
    let now : All (HasBlock old.block) (buffers_of c.consume.new.self) = subst (All (HasBlock old.block)) (sym c.consume.ensures.buffers) here in
    let block : old.block ≡ (g.P.Supply.stock c.loop-run.supply).block = sym (ap (λ s. s.block) i.stock) in
    subst (λ b. All (HasBlock b) c.consume.new.self.spent) block (all_left (HasBlock old.block) c.consume.new.self.spent c.consume.new.self.live now)

pub loop-run-preserved : goal.loop-run-preserved
loop-run-preserved g c =
    let i = c.loop-run.invariant in
    let old = g.P.Supply.stock c.args.supply.now in
    let now = g.P.Supply.stock c.loop-run.supply in
    let next = g.P.Supply.stock c.release_run.new.supply in
    let run = c.in-Some.run' in
    let used = c.consume.new.self in
    let e : c.loop-run.internal.items ≡ c.pop.new.self.items ++ run ∷ [] = c.in-Some.ensures.items in
    let gone : items_of used ≡ [] = c.consume.ensures.items ∙ drop_all c.len.result (items_of run) (omega (arith, c.len.ensures.len)) in
    let live : used.live ≡ [] = no_live used.live used.taken c.consume.ensures.run.taken gone in
    let spent : length used.spent ≡ length (buffers_of run) = omega (arith, length-append used.spent used.live, ap length live, ap length c.consume.ensures.buffers) in
    let sums : internal_buffers c.loop-run.internal.items ≡ internal_buffers c.pop.new.self.items + length (buffers_of run) =
    omega (arith, ap internal_buffers e, sum_by-append (λ (run : Run g.row.R.Denot). length (buffers_of run)) c.pop.new.self.items (run ∷ []), sum_by-cons (λ (run : Run g.row.R.Denot). length (buffers_of run)) run []) in
    let less : next.buffer_room ≡ now.buffer_room - length used.spent = ap (λ s. s.buffer_room) c.release_run.ensures.stock in
    record {
      stock = c.release_run.ensures.stock ∙ ap (λ s. with_buffers s next.sure_buffers (now.buffer_room - length used.spent)) i.stock ∙ ap (λ k. with_buffers old next.sure_buffers k) (sym less);
      room = omega (arith, i.room, c.requires.room, less, spent, sums);
      blocks = all_left (RunHasBlock old.block) c.pop.new.self.items (run ∷ []) (subst (All (RunHasBlock old.block)) e i.blocks);
      capacity = c.in-Some.ensures.capacity ∙ i.capacity;
      home = c.release_run.ensures.home ∙ i.home;
    }
