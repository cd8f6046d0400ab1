use Rattle.std.proofs.Common.{◌≡◌, suc, ◌+◌, ◌-◌, ◌*◌, ◌≤◌, ◌∷◌, ◌++◌, [], All, List, length, take, drop, sym, ap, ap₂, ◌∙◌, subst, arith, length-append}
use Rattle.std.proofs.Math.Seq.{take-add}
use Rattle.std.proofs.lemmas.List.Elements.{All-head, All-tail, All-push}
use Rattle.ppq_fetch.specs.ppq_block.Block.{holding}
use Rattle.std.proofs.lemmas.List.{length-take}
use Rattle.ppq_fetch.specs.ppq_array.Owner.{HasBlock}
use Rattle.ppq_fetch.specs.Fetching.{IsFitting}
use Rattle.ppq_spill.proofs.Filling.{sum_times, at_least_one}
use Rattle.ppq_spill.proofs.buffers.fill.Goals as goal

pub filling-preserved : goal.filling-preserved
filling-preserved g c =
    let i = c.filling.invariant in
    let at = c.filling.at in
    let end = c.min-end.result in
    let block = c.args.block in
    let records = c.args.records.now in
    let bufs = c.pop_front.new.self in
    let k = length bufs in
    let lives = length c.filling.run.live in
    let buf = c.in-Some.buf in
    let e = c.in-Some.ensures.first in
    let part : List g.row.R.Denot = take (end - at) (drop at records) in
    let long : length c.filling.bufs ≡ suc k = ap length e in
    let empties = subst (All (λ b. b ≡ holding block [])) e i.empty in
    let of_block : buf.block ≡ block = ap (λ b. b.block) (All-head (λ b. b ≡ holding block []) buf bufs empties) in
    let put = c.put_records.ensures in
    let new_block : c.put_records.new.buf.block ≡ block = ap (λ b. b.block) put ∙ of_block in
    let live : c.add.new.self.live ≡ c.filling.run.live ++ c.put_records.new.buf ∷ [] = ap (λ r. r.live) c.add.ensures.run in
    let count : length c.add.new.self.live ≡ lives + 1 = ap length live ∙ length-append c.filling.run.live (c.put_records.new.buf ∷ []) in
    let fits : length c.put_records.new.buf.items ≤ c.put_records.new.buf.block = omega (arith, ap (λ b. length b.items) put, length-take (end - at) (drop at records), c.min-end.ensures, new_block) in
    let reach : at + (end - at) ≡ end = omega (arith, c.min-end.ensures, i.within) in
    let here : at ≡ lives * block = i.full (omega (arith, long)) in
    let all : length c.args.bufs ≡ lives + suc k = omega (arith, i.buffers, long) in
    let products : length c.args.bufs * block ≡ lives * block + suc k * block = ap (λ n. n * block) all ∙ sum_times lives (suc k) block in
    let one : suc k * block ≡ 1 * block + k * block = (let s : suc k ≡ 1 + k = omega arith in ap (λ n. n * block) s ∙ sum_times 1 k block) in
    let next : (lives + 1) * block ≡ lives * block + block = sum_times lives 1 block ∙ (let s : lives * block + 1 * block ≡ lives * block + block = omega arith in s) in
    record {
      items = c.add.ensures.items ∙ ap₂ (λ (xs ys : List g.row.R.Denot). xs ++ ys) i.items (ap (λ b. b.items) put) ∙ sym (take-add at (end - at) records) ∙ ap (λ n. take n records) reach;
      unspent = ap (λ r. r.spent) c.add.ensures.run ∙ i.unspent;
      blocks = subst (All (HasBlock block)) (sym live) (All-push (HasBlock block) c.filling.run.live c.put_records.new.buf i.blocks new_block);
      fitting = subst (All (IsFitting {R = g.row.R.Denot})) (sym live) (All-push (IsFitting {R = g.row.R.Denot}) c.filling.run.live c.put_records.new.buf i.fitting fits);
      buffers = omega (arith, i.buffers, long, count);
      empty = All-tail (λ b. b ≡ holding block []) buf bufs empties;
      within = omega (arith, c.min-end.ensures);
      full = λ h. (let s : end ≡ lives * block + block = omega (arith, c.min-end.ensures, here, c.requires.may.least, products, one, at_least_one k block h) in s) ∙ sym next ∙ ap (λ n. n * block) (sym count);
      done = λ none. (let z : k * block ≡ 0 * block = ap (λ bs. length bs * block) none in let o : 0 * block ≡ 0 = omega arith in omega (arith, c.min-end.ensures, i.within, here, c.requires.may.room, products, one, z, o));
    }
