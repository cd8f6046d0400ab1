use Rattle.std.proofs.Common.{◌≡◌, ℕ, ◌-◌, ◌≤◌, List, length, take, drop, ap, ◌∙◌, arith}
use Rattle.std.proofs.lemmas.List.{take_rest}
use Rattle.std.proofs.lemmas.List.Sums.{sum_by-take-drop}
use Rattle.ppq_fetch.specs.ppq_array.Run.{buffers_of}
use Rattle.ppq_fetch.specs.ppq_array.External.{External}
use Rattle.ppq_fetch.specs.ppq_array.Holdings.{external_buffers}
use Rattle.ppq_spill.proofs.level.draw_for_last.Goals as goal

-- the last arrays have no more buffers than all
last_few : {S R : Type 0} (k : ℕ) (xs ys : List (External S R)) → xs ≡ ys → (external_buffers (take (length xs - k) (drop k xs)) ≡ external_buffers (drop k ys)) × (external_buffers (take (length xs - k) (drop k xs)) ≤ external_buffers ys)
last_few {S} {R} k xs ys e =
    let same : external_buffers (take (length xs - k) (drop k xs)) ≡ external_buffers (drop k ys) = ap external_buffers (take_rest xs k) ∙ ap (λ zs. external_buffers (drop k zs)) e in
    (same, omega (arith, same, sum_by-take-drop (λ (a : External S R). length (buffers_of a.loaded)) ys k))

pub count_buffers-need-requires : goal.count_buffers-need-requires
count_buffers-need-requires g c =
    let few = last_few (c.len-first.result - 8) c.deref.result.now c.args.arrays.now.items c.deref.ensures.value in
    omega (arith, few.1, c.requires.few)

pub draw_slots-requires : goal.draw_slots-requires
draw_slots-requires g c =
    let few = last_few (c.len-first.result - 8) c.deref.result.now c.args.arrays.now.items c.deref.ensures.value in
    omega (arith, few.1, c.requires.few, c.count_buffers-need.ensures)
