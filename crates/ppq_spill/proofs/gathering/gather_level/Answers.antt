use Rattle.std.proofs.Common.{◌≡◌, ◌+◌, ◌-◌, ◌<◌, length, take, get_or, sym, ap, ◌∙◌, subst, arith}
use Rattle.std.proofs.lemmas.List.Sorted.{IsPermutation-swap, IsPermutation-trans, length_permutation}
use Rattle.ppq_spill.specs.Leveling.{count_level}
use Rattle.ppq_spill.proofs.Gathered.{one_left, found_more}
use Rattle.ppq_spill.proofs.gathering.gather_level.Goals as goal

pub find_level-place-requires-clause-some : goal.find_level-place-requires-clause-some
find_level-place-requires-clause-some g c =
    let i = c.loop-found.invariant in
    let left = one_left c.args.level c.args.arrays.now.items c.loop-found.arrays.items c.args.count c.loop-found.found i.moved c.requires c.loop-found-test.true i.within i.levels in
    subst (λ n. 0 < count_level c.args.level (take (n - c.loop-found.found) c.as_slice.result.now)) (sym i.long) (subst (λ xs. 0 < count_level c.args.level (take (length c.loop-found.arrays.items - c.loop-found.found) xs)) (sym c.as_slice.ensures.value) left)

pub loop-found-preserved : goal.loop-found-preserved
loop-found-preserved g c =
    let i = c.loop-found.invariant in
    let xs = c.loop-found.arrays.items in
    let ys = c.swap.new.self.items in
    let place = c.find_level-place.result in
    let found = c.loop-found.found in
    let last = c.len-all.result - (found + 1) in
    let at : last ≡ length xs - (found + 1) = ap (λ n. n - (found + 1)) i.long in
    let before : place < length xs - found = omega (arith, c.find_level-place.ensures.within, i.long) in
    let swapped = IsPermutation-swap xs ys place last (omega (arith, before)) (omega (arith, at, before)) c.swap.ensures.items in
    let long : length ys ≡ length xs = length_permutation xs ys swapped in
    record {
      moved = IsPermutation-trans c.args.arrays.now.items xs ys i.moved swapped;
      few = omega (arith, c.loop-found-test.true);
      long = i.long ∙ sym long;
      within = omega (arith, before, long);
      levels = found_more c.args.level xs ys found place last (omega (arith, before)) before at c.swap.ensures.items long i.levels (λ d. ap (λ zs. (get_or zs place d).level) (sym c.as_slice.ensures.value) ∙ c.find_level-place.ensures.level d);
      room = c.swap.ensures.capacity ∙ i.room;
    }
