-- Arrays without records have no block and no buffer.
use Rattle.std.proofs.Common.{◌≡◌, ℕ, List, [], ◌∷◌, ◌++◌, length, All, refl, sym, ap, ◌∙◌, arith}
use Rattle.std.proofs.lemmas.List.Sums.{sum_by-cons}
use Rattle.std.proofs.lemmas.List.Elements.{All-head}
use Rattle.ppq_fetch.specs.ppq_outside.Shown.{Shown}
use Rattle.ppq_fetch.specs.ppq_array.declared.berth.DeviceBlock.{DeviceBlock}
use Rattle.ppq_fetch.specs.ppq_array.Run.{IsRun, items_of}
use Rattle.ppq_fetch.specs.ppq_array.External.{External, size_of, counts, IsLabelled}
use Rattle.ppq_fetch.proofs.ppq_array.Items.{no_live}
use Rattle.ppq_spill.specs.Making.{HasNothing}

nothing : {X : Type 0} (xs : List X) → length xs ≡ 0 → xs ≡ []
nothing [] e = refl
nothing (x ∷ xs) e = absurd (omega (arith, e))

module _ {S R : Type 0} (record_of : List ℕ → R) (width : ℕ) (shown : S → Shown) where
  no_block : (blocks : List (DeviceBlock S R)) → All (IsLabelled record_of width shown) blocks → counts blocks ≡ 0 → blocks ≡ []
  no_block [] a e = refl
  no_block (b ∷ bs) a e = absurd (omega (arith, e, sum_by-cons (λ (b : DeviceBlock S R). b.count) b bs, (All-head (IsLabelled record_of width shown) b bs a).some))

  pub emptied : (a : External S R) → size_of a ≡ 0 → a.lifted ≡ [] → a.loaded.spent ≡ [] → IsRun a.loaded → All (IsLabelled record_of width shown) a.stored → HasNothing a
  emptied a size lifted spent run labelled =
      let count : counts a.stored ≡ 0 = ap (λ bs. counts (bs ++ a.stored)) (sym lifted) ∙ (let e : counts (a.lifted ++ a.stored) ≡ 0 = omega (arith, size) in e) in
      let items : items_of a.loaded ≡ [] = nothing (items_of a.loaded) (omega (arith, size)) in
      record {
        stored = no_block a.stored labelled count;
        loaded = ap (λ bs. bs ++ a.loaded.live) spent ∙ no_live a.loaded.live a.loaded.taken run.taken items;
      }
