-- An owner's lists after the first of a list was taken.
use Rattle.std.proofs.Common.{◌≡◌, ℕ, suc, ◌*◌, List, ◌∷◌, length, All, ap, subst, arith}
use Rattle.std.proofs.lemmas.List.Elements.{All-tail}
use Rattle.ppq_block.specs.Block.{Block}
use Rattle.ppq_outside.specs.Shown.{Shown}
use Rattle.ppq_array.specs.Owner.{IsOwner, HasSlot, HasBlock}
use Rattle.ppq_array.specs.declared.berth.DeviceBlock.{DeviceBlock}

module _ {S R : Type 0} (shown : S → Shown) (width block : ℕ) where
  pub IsOwner-slot :
      (slots : List (DeviceBlock S R)) (all_slots : ℕ) (buffers : List (Block R)) (all_buffers : ℕ) → IsOwner shown width block slots all_slots buffers all_buffers
      → (b : DeviceBlock S R) (rest : List (DeviceBlock S R)) → slots ≡ b ∷ rest → IsOwner shown width block rest all_slots buffers all_buffers × HasSlot shown (block * width) b
  IsOwner-slot slots all_slots buffers all_buffers is b rest e =
      let long : length slots ≡ suc (length rest) = ap length e in
      let sizes : All (HasSlot shown (block * width)) (b ∷ rest) = subst (All (HasSlot shown (block * width))) e is.sizes in (
        record {
          slots_fit = omega (arith, long, is.slots_fit);
          few_slots = is.few_slots;
          sizes = All-tail (HasSlot shown (block * width)) b rest sizes;
          buffers_fit = is.buffers_fit;
          few_buffers = is.few_buffers;
          blocks = is.blocks;
        },
        sizes 0 b (omega arith),
      )

  pub IsOwner-buffer :
      (slots : List (DeviceBlock S R)) (all_slots : ℕ) (buffers : List (Block R)) (all_buffers : ℕ) → IsOwner shown width block slots all_slots buffers all_buffers
      → (b : Block R) (rest : List (Block R)) → buffers ≡ b ∷ rest → IsOwner shown width block slots all_slots rest all_buffers × (b.block ≡ block)
  IsOwner-buffer slots all_slots buffers all_buffers is b rest e =
      let long : length buffers ≡ suc (length rest) = ap length e in
      let blocks : All (HasBlock block) (b ∷ rest) = subst (All (HasBlock block)) e is.blocks in (
        record {
          slots_fit = is.slots_fit;
          few_slots = is.few_slots;
          sizes = is.sizes;
          buffers_fit = omega (arith, long, is.buffers_fit);
          few_buffers = is.few_buffers;
          blocks = All-tail (HasBlock block) b rest blocks;
        },
        blocks 0 b (omega arith),
      )
