-- The runs of the worked examples.
use Rattle.std.specs.Prelude.{◌≡◌, [], ◌∷◌, length}
use Rattle.ppq_fetch.specs.ppq_outside.Shown.{Shown}
use Rattle.ppq_fetch.specs.ppq_block.Block.{Block}
use Rattle.ppq_fetch.specs.ppq_array.Run.{Run, run_of}
use Rattle.ppq_fetch.specs.ppq_array.External.{External, external}
use Rattle.ppq_fetch.specs.ppq_array.declared.berth.DeviceBlock.{DeviceBlock}

-- the run has one buffer, with the two records that it can hold
pub record IsRunOfTwo {R : Type 0} (run : Run R) : Type 0 where
  pub buffer : Block R
  pub is : run ≡ run_of (buffer ∷ []) 0 []
  pub block : buffer.block ≡ 2
  pub two : length buffer.items ≡ 2

-- the run has one block, of two records in 32 bytes, which is not loaded
pub record IsRunOfBlock {S R : Type 0} (shown : S → Shown) (a : External S R) : Type 0 where
  pub block : DeviceBlock S R
  pub is : a ≡ external 0 (run_of [] 0 []) [] (block ∷ [])
  pub size : (shown block.slot).size ≡ 32
  pub two : block.count ≡ 2
