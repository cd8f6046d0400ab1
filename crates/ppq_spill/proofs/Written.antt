-- A job that wrote a buffer, as a block that is stored.
use Rattle.std.proofs.Common.{◌≡◌, ℕ, ◌≤◌, List, [], ◌∷◌, ◌++◌, length, Option, Some, None, Result, Ok, Err, IsSome, refl, sym, ap, ◌∙◌, subst, arith}
use Rattle.std.specs.Prelude.{unwrap_or}
use Rattle.std.proofs.lemmas.Result.{IfOk-at_ok, IfErr-at_err}
use Rattle.ppq_fetch.specs.ppq_block.Block.{Block}
use Rattle.ppq_fetch.specs.ppq_block.Told.{records_told}
use Rattle.ppq_fetch.specs.ppq_outside.Shown.{Shown, Tells}
use Rattle.ppq_fetch.specs.ppq_array.Supply.{IsSlot}
use Rattle.ppq_fetch.specs.ppq_outside.Told.{StillTells, Rose, next_count}
use Rattle.ppq_fetch.specs.ppq_lane.Jobs.{IsWrittenFrom}
use Rattle.ppq_fetch.specs.ppq_array.declared.berth.DeviceBlock.{DeviceBlock}
use Rattle.ppq_fetch.specs.ppq_array.External.{External, external}
use Rattle.ppq_fetch.specs.ppq_array.Kept.{MoreWrites}
use Rattle.ppq_spill.specs.Writing.{Grew, WroteWell, BlockStored, BlockFailed}
use Rattle.ppq_spill.specs.Went.{AtLeast}
use Rattle.ppq_spill.proofs.Transfers.{one_slot, one_least}

pub some_is : {X : Type 0} (d x y : X) → Some x ≡ Some y → x ≡ y
some_is d x y e = ap (λ o. unwrap_or o d) e

still : (told told' : Option (List ℕ)) → StillTells told told' → IsSome told → IsSome told'
still None told' h t = absurd (cc)
still (Some had) told' h t = h

told_before : (told told' : Option (List ℕ)) → StillTells told told' → IsSome told' → IsSome told
told_before None told' h t = absurd (cc)
told_before (Some had) told' h t = refl

-- a slot of a supply is one still after a write was called
pub grown_slot : (bytes : ℕ) (before now : Shown) → Grew before now → IsSlot bytes before → IsSlot bytes now
grown_slot bytes before now grew is = record { size = grew.size ∙ is.size; spent = omega (arith, grew.reads, grew.writes, is.spent) }

-- once its write answered Ok, it can be read once more
pub unread_after : (before now : Shown) → now.writes ≡ next_count before.writes → now.reads ≡ before.reads → before.reads ≤ before.writes → next_count now.reads ≤ now.writes
unread_after before now wrote still spent = omega (arith, wrote, still, spent)

module _ {S R : Type 0} (bytes_of : R → List ℕ) (record_of : List ℕ → R) (width : ℕ) (shown : S → Shown) where
  pub grew_written : {T E : Type 0} (answer : Result T E) (slot slot' : Shown) (buf buf' : Block R) → IsWrittenFrom bytes_of record_of width answer slot slot' buf buf' → Grew slot slot'
  grew_written answer slot slot' buf buf' w =
      record {
        number = w.wrote.number;
        size = w.wrote.size;
        faults = w.wrote.cause.later;
        writes = w.wrote.writes.later;
        reads = w.wrote.reads;
        tells = λ t. still slot.told slot'.told w.wrote.tells t;
        told = λ t. told_before slot.told slot'.told w.wrote.tells t;
      }

  pub block_stored :
      {T E : Type 0} (answer : Result T E) (u : T) → answer ≡ Ok u → (slot slot' : S) (buf buf' : Block R) → IsWrittenFrom bytes_of record_of width answer (shown slot) (shown slot') buf buf'
      → (old new : External S R) (last : DeviceBlock S R) → new ≡ external old.level old.loaded [] (old.stored ++ last ∷ []) → last.slot ≡ slot' → last.count ≡ length buf.items
      → BlockStored record_of width shown slot buf.items old new
  block_stored answer u e slot slot' buf buf' w old new last run at count =
      let grew : Grew (shown slot) (shown last.slot) = subst (λ s. Grew (shown slot) (shown s)) (sym at) (grew_written answer (shown slot) (shown slot') buf buf' w) in
      let back : Tells (shown slot) → records_told record_of width (length buf.items) (shown slot').told ≡ buf.items = IfOk-at_ok (λ _. Tells (shown slot) → records_told record_of width (length buf.items) (shown slot').told ≡ buf.items) e w.back in
      let once : (shown slot').writes ≡ next_count (shown slot).writes = IfOk-at_ok (λ _. (shown slot').writes ≡ next_count (shown slot).writes) e w.wrote.writes.ok in
      record {
        last = last;
        run = run;
        count = count;
        grew = grew;
        well = subst (λ s. WroteWell (shown slot) (shown s)) (sym at) (record {
          number = w.wrote.number;
          writes = omega (arith, once);
          quiet = IfOk-at_ok (λ _. (shown slot').faults ≡ (shown slot).faults) e w.wrote.cause.ok;
        });
        written = subst (λ s. 1 ≤ (shown s).writes) (sym at) (omega (arith, once));
        transfers = subst (λ s. MoreWrites 1 (shown slot ∷ []) (shown s ∷ [])) (sym at) (one_slot 1 (shown slot) (shown slot') (omega (arith, once)) (omega (arith, w.wrote.reads)));
        each = subst (λ s. AtLeast 1 (shown slot ∷ []) (shown s ∷ [])) (sym at) (one_least (shown slot) (shown slot') once);
        items_are = λ t. ap (λ s. records_told record_of width last.count (shown s).told) at ∙ ap (λ n. records_told record_of width n (shown slot').told) count ∙ back t;
      }

  pub block_failed :
      {T E : Type 0} (answer : Result T E) (x : E) → answer ≡ Err x → (slot : S) (berth : DeviceBlock S R) (buf buf' : Block R) → IsWrittenFrom bytes_of record_of width answer (shown slot) (shown berth.slot) buf buf'
      → (array : External S R) → BlockFailed shown slot array array berth
  block_failed answer x e slot berth buf buf' w array =
      let same : (shown berth.slot).writes ≡ (shown slot).writes = IfErr-at_err (λ _. (shown berth.slot).writes ≡ (shown slot).writes) e w.wrote.writes.err in
      let rose : Rose (shown slot).faults (shown berth.slot).faults = IfErr-at_err (λ _. Rose (shown slot).faults (shown berth.slot).faults) e w.wrote.cause.failed in
      record {
        run = refl;
        grew = grew_written answer (shown slot) (shown berth.slot) buf buf' w;
        transfers = one_slot 0 (shown slot) (shown berth.slot) (omega (arith, same)) (omega (arith, w.wrote.reads));
        rose = rose;
      }
