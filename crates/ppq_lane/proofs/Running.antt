-- Jobs that were run, of either kind.
use Rattle.std.proofs.Common.{◌≡◌, ℕ, List, length, Option, Some, IsSome, Result, refl, sym, ap, ◌∙◌, subst}
use Rattle.std.proofs.lemmas.Result.{on_ok_weaker}
use Rattle.ppq_block.specs.ppq_record.Given.{records_from}
use Rattle.ppq_block.specs.Block.{Block, padded}
use Rattle.ppq_block.specs.Told.{records_told}
use Rattle.ppq_outside.specs.Shown.{Shown, IsWritten}
use Rattle.ppq_outside.specs.Told.{Keeps}
use Rattle.ppq_outside.specs.declared.fault.Failed.{Failed}
use Rattle.ppq_outside.proofs.Slots.{holds_written}
use Rattle.ppq_lane.specs.Jobs.{IsDone, Does, IsWrittenFrom}
use Rattle.ppq_lane.specs.declared.job.Job.{Job}
use Rattle.ppq_lane.specs.declared.job.JobKind.{JobKind}

module _ {R : Type 0} (bytes_of : R → List ℕ) (record_of : List ℕ → R) (width : ℕ) where
  told_back : (told told' : Option (List ℕ)) (bytes : List ℕ) (items : List R) → records_from record_of width (length items) bytes ≡ items → Keeps told told' bytes → IsSome told → records_told record_of width (length items) told' ≡ items
  told_back told told' bytes items back keeps tells = ap (records_told record_of width (length items)) (holds_written told told' bytes tells keeps) ∙ back

  -- a write of the bytes of a buffer
  pub written_from :
      {T E : Type 0} (answer : Result T E) (slot slot' : Shown) (buf : Block R) (bytes : List ℕ) → bytes ≡ padded bytes_of width buf.block buf.items → records_from record_of width (length buf.items) bytes ≡ buf.items
      → IsWritten answer bytes slot slot' → IsWrittenFrom bytes_of record_of width answer slot slot' buf buf
  written_from answer slot slot' buf bytes is back wrote =
      record {
        wrote = subst (λ (b : List ℕ). IsWritten answer b slot slot') is wrote;
        back = on_ok_weaker answer (λ (keeps : Keeps slot.told slot'.told bytes). told_back slot.told slot'.told bytes buf.items back keeps) wrote.holds;
        same = refl;
      }

  module _ {S : Type 0} (shown : S → Shown) where
    pub IsDone-as :
        (before now : Job S R) (kind : JobKind) (answer : Result (Unit {0}) Failed) → before.kind ≡ kind → now.kind ≡ before.kind → now.done ≡ Some answer
        → Does bytes_of record_of width kind answer (shown before.slot) (shown now.slot) before.buf now.buf → IsDone bytes_of record_of width shown before now
    IsDone-as before now kind answer is same done does =
        record {
          answer = answer;
          done = done;
          kind = same;
          does = subst (λ k. Does bytes_of record_of width k answer (shown before.slot) (shown now.slot) before.buf now.buf) (sym is) does;
        }
