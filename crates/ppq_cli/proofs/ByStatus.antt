-- What a status says of its end.
use Rattle.std.proofs.Common.{◌≡◌, inl, inr, refl, subst, arith}
use Rattle.std.specs.Prelude.{IsTrue}
use Rattle.ppq_jobs.specs.ppq_engine.declared.end.End.{End}
use Rattle.ppq_jobs.specs.ppq_engine.declared.end.End.TheVariants.{Done, ReadFault, WriteFault, DeviceFault, NoFreeBlock, Memory, FileChanged}
use Rattle.ppq_cli.specs.Outside.{MayWrite}
use Rattle.ppq_cli.specs.Status.{status_of, writes_nothing}

-- no other end has the status of one that is done
pub is_done : (end : End) → status_of end ≡ 0 → end ≡ Done
is_done Done is = refl
is_done end is = absurd (omega (arith, is))

-- or that of one for want of a free block
pub is_full : (end : End) → status_of end ≡ 6 → end ≡ NoFreeBlock
is_full NoFreeBlock is = refl
is_full end is = absurd (omega (arith, is))

-- an end after which something may have been written has none of the statuses of one with which nothing was
pub has_not_written : (end : End) → IsTrue (writes_nothing (status_of end)) → MayWrite end → ⊥
has_not_written end none (inr memory) = let P : End → Type 0 = λ e. IsTrue (writes_nothing (status_of e)) in let no : P Memory = subst P memory none in cc
has_not_written Done none (inl began) = cc
has_not_written ReadFault none (inl began) = cc
has_not_written WriteFault none (inl began) = cc
has_not_written (DeviceFault number) none (inl began) = cc
has_not_written NoFreeBlock none (inl began) = cc
has_not_written (FileChanged line said got) none (inl began) = cc
has_not_written end none (inl began) = began
