-- A file of records whose length was asked for: what follows from the answer, whatever the command does with the file.
use Rattle.std.proofs.Common.{◌≡◌, ◌∙◌, inl, inr, ℕ, ◌%◌, ◌*◌, ◌≤◌, List, length, Option, Some, None, refl, sym, ap, subst, arith, eq-eqb}
use Rattle.std.specs.Prelude.{◌⊎◌, ◌==◌, Bool, true, false, if◌then◌else◌, nat_le, IfSome}
use Rattle.std.proofs.lemmas.Bool.{and_from, le-leb}
use Rattle.ppq_files.specs.declared.length.LengthFault.{LengthFault}
use Rattle.ppq_files.specs.declared.length.LengthFault.TheVariants as lengths
use Rattle.ppq_files.specs.Lengths.{IsRecordLength, is_record_length, LengthRefusalIsRight, LengthFaultAfter}
use Rattle.ppq_files.specs.Reading.{HasLength}
use Rattle.ppq_files.proofs.Truth.{AreTrue}
use Rattle.ppq_words.specs.ppq_outside.Told.{Reply, OfLength, Rose, length_of, bytes_or_none}
use Rattle.ppq_words.specs.ppq_outside.declared.library.Library.{Ghosts as LibraryShows}
use Rattle.ppq_jobs.specs.ppq_engine.Ends.{NoFault}
use Rattle.ppq_jobs.specs.ppq_engine.declared.end.End.{End}
use Rattle.ppq_jobs.specs.ppq_engine.declared.end.End.TheVariants.{Usage, Memory, NoScript}
use Rattle.ppq_cli.specs.declared.plan.Plan.{Plan}
use Rattle.ppq_cli.specs.Budget.{refusal_by}
use Rattle.ppq_cli.specs.Device.{IsSurelyRun, HasAllBlocks}
use Rattle.ppq_cli.specs.Load.{length_end, refusal_of_record_file}
use Rattle.ppq_cli.specs.Outside.{MayWrite, Faults}
use Rattle.ppq_cli.specs.Replies.{Files}
use Rattle.ppq_cli.specs.RunWords.{IsAnswer, IsTriedOrRefusal}
use Rattle.ppq_cli.proofs.Ends.{ways}
use Rattle.ppq_cli.proofs.Making.{surely_begun}
use Rattle.ppq_cli.proofs.Outside.{same_faults}

-- a length of whole records passes the test for one
pub record_length : (width size : ℕ) → IsRecordLength width size → is_record_length width size ≡ true
record_length width size is = and_from (size % width == 0) (nat_le size (4294967296 * width)) (eq-eqb (size % width) 0 is.0) (le-leb size (4294967296 * width) is.1)

-- what a library replied is true of what it told before, too
pub honest_before : {L : Type 0} (library : LibraryShows L) (old new : L) → library.told new ≡ library.told old → AreTrue (library.told new) (library.replied new) → AreTrue (library.told old) (library.replied new)
honest_before library old new same honest = let P : Option Files → Type 0 = λ t. AreTrue t (library.replied new) in subst P same honest

-- so a length that it replied is that of its file
file_length : (file : Option (List ℕ)) (size : ℕ) → Some size ≡ length_of file → length (bytes_or_none file) ≡ size
file_length None size is = cc
file_length (Some bytes) size is = cc

pub found_length : (told : Option Files) (replied : Reply → Type 0) (name : List ℕ) (size : ℕ) → AreTrue told replied → replied (OfLength name (Some size)) → HasLength told name size
found_length told replied name size honest had files is =
    let all : AreTrue (Some files) replied = (let P : Option Files → Type 0 = λ t. AreTrue t replied in subst P is honest) in
    file_length (files name) size (all (OfLength name (Some size)) had)

-- where something was written, it was run
pub may_write : (end : End) (X : Type 0) → IsSurelyRun end ⊎ X → MayWrite end ⊎ X
may_write end X (inl run) = inl (inl (surely_begun end run))
may_write end X (inr same) = inr same

-- the end of a file whose length was found is not that of arguments without a reading
pub tried_read : (plan : Plan) (end : End) → IsTriedOrRefusal (refusal_by plan) end → end ≡ Usage → ⊥
tried_read plan end answer is =
    let P : End → Type 0 = λ e. IsTriedOrRefusal (refusal_by plan) e in
    elim (ways plan Usage (subst P is answer)) as (λ _. ⊥) [ inl (small, other) ↦ cc | inr (inl (large, inl began)) ↦ began | inr (inl (large, inr other)) ↦ cc | inr (inr other) ↦ cc ]

-- what tries or refuses answers
pub answer_of : (refusal : Option End) (end : End) → IsTriedOrRefusal refusal end → IsAnswer refusal end
answer_of refusal end (inl is) = inl is
answer_of refusal end (inr memory) = inr (inl memory)

module _ (width : ℕ) (plan : Plan) (no_records : End) where
  -- A length that was not found.

  absent_file : (file : Option (List ℕ)) → None ≡ length_of file → IsAnswer (refusal_of_record_file width plan no_records file) NoScript
  absent_file None is = inl refl
  absent_file (Some bytes) is = cc

  bad_file : (file : Option (List ℕ)) (size : ℕ) → Some size ≡ length_of file → is_record_length width size ≡ false → IsAnswer (refusal_of_record_file width plan no_records file) no_records
  bad_file None size is bad = cc
  bad_file (Some bytes) size is bad =
      let same : size ≡ length bytes = cc in
      let P : Bool → Type 0 = λ b. IsAnswer (if b then refusal_by plan else Some no_records) no_records in
      subst P (sym (ap (is_record_length width) (sym same) ∙ bad)) (inl refl)

  -- where the library tells, its answer is exact
  pub unfound_answer :
      (told : Option Files) (replied : Reply → Type 0) (name : List ℕ) (fault : LengthFault) → AreTrue told replied → LengthRefusalIsRight width replied name fault
      → IfSome told (λ files. IsAnswer (refusal_of_record_file width plan no_records (files name)) (length_end no_records fault))
  unfound_answer None replied name fault honest refused = tt
  unfound_answer (Some files) replied name lengths.Failed honest refused = inr (inr refl)
  unfound_answer (Some files) replied name lengths.Memory honest refused = inr (inl refl)
  unfound_answer (Some files) replied name lengths.Absent honest refused = absent_file (files name) (honest (OfLength name None) refused)
  unfound_answer (Some files) replied name lengths.NoRecords honest refused = bad_file (files name) refused.0 (honest (OfLength name (Some refused.0)) refused.1.0) refused.1.1

  -- A length that was found: only the budget may refuse the file.

  file_refusal : (file : Option (List ℕ)) (size : ℕ) → Some size ≡ length_of file → IsRecordLength width size → refusal_of_record_file width plan no_records file ≡ refusal_by plan
  file_refusal None size is good = cc
  file_refusal (Some bytes) size is good =
      let same : size ≡ length bytes = cc in
      ap (λ (b : Bool). if b then refusal_by plan else Some no_records) (ap (is_record_length width) (sym same) ∙ record_length width size good)

  pub found_refusal :
      (told : Option Files) (replied : Reply → Type 0) (name : List ℕ) (size : ℕ) (P : Option End → Type 0) → AreTrue told replied → replied (OfLength name (Some size)) → IsRecordLength width size → P (refusal_by plan)
      → IfSome told (λ files. P (refusal_of_record_file width plan no_records (files name)))
  found_refusal None replied name size P honest had good holds = tt
  found_refusal (Some files) replied name size P honest had good holds = subst P (sym (file_refusal (files name) size (honest (OfLength name (Some size)) had) good)) holds

-- the library's count rose where it failed, and else stayed; the others stayed
still_by : (library library_now rack sink : ℕ) (end : End) → library_now ≡ library → NoFault end → Faults Rose library library_now rack rack sink sink end
still_by library library_now rack sink end same quiet = let P : ℕ → Type 0 = λ n. Faults Rose library n rack rack sink sink end in subst P (sym same) (same_faults Rose library rack sink end quiet)

module _ (no_records : End) where
  pub unfound_faults :
      (library library_now rack sink : ℕ) (fault : LengthFault) → NoFault no_records → library ≤ library_now → LengthFaultAfter library library_now fault
      → Faults Rose library library_now rack rack sink sink (length_end no_records fault)
  unfound_faults library library_now rack sink lengths.Failed quiet later after = record {
    read = λ is. after;
    write = λ is. cc;
    device = λ is. cc;
    library_later = later;
    library_stays = λ read written. absurd (read refl);
    rack_later = omega arith;
    rack_stays = λ unmade. refl;
    sink_later = omega arith;
    sink_stays = λ written. refl;
  }
  unfound_faults library library_now rack sink lengths.Memory quiet later after = still_by library library_now rack sink Memory after tt
  unfound_faults library library_now rack sink lengths.Absent quiet later after = still_by library library_now rack sink NoScript after tt
  unfound_faults library library_now rack sink lengths.NoRecords quiet later after = still_by library library_now rack sink no_records after quiet

  -- no end of it comes of a run
  pub unfound_unrun : (fault : LengthFault) → (HasAllBlocks no_records → ⊥) → HasAllBlocks (length_end no_records fault) → ⊥
  unfound_unrun lengths.Failed unrun run = run
  unfound_unrun lengths.Memory unrun run = run
  unfound_unrun lengths.Absent unrun run = run
  unfound_unrun lengths.NoRecords unrun run = unrun run

  -- nor is it that of arguments without a reading
  pub unfound_read : (fault : LengthFault) → (no_records ≡ Usage → ⊥) → length_end no_records fault ≡ Usage → ⊥
  unfound_read lengths.Failed other is = cc
  unfound_read lengths.Memory other is = cc
  unfound_read lengths.Absent other is = cc
  unfound_read lengths.NoRecords other is = other is
