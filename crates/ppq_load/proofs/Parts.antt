-- What a queue has of the records of a load that ended or did not begin: a part of them, each once.
use Rattle.std.proofs.Common.{◌≡◌, ℕ, ◌+◌, ◌-◌, ◌*◌, ◌/◌, ◌≤◌, List, [], ◌++◌, length, drop, Option, Some, None, refl, sym, ap, ◌∙◌, subst, arith, append-nil}
use Rattle.std.specs.Prelude.{count_by, Result, Ok, Err, IfErr}
use Rattle.ppq_session.specs.ppq_record.Bag.{IsSameBag}
use Rattle.ppq_session.specs.ppq_record.Given.{records_from}
use Rattle.ppq_load.specs.Given.{records_of}
use Rattle.ppq_session.specs.ppq_outside.Shown.{Shown, AllTell}
use Rattle.ppq_session.specs.ppq_outside.Told.{bytes_or_none}
use Rattle.ppq_session.specs.ppq_queue.Holding.{Holding}
use Rattle.ppq_session.specs.ppq_array.declared.store_fault.StoreFault.{StoreFault as QueueFault}
use Rattle.ppq_session.specs.ppq_array.declared.store_fault.StoreFault.TheVariants.{NoFreeBlock, Device}
use Rattle.ppq_session.specs.Dealing.{AddsPart}
use Rattle.ppq_session.proofs.Adding.{part-more}
use Rattle.ppq_load.specs.declared.fault.LoadFault.{LoadFault}
use Rattle.ppq_load.specs.declared.fault.LoadFault.TheVariants.{Queue, Read, Memory, Ended}
use Rattle.ppq_load.specs.Loading.{SessionHolding, IsLoaded, IsLeftBy, IsHandedBack, AreRecordsAt}
use Rattle.ppq_load.proofs.FileRecords.{from-start, records-add}

module _ {R : Type 0} (records old new : List R) where
  -- all of them are a part
  part-all : IsSameBag new (records ++ old) → AddsPart records old new
  part-all bag = record { part = records; left = []; all = λ p. ap (λ (xs : List R). count_by p xs) (sym (append-nil records)); bag = bag }

  -- and so is none
  part-none : IsSameBag new old → AddsPart records old new
  part-none bag = record { part = []; left = records; all = λ p. refl; bag = bag }

module _ {R : Type 0} where
  -- a session ended to which these records were given, and no call of a slot failed
  pub ended-part :
      {S B : Type 0} (shown : S → Shown) (session : SessionHolding S R) (queue new : Holding R) (records : List R) (ended : Result B QueueFault) → IsLoaded queue records new ended → IfErr ended (IsLeftBy shown session new)
      → new.failed ≡ None → AllTell queue.slots → AddsPart records queue.bag new.bag
  ended-part shown session queue new records (Ok value) loaded left sound tells = part-all records queue.bag new.bag (loaded.bag tells)
  ended-part shown session queue new records (Err NoFreeBlock) loaded left sound tells = loaded.part refl tells
  ended-part shown session queue new records (Err (Device number)) loaded left sound tells = let failed = left.stopped.kept in absurd (cc)

module _ {R : Type 0} where
  -- a session did not begin, and no call of a slot failed
  pub unbegun-part : (records : List R) (queue back : Holding R) (fault : LoadFault) → IsHandedBack queue back fault → back.failed ≡ None → AllTell queue.slots → AddsPart records queue.bag back.bag
  unbegun-part records queue back (Queue NoFreeBlock) found sound tells = part-none records queue.bag back.bag (found.bag tells)
  unbegun-part records queue back (Queue (Device number)) met sound tells = let failed = met.kept in absurd (cc)
  unbegun-part records queue back Read never sound tells = absurd never
  unbegun-part records queue back Memory intact sound tells = part-none records queue.bag back.bag (intact.bag tells)
  unbegun-part records queue back (Ended got) never sound tells = absurd never

module _ {R : Type 0} (record_of : List ℕ → R) (width : ℕ) where
  -- the first records of a file were given
  pub file-part :
      (told : Option (List ℕ → Option (List ℕ))) (name : List ℕ) (files : List ℕ → Option (List ℕ)) (said count : ℕ) (records old new : List R) → told ≡ Some files → length (bytes_or_none (files name)) ≡ said
      → count ≤ said / width → AreRecordsAt record_of width told name 0 count records → AddsPart records old new → AddsPart (records_of record_of width (bytes_or_none (files name))) old new
  file-part told name files said count records old new is long few are had =
      let bytes = bytes_or_none (files name) in
      let more = said / width - count in
      let rest = records_from record_of width more (drop (count * width) bytes) in
      let sum : count + more ≡ said / width = omega (arith, few) in
      let all : records ++ rest ≡ records_of record_of width bytes = ap (λ (xs : List R). xs ++ rest) (are.are files is ∙ ap (records_from record_of width count) (from-start record_of width bytes)) ∙ sym (records-add record_of width count more bytes) ∙ ap (λ (n : ℕ). records_from record_of width n bytes) (sum ∙ ap (λ (n : ℕ). n / width) (sym long)) in
      subst (λ (xs : List R). AddsPart xs old new) all (part-more records rest old new had)
