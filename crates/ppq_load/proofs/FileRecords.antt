-- Records of a file, piece by piece.
use Rattle.std.proofs.Common.{◌≡◌, ℕ, zero, suc, ◌+◌, ◌-◌, ◌*◌, ◌/◌, ◌≤◌, List, [], ◌∷◌, ◌++◌, length, take, drop, Option, Some, refl, sym, ap, ap₂, ◌∙◌, subst, arith, length-append}
use Rattle.std.proofs.lemmas.List.{drop-drop}
use Rattle.std.proofs.Math.Nat.{suc-mul}
use Rattle.std.specs.Prelude.{Any}
use Rattle.ppq_session.specs.ppq_record.Bag.{IsSameBag}
use Rattle.ppq_session.specs.ppq_record.Given.{records_from}
use Rattle.ppq_load.specs.Given.{records_of}
use Rattle.ppq_session.specs.ppq_outside.Shown.{Shown}
use Rattle.ppq_session.specs.ppq_outside.Told.{bytes_or_none}
use Rattle.ppq_session.proofs.ppq_block.Blocks.{length-records_from, records_from-take}
use Rattle.ppq_session.specs.ppq_queue.Holding.{Holding}
use Rattle.ppq_session.specs.Dealing.{HasEnded}
use Rattle.ppq_load.specs.Loading.{SessionHolding, InSession, AreRecordsAt, HasGiven, told_bytes}
use Rattle.ppq_session.specs.ppq_outside.Told.{Reply}
use Rattle.ppq_files.specs.Pieces.{PieceState, IsNextPiece}
use Rattle.ppq_load.proofs.PieceRecords.{whole-piece}
use Rattle.ppq_session.proofs.Sessions.{session-rest}

module _ {R : Type 0} (record_of : List ℕ → R) (width : ℕ) where
  -- behind no record stands all
  pub from-start : (bytes : List ℕ) → drop (0 * width) bytes ≡ bytes
  from-start bytes = let e : 0 * width ≡ 0 = omega arith in ap (λ n. drop n bytes) e

  -- records of bytes in two parts
  pub records-add : (a b : ℕ) (bytes : List ℕ) → records_from record_of width (a + b) bytes ≡ records_from record_of width a bytes ++ records_from record_of width b (drop (a * width) bytes)
  records-add zero b bytes =
      let sum : 0 + b ≡ b = omega arith in
      let start : 0 ≡ 0 * width = omega arith in
      ap₂ (λ (n : ℕ) (t : List ℕ). records_from record_of width n t) sum (ap (λ (n : ℕ). drop n bytes) start)
  records-add (suc a) b bytes =
      let sum : suc a + b ≡ suc (a + b) = omega arith in
      let e : width + a * width ≡ suc a * width = omega (arith, suc-mul a width) in
      let head : R = record_of (take width bytes) in
      ap (λ (n : ℕ). records_from record_of width n bytes) sum
      ∙ ap (λ (xs : List R). head ∷ xs) (records-add a b (drop width bytes) ∙ ap (λ (t : List ℕ). records_from record_of width a (drop width bytes) ++ records_from record_of width b t) (drop-drop (a * width) width bytes ∙ ap (λ (n : ℕ). drop n bytes) e))

  -- the records of a piece are those of the file from its place on
  pub piece-at : (piece rest : List ℕ) (count : ℕ) → length piece ≡ count * width → piece ≡ take (length piece) rest → records_from record_of width count piece ≡ records_from record_of width count rest
  piece-at piece rest count long is = ap (records_from record_of width count) (is ∙ ap (λ (n : ℕ). take n rest) long) ∙ records_from-take record_of width count rest

  module _ (told : Option (List ℕ → Option (List ℕ))) (name : List ℕ) where
    -- the records of two pieces, one behind the other
    records-then : (from count : ℕ) (records more : List R) → AreRecordsAt record_of width told name 0 from records → AreRecordsAt record_of width told name from count more → AreRecordsAt record_of width told name 0 (from + count) (records ++ more)
    records-then from count records more had next = record {
      length = length-append records more ∙ ap₂ (λ (x y : ℕ). x + y) had.length next.length;
      are = λ files is.
          let bytes = bytes_or_none (files name) in
          let start = from-start bytes in
          ap₂ (λ (x y : List R). x ++ y) (had.are files is ∙ ap (records_from record_of width from) start) (next.are files is) ∙ sym (records-add from count bytes) ∙ ap (records_from record_of width (from + count)) (sym start);
    }

    -- the records of a piece that was read
    pub piece-are :
        (from count : ℕ) (piece : List ℕ) (more : List R) → length piece ≡ count * width → more ≡ records_from record_of width count piece
        → ((files : List ℕ → Option (List ℕ)) → told ≡ Some files → piece ≡ take (length piece) (drop (from * width) (bytes_or_none (files name)))) → AreRecordsAt record_of width told name from count more
    piece-are from count piece more long is read = record {
      length = ap length is ∙ length-records_from record_of width count piece;
      are = λ files tells. is ∙ piece-at piece (drop (from * width) (bytes_or_none (files name))) count long (read files tells);
    }

    -- what is left of a file, where the library tells, and else so many records
    rest-at : (from count : ℕ) → AreRecordsAt record_of width told name from count (records_from record_of width count (drop (from * width) (told_bytes told name)))
    rest-at from count = record {
      length = length-records_from record_of width count (drop (from * width) (told_bytes told name));
      are = λ files is. ap (λ t. records_from record_of width count (drop (from * width) (told_bytes t name))) is;
    }

    module _ {S : Type 0} (shown : S → Shown) (queue : Holding R) where
      -- nothing was given yet
      pub given-none : (load : SessionHolding S R) → InSession shown queue [] load → HasGiven record_of width shown queue told name 0 load
      given-none load s = record { records = []; are = record { length = refl; are = λ files is. refl }; session = s }

      -- a piece more was given
      pub given-more :
          (from count : ℕ) (more : List R) (old new : SessionHolding S R) → AreRecordsAt record_of width told name from count more
          → ((records : List R) → InSession shown queue records old → InSession shown queue (records ++ more) new)
          → HasGiven record_of width shown queue told name from old → HasGiven record_of width shown queue told name (from + count) new
      given-more from count more old new are step had = record {
        records = had.records ++ more;
        are = records-then from count had.records more had.are are;
        session = step had.records had.session;
      }

      -- the next piece was read and dealt
      pub given-next :
          (replied : Reply → Type 0) (was is_now : PieceState) (piece : List ℕ) (bytes : ℕ) (old new : SessionHolding S R) → 1 ≤ width → was.name ≡ name → IsNextPiece width told replied was piece bytes is_now
          → ((records : List R) → InSession shown queue records old → InSession shown queue (records ++ records_of record_of width piece) new)
          → HasGiven record_of width shown queue told name was.from old → HasGiven record_of width shown queue told name is_now.from new
      given-next replied was is_now piece bytes old new some named next step had =
          let long : length piece ≡ next.count * width = next.long ∙ next.bytes_are in
          let Read : List ℕ → Type 0 = λ n. (files : List ℕ → Option (List ℕ)) → told ≡ Some files → piece ≡ take (length piece) (drop (was.from * width) (bytes_or_none (files n))) in
          let more = records_of record_of width piece in
          let are = piece-are was.from next.count piece more long (whole-piece record_of width piece next.count some long) (subst Read named next.are) in
          subst (λ k. HasGiven record_of width shown queue told name k new) (sym (ap (λ (p : PieceState). p.from) next.new_is)) (given-more was.from next.count more old new are step had)

      -- a pass stopped: the session was given what it had, and the rest
      pub given-stopped : (from count : ℕ) (load : SessionHolding S R) → from ≤ count → Any HasEnded load.passes → HasGiven record_of width shown queue told name from load → HasGiven record_of width shown queue told name count load
      given-stopped from count load less ended had =
          let rest = records_from record_of width (count - from) (drop (from * width) (told_bytes told name)) in
          let all : from + (count - from) ≡ count = omega arith in
          subst (λ n. HasGiven record_of width shown queue told name n load) all
          (given-more from (count - from) rest load load (rest-at from (count - from)) (λ records s. session-rest shown queue records rest load s ended) had)

  -- all records of a file
  pub file-all :
      (told : Option (List ℕ → Option (List ℕ))) (name : List ℕ) (files : List ℕ → Option (List ℕ)) (said : ℕ) (bag old records : List R) → told ≡ Some files → length (bytes_or_none (files name)) ≡ said
      → AreRecordsAt record_of width told name 0 (said / width) records → IsSameBag bag (records ++ old) → IsSameBag bag (records_of record_of width (bytes_or_none (files name)) ++ old)
  file-all told name files said bag old records is long are had =
      let bytes = bytes_or_none (files name) in
      let count : said / width ≡ length bytes / width = ap (λ n. n / width) (sym long) in
      subst (λ (xs : List R). IsSameBag bag (xs ++ old)) (are.are files is ∙ ap (records_from record_of width (said / width)) (from-start bytes) ∙ ap (λ n. records_from record_of width n bytes) count) had
