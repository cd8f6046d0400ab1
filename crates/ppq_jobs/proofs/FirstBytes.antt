-- The first bytes of a file, as reads gave them piece by piece, and whether their records are edges.
use Rattle.std.proofs.Common.{◌≡◌, ℕ, ◌+◌, ◌*◌, ◌/◌, List, [], ◌∷◌, ◌++◌, length, take, drop, Option, Some, None, refl, sym, ap, ap₂, ◌∙◌, subst, arith, length-append, take-append-drop}
use Rattle.std.specs.List.{concat}
use Rattle.std.proofs.lemmas.List.{take_all}
use Rattle.std.proofs.lemmas.List.Folds.{concat-append}
use Rattle.std.proofs.Math.Seq.{take-add}
use Rattle.ppq_sweep.specs.ppq_record.Pair.{pair_of}
use Rattle.ppq_sweep.specs.ppq_outside.Told.{Reply, OfRead, Remembers, bytes_or_none}
use Rattle.ppq_engine.specs.ppq_files.Lengths.{IsRecordLength}
use Rattle.ppq_engine.specs.ppq_files.Pieces.{PieceState, IsNextPiece}
use Rattle.ppq_engine.specs.ppq_files.Reading.{AreGiven, IsGivenAt, HasLength}
use Rattle.ppq_engine.specs.ppq_load.Given.{records_of}
use Rattle.ppq_engine.proofs.ppq_load.ppq_block.Blocks.{length-records_from}
use Rattle.ppq_jobs.specs.Edges.{Wanted, first_bad, first_bad_from, AreFirstBytes, FindsBad, FindsNone}
use Rattle.ppq_jobs.specs.Loading.{HasLooked}
use Rattle.ppq_jobs.proofs.FirstBad.{bad-append, bad-more, edges-append}

-- nothing is forgotten
pieces_remembered : (before now : Reply → Type 0) (name : List ℕ) (at : ℕ) (pieces : List (List ℕ)) → Remembers before now → AreGiven before name at pieces → AreGiven now name at pieces
pieces_remembered before now name at [] kept given = tt
pieces_remembered before now name at (piece ∷ pieces) kept ((room, reply), given) = ((room, kept (OfRead name at room piece) reply), pieces_remembered before now name (at + length piece) pieces kept given)

-- pieces behind others
pieces_append : (replied : Reply → Type 0) (name : List ℕ) (at : ℕ) (xs ys : List (List ℕ)) → AreGiven replied name at xs → AreGiven replied name (at + length (concat xs)) ys → AreGiven replied name at (xs ++ ys)
pieces_append replied name at [] ys one other = let P : ℕ → Type 0 = λ n. AreGiven replied name n ys in let e : at + 0 ≡ at = omega arith in subst P e other
pieces_append replied name at (x ∷ xs) ys (first, rest) other =
    let P : ℕ → Type 0 = λ n. AreGiven replied name n ys in
    let e : at + length (x ++ concat xs) ≡ at + length x + length (concat xs) = omega (arith, length-append x (concat xs)) in
    (first, pieces_append replied name (at + length x) xs ys rest (subst P e other))

-- bytes that were given, and more behind them
pub given-append : (before now : Reply → Type 0) (name : List ℕ) (at : ℕ) (xs ys : List ℕ) → Remembers before now → IsGivenAt before name at xs → IsGivenAt now name (at + length xs) ys → IsGivenAt now name at (xs ++ ys)
given-append before now name at xs ys kept one other =
    let P : List ℕ → Type 0 = λ t. AreGiven now name (at + length t) other.pieces in
    record {
      pieces = one.pieces ++ other.pieces;
      given = pieces_append now name at one.pieces other.pieces (pieces_remembered before now name at one.pieces kept one.given) (subst P (sym one.all) other.given);
      all = concat-append one.pieces other.pieces ∙ ap₂ (λ (a b : List ℕ). a ++ b) one.all other.all;
    }

module _ (told : Option (List ℕ → Option (List ℕ))) (wanted : Wanted) where
  -- nothing was looked at yet
  pub looked-none : (replied : Reply → Type 0) → HasLooked told replied wanted 0
  looked-none replied = record { bytes = []; first = record { within = omega arith; given = record { pieces = []; given = tt; all = refl }; are = λ files is. refl }; long = refl; good = refl }

  -- the next piece was read
  module _ (before now : Reply → Type 0) (was is_now : PieceState) (piece : List ℕ) (bytes : ℕ) (next : IsNextPiece 16 told now was piece bytes is_now) (name : was.name ≡ wanted.name) (said : was.said ≡ wanted.bytes) (kept : Remembers before now) (had : HasLooked told before wanted was.from) where
    all_long : length (had.bytes ++ piece) ≡ (was.from + next.count) * 16
    all_long = omega (arith, length-append had.bytes piece, had.long, next.long, next.bytes_are)

    first_next : AreFirstBytes told now wanted (had.bytes ++ piece)
    first_next =
        let at : was.from * 16 ≡ 0 + length had.bytes = omega (arith, had.long) in
        let start : was.from * 16 ≡ length had.bytes = omega (arith, had.long) in
        let Named : List ℕ → Type 0 = λ n. IsGivenAt now n (was.from * 16) piece in
        let Placed : ℕ → Type 0 = λ n. IsGivenAt now wanted.name n piece in
        record {
          within = omega (arith, all_long, next.within, said);
          given = given-append before now wanted.name 0 had.bytes piece kept had.first.given (subst Placed at (subst Named name next.given));
          are = λ files is.
              let file = bytes_or_none (files wanted.name) in
              let Is : List ℕ → Type 0 = λ n. piece ≡ take (length piece) (drop (was.from * 16) (bytes_or_none (files n))) in
              ap₂ (λ (a b : List ℕ). a ++ b) (had.first.are files is) (subst Is name (next.are files is) ∙ ap (λ n. take (length piece) (drop n file)) start)
              ∙ sym (take-add (length had.bytes) (length piece) file) ∙ ap (λ n. take n file) (sym (length-append had.bytes piece));
        }

    -- the search goes on in its records
    search_next : first_bad wanted.nodes (records_of pair_of 16 (had.bytes ++ piece)) ≡ first_bad_from wanted.nodes (was.from + 1) (records_of pair_of 16 piece)
    search_next =
        let count : 1 + length (records_of pair_of 16 had.bytes) ≡ was.from + 1 = omega (arith, length-records_from pair_of 16 (length had.bytes / 16) had.bytes, had.long) in
        ap (first_bad wanted.nodes) (edges-append was.from had.bytes piece had.long) ∙ bad-append wanted.nodes 1 (records_of pair_of 16 had.bytes) (records_of pair_of 16 piece) had.good
        ∙ ap (λ n. first_bad_from wanted.nodes n (records_of pair_of 16 piece)) count

    -- one of its records is bad
    pub bad-next : (number : ℕ) → first_bad_from wanted.nodes (was.from + 1) (records_of pair_of 16 piece) ≡ Some number → FindsBad told now wanted number
    bad-next number is =
        let bad : first_bad wanted.nodes (records_of pair_of 16 (had.bytes ++ piece)) ≡ Some number = search_next ∙ is in
        record {
          bytes = had.bytes ++ piece;
          first = first_next;
          bad = bad;
          told_bad = λ files tells.
              let file = bytes_or_none (files wanted.name) in
              let rest = drop (length (had.bytes ++ piece)) file in
              let whole : (had.bytes ++ piece) ++ rest ≡ file = ap (λ (t : List ℕ). t ++ rest) (first_next.are files tells) ∙ take-append-drop (length (had.bytes ++ piece)) file in
              ap (λ b. first_bad wanted.nodes (records_of pair_of 16 b)) (sym whole) ∙ ap (first_bad wanted.nodes) (edges-append (was.from + next.count) (had.bytes ++ piece) rest all_long)
              ∙ bad-more wanted.nodes 1 number (records_of pair_of 16 (had.bytes ++ piece)) (records_of pair_of 16 rest) bad;
        }

    -- none is
    pub good-next : first_bad_from wanted.nodes (was.from + 1) (records_of pair_of 16 piece) ≡ None → HasLooked told now wanted is_now.from
    good-next is =
        let count : was.from + next.count ≡ is_now.from = sym (ap (λ (p : PieceState). p.from) next.new_is) in
        record { bytes = had.bytes ++ piece; first = first_next; long = all_long ∙ ap (λ n. n * 16) count; good = search_next ∙ is }

  -- all were looked at
  pub looked-all : (replied : Reply → Type 0) → IsRecordLength 16 wanted.bytes → HasLength told wanted.name wanted.bytes → HasLooked told replied wanted (wanted.bytes / 16) → FindsNone told replied wanted
  looked-all replied whole long looked =
      let all : length looked.bytes ≡ wanted.bytes = omega (arith, looked.long, whole.0) in
      record {
        bytes = looked.bytes;
        first = looked.first;
        all = all;
        good = looked.good;
        told_good = λ files is.
            let file = bytes_or_none (files wanted.name) in
            let same : file ≡ looked.bytes = sym (looked.first.are files is ∙ take_all (length looked.bytes) file (omega (arith, all, long files is))) in
            ap (λ b. first_bad wanted.nodes (records_of pair_of 16 b)) same ∙ looked.good;
      }
