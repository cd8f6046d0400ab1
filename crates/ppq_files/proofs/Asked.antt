-- Which files a library was asked for, and how far they were read.
use Rattle.std.proofs.Common.{ℕ, ◌≤◌, List, Option, Some, refl, sym, subst, ◌∙◌, arith}
use Rattle.std.specs.Prelude.{Result, Ok, Err}
use Rattle.ppq_outside.specs.Told.{Reply, OfLength, OfRead, Remembers, RepliesOnly, IsLengthGiven}
use Rattle.ppq_outside.proofs.Replies.{no_replies, replies_wider, replies_then}
use Rattle.ppq_files.specs.Lengths.{IsLength, IsLengthOf}
use Rattle.ppq_files.specs.Reading.{IsReadWithin, IsOn, LibraryKeeps, ReadsFile}

-- a read that ends at or before a place ends at or before a later one
within-wider : (name : List ℕ) (end later : ℕ) → end ≤ later → (reply : Reply) → IsReadWithin name end reply → IsReadWithin name later reply
within-wider name end later more (OfLength other size) is = absurd is
within-wider name end later more (OfRead other at room given) is = (is.0, omega (arith, is.1, more))

module _ {L : Type 0} (files : L → Option (List ℕ → Option (List ℕ))) (replied : L → Reply → Type 0) (kind : Reply → Type 0) where
  -- nothing was asked
  pub keeps-none : (library : L) → LibraryKeeps files replied kind library library
  keeps-none library = record { told = refl; remembers = λ reply had. had; asks = no_replies (replied library) kind }

  -- two calls, one after the other
  pub keeps-then : {old mid new : L} → LibraryKeeps files replied kind old mid → LibraryKeeps files replied kind mid new → LibraryKeeps files replied kind old new
  keeps-then {old} {mid} {new} first next = record {
    told = next.told ∙ first.told;
    remembers = λ reply had. next.remembers reply (first.remembers reply had);
    asks = replies_then (replied old) (replied mid) (replied new) kind first.asks next.asks;
  }

  -- replies of one kind are of a wider one
  pub keeps-wider : (wider : Reply → Type 0) {old new : L} → ((reply : Reply) → kind reply → wider reply) → LibraryKeeps files replied kind old new → LibraryKeeps files replied wider old new
  keeps-wider wider {old} {new} more keeps = record {
    told = keeps.told;
    remembers = keeps.remembers;
    asks = replies_wider (replied old) (replied new) kind wider more keeps.asks;
  }

module _ {L : Type 0} (files : L → Option (List ℕ → Option (List ℕ))) (replied : L → Reply → Type 0) (name : List ℕ) where
  -- no byte past a later place was asked for either
  pub reads-wider : {end later : ℕ} {old new : L} → end ≤ later → ReadsFile files replied name end old new → ReadsFile files replied name later old new
  reads-wider {end} {later} {old} {new} more reads = keeps-wider files replied (IsReadWithin name end) (IsReadWithin name later) (within-wider name end later more) reads

-- a length that was said is not forgotten
pub later_on : (before now : Reply → Type 0) (asked : List ℕ) → Remembers before now → (reply : Reply) → IsOn before asked reply → IsOn now asked reply
later_on before now asked kept (OfLength name size) on = on
later_on before now asked kept (OfRead name at room given) (is, (said, (reply, within))) = (is, (said, (kept (OfLength name (Some said)) reply, within)))

-- the length of one file was asked
length_on : {E : Type 0} (now : Reply → Type 0) (asked : List ℕ) (result : Result (Option ℕ) E) (reply : Reply) → IsLengthGiven asked result reply → IsOn now asked reply
length_on now asked (Ok size) reply given = let P : Reply → Type 0 = λ x. IsOn now asked x in subst P (sym given) refl
length_on now asked (Err fault) reply given = absurd given

pub length_asked :
    {E : Type 0} (before now : Reply → Type 0) (asked : List ℕ) (result : Result (Option ℕ) E) → RepliesOnly before now (IsLengthGiven asked result) → RepliesOnly before now (IsOn now asked)
length_asked before now asked result only = replies_wider before now (IsLengthGiven asked result) (IsOn now asked) (length_on now asked result) only

-- a reply on the length of one file is one on a length, and one on that file
length_any : (asked : List ℕ) (reply : Reply) → IsLengthOf asked reply → IsLength reply
length_any asked (OfLength name size) is = tt
length_any asked (OfRead name at room given) is = is

length_of_on : (now : Reply → Type 0) (asked : List ℕ) (reply : Reply) → IsLengthOf asked reply → IsOn now asked reply
length_of_on now asked (OfLength name size) is = is
length_of_on now asked (OfRead name at room given) is = absurd is

module _ {L : Type 0} (files : L → Option (List ℕ → Option (List ℕ))) (replied : L → Reply → Type 0) (asked : List ℕ) where
  pub asks_length : {old new : L} → LibraryKeeps files replied (IsLengthOf asked) old new → LibraryKeeps files replied IsLength old new
  asks_length {old} {new} keeps = keeps-wider files replied (IsLengthOf asked) IsLength (length_any asked) keeps

  pub asks_on : {old new : L} → LibraryKeeps files replied (IsLengthOf asked) old new → LibraryKeeps files replied (IsOn (replied new) asked) old new
  asks_on {old} {new} keeps = keeps-wider files replied (IsLengthOf asked) (IsOn (replied new) asked) (length_of_on (replied new) asked) keeps

-- and then a piece of it was read that ends at or before that length
piece_on : (now : Reply → Type 0) (asked : List ℕ) (said : ℕ) → now (OfLength asked (Some said)) → (reply : Reply) → IsReadWithin asked said reply → IsOn now asked reply
piece_on now asked said had (OfLength name size) read = absurd read
piece_on now asked said had (OfRead name at room given) read =
    let P : List ℕ → Type 0 = λ n. now (OfLength n (Some said)) in
    (read.0, (said, (subst P (sym read.0) had, read.1)))

pub piece_asked :
    (before mid now : Reply → Type 0) (asked : List ℕ) (said : ℕ) → Remembers mid now → mid (OfLength asked (Some said))
    → RepliesOnly before mid (IsOn mid asked) → RepliesOnly mid now (IsReadWithin asked said) → RepliesOnly before now (IsOn now asked)
piece_asked before mid now asked said kept had first next =
    replies_then before mid now (IsOn now asked) (replies_wider before mid (IsOn mid asked) (IsOn now asked) (later_on mid now asked kept) first)
    (replies_wider mid now (IsReadWithin asked said) (IsOn now asked) (piece_on now asked said (kept (OfLength asked (Some said)) had)) next)
