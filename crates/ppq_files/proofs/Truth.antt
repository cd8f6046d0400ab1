-- Bytes as which a library that tells gave a file are those of the file.
use Rattle.std.proofs.Common.{◌≡◌, ℕ, ◌+◌, ◌-◌, ◌<◌, ◌≤◌, min, List, [], ◌∷◌, ◌++◌, length, take, drop, Option, Some, None, refl, sym, ap, ap₂, ◌∙◌, subst, arith, length-append, length-take-le}
use Rattle.std.specs.List.{concat}
use Rattle.std.proofs.lemmas.List.{take_all, drop-drop}
use Rattle.std.proofs.Math.Seq.{take-add}
use Rattle.ppq_outside.specs.Told.{Reply, OfLength, OfRead, TellsReply, length_of, bytes_or_none}
use Rattle.ppq_files.specs.declared.fault.FileFault.{FileFault}
use Rattle.ppq_files.specs.declared.fault.FileFault.TheVariants.{Failed, Memory, Ended}
use Rattle.ppq_files.specs.Filling.{IsEnd, ReadEndsIn, PieceEndsIn}
use Rattle.ppq_files.specs.Reading.{AreGiven, EndsAt, HasLength, IsGivenAt, IsReplied}
use Rattle.ppq_files.specs.Whole.{IsLoaded, IsLoadedAs, WholeRefusalIsRight, fault_within}

-- the replies are true of what the library tells
abbrev pub AreTrue : Option (List ℕ → Option (List ℕ)) → (Reply → Type 0) → Type 0
AreTrue told replied = (reply : Reply) → replied reply → TellsReply told reply

-- pieces that reads gave are a part of the file
pieces_are : (files : List ℕ → Option (List ℕ)) (replied : Reply → Type 0) (name : List ℕ) (at : ℕ) (pieces : List (List ℕ)) → AreTrue (Some files) replied → AreGiven replied name at pieces → concat pieces ≡ take (length (concat pieces)) (drop at (bytes_or_none (files name)))
pieces_are files replied name at [] true given = refl
pieces_are files replied name at (piece ∷ pieces) true ((room, reply), given) =
    let file = bytes_or_none (files name) in
    let first : piece ≡ take (length piece) (drop at file) = (true (OfRead name at room piece) reply).bytes_are in
    let rest : concat pieces ≡ take (length (concat pieces)) (drop (at + length piece) file) = pieces_are files replied name (at + length piece) pieces true given in
    ap₂ (λ (x y : List ℕ). x ++ y) first (rest ∙ ap (take (length (concat pieces))) (sym (drop-drop (length piece) at file)))
    ∙ sym (take-add (length piece) (length (concat pieces)) (drop at file))
    ∙ ap (λ n. take n (drop at file)) (sym (length-append piece (concat pieces)))

-- so are bytes that reads gave
given_part : (files : List ℕ → Option (List ℕ)) (replied : Reply → Type 0) (name : List ℕ) (at : ℕ) (bytes : List ℕ) → AreTrue (Some files) replied → IsGivenAt replied name at bytes → bytes ≡ take (length bytes) (drop at (bytes_or_none (files name)))
given_part files replied name at bytes true is =
    let P : List ℕ → Type 0 = λ b. b ≡ take (length b) (drop at (bytes_or_none (files name))) in
    subst P is.all (pieces_are files replied name at is.pieces true is.given)

-- the same of a library of which it is known whether it tells
pub given_are :
    (told : Option (List ℕ → Option (List ℕ))) (replied : Reply → Type 0) (name : List ℕ) (at : ℕ) (bytes : List ℕ) → AreTrue told replied → IsGivenAt replied name at bytes
    → (files : List ℕ → Option (List ℕ)) → told ≡ Some files → bytes ≡ take (length bytes) (drop at (bytes_or_none (files name)))
given_are told replied name at bytes true given files is = given_part files replied name at bytes (subst (λ t. AreTrue t replied) is true) given

-- a library that tells has no more bytes of a file of which a read gave nothing
short_end :
    (told : Option (List ℕ → Option (List ℕ))) (replied : Reply → Type 0) (name : List ℕ) (got : ℕ) → AreTrue told replied → EndsAt replied name got
    → (files : List ℕ → Option (List ℕ)) → told ≡ Some files → length (bytes_or_none (files name)) ≤ got
short_end told replied name got true (room, (some, read)) files is =
    let all : AreTrue (Some files) replied = subst (λ t. AreTrue t replied) is true in
    let none : min room (length (bytes_or_none (files name)) - got) ≡ 0 = (all (OfRead name got room []) read).end refl in
    omega (arith, none, some)

-- a piece was not filled: so far reads gave what is there
pub is_end :
    (told : Option (List ℕ → Option (List ℕ))) (replied : Reply → Type 0) (name : List ℕ) (at got end : ℕ) (piece : List ℕ) → AreTrue told replied → got ≤ length piece → at + got < end
    → IsGivenAt replied name at (take got piece) → EndsAt replied name (at + got) → IsEnd told replied name at end (at + got)
is_end told replied name at got end piece true within before given read = record {
  before = before;
  reached = (take got piece, (ap (λ n. at + n) (length-take-le got piece within), given));
  read = read;
  short = short_end told replied name (at + got) true read;
}

-- it does not tell, where it said a greater length
early : (told : Option (List ℕ → Option (List ℕ))) (name : List ℕ) (said got : ℕ) → HasLength told name said → got < said → ((files : List ℕ → Option (List ℕ)) → told ≡ Some files → length (bytes_or_none (files name)) ≤ got) → told ≡ None
early None name said got long before short = refl
early (Some files) name said got long before short = absurd (omega (arith, before, long files refl, short files refl))

-- so a file ended early
pub ends_early :
    (told : Option (List ℕ → Option (List ℕ))) (replied : Reply → Type 0) (name : List ℕ) (said at end : ℕ) (fault : FileFault) → HasLength told name said → end ≤ said
    → ReadEndsIn told replied name at end fault → PieceEndsIn told replied name said fault
ends_early told replied name said at end Failed long within ended = tt
ends_early told replied name said at end Memory long within ended = tt
ends_early told replied name said at end (Ended got) long within ended = record {
  before = omega (arith, within, ended.before);
  read = ended.read;
  untold = early told name said got long (omega (arith, within, ended.before)) ended.short;
}

whole : (file : Option (List ℕ)) (bytes : List ℕ) → Some (length bytes) ≡ length_of file → bytes ≡ take (length bytes) (bytes_or_none file) → file ≡ Some bytes
whole None bytes said is = cc
whole (Some f) bytes said is = let e : length bytes ≡ length f = cc in ap (λ (b : List ℕ). Some b) (sym (is ∙ take_all (length bytes) f (omega (arith, e))))

-- bytes as which the library gave a file are the file's
loaded : (told : Option (List ℕ → Option (List ℕ))) (replied : Reply → Type 0) (name bytes : List ℕ) → AreTrue told replied → IsReplied replied name bytes → IsLoaded told name bytes
loaded None replied name bytes true is = tt
loaded (Some files) replied name bytes true is = whole (files name) bytes (true (OfLength name (Some (length bytes))) is.said) (given_part files replied name 0 bytes true is.gave)

-- the same where its length was said, and reads gave it up to there
pub loaded_as :
    (told : Option (List ℕ → Option (List ℕ))) (replied : Reply → Type 0) (name : List ℕ) (most : ℕ) (bytes : List ℕ) (size : ℕ) → AreTrue told replied → size ≤ most
    → replied (OfLength name (Some size)) → length bytes ≡ size → IsGivenAt replied name 0 bytes → IsLoadedAs told replied name most bytes
loaded_as told replied name most bytes size true short said long given =
    let P : ℕ → Type 0 = λ n. replied (OfLength name (Some n)) in
    let is : IsReplied replied name bytes = record { said = subst P (sym long) said; gave = given } in
    record { short = omega (arith, long, short); loaded = loaded told replied name bytes true is; given = is }

-- what is said of a file's length is its length, where the library tells
has_length : (file : Option (List ℕ)) (said : ℕ) → Some said ≡ length_of file → length (bytes_or_none file) ≡ said
has_length None said is = cc
has_length (Some bytes) said is = cc

said_length : (told : Option (List ℕ → Option (List ℕ))) (replied : Reply → Type 0) (name : List ℕ) (said : ℕ) → AreTrue told replied → replied (OfLength name (Some said)) → HasLength told name said
said_length told replied name said true had files is =
    let all : AreTrue (Some files) replied = subst (λ t. AreTrue t replied) is true in
    has_length (files name) said (all (OfLength name (Some said)) had)

-- so it was cut short where reads had given all bytes in front of that one
pub cut_short :
    (told : Option (List ℕ → Option (List ℕ))) (replied : Reply → Type 0) (name : List ℕ) (most said : ℕ) (fault : FileFault) → AreTrue told replied → replied (OfLength name (Some said))
    → ReadEndsIn told replied name 0 said fault → WholeRefusalIsRight told replied name most (fault_within said fault)
cut_short told replied name most said Failed true had ended = tt
cut_short told replied name most said Memory true had ended = tt
cut_short told replied name most said (Ended got) true had ended = record {
  before = ended.before;
  said_is = had;
  reached = (ended.reached.0, (omega (arith, ended.reached.1.0), ended.reached.1.1));
  read = ended.read;
  untold = early told name said got (said_length told replied name said true had) ended.before ended.short;
}
