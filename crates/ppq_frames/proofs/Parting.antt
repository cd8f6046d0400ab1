-- Bytes are the frames of just one list of requests.
use Rattle.std.proofs.Common.{◌≡◌, ◌∙◌, ◌≤◌, ℕ, List, [], ◌∷◌, ◌++◌, length, take, drop, flat_map, All, refl, sym, ap, ap₂, subst, arith, append_assoc}
use Rattle.std.specs.Int.{w32, to_be_bytes}
use Rattle.std.proofs.lemmas.Nat.{from_be_bytes-to_be_bytes_4}
use Rattle.std.proofs.lemmas.List.{length-append, take_at, drop_at}
use Rattle.std.proofs.lemmas.List.Concat.{flat_map-cons}
use Rattle.std.proofs.lemmas.List.Elements.{All-head, All-tail}
use Rattle.ppq_frames.specs.Frames.{longest, frame, announced, first_request, behind_first, HasFirst, AreRequests}

-- a frame in front
module _ (request rest : List ℕ) (few : length request ≤ longest) where
  abbrev bytes : List ℕ
  bytes = frame request ++ rest

  in-front : announced bytes ≡ length request
  in-front = from_be_bytes-to_be_bytes_4 (length request) (omega (arith, few))

  behind_length : drop 4 bytes ≡ request ++ rest
  behind_length = ap (drop 4) (append_assoc (to_be_bytes w32 (length request)) request rest)

  frame-first : HasFirst bytes
  frame-first = record {
    named = omega (arith, length-append (frame request) rest, length-append (to_be_bytes w32 (length request)) request);
    few = omega (arith, in-front, few);
    whole = omega (arith, in-front, length-append (frame request) rest, length-append (to_be_bytes w32 (length request)) request);
  }

  frame-request : first_request bytes ≡ request
  frame-request = ap₂ (λ (n : ℕ) (b : List ℕ). take n b) in-front behind_length ∙ take_at request rest (length request) refl

  frame-behind : behind_first bytes ≡ rest
  frame-behind = ap₂ (λ (n : ℕ) (b : List ℕ). drop n b) in-front behind_length ∙ drop_at request rest (length request) refl

abbrev Few : List ℕ → Type 0
Few request = length request ≤ longest

-- the frames of requests, the first apart
first_apart : (request : List ℕ) (requests : List (List ℕ)) (rest : List ℕ) → flat_map frame (request ∷ requests) ++ rest ≡ frame request ++ (flat_map frame requests ++ rest)
first_apart request requests rest = ap (λ (b : List ℕ). b ++ rest) (flat_map-cons frame request requests) ∙ append_assoc (frame request) (flat_map frame requests) rest

parted :
    (one other : List (List ℕ)) (rest waiting : List ℕ) → All Few one → All Few other → flat_map frame one ++ rest ≡ flat_map frame other ++ waiting → ¬ HasFirst rest → ¬ HasFirst waiting
    → (one ≡ other) × (rest ≡ waiting)
parted [] [] rest waiting few_one few_other same none_one none_other = (refl, same)
parted [] (r ∷ other) rest waiting few_one few_other same none_one none_other =
    let front = frame-first r (flat_map frame other ++ waiting) (All-head Few r other few_other) in
    absurd (none_one (subst HasFirst (sym (same ∙ first_apart r other waiting)) front))
parted (q ∷ one) [] rest waiting few_one few_other same none_one none_other =
    let front = frame-first q (flat_map frame one ++ rest) (All-head Few q one few_one) in
    absurd (none_other (subst HasFirst (sym (first_apart q one rest) ∙ same) front))
parted (q ∷ one) (r ∷ other) rest waiting few_one few_other same none_one none_other =
    let few_q = All-head Few q one few_one in
    let few_r = All-head Few r other few_other in
    let left = flat_map frame one ++ rest in
    let right = flat_map frame other ++ waiting in
    let both : frame q ++ left ≡ frame r ++ right = sym (first_apart q one rest) ∙ same ∙ first_apart r other waiting in
    let heads : q ≡ r = sym (frame-request q left few_q) ∙ ap first_request both ∙ frame-request r right few_r in
    let tails : left ≡ right = sym (frame-behind q left few_q) ∙ ap behind_first both ∙ frame-behind r right few_r in
    let later = parted one other rest waiting (All-tail Few q one few_one) (All-tail Few r other few_other) tails none_one none_other in
    (ap₂ (λ (x : List ℕ) (xs : List (List ℕ)). x ∷ xs) heads later.0, later.1)

pub one_parting :
    (bytes : List ℕ) (one other : List (List ℕ)) (rest waiting : List ℕ) → AreRequests bytes one rest → AreRequests bytes other waiting → ¬ HasFirst rest → ¬ HasFirst waiting
    → (one ≡ other) × (rest ≡ waiting)
one_parting _ one other rest waiting are_one are_other none_one none_other = parted one other rest waiting are_one.few are_other.few (sym are_one.all ∙ are_other.all) none_one none_other
