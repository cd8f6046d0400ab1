-- One operation of a request, and what is behind it.
use Rattle.std.proofs.Common.{◌≡◌, ◌≤◌, ◌*◌, ◌/◌, ◌==◌, ◌∙◌, ℕ, zero, suc, Bool, true, false, List, [], ◌∷◌, length, take, drop, nat_lt, Option, Some, None, refl, sym, ap, ap₂, arith, length-drop, length-take-le, mul-div_cancel, ltb-false}
use Rattle.std.specs.Prelude.{is_some, option_map, IfSome, if◌then◌else◌}
use Rattle.std.specs.Int.{w32, w64, from_be_bytes}
use Rattle.ppq_script.specs.Words.{Words}
use Rattle.ppq_script.specs.declared.command.Command.{Command}
use Rattle.ppq_script.specs.declared.command.Command.TheVariants.{BulkPopLimit, BulkPop}
use Rattle.ppq_requests.specs.Requests.{cut_of, first_number, first_record, records_behind, first_records, pushes_of, pushed, numbered, limited, operation_of, first_operation, in_front, request_behind, request_by, request_of}

-- ---- what is cut off

-- a cut has these parts
pub cut_parts : (n : ℕ) (bytes : List ℕ) (cut : List ℕ × List ℕ) → cut_of n bytes ≡ Some cut → (cut.0 ≡ take n bytes) × (cut.1 ≡ drop n bytes) × (n ≤ length bytes)
cut_parts n bytes cut e = go (nat_lt (length bytes) n) refl e
  where
    go : (b : Bool) → nat_lt (length bytes) n ≡ b → (if b then None else Some (take n bytes, drop n bytes)) ≡ Some cut → (cut.0 ≡ take n bytes) × (cut.1 ≡ drop n bytes) × (n ≤ length bytes)
    go true is e = cc
    go false is e =
        let same : (take n bytes, drop n bytes) ≡ cut = cc in
        (ap (λ (c : List ℕ × List ℕ). c.0) (sym same), ap (λ (c : List ℕ × List ℕ). c.1) (sym same), omega (arith, ltb-false (length bytes) n is))

-- so does one that is a whole number of pieces
pub whole_pieces : {A : Type 0} (o : Option A) (view : A → List ℕ × List ℕ) (n width count : ℕ) (bytes : List ℕ) → 1 ≤ width → count ≡ n * width → option_map view o ≡ cut_of count bytes
    → IfSome o (λ a. length (view a).0 ≡ length (view a).0 / width * width)
whole_pieces None view n width count bytes some is e = tt
whole_pieces (Some a) view n width count bytes some is e =
    let parts = cut_parts count bytes (view a) (sym e) in
    let long : length (view a).0 ≡ n * width = ap length parts.0 ∙ length-take-le count bytes parts.2 ∙ is in
    long ∙ ap (λ (k : ℕ). k * width) (sym (ap (λ (k : ℕ). k / width) long ∙ mul-div_cancel n some))

pair_is : (cut : List ℕ × List ℕ) (one two : List ℕ) → cut.0 ≡ one → cut.1 ≡ two → (one, two) ≡ cut
pair_is (a, b) one two first second = ap₂ (λ (x y : List ℕ). (x, y)) (sym first) (sym second)

-- what a map makes of something
pub mapped : {A B : Type 0} (f : A → B) (o : Option A) (b : B) → option_map f o ≡ Some b → (a : A) × (o ≡ Some a) × (f a ≡ b)
mapped f None b e = cc
mapped f (Some a) b e = (a, refl, cc)

-- one of two things that may be there, by a test
pub either_way : {A : Type 0} (P : A → Type 0) (test : Bool) (x y : Option A) (a : A) → (test ≡ true → x ≡ Some a → P a) → (y ≡ Some a → P a) → (if test then x else y) ≡ Some a → P a
either_way P true x y a one other e = one refl e
either_way P false x y a one other e = other e

-- ---- what is behind is no longer

is_behind : (n : ℕ) (bytes behind : List ℕ) (cut : List ℕ × List ℕ) → cut_of n bytes ≡ Some cut → cut.1 ≡ behind → length behind ≤ length bytes
is_behind n bytes behind cut e same = let part = (cut_parts n bytes cut e).1 in omega (arith, ap length (sym same ∙ part), length-drop n bytes)

number-shorter : (bytes : List ℕ) (cut : ℕ × List ℕ) → first_number bytes ≡ Some cut → length cut.1 ≤ length bytes
number-shorter bytes cut e =
    let m = mapped (λ (c : List ℕ × List ℕ). (from_be_bytes w64 c.0, c.1)) (cut_of 8 bytes) cut e in
    is_behind 8 bytes cut.1 m.0 m.1 (ap (λ (c : ℕ × List ℕ). c.1) m.2)

module _ {R : Type 0} (w : Words R) where
  record-shorter : (bytes : List ℕ) (cut : R × List ℕ) → first_record w bytes ≡ Some cut → length cut.1 ≤ length bytes
  record-shorter bytes cut e =
      let m = mapped (λ (c : List ℕ × List ℕ). (w.record_of c.0, c.1)) (cut_of w.WIDTH bytes) cut e in
      is_behind w.WIDTH bytes cut.1 m.0 m.1 (ap (λ (c : R × List ℕ). c.1) m.2)

  -- so many records, as a number in front of them says
  pub records_parts : (bytes : List ℕ) (cut : List ℕ × List ℕ) → first_records w.WIDTH bytes ≡ Some cut → (4 ≤ length bytes) × (cut_of (from_be_bytes w32 (take 4 bytes) * w.WIDTH) (drop 4 bytes) ≡ Some cut)
  records_parts bytes cut e = go (cut_of 4 bytes) refl e
    where
      go : (o : Option (List ℕ × List ℕ)) → cut_of 4 bytes ≡ o → records_behind w.WIDTH o ≡ Some cut → (4 ≤ length bytes) × (cut_of (from_be_bytes w32 (take 4 bytes) * w.WIDTH) (drop 4 bytes) ≡ Some cut)
      go None is e = cc
      go (Some four) is e =
          let parts = cut_parts 4 bytes four is in
          (parts.2, ap (λ (c : List ℕ × List ℕ). cut_of (from_be_bytes w32 c.0 * w.WIDTH) c.1) (pair_is four (take 4 bytes) (drop 4 bytes) parts.0 parts.1) ∙ e)

  operation-shorter : (letter : ℕ) (bytes : List ℕ) (cut : List (Command R) × List ℕ) → operation_of w letter bytes ≡ Some cut → length cut.1 ≤ length bytes
  operation-shorter letter bytes cut e =
      either_way Shorter (letter == 43) _ _ cut (λ is. one_pushed)
      (either_way Shorter (letter == 80) _ _ cut (λ is. many_pushed)
      (either_way Shorter (letter == 112) _ _ cut (λ is. stays)
      (either_way Shorter (letter == 116) _ _ cut (λ is. stays)
      (either_way Shorter (letter == 110) _ _ cut (λ is. counted bytes BulkPop)
      (either_way Shorter (letter == 98) _ _ cut (λ is. below) none)))))
      e
    where
      Shorter : List (Command R) × List ℕ → Type 0
      Shorter c = length c.1 ≤ length bytes

      one_pushed : pushed (first_record w bytes) ≡ Some cut → Shorter cut
      one_pushed e = let m = mapped _ (first_record w bytes) cut e in omega (arith, record-shorter bytes m.0 m.1, ap (λ (c : List (Command R) × List ℕ). length c.1) m.2)

      many_pushed : pushes_of w (first_records w.WIDTH bytes) ≡ Some cut → Shorter cut
      many_pushed e =
          let m = mapped _ (first_records w.WIDTH bytes) cut e in
          omega (arith, is_behind _ (drop 4 bytes) m.0.1 m.0 (records_parts bytes m.0 m.1).1 refl, length-drop 4 bytes, ap (λ (c : List (Command R) × List ℕ). length c.1) m.2)

      stays : {command : Command R} → Some (command ∷ [], bytes) ≡ Some cut → Shorter cut
      stays {command} e = let same : (command ∷ [], bytes) ≡ cut = cc in omega (arith, ap (λ (c : List (Command R) × List ℕ). length c.1) same)

      counted : (rest : List ℕ) (command : ℕ → Command R) → numbered command (first_number rest) ≡ Some cut → length cut.1 ≤ length rest
      counted rest command e = let m = mapped _ (first_number rest) cut e in omega (arith, number-shorter rest m.0 m.1, ap (λ (c : List (Command R) × List ℕ). length c.1) m.2)

      below : limited (first_record w bytes) ≡ Some cut → Shorter cut
      below e = go (first_record w bytes) refl e
        where
          go : (o : Option (R × List ℕ)) → first_record w bytes ≡ o → limited o ≡ Some cut → Shorter cut
          go None is e = cc
          go (Some limit) is e = omega (arith, record-shorter bytes limit is, counted limit.1 (BulkPopLimit limit.0) e)

      none : None ≡ Some cut → Shorter cut
      none e = cc

  -- ---- requests

  -- steps that are enough come to the same
  by_enough : (m n : ℕ) (bytes : List ℕ) → length bytes ≤ m → length bytes ≤ n → request_by w m bytes ≡ request_by w n bytes
  by_enough m n [] hm hn = refl
  by_enough zero n (letter ∷ bytes) hm hn = absurd (omega (arith, hm))
  by_enough (suc m) zero (letter ∷ bytes) hm hn = absurd (omega (arith, hn))
  by_enough (suc m) (suc n) (letter ∷ bytes) hm hn = go (operation_of w letter bytes) refl (by_enough m n)
    where
      go : (o : Option (List (Command R) × List ℕ)) → operation_of w letter bytes ≡ o → ((rest : List ℕ) → length rest ≤ m → length rest ≤ n → request_by w m rest ≡ request_by w n rest) → request_behind (request_by w m) o ≡ request_behind (request_by w n) o
      go None e enough = refl
      go (Some cut) e enough =
          let shorter = operation-shorter letter bytes cut e in
          ap (in_front cut.0) (enough cut.1 (omega (arith, shorter, hm)) (omega (arith, shorter, hn)))

  -- a request that begins with an operation is that of what is behind it, with the commands of the operation in front
  pub request-operation : (bytes behind : List ℕ) (commands : List (Command R)) → first_operation w bytes ≡ Some (commands, behind) → request_of w bytes ≡ in_front commands (request_of w behind)
  request-operation [] behind commands e = cc
  request-operation (letter ∷ bytes) behind commands e =
      ap (request_behind (request_by w (length bytes))) e
      ∙ ap (in_front commands) (by_enough (length bytes) (length behind) behind (operation-shorter letter bytes (commands, behind) e) (omega arith))

  -- bytes that do not begin with one are none
  pub request-none : (bytes : List ℕ) → 1 ≤ length bytes → first_operation w bytes ≡ None → request_of w bytes ≡ None
  request-none [] some e = absurd (omega (arith, some))
  request-none (letter ∷ bytes) some e = ap (request_behind (request_by w (length bytes))) e

  pub in_front-some : (commands : List (Command R)) (rest : Option (List (Command R))) → is_some (in_front commands rest) ≡ is_some rest
  in_front-some commands None = refl
  in_front-some commands (Some behind) = refl
