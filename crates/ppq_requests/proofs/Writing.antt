-- What a client writes, against the requests that are read.
use Rattle.std.proofs.Common.{◌≡◌, ◌↔◌, ◌<◌, ◌≤◌, ◌*◌, ◌/◌, ◌^◌, ◌==◌, ◌∙◌, ℕ, zero, suc, Bool, true, List, [], ◌∷◌, ◌++◌, length, take, drop, map, flat_map, All, Option, Some, None, refl, sym, ap, ap₂, subst, arith, append_assoc, append-nil, take-append-drop, length-drop, length-take-le, le-ltb, eqb-true, zero-mul, suc-mul, mul-div_cancel, get_or}
use Rattle.std.specs.Prelude.{option_map, if◌then◌else◌}
use Rattle.std.specs.Int.{w32, w64, from_be_bytes, to_be_bytes}
use Rattle.std.specs.List.{AllByRecursion as Each}
use Rattle.std.proofs.lemmas.List.{take_at, drop_at, length-append}
use Rattle.std.proofs.lemmas.List.Concat.{flat_map-cons}
use Rattle.std.proofs.lemmas.List.Elements.{All-take, All-drop, All-tail, All-cons, All-nil}
use Rattle.std.proofs.lemmas.Nat.{be_bytes_4, be_bytes_8, from_be_bytes-to_be_bytes_4, from_be_bytes-to_be_bytes_8}
use Rattle.ppq_record.specs.Given.{records_from}
use Rattle.ppq_record.proofs.Taken.{records_from-flat_map}
use Rattle.ppq_script.specs.Words.{Words}
use Rattle.ppq_script.specs.declared.command.Command.{Command}
use Rattle.ppq_script.specs.declared.command.Command.TheVariants.{Push, BulkPop, BulkPopLimit}
use Rattle.ppq_requests.specs.Requests.{cut_of, first_number, first_record, records_behind, first_records, records_in, pushes_of, pushed, numbered, limited, operation_of, first_operation, in_front, request_behind, request_by, request_of}
use Rattle.ppq_requests.specs.Meaning.{Asked, push, push_many, pop, top, bulk_pop, bulk_pop_limit, written, meant, HasBytes, CanBeWritten, Asks}
use Rattle.ppq_requests.proofs.Operations.{cut_parts, mapped, either_way, records_parts, request-operation}

-- ---- bytes and numbers

cut_front : (n : ℕ) (a b : List ℕ) → length a ≡ n → cut_of n (a ++ b) ≡ Some (a, b)
cut_front n a b long =
    ap (λ (t : Bool). if t then None else Some (take n (a ++ b), drop n (a ++ b))) (le-ltb (length (a ++ b)) n (omega (arith, long, length-append a b)))
    ∙ ap₂ (λ (x y : List ℕ). Some (x, y)) (take_at a b n long) (drop_at a b n long)

number_front : (n : ℕ) (rest : List ℕ) → n < 2 ^ 64 → first_number (to_be_bytes w64 n ++ rest) ≡ Some (n, rest)
number_front n rest fits =
    ap (option_map (λ (c : List ℕ × List ℕ). (from_be_bytes w64 c.0, c.1))) (cut_front 8 (to_be_bytes w64 n) rest refl) ∙ ap (λ (k : ℕ). Some (k, rest)) (from_be_bytes-to_be_bytes_8 n fits)

abbrev pub IsByte : ℕ → Type 0
IsByte byte = byte < 256

-- each byte of a list that may be too short
byte_at : (bytes : List ℕ) → All IsByte bytes → (i : ℕ) → get_or bytes i 0 < 256
byte_at [] below i = omega arith
byte_at (x ∷ xs) below zero = below 0 0 (omega arith)
byte_at (x ∷ xs) below (suc i) = byte_at xs (All-tail IsByte x xs below) i

word_4 : (bytes : List ℕ) → length bytes ≡ 4 → All IsByte bytes → to_be_bytes w32 (from_be_bytes w32 bytes) ≡ bytes
word_4 bytes long below = be_bytes_4 bytes (from_be_bytes w32 bytes) long (byte_at bytes below) refl

word_8 : (bytes : List ℕ) → length bytes ≡ 8 → All IsByte bytes → to_be_bytes w64 (from_be_bytes w64 bytes) ≡ bytes
word_8 bytes long below = be_bytes_8 bytes (from_be_bytes w64 bytes) long (byte_at bytes below) refl

-- numbers of bytes are in the range of their type
word_4-below : (bytes : List ℕ) → All IsByte bytes → from_be_bytes w32 bytes < 2 ^ 32
word_4-below bytes below = let at = byte_at bytes below in omega (arith, at 0, at 1, at 2, at 3)

word_8-below : (bytes : List ℕ) → All IsByte bytes → from_be_bytes w64 bytes < 2 ^ 64
word_8-below bytes below = let at = byte_at bytes below in omega (arith, at 0, at 1, at 2, at 3, at 4, at 5, at 6, at 7)

module _ {R : Type 0} (w : Words R) (long : (r : R) → length (w.bytes_of r) ≡ w.WIDTH) (some : 1 ≤ w.WIDTH) where
  -- ---- what is written is read

  record_front : (item : R) (rest : List ℕ) → HasBytes w item → first_record w (w.bytes_of item ++ rest) ≡ Some (item, rest)
  record_front item rest has =
      ap (option_map (λ (c : List ℕ × List ℕ). (w.record_of c.0, c.1))) (cut_front w.WIDTH (w.bytes_of item) rest (long item)) ∙ ap (λ (r : R). Some (r, rest)) has

  items-length : (items : List R) → length (flat_map w.bytes_of items) ≡ length items * w.WIDTH
  items-length [] = omega (arith, zero-mul w.WIDTH)
  items-length (item ∷ items) =
      ap length (flat_map-cons w.bytes_of item items) ∙ omega (arith, length-append (w.bytes_of item) (flat_map w.bytes_of items), long item, items-length items, suc-mul (length items) w.WIDTH)

  items_back : (items : List R) → All (HasBytes w) items → records_in w (flat_map w.bytes_of items) ≡ items
  items_back items has =
      let count : length (flat_map w.bytes_of items) / w.WIDTH ≡ length items = ap (λ (k : ℕ). k / w.WIDTH) (items-length items) ∙ mul-div_cancel (length items) some in
      ap₂ (λ (k : ℕ) (b : List ℕ). records_from w.record_of w.WIDTH k b) count (sym (append-nil (flat_map w.bytes_of items)))
      ∙ records_from-flat_map (HasBytes w) w.bytes_of w.record_of w.WIDTH long (λ r h. h) items [] has

  records_front : (items : List R) (rest : List ℕ) → length items < 2 ^ 32 → first_records w.WIDTH ((to_be_bytes w32 (length items) ++ flat_map w.bytes_of items) ++ rest) ≡ Some (flat_map w.bytes_of items, rest)
  records_front items rest fits =
      let n = length items in
      let bytes = flat_map w.bytes_of items in
      ap (first_records w.WIDTH) (append_assoc (to_be_bytes w32 n) bytes rest) ∙ ap (records_behind w.WIDTH) (cut_front 4 (to_be_bytes w32 n) (bytes ++ rest) refl)
      ∙ ap (λ (k : ℕ). cut_of (k * w.WIDTH) (bytes ++ rest)) (from_be_bytes-to_be_bytes_4 n fits) ∙ cut_front (n * w.WIDTH) bytes rest (items-length items)

  written_first : (asked : Asked R) (rest : List ℕ) → CanBeWritten w asked → first_operation w (written w asked ++ rest) ≡ Some (meant asked, rest)
  written_first (push item) rest can = ap pushed (record_front item rest can)
  written_first (push_many items) rest can = ap (pushes_of w) (records_front items rest can.1) ∙ ap (λ (rs : List R). Some (map Push rs, rest)) (items_back items can.0)
  written_first pop rest can = refl
  written_first top rest can = refl
  written_first (bulk_pop count) rest can = ap (numbered BulkPop) (number_front count rest can)
  written_first (bulk_pop_limit limit count) rest can =
      ap (λ (b : List ℕ). limited (first_record w b)) (append_assoc (w.bytes_of limit) (to_be_bytes w64 count) rest) ∙ ap limited (record_front limit (to_be_bytes w64 count ++ rest) can.0)
      ∙ ap (numbered (BulkPopLimit limit)) (number_front count rest can.1)

  all_written : (asked : List (Asked R)) → Each (CanBeWritten w) asked → request_of w (flat_map (written w) asked) ≡ Some (flat_map meant asked)
  all_written [] can = refl
  all_written (one ∷ asked) can =
      let rest = flat_map (written w) asked in
      ap (request_of w) (flat_map-cons (written w) one asked) ∙ request-operation w (written w one ++ rest) rest (meant one) (written_first one rest can.0)
      ∙ ap (in_front (meant one)) (all_written asked can.1) ∙ ap (λ (cs : List (Command R)). Some cs) (sym (flat_map-cons meant one asked))

  -- ---- what is read was written

  module _ (back : (b : List ℕ) → length b ≡ w.WIDTH → All IsByte b → w.bytes_of (w.record_of b) ≡ b) where
    -- bytes that begin with what a client writes who asks for this
    record Told (bytes : List ℕ) (cut : List (Command R) × List ℕ) : Type 0 where
      pub asked : Asked R
      pub can : CanBeWritten w asked
      pub spelled : bytes ≡ written w asked ++ cut.1
      pub mean : cut.0 ≡ meant asked

    record_told : (bytes : List ℕ) (cut : R × List ℕ) → All IsByte bytes → first_record w bytes ≡ Some cut → HasBytes w cut.0 × (bytes ≡ w.bytes_of cut.0 ++ cut.1)
    record_told bytes cut below e =
        let m = mapped (λ (c : List ℕ × List ℕ). (w.record_of c.0, c.1)) (cut_of w.WIDTH bytes) cut e in
        let parts = cut_parts w.WIDTH bytes m.0 m.1 in
        let head = take w.WIDTH bytes in
        let item : w.record_of head ≡ cut.0 = ap w.record_of (sym parts.0) ∙ ap (λ (c : R × List ℕ). c.0) m.2 in
        let rest : drop w.WIDTH bytes ≡ cut.1 = sym parts.1 ∙ ap (λ (c : R × List ℕ). c.1) m.2 in
        let same : w.bytes_of (w.record_of head) ≡ head = back head (length-take-le w.WIDTH bytes parts.2) (All-take IsByte w.WIDTH bytes below) in (
          ap (λ (r : R). w.record_of (w.bytes_of r)) (sym item) ∙ ap w.record_of same ∙ item,
          sym (take-append-drop w.WIDTH bytes) ∙ ap₂ (λ (x y : List ℕ). x ++ y) (sym same ∙ ap w.bytes_of item) rest,
        )

    number_told : (bytes : List ℕ) (cut : ℕ × List ℕ) → All IsByte bytes → first_number bytes ≡ Some cut → (cut.0 < 2 ^ 64) × (bytes ≡ to_be_bytes w64 cut.0 ++ cut.1)
    number_told bytes cut below e =
        let m = mapped (λ (c : List ℕ × List ℕ). (from_be_bytes w64 c.0, c.1)) (cut_of 8 bytes) cut e in
        let parts = cut_parts 8 bytes m.0 m.1 in
        let head = take 8 bytes in
        let number : from_be_bytes w64 head ≡ cut.0 = ap (from_be_bytes w64) (sym parts.0) ∙ ap (λ (c : ℕ × List ℕ). c.0) m.2 in
        let rest : drop 8 bytes ≡ cut.1 = sym parts.1 ∙ ap (λ (c : ℕ × List ℕ). c.1) m.2 in
        let few = All-take IsByte 8 bytes below in
        let same : to_be_bytes w64 (from_be_bytes w64 head) ≡ head = word_8 head (length-take-le 8 bytes parts.2) few in (
          subst (λ (n : ℕ). n < 2 ^ 64) number (word_8-below head few),
          sym (take-append-drop 8 bytes) ∙ ap₂ (λ (x y : List ℕ). x ++ y) (sym same ∙ ap (to_be_bytes w64) number) rest,
        )

    -- so many records of bytes, of which each has bytes
    items_have : (n : ℕ) (bytes : List ℕ) → All IsByte bytes → n * w.WIDTH ≤ length bytes → All (HasBytes w) (records_from w.record_of w.WIDTH n bytes)
    items_have zero bytes below fit = All-nil (HasBytes w)
    items_have (suc n) bytes below fit =
        let e = suc-mul n w.WIDTH in
        let head = take w.WIDTH bytes in
        let same : w.bytes_of (w.record_of head) ≡ head = back head (length-take-le w.WIDTH bytes (omega (arith, e, fit))) (All-take IsByte w.WIDTH bytes below) in
        All-cons (HasBytes w) (w.record_of head) (records_from w.record_of w.WIDTH n (drop w.WIDTH bytes)) (ap w.record_of same)
        (items_have n (drop w.WIDTH bytes) (All-drop IsByte w.WIDTH bytes below) (omega (arith, e, fit, length-drop w.WIDTH bytes)))

    items_bytes : (n : ℕ) (bytes : List ℕ) → All IsByte bytes → length bytes ≡ n * w.WIDTH → flat_map w.bytes_of (records_from w.record_of w.WIDTH n bytes) ≡ bytes
    items_bytes zero [] below fit = refl
    items_bytes zero (b ∷ bytes) below fit = absurd (omega (arith, fit, zero-mul w.WIDTH))
    items_bytes (suc n) bytes below fit =
        let e = suc-mul n w.WIDTH in
        let head = take w.WIDTH bytes in
        let tail = drop w.WIDTH bytes in
        let same : w.bytes_of (w.record_of head) ≡ head = back head (length-take-le w.WIDTH bytes (omega (arith, e, fit))) (All-take IsByte w.WIDTH bytes below) in
        flat_map-cons w.bytes_of (w.record_of head) (records_from w.record_of w.WIDTH n tail)
        ∙ ap₂ (λ (x y : List ℕ). x ++ y) same (items_bytes n tail (All-drop IsByte w.WIDTH bytes below) (omega (arith, e, fit, length-drop w.WIDTH bytes)))
        ∙ take-append-drop w.WIDTH bytes

    items-count : (n : ℕ) (bytes : List ℕ) → length (records_from w.record_of w.WIDTH n bytes) ≡ n
    items-count zero bytes = refl
    items-count (suc n) bytes = ap suc (items-count n (drop w.WIDTH bytes))

    records_told :
        (bytes : List ℕ) (cut : List ℕ × List ℕ) → All IsByte bytes → first_records w.WIDTH bytes ≡ Some cut
        → CanBeWritten w (push_many (records_in w cut.0)) × (bytes ≡ (to_be_bytes w32 (length (records_in w cut.0)) ++ flat_map w.bytes_of (records_in w cut.0)) ++ cut.1)
    records_told bytes cut below e =
        let four = records_parts w bytes cut e in
        let head = take 4 bytes in
        let n = from_be_bytes w32 head in
        let behind = drop 4 bytes in
        let parts = cut_parts (n * w.WIDTH) behind cut four.1 in
        let below_head = All-take IsByte 4 bytes below in
        let below_cut : All IsByte cut.0 = subst (All IsByte) (sym parts.0) (All-take IsByte (n * w.WIDTH) behind (All-drop IsByte 4 bytes below)) in
        let cut_length : length cut.0 ≡ n * w.WIDTH = ap length parts.0 ∙ length-take-le (n * w.WIDTH) behind parts.2 in
        let count : length cut.0 / w.WIDTH ≡ n = ap (λ (k : ℕ). k / w.WIDTH) cut_length ∙ mul-div_cancel n some in
        let items : records_in w cut.0 ≡ records_from w.record_of w.WIDTH n cut.0 = ap (λ (k : ℕ). records_from w.record_of w.WIDTH k cut.0) count in
        let items_are : length (records_in w cut.0) ≡ n = ap length items ∙ items-count n cut.0 in
        let word : to_be_bytes w32 (length (records_in w cut.0)) ≡ head = ap (to_be_bytes w32) items_are ∙ word_4 head (length-take-le 4 bytes four.0) below_head in
        let whole : flat_map w.bytes_of (records_in w cut.0) ≡ cut.0 = ap (flat_map w.bytes_of) items ∙ items_bytes n cut.0 below_cut cut_length in (
          (subst (All (HasBytes w)) (sym items) (items_have n cut.0 below_cut (omega (arith, cut_length))), subst (λ (k : ℕ). k < 2 ^ 32) (sym items_are) (word_4-below head below_head)),
          sym (take-append-drop 4 bytes) ∙ ap₂ (λ (x y : List ℕ). x ++ y) (sym word) (sym (take-append-drop (n * w.WIDTH) behind) ∙ ap₂ (λ (x y : List ℕ). x ++ y) (sym parts.0 ∙ sym whole) (sym parts.1))
              ∙ sym (append_assoc (to_be_bytes w32 (length (records_in w cut.0))) (flat_map w.bytes_of (records_in w cut.0)) cut.1),
        )

    operation_told : (letter : ℕ) (bytes : List ℕ) (cut : List (Command R) × List ℕ) → All IsByte bytes → operation_of w letter bytes ≡ Some cut → Told (letter ∷ bytes) cut
    operation_told letter bytes cut below e =
        either_way This (letter == 43) _ _ cut one_pushed
        (either_way This (letter == 80) _ _ cut many_pushed
        (either_way This (letter == 112) _ _ cut (alone 112 pop refl refl tt)
        (either_way This (letter == 116) _ _ cut (alone 116 top refl refl tt)
        (either_way This (letter == 110) _ _ cut counted
        (either_way This (letter == 98) _ _ cut limit (λ e. cc))))))
        e
      where
        This : List (Command R) × List ℕ → Type 0
        This c = Told (letter ∷ bytes) c

        -- a letter and what is behind it
        lettered : (is : ℕ) (asked : Asked R) (body rest : List ℕ) → letter ≡ is → bytes ≡ body ++ rest → written w asked ≡ is ∷ body → letter ∷ bytes ≡ written w asked ++ rest
        lettered is asked body rest one two spelled = ap₂ (λ (x : ℕ) (xs : List ℕ). x ∷ xs) one two ∙ ap (λ (b : List ℕ). b ++ rest) (sym spelled)

        alone : (is : ℕ) (asked : Asked R) → {command : Command R} → written w asked ≡ is ∷ [] → meant asked ≡ command ∷ [] → CanBeWritten w asked → (letter == is) ≡ true → Some (command ∷ [], bytes) ≡ Some cut → This cut
        alone is asked {command} spelled mean can test e =
            let same : (command ∷ [], bytes) ≡ cut = cc in
            record {
              asked = asked;
              can = can;
              spelled = lettered is asked [] cut.1 (eqb-true letter is test) (ap (λ (c : List (Command R) × List ℕ). c.1) same) spelled;
              mean = ap (λ (c : List (Command R) × List ℕ). c.0) (sym same) ∙ sym mean;
            }

        one_pushed : (letter == 43) ≡ true → pushed (first_record w bytes) ≡ Some cut → This cut
        one_pushed test e =
            let m = mapped (λ (c : R × List ℕ). (Push c.0 ∷ [], c.1)) (first_record w bytes) cut e in
            let told = record_told bytes m.0 below m.1 in
            let rest : m.0.1 ≡ cut.1 = ap (λ (c : List (Command R) × List ℕ). c.1) m.2 in
            record {
              asked = push m.0.0;
              can = told.0;
              spelled = lettered 43 (push m.0.0) (w.bytes_of m.0.0) cut.1 (eqb-true letter 43 test) (told.1 ∙ ap (λ (b : List ℕ). w.bytes_of m.0.0 ++ b) rest) refl;
              mean = ap (λ (c : List (Command R) × List ℕ). c.0) (sym m.2);
            }

        many_pushed : (letter == 80) ≡ true → pushes_of w (first_records w.WIDTH bytes) ≡ Some cut → This cut
        many_pushed test e =
            let m = mapped (λ (c : List ℕ × List ℕ). (map Push (records_in w c.0), c.1)) (first_records w.WIDTH bytes) cut e in
            let told = records_told bytes m.0 below m.1 in
            let rest : m.0.1 ≡ cut.1 = ap (λ (c : List (Command R) × List ℕ). c.1) m.2 in
            let items = records_in w m.0.0 in
            let body = to_be_bytes w32 (length items) ++ flat_map w.bytes_of items in
            record {
              asked = push_many items;
              can = told.0;
              spelled = lettered 80 (push_many items) body cut.1 (eqb-true letter 80 test) (told.1 ∙ ap (λ (b : List ℕ). body ++ b) rest) refl;
              mean = ap (λ (c : List (Command R) × List ℕ). c.0) (sym m.2);
            }

        counted : (letter == 110) ≡ true → numbered BulkPop (first_number bytes) ≡ Some cut → This cut
        counted test e =
            let m = mapped (λ (c : ℕ × List ℕ). (BulkPop c.0 ∷ [], c.1)) (first_number bytes) cut e in
            let told = number_told bytes m.0 below m.1 in
            let rest : m.0.1 ≡ cut.1 = ap (λ (c : List (Command R) × List ℕ). c.1) m.2 in
            record {
              asked = bulk_pop m.0.0;
              can = told.0;
              spelled = lettered 110 (bulk_pop m.0.0) (to_be_bytes w64 m.0.0) cut.1 (eqb-true letter 110 test) (told.1 ∙ ap (λ (b : List ℕ). to_be_bytes w64 m.0.0 ++ b) rest) refl;
              mean = ap (λ (c : List (Command R) × List ℕ). c.0) (sym m.2);
            }

        limit : (letter == 98) ≡ true → limited (first_record w bytes) ≡ Some cut → This cut
        limit test e = go (first_record w bytes) refl e
          where
            go : (o : Option (R × List ℕ)) → first_record w bytes ≡ o → limited o ≡ Some cut → This cut
            go None is e = cc
            go (Some first) is e =
                let told = record_told bytes first below is in
                let m = mapped (λ (c : ℕ × List ℕ). (BulkPopLimit first.0 c.0 ∷ [], c.1)) (first_number first.1) cut e in
                let below_rest : All IsByte first.1 = subst (All IsByte) (drop_at (w.bytes_of first.0) first.1 w.WIDTH (long first.0)) (All-drop IsByte w.WIDTH (w.bytes_of first.0 ++ first.1) (subst (All IsByte) told.1 below)) in
                let number = number_told first.1 m.0 below_rest m.1 in
                let rest : m.0.1 ≡ cut.1 = ap (λ (c : List (Command R) × List ℕ). c.1) m.2 in
                let word = to_be_bytes w64 m.0.0 in
                let asked = bulk_pop_limit first.0 m.0.0 in
                record {
                  asked = asked;
                  can = (told.0, number.0);
                  spelled =
                      lettered 98 asked (w.bytes_of first.0 ++ word) cut.1 (eqb-true letter 98 test)
                      (told.1 ∙ ap (λ (b : List ℕ). w.bytes_of first.0 ++ b) (number.1 ∙ ap (λ (b : List ℕ). word ++ b) rest) ∙ sym (append_assoc (w.bytes_of first.0) word cut.1)) refl;
                  mean = ap (λ (c : List (Command R) × List ℕ). c.0) (sym m.2);
                }

    all_told : (n : ℕ) (bytes : List ℕ) (commands : List (Command R)) → All IsByte bytes → request_by w n bytes ≡ Some commands → Asks w bytes commands
    all_told n [] commands below e = let none : [] ≡ commands = cc in record { asked = []; can = tt; spelled = refl; mean = sym none }
    all_told zero (letter ∷ bytes) commands below e = cc
    all_told (suc n) (letter ∷ bytes) commands below e = go (operation_of w letter bytes) refl e (all_told n)
      where
        go :
            (o : Option (List (Command R) × List ℕ)) → operation_of w letter bytes ≡ o → request_behind (request_by w n) o ≡ Some commands
            → ((rest : List ℕ) (behind : List (Command R)) → All IsByte rest → request_by w n rest ≡ Some behind → Asks w rest behind) → Asks w (letter ∷ bytes) commands
        go None is e later = cc
        go (Some cut) is e later =
            let m = mapped (λ (behind : List (Command R)). cut.0 ++ behind) (request_by w n cut.1) commands e in
            let told = operation_told letter bytes cut (All-tail IsByte letter bytes below) is in
            let one = written w told.asked in
            let below_rest : All IsByte cut.1 = subst (All IsByte) (drop_at one cut.1 (length one) refl) (All-drop IsByte (length one) (one ++ cut.1) (subst (All IsByte) told.spelled below)) in
            let rest = later cut.1 m.0 below_rest m.1 in
            record {
              asked = told.asked ∷ rest.asked;
              can = (told.can, rest.can);
              spelled = told.spelled ∙ ap (λ (b : List ℕ). one ++ b) rest.spelled ∙ sym (flat_map-cons (written w) told.asked rest.asked);
              mean = sym m.2 ∙ ap₂ (λ (x y : List (Command R)). x ++ y) told.mean rest.mean ∙ sym (flat_map-cons meant told.asked rest.asked);
            }

    -- a request is read as what was asked
    pub request_means : (bytes : List ℕ) (commands : List (Command R)) → All IsByte bytes → (request_of w bytes ≡ Some commands) ↔ Asks w bytes commands
    request_means bytes commands below =
        (λ e. all_told (length bytes) bytes commands below e, λ h. ap (request_of w) h.spelled ∙ all_written h.asked h.can ∙ ap (λ (cs : List (Command R)). Some cs) (sym h.mean))
