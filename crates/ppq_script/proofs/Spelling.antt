-- Lemmas on numbers, commands and lines as they are spelled.
use Rattle.std.proofs.Common.{◌≡◌, ℕ, zero, suc, ◌+◌, ◌*◌, ◌-◌, ◌<◌, ◌≤◌, ◌^◌, List, [], ◌∷◌, ◌++◌, length, drop, Option, Some, None, Bool, true, false, cond, ◌&&◌, nat_eq, nat_lt, nat_le, refl, sym, ap, ap₂, ◌∙◌, subst, arith, codes, bytes_eq, append-nil}
use Rattle.std.specs.List.{list_all, starts_with, AllByRecursion as Each}
use Rattle.std.specs.Char.{is_ascii_digit, is_ascii_graphic}
use Rattle.std.proofs.lemmas.Bool.{and_parts, and_from, leb-true, le-leb, ltb-true}
use Rattle.std.proofs.lemmas.Bool.Decides.{Decides-eqb}
use Rattle.std.proofs.lemmas.Slice.Eq.{bytes_eq-Decides, starts_is}
use Rattle.std.proofs.lemmas.Str.{IsUtf8-from_ascii}
use Rattle.std.specs.Prelude.{IsUtf8, slice_index}
use Rattle.ppq_script.specs.declared.command.Command.{Command}
use Rattle.ppq_script.specs.declared.command.Command.TheVariants.{Push, Pop, Top, Size, Bulk, Gen, BulkPop, BulkPopLimit, Drain, BulkBegin, BulkPush, BulkEnd, LimitBegin, LimitPush, LimitTop, LimitPop, LimitEnd}
use Rattle.ppq_script.specs.Number.{value_from, number_of}
use Rattle.ppq_script.specs.Command.{command_of, many_of, session_of, limit_of, alone, one_of, two_of, both_of, in_front, numbers_of, item_made, first_item, last_item, item_of, counted, item_and_count, small_pass, push_of, gen_of, bulk_pop_of, drain_of, bulk_pop_limit_of, pass_of, bulk_push_of, limit_push_of, limit_begin_of, file_of, is_file_name}
use Rattle.ppq_script.specs.Lines.{Skipped, Plain, OfFile, kind_of, kind_of_fields, plain_or_bad, file_or_bad}
use Rattle.ppq_script.specs.Files.{file_in}
use Rattle.ppq_script.specs.Meaning.{IsDigit, Spells, SpellAll, HasNumbers, IsGraphic, IsFileName, IsSpelled, IsBulk, IsSkipped, IsBlankOrComment, Reads, ReadsFile, fields_in}
use Rattle.ppq_script.specs.Words.{Words}
use Rattle.ppq_script.proofs.NumberLemmas.{number_of-is}
use Rattle.ppq_script.proofs.WordLaws.{Laws}

all_digits : (digits : List ℕ) → list_all is_ascii_digit digits ≡ true → Each IsDigit digits
all_digits [] e = tt
all_digits (d ∷ ds) e =
    let both = and_parts (is_ascii_digit d) (list_all is_ascii_digit ds) e in
    let ends = and_parts (nat_le 48 d) (nat_le d 57) both.0 in
    ((leb-true 48 d ends.0, leb-true d 57 ends.1), all_digits ds both.1)

list_all-digits : (digits : List ℕ) → Each IsDigit digits → list_all is_ascii_digit digits ≡ true
list_all-digits [] h = refl
list_all-digits (d ∷ ds) h =
    and_from (is_ascii_digit d) (list_all is_ascii_digit ds) (and_from (nat_le 48 d) (nat_le d 57) (le-leb 48 d h.0.0) (le-leb d 57 h.0.1)) (list_all-digits ds h.1)

four_parts : (a b c d : Bool) (v n : ℕ) → cond (a && b && c && d) (Some v) None ≡ Some n → (a ≡ true) × (b ≡ true) × (c ≡ true) × (d ≡ true) × (v ≡ n)
four_parts true true true true v n e = (refl, refl, refl, refl, cc)
four_parts true true true false v n e = cc
four_parts true true false d v n e = cc
four_parts true false c d v n e = cc
four_parts false b c d v n e = cc

pub Spells-number_of : (digits : List ℕ) (n : ℕ) → number_of digits ≡ Some n → Spells digits n
Spells-number_of digits n e =
    let parts = four_parts (list_all is_ascii_digit digits) (nat_lt (value_from 0 digits) (2 ^ 64)) (nat_le 1 (length digits)) (nat_le (length digits) 20) (value_from 0 digits) n e in
    let below = ltb-true (value_from 0 digits) (2 ^ 64) parts.1 in
    record {
      all_digits = all_digits digits parts.0;
      some = leb-true 1 (length digits) parts.2;
      few = leb-true (length digits) 20 parts.3;
      value = parts.4;
      fits = subst (λ (v : ℕ). v < 2 ^ 64) parts.4 below;
    }

pub number_of-Spells : (digits : List ℕ) (n : ℕ) → Spells digits n → number_of digits ≡ Some n
number_of-Spells digits n h =
    number_of-is digits (list_all-digits digits h.all_digits) (subst (λ (v : ℕ). v < 2 ^ 64) (sym h.value) h.fits) h.some h.few ∙ ap (λ (v : ℕ). Some v) h.value

pub value_from-append : (n : ℕ) (digits : List ℕ) (digit : ℕ) → value_from n (digits ++ digit ∷ []) ≡ 10 * value_from n digits + (digit - 48)
value_from-append n [] digit = omega arith
value_from-append n (d ∷ ds) digit = value_from-append (n * 10 + (d - 48)) ds digit

-- a name that is this word, or another one
by_test : {P X : Type 0} → (name word : List ℕ) (this that : Option X) (c : X) (t : Bool) → bytes_eq name word ≡ t → (name ≡ word → this ≡ Some c → P) → (that ≡ Some c → P) → cond t this that ≡ Some c → P
by_test name word this that c true is here other e = here ((bytes_eq-Decides name word).0 is) e
by_test name word this that c false is here other e = other e

pub by_name : {P X : Type 0} → (name word : List ℕ) (this that : Option X) (c : X) → (name ≡ word → this ≡ Some c → P) → (that ≡ Some c → P) → cond (bytes_eq name word) this that ≡ Some c → P
by_name name word this that c = by_test name word this that c (bytes_eq name word) refl

-- the parts of what was read
both_parts : {X Y : Type 0} → (x : Option X) (y : Option Y) (p : X × Y) → both_of x y ≡ Some p → (x ≡ Some p.0) × (y ≡ Some p.1)
both_parts None y p e = cc
both_parts (Some x) None p e = cc
both_parts {X = X} {Y = Y} (Some x) (Some y) p e = let is : (x, y) ≡ p = cc in (ap (λ (q : X × Y). Some q.0) is, ap (λ (q : X × Y). Some q.1) is)

pub in_front_parts : (o : Option ℕ) (r : Option (List ℕ × List (List ℕ))) (p : List ℕ × List (List ℕ)) → in_front o r ≡ Some p
    → (n : ℕ) × ((q : List ℕ × List (List ℕ)) × ((o ≡ Some n) × ((r ≡ Some q) × ((n ∷ q.0, q.1) ≡ p))))
in_front_parts None r p e = cc
in_front_parts (Some n) None p e = cc
in_front_parts (Some n) (Some q) p e = (n, (q, (refl, (refl, cc))))

alone_parts : {X : Type 0} (x : X) (fields : List (List ℕ)) (y : X) → alone x fields ≡ Some y → (x ≡ y) × (fields ≡ [])
alone_parts x [] y e = (cc, refl)
alone_parts x (field ∷ fields) y e = cc

last_parts : {R : Type 0} (o : Option (R × List (List ℕ))) (item : R) → last_item o ≡ Some item → (first : R × List (List ℕ)) × ((o ≡ Some first) × ((first.0 ≡ item) × (first.1 ≡ [])))
last_parts None item e = cc
last_parts (Some first) item e = (first, (refl, alone_parts first.0 first.1 item e))

counted_parts : {R : Type 0} (o : Option (R × List (List ℕ))) (p : R × ℕ) → counted o ≡ Some p → (first : R × List (List ℕ)) × ((o ≡ Some first) × ((first.0 ≡ p.0) × (one_of first.1 ≡ Some p.1)))
counted_parts None p e = cc
counted_parts (Some first) p e = let both = both_parts (Some first.0) (one_of first.1) p e in (first, (refl, (cc, both.1)))

small_parts : {R : Type 0} (o : Option (ℕ × R)) (push : ℕ × R) → small_pass o ≡ Some push → (o ≡ Some push) × (push.0 ≤ 4294967295)
small_parts None push e = cc
small_parts {R = R} (Some p) push e = by_size (nat_le p.0 4294967295) refl e
  where
    by_size : (t : Bool) → nat_le p.0 4294967295 ≡ t → cond t (Some p) None ≡ Some push → (Some p ≡ Some push) × (push.0 ≤ 4294967295)
    by_size true is e = (e, let same : p ≡ push = cc in subst (λ (q : ℕ × R). q.0 ≤ 4294967295) same (leb-true p.0 4294967295 is))
    by_size false is e = cc

-- numbers that were read are spelled
one_spelled : (fields : List (List ℕ)) (n : ℕ) → one_of fields ≡ Some n → SpellAll fields (n ∷ [])
one_spelled [] n e = cc
one_spelled (digits ∷ []) n e = (Spells-number_of digits n e, tt)
one_spelled (digits ∷ more ∷ fields) n e = cc

two_spelled : (fields : List (List ℕ)) (p : ℕ × ℕ) → two_of fields ≡ Some p → SpellAll fields (p.0 ∷ p.1 ∷ [])
two_spelled [] p e = cc
two_spelled (one ∷ fields) p e =
    let both = both_parts (number_of one) (one_of fields) p e in
    (Spells-number_of one p.0 both.0, one_spelled fields p.1 both.1)

-- these numbers were read, as many as were asked for, and these fields stand behind theirs
abbrev AreRead : ℕ → List (List ℕ) → List ℕ × List (List ℕ) → Type 0
AreRead n fields p = (length p.0 ≡ n) × ((more : List ℕ) → SpellAll p.1 more → SpellAll fields (p.0 ++ more))

numbers_spelled : (n : ℕ) (fields : List (List ℕ)) (p : List ℕ × List (List ℕ)) → numbers_of n fields ≡ Some p → AreRead n fields p
numbers_spelled zero fields p e = let is : ([], fields) ≡ p = cc in subst (AreRead 0 fields) is (refl, λ more h. h)
numbers_spelled (suc n) [] p e = cc
numbers_spelled (suc n) (field ∷ fields) p e =
    let parts = in_front_parts (number_of field) (numbers_of n fields) p e in
    let rest = numbers_spelled n fields parts.1.0 parts.1.1.1.0 in
    subst (AreRead (suc n) (field ∷ fields)) parts.1.1.1.1 (ap suc rest.0, λ more h. (Spells-number_of field parts.0 parts.1.1.0, rest.1 more h))

-- and the other way round
alone_read : {X : Type 0} (x : X) (fields : List (List ℕ)) → SpellAll fields [] → alone x fields ≡ Some x
alone_read x [] h = refl
alone_read x (field ∷ fields) h = absurd h

one_read : (fields : List (List ℕ)) (n : ℕ) → SpellAll fields (n ∷ []) → one_of fields ≡ Some n
one_read [] n h = absurd h
one_read (digits ∷ []) n h = number_of-Spells digits n h.0
one_read (digits ∷ more ∷ fields) n h = absurd h.1

two_read : (fields : List (List ℕ)) (n m : ℕ) → SpellAll fields (n ∷ m ∷ []) → two_of fields ≡ Some (n, m)
two_read [] n m h = absurd h
two_read (one ∷ fields) n m h = ap₂ (λ (a b : Option ℕ). both_of a b) (number_of-Spells one n h.0) (one_read fields m h.1)

numbers_read : (ns more : List ℕ) (fields : List (List ℕ)) → SpellAll fields (ns ++ more) → (rest : List (List ℕ)) × ((numbers_of (length ns) fields ≡ Some (ns, rest)) × SpellAll rest more)
numbers_read [] more fields h = (fields, (refl, h))
numbers_read (n ∷ ns) more [] h = absurd h
numbers_read (n ∷ ns) more (field ∷ fields) h =
    let read = numbers_read ns more fields h.1 in
    (read.0, (ap₂ (λ (o : Option ℕ) (r : Option (List ℕ × List (List ℕ))). in_front o r) (number_of-Spells field n h.0) read.1.0, read.1.1))

few_enough : {R : Type 0} (p : ℕ × ℕ) (c : Command R) (t : Bool) → nat_le p.1 4294967296 ≡ t → cond t (Some (Gen p.0 p.1)) None ≡ Some c → (p.1 ≤ 4294967296) × (Gen p.0 p.1 ≡ c)
few_enough p c true is e = (leb-true p.1 4294967296 is, cc)
few_enough p c false is e = cc

-- the cases of fields behind a name
plain_case : {R : Type 0} (t u : Bool) (f : Option (List ℕ)) (o : Option (Command R)) (c : Command R) → cond t Skipped (cond u (file_or_bad f) (plain_or_bad o)) ≡ Plain c → o ≡ Some c
plain_case true u f o c e = cc
plain_case false true None o c e = cc
plain_case false true (Some n) o c e = cc
plain_case false false f None c e = cc
plain_case {R = R} false false f (Some d) c e = let is : d ≡ c = cc in ap (λ (d : Command R). Some d) is

file_case : {R : Type 0} (t u : Bool) (f : Option (List ℕ)) (o : Option (Command R)) (name : List ℕ) → cond t Skipped (cond u (file_or_bad f) (plain_or_bad o)) ≡ OfFile name → (u ≡ true) × (f ≡ Some name)
file_case true u f o name e = cc
file_case false true None o name e = cc
file_case false true (Some n) o name e = let is : n ≡ name = cc in (refl, ap (λ (n : List ℕ). Some n) is)
file_case false false f None name e = cc
file_case false false f (Some d) name e = cc

skipped_case : {R : Type 0} (t u : Bool) (f : Option (List ℕ)) (o : Option (Command R)) → cond t Skipped (cond u (file_or_bad f) (plain_or_bad o)) ≡ Skipped → t ≡ true
skipped_case true u f o e = refl
skipped_case false true None o e = cc
skipped_case false true (Some n) o e = cc
skipped_case false false f None e = cc
skipped_case false false f (Some d) e = cc

-- fields that are read as a command spell it, and the other way round
module _ {R : Type 0} (words : Words R) (laws : Laws words) where
  item_made_parts : (o : Option (List ℕ × List (List ℕ))) (first : R × List (List ℕ)) → item_made words o ≡ Some first → (p : List ℕ × List (List ℕ)) × ((o ≡ Some p) × ((words.of_fields p.0, p.1) ≡ first))
  item_made_parts None first e = cc
  item_made_parts (Some p) first e = (p, (refl, cc))

  -- a record was read, and these fields stand behind it
  abbrev IsReadFirst : List (List ℕ) → R × List (List ℕ) → Type 0
  IsReadFirst fields first = (more : List ℕ) → SpellAll first.1 more → SpellAll fields (words.fields_of first.0 ++ more)

  first_spelled : (fields : List (List ℕ)) (first : R × List (List ℕ)) → first_item words fields ≡ Some first → IsReadFirst fields first
  first_spelled fields first e =
      let made = item_made_parts (numbers_of words.COUNT fields) first e in
      let read = numbers_spelled words.COUNT fields made.0 made.1.0 in
      subst (IsReadFirst fields) made.1.1 (λ more h. subst (λ (f : List ℕ). SpellAll fields (f ++ more)) (sym (laws.own made.0.0 read.0)) (read.1 more h))

  first_read : (item : R) (more : List ℕ) (fields : List (List ℕ)) → SpellAll fields (words.fields_of item ++ more) → (rest : List (List ℕ)) × ((first_item words fields ≡ Some (item, rest)) × SpellAll rest more)
  first_read item more fields h =
      let read = numbers_read (words.fields_of item) more fields h in
      let whole = ap (λ (n : ℕ). item_made words (numbers_of n fields)) (sym (laws.count item)) ∙ ap (item_made words) read.1.0 ∙ ap (λ (i : R). Some (i, read.0)) (laws.back item) in
      (read.0, (whole, read.1.1))

  item_spelled : (fields : List (List ℕ)) (item : R) → item_of words fields ≡ Some item → SpellAll fields (words.fields_of item)
  item_spelled fields item e =
      let parts = last_parts (first_item words fields) item e in
      let whole : SpellAll fields (words.fields_of parts.0.0 ++ []) = first_spelled fields parts.0 parts.1.0 [] (subst (λ (rest : List (List ℕ)). SpellAll rest []) (sym parts.1.1.1) tt) in
      subst (λ (i : R). SpellAll fields (words.fields_of i)) parts.1.1.0 (subst (SpellAll fields) (append-nil (words.fields_of parts.0.0)) whole)

  item_read : (fields : List (List ℕ)) (item : R) → SpellAll fields (words.fields_of item) → item_of words fields ≡ Some item
  item_read fields item h =
      let read = first_read item [] fields (subst (SpellAll fields) (sym (append-nil (words.fields_of item))) h) in
      ap last_item read.1.0 ∙ alone_read item read.0 read.1.1

  count_spelled : (fields : List (List ℕ)) (p : R × ℕ) → item_and_count words fields ≡ Some p → SpellAll fields (words.fields_of p.0 ++ p.1 ∷ [])
  count_spelled fields p e =
      let parts = counted_parts (first_item words fields) p e in
      subst (λ (i : R). SpellAll fields (words.fields_of i ++ p.1 ∷ [])) parts.1.1.0 (first_spelled fields parts.0 parts.1.0 (p.1 ∷ []) (one_spelled parts.0.1 p.1 parts.1.1.1))

  count_read : (fields : List (List ℕ)) (limit : R) (count : ℕ) → SpellAll fields (words.fields_of limit ++ count ∷ []) → item_and_count words fields ≡ Some (limit, count)
  count_read fields limit count h =
      let read = first_read limit (count ∷ []) fields h in
      ap counted read.1.0 ∙ ap (λ (n : Option ℕ). both_of (Some limit) n) (one_read read.0 count read.1.1)

  pass_spelled : (fields : List (List ℕ)) (push : ℕ × R) → pass_of words fields ≡ Some push → SpellAll fields (push.0 ∷ words.fields_of push.1) × (push.0 ≤ 4294967295)
  pass_spelled [] push e = cc
  pass_spelled (field ∷ fields) push e =
      let small = small_parts (both_of (number_of field) (item_of words fields)) push e in
      let both = both_parts (number_of field) (item_of words fields) push small.0 in
      ((Spells-number_of field push.0 both.0, item_spelled fields push.1 both.1), small.1)

  pass_read : (fields : List (List ℕ)) (pass : ℕ) (item : R) → SpellAll fields (pass ∷ words.fields_of item) → pass ≤ 4294967295 → pass_of words fields ≡ Some (pass, item)
  pass_read [] pass item h few = absurd h
  pass_read (field ∷ fields) pass item h few =
      ap₂ (λ (a : Option ℕ) (b : Option R). small_pass (both_of a b)) (number_of-Spells field pass h.0) (item_read fields item h.1)
      ∙ ap (λ (t : Bool). cond t (Some (pass, item)) None) (le-leb pass 4294967295 few)

  -- what reads as a command spells it
  abbrev Is : List ℕ → List (List ℕ) → Command R → Type 0
  Is name fields c = IsSpelled words (name ∷ fields) c

  spells_alone : (name word : List ℕ) (fields : List (List ℕ)) (command c : Command R) → (name ≡ word → Is name [] command) → name ≡ word → alone command fields ≡ Some c → Is name fields c
  spells_alone name word [] command c spelled n e = let is : command ≡ c = cc in subst (Is name []) is (spelled n)
  spells_alone name word (field ∷ fields) command c spelled n e = cc

  spells_push : (name : List ℕ) (fields : List (List ℕ)) (o : Option R) (c : Command R) → item_of words fields ≡ o → name ≡ codes "push" → push_of o ≡ Some c → Is name fields c
  spells_push name fields None c read n e = cc
  spells_push name fields (Some item) c read n e = let is : Push item ≡ c = cc in subst (Is name fields) is (n, item_spelled fields item read)

  spells_gen : (name : List ℕ) (fields : List (List ℕ)) (o : Option (ℕ × ℕ)) (c : Command R) → two_of fields ≡ o → name ≡ codes "gen" → gen_of o ≡ Some c → Is name fields c
  spells_gen name fields None c read n e = cc
  spells_gen name fields (Some p) c read n e =
      let few = few_enough p c (nat_le p.1 4294967296) refl e in
      subst (Is name fields) few.1 ((n, two_spelled fields p read), few.0)

  spells_bulk_pop : (name : List ℕ) (fields : List (List ℕ)) (o : Option ℕ) (c : Command R) → one_of fields ≡ o → name ≡ codes "bulk_pop" → bulk_pop_of o ≡ Some c → Is name fields c
  spells_bulk_pop name fields None c read n e = cc
  spells_bulk_pop name fields (Some k) c read n e = let is : BulkPop k ≡ c = cc in subst (Is name fields) is (n, one_spelled fields k read)

  spells_drain : (name : List ℕ) (fields : List (List ℕ)) (o : Option ℕ) (c : Command R) → one_of fields ≡ o → name ≡ codes "drain" → drain_of o ≡ Some c → Is name fields c
  spells_drain name fields None c read n e = cc
  spells_drain name fields (Some k) c read n e = let is : Drain k ≡ c = cc in subst (Is name fields) is (n, one_spelled fields k read)

  spells_bulk_pop_limit : (name : List ℕ) (fields : List (List ℕ)) (o : Option (R × ℕ)) (c : Command R) → item_and_count words fields ≡ o → name ≡ codes "bulk_pop_limit" → bulk_pop_limit_of o ≡ Some c → Is name fields c
  spells_bulk_pop_limit name fields None c read n e = cc
  spells_bulk_pop_limit name fields (Some p) c read n e = let is : BulkPopLimit p.0 p.1 ≡ c = cc in subst (Is name fields) is (n, count_spelled fields p read)

  spells_bulk_push : (name : List ℕ) (fields : List (List ℕ)) (o : Option (ℕ × R)) (c : Command R) → pass_of words fields ≡ o → name ≡ codes "bulk_push" → bulk_push_of o ≡ Some c → Is name fields c
  spells_bulk_push name fields None c read n e = cc
  spells_bulk_push name fields (Some p) c read n e =
      let is : BulkPush p.0 p.1 ≡ c = cc in
      let spelled = pass_spelled fields p read in
      subst (Is name fields) is ((n, spelled.0), spelled.1)

  spells_limit_push : (name : List ℕ) (fields : List (List ℕ)) (o : Option (ℕ × R)) (c : Command R) → pass_of words fields ≡ o → name ≡ codes "limit_push" → limit_push_of o ≡ Some c → Is name fields c
  spells_limit_push name fields None c read n e = cc
  spells_limit_push name fields (Some p) c read n e =
      let is : LimitPush p.0 p.1 ≡ c = cc in
      let spelled = pass_spelled fields p read in
      subst (Is name fields) is ((n, spelled.0), spelled.1)

  spells_limit_begin : (name : List ℕ) (fields : List (List ℕ)) (o : Option R) (c : Command R) → item_of words fields ≡ o → name ≡ codes "limit_begin" → limit_begin_of o ≡ Some c → Is name fields c
  spells_limit_begin name fields None c read n e = cc
  spells_limit_begin name fields (Some item) c read n e = let is : LimitBegin item ≡ c = cc in subst (Is name fields) is (n, item_spelled fields item read)

  spells_limit : (name : List ℕ) (fields : List (List ℕ)) (c : Command R) → limit_of words name fields ≡ Some c → Is name fields c
  spells_limit name fields c e =
      by_name name (codes "limit_begin") _ _ c (spells_limit_begin name fields (item_of words fields) c refl)
      (by_name name (codes "limit_push") _ _ c (spells_limit_push name fields (pass_of words fields) c refl)
      (by_name name (codes "limit_top") _ _ c (spells_alone name (codes "limit_top") fields LimitTop c (λ n. (n, tt)))
      (by_name name (codes "limit_pop") _ _ c (spells_alone name (codes "limit_pop") fields LimitPop c (λ n. (n, tt)))
      (by_name name (codes "limit_end") _ _ c (spells_alone name (codes "limit_end") fields LimitEnd c (λ n. (n, tt))) (λ (none : None ≡ Some c). cc))))) e

  spells_session : (name : List ℕ) (fields : List (List ℕ)) (c : Command R) → session_of words name fields ≡ Some c → Is name fields c
  spells_session name fields c e =
      by_name name (codes "bulk_begin") _ _ c (spells_alone name (codes "bulk_begin") fields BulkBegin c (λ n. (n, tt)))
      (by_name name (codes "bulk_push") _ _ c (spells_bulk_push name fields (pass_of words fields) c refl)
      (by_name name (codes "bulk_end") _ _ c (spells_alone name (codes "bulk_end") fields BulkEnd c (λ n. (n, tt))) (spells_limit name fields c))) e

  spells_many : (name : List ℕ) (fields : List (List ℕ)) (c : Command R) → many_of words name fields ≡ Some c → Is name fields c
  spells_many name fields c e =
      by_name name (codes "gen") _ _ c (spells_gen name fields (two_of fields) c refl)
      (by_name name (codes "bulk_pop") _ _ c (spells_bulk_pop name fields (one_of fields) c refl)
      (by_name name (codes "bulk_pop_limit") _ _ c (spells_bulk_pop_limit name fields (item_and_count words fields) c refl)
      (by_name name (codes "drain") _ _ c (spells_drain name fields (one_of fields) c refl) (spells_session name fields c)))) e

  spells_command : (name : List ℕ) (fields : List (List ℕ)) (c : Command R) → command_of words name fields ≡ Some c → Is name fields c
  spells_command name fields c e =
      by_name name (codes "push") _ _ c (spells_push name fields (item_of words fields) c refl)
      (by_name name (codes "pop") _ _ c (spells_alone name (codes "pop") fields Pop c (λ n. (n, tt)))
      (by_name name (codes "top") _ _ c (spells_alone name (codes "top") fields Top c (λ n. (n, tt)))
      (by_name name (codes "size") _ _ c (spells_alone name (codes "size") fields Size c (λ n. (n, tt))) (spells_many name fields c)))) e

  IsSpelled-Plain : (fields : List (List ℕ)) (c : Command R) → kind_of_fields words fields ≡ Plain c → IsSpelled words fields c
  IsSpelled-Plain [] c e = cc
  IsSpelled-Plain (name ∷ fields) c e =
      spells_command name fields c (plain_case (starts_with nat_eq name (codes "#")) (bytes_eq name (codes "bulk")) (file_of fields) (command_of words name fields) c e)

  -- and what spells a command reads as it
  plain : (fields : List (List ℕ)) (c : Command R) (word : List ℕ) (numbers : List ℕ) → HasNumbers word fields numbers → ((rest : List (List ℕ)) → SpellAll rest numbers → kind_of_fields words (word ∷ rest) ≡ Plain c) → kind_of_fields words fields ≡ Plain c
  plain [] c word numbers h next = absurd h
  plain (name ∷ fields) c word numbers h next = ap (λ (w : List ℕ). kind_of_fields words (w ∷ fields)) h.0 ∙ next fields h.1

  by_itself : (c : Command R) (rest : List (List ℕ)) → SpellAll rest [] → plain_or_bad (alone c rest) ≡ Plain c
  by_itself c rest s = ap plain_or_bad (alone_read c rest s)

  Plain-IsSpelled : (fields : List (List ℕ)) (c : Command R) → IsSpelled words fields c → kind_of_fields words fields ≡ Plain c
  Plain-IsSpelled fields (Push item) h = plain fields (Push item) (codes "push") (words.fields_of item) h (λ rest s. ap (λ (o : Option R). plain_or_bad (push_of o)) (item_read rest item s))
  Plain-IsSpelled fields Pop h = plain fields Pop (codes "pop") [] h (λ rest s. by_itself Pop rest s)
  Plain-IsSpelled fields Top h = plain fields Top (codes "top") [] h (λ rest s. by_itself Top rest s)
  Plain-IsSpelled fields Size h = plain fields Size (codes "size") [] h (λ rest s. by_itself Size rest s)
  Plain-IsSpelled fields (Bulk file length) h = absurd h
  Plain-IsSpelled fields (Gen seed count) h =
      plain fields (Gen seed count) (codes "gen") (seed ∷ count ∷ []) h.0 (λ rest s. (
      ap (λ (o : Option (ℕ × ℕ)). plain_or_bad (gen_of o)) (two_read rest seed count s) ∙ ap (λ (t : Bool). plain_or_bad (cond t (Some (Gen seed count)) None)) (le-leb count 4294967296 h.1)))
  Plain-IsSpelled fields (BulkPop count) h = plain fields (BulkPop count) (codes "bulk_pop") (count ∷ []) h (λ rest s. ap (λ (o : Option ℕ). plain_or_bad (bulk_pop_of o)) (one_read rest count s))
  Plain-IsSpelled fields (BulkPopLimit limit count) h =
      plain fields (BulkPopLimit limit count) (codes "bulk_pop_limit") (words.fields_of limit ++ count ∷ []) h (λ rest s. ap (λ (o : Option (R × ℕ)). plain_or_bad (bulk_pop_limit_of o)) (count_read rest limit count s))
  Plain-IsSpelled fields (Drain count) h = plain fields (Drain count) (codes "drain") (count ∷ []) h (λ rest s. ap (λ (o : Option ℕ). plain_or_bad (drain_of o)) (one_read rest count s))
  Plain-IsSpelled fields BulkBegin h = plain fields BulkBegin (codes "bulk_begin") [] h (λ rest s. by_itself BulkBegin rest s)
  Plain-IsSpelled fields (BulkPush pass item) h =
      plain fields (BulkPush pass item) (codes "bulk_push") (pass ∷ words.fields_of item) h.0 (λ rest s. ap (λ (o : Option (ℕ × R)). plain_or_bad (bulk_push_of o)) (pass_read rest pass item s h.1))
  Plain-IsSpelled fields BulkEnd h = plain fields BulkEnd (codes "bulk_end") [] h (λ rest s. by_itself BulkEnd rest s)
  Plain-IsSpelled fields (LimitBegin limit) h =
      plain fields (LimitBegin limit) (codes "limit_begin") (words.fields_of limit) h (λ rest s. ap (λ (o : Option R). plain_or_bad (limit_begin_of o)) (item_read rest limit s))
  Plain-IsSpelled fields (LimitPush pass item) h =
      plain fields (LimitPush pass item) (codes "limit_push") (pass ∷ words.fields_of item) h.0 (λ rest s. ap (λ (o : Option (ℕ × R)). plain_or_bad (limit_push_of o)) (pass_read rest pass item s h.1))
  Plain-IsSpelled fields LimitTop h = plain fields LimitTop (codes "limit_top") [] h (λ rest s. by_itself LimitTop rest s)
  Plain-IsSpelled fields LimitPop h = plain fields LimitPop (codes "limit_pop") [] h (λ rest s. by_itself LimitPop rest s)
  Plain-IsSpelled fields LimitEnd h = plain fields LimitEnd (codes "limit_end") [] h (λ rest s. by_itself LimitEnd rest s)

  -- a command that is spelled names no file
  file_in-IsSpelled : (fields : List (List ℕ)) (c : Command R) → IsSpelled words fields c → file_in c ≡ None
  file_in-IsSpelled fields (Push item) h = refl
  file_in-IsSpelled fields Pop h = refl
  file_in-IsSpelled fields Top h = refl
  file_in-IsSpelled fields Size h = refl
  file_in-IsSpelled fields (Bulk file length) h = absurd h
  file_in-IsSpelled fields (Gen seed count) h = refl
  file_in-IsSpelled fields (BulkPop count) h = refl
  file_in-IsSpelled fields (BulkPopLimit limit count) h = refl
  file_in-IsSpelled fields (Drain count) h = refl
  file_in-IsSpelled fields BulkBegin h = refl
  file_in-IsSpelled fields (BulkPush pass item) h = refl
  file_in-IsSpelled fields BulkEnd h = refl
  file_in-IsSpelled fields (LimitBegin limit) h = refl
  file_in-IsSpelled fields (LimitPush pass item) h = refl
  file_in-IsSpelled fields LimitTop h = refl
  file_in-IsSpelled fields LimitPop h = refl
  file_in-IsSpelled fields LimitEnd h = refl

  -- a line is read as a command where it is spelled as it
  pub Reads-Plain : (line : List ℕ) (c : Command R) → kind_of words line ≡ Plain c → Reads words line c
  Reads-Plain line c e = IsSpelled-Plain (fields_in line) c e

  pub Plain-Reads : (line : List ℕ) (c : Command R) → Reads words line c → kind_of words line ≡ Plain c
  Plain-Reads line c h = Plain-IsSpelled (fields_in line) c h

  pub file_in-Reads : (line : List ℕ) (c : Command R) → Reads words line c → file_in c ≡ None
  file_in-Reads line c h = file_in-IsSpelled (fields_in line) c h

-- names of files
all_graphic : (name : List ℕ) → list_all is_ascii_graphic name ≡ true → Each IsGraphic name
all_graphic [] e = tt
all_graphic (b ∷ bs) e =
    let both = and_parts (is_ascii_graphic b) (list_all is_ascii_graphic bs) e in
    let ends = and_parts (nat_le 33 b) (nat_le b 126) both.0 in
    ((leb-true 33 b ends.0, leb-true b 126 ends.1), all_graphic bs both.1)

list_all-graphic : (name : List ℕ) → Each IsGraphic name → list_all is_ascii_graphic name ≡ true
list_all-graphic [] h = refl
list_all-graphic (b ∷ bs) h =
    and_from (is_ascii_graphic b) (list_all is_ascii_graphic bs) (and_from (nat_le 33 b) (nat_le b 126) (le-leb 33 b h.0.0) (le-leb b 126 h.0.1)) (list_all-graphic bs h.1)

three_true : (a b c : Bool) → (a && b && c) ≡ true → (a ≡ true) × ((b ≡ true) × (c ≡ true))
three_true true true true e = (refl, (refl, refl))
three_true true true false e = cc
three_true true false c e = cc
three_true false b c e = cc

all_three : (a b c : Bool) → a ≡ true → b ≡ true → c ≡ true → (a && b && c) ≡ true
all_three true true true d e f = refl
all_three true true false d e f = cc
all_three true false c d e f = cc
all_three false b c d e f = cc

pub IsFileName-is_file_name : (name : List ℕ) → is_file_name name ≡ true → IsFileName name
IsFileName-is_file_name name e =
    let parts = three_true (list_all is_ascii_graphic name) (nat_le 1 (length name)) (nat_le (length name) 255) e in
    record { all_graphic = all_graphic name parts.0; some = leb-true 1 (length name) parts.1.0; few = leb-true (length name) 255 parts.1.1 }

is_file_name-IsFileName : (name : List ℕ) → IsFileName name → is_file_name name ≡ true
is_file_name-IsFileName name h = all_three _ _ _ (list_all-graphic name h.all_graphic) (le-leb 1 (length name) h.some) (le-leb (length name) 255 h.few)

ascii_of_graphic : (bytes : List ℕ) → Each IsGraphic bytes → (i : ℕ) → slice_index bytes i < 128
ascii_of_graphic [] h i = omega arith
ascii_of_graphic (b ∷ bs) h zero = omega (arith, h.0.1)
ascii_of_graphic (b ∷ bs) h (suc i) = ascii_of_graphic bs h.1 i

-- a file name is text
pub utf8_of_file_name : (bytes : List ℕ) → is_file_name bytes ≡ true → IsUtf8 bytes
utf8_of_file_name bytes e = IsUtf8-from_ascii bytes (ascii_of_graphic bytes (IsFileName-is_file_name bytes e).all_graphic)

named : (field name : List ℕ) (t : Bool) → is_file_name field ≡ t → cond t (Some field) None ≡ Some name → (field ≡ name) × IsFileName name
named field name true is e = let same : field ≡ name = cc in (same, subst IsFileName same (IsFileName-is_file_name field is))
named field name false is e = cc

file_parts : (fields : List (List ℕ)) (name : List ℕ) → file_of fields ≡ Some name → (fields ≡ name ∷ []) × IsFileName name
file_parts [] name e = cc
file_parts (field ∷ []) name e = let h = named field name (is_file_name field) refl e in (ap (λ (f : List ℕ). f ∷ []) h.0, h.1)
file_parts (field ∷ more ∷ fields) name e = cc

-- lines of the other kinds
module _ {R : Type 0} (words : Words R) where
  IsBulk-OfFile : (fields : List (List ℕ)) (name : List ℕ) → kind_of_fields words fields ≡ OfFile name → IsBulk fields name
  IsBulk-OfFile [] name e = cc
  IsBulk-OfFile (first ∷ fields) name e =
      let parts = file_case (starts_with nat_eq first (codes "#")) (bytes_eq first (codes "bulk")) (file_of fields) (command_of words first fields) name e in
      let file = file_parts fields name parts.1 in
      record { spelled = ap₂ (λ (v : List ℕ) (fs : List (List ℕ)). v ∷ fs) ((bytes_eq-Decides first (codes "bulk")).0 parts.0) file.0; is_name = file.1 }

  OfFile-IsBulk : (fields : List (List ℕ)) (name : List ℕ) → IsBulk fields name → kind_of_fields words fields ≡ OfFile name
  OfFile-IsBulk fields name h = ap (kind_of_fields words) h.spelled ∙ ap (λ (t : Bool). file_or_bad (cond t (Some name) None)) (is_file_name-IsFileName name h.is_name)

  pub ReadsFile-OfFile : (line name : List ℕ) → kind_of words line ≡ OfFile name → ReadsFile line name
  ReadsFile-OfFile line name e = IsBulk-OfFile (fields_in line) name e

  pub OfFile-ReadsFile : (line name : List ℕ) → ReadsFile line name → kind_of words line ≡ OfFile name
  OfFile-ReadsFile line name h = OfFile-IsBulk (fields_in line) name h

  -- fields that are skipped are none, or begin with `#`
  IsSkipped-Skipped : (fields : List (List ℕ)) → kind_of_fields words fields ≡ Skipped → IsSkipped fields
  IsSkipped-Skipped [] e = tt
  IsSkipped-Skipped (name ∷ fields) e =
      let is = skipped_case (starts_with nat_eq name (codes "#")) (bytes_eq name (codes "bulk")) (file_of fields) (command_of words name fields) e in
      (drop 1 name, (starts_is Decides-eqb name (codes "#") (starts_with nat_eq name (codes "#")) refl).0 is)

  Skipped-IsSkipped : (fields : List (List ℕ)) → IsSkipped fields → kind_of_fields words fields ≡ Skipped
  Skipped-IsSkipped [] h = refl
  Skipped-IsSkipped (name ∷ fields) (more, e) =
      let is : starts_with nat_eq name (codes "#") ≡ true = (starts_is Decides-eqb name (codes "#") (starts_with nat_eq name (codes "#")) refl).1 more e in
      ap (λ (t : Bool). cond t Skipped (cond (bytes_eq name (codes "bulk")) (file_or_bad (file_of fields)) (plain_or_bad (command_of words name fields)))) is

  pub IsBlankOrComment-Skipped : (line : List ℕ) → kind_of words line ≡ Skipped → IsBlankOrComment line
  IsBlankOrComment-Skipped line e = IsSkipped-Skipped (fields_in line) e

  pub Skipped-IsBlankOrComment : (line : List ℕ) → IsBlankOrComment line → kind_of words line ≡ Skipped
  Skipped-IsBlankOrComment line h = Skipped-IsSkipped (fields_in line) h
