-- Rows, kinds of faults, and the value in a word.
use Rattle.std.proofs.Common.{◌≡◌, ◌∙◌, ℕ, Bool, true, false, not, cond, ◌&&◌, ◌||◌, ◌==◌, refl, sym, ap, arith, List, [], ◌∷◌, ◌++◌, append-nil, append_assoc, ap₂, map, take, drop, suc, ◌+◌, Option, Some, None, bytes_eq}
use Rattle.std.specs.List.{before_first, after_first, position_or_len, list_any, list_all, find}
use Rattle.std.specs.Option.{option_and_then}
use Rattle.std.specs.Prelude.{slice_get}
use Rattle.std.proofs.Math.Bool.{and-true}
use Rattle.std.proofs.lemmas.Bool.{or_parts, and_right}
use Rattle.std.proofs.lemmas.Bool.Decides.{nat_tests}
use Rattle.clap.specs.Lexer.{has_byte}
use Rattle.clap.specs.Kinds.{Kinds, or_else}
use Rattle.clap.specs.Walk.{Text, Row, at_row, has_row, with_values, without, more_values, first_of}
use Rattle.clap.specs.declared.parser.matches.ValueSource.TheVariants.{CommandLine}
use Rattle.clap.specs.declared.builder.value_parser.Reading.TheVariants.{AsWritten}
use Rattle.clap.specs.declared.error.kind.ErrorKind.TheVariants as kind
use Rattle.ppq_words.specs.Uses.{Use, before_equals, after_equals, names_differ, value_under}

-- ---- rows

abbrev pub row : Text → Text → Row
row id v = record { id = id; values = v ∷ []; count = None; source = Some CommandLine; reading = AsWritten }

-- a value under a name that has none yet
abbrev pub add : Text → Text → List Row → Option (List Row)
add id v rows = cond (has_row id rows) None (Some (rows ++ row id v ∷ []))

abbrev pub add_all : List Use → List Row → Option (List Row)
add_all [] rows = Some rows
add_all (u ∷ us) rows = option_and_then (add_all us) (add u.0 u.1 rows)

abbrev pub add_uses : Option (List Use) → List Row → Option (List Row)
add_uses None rows = None
add_uses (Some us) rows = add_all us rows

pub at_missing : (id : Text) (change : Row → List Row) (more : List Row) (rows : List Row) → has_row id rows ≡ false → at_row id change more rows ≡ rows ++ more
at_missing id change more [] e = refl
at_missing id change more (r ∷ rs) e =
    let parts = or_parts (bytes_eq r.id id) (has_row id rs) e in
    ap (λ b. cond b (change r ++ rs) (r ∷ at_row id change more rs)) parts.0 ∙ ap (λ (z : List Row). r ∷ z) (at_missing id change more rs parts.1)

abbrev pub set_row : Text → Text → List Row → List Row
set_row id v rows = with_values id AsWritten CommandLine (v ∷ []) (without id rows)

pub set_missing : (id v : Text) (rows : List Row) → has_row id rows ≡ false → set_row id v rows ≡ rows ++ row id v ∷ []
set_missing id v rows e =
    let gone : without id rows ≡ rows = at_missing id (λ _. []) [] rows e ∙ append-nil rows in
    ap (with_values id AsWritten CommandLine (v ∷ [])) gone ∙ at_missing id (more_values CommandLine (v ∷ [])) (row id v ∷ []) rows e

pub has_row-append : (id : Text) (xs ys : List Row) → has_row id (xs ++ ys) ≡ (has_row id xs || has_row id ys)
has_row-append id [] ys = refl
has_row-append id (x ∷ xs) ys = grind (arith, nat_tests, has_row-append id xs ys)

-- ---- names and values in a word

pub before_is : (xs : List ℕ) → before_first (λ x. x == 61) xs ≡ before_equals xs
before_is [] = refl
before_is (x ∷ xs) = go (x == 61) (before_is xs)
  where
    go : (b : Bool) → before_first (λ y. y == 61) xs ≡ before_equals xs
        → take (cond (not b) (1 + position_or_len (λ y. y == 61) xs) 0) (x ∷ xs) ≡ cond b [] (x ∷ before_equals xs)
    go true e = refl
    go false e = let one : 1 + position_or_len (λ y. y == 61) xs ≡ suc (position_or_len (λ y. y == 61) xs) = omega arith in rw one (ap (λ (z : List ℕ). x ∷ z) e)

pub after_is : (xs : List ℕ) → cond (has_byte 61 xs) (Some (after_first (λ x. x == 61) xs)) None ≡ after_equals xs
after_is [] = refl
after_is (x ∷ xs) = go (x == 61) (after_is xs)
  where
    go : (b : Bool) → cond (has_byte 61 xs) (Some (after_first (λ y. y == 61) xs)) None ≡ after_equals xs
        → cond (b || has_byte 61 xs) (Some (drop (cond (not b) (1 + position_or_len (λ y. y == 61) xs) 0 + 1) (x ∷ xs))) None ≡ cond b (Some xs) (after_equals xs)
    go true e = refl
    go false e =
        let one : 1 + position_or_len (λ y. y == 61) xs + 1 ≡ suc (position_or_len (λ y. y == 61) xs + 1) = omega arith in
        ap (λ (k : ℕ). cond (has_byte 61 xs) (Some (drop k (x ∷ xs))) None) one ∙ e

-- ---- kinds

abbrev pub clean : Kinds → Bool
clean [] = true
clean (k ∷ ks) = false

pub clean-or_else : (a b : Kinds) → clean (or_else a b) ≡ (clean a && clean b)
clean-or_else [] b = refl
clean-or_else (k ∷ ks) b = refl

-- one value waits to be settled
pub settled_once : (id v : Text) (rows : List Row)
    → cond (clean (or_else (cond (has_row id rows && true) (kind.ArgumentConflict ∷ []) []) [])) (Some (set_row id v rows)) None ≡ add id v rows
settled_once id v rows = go (has_row id rows) refl
  where
    go : (b : Bool) → has_row id rows ≡ b
        → cond (clean (or_else (cond (b && true) (kind.ArgumentConflict ∷ []) []) [])) (Some (set_row id v rows)) None ≡ cond b None (Some (rows ++ row id v ∷ []))
    go true e = refl
    go false e = ap (λ (z : List Row). Some z) (set_missing id v rows e)

-- ---- small cases

pub no_default : (b : Bool) (rows : List Row) → cond b rows rows ≡ rows
no_default true rows = refl
no_default false rows = refl

pub or_true : (b : Bool) (fault : Kinds) → cond (b || true) [] fault ≡ []
or_true true fault = refl
or_true false fault = refl

pub or_else-nil : (a : Kinds) → or_else a [] ≡ a
or_else-nil [] = refl
or_else-nil (k ∷ ks) = refl

pub or_else-parts : (a b : Kinds) → or_else a b ≡ [] → (a ≡ []) × (b ≡ [])
or_else-parts [] b e = (refl, e)
or_else-parts (k ∷ ks) b e = cc

pub clean-nil : (a : Kinds) → clean a ≡ true → a ≡ []
clean-nil [] e = refl
clean-nil (k ∷ ks) e = cc

pub some_parts : {A : Type 0} (b : Bool) (x y : A) → cond b (Some x) None ≡ Some y → (b ≡ true) × (x ≡ y)
some_parts true x y e = (refl, cc)
some_parts false x y e = cc

pub then_parts : {A : Type 0} (b : Bool) (o : Option A) (y : A) → cond b o None ≡ Some y → (b ≡ true) × (o ≡ Some y)
then_parts true o y e = (refl, e)
then_parts false o y e = cc

-- ---- rows and values under names

abbrev pub row_of_use : Use → Row
row_of_use u = row u.0 u.1

pub uses_parts : (o : Option (List Use)) (rows : List Row) → add_uses o [] ≡ Some rows → (us : List Use) × (o ≡ Some us) × (add_all us [] ≡ Some rows)
uses_parts None rows e = cc
uses_parts (Some us) rows e = (us, refl, e)

pub first_under : (id : Text) (us : List Use) → first_of id (map row_of_use us) ≡ value_under id us
first_under id [] = refl
first_under id (u ∷ us) = go (bytes_eq u.0 id) (first_under id us)
  where
    go : (b : Bool) → first_of id (map row_of_use us) ≡ value_under id us
        → option_and_then (λ (r : Row). slice_get r.values 0) (cond b (Some (row_of_use u)) (find (λ r. bytes_eq r.id id) (map row_of_use us))) ≡ cond b (Some u.1) (value_under id us)
    go true e = refl
    go false e = e

-- none of the names has a row yet
abbrev are_new : List Row → List Use → Bool
are_new rows us = list_all (λ u. not (has_row u.0 rows)) us

shuffle : (h b a l : Bool) → (not (h || (b || false)) && (not a && l)) ≡ (not (b || a) && (not h && l))
shuffle h b a l = grind (arith, nat_tests)

new_after : (u : Use) (us : List Use) (rows : List Row) → are_new (rows ++ row_of_use u ∷ []) us ≡ (not (list_any (λ v. bytes_eq u.0 v.0) us) && are_new rows us)
new_after u [] rows = refl
new_after u (v ∷ us) rows =
    ap₂ (λ (x y : Bool). not x && y) (has_row-append v.0 rows (row_of_use u ∷ [])) (new_after u us rows)
    ∙ shuffle (has_row v.0 rows) (bytes_eq u.0 v.0) (list_any (λ w. bytes_eq u.0 w.0) us) (are_new rows us)

regroup : (n a l : Bool) → (n && (not a && l)) ≡ ((not a && n) && l)
regroup n a l = grind (arith, nat_tests)

add_all-new : (us : List Use) (rows : List Row) → add_all us rows ≡ cond (names_differ us && are_new rows us) (Some (rows ++ map row_of_use us)) None
add_all-new [] rows = ap (λ (z : List Row). Some z) (sym (append-nil rows))
add_all-new (u ∷ us) rows = go (has_row u.0 rows) (add_all-new us (rows ++ row_of_use u ∷ []))
  where
    go : (b : Bool) → add_all us (rows ++ row_of_use u ∷ []) ≡ cond (names_differ us && are_new (rows ++ row_of_use u ∷ []) us) (Some ((rows ++ row_of_use u ∷ []) ++ map row_of_use us)) None
        → option_and_then (add_all us) (cond b None (Some (rows ++ row_of_use u ∷ [])))
        ≡ cond ((not (list_any (λ v. bytes_eq u.0 v.0) us) && names_differ us) && (not b && are_new rows us)) (Some (rows ++ row_of_use u ∷ map row_of_use us)) None
    go true ih = sym (ap (λ (t : Bool). cond t (Some (rows ++ row_of_use u ∷ map row_of_use us)) None) (and_right (not (list_any (λ v. bytes_eq u.0 v.0) us) && names_differ us) false refl))
    go false ih =
        ih ∙ ap₂ (λ (t : Bool) (z : List Row). cond t (Some z) None)
        (ap (λ (t : Bool). names_differ us && t) (new_after u us rows) ∙ regroup (names_differ us) (list_any (λ v. bytes_eq u.0 v.0) us) (are_new rows us))
        (append_assoc rows (row_of_use u ∷ []) (map row_of_use us))

all_new : (us : List Use) → are_new [] us ≡ true
all_new [] = refl
all_new (u ∷ us) = all_new us

-- the rows of uses, where no name stands twice
pub add_all-rows : (us : List Use) → add_all us [] ≡ cond (names_differ us) (Some (map row_of_use us)) None
add_all-rows us =
    add_all-new us [] ∙ ap (λ (t : Bool). cond t (Some (map row_of_use us)) None) (ap (λ (t : Bool). names_differ us && t) (all_new us) ∙ and-true (names_differ us))
