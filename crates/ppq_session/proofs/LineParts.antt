-- Lines that are pushed to the passes that they name: the records for one pass, line by line, and those of all passes together.
use Rattle.std.proofs.Common.{◌≡◌, inl, inr, ℕ, zero, suc, ◌+◌, ◌<◌, ◌≤◌, true, false, Bool, cond, List, [], ◌∷◌, ◌++◌, All, length, take, drop, get_or, Some, refl, sym, ap, ap₂, ◌∙◌, subst, arith, take-append-drop, Ordering}
use Rattle.std.specs.Prelude.{count_by, ◌==◌}
use Rattle.std.specs.List.{filter, AllByRecursion as Each}
use Rattle.std.proofs.lemmas.List.{take_more, map-append}
use Rattle.std.proofs.lemmas.List.Elements.{filter-append, All-head, All-tail, recursion_from_All}
use Rattle.std.proofs.lemmas.Bool.{cases_eq, eq-eqb, eqb-true}
use Rattle.ppq_pass.specs.ppq_record.Order.{is_before}
use Rattle.ppq_pass.specs.ppq_record.Bag.{IsSameBag}
use Rattle.ppq_pass.specs.ppq_fetch.Taking.{NoneBelow}
use Rattle.ppq_session.specs.Batches.{AreAbove}
use Rattle.ppq_pass.proofs.ppq_record.Order.{count_by-cons, count_by-append, IsSameBag-length}
use Rattle.ppq_pass.specs.ppq_outside.Shown.{Shown}
use Rattle.ppq_pass.specs.Passed.{PassHolding}
use Rattle.ppq_session.specs.BulkSession.{bag_of}
use Rattle.ppq_session.specs.declared.line.Line.{Line}
use Rattle.ppq_session.specs.Dealing.{Adds, EachAdds, Dealt, records_in, records_for}
use Rattle.ppq_session.proofs.Adding.{dealt-cons, dealt-none, part-same}

module _ {R : Type 0} where
  -- of lines in two parts
  records_for-append : (number : ℕ) (lines more : List (Line R)) → records_for number (lines ++ more) ≡ records_for number lines ++ records_for number more
  records_for-append number lines more =
      ap records_in (filter-append (λ line. line.pass == number) lines more) ∙ map-append (λ line. line.record) (filter (λ line. line.pass == number) lines) (filter (λ line. line.pass == number) more)

  -- one line more
  pub records_for-more : (number : ℕ) (lines : List (Line R)) (i : ℕ) (line : Line R) → i < length lines → line ≡ get_or lines i line → records_for number (take (i + 1) lines) ≡ records_for number (take i lines) ++ records_for number (line ∷ [])
  records_for-more number lines i line l is =
      ap (records_for number) (take_more lines i line l ∙ ap (λ x. take i lines ++ x ∷ []) (sym is)) ∙ records_for-append number (take i lines) (line ∷ [])

  -- the first lines, and the rest
  pub records_for-parts : (number : ℕ) (lines : List (Line R)) (n : ℕ) → records_for number lines ≡ records_for number (take n lines) ++ records_for number (drop n lines)
  records_for-parts number lines n = ap (records_for number) (sym (take-append-drop n lines)) ∙ records_for-append number (take n lines) (drop n lines)

  -- a line that names the pass, and one that does not
  pub records_for-named : (number : ℕ) (line : Line R) (lines : List (Line R)) → line.pass ≡ number → records_for number (line ∷ lines) ≡ line.record ∷ records_for number lines
  records_for-named number line lines e = ap (λ b. records_in (cond b (line ∷ filter (λ l. l.pass == number) lines) (filter (λ l. l.pass == number) lines))) (eq-eqb line.pass number e)

  pub records_for-other : (number : ℕ) (line : Line R) (lines : List (Line R)) → (line.pass ≡ number → ⊥) → records_for number (line ∷ lines) ≡ records_for number lines
  records_for-other number line lines apart = by (line.pass == number) refl
    where
      by : (b : Bool) → (line.pass == number) ≡ b → records_for number (line ∷ lines) ≡ records_for number lines
      by true e = absurd (apart (eqb-true line.pass number e))
      by false e = ap (λ x. records_in (cond x (line ∷ filter (λ l. l.pass == number) lines) (filter (λ l. l.pass == number) lines))) e

  -- where no record of the lines is below a limit, none for the pass is
  above-for : (cmp : R → R → Ordering) (limit : R) (number : ℕ) (lines : List (Line R)) → Each (λ line. is_before cmp line.record limit ≡ false) lines → NoneBelow cmp (Some limit) (records_for number lines)
  above-for cmp limit number [] e = tt
  above-for cmp limit number (line ∷ lines) e = by (above-for cmp limit number lines e.1) (line.pass == number)
    where
      rest : List (Line R)
      rest = filter (λ l. l.pass == number) lines

      by : NoneBelow cmp (Some limit) (records_in rest) → (b : Bool) → NoneBelow cmp (Some limit) (records_in (cond b (line ∷ rest) rest))
      by later true = (e.0, later)
      by later false = later

  pub none_below-for : (cmp : R → R → Ordering) (limit : R) (number : ℕ) (lines : List (Line R)) → AreAbove cmp limit lines → NoneBelow cmp (Some limit) (records_for number lines)
  none_below-for cmp limit number lines above = above-for cmp limit number lines (recursion_from_All (λ line. is_before cmp line.record limit ≡ false) lines above)

  -- the records for so many passes, from one on
  abbrev records_from : ℕ → ℕ → List (Line R) → List R
  records_from first zero lines = []
  records_from first (suc count) lines = records_for first lines ++ records_from (suc first) count lines

  from-none : (first count : ℕ) → records_from first count [] ≡ []
  from-none first zero = refl
  from-none first (suc count) = from-none (suc first) count

  -- a line that names an earlier pass
  from-before : (first count : ℕ) (line : Line R) (lines : List (Line R)) → line.pass < first → records_from first count (line ∷ lines) ≡ records_from first count lines
  from-before first zero line lines l = refl
  from-before first (suc count) line lines l =
      ap₂ (λ (xs ys : List R). xs ++ ys) (records_for-other first line lines (λ e. omega (arith, e))) (from-before (suc first) count line lines (omega arith))

  -- a line that names one of the passes
  from-within :
      (first count : ℕ) (line : Line R) (lines : List (Line R)) → first ≤ line.pass → line.pass < first + count
      → IsSameBag (records_from first count (line ∷ lines)) (line.record ∷ records_from first count lines)
  from-within first zero line lines l u p = absurd (omega arith)
  from-within first (suc count) line lines l u p =
      let here = records_for first lines in
      let rest = records_from (suc first) count lines in
      let whole = count_by-append p here rest in
      elim (cases_eq line.pass first) as (λ _. count_by p (records_from first (suc count) (line ∷ lines)) ≡ count_by p (line.record ∷ records_from first (suc count) lines)) [
        | inl same ↦ (
            ap₂ (λ (xs ys : List R). count_by p (xs ++ ys)) (records_for-named first line lines same) (from-before (suc first) count line lines (omega (arith, same))))
        | inr other ↦ (
            let later = from-within (suc first) count line lines (omega (arith, other)) (omega arith) p in
            ap (λ xs. count_by p (xs ++ records_from (suc first) count (line ∷ lines))) (records_for-other first line lines other)
            ∙ omega (arith, later, whole, count_by-append p here (records_from (suc first) count (line ∷ lines)), count_by-cons p line.record rest, count_by-cons p line.record (here ++ rest)))
      ]

  -- where each line names one of the passes, these are all records
  from-all : (count : ℕ) (lines : List (Line R)) → All (λ line. line.pass < count) lines → IsSameBag (records_from 0 count lines) (records_in lines)
  from-all count [] named p = ap (count_by p) (from-none 0 count)
  from-all count (line ∷ lines) named p =
      let first = from-within 0 count line lines (omega arith) (omega (arith, All-head (λ l. l.pass < count) line lines named)) p in
      let rest = from-all count lines (All-tail (λ l. l.pass < count) line lines named) p in
      omega (arith, first, rest, count_by-cons p line.record (records_from 0 count lines), count_by-cons p line.record (records_in lines))

module _ {S R : Type 0} (shown : S → Shown) where
  -- the same records in another order
  dealt-same_bag : (xs ys : List R) (olds news : List (PassHolding S R)) → IsSameBag xs ys → Dealt shown xs olds news → Dealt shown ys olds news
  dealt-same_bag xs ys olds news same dealt =
      let long = IsSameBag-length xs ys same in
      record {
        keys = dealt.keys;
        tells = dealt.tells;
        bag = λ going t p. omega (arith, dealt.bag going t p, same p, count_by-append p xs (bag_of olds), count_by-append p ys (bag_of olds));
        part = λ fine t. part-same xs ys (bag_of olds) (bag_of olds) (bag_of news) (bag_of news) same (λ p. refl) (dealt.part fine t);
        accepted = λ going. omega (arith, dealt.accepted going, long);
        most = omega (arith, dealt.most, long);
        fewer = λ any. omega (arith, dealt.fewer any, long);
        backed = dealt.backed;
      }

  -- each pass was given the records of its lines
  dealt-from :
      (first : ℕ) (lines : List (Line R)) (olds news : List (PassHolding S R)) → length news ≡ length olds
      → ((i : ℕ) (d : PassHolding S R) → i < length olds → Adds shown (records_for (first + i) lines) (get_or olds i d) (get_or news i d)) → Dealt shown (records_from first (length olds) lines) olds news
  dealt-from first lines [] [] e each = dealt-none shown
  dealt-from first lines [] (n ∷ ns) e each = absurd (omega arith)
  dealt-from first lines (o ∷ os) [] e each = absurd (omega arith)
  dealt-from first lines (o ∷ os) (n ∷ ns) e each =
      let here : Adds shown (records_for first lines) o n = subst (λ k. Adds shown (records_for k lines) o n) {x = first + 0} (omega arith) (each 0 o (omega arith)) in
      let rest : Dealt shown (records_from (suc first) (length os) lines) os ns = dealt-from (suc first) lines os ns (omega arith) (λ i d h. subst (λ k. Adds shown (records_for k lines) (get_or os i d) (get_or ns i d)) {x = first + suc i} (omega arith) (each (suc i) d (omega arith))) in
      dealt-cons shown (records_for first lines) (records_from (suc first) (length os) lines) o n os ns here rest

  -- so all lines' records were dealt, where each line names one of the passes
  pub dealt-lines : (lines : List (Line R)) (olds news : List (PassHolding S R)) → All (λ line. line.pass < length olds) lines → EachAdds shown (λ pass. records_for pass lines) olds news → Dealt shown (records_in lines) olds news
  dealt-lines lines olds news named each =
      dealt-same_bag (records_from 0 (length olds) lines) (records_in lines) olds news (from-all (length olds) lines named)
      (dealt-from 0 lines olds news each.count (λ i d h. subst (λ k. Adds shown (records_for k lines) (get_or olds i d) (get_or news i d)) (omega arith) (each.each i d h)))
