-- A refill: what the fetch left, without the runs that have no record left.
use Rattle.std.proofs.Common.{◌≡◌, ℕ, ◌-◌, ◌<◌, ◌≤◌, List, [], ◌∷◌, ◌++◌, length, get_or, All, Option, take, drop, sym, ap, subst, ◌∙◌, arith}
use Rattle.std.specs.Prelude.{sum_by}
use Rattle.std.specs.List.{AllZip}
use Rattle.std.proofs.lemmas.List.{take_at}
use Rattle.std.proofs.lemmas.List.Sums.{sum_by-cons}
use Rattle.std.proofs.lemmas.List.Elements.{AllZip-get_or, length_all_zip, Contains-get_or}
use Rattle.std.specs.declared.cmp.Ordering.{Ordering}
use Rattle.ppq_fetch.specs.ppq_block.Block.{Block}
use Rattle.ppq_fetch.specs.ppq_outside.Shown.{Shown}
use Rattle.ppq_fetch.specs.ppq_array.Run.{Run, items_of}
use Rattle.ppq_fetch.specs.ppq_array.External.{External, size_of}
use Rattle.ppq_fetch.specs.ppq_array.Supply.{Stock}
use Rattle.ppq_fetch.specs.ppq_array.Holdings.{external_slots}
use Rattle.ppq_fetch.specs.Fetching.{State, state, blocks_in, slots_in, source_items, SourcesTell, RunsRise, WentOn, StockWentOn, Fetched}
use Rattle.ppq_fetch.specs.ppq_record.Bag.{front}
use Rattle.ppq_fetch.specs.Taking.{wanted}
use Rattle.ppq_extract.specs.Emptied.{LostOnly, IsEmptyRun, IsEmptyArray}
use Rattle.ppq_extract.specs.Extracted.{ComesFrom, Refilled}
use Rattle.ppq_extract.proofs.Removing.{sum_at_most, length_lost, All_lost}
use Rattle.ppq_extract.proofs.Sums.{tell_same, tell_back}
use Rattle.ppq_extract.proofs.Thinning.{thin_count, thin_buffers, thin_blocks, thin_slots, thin_in, thin_kept, thin_rise, thin_taken}

module _ {S R : Type 0} where
  comes_from : (xs ys : List (External S R)) → AllZip WentOn xs ys → All (ComesFrom xs) ys
  comes_from xs ys zip k d below =
      let within : k < length xs = omega (arith, length_all_zip WentOn xs ys zip) in
      record { before = get_or xs k d; there = Contains-get_or xs k d within; went_on = AllZip-get_or WentOn xs ys k d d zip within }

  no_more : (f : External S R → ℕ) → ((a b : External S R) → WentOn a b → f b ≤ f a) → (xs ys : List (External S R)) → AllZip WentOn xs ys → sum_by f ys ≤ sum_by f xs
  no_more f less [] [] zip = omega arith
  no_more f less [] (y ∷ ys) zip = absurd zip
  no_more f less (x ∷ xs) [] zip = absurd zip
  no_more f less (x ∷ xs) (y ∷ ys) zip = omega (arith, sum_by-cons f x xs, sum_by-cons f y ys, less x y zip.0, no_more f less xs ys zip.1)

module _ {S R : Type 0} (cmp : R → R → Ordering) (record_of : List ℕ → R) (width : ℕ) (shown : S → Shown) (below : Option R) where
  thinned :
      (old : State S R) (mi ni : List (Run R)) (me ne : List (External S R)) (idle : List (Block R)) (stock : Stock) (out : List R)
      → Fetched cmp record_of width shown below old (state mi me idle stock) out → LostOnly IsEmptyRun mi ni → LostOnly IsEmptyArray me ne
      → All (λ (run : Run R). 0 < length (items_of run)) ni → All (λ (a : External S R). 0 < size_of a) ne
      → Refilled cmp record_of width shown below old (state ni ne idle stock) out
  thinned old mi ni me ne idle stock out f li le some_internal some_external =
      let p = f.parts in
      let m = state mi me idle stock in
      let n = state ni ne idle stock in
      let blocks : blocks_in ne ≡ blocks_in me = thin_blocks mi ni me ne li le in
      let same = thin_in mi ni me ne li le shown idle stock in
      record {
        kept = thin_kept mi ni me ne li le shown idle stock old.stock _ p.kept;
        quiet = same (λ s. s.faults) ∙ f.quiet;
        counted = omega (arith, f.counted, thin_count mi ni me ne li le);
        internal = omega (arith, p.internal, length_lost IsEmptyRun mi ni li);
        in_memory = omega (arith, p.in_memory, sum_at_most IsEmptyRun mi ni li (λ (run : Run R). length (items_of run)));
        external = omega (arith, length_all_zip WentOn old.external me p.went_on, length_lost IsEmptyArray me ne le);
        some_internal = some_internal;
        some_external = some_external;
        buffers = omega (arith, p.buffers, thin_buffers mi ni me ne li le);
        stock = subst (λ k. StockWentOn (blocks_in old.external - k) old.stock stock) (sym blocks) p.stock;
        transfers = record {
          writes = same (λ s. s.writes) ∙ p.transfers.writes;
          reads = omega (arith, same (λ s. s.reads), p.transfers.reads, blocks);
        };
        all_tell = (λ t. tell_same (slots_in shown m) (slots_in shown n) same (p.all_tell.0 t), λ t. p.all_tell.1 (tell_back (slots_in shown m) (slots_in shown n) same t));
        came_from = All_lost IsEmptyArray me ne le (ComesFrom old.external) (comes_from old.external me p.went_on);
        weights = λ g less. omega (arith, no_more g less old.external me p.went_on, sum_at_most IsEmptyArray me ne le g);
        tell = λ t. tell_same (external_slots shown me) (external_slots shown ne) (thin_slots mi ni me ne li le shown) (f.tell t);
        rise = λ t r. thin_rise mi ni me ne li le record_of width shown idle stock cmp (f.rise t r);
        taken = λ t r. thin_taken mi ni me ne li le record_of width shown idle stock cmp _ out (f.taken t r);
        under = f.under;
      }

  pub refilled :
      (old : State S R) (mi ni : List (Run R)) (me ne : List (External S R)) (idle : List (Block R)) (stock : Stock) (out left : List R) → left ≡ out
      → Fetched cmp record_of width shown below old (state mi me idle stock) out → LostOnly IsEmptyRun mi ni → LostOnly IsEmptyArray me ne
      → All (λ (run : Run R). 0 < length (items_of run)) ni → All (λ (a : External S R). 0 < size_of a) ne
      → Refilled cmp record_of width shown below old (state ni ne idle stock) left
  refilled old mi ni me ne idle stock out left same f li le some_internal some_external = subst (Refilled cmp record_of width shown below old (state ni ne idle stock)) (sym same) (thinned old mi ni me ne idle stock out f li le some_internal some_external)

  -- the same of equal sources
  pub same_front :
      (i j : List (Run R)) (a b : List (External S R)) (idle : List (Block R)) (stock : Stock) (most : ℕ) (out : List R) → i ≡ j → a ≡ b
      → (SourcesTell shown (state i a idle stock) → RunsRise record_of width shown cmp (state i a idle stock) → out ≡ front cmp (source_items record_of width shown (state i a idle stock)) (wanted cmp most below (source_items record_of width shown (state i a idle stock))))
      → SourcesTell shown (state j b idle stock) → RunsRise record_of width shown cmp (state j b idle stock) → out ≡ front cmp (source_items record_of width shown (state j b idle stock)) (wanted cmp most below (source_items record_of width shown (state j b idle stock)))
  same_front i j a b idle stock most out e h is =
      let F = λ (i : List (Run R)) (a : List (External S R)). SourcesTell shown (state i a idle stock) → RunsRise record_of width shown cmp (state i a idle stock) → out ≡ front cmp (source_items record_of width shown (state i a idle stock)) (wanted cmp most below (source_items record_of width shown (state i a idle stock))) in
      subst (F j) h (subst (λ i. F i a) e is)

-- what a list is over which another of its length was written
pub written : {X : Type 0} (n m long : ℕ) (out items : List X) → m ≡ n → length out ≡ length items → long ≡ length items → take m (take long (out ++ drop (length out) items)) ≡ take n out
written n m long out items same as_long is = ap (take m) (take_at out (drop (length out) items) long (as_long ∙ sym is)) ∙ ap (λ k. take k out) same
