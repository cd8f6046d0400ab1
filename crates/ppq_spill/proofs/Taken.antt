-- Jobs that are taken from the end of a list, and their blocks appended to a run.
use Rattle.std.proofs.Common.{◌≡◌, ℕ, ◌+◌, List, [], ◌∷◌, ◌++◌, length, map, reverse, All, Option, Some, None, IsSome, refl, sym, ap, ap₂, ◌∙◌, subst, arith, append_assoc, append-nil}
use Rattle.std.specs.List.{slice_get}
use Rattle.std.proofs.lemmas.List.{map-append}
use Rattle.std.proofs.lemmas.List.Elements.{All-nil, All-push, All-head}
use Rattle.std.proofs.lemmas.List.Sums.{sum_by-cons, sum_by-append}
use Rattle.ppq_fetch.specs.ppq_record.Bag.{first_of}
use Rattle.ppq_fetch.specs.ppq_block.Block.{Block}
use Rattle.ppq_fetch.specs.ppq_lane.declared.job.Job.{Job}
use Rattle.ppq_fetch.specs.ppq_array.declared.berth.DeviceBlock.{DeviceBlock}
use Rattle.ppq_fetch.specs.ppq_array.External.{External, external, size_of, counts}
use Rattle.ppq_fetch.proofs.ppq_array.Noted.{all_left, all_right}
use Rattle.ppq_spill.specs.Grouping.{Taking, Took, appended, buf_of, block_of, items_in, IsGood, IsBad}
use Rattle.ppq_spill.proofs.Jobs.{turned}

pub none_some : {X : Type 0} (o : Option X) → o ≡ None → IsSome o → ⊥
none_some None e h = cc
none_some (Some x) e h = absurd (cc)

get_first : {R : Type 0} (xs : List R) (m : R) → slice_get xs 0 ≡ Some m → first_of xs ≡ Some m
get_first [] m e = e
get_first (x ∷ xs) m e = e

module _ {S R : Type 0} where
  -- the block of a job, as it is labelled
  pub block_is : (j : Job (DeviceBlock S R) R) (m : R) (n : ℕ) → slice_get j.buf.items 0 ≡ Some m → n ≡ length j.buf.items → block_of j ≡ record { slot = j.slot.slot; minimum = Some m; count = n }
  block_is j m n e c = ap₂ (λ (o : Option R) (k : ℕ). record { slot = j.slot.slot; minimum = o; count = k }) (get_first j.buf.items m e) (sym c)

  -- the last of the jobs
  pub last_of : (P : Job (DeviceBlock S R) R → Type 0) (js : List (Job (DeviceBlock S R) R)) (j : Job (DeviceBlock S R) R) {all : List (Job (DeviceBlock S R) R)} → all ≡ js ++ j ∷ [] → All P all → P j
  last_of P js j e every = All-head P j [] (all_right P js (j ∷ []) (subst (All P) e every))

  pub but_last : (P : Job (DeviceBlock S R) R → Type 0) (js : List (Job (DeviceBlock S R) R)) (j : Job (DeviceBlock S R) R) {all : List (Job (DeviceBlock S R) R)} → all ≡ js ++ j ∷ [] → All P all → All P js
  but_last P js j e every = all_left P js (j ∷ []) (subst (All P) e every)

  pub items_last : (js : List (Job (DeviceBlock S R) R)) (j : Job (DeviceBlock S R) R) {all : List (Job (DeviceBlock S R) R)} → all ≡ js ++ j ∷ [] → items_in all ≡ items_in js + length j.buf.items
  items_last js j e =
      let n : Job (DeviceBlock S R) R → ℕ = λ j. length j.buf.items in
      omega (arith, ap items_in e, sum_by-append n js (j ∷ []), sum_by-cons n j [])

  -- one block more
  pub size_on : (j : Job (DeviceBlock S R) R) (array array' : External S R) → array.lifted ≡ [] → array' ≡ external array.level array.loaded [] (array.stored ++ block_of j ∷ []) → size_of array' ≡ size_of array + length j.buf.items
  size_on j array array' none e =
      let n : DeviceBlock S R → ℕ = λ b. b.count in
      let s : counts (array.stored ++ block_of j ∷ []) ≡ counts array.stored + length j.buf.items = omega (arith, sum_by-append n array.stored (block_of j ∷ []), sum_by-cons n (block_of j) []) in
      omega (arith, ap size_of e, ap (λ bs. counts (bs ++ array.stored)) none, s)

  pub taking_none : (jobs : List (Job (DeviceBlock S R) R)) (idle : List (Block R)) (array : External S R) → array.lifted ≡ [] → Taking jobs jobs idle idle array array
  taking_none jobs idle array none =
      record {
        good = [];
        jobs_are = refl;
        idle_is = sym (append-nil idle);
        all_good = All-nil IsGood;
        array_is = ap₂ (λ l s. external array.level array.loaded l s) none (sym (append-nil array.stored));
      }

  pub taking_more :
      (jobs0 jobs : List (Job (DeviceBlock S R) R)) (j : Job (DeviceBlock S R) R) {all : List (Job (DeviceBlock S R) R)} → all ≡ jobs ++ j ∷ [] → (idle0 idle idle' : List (Block R)) (array0 array array' : External S R) → Taking jobs0 all idle0 idle array0 array → IsGood j → idle' ≡ idle ++ j.buf ∷ []
      → array' ≡ external array.level array.loaded [] (array.stored ++ block_of j ∷ []) → Taking jobs0 jobs idle0 idle' array0 array'
  taking_more jobs0 jobs j e idle0 idle idle' array0 array array' taking good put put_on =
      record {
        good = taking.good ++ j ∷ [];
        jobs_are = taking.jobs_are ∙ ap (λ xs. taking.good ++ xs) (turned jobs j e) ∙ sym (append_assoc taking.good (j ∷ []) (reverse jobs));
        idle_is = put ∙ ap (λ bs. bs ++ j.buf ∷ []) taking.idle_is ∙ append_assoc idle0 (map buf_of taking.good) (j.buf ∷ []) ∙ ap (λ bs. idle0 ++ bs) (sym (map-append buf_of taking.good (j ∷ [])));
        all_good = All-push IsGood taking.good j taking.all_good good;
        array_is =
            put_on ∙ ap (λ (a : External S R). external a.level a.loaded [] (a.stored ++ block_of j ∷ [])) taking.array_is
            ∙ ap (λ bs. external array0.level array0.loaded [] bs) (append_assoc array0.stored (map block_of taking.good) (block_of j ∷ []) ∙ ap (λ bs. array0.stored ++ bs) (sym (map-append block_of taking.good (j ∷ []))));
      }

  pub taking_stop :
      (jobs0 jobs : List (Job (DeviceBlock S R) R)) (j : Job (DeviceBlock S R) R) {all : List (Job (DeviceBlock S R) R)} → all ≡ jobs ++ j ∷ [] → (idle0 idle idle' : List (Block R)) (array0 array : External S R) → Taking jobs0 all idle0 idle array0 array → IsBad j → idle' ≡ idle ++ j.buf ∷ []
      → Took jobs0 jobs idle0 idle' array0 array (Some j.slot)
  taking_stop jobs0 jobs j e idle0 idle idle' array0 array taking bad put = (
    taking.good,
    j,
    taking.jobs_are ∙ ap (λ xs. taking.good ++ xs) (turned jobs j e),
    put ∙ ap (λ bs. bs ++ j.buf ∷ []) taking.idle_is ∙ append_assoc idle0 (map buf_of taking.good) (j.buf ∷ []) ∙ ap (λ bs. idle0 ++ bs) (sym (map-append buf_of taking.good (j ∷ []))),
    record { all_good = taking.all_good; is_bad = bad; failed_is = refl; array_is = taking.array_is },
  )

  pub taking_all :
      (jobs0 jobs : List (Job (DeviceBlock S R) R)) → jobs ≡ [] → (idle0 idle : List (Block R)) (array0 array : External S R) → Taking jobs0 jobs idle0 idle array0 array → Took jobs0 jobs idle0 idle array0 array None
  taking_all jobs0 jobs none idle0 idle array0 array taking =
      let all : taking.good ≡ reverse jobs0 = sym (taking.jobs_are ∙ ap (λ xs. taking.good ++ reverse xs) none ∙ append-nil taking.good) in
      (none, taking.idle_is ∙ ap (λ xs. idle0 ++ map buf_of xs) all, subst (All IsGood) all taking.all_good, taking.array_is ∙ ap (appended array0) all)
