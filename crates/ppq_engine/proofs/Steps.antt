-- Commands that were run over files and slots that tell, one part after the other.
use Rattle.std.proofs.Common.{◌≡◌, ℕ, ◌≤◌, List, [], ◌++◌, length, take, max, Option, refl, sym, ap, ◌∙◌, subst, arith, append_assoc}
use Rattle.std.specs.Prelude.{count_by}
use Rattle.std.proofs.Math.Seq.{take-length}
use Rattle.ppq_script.specs.Words.{Words}
use Rattle.ppq_engine.proofs.Orders.{HasLaws}
use Rattle.ppq_script.specs.declared.form.Form.{Form}
use Rattle.ppq_script.specs.ppq_record.Bag.{IsSameBag}
use Rattle.ppq_script.proofs.ppq_record.Order.{IsSameBag-length}
use Rattle.ppq_script.specs.ppq_outside.Shown.{Shown}
use Rattle.ppq_script.proofs.ppq_outside.Takes.{takes_nothing}
use Rattle.ppq_load.specs.ppq_budget.Sizes.{Numbers}
use Rattle.ppq_load.specs.ppq_array.Kept.{all_writes}
use Rattle.ppq_script.specs.declared.command.Command.{Command}
use Rattle.ppq_script.specs.declared.part.Part.{Part}
use Rattle.ppq_script.specs.Parts.{commands_in, first_in, HasItsLines}
use Rattle.ppq_engine.specs.Loads.{none_go, size_from, FitsWritten}
use Rattle.ppq_engine.specs.Output.{State, outside, state_from, state_of, bag_of, output_of, output_from, load_from, load_of, crest_from, crest_of}
use Rattle.ppq_engine.specs.Gathers.{Gathers}
use Rattle.ppq_engine.specs.Running.{IsGathered, HasRun, StopsWithin}
use Rattle.ppq_engine.proofs.Sizes.{fits-more}
use Rattle.ppq_engine.specs.Bounds.{HasLength}
use Rattle.ppq_engine.proofs.Lines.{part-closed, part-crest, part-grows}
use Rattle.ppq_engine.proofs.Running.{outside-same, output_from-same, state_from-same, state_from-append, output_from-append, load_from-append, crest_from-append, bag_of-le, gathered-more}

regroup : (out text part rest behind : List ℕ) → text ≡ part ++ rest → (out ++ text) ++ behind ≡ (out ++ part) ++ (rest ++ behind)
regroup out text part rest behind e =
    ap (λ (t : List ℕ). (out ++ t) ++ behind) e ∙ ap (λ (t : List ℕ). t ++ behind) (sym (append_assoc out part rest)) ∙ append_assoc (out ++ part) rest behind

module _ {R : Type 0} (w : Words R) (laws : HasLaws w) (form : Form) (given : ℕ → List R) (before : Option (List ℕ)) where
  pub run-begin :
      (gathered : List ℕ) (bag : List R) (size peak : ℕ) (sizes : Numbers) (slots : List Shown) (commands : List (Command R))
      → gathered ≡ [] → bag ≡ [] → size ≡ 0 → peak ≡ 0 → HasRun w form given before before gathered bag size peak sizes slots (take 0 commands)
  run-begin gathered bag size peak sizes slots commands e f s h = record {
    closed = refl;
    output = record { written = []; told = takes_nothing before; all = sym e };
    holds = λ p. ap (count_by p) f;
    counted = s;
    highest = omega arith;
    crest = omega arith;
  }

  module _ (mid : Option (List ℕ)) (had : List ℕ) (bag : List R) (size peak : ℕ) (sizes : Numbers) (slots : List Shown) (cs : List (Command R)) (run : HasRun w form given before mid had bag size peak sizes slots cs) where
    -- commands behind them do to the multiset of the queue what they do to the multiset of the commands
    state-behind : (xs : List (Command R)) → state_of w given (cs ++ xs) ≡ state_from w given (outside (bag_of w given cs)) xs
    state-behind xs = state_from-append w laws given (outside []) cs xs ∙ ap (λ (s : State R). state_from w given s xs) run.closed

    pub output-behind : (xs : List (Command R)) → output_of w form given (cs ++ xs) ≡ output_of w form given cs ++ output_from w form given (outside bag) xs
    output-behind xs =
        let same = outside-same bag (bag_of w given cs) run.holds in
        output_from-append w laws form given (outside []) cs xs
        ∙ ap (λ (t : List ℕ). output_of w form given cs ++ t) (ap (λ (s : State R). output_from w form given s xs) run.closed ∙ sym (output_from-same w laws form given (outside bag) (outside (bag_of w given cs)) xs same))

    load-behind : (xs : List (Command R)) → load_of w given (cs ++ xs) ≡ max (load_of w given cs) (load_from w given (outside (bag_of w given cs)) xs)
    load-behind xs = load_from-append w laws given (outside []) cs xs ∙ ap (λ (s : State R). max (load_of w given cs) (load_from w given s xs)) run.closed

    crest-behind : (xs : List (Command R)) → crest_of w given (cs ++ xs) ≡ max (crest_of w given cs) (crest_from w given (outside (bag_of w given cs)) xs)
    crest-behind xs = crest_from-append w laws given (outside []) cs xs ∙ ap (λ (s : State R). max (crest_of w given cs) (crest_from w given s xs)) run.closed

    module _ (p : Part R) (workers : ℕ) (is : HasItsLines w workers p) (long : HasLength w given (first_in p)) where
      abbrev part : List (Command R)
      part = commands_in p

      -- the peak that the first commands of a part are to reach is no more than the load with them
      pub peak-run : (higher n : ℕ) → higher ≤ max peak (size_from w none_go size (take n part)) → higher ≤ load_of w given (cs ++ take n part)
      peak-run higher n up =
          let xs = take n part in
          let all = bag_of w given cs in
          omega (arith, up, ap (λ (m : ℕ). size_from w none_go m xs) run.counted, run.highest, part-grows w laws given all n p workers is long, bag_of-le w laws given cs, load-behind xs)

      -- a part more was run
      pub run-part :
          (now : Option (List ℕ)) (has : List ℕ) (next : List R) (new_size higher : ℕ) (later : List Shown)
          → Gathers mid now had (output_from w form given (outside bag) part) has → IsSameBag next (state_from w given (outside bag) part).bag → length next ≡ new_size
          → higher ≤ max peak (size_from w none_go size part) → FitsWritten new_size sizes later → all_writes slots ≤ all_writes later
          → HasRun w form given before now has next new_size higher sizes later (cs ++ part)
      run-part now has next new_size higher later step same sized up fits more =
          let P : List ℕ → Type 0 = λ t. IsGathered before now has t in
          let all = bag_of w given cs in
          let behind = state-behind part in
          let moved = state_from-same w laws given (outside bag) (outside all) part (outside-same bag all run.holds) in
          let holds : IsSameBag next (state_from w given (outside all) part).bag = λ q. same q ∙ moved.bag q in
          let here : new_size ≡ length (state_from w given (outside all) part).bag = sym sized ∙ IsSameBag-length next (state_from w given (outside all) part).bag holds in
          let whole : take (length part) part ≡ part = take-length part in
          let Up : List (Command R) → Type 0 = λ xs. higher ≤ max peak (size_from w none_go size xs) in
          let Load : List (Command R) → Type 0 = λ xs. higher ≤ load_of w given (cs ++ xs) in
          record {
            closed = behind ∙ part-closed w laws given all p workers is ∙ ap (λ (s : State R). outside s.bag) (sym behind);
            output = subst P (sym (output-behind part)) (gathered-more before mid now had has (output_of w form given cs) (output_from w form given (outside bag) part) run.output step);
            holds = λ q. holds q ∙ ap (λ (s : State R). count_by q s.bag) (sym behind);
            counted = here ∙ ap (λ (s : State R). length s.bag) (sym behind);
            highest = subst Load whole (peak-run higher (length part) (subst Up (sym whole) up));
            crest = omega (arith, fits, here, part-crest w laws given all p workers is, fits-more (crest_of w given cs) sizes slots later run.crest more, crest-behind part);
          }

    -- the first commands of a part were run, and of what they and the rest print the beginning is gathered
    pub run-cut :
        (now : Option (List ℕ)) (has : List ℕ) (commands part first behind : List (Command R)) (done : ℕ) (text rest : List ℕ)
        → commands ≡ (cs ++ part) ++ behind → take done commands ≡ cs ++ first
        → output_from w form given (outside bag) part ≡ (output_from w form given (outside bag) first ++ text) ++ rest → Gathers mid now had (output_from w form given (outside bag) first ++ text) has
        → StopsWithin w form given before now has commands done text
    run-cut now has commands part first behind done text rest split fewer all step =
        let P : List ℕ → Type 0 = λ t. IsGathered before now has t in
        let out = output_of w form given cs in
        let printed = output_from w form given (outside bag) first in
        let more = output_from w form given (state_of w given (cs ++ part)) behind in
        let here : output_of w form given (take done commands) ≡ out ++ printed = ap (output_of w form given) fewer ∙ output-behind first in
        let there : out ++ (printed ++ text) ≡ output_of w form given (take done commands) ++ text = sym (append_assoc out printed text) ∙ ap (λ (t : List ℕ). t ++ text) (sym here) in
        record {
          output = subst P there (gathered-more before mid now had has out (printed ++ text) run.output step);
          rest = rest ++ more;
          all =
              ap (output_of w form given) split ∙ output_from-append w laws form given (outside []) (cs ++ part) behind ∙ ap (λ (t : List ℕ). t ++ more) (output-behind part)
              ∙ regroup out (output_from w form given (outside bag) part) (printed ++ text) rest more all ∙ ap (λ (t : List ℕ). t ++ (rest ++ more)) there;
        }
