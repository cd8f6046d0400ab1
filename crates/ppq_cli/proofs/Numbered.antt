-- New blocks, one after the other.
use Rattle.std.proofs.Common.{◌≡◌, ℕ, ◌+◌, zero, suc, List, [], ◌∷◌, ◌++◌, length, map, sym, ap, ap₂, ◌∙◌, subst, arith, add-one, length-append, append_assoc}
use Rattle.std.specs.List.{range_with_len}
use Rattle.std.proofs.lemmas.List.{map-append}
use Rattle.std.proofs.lemmas.List.Elements.{All-push}
use Rattle.ppq_words.specs.ppq_outside.Shown.{Shown}
use Rattle.ppq_words.specs.ppq_outside.Made.{HasMade}
use Rattle.ppq_jobs.specs.ppq_engine.ppq_queue.Holding.{IsNewSlot}
use Rattle.ppq_cli.specs.Device.{AreNew}

range-suc : (a n : ℕ) → range_with_len a (suc n) ≡ range_with_len a n ++ (a + n) ∷ []
range-suc a zero = ap (λ k. k ∷ []) (omega arith)
range-suc a (suc n) =
    ap (λ (t : List ℕ). a ∷ t) (range-suc (a + 1) n ∙ ap (λ k. range_with_len (a + 1) n ++ k ∷ []) (omega arith))

-- one number more
pub range-more : (a n : ℕ) → range_with_len a (n + 1) ≡ range_with_len a n ++ (a + n) ∷ []
range-more a n = ap (range_with_len a) (add-one n) ∙ range-suc a n

-- one block more
pub new-more : (bytes : ℕ) (slots : List Shown) (slot : Shown) → AreNew bytes slots → slot.number ≡ length slots → IsNewSlot bytes slot → AreNew bytes (slots ++ slot ∷ [])
new-more bytes slots slot new number is =
    let one : map (λ (s : Shown). s.number) (slots ++ slot ∷ []) ≡ map (λ (s : Shown). s.number) slots ++ slot.number ∷ [] = map-append (λ (s : Shown). s.number) slots (slot ∷ []) in
    record {
      numbers =
          one ∙ ap₂ (λ (t : List ℕ) (k : ℕ). t ++ k ∷ []) new.numbers number
          ∙ sym (range-more 0 (length slots) ∙ ap (λ k. range_with_len 0 (length slots) ++ k ∷ []) (omega arith))
          ∙ ap (range_with_len 0) (omega (arith, length-append slots (slot ∷ [])));
      each = All-push (IsNewSlot bytes) slots slot new.each is;
    }

-- one block more that a rack made
pub made-more : (before mid now : List ℕ → Type 0) (n : ℕ) → HasMade before mid (range_with_len 0 n) → HasMade mid now (n ∷ []) → HasMade before now (range_with_len 0 (n + 1))
made-more before mid now n so_far more = λ made had.
    subst now (append_assoc made (range_with_len 0 n) (n ∷ []) ∙ ap (λ (t : List ℕ). made ++ t) (ap (λ k. range_with_len 0 n ++ k ∷ []) (omega arith) ∙ sym (range-more 0 n))) (more (made ++ range_with_len 0 n) (so_far made had))
