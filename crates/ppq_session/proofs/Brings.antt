-- Passes that come back, one after the other.
use Rattle.std.proofs.Common.{◌≡◌, ℕ, List, [], ◌++◌, reverse, All, map, ◌∷◌, refl, sym, ap, ap₂, ◌∙◌, subst, arith, append-nil, append_assoc, length-append}
use Rattle.std.specs.Prelude.{flat_map, true}
use Rattle.std.specs.declared.cmp.Ordering.{Ordering}
use Rattle.std.proofs.lemmas.Grind.{flat_map-append}
use Rattle.std.proofs.lemmas.List.{map-append, reverse-append}
use Rattle.std.proofs.lemmas.List.Elements.{All-nil, All-cons, All-append}
use Rattle.ppq_pass.specs.ppq_budget.Sizes.{Numbers}
use Rattle.ppq_pass.specs.ppq_outside.Shown.{Shown}
use Rattle.ppq_pass.specs.Passed.{PassHolding}
use Rattle.ppq_session.specs.Passes.{IsBrought, pass_of}
use Rattle.ppq_session.specs.Bringing.{BroughtAll}
use Rattle.ppq_session.specs.declared.brought.Brought.{Brought}
use Rattle.ppq_session.specs.declared.parts.BulkParts.{BulkParts}

module _ {S R : Type 0} where
  -- the places that passes drew, and the numbers of the buffers that they have
  abbrev pub places_in : List (Brought S R) → List ℕ
  places_in brought = flat_map (λ (one : Brought S R). one.kept.value.row_seat.hand.places) brought

  abbrev pub numbers_in : List (Brought S R) → List ℕ
  numbers_in brought = flat_map (λ (one : Brought S R). one.kept.value.pool_seat.hand.numbers) brought

module _ {S R : Type 0} (shown : S → Shown) (record_of : List ℕ → R) (width : ℕ) (n : Numbers) (cmp : R → R → Ordering) where
  abbrev noted_in : BulkParts S R → Brought S R → Type 0
  noted_in q one = one.kept.value.row_seat.hand.noted ≡ true → q.row_seat.hand.noted ≡ true

  pub brought-none : (q : BulkParts S R) → BroughtAll shown record_of width n cmp [] q q
  brought-none q =
      record {
        brought = [];
        items = sym (append-nil q.brought.items);
        passes_are = refl;
        each = All-nil (IsBrought shown record_of width n cmp);
        row = refl;
        row_items = refl;
        row_shares = omega arith;
        places = sym (append-nil q.row_seat.hand.places);
        noted = All-nil (noted_in q);
        noted_still = λ e. e;
        pool = refl;
        pool_shape = refl;
        pool_shares = omega arith;
        numbers = sym (append-nil q.pool_seat.hand.numbers);
        rest = refl;
      }

  -- parts with the seats and the list of others
  abbrev with_seats : BulkParts S R → BulkParts S R → BulkParts S R
  with_seats c q = record q { row_seat = c.row_seat; pool_seat = c.pool_seat; brought = c.brought }

  -- some came, and then others
  pub brought-then : (xs ys : List (PassHolding S R)) (a b c : BulkParts S R) → BroughtAll shown record_of width n cmp xs a b → BroughtAll shown record_of width n cmp ys b c → BroughtAll shown record_of width n cmp (xs ++ ys) a c
  brought-then xs ys a b c one two =
      record {
        brought = one.brought ++ two.brought;
        items = two.items ∙ ap (λ l. l ++ two.brought) one.items ∙ append_assoc a.brought.items one.brought two.brought;
        passes_are = map-append (pass_of shown record_of width n) one.brought two.brought ∙ ap₂ (λ k l. k ++ l) one.passes_are two.passes_are;
        each = All-append (IsBrought shown record_of width n cmp) one.brought two.brought one.each two.each;
        row = two.row ∙ one.row;
        row_items = two.row_items ∙ one.row_items;
        row_shares = omega (arith, one.row_shares, two.row_shares, length-append one.brought two.brought);
        places = two.places ∙ ap (λ l. l ++ places_in two.brought) one.places ∙ append_assoc a.row_seat.hand.places (places_in one.brought) (places_in two.brought) ∙ ap (λ l. a.row_seat.hand.places ++ l) (sym (flat_map-append (λ (x : Brought S R). x.kept.value.row_seat.hand.places) one.brought two.brought));
        noted = All-append (noted_in c) one.brought two.brought (λ k d h e. two.noted_still (one.noted k d h e)) two.noted;
        noted_still = λ e. two.noted_still (one.noted_still e);
        pool = two.pool ∙ one.pool;
        pool_shape = two.pool_shape ∙ one.pool_shape;
        pool_shares = omega (arith, one.pool_shares, two.pool_shares, length-append one.brought two.brought);
        numbers = two.numbers ∙ ap (λ l. l ++ numbers_in two.brought) one.numbers ∙ append_assoc a.pool_seat.hand.numbers (numbers_in one.brought) (numbers_in two.brought) ∙ ap (λ l. a.pool_seat.hand.numbers ++ l) (sym (flat_map-append (λ (x : Brought S R). x.kept.value.pool_seat.hand.numbers) one.brought two.brought));
        rest = two.rest ∙ ap (with_seats c) one.rest;
      }

  module _ {X : Type 0} (pass_in : X → PassHolding S R) (Kept : X → Type 0) where
    -- of all passes these are to come, and the others came
    pub record Came (all left : List X) (old new : BulkParts S R) : Type 0 where
      pub came : List X
      pub parts : all ≡ left ++ came
      pub is : BroughtAll shown record_of width n cmp (reverse (map pass_in came)) old new
      pub kept : All Kept came

    pub came-none : (all : List X) (q : BulkParts S R) → Came all all q q
    came-none all q = record { came = []; parts = sym (append-nil all); is = brought-none q; kept = All-nil Kept }

    pub came-more :
        (all left : List X) (p : X) (pass : PassHolding S R) (a b d : BulkParts S R) → Came all (left ++ p ∷ []) a b → pass ≡ pass_in p → Kept p
        → BroughtAll shown record_of width n cmp (pass ∷ []) b d → Came all left a d
    came-more all left p pass a b d i same kept one =
        record {
          came = p ∷ i.came;
          parts = i.parts ∙ append_assoc left (p ∷ []) i.came;
          is =
              subst (λ l. BroughtAll shown record_of width n cmp l a d) (sym (reverse-append (pass_in p ∷ []) (map pass_in i.came)))
              (brought-then (reverse (map pass_in i.came)) (pass_in p ∷ []) a b d i.is (subst (λ x. BroughtAll shown record_of width n cmp (x ∷ []) b d) same one));
          kept = All-cons Kept p i.came kept i.kept;
        }
