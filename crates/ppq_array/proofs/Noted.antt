-- Blocks that are lifted, accepted, appended and given up.
use Rattle.std.proofs.Common.{◌≡◌, ℕ, zero, suc, ◌+◌, ◌-◌, ◌<◌, ◌≤◌, ◌^◌, List, [], ◌∷◌, ◌++◌, length, take, drop, All, Option, Some, None, IsSome, IsNone, refl, sym, ap, ap₂, ◌∙◌, subst, arith, append_assoc, length-append, length-take, length-drop}
use Rattle.std.proofs.Math.Seq.{drop-drop, take-take}
use Rattle.std.proofs.lemmas.List.{take-append-le}
use Rattle.std.proofs.lemmas.List.Elements.{All-cons, All-head, All-tail, All-push}
use Rattle.std.proofs.lemmas.List.Concat.{flat_map-cons}
use Rattle.std.proofs.lemmas.List.Sums.{sum_by-cons, sum_by-append}
use Rattle.std.specs.List.{slice_get}
use Rattle.ppq_block.specs.Block.{Block}
use Rattle.ppq_outside.specs.Shown.{Shown}
use Rattle.ppq_array.specs.Run.{Run, items_of}
use Rattle.ppq_array.specs.External.{external, counts, IsLabelled, Accepts, FirstTells, records_in, blocks_items, block_items}
use Rattle.ppq_array.specs.ExternalParts.{IsExternal}
use Rattle.ppq_array.specs.declared.berth.DeviceBlock.{DeviceBlock}

module _ {X : Type 0} where
  -- the next item of a list from which some were taken, where a part of what is left begins with it
  next_taken : (xs : List X) (l : ℕ) (b : X) (rest : List X) → take (suc (length rest)) (drop l xs) ≡ b ∷ rest → take (suc l) xs ≡ take l xs ++ b ∷ []
  next_taken [] zero b rest e = absurd (cc)
  next_taken (x ∷ xs) zero b rest e = let h : x ≡ b = cc in ap (λ z. z ∷ []) h
  next_taken [] (suc l) b rest e = absurd (cc)
  next_taken (x ∷ xs) (suc l) b rest e = ap (λ ys. x ∷ ys) (next_taken xs l b rest e)

  next_dropped : (xs : List X) (l : ℕ) (b : X) (rest : List X) → take (suc (length rest)) (drop l xs) ≡ b ∷ rest → take (length rest) (drop (suc l) xs) ≡ rest
  next_dropped [] zero b rest e = absurd (cc)
  next_dropped (x ∷ xs) zero b rest e = let h : take (length rest) xs ≡ rest = cc in h
  next_dropped [] (suc l) b rest e = absurd (cc)
  next_dropped (x ∷ xs) (suc l) b rest e = next_dropped xs l b rest e

  take_behind : (n : ℕ) (xs : List X) → take n (drop 1 xs) ≡ drop 1 (take (suc n) xs)
  take_behind zero [] = refl
  take_behind (suc n) [] = refl
  take_behind n (x ∷ xs) = refl

  pub take_whole : (xs : List X) → take (length xs) xs ≡ xs
  take_whole [] = refl
  take_whole (x ∷ xs) = ap (λ ys. x ∷ ys) (take_whole xs)

  pub all_left : (P : X → Type 0) (xs ys : List X) → All P (xs ++ ys) → All P xs
  all_left P [] ys a = λ k d h. absurd (omega arith)
  all_left P (x ∷ xs) ys a = All-cons P x xs (All-head P x (xs ++ ys) a) (all_left P xs ys (All-tail P x (xs ++ ys) a))

  pub all_right : (P : X → Type 0) (xs ys : List X) → All P (xs ++ ys) → All P ys
  all_right P [] ys a = a
  all_right P (x ∷ xs) ys a = all_right P xs ys (All-tail P x (xs ++ ys) a)

  pub none_at : (xs : List X) → slice_get xs 0 ≡ None → xs ≡ []
  none_at [] e = refl
  none_at (x ∷ xs) e = absurd (cc)

  pub some_at : (xs : List X) (x : X) → slice_get xs 0 ≡ Some x → (0 < length xs) × ((P : X → Type 0) → All P xs → P x)
  some_at [] x e = absurd (cc)
  some_at (y ∷ xs) x e = let h : y ≡ x = cc in (omega arith, λ P a. subst P h (All-head P y xs a))

pub is_labelled : {X : Type 0} (o : Option X) → IsSome o → IsNone o → ⊥
is_labelled None some none = absurd (cc)
is_labelled (Some x) some none = absurd (cc)

module _ {S R : Type 0} (record_of : List ℕ → R) (width : ℕ) (shown : S → Shown) where
  abbrev Fine : DeviceBlock S R → Type 0
  Fine b = IsLabelled record_of width shown b

  abbrev Parts : Run R → List (DeviceBlock S R) → ℕ → ℕ → List (DeviceBlock S R) → ℕ → Type 0
  Parts loaded was accepted lifted stored len = IsExternal record_of width shown loaded was accepted lifted stored len

  -- a block can be lifted: what was stored goes on with what is stored now
  pub record Ready (loaded : Run R) (was : List (DeviceBlock S R)) (accepted lifted : ℕ) (stored : List (DeviceBlock S R)) (len : ℕ) (before : List (DeviceBlock S R)) : Type 0 where
    pub out : take (length stored) (drop (accepted + lifted) was) ≡ stored
    pub few : length was < 2 ^ 32
    pub few_stored : length stored < 2 ^ 32
    pub same : take lifted (drop accepted was) ≡ before
    pub labelled : All Fine (before ++ stored)
    pub counted : len ≡ length (items_of loaded) + counts (before ++ stored)

  pub Ready-first : (loaded : Run R) (was : List (DeviceBlock S R)) (accepted lifted : ℕ) (stored : List (DeviceBlock S R)) (len : ℕ) → Parts loaded was accepted lifted stored len → lifted ≡ 0 → Ready loaded stored 0 lifted stored len (take lifted (drop accepted was))
  Ready-first loaded was accepted lifted stored len is e =
      let none : take lifted (drop accepted was) ≡ [] = ap (λ l. take l (drop accepted was)) e in
      let at : 0 + lifted ≡ 0 = omega (arith, e) in
      record {
        out = ap (λ n. take (length stored) (drop n stored)) at ∙ take_whole stored;
        few = is.few_stored;
        few_stored = is.few_stored;
        same = ap (λ l. take l (drop 0 stored)) e ∙ sym none;
        labelled = is.labelled;
        counted = is.counted;
      }

  pub Ready-next : (loaded : Run R) (was : List (DeviceBlock S R)) (accepted lifted : ℕ) (stored : List (DeviceBlock S R)) (len : ℕ) → Parts loaded was accepted lifted stored len → 0 < lifted → Ready loaded was accepted lifted stored len (take lifted (drop accepted was))
  Ready-next loaded was accepted lifted stored len is some = record { out = is.out some; few = is.few; few_stored = is.few_stored; same = refl; labelled = is.labelled; counted = is.counted }

  -- the first stored block is lifted
  pub lifts :
      (loaded : Run R) (was : List (DeviceBlock S R)) (accepted lifted : ℕ) (stored : List (DeviceBlock S R)) (len : ℕ) (before : List (DeviceBlock S R)) → Ready loaded was accepted lifted stored len before
      → (b : DeviceBlock S R) (rest : List (DeviceBlock S R)) → stored ≡ b ∷ rest
      → Parts loaded was accepted (lifted + 1) rest len × (take (lifted + 1) (drop accepted was) ≡ before ++ b ∷ []) × Fine b
  lifts loaded was accepted lifted stored len before is b rest e =
      let long : length stored ≡ suc (length rest) = ap length e in
      let behind : drop lifted (drop accepted was) ≡ drop (accepted + lifted) was = drop-drop lifted accepted was in
      let next : take (suc (length rest)) (drop lifted (drop accepted was)) ≡ b ∷ rest = ap₂ (λ n ys. take n ys) (sym long) behind ∙ is.out ∙ e in
      let one : suc lifted ≡ lifted + 1 = omega arith in
      let taken : take (lifted + 1) (drop accepted was) ≡ before ++ b ∷ [] = ap (λ n. take n (drop accepted was)) (sym one) ∙ next_taken (drop accepted was) lifted b rest next ∙ ap (λ ys. ys ++ b ∷ []) is.same in
      let whole : take (lifted + 1) (drop accepted was) ++ rest ≡ before ++ stored = ap (λ ys. ys ++ rest) taken ∙ append_assoc before (b ∷ []) rest ∙ ap (λ ys. before ++ ys) (sym e) in
      let at : accepted + suc lifted ≡ accepted + (lifted + 1) = omega arith in
      let within : accepted + lifted < length was = omega (arith, ap length is.out, length-take (length stored) (drop (accepted + lifted) was), length-drop (accepted + lifted) was, long) in
      let fine : All Fine stored = all_right Fine before stored is.labelled in (
        record {
          out = λ some. ap (take (length rest)) (sym (drop-drop (suc lifted) accepted was ∙ ap (λ n. drop n was) at)) ∙ next_dropped (drop accepted was) lifted b rest next;
          within = omega (arith, within);
          few = is.few;
          few_stored = omega (arith, is.few_stored, long);
          labelled = subst (All Fine) (sym whole) is.labelled;
          counted = is.counted ∙ ap (λ bs. length (items_of loaded) + counts bs) (sym whole);
        },
        taken,
        All-head Fine b rest (subst (All Fine) e fine),
      )

  pub accepts_some : (blocks : List (DeviceBlock S R)) (buf : Block R) → Accepts record_of width shown blocks buf → All Fine blocks → 0 < length buf.items
  accepts_some [] buf a fine = absurd a
  accepts_some (b ∷ bs) buf a fine = omega (arith, a.0, (All-head Fine b bs fine).some)

  -- the block that was lifted first is accepted
  pub accepts :
      (loaded : Run R) (was : List (DeviceBlock S R)) (accepted lifted : ℕ) (stored : List (DeviceBlock S R)) (len : ℕ) → Parts loaded was accepted lifted stored len
      → (buf : Block R) (loaded' : Run R) → Accepts record_of width shown (take lifted (drop accepted was)) buf → items_of loaded' ≡ items_of loaded ++ buf.items
      → (0 < lifted) × Parts loaded' was (accepted + 1) (lifted - 1) stored len × (take (lifted - 1) (drop (accepted + 1) was) ≡ drop 1 (take lifted (drop accepted was)))
  accepts loaded was accepted zero stored len is buf loaded' a items = absurd a
  accepts loaded was accepted (suc lifted) stored len is buf loaded' a items =
      let less : suc lifted - 1 ≡ lifted = omega arith in
      let moved : drop 1 (drop accepted was) ≡ drop (accepted + 1) was = drop-drop 1 accepted was in
      let left : take (suc lifted - 1) (drop (accepted + 1) was) ≡ drop 1 (take (suc lifted) (drop accepted was)) =
      ap₂ (λ n ys. take n ys) less (sym moved) ∙ take_behind lifted (drop accepted was) in
      let at : accepted + 1 + (suc lifted - 1) ≡ accepted + suc lifted = omega arith in
      let goes = first_goes (take (suc lifted) (drop accepted was)) stored buf a is.labelled in (
        omega arith,
        record {
          out = λ some. ap (λ n. take (length stored) (drop n was)) at ∙ is.out (omega arith);
          within = omega (arith, is.within);
          few = is.few;
          few_stored = is.few_stored;
          labelled = subst (λ ys. All Fine (ys ++ stored)) (sym left) goes.1;
          counted = omega (arith, is.counted, ap length items, length-append (items_of loaded) buf.items, goes.0, ap (λ ys. counts (ys ++ stored)) left);
        },
        left,
      )
    where
      first_goes : (blocks stored : List (DeviceBlock S R)) (buf : Block R) → Accepts record_of width shown blocks buf → All Fine (blocks ++ stored) → (counts (blocks ++ stored) ≡ length buf.items + counts (drop 1 blocks ++ stored)) × All Fine (drop 1 blocks ++ stored)
      first_goes [] stored buf a fine = absurd a
      first_goes (b ∷ bs) stored buf a fine = (omega (arith, a.0, sum_by-cons (λ (b : DeviceBlock S R). b.count) b (bs ++ stored)), All-tail Fine b (bs ++ stored) fine)

  -- a block is stored behind the others
  pub appends :
      (loaded : Run R) (was : List (DeviceBlock S R)) (accepted lifted : ℕ) (stored : List (DeviceBlock S R)) (len : ℕ) → Parts loaded was accepted lifted stored len
      → take lifted (drop accepted was) ≡ [] → (b : DeviceBlock S R) → Fine b → length stored < 2 ^ 32 - 1
      → Parts loaded was accepted lifted (stored ++ b ∷ []) (len + b.count)
  appends loaded was accepted lifted stored len is none b fine few =
      let zero_lifted : lifted ≡ 0 = omega (arith, ap length none, length-take lifted (drop accepted was), length-drop accepted was, is.within) in
      let whole : take lifted (drop accepted was) ++ (stored ++ b ∷ []) ≡ (take lifted (drop accepted was) ++ stored) ++ b ∷ [] = sym (append_assoc (take lifted (drop accepted was)) stored (b ∷ [])) in
      record {
        out = λ some. absurd (omega (arith, zero_lifted));
        within = is.within;
        few = is.few;
        few_stored = omega (arith, few, length-append stored (b ∷ []));
        labelled = subst (All Fine) (sym whole) (All-push Fine (take lifted (drop accepted was) ++ stored) b is.labelled fine);
        counted = omega (arith, is.counted, ap counts whole, sum_by-append (λ (b : DeviceBlock S R). b.count) (take lifted (drop accepted was) ++ stored) (b ∷ []), sum_by-cons (λ (b : DeviceBlock S R). b.count) b []);
      }

  -- the last stored block leaves
  pub gives_up :
      (loaded : Run R) (was : List (DeviceBlock S R)) (accepted lifted : ℕ) (stored : List (DeviceBlock S R)) (len : ℕ) → Parts loaded was accepted lifted stored len
      → (b : DeviceBlock S R) (rest : List (DeviceBlock S R)) → stored ≡ rest ++ b ∷ []
      → Parts loaded was accepted lifted rest (len - b.count) × (b.count ≤ len)
  gives_up loaded was accepted lifted stored len is b rest e =
      let long : length stored ≡ length rest + 1 = ap length e ∙ length-append rest (b ∷ []) in
      let before = take lifted (drop accepted was) in
      let whole : before ++ stored ≡ (before ++ rest) ++ b ∷ [] = ap (λ ys. before ++ ys) e ∙ sym (append_assoc before rest (b ∷ [])) in
      let sums : counts (before ++ stored) ≡ counts (before ++ rest) + b.count = omega (arith, ap counts whole, sum_by-append (λ (b : DeviceBlock S R). b.count) (before ++ rest) (b ∷ []), sum_by-cons (λ (b : DeviceBlock S R). b.count) b []) in (
        record {
          out = λ some.
              sym (take-take (length rest) (length stored) (drop (accepted + lifted) was) (omega (arith, long)))
              ∙ ap (take (length rest)) (is.out some ∙ e)
              ∙ take-append-le (length rest) rest (b ∷ []) (omega arith)
              ∙ take_whole rest;
          within = is.within;
          few = is.few;
          few_stored = omega (arith, is.few_stored, long);
          labelled = all_left Fine (before ++ rest) (b ∷ []) (subst (All Fine) whole is.labelled);
          counted = omega (arith, is.counted, sums);
        },
        omega (arith, is.counted, sums),
      )

  -- the records stay, where the accepted block tells
  pub accepted_same :
      (level : ℕ) (loaded loaded' : Run R) (before stored : List (DeviceBlock S R)) (buf : Block R) → Accepts record_of width shown before buf → FirstTells record_of width shown before → items_of loaded' ≡ items_of loaded ++ buf.items
      → records_in record_of width shown (external level loaded' (drop 1 before) stored) ≡ records_in record_of width shown (external level loaded before stored)
  accepted_same level loaded loaded' [] stored buf a tells items = absurd a
  accepted_same level loaded loaded' (b ∷ bs) stored buf a tells items =
      let rest = blocks_items record_of width shown (bs ++ stored) in
      ap (λ xs. xs ++ rest) items
      ∙ append_assoc (items_of loaded) buf.items rest
      ∙ ap (λ xs. items_of loaded ++ xs) (ap (λ xs. xs ++ rest) (a.1 tells) ∙ sym (flat_map-cons (block_items record_of width shown) b (bs ++ stored)))
