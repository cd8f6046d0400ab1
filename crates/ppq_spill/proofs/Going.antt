-- Slots that are moved, written and read, one step after the other.
use Rattle.std.proofs.Common.{◌≡◌, ℕ, ◌+◌, ◌≤◌, List, [], ◌∷◌, ◌++◌, length, sum_by, Option, Some, None, IsSome, refl, sym, subst, arith}
use Rattle.std.proofs.lemmas.List.Sums.{sum_by-cons, sum_by-append}
use Rattle.std.proofs.lemmas.List.Elements.{All-cons, All-head, All-nil}
use Rattle.ppq_fetch.specs.ppq_outside.Shown.{Shown, Tells}
use Rattle.ppq_fetch.specs.ppq_array.Supply.{Stock}
use Rattle.ppq_fetch.specs.ppq_array.Kept.{SameSums, AreQuiet, MoreWrites, weight_at, all_faults, overread}
use Rattle.ppq_spill.specs.Went.{Went, WentWriting, AtLeast}
use Rattle.ppq_spill.specs.Writing.{Grew}
use Rattle.ppq_spill.proofs.SameSlots.{SameSlots-refl, SameSlots-trans, SameSlots-grown}
use Rattle.ppq_spill.proofs.Keeping.{sum_ones}
use Rattle.ppq_spill.specs.Untold.{untold, untold_of}
use Rattle.ppq_spill.proofs.Telling.{tell_sum, sum_tell}

abbrev w_of : Shown → ℕ
w_of s = s.writes

abbrev r_of : Shown → ℕ
r_of s = s.reads

abbrev pub f_of : Shown → ℕ
f_of s = s.faults

pub Went-refl : (xs : List Shown) → Went 0 0 xs xs
Went-refl xs = record { same = SameSlots-refl xs; calls = record { written = omega arith; stay = omega arith; read = omega arith }; tells = (λ t. t, λ t. t) }

pub Went-trans : (w r w' r' : ℕ) (a b c : List Shown) → Went w r a b → Went w' r' b c → Went (w + w') (r + r') a c
Went-trans w r w' r' a b c h k =
    record {
      same = SameSlots-trans a b c h.same k.same;
      calls = record { written = omega (arith, h.calls.written, k.calls.written); stay = omega (arith, h.calls.stay, k.calls.stay); read = omega (arith, h.calls.read, k.calls.read) };
      tells = (λ t. k.tells.0 (h.tells.0 t), λ t. h.tells.1 (k.tells.1 t));
    }

-- the same slots among others, in any order
pub Went-placed :
    (w r : ℕ) (xs a b a' b' : List Shown) → ((f : Shown → ℕ) → sum_by f a' ≡ sum_by f xs + sum_by f a) → ((f : Shown → ℕ) → sum_by f b' ≡ sum_by f xs + sum_by f b) → Went w r a b
    → Went w r a' b'
Went-placed w r xs a b a' b' before now went =
    let ones : Shown → ℕ = λ _. 1 in
    record {
      same = record {
        length = (let e : length b' ≡ length a' = omega (arith, before ones, now ones, sum_ones a, sum_ones b, sum_ones a', sum_ones b', went.same.length) in e);
        each_once = λ n. let f = weight_at (λ s. 1) n in omega (arith, before f, now f, went.same.each_once n);
        faults = λ n. let f = weight_at (λ s. s.faults) n in omega (arith, before f, now f, went.same.faults n);
        writes = λ n. let f = weight_at (λ s. s.writes) n in omega (arith, before f, now f, went.same.writes n);
        reads = λ n. let f = weight_at (λ s. s.reads) n in omega (arith, before f, now f, went.same.reads n);
        sizes = λ n. let f = weight_at (λ s. s.size) n in omega (arith, before f, now f, went.same.sizes n);
        overreads = omega (arith, before overread, now overread, went.same.overreads);
      };
      calls = record {
        written = omega (arith, before w_of, now w_of, went.calls.written);
        stay = omega (arith, before w_of, now w_of, went.calls.stay);
        read = omega (arith, before r_of, now r_of, went.calls.read);
      };
      tells = (
        (λ t.
            let all = tell_sum a' t in
            let old : sum_by untold a ≡ 0 = omega (arith, before untold, all) in
            let new = tell_sum b (went.tells.0 (sum_tell a old)) in
            sum_tell b' (let e : sum_by untold b' ≡ 0 = omega (arith, before untold, now untold, all, new) in e)),
        (λ t.
            let all = tell_sum b' t in
            let new : sum_by untold b ≡ 0 = omega (arith, now untold, all) in
            let old = tell_sum a (went.tells.1 (sum_tell b new)) in
            sum_tell a' (let e : sum_by untold a' ≡ 0 = omega (arith, before untold, now untold, all, old) in e)),
      );
    }

-- a call of one slot
pub Went-one : (w : ℕ) (s t : Shown) → Grew s t → MoreWrites w (s ∷ []) (t ∷ []) → Went w 0 (s ∷ []) (t ∷ [])
Went-one w s t grew calls =
    record {
      same = SameSlots-grown [] [] s t grew;
      calls = record { written = calls.writes; stay = omega (arith, grew.writes, sum_by-cons w_of s [], sum_by-cons w_of t []); read = omega (arith, calls.reads) };
      tells = ((λ t'. All-cons Tells t [] (grew.tells (All-head Tells s [] t')) (All-nil Tells)), (λ t'. All-cons Tells s [] (grew.told (All-head Tells t [] t')) (All-nil Tells)));
    }

-- one slot more was called
pub Went-more : (base xs ys : List Shown) (s t : Shown) (n k m : ℕ) → Went n 0 base (xs ++ s ∷ ys) → Grew s t → MoreWrites k (s ∷ []) (t ∷ []) → m ≡ n + k → Went m 0 base (xs ++ t ∷ ys)
Went-more base xs ys s t n k m before grew calls e =
    let one = Went-placed k 0 (xs ++ ys) (s ∷ []) (t ∷ []) (xs ++ s ∷ ys) (xs ++ t ∷ ys)
    (λ f. omega (arith, sum_by-append f xs (s ∷ ys), sum_by-cons f s ys, sum_by-append f xs ys, sum_by-cons f s []))
    (λ f. omega (arith, sum_by-append f xs (t ∷ ys), sum_by-cons f t ys, sum_by-append f xs ys, sum_by-cons f t []))
    (Went-one k s t grew calls) in
    subst (λ w. Went w 0 base (xs ++ t ∷ ys)) (sym e) (Went-trans n 0 k 0 base (xs ++ s ∷ ys) (xs ++ t ∷ ys) before one)

-- a slot that grew tells or does not, as before
same_told : (s t : Option (List ℕ)) → (IsSome s → IsSome t) → (IsSome t → IsSome s) → untold_of s ≡ untold_of t
same_told None None f g = refl
same_told None (Some y) f g = absurd (none_some (g refl))
  where
    none_some : IsSome {T = List ℕ} None → ⊥
    none_some h = cc
same_told (Some x) None f g = absurd (none_some (f refl))
  where
    none_some : IsSome {T = List ℕ} None → ⊥
    none_some h = cc
same_told (Some x) (Some y) f g = refl

pub untold_grown : (s t : Shown) → Grew s t → untold s ≡ untold t
untold_grown s t grew = same_told s.told t.told grew.tells grew.told

-- no slot was called
pub WentWriting-refl : (xs : List Shown) → WentWriting 0 xs xs
WentWriting-refl xs = record { went = Went-refl xs; untold = refl }

-- the same slots among others, in any order
pub WentWriting-placed :
    (w : ℕ) (xs a b a' b' : List Shown) → ((f : Shown → ℕ) → sum_by f a' ≡ sum_by f xs + sum_by f a) → ((f : Shown → ℕ) → sum_by f b' ≡ sum_by f xs + sum_by f b) → WentWriting w a b
    → WentWriting w a' b'
WentWriting-placed w xs a b a' b' before now is = record { went = Went-placed w 0 xs a b a' b' before now is.went; untold = (let e : sum_by untold a' ≡ sum_by untold b' = omega (arith, before untold, now untold, is.untold) in e) }

-- one slot more was called
pub WentWriting-more : (base xs ys : List Shown) (s t : Shown) (n k m : ℕ) → WentWriting n base (xs ++ s ∷ ys) → Grew s t → MoreWrites k (s ∷ []) (t ∷ []) → m ≡ n + k → WentWriting m base (xs ++ t ∷ ys)
WentWriting-more base xs ys s t n k m before grew calls e =
    let same : sum_by untold base ≡ sum_by untold (xs ++ t ∷ ys) =
    omega (arith, before.untold, untold_grown s t grew, sum_by-append untold xs (s ∷ ys), sum_by-cons untold s ys, sum_by-append untold xs (t ∷ ys), sum_by-cons untold t ys) in
    record { went = Went-more base xs ys s t n k m before.went grew calls e; untold = same }

-- they were written so often at most, so more often at most
pub WentWriting-weaker : (n m : ℕ) (a b : List Shown) → n ≤ m → WentWriting n a b → WentWriting m a b
WentWriting-weaker n m a b h is =
    record {
      went = record { same = is.went.same; calls = record { written = omega (arith, h, is.went.calls.written); stay = is.went.calls.stay; read = is.went.calls.read }; tells = is.went.tells };
      untold = is.untold;
    }

-- the same slots among others, in any order, of which no call failed
pub quiet_placed :
    (xs a b a' b' : List Shown) → ((f : Shown → ℕ) → sum_by f a' ≡ sum_by f xs + sum_by f a) → ((f : Shown → ℕ) → sum_by f b' ≡ sum_by f xs + sum_by f b) → AreQuiet a b → AreQuiet a' b'
quiet_placed xs a b a' b' before now is = let e : all_faults b' ≡ all_faults a' = omega (arith, before f_of, now f_of, is) in e

-- one slot more was called, and did not fail
pub quiet_more : (base xs ys : List Shown) (s t : Shown) → AreQuiet base (xs ++ s ∷ ys) → t.faults ≡ s.faults → AreQuiet base (xs ++ t ∷ ys)
quiet_more base xs ys s t before same =
    let e : all_faults (xs ++ t ∷ ys) ≡ all_faults base = omega (arith, before, same, sum_by-append f_of xs (s ∷ ys), sum_by-cons f_of s ys, sum_by-append f_of xs (t ∷ ys), sum_by-cons f_of t ys) in
    e

-- no slot was written
pub each-none : (xs : List Shown) → AtLeast 0 xs xs
each-none xs exact = omega arith

-- written, and then written more
pub each-then : (n m : ℕ) (a b c : List Shown) → AtLeast n a b → AtLeast m b c → AtLeast (n + m) a c
each-then n m a b c first second exact = let more = second exact in omega (arith, first (omega (arith, exact, more)), more)

-- the same slots among others, in any order
pub each_placed :
    (n : ℕ) (xs a b a' b' : List Shown) → ((f : Shown → ℕ) → sum_by f a' ≡ sum_by f xs + sum_by f a) → ((f : Shown → ℕ) → sum_by f b' ≡ sum_by f xs + sum_by f b) → AtLeast n a b
    → AtLeast n a' b'
each_placed n xs a b a' b' before now is exact = omega (arith, before w_of, now w_of, is (omega (arith, exact, now w_of)))

-- one slot more was written
pub each_more : (base xs ys : List Shown) (s t : Shown) (n : ℕ) → AtLeast n base (xs ++ s ∷ ys) → AtLeast 1 (s ∷ []) (t ∷ []) → AtLeast (n + 1) base (xs ++ t ∷ ys)
each_more base xs ys s t n before one =
    each-then n 1 base (xs ++ s ∷ ys) (xs ++ t ∷ ys) before
    (each_placed 1 (xs ++ ys) (s ∷ []) (t ∷ []) (xs ++ s ∷ ys) (xs ++ t ∷ ys)
    (λ f. omega (arith, sum_by-append f xs (s ∷ ys), sum_by-cons f s ys, sum_by-append f xs ys, sum_by-cons f s []))
    (λ f. omega (arith, sum_by-append f xs (t ∷ ys), sum_by-cons f t ys, sum_by-append f xs ys, sum_by-cons f t []))
    one)

-- of what is held and kept, only slots that were drawn were called
module _ (e j k0 d1 b0 e' j' k1 d0 b k : List Shown) (moved : SameSums (k0 ++ d1) (b0 ++ k ++ d0)) (placed : (f : Shown → ℕ) → sum_by f e' + sum_by f j' + sum_by f k1 ≡ sum_by f e + sum_by f j + sum_by f k + sum_by f b) where
  four : (f : Shown → ℕ) (a b c d : List Shown) → sum_by f (a ++ b ++ c ++ d) ≡ sum_by f a + sum_by f b + sum_by f c + sum_by f d
  four f a b c d = omega (arith, sum_by-append f (a ++ b ++ c) d, sum_by-append f (a ++ b) c, sum_by-append f a b)

  held_before : (f : Shown → ℕ) → sum_by f (e ++ j ++ k0 ++ d1) ≡ sum_by f (e ++ j ++ k ++ d0) + sum_by f b0
  held_before f = omega (arith, four f e j k0 d1, four f e j k d0, moved f, sum_by-append f k0 d1, sum_by-append f (b0 ++ k) d0, sum_by-append f b0 k)

  held_now : (f : Shown → ℕ) → sum_by f (e' ++ j' ++ k1 ++ d0) ≡ sum_by f (e ++ j ++ k ++ d0) + sum_by f b
  held_now f = omega (arith, four f e' j' k1 d0, four f e j k d0, placed f)

  pub went_kept : (most : ℕ) → WentWriting most b0 b → WentWriting most (e ++ j ++ k0 ++ d1) (e' ++ j' ++ k1 ++ d0)
  went_kept most went = WentWriting-placed most (e ++ j ++ k ++ d0) b0 b (e ++ j ++ k0 ++ d1) (e' ++ j' ++ k1 ++ d0) held_before held_now went

  pub quiet_kept : AreQuiet b0 b → AreQuiet (e ++ j ++ k0 ++ d1) (e' ++ j' ++ k1 ++ d0)
  quiet_kept is = quiet_placed (e ++ j ++ k ++ d0) b0 b (e ++ j ++ k0 ++ d1) (e' ++ j' ++ k1 ++ d0) held_before held_now is

  pub each_kept : (n : ℕ) → AtLeast n b0 b → AtLeast n (e ++ j ++ k0 ++ d1) (e' ++ j' ++ k1 ++ d0)
  each_kept n is = each_placed n (e ++ j ++ k ++ d0) b0 b (e ++ j ++ k0 ++ d1) (e' ++ j' ++ k1 ++ d0) held_before held_now is

-- the supply's slots are as they were
pub went_untouched : (slots : List Shown) (o n : Stock) → n.kept ≡ o.kept → n.drawn ≡ o.drawn → WentWriting 0 (slots ++ o.kept ++ n.drawn) (slots ++ n.kept ++ o.drawn)
went_untouched slots o n kept drawn =
    subst (λ d. WentWriting 0 (slots ++ o.kept ++ d) (slots ++ n.kept ++ o.drawn)) (sym drawn)
    (subst (λ k. WentWriting 0 (slots ++ o.kept ++ o.drawn) (slots ++ k ++ o.drawn)) (sym kept) (WentWriting-refl (slots ++ o.kept ++ o.drawn)))

-- how often they were called
pub more_writes : (n : ℕ) (a b : List Shown) → Went n 0 a b → MoreWrites n a b
more_writes n a b went = record { writes = went.calls.written; reads = omega (arith, went.calls.read) }
