-- The law of looks: each stands in the log, at a moment at which somebody held the item, and at the log's end when it is made.
use Rattle.std.proofs.Common.{◌≡◌, ◌≢◌, ℕ, zero, suc, ◌+◌, ◌<◌, ◌≤◌, List, [], ◌∷◌, ◌++◌, All, Contains, map, length, get_or, replicate, sym, refl, ap, ◌∙◌, subst, ⊎_elim, arith, length-set, length-append}
use Rattle.std.proofs.lemmas.Bool.{cases_lt}
use mathlib.Core.Option.{some}
use mathlib.Core.Logic.{dite}
use native.Mathlib.Decide.{ℕ_discrete}
use lib.ListN.{length-replicate}
use Rattle.atomic_table.specs.Table.{State, opening}
use Rattle.ppq_core.proofs.Places.{free_not_held}
use Rattle.ppq_core.specs.declared.place.Place.TheVariants.{Free}
use Rattle.ppq_core.specs.History.{buffer_at}
use Rattle.ppq_table.specs.declared.place.Place.{Place}
use Rattle.ppq_table.specs.declared.place.Place.TheVariants.{Room}
use Rattle.ppq_table.proofs.Places.{laid_length}
use Rattle.ppq_table.proofs.Sums.{at_within, within_at, total-set}
use Rattle.ppq_table.proofs.Numbers.{upto}
use Rattle.atomic_table.proofs.Lists.{set_else, set_here}
use Rattle.std.proofs.lemmas.List.Elements.{All-head, All-tail}
use Rattle.ppq_pool.specs.declared.hand.Hand.{Hand}
use Rattle.ppq_pool.specs.declared.hand.Move.{Move}
use Rattle.ppq_pool.specs.declared.hand.Move.TheVariants.{Took, Gave, Saw}
use Rattle.ppq_pool.specs.Hands.{first_hand, common_shape, newest}
use Rattle.ppq_pool.specs.Histories.{events_of, IsOut, MayMove, trail_of, moments_of, IsTrueLog}
use Rattle.ppq_pool.specs.Rule.{PoolRule}
use Rattle.ppq_pool.specs.Seats.{IsLook}
use Rattle.ppq_pool.specs.Shown.{LooksAreTrue, NoBlindLook, NoFalseLook}
use Rattle.ppq_pool.proofs.Logged.{Log, trail_of-own, trail_of-other, moments_of-own, moments_of-other, trail_of-newcomer, moments_of-newcomer}
use Rattle.ppq_pool.proofs.Ends.{starts, zero_at}

abbrev rest_of : List ℕ → List ℕ
rest_of [] = []
rest_of (m ∷ ms) = ms

-- where the look stands in the log
pub record Stood (R : Type 0) (seats j i : ℕ) (log : Log) (later earlier : List Move) : Type 0 where
  pub after : Log
  pub before : Log
  pub whole : log ≡ after ++ (j, Saw i) ∷ before
  pub is_true : IsTrueLog R seats before
  pub trail : trail_of j before ≡ earlier
  pub at_moment : (ends begins : List ℕ) (moment : ℕ) → length ends ≡ length later → moments_of j log ≡ ends ++ moment ∷ begins → length before ≡ moment
  pub out : IsOut {R = R} i (events_of before)

-- a move of another seat came later, or one of its own
stood_past : (R : Type 0) (seats j i : ℕ) (p : ℕ × Move) (log : Log) (later earlier : List Move) → p.0 ≢ j → Stood R seats j i log later earlier → Stood R seats j i (p ∷ log) later earlier
stood_past R seats j i p log later earlier ne s = record {
  after = p ∷ s.after;
  before = s.before;
  whole = ap (λ (l : Log). p ∷ l) s.whole;
  is_true = s.is_true;
  trail = s.trail;
  at_moment = λ ends begins moment same on. s.at_moment ends begins moment same (sym (moments_of-other p.0 j p.1 log ne) ∙ on);
  out = s.out;
}

own_moment : (n moment : ℕ) (ms ends begins : List ℕ) → length ends ≡ 0 → n ∷ ms ≡ ends ++ moment ∷ begins → n ≡ moment
own_moment n moment ms [] begins none e = ap newest e
own_moment n moment ms (x ∷ ends) begins none e = absurd (omega arith)

later_moment : (C : Type 0) (n k moment : ℕ) (ms ends begins : List ℕ) → ((past : List ℕ) → length past ≡ k → ms ≡ past ++ moment ∷ begins → C) → length ends ≡ suc k → n ∷ ms ≡ ends ++ moment ∷ begins → C
later_moment C n k moment ms [] begins go many e = absurd (omega arith)
later_moment C n k moment ms (x ∷ ends) begins go many e = go ends (omega arith) (ap rest_of e)

stood_own : (R : Type 0) (seats j i : ℕ) (p : ℕ × Move) (x : Move) (log : Log) (later earlier : List Move) → p.0 ≡ j → Stood R seats j i log later earlier → Stood R seats j i (p ∷ log) (x ∷ later) earlier
stood_own R seats j i p x log later earlier own s = record {
  after = p ∷ s.after;
  before = s.before;
  whole = ap (λ (l : Log). p ∷ l) s.whole;
  is_true = s.is_true;
  trail = s.trail;
  at_moment = λ ends begins moment same on. later_moment (length s.before ≡ moment) (length log) (length later) moment (moments_of j log) ends begins (λ past many e. s.at_moment past begins moment many e) same (sym (moments_of-own p.0 j p.1 log own) ∙ on);
  out = s.out;
}

abbrev head_or : Move → List Move → Move
head_or d [] = d
head_or d (m ∷ ms) = m

abbrev tail_of : List Move → List Move
tail_of [] = []
tail_of (m ∷ ms) = ms

stood : (R : Type 0) (seats j i : ℕ) (log : Log) (later earlier : List Move) → IsTrueLog R seats log → trail_of j log ≡ later ++ Saw i ∷ earlier → Stood R seats j i log later earlier
stood R seats j i [] [] earlier t e = absurd (let n : 0 ≡ suc (length earlier) = ap length e in omega arith)
stood R seats j i [] (x ∷ later) earlier t e = absurd (let n : 0 ≡ suc (length (later ++ Saw i ∷ earlier)) = ap length e in omega arith)
stood R seats j i (p ∷ log) [] earlier t e = dite (ℕ_discrete p.0 j)
    (λ own. let both : p.1 ∷ trail_of j log ≡ Saw i ∷ earlier = sym (trail_of-own p.0 j p.1 log own) ∙ e in let saw : p.1 ≡ Saw i = ap (head_or (Saw i)) both in record {
      after = [];
      before = log;
      whole = λ k. (own k, saw k) ∷ log;
      is_true = t.2;
      trail = ap tail_of both;
      at_moment = λ ends begins moment same on. own_moment (length log) moment (moments_of j log) ends begins same (sym (moments_of-own p.0 j p.1 log own) ∙ on);
      out = subst (λ (m : Move). MayMove {R = R} m (events_of log)) saw t.1;
    })
    (λ ne. stood_past R seats j i p log [] earlier ne (stood R seats j i log [] earlier t.2 (sym (trail_of-other p.0 j p.1 log ne) ∙ e)))
stood R seats j i (p ∷ log) (x ∷ later) earlier t e = dite (ℕ_discrete p.0 j)
    (λ own. stood_own R seats j i p x log later earlier own (stood R seats j i log later earlier t.2 (ap tail_of (sym (trail_of-own p.0 j p.1 log own) ∙ e))))
    (λ ne. stood_past R seats j i p log (x ∷ later) earlier ne (stood R seats j i log (x ∷ later) earlier t.2 (sym (trail_of-other p.0 j p.1 log ne) ∙ e)))

pub looks_are_true : (T : Type 0) → LooksAreTrue T
looks_are_true T shape_of shape s r = let log = r.logged.0 in let shows = r.logged.1 in (
  log,
  shows,
  λ j v i moment later earlier ends begins at some_share on noted same.
      let w = stood T (length s.views) j i log later earlier shows.is_true (shows.on_trail j v at some_share ∙ on) in
      (w.after, w.before, w.whole, w.at_moment ends begins moment same (shows.on_time j v at some_share ∙ noted), w.trail, w.out),
)

-- one seat that did nothing holds nothing
nothing_out : (R : Type 0) (i : ℕ) (log : Log) → IsTrueLog R 1 log → trail_of 0 log ≡ [] → IsOut {R = R} i (events_of log) → ⊥
nothing_out R i [] t e out = free_not_held out.0 out.1
nothing_out R i (p ∷ log) t e out = let n : suc (length (trail_of 0 log)) ≡ 0 = ap length (sym (trail_of-own p.0 0 p.1 log (omega (arith, t.0))) ∙ e) in omega arith

pub no_blind_look : (T : Type 0) → NoBlindLook T
no_blind_look T shape_of shape items places i word becomes short shapes laid allows = let words : List ℕ = replicate (length items + 1) 0 in let one : Hand T = first_hand (common_shape shape_of items) items in
    let s : State (Place T) (Hand T) = opening words places one in
    let r : PoolRule shape_of (common_shape shape_of items) s = starts shape_of shape items words places short shapes (length-replicate (length items + 1) 0) (zero_at (length items + 1)) laid in
    let step = allows s r (ap (λ (l : List (Place T)). length (map some l)) laid.1 ∙ laid_length items (Room laid.0)) refl (let z : get_or words word 0 ≡ 0 = zero_at (length items + 1) word in omega arith) in
    let w : Hand T = step.0 in let after = step.3 in let log = after.logged.0 in let shows = after.logged.1 in
    let some_share : 0 < w.shares = omega (arith, after.shares_add) in
    let found = stood T 1 0 i log [] [] shows.is_true (shows.on_trail 0 w refl some_share ∙ step.4) in
    nothing_out T i found.before found.is_true found.trail found.out

-- every move of a seat was made before the end
moments-below : (j : ℕ) (log : Log) (m : ℕ) (ms : List ℕ) → moments_of j log ≡ m ∷ ms → m < length log
moments-below j [] m ms e = absurd (let n : 0 ≡ suc (length ms) = ap length e in omega arith)
moments-below j (p ∷ log) m ms e = dite (ℕ_discrete p.0 j)
    (λ own. let head : length log ≡ m = ap newest (sym (moments_of-own p.0 j p.1 log own) ∙ e) in omega arith)
    (λ ne. omega (arith, moments-below j log m ms (sym (moments_of-other p.0 j p.1 log ne) ∙ e)))

-- so a log whose moves of seat j are those of another log, which is no longer, does not end with one
ends_else : (p j : ℕ) (m : Move) (log shorter : Log) → length shorter ≤ length log → moments_of j ((p, m) ∷ log) ≡ moments_of j shorter → p ≢ j
ends_else p j m log shorter short same own = let below = moments-below j shorter (length log) (moments_of j log) (sym same ∙ moments_of-own p j m log own) in omega arith

-- moves of one seat after a log, the newest first
abbrev with_moves : ℕ → List Move → Log → Log
with_moves id [] log = log
with_moves id (m ∷ ms) log = (id, m) ∷ with_moves id ms log

-- two logs that have the same moves of all seats but id, at the same moments
pub record SameElse (id : ℕ) (a b : Log) : Type 0 where
  pub trails : (k : ℕ) → k ≢ id → trail_of k a ≡ trail_of k b
  pub moments : (k : ℕ) → k ≢ id → moments_of k a ≡ moments_of k b

-- without a move of seat id at the end
else_before : (id : ℕ) (p : ℕ) (m : Move) (a b : Log) → p ≡ id → SameElse id ((p, m) ∷ a) b → SameElse id a b
else_before id p m a b own same = record {
  trails = λ k ne. sym (trail_of-other p k m a (λ e. ne (sym e ∙ own))) ∙ same.trails k ne;
  moments = λ k ne. sym (moments_of-other p k m a (λ e. ne (sym e ∙ own))) ∙ same.moments k ne;
}

-- as long as one another, and with the same moves of seat id, they are the same
same_log : (id : ℕ) (a b : Log) → length a ≡ length b → trail_of id a ≡ trail_of id b → SameElse id a b → a ≡ b
same_log id [] [] long trail same = refl
same_log id [] (q ∷ b) long trail same = absurd (omega arith)
same_log id (p ∷ a) [] long trail same = absurd (omega arith)
same_log id (p ∷ a) (q ∷ b) long trail same = dite (ℕ_discrete p.0 q.0)
    (λ e.
    let heads : (k : ℕ) → p.0 ≡ k → trail_of k (p ∷ a) ≡ trail_of k (q ∷ b) → p.1 ∷ trail_of k a ≡ q.1 ∷ trail_of k b =
    λ k own t. sym (trail_of-own p.0 k p.1 a own) ∙ t ∙ trail_of-own q.0 k q.1 b (sym e ∙ own) in
    let others : (k : ℕ) → p.0 ≢ k → trail_of k (p ∷ a) ≡ trail_of k (q ∷ b) → trail_of k a ≡ trail_of k b =
    λ k ne t. sym (trail_of-other p.0 k p.1 a ne) ∙ t ∙ trail_of-other q.0 k q.1 b (λ own. ne (e ∙ own)) in
    let past : (k : ℕ) → trail_of k (p ∷ a) ≡ trail_of k (q ∷ b) → trail_of k a ≡ trail_of k b =
    λ k t. dite (ℕ_discrete p.0 k) (λ own. ap tail_of (heads k own t)) (λ ne. others k ne t) in
    let before : (k : ℕ) → moments_of k (p ∷ a) ≡ moments_of k (q ∷ b) → moments_of k a ≡ moments_of k b =
    λ k t. dite (ℕ_discrete p.0 k)
    (λ own. ap rest_of (sym (moments_of-own p.0 k p.1 a own) ∙ t ∙ moments_of-own q.0 k q.1 b (sym e ∙ own)))
    (λ ne. sym (moments_of-other p.0 k p.1 a ne) ∙ t ∙ moments_of-other q.0 k q.1 b (λ own. ne (e ∙ own))) in
    let one : p.1 ≡ q.1 = dite (ℕ_discrete p.0 id) (λ own. ap (head_or p.1) (heads id own trail)) (λ ne. ap (head_or p.1) (heads p.0 refl (same.trails p.0 ne))) in
    λ i. (e i, one i) ∷ same_log id a b (omega arith) (past id trail) (record { trails = λ k ne. past k (same.trails k ne); moments = λ k ne. before k (same.moments k ne) }) i)
    (λ apart. absurd (dite (ℕ_discrete p.0 id)
    (λ own. let ne : q.0 ≢ id = λ e. apart (own ∙ sym e) in
    ends_else q.0 q.0 q.1 b a (omega arith) (sym (same.moments q.0 ne) ∙ moments_of-other p.0 q.0 p.1 a apart) refl)
    (λ ne. ends_else p.0 p.0 p.1 a b (omega arith) (same.moments p.0 ne ∙ moments_of-other q.0 p.0 q.1 b (λ e. apart (sym e))) refl)))

-- a longer one has the further moves of seat id at its end
grown : (id : ℕ) (more : List Move) (a b : Log) → length a ≡ length b + length more → trail_of id a ≡ more ++ trail_of id b → SameElse id a b → a ≡ with_moves id more b
grown id [] a b long trail same = same_log id a b (omega arith) trail same
grown id (m ∷ more) [] b long trail same = absurd (omega arith)
grown id (m ∷ more) (p ∷ a) b long trail same = dite (ℕ_discrete p.0 id)
    (λ own. let both : p.1 ∷ trail_of id a ≡ m ∷ more ++ trail_of id b = sym (trail_of-own p.0 id p.1 a own) ∙ trail in
    let before : a ≡ with_moves id more b = grown id more a b (omega arith) (ap tail_of both) (else_before id p.0 p.1 a b own same) in
    λ i. (own i, ap (head_or m) both i) ∷ before i)
    (λ ne. absurd (ends_else p.0 p.0 p.1 a b (omega arith) (same.moments p.0 ne) refl))

-- as many moves as the seats have on their trails, all together
upto-below : (f g : ℕ → ℕ) (n : ℕ) → ((k : ℕ) → k < n → g k ≡ f k) → upto g n ≡ upto f n
upto-below f g zero same = refl
upto-below f g (suc n) same = omega (arith, upto-below f g n (λ k lt. same k (omega arith)), same n (omega arith))

upto-one : (f g : ℕ → ℕ) (id more n : ℕ) → id < n → g id ≡ f id + more → ((k : ℕ) → k ≢ id → g k ≡ f k) → upto g n ≡ upto f n + more
upto-one f g id more zero inside here else = absurd (omega arith)
upto-one f g id more (suc n) inside here else = dite (ℕ_discrete n id)
    (λ e. omega (arith, upto-below f g n (λ k lt. else k (λ same. omega arith)), here, ap f e, ap g e))
    (λ ne. omega (arith, upto-one f g id more n (omega arith) here else, else n ne))

upto-none : (n : ℕ) → upto (λ k. 0) n ≡ 0
upto-none zero = refl
upto-none (suc n) = omega (arith, upto-none n)

log_length : (R : Type 0) (seats : ℕ) (log : Log) → IsTrueLog R seats log → length log ≡ upto (λ k. length (trail_of k log)) seats
log_length R seats [] t = sym (upto-none seats)
log_length R seats (p ∷ log) t =
    omega (
      arith,
      log_length R seats log t.2,
      upto-one (λ k. length (trail_of k log)) (λ k. length (trail_of k (p ∷ log))) p.0 1 seats t.0 (omega (arith, ap length (trail_of-own p.0 p.0 p.1 log refl))) (λ k ne. ap length (trail_of-other p.0 k p.1 log (λ e. ne (sym e)))),
    )

-- looks are no events, and each found its item held before them all
events_looks : (R : Type 0) (id : ℕ) (looks : List Move) (log : Log) → All IsLook looks → events_of {R = R} (with_moves id looks log) ≡ events_of log
events_looks R id [] log all = refl
events_looks R id (Saw i ∷ looks) log all = events_looks R id looks log (All-tail IsLook (Saw i) looks all)
events_looks R id (Took i ∷ looks) log all = absurd (All-head IsLook (Took i) looks all)
events_looks R id (Gave i ∷ looks) log all = absurd (All-head IsLook (Gave i) looks all)

looks_out : (R : Type 0) (seats id i : ℕ) (looks : List Move) (log : Log) → All IsLook looks → Contains looks (Saw i) → IsTrueLog R seats (with_moves id looks log) → IsOut {R = R} i (events_of log)
looks_out R seats id i [] log all has t = absurd (omega (arith, has.1))
looks_out R seats id i (m ∷ looks) log all (zero, lt, e) t =
    subst (IsOut {R = R} i) (events_looks R id looks log (All-tail IsLook m looks all)) (subst (λ (x : Move). MayMove {R = R} x (events_of (with_moves id looks log))) e t.1)
looks_out R seats id i (m ∷ looks) log all (suc k, lt, e) t = looks_out R seats id i looks log (All-tail IsLook m looks all) (k, omega arith, e) t.2

pub no_false_look : (T : Type 0) → NoFalseLook T
no_false_look T shape_of shape s id v carried i word becomes looks stands alive free small all has allows =
    let r = stands.0 in let at = stands.1 in let near = stands.2 in
    let was = r.logged.0 in let shown = r.logged.1 in let seats : ℕ = length s.views in
    let step = allows s r refl at small in
    let w : Hand T = step.0 in let after = step.3 in let log = after.logged.0 in let shows = after.logged.1 in
    let some_share : 0 < v.shares = alive id v at in
    let w_share : 0 < w.shares = omega (arith, after.shares_add, r.shares_add, total-set (λ (u : Hand T). u.shares) s.views id v w at) in
    let inside = within_at s.views id v at in
    let true_after : IsTrueLog T seats log = subst (λ (k : ℕ). IsTrueLog T k log) (length-set s.views id w) shows.is_true in
    let trail : trail_of id log ≡ looks ++ trail_of id was = shows.on_trail id w (set_here s.views id w inside) w_share ∙ step.4 ∙ ap (λ l. looks ++ l) (sym (shown.on_trail id v at some_share)) in
    let else : SameElse id log was = record {
      trails = λ k ne. ⊎_elim
          (λ (lt : k < seats). let u = at_within s.views k lt in shows.on_trail k u.0 (set_else s.views id k w ne ∙ u.1) (alive k u.0 u.1) ∙ sym (shown.on_trail k u.0 u.1 (alive k u.0 u.1)))
          (λ (past : seats ≤ k). trail_of-newcomer T seats k log past true_after ∙ sym (trail_of-newcomer T seats k was past shown.is_true))
          (cases_lt k seats);
      moments = λ k ne. ⊎_elim
          (λ (lt : k < seats). let u = at_within s.views k lt in shows.on_time k u.0 (set_else s.views id k w ne ∙ u.1) (alive k u.0 u.1) ∙ sym (shown.on_time k u.0 u.1 (alive k u.0 u.1)))
          (λ (past : seats ≤ k). moments_of-newcomer T seats k log past true_after ∙ sym (moments_of-newcomer T seats k was past shown.is_true))
          (cases_lt k seats);
    } in
    let long : length log ≡ length was + length looks = omega (
      arith,
      log_length T seats log true_after,
      log_length T seats was shown.is_true,
      upto-one (λ k. length (trail_of k was)) (λ k. length (trail_of k log)) id (length looks) seats inside (omega (arith, ap length trail, length-append looks (trail_of id was))) (λ k ne. ap length (else.trails k ne)),
    ) in
    let whole : log ≡ with_moves id looks was = grown id looks log was long trail else in
    let out = looks_out T seats id i looks was all has (subst (λ (l : Log). IsTrueLog T seats l) whole true_after) in
    let home : buffer_at {R = T} i (events_of was) ≡ Free = shown.is_free i (omega arith) free in
    free_not_held out.0 (sym home ∙ out.1)
