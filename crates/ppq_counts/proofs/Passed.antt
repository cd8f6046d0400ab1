-- A pass, whose slots were written and read before it drew them.
use Rattle.std.proofs.Common.{◌≡◌, ℕ, ◌+◌, ◌*◌, ◌<◌, ◌≤◌, List, refl, ap, ◌∙◌, arith}
use Rattle.ppq_counts.specs.Tally.{Tally, no_tally, joined, IsCounting, runs_of, credit_of}
use Rattle.ppq_counts.specs.Account.{Account, account, beside, too_heavy, Costs, Stops, IsPaidFrom, IsCountedFrom, IsCountedBeside, IsExact}
use Rattle.ppq_counts.proofs.Paid.{credit-joined, runs-joined, counting-left, counting-right}

-- the same with slots more, which were written w times together and read r times
pub record IsWith (block w r : ℕ) (x x' : Account) : Type 0 where
  pub written : x'.written ≡ x.written + 7 * (block * w)
  pub owed : x'.owed ≡ x.owed
  pub weight : x'.weight ≡ x.weight
  pub writes : x'.writes ≡ x.writes + w
  pub reads : x'.reads ≡ x.reads + r
  pub stored : x'.stored ≡ x.stored

-- the account of runs with such slots more
pub account-with :
    {X : Type 0} (level size blocks : X → ℕ) (block w r before now read_before read_now : ℕ) (runs : List X) (in_memory : ℕ) → now ≡ before + w → read_now ≡ read_before + r
    → IsWith block w r (account level size blocks block before read_before runs in_memory) (account level size blocks block now read_now runs in_memory)
account-with level size blocks block w r before now read_before read_now runs in_memory writes reads =
    record { written = ap (λ k. 7 * (block * k)) writes ∙ (omega arith); owed = refl; weight = refl; writes = writes; reads = reads; stored = refl }

-- and with records in memory beside
pub beside-with : (k : ℕ) {block w r : ℕ} {x x' : Account} → IsWith block w r x x' → IsWith block w r (beside k x) (beside k x')
beside-with k {block} {w} {r} {x} {x'} is = record { written = is.written; owed = omega (arith, is.owed); weight = is.weight; writes = is.writes; reads = is.reads; stored = is.stored }

module _ (workers block begun : ℕ) {Sound Sound' : Type 0} where
  module _ (t u : Tally) (before : IsCounting u → IsCounting t) (c m : ℕ) (credit : IsCounting u → credit_of workers block t + c ≤ credit_of workers block u) (runs : IsCounting u → runs_of workers t + m ≤ runs_of workers u) where
    -- A step of a pass that may draw slots. It had drawn slots that were written w times before and read r times, and those that it has drawn now
    -- w' and r' times. The step's own clause has the slots that it drew later before the step, and those that it had drawn after it: x' and y'
    module _ (w r w' r' : ℕ) (x y x' y' : Account) (was_with : IsWith block w' r' x x') (is_with : IsWith block w r y y') (was : IsCountedFrom workers block begun w r Sound t x) (sound : Sound) (more : w ≤ w') where
      pub from-counted : Costs c m x' y' → IsCountedFrom workers block begun w' r' Sound' u y
      from-counted costs =
          record {
            paid = λ counting few none. pays counting few;
            covered = λ counting few. (let p = pays counting few in omega (arith, p.spent));
            stay = omega (arith, was.stay, costs.stay, was_with.writes, is_with.writes);
            unread = λ exact none. unread exact;
            read = λ exact. omega (arith, unread exact);
          }
        where
          pays : IsCounting u → runs_of workers u < too_heavy → IsPaidFrom workers block (7 * (block * w') + 56 * begun) u y
          pays counting few =
              let p = was.paid (before counting) (omega (arith, few, runs counting)) sound in
              let is = costs.rises (omega (arith, p.weight, was_with.weight, few, runs counting)) in
              record {
                spent = omega (arith, p.spent, is.spent, credit counting, was_with.written, was_with.owed, is_with.written, is_with.owed);
                weight = omega (arith, p.weight, is.weight, runs counting, was_with.weight, is_with.weight);
              }

          unread : IsExact y → y.reads + y.stored + w' ≤ y.writes + r'
          unread exact =
              let before = was.unread (omega (arith, exact, more, costs.stay, was_with.writes, is_with.writes)) sound in
              let here = costs.read (omega (arith, exact, more, was.stay, costs.stay, was_with.writes, is_with.writes)) in
              omega (arith, before, here, was_with.writes, was_with.reads, was_with.stored, is_with.writes, is_with.reads, is_with.stored)

      -- a block failed
      pub from-failed : (Sound' → ⊥) → Stops c m x' y' → IsCountedFrom workers block begun w' r' Sound' u y
      from-failed failed stops =
          record {
            paid = λ counting few none. absurd (failed none);
            covered = λ counting few.
                let p = was.paid (before counting) (omega (arith, few, runs counting)) sound in
                let is = stops.written (omega (arith, p.weight, was_with.weight, few, runs counting)) in
                omega (arith, p.spent, is, credit counting, was_with.written, was_with.owed, is_with.written);
            stay = omega (arith, was.stay, stops.stay, was_with.writes, is_with.writes);
            unread = λ exact none. absurd (failed none);
            read = λ exact.
                let before = was.unread (omega (arith, exact, more, stops.stay, was_with.writes, is_with.writes)) sound in
                let here = stops.read (omega (arith, exact, more, was.stay, stops.stay, was_with.writes, is_with.writes)) in
                omega (arith, before, here, was_with.writes, was_with.reads, was_with.stored, is_with.writes, is_with.reads);
          }

-- a new pass: it has drawn no slot, and the records of its heap were given to it
pub from-none :
    (workers block begun : ℕ) (Sound : Type 0) (x : Account) → x.written ≡ 0 → x.owed ≡ 56 * begun → x.weight ≡ 0 → x.reads ≡ 0 → x.stored ≡ 0 → IsCountedFrom workers block begun 0 0 Sound no_tally x
from-none workers block begun Sound x w o h r s =
    record {
      paid = λ counting few none. record { spent = omega (arith, w, o); weight = omega (arith, h) };
      covered = λ counting few. omega (arith, w);
      stay = omega arith;
      unread = λ exact none. omega (arith, r, s);
      read = λ exact. omega (arith, r);
    }

-- A pass comes back to the parts, which paid for what was written of its slots before it drew them, and for the records that its heap had in the
-- beginning
pub joined-counted :
    (workers block g rest w r : ℕ) {Sound Sound_pass Sound' : Type 0} (t u : Tally) (x y z : Account)
    → (Sound' → Sound) → (Sound' → Sound_pass) → w ≤ x.writes
    → z.written + 7 * (block * w) ≡ x.written + y.written → z.writes + w ≡ x.writes + y.writes → z.reads + r ≡ x.reads + y.reads
    → (Sound' → z.owed ≡ x.owed + y.owed) → (Sound' → z.weight ≤ x.weight + y.weight) → (Sound' → z.stored ≡ x.stored + y.stored)
    → IsCountedBeside workers block (g + rest) Sound t x → IsCountedFrom workers block g w r Sound_pass u y → IsCountedBeside workers block rest Sound' (joined t u) z
joined-counted workers block g rest w r {Sound} {Sound_pass} {Sound'} t u x y z parts_sound pass_sound within written writes reads owed weight stored one two =
    record {
      paid = λ counting few sound.
          let here = one.paid (counting-left t u counting) (omega (arith, few, runs-joined workers block t u counting)) (parts_sound sound) in
          let there = two.paid (counting-right t u counting) (omega (arith, few, runs-joined workers block t u counting)) (pass_sound sound) in
          record {
            spent = omega (arith, written, owed sound, here.spent, there.spent, credit-joined workers block t u counting);
            weight = omega (arith, weight sound, here.weight, there.weight, runs-joined workers block t u counting);
          };
      covered = λ counting few.
          let here = one.covered (counting-left t u counting) (omega (arith, few, runs-joined workers block t u counting)) in
          let there = two.covered (counting-right t u counting) (omega (arith, few, runs-joined workers block t u counting)) in
          omega (arith, written, here, there, credit-joined workers block t u counting);
      unread = λ exact sound. omega (arith, writes, reads, stored sound, one.unread (parts_exact exact) (parts_sound sound), two.unread (pass_exact exact) (pass_sound sound));
      read = λ exact. omega (arith, writes, reads, one.read (parts_exact exact), two.read (pass_exact exact));
    }
  where
    parts_exact : IsExact z → IsExact x
    parts_exact exact = omega (arith, exact, writes, two.stay)

    pass_exact : IsExact z → IsExact y
    pass_exact exact = omega (arith, exact, writes, within)
