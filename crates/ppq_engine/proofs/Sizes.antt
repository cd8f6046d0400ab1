-- How the size of a multiset, its greatest size, and whether a limit session was begun follow from commands.
use Rattle.std.proofs.Common.{◌≡◌, ℕ, ◌≤◌, List, [], ◌∷◌, ◌++◌, take, drop, max, ap, arith, take-append-drop}
use Rattle.std.proofs.Math.Nat.{mul-le-mul_left}
use Rattle.ppq_script.specs.Words.{Words}
use Rattle.ppq_script.specs.ppq_outside.Shown.{Shown}
use Rattle.ppq_load.specs.ppq_budget.Sizes.{Numbers}
use Rattle.ppq_load.specs.ppq_array.Kept.{all_writes}
use Rattle.ppq_script.specs.declared.command.Command.{Command}
use Rattle.ppq_script.specs.declared.command.Command.TheVariants.{Push, Pop, Top, Size, Bulk, Gen, BulkPop, Drain, BulkBegin, BulkPush, BulkEnd, LimitBegin, LimitPush, LimitTop, LimitEnd}
use Rattle.ppq_script.specs.declared.part.Part.{Part}
use Rattle.ppq_script.specs.declared.session.Session.{Session}
use Rattle.ppq_script.specs.declared.session.Session.TheVariants.{Outside}
use Rattle.ppq_script.specs.Parts.{commands_in, HasItsLines}
use Rattle.ppq_engine.specs.Loads.{none_go, all_go, size_after, size_from, greatest_from, settled_from, most_of, least_of, FitsWritten}
use Rattle.ppq_engine.specs.Running.{HasSizes}
use Rattle.ppq_engine.proofs.Lines.{session_from, size_from-append, settled_from-append, part-settled}

module _ {R : Type 0} (w : Words R) (leaves : ℕ → ℕ → ℕ) where
  greatest_from-append : (size : ℕ) (cs ds : List (Command R)) → greatest_from w leaves size (cs ++ ds) ≡ max (greatest_from w leaves size cs) (greatest_from w leaves (size_from w leaves size cs) ds)
  greatest_from-append size [] ds = omega arith
  greatest_from-append size (c ∷ cs) ds = omega (arith, greatest_from-append (size_after w leaves size c) cs ds)

  -- the last size is no more than the greatest, or than the size before
  size-le-greatest : (size : ℕ) (cs : List (Command R)) → size_from w leaves size cs ≤ max size (greatest_from w leaves size cs)
  size-le-greatest size [] = omega arith
  size-le-greatest size (c ∷ cs) = omega (arith, size-le-greatest (size_after w leaves size c) cs)

  pub greatest-take_all : (k : ℕ) (cs : List (Command R)) → greatest_from w leaves 0 (take k cs) ≤ greatest_from w leaves 0 cs
  greatest-take_all k cs = omega (arith, ap (greatest_from w leaves 0) (take-append-drop k cs), greatest_from-append 0 (take k cs) (drop k cs))

-- of more records more are left
none_go-mono : {R : Type 0} (w : Words R) (m n : ℕ) (c : Command R) → m ≤ n → size_after w none_go m c ≤ size_after w none_go n c
none_go-mono w m n (Push item) h = omega arith
none_go-mono w m n Pop h = omega arith
none_go-mono w m n (Bulk file bytes) h = omega arith
none_go-mono w m n (Gen seed count) h = omega arith
none_go-mono w m n (BulkPop count) h = omega arith
none_go-mono w m n (Drain count) h = omega arith
none_go-mono w m n (BulkPush pass item) h = omega arith
none_go-mono w m n (LimitPush pass item) h = omega arith
none_go-mono w m n _ h = h

none_go-mono_from : {R : Type 0} (w : Words R) (m n : ℕ) (cs : List (Command R)) → m ≤ n → size_from w none_go m cs ≤ size_from w none_go n cs
none_go-mono_from w m n [] h = h
none_go-mono_from w m n (c ∷ cs) h = none_go-mono_from w (size_after w none_go m c) (size_after w none_go n c) cs (none_go-mono w m n c h)

all_go-mono : {R : Type 0} (w : Words R) (m n : ℕ) (c : Command R) → m ≤ n → size_after w all_go m c ≤ size_after w all_go n c
all_go-mono w m n Top h = h
all_go-mono w m n Size h = h
all_go-mono w m n BulkBegin h = h
all_go-mono w m n BulkEnd h = h
all_go-mono w m n (LimitBegin limit) h = h
all_go-mono w m n LimitTop h = h
all_go-mono w m n LimitEnd h = h
all_go-mono w m n _ h = omega arith

all_go-mono_from : {R : Type 0} (w : Words R) (m n : ℕ) (cs : List (Command R)) → m ≤ n → size_from w all_go m cs ≤ size_from w all_go n cs
all_go-mono_from w m n [] h = h
all_go-mono_from w m n (c ∷ cs) h = all_go-mono_from w (size_after w all_go m c) (size_after w all_go n c) cs (all_go-mono w m n c h)

-- more writes hold as many records, and what holds more records holds fewer
pub fits-more : (size : ℕ) (sizes : Numbers) (slots later : List Shown) → FitsWritten size sizes slots → all_writes slots ≤ all_writes later → FitsWritten size sizes later
fits-more size sizes slots later fits more = omega (arith, mul-le-mul_left sizes.block more)

pub sizes-begin : {R : Type 0} (w : Words R) (size peak : ℕ) (sizes : Numbers) (slots : List Shown) (commands : List (Command R)) → size ≡ 0 → peak ≡ 0 → HasSizes w size peak sizes slots (take 0 commands)
sizes-begin w size peak sizes slots commands e f = record { low = omega arith; high = omega arith; highest = omega arith; crest = omega arith }

-- the peak that a part is to reach is no more than the commands can bring
pub peak-part :
    {R : Type 0} (w : Words R) (size peak higher : ℕ) (sizes : Numbers) (slots : List Shown) (cs part : List (Command R))
    → HasSizes w size peak sizes slots cs → higher ≤ max peak (size_from w none_go size part) → higher ≤ most_of w (cs ++ part)
peak-part w size peak higher sizes slots cs part has up =
    let all = size_from w none_go 0 cs in
    omega (arith, up, has.highest, none_go-mono_from w size all part has.high, size-le-greatest w none_go all part, size-le-greatest w none_go 0 cs, greatest_from-append w none_go 0 cs part)

-- a part more was run
pub sizes-part :
    {R : Type 0} (w : Words R) (size next peak higher : ℕ) (sizes : Numbers) (slots later : List Shown) (cs : List (Command R)) (p : Part R) (workers : ℕ) → HasItsLines w workers p → session_from Outside cs ≡ Outside
    → HasSizes w size peak sizes slots cs → size_from w all_go size (commands_in p) ≤ next → next ≤ size_from w none_go size (commands_in p) → higher ≤ max peak (size_from w none_go size (commands_in p)) → FitsWritten next sizes later → all_writes slots ≤ all_writes later
    → HasSizes w next higher sizes later (cs ++ commands_in p)
sizes-part {R} w size next peak higher sizes slots later cs p workers is closed has low high up fits more =
    let part = commands_in p in
    let least = size_from w all_go 0 cs in
    let below = all_go-mono_from w least size part has.low in
    let above = none_go-mono_from w size (size_from w none_go 0 cs) part has.high in
    record {
      low = omega (arith, below, low, size_from-append w all_go 0 cs part);
      high = omega (arith, above, high, size_from-append w none_go 0 cs part);
      highest = peak-part w size peak higher sizes slots cs part has up;
      crest =
          omega (arith, below, low, fits, fits-more (least_of w cs) sizes slots later has.crest more, part-settled w all_go least p workers is, ap (λ (s : Session R). settled_from w all_go least s part) closed, settled_from-append w all_go 0 Outside cs part);
    }
