-- Jobs that are to be run, and jobs that were.
use Rattle.std.proofs.Common.{◌≡◌, ℕ, ◌+◌, ◌*◌, List, [], ◌∷◌, ◌++◌, length, map, reverse, sum_by, All, refl, sym, ap, ◌∙◌, subst, arith, append_assoc, length-append}
use Rattle.std.proofs.lemmas.List.Elements.{All-cons, All-head, All-tail, All-nil}
use Rattle.std.proofs.lemmas.List.Sums.{sum_by-cons}
use Rattle.std.proofs.lemmas.List.{map-append, reverse-append, length-map, length-reverse}
use Rattle.ppq_fetch.specs.ppq_block.Block.{Block, IsSettled, holding}
use Rattle.ppq_fetch.specs.ppq_outside.Shown.{Shown}
use Rattle.ppq_fetch.specs.ppq_lane.Jobs.{FitsKind, MayRun}
use Rattle.ppq_fetch.specs.ppq_lane.declared.job.Job.{Job}
use Rattle.ppq_fetch.specs.ppq_array.declared.berth.DeviceBlock.{DeviceBlock}
use Rattle.ppq_fetch.specs.ppq_array.Owner.{HasSlot}
use Rattle.ppq_spill.specs.Grouping.{slot_of, buf_of, IsWrite, items_in}

-- one more of a list, and what comes after it
pub map_on : {X Y : Type 0} (f : X → Y) (xs : List X) (x : X) (ys : List Y) {xs' : List X} → xs' ≡ xs ++ x ∷ [] → map f xs ++ f x ∷ ys ≡ map f xs' ++ ys
map_on f xs x ys e = sym (ap (λ zs. map f zs ++ ys) e ∙ ap (λ zs. zs ++ ys) (map-append f xs (x ∷ [])) ∙ append_assoc (map f xs) (f x ∷ []) ys)

pub long_on : {X : Type 0} (xs : List X) (x : X) {xs' : List X} → xs' ≡ xs ++ x ∷ [] → length xs' ≡ length xs + 1
long_on xs x e = ap length e ∙ length-append xs (x ∷ [])

-- what was moved from the end of one list to another
pub long_as_before : {X Y : Type 0} (f : X → Y) (a a0 : List Y) (xs xs0 : List X) → a ++ map f (reverse xs) ≡ a0 ++ map f (reverse xs0) → length a + length xs ≡ length a0 + length xs0
long_as_before f a a0 xs xs0 e =
    omega (
      arith,
      ap length e,
      length-append a (map f (reverse xs)),
      length-append a0 (map f (reverse xs0)),
      length-map (reverse xs) f,
      length-map (reverse xs0) f,
      length-reverse xs,
      length-reverse xs0,
    )

-- the last of a list is the first of it turned round
pub turned : {X : Type 0} (xs : List X) (x : X) {all : List X} → all ≡ xs ++ x ∷ [] → reverse all ≡ x ∷ reverse xs
turned xs x e = ap reverse e ∙ reverse-append xs (x ∷ [])

module _ {S R : Type 0} where
  -- how many records they have
  pub items_same : (js : List (Job (DeviceBlock S R) R)) → items_in js ≡ sum_by (λ (b : Block R). length b.items) (map buf_of js)
  items_same [] = refl
  items_same (j ∷ js) = omega (arith, items_same js, sum_by-cons (λ (j : Job (DeviceBlock S R) R). length j.buf.items) j js, sum_by-cons (λ (b : Block R). length b.items) j.buf (map buf_of js))

  module _ (width block : ℕ) (shown : S → Shown) where
    abbrev May : Job (DeviceBlock S R) R → Type 0
    May = MayRun width (λ (b : DeviceBlock S R). shown b.slot)

    settled : (buf : Block R) → buf ≡ holding block buf.items → IsSettled buf
    settled buf e = ap (λ (b : Block R). b.raw) e

    -- jobs that write buffers of a block to slots of its size may be run
    pub may_run : (js : List (Job (DeviceBlock S R) R)) → All IsWrite js → All (HasSlot shown (block * width)) (map slot_of js) → All (λ (b : Block R). b ≡ holding block b.items) (map buf_of js) → All May js
    may_run [] is sizes bufs = All-nil May
    may_run (j ∷ js) is sizes bufs =
        let Sized = HasSlot {S = S} {R = R} shown (block * width) in
        let Held : Block R → Type 0 = λ b. b ≡ holding block b.items in
        let kind = All-head IsWrite j js is in
        let held = All-head Held j.buf (map buf_of js) bufs in
        All-cons May j js
        (record { size = ap (λ (b : Block R). b.block * width) held ∙ sym (All-head Sized j.slot (map slot_of js) sizes).size; kind = subst (λ k. FitsKind k j.buf) (sym kind) (settled j.buf held) })
        (may_run js (All-tail IsWrite j js is) (All-tail Sized j.slot (map slot_of js) sizes) (All-tail Held j.buf (map buf_of js) bufs))
