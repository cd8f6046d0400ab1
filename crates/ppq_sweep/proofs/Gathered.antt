-- Lines that are gathered, one behind the other, and then written.
use Rattle.std.proofs.Common.{◌≡◌, ℕ, zero, suc, ◌+◌, ◌≤◌, List, [], ◌++◌, Option, Ok, sym, ap, subst, inl, inr, ◌∙◌, arith, append_assoc, append-nil, add-one}
use Rattle.std.specs.Prelude.{nat_eq}
use Rattle.std.proofs.lemmas.Bool.{cases_Bool, eqb-true, eqb-false}
use Rattle.ppq_queue.specs.ppq_heap.ppq_record.declared.pair.Pair.{Pair}
use Rattle.ppq_queue.proofs.ppq_outside.Takes.{takes_nothing, takes_two, takes_and_part, part_of_more}
use Rattle.ppq_text.specs.ppq_outside.Told.{TakesAll, TakesPart}
use Rattle.ppq_text.specs.Gathering.{Gathers, GathersNext}
use Rattle.ppq_sweep.specs.Levels.{level, line_of, sweep_text}

-- a text behind what is gathered, after room was made for it
pub next_text :
    {T E : Type 0} {v : T} (before now : Option (List ℕ)) (s t : ℕ) (had mid has text : List ℕ) → GathersNext {T = T} {E = E} before now s t had [] mid (Ok v) → has ≡ mid ++ text
    → GathersNext {T = T} {E = E} before now s t had text has (Ok v)
next_text before now s t had mid has text h is = record {
  ok = record {
    put = h.ok.put;
    took = h.ok.took;
    kept = ap (λ (x : List ℕ). x ++ text) (sym (append-nil had) ∙ h.ok.kept) ∙ (append_assoc h.ok.put mid text ∙ ap (λ (x : List ℕ). h.ok.put ++ x) (sym is));
  };
  part = tt;
  cause = h.cause;
}

-- nothing gathered yet
pub gathers_none : (told : Option (List ℕ)) (had : List ℕ) → Gathers told told had [] had
gathers_none told had = record { put = []; took = takes_nothing told; kept = append-nil had }

-- two texts, one behind the other
pub gathers_more :
    (before mid now : Option (List ℕ)) (had between has text more : List ℕ) → Gathers before mid had text between → Gathers mid now between more has → Gathers before now had (text ++ more) has
gathers_more before mid now had between has text more h k = record {
  put = h.put ++ k.put;
  took = takes_two before mid now h.put k.put h.took k.took;
  kept =
      sym (append_assoc had text more)
      ∙ (ap (λ (x : List ℕ). x ++ more) h.kept ∙ (append_assoc h.put between more ∙ (ap (λ (x : List ℕ). h.put ++ x) k.kept ∙ sym (append_assoc h.put k.put has))));
}

-- all that was gathered is written, or a part of it
pub all_gathered : (before mid now : Option (List ℕ)) (text has : List ℕ) → Gathers before mid [] text has → TakesAll mid now has → TakesAll before now text
all_gathered before mid now text has h took = subst (TakesAll before now) (sym h.kept) (takes_two before mid now h.put has h.took took)

pub part_gathered : (before mid now : Option (List ℕ)) (text has : List ℕ) → Gathers before mid [] text has → TakesPart mid now has → TakesPart before now text
part_gathered before mid now text has h took = subst (TakesPart before now) (sym h.kept) (takes_and_part before mid now h.put has h.took took)

-- the lines of the first nodes are the first of all
pub first_lines :
    (edges : List Pair) (before now : Option (List ℕ)) (v nodes : ℕ) → v ≤ nodes → TakesPart before now (sweep_text edges v) → TakesPart before now (sweep_text edges nodes)
first_lines edges before now v zero h part = let none : v ≡ 0 = omega (arith, h) in subst (λ n. TakesPart before now (sweep_text edges n)) none part
first_lines edges before now v (suc n) h part =
    elim (cases_Bool (nat_eq v (suc n))) as (λ _. TakesPart before now (sweep_text edges (suc n))) [
      | inl t ↦ subst (λ m. TakesPart before now (sweep_text edges m)) (eqb-true v (suc n) t) part
      | inr f ↦ part_of_more before now (sweep_text edges n) (line_of n (level edges n)) (first_lines edges before now v n (omega (arith, h, eqb-false v (suc n) f)) part)
    ]

-- the lines of one node more
pub next_line : (edges : List Pair) (v : ℕ) → sweep_text edges (v + 1) ≡ sweep_text edges v ++ line_of v (level edges v)
next_line edges v = ap (sweep_text edges) (add-one v)
