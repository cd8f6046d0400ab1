-- Texts that are gathered, one behind the other.
use Rattle.std.proofs.Common.{◌≡◌, ℕ, List, [], ◌++◌, Option, Ok, sym, ap, subst, ◌∙◌, append_assoc, append-nil}
use Rattle.ppq_handler.specs.ppq_outside.Told.{TakesAll, TakesPart}
use Rattle.ppq_queue.proofs.ppq_outside.Takes.{takes_nothing, takes_two, takes_and_part}
use Rattle.ppq_text.specs.Gathering.{Gathers, GathersNext}

-- a text behind what is gathered
pub gathers_text : (before now : Option (List ℕ)) (had mid has text : List ℕ) → Gathers before now had [] mid → has ≡ mid ++ text → Gathers before now had text has
gathers_text before now had mid has text h is = record {
  put = h.put;
  took = h.took;
  kept = ap (λ (x : List ℕ). x ++ text) (sym (append-nil had) ∙ h.kept) ∙ (append_assoc h.put mid text ∙ ap (λ (x : List ℕ). h.put ++ x) (sym is));
}

-- a text behind what is gathered, after room was made for it
pub next_text :
    {T E : Type 0} {v : T} (before now : Option (List ℕ)) (s t : ℕ) (had mid has text : List ℕ) → GathersNext {T = T} {E = E} before now s t had [] mid (Ok v) → has ≡ mid ++ text
    → GathersNext {T = T} {E = E} before now s t had text has (Ok v)
next_text before now s t had mid has text h is = record { ok = gathers_text before now had mid has text h.ok is; part = tt; cause = h.cause }

-- nothing gathered yet
pub gathers_none : (told : Option (List ℕ)) (had : List ℕ) → Gathers told told had [] had
gathers_none told had = record { put = []; took = takes_nothing told; kept = append-nil had }

-- two texts, one behind the other
pub gathers_more :
    (before mid now : Option (List ℕ)) (had between has text more : List ℕ) → Gathers before mid had text between → Gathers mid now between more has → Gathers before now had (text ++ more) has
gathers_more before mid now had between has text more h k = record {
  put = h.put ++ k.put;
  took = takes_two before mid now h.put k.put h.took k.took;
  kept =
      sym (append_assoc had text more)
      ∙ (ap (λ (x : List ℕ). x ++ more) h.kept ∙ (append_assoc h.put between more ∙ (ap (λ (x : List ℕ). h.put ++ x) k.kept ∙ sym (append_assoc h.put k.put has))));
}

-- a part of what is gathered is a part of a longer text
pub part_of_gathered :
    (before mid now : Option (List ℕ)) (had between text more : List ℕ) → Gathers before mid had text between → TakesPart mid now (between ++ more) → TakesPart before now (had ++ (text ++ more))
part_of_gathered before mid now had between text more h took =
    let all : h.put ++ (between ++ more) ≡ had ++ (text ++ more) = sym (append_assoc h.put between more) ∙ (ap (λ (x : List ℕ). x ++ more) (sym h.kept) ∙ append_assoc had text more) in
    subst (TakesPart before now) all (takes_and_part before mid now h.put (between ++ more) h.took took)

-- all of what is gathered
pub all_of_gathered :
    (before mid now : Option (List ℕ)) (had between text more : List ℕ) → Gathers before mid had text between → TakesAll mid now (between ++ more) → TakesAll before now (had ++ (text ++ more))
all_of_gathered before mid now had between text more h took =
    let all : h.put ++ (between ++ more) ≡ had ++ (text ++ more) = sym (append_assoc h.put between more) ∙ (ap (λ (x : List ℕ). x ++ more) (sym h.kept) ∙ append_assoc had text more) in
    subst (TakesAll before now) all (takes_two before mid now h.put (between ++ more) h.took took)

-- what was gathered and a part of it
pub part_gathered : (before mid now : Option (List ℕ)) (had between text : List ℕ) → Gathers before mid had text between → TakesPart mid now between → TakesPart before now (had ++ text)
part_gathered before mid now had between text h took = subst (TakesPart before now) (sym h.kept) (takes_and_part before mid now h.put between h.took took)

pub all_gathered : (before mid now : Option (List ℕ)) (had between text : List ℕ) → Gathers before mid had text between → TakesAll mid now between → TakesAll before now (had ++ text)
all_gathered before mid now had between text h took = subst (TakesAll before now) (sym h.kept) (takes_two before mid now h.put between h.took took)

step : (x y a rest : List ℕ) → x ≡ y ++ a → x ++ rest ≡ y ++ (a ++ rest)
step x y a rest is = ap (λ (z : List ℕ). z ++ rest) is ∙ append_assoc y a rest

-- three texts, one behind the other
pub three_texts : (x y z w a b d : List ℕ) → y ≡ x ++ a → z ≡ y ++ b → w ≡ z ++ d → w ≡ x ++ (a ++ (b ++ d))
three_texts x y z w a b d one two three = three ∙ (step z y b d two ∙ step y x a (b ++ d) one)

-- two texts, one behind the other
pub two_texts : (x y z a b : List ℕ) → y ≡ x ++ a → z ≡ y ++ b → z ≡ x ++ (a ++ b)
two_texts x y z a b one two = two ∙ step y x a b one

-- eight texts, one behind the other
pub eight_texts :
    (x0 x1 x2 x3 x4 x5 x6 x7 x8 a b d e f h i j : List ℕ) → x1 ≡ x0 ++ a → x2 ≡ x1 ++ b → x3 ≡ x2 ++ d → x4 ≡ x3 ++ e → x5 ≡ x4 ++ f → x6 ≡ x5 ++ h → x7 ≡ x6 ++ i → x8 ≡ x7 ++ j
    → x8 ≡ x0 ++ (((((((a ++ b) ++ d) ++ e) ++ f) ++ h) ++ i) ++ j)
eight_texts x0 x1 x2 x3 x4 x5 x6 x7 x8 a b d e f h i j p1 p2 p3 p4 p5 p6 p7 p8 =
    let t2 = two_texts x0 x1 x2 a b p1 p2 in
    let t3 = two_texts x0 x2 x3 (a ++ b) d t2 p3 in
    let t4 = two_texts x0 x3 x4 ((a ++ b) ++ d) e t3 p4 in
    let t5 = two_texts x0 x4 x5 (((a ++ b) ++ d) ++ e) f t4 p5 in
    let t6 = two_texts x0 x5 x6 ((((a ++ b) ++ d) ++ e) ++ f) h t5 p6 in
    let t7 = two_texts x0 x6 x7 (((((a ++ b) ++ d) ++ e) ++ f) ++ h) i t6 p7 in
    two_texts x0 x7 x8 ((((((a ++ b) ++ d) ++ e) ++ f) ++ h) ++ i) j t7 p8
