-- Parts of a run that were made, one after the other.
use Rattle.std.proofs.Common.{◌≡◌, ℕ, ◌≤◌, List, [], ◌∷◌, ◌++◌, length, max, take, drop, refl, sym, ap, ap₂, subst, ◌∙◌, arith, Option, append_assoc, append-nil, length-append}
use Rattle.std.specs.Prelude.{flat_map}
use Rattle.std.proofs.lemmas.Grind.{flat_map-append}
use Rattle.std.proofs.lemmas.List.{take-append-drop}
use Rattle.ppq_queue.proofs.ppq_outside.Takes.{part_of_more, all_is_part}
use Rattle.ppq_handler.specs.ppq_outside.Told.{TakesAll, TakesPart}
use Rattle.ppq_handler.specs.declared.ending.Ending.{Ending}
use Rattle.ppq_handler.specs.Roster.{Place}
use Rattle.ppq_handler.specs.Agenda.{Entry, Run, entry_text, ending_text, ended, journal}
use Rattle.ppq_text.specs.Gathering.{Gathers}
use Rattle.ppq_event.specs.declared.fault.SimFault.{SimFault}
use Rattle.ppq_event.specs.declared.fault.SimFault.TheVariants.{Write, Queue}
use Rattle.ppq_event.specs.Going.{prefixed, greatest, Text, text_of, HasMade, HasWritten, StopsRun}
use Rattle.ppq_event.specs.Simulated.{Simulates, WroteLines}
use Rattle.ppq_event.proofs.Gathered.{gathers_none, gathers_more, part_of_gathered, all_of_gathered, all_gathered}

-- the greatest of a list and another one behind it
pub greatest-append : (n : ℕ) (xs ys : List ℕ) → greatest n (xs ++ ys) ≡ greatest (greatest n xs) ys
greatest-append n [] ys = refl
greatest-append n (x ∷ xs) ys = greatest-append (max n x) xs ys

-- the greatest rises with its number
pub greatest-rises : (n m : ℕ) (xs : List ℕ) → n ≤ m → greatest n xs ≤ greatest m xs
greatest-rises n m [] le = le
greatest-rises n m (x ∷ xs) le = greatest-rises (max n x) (max m x) xs (omega (arith, le))

prefixed_twice : (one other : List Entry) (ws vs : List ℕ) (r : Run) → prefixed one ws (prefixed other vs r) ≡ prefixed (one ++ other) (ws ++ vs) r
prefixed_twice one other ws vs r = ap₂ (λ (es : List Entry) (ns : List ℕ). let q : Run = record { entries = es; waiting = ns; ending = r.ending; places = r.places } in q) (sym (append_assoc one other r.entries)) (sym (append_assoc ws vs r.waiting))

-- nothing was made yet
pub made_none : (whole : Run) (n : ℕ) (text : Text) → HasMade whole whole n n text text
made_none whole n text = record { entries = []; waiting = []; same_long = refl; run = refl; gathered = gathers_none text.told text.gathered; peak = omega arith }

-- a part more
pub made_more : (whole mid rest : Run) (n m k : ℕ) (a b d : Text) → HasMade whole mid n m a b → HasMade mid rest m k b d → HasMade whole rest n k a d
made_more whole mid rest n m k a b d h g = record {
  entries = h.entries ++ g.entries;
  waiting = h.waiting ++ g.waiting;
  same_long = omega (arith, h.same_long, g.same_long, length-append h.entries g.entries, length-append h.waiting g.waiting);
  run = h.run ∙ (ap (prefixed h.entries h.waiting) g.run ∙ prefixed_twice h.entries g.entries h.waiting g.waiting rest);
  gathered = subst (λ t. Gathers a.told d.told a.gathered t d.gathered) (sym (flat_map-append entry_text h.entries g.entries))
      (gathers_more a.told b.told d.told a.gathered b.gathered d.gathered (flat_map entry_text h.entries) (flat_map entry_text g.entries) h.gathered g.gathered);
  peak = omega (arith, g.peak, greatest-rises m (greatest n h.waiting) g.waiting h.peak, greatest-append n h.waiting g.waiting);
}

-- and then the sink failed
pub written_more : (whole mid : Run) (n m : ℕ) (a b d : Text) → HasMade whole mid n m a b → HasWritten mid b d → HasWritten whole a d
written_more whole mid n m a b d h g = record {
  entries = h.entries ++ g.entries;
  waiting = h.waiting ++ g.waiting;
  rest = g.rest;
  run = h.run ∙ (ap (prefixed h.entries h.waiting) g.run ∙ prefixed_twice h.entries g.entries h.waiting g.waiting g.rest);
  part = subst (λ t. TakesPart a.told d.told (a.gathered ++ t)) (sym (flat_map-append entry_text h.entries g.entries))
      (part_of_gathered a.told b.told d.told a.gathered b.gathered (flat_map entry_text h.entries) (flat_map entry_text g.entries) h.gathered g.part);
}

pub stops_more : (whole mid : Run) (n m k : ℕ) (a b d : Text) (fault : SimFault) → HasMade whole mid n m a b → StopsRun mid m k b d fault → StopsRun whole n k a d fault
stops_more whole mid n m k a b d Write h g = written_more whole mid n m a b d h g
stops_more whole mid n m k a b d (Queue fault) h g = (g.0, made_more whole mid g.0 n m k a b d h g.1)

-- a run that has ended: its journal was written, with the line of the ending behind
pub simulated :
    (whole : Run) (ending : Ending) (places : List Place) (n m : ℕ) (told mid told' : Option (List ℕ)) (has : List ℕ) → HasMade whole (ended ending places) n m (text_of told []) (text_of mid has)
    → TakesAll mid told' (has ++ ending_text ending) → Simulates whole places told told' ending
simulated whole ending places n m told mid told' has h took =
    let entries : whole.entries ≡ h.entries = ap (λ (r : Run). r.entries) h.run ∙ append-nil h.entries in
    let ends : whole.ending ≡ ending = ap (λ (r : Run). r.ending) h.run in
    let text : flat_map entry_text h.entries ++ ending_text ending ≡ journal whole = ap₂ (λ es e. flat_map entry_text es ++ ending_text e) (sym entries) (sym ends) in
    record {
      wrote = subst (TakesAll told told') text (all_of_gathered told mid told' [] has (flat_map entry_text h.entries) (ending_text ending) h.gathered took);
      ends = sym ends;
      leaves = sym (ap (λ (r : Run). r.places) h.run);
    }

-- the journal begins with the lines of the first turns
journal_begins : (whole rest : Run) (entries : List Entry) (waiting : List ℕ) → whole ≡ prefixed entries waiting rest → journal whole ≡ flat_map entry_text entries ++ journal rest
journal_begins whole rest entries waiting is =
    ap journal is ∙ (ap (λ t. t ++ ending_text rest.ending) (flat_map-append entry_text entries rest.entries) ∙ append_assoc (flat_map entry_text entries) (flat_map entry_text rest.entries) (ending_text rest.ending))

-- where the sink failed it took a prefix of the journal
pub prefix_written : (whole : Run) (told told' : Option (List ℕ)) (has : List ℕ) → HasWritten whole (text_of told []) (text_of told' has) → TakesPart told told' (journal whole)
prefix_written whole told told' has h =
    subst (TakesPart told told') (sym (journal_begins whole h.rest h.entries h.waiting h.run)) (part_of_more told told' (flat_map entry_text h.entries) (journal h.rest) h.part)

-- also where it failed at the end, with a text of the journal to come
pub prefix_ended :
    (whole rest : Run) (n m : ℕ) (told mid told' : Option (List ℕ)) (has text more : List ℕ) → HasMade whole rest n m (text_of told []) (text_of mid has) → journal rest ≡ text ++ more
    → TakesPart mid told' (has ++ text) → TakesPart told told' (journal whole)
prefix_ended whole rest n m told mid told' has text more h is took =
    let begins = journal_begins whole rest h.entries h.waiting h.run ∙ (ap (λ t. flat_map entry_text h.entries ++ t) is ∙ sym (append_assoc (flat_map entry_text h.entries) text more)) in
    subst (TakesPart told told') (sym begins) (part_of_more told told' (flat_map entry_text h.entries ++ text) more (part_of_gathered told mid told' [] has (flat_map entry_text h.entries) text h.gathered took))

-- whole lines were written where all that was gathered was
pub lines_written :
    (whole rest : Run) (n m : ℕ) (told mid told' : Option (List ℕ)) (has : List ℕ) → HasMade whole rest n m (text_of told []) (text_of mid has) → TakesAll mid told' has → WroteLines whole n m told told'
lines_written whole rest n m told mid told' has h took =
    let entries : take (length h.entries) whole.entries ≡ h.entries = ap (λ (r : Run). take (length h.entries) r.entries) h.run ∙ take_front h.entries rest.entries in
    let waiting : take (length h.entries) whole.waiting ≡ h.waiting = ap (λ (r : Run). take (length h.entries) r.waiting) h.run ∙ (ap (λ k. take k (h.waiting ++ rest.waiting)) (sym h.same_long) ∙ take_front h.waiting rest.waiting) in
    record {
      turns = length h.entries;
      wrote = subst (λ es. TakesAll told told' (flat_map entry_text es)) (sym entries) (all_gathered told mid told' [] has (flat_map entry_text h.entries) h.gathered took);
      peak = subst (λ ws. m ≤ greatest n ws) (sym waiting) h.peak;
    }
  where
    take_front : {X : Type 0} (xs ys : List X) → take (length xs) (xs ++ ys) ≡ xs
    take_front [] ys = refl
    take_front {X} (x ∷ xs) ys = ap (λ (zs : List X). x ∷ zs) (take_front xs ys)

pub lines_are_prefix : (whole : Run) (n m : ℕ) (told told' : Option (List ℕ)) → WroteLines whole n m told told' → TakesPart told told' (journal whole)
lines_are_prefix whole n m told told' h =
    let first = take h.turns whole.entries in
    let rest = drop h.turns whole.entries in
    let all : flat_map entry_text first ++ (flat_map entry_text rest ++ ending_text whole.ending) ≡ journal whole =
    sym (append_assoc (flat_map entry_text first) (flat_map entry_text rest) (ending_text whole.ending)) ∙ ap (λ t. t ++ ending_text whole.ending) (sym (flat_map-append entry_text first rest) ∙ ap (flat_map entry_text) (take-append-drop h.turns whole.entries)) in
    subst (TakesPart told told') all (part_of_more told told' (flat_map entry_text first) (flat_map entry_text rest ++ ending_text whole.ending) (all_is_part told told' (flat_map entry_text first) h.wrote))
