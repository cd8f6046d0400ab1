-- One node more comes up, until all nodes did or a call failed.
use Rattle.std.proofs.Common.{◌≡◌, ℕ, ◌+◌, ◌<◌, ◌≤◌, List, [], ◌∷◌, ◌++◌, length, Option, refl, sym, ap, subst, inl, inr, ◌∙◌, arith, append-nil}
use Rattle.std.specs.Prelude.{count_by}
use Rattle.std.proofs.lemmas.Bool.{lt-ltb}
use Rattle.ppq_queue.specs.ppq_heap.ppq_record.declared.pair.Pair.{Pair}
use Rattle.ppq_queue.specs.ppq_heap.ppq_record.Bag.{IsSameBag}
use Rattle.ppq_queue.proofs.ppq_heap.ppq_record.Order.{count_by-append, IsSameBag-length}
use Rattle.ppq_text.specs.Gathering.{Gathers}
use Rattle.ppq_sweep.specs.Levels.{AreEdges, level, line_of, sweep_text}
use Rattle.ppq_sweep.specs.Notes.{later, sent, left, waiting, raised, Hears, TellsAll, ComesUp}
use Rattle.ppq_sweep.specs.Swept.{StopsAtLine, HasSwept, StopsSweep}
use Rattle.ppq_sweep.specs.declared.fault.SweepFault.{SweepFault}
use Rattle.ppq_sweep.specs.declared.fault.SweepFault.TheVariants.{Write, Queue}
use Rattle.ppq_sweep.proofs.Leveling.{level-raised, visit-left, visit-waiting, none-waiting, all-left}
use Rattle.ppq_sweep.proofs.Gathered.{gathers_none, gathers_more, part_gathered, first_lines, next_line}

-- the notes of a node were taken, and then its edges
pub comes_up : (v heard : ℕ) (edges edges' notes mid notes' : List Pair) → Hears v notes mid heard → TellsAll v heard edges edges' mid notes' → ComesUp v edges edges' notes notes'
comes_up v heard edges edges' notes mid notes' h k = record {
  edges_are = k.rest;
  notes_are = subst (λ n. IsSameBag notes' (sent v n edges ++ later v notes)) h.level_is
      (λ p. k.notes_are p ∙ (count_by-append p (sent v heard edges) mid ∙ (ap (λ n. count_by p (sent v heard edges) + n) (h.rest p) ∙ sym (count_by-append p (sent v heard edges) (later v notes)))));
}

-- the line of the level that was heard
pub line_heard :
    (told told' : Option (List ℕ)) (had has : List ℕ) (v heard : ℕ) (notes mid : List Pair) → Hears v notes mid heard → Gathers told told' had (line_of v heard) has
    → Gathers told told' had (line_of v (raised v notes)) has
line_heard told told' had has v heard notes mid h k = subst (λ n. Gathers told told' had (line_of v n) has) h.level_is k

-- before the first node
pub swept_none : (told : Option (List ℕ)) (all notes : List Pair) (has : List ℕ) → notes ≡ [] → has ≡ [] → HasSwept 0 told told all all notes has
swept_none told all notes has none empty = record {
  edges_are = λ p. ap (λ xs. count_by p xs) (sym (all-left all));
  notes_are = λ p. ap (λ xs. count_by p xs) (none ∙ sym (none-waiting (level all) all));
  text = subst (Gathers told told [] []) (sym empty) (gathers_none told []);
}

module _ (nodes v : ℕ) (told mid told' : Option (List ℕ)) (all edges notes : List Pair) (has now : List ℕ) (few : nodes ≤ 4294967296) (are : AreEdges nodes all) (h : HasSwept v told mid all edges notes has) where
  here : raised v notes ≡ level all v
  here = level-raised nodes all notes are few v h.notes_are

  -- the lines up to that of the node that comes up
  lines_here : Gathers mid told' has (line_of v (raised v notes)) now → Gathers told told' [] (sweep_text all (v + 1)) now
  lines_here line =
      subst (λ t. Gathers told told' [] t now) (sym (next_line all v))
      (gathers_more told mid told' [] has now (sweep_text all v) (line_of v (level all v)) h.text (subst (λ n. Gathers mid told' has (line_of v n) now) here line))

  pub swept_more : (edges' notes' : List Pair) → ComesUp v edges edges' notes notes' → Gathers mid told' has (line_of v (raised v notes)) now → HasSwept (v + 1) told told' all edges' notes' now
  swept_more edges' notes' k line = record {
    edges_are = visit-left nodes all edges edges' v h.edges_are k.edges_are;
    notes_are = visit-waiting nodes all edges notes notes' are v h.edges_are h.notes_are (subst (λ n. IsSameBag notes' (sent v n edges ++ later v notes)) here k.notes_are);
    text = lines_here line;
  }

  -- a call failed while the node came up
  pub swept_stopped : (fault : SweepFault) → v < nodes → StopsAtLine mid told' has (line_of v (raised v notes)) now fault → StopsSweep nodes told told' all now fault
  swept_stopped Write below part = first_lines all told told' v nodes (omega (arith, below)) (part_gathered told mid told' (sweep_text all v) has h.text part)
  swept_stopped (Queue fault) below (inl k) =
      (v, omega (arith, below), subst (λ t. Gathers told told' [] t now) (append-nil (sweep_text all v)) (gathers_more told mid told' [] has now (sweep_text all v) [] h.text k))
  swept_stopped (Queue fault) below (inr k) = (v + 1, omega (arith, below), lines_here k)

-- after the last node no edge is left, and no note waits
none_left : (nodes : ℕ) (edges : List Pair) → AreEdges nodes edges → left nodes edges ≡ []
none_left nodes [] are = refl
none_left nodes (e ∷ es) are = rw (lt-ltb e.key nodes (omega (arith, are.0.up, are.0.within))) (none_left nodes es are.1)

no_more : (nodes : ℕ) (f : ℕ → ℕ) (edges : List Pair) → AreEdges nodes edges → waiting f nodes edges ≡ []
no_more nodes f [] are = refl
no_more nodes f (e ∷ es) are = rw (lt-ltb e.key nodes (omega (arith, are.0.up, are.0.within)), lt-ltb e.value nodes are.0.within) (no_more nodes f es are.1)

no_record : (xs : List Pair) → length xs ≡ 0 → xs ≡ []
no_record [] none = refl
no_record (x ∷ xs) none = absurd (omega (arith, none))

pub none_after :
    (nodes : ℕ) (told told' : Option (List ℕ)) (all edges notes : List Pair) (has : List ℕ) → AreEdges nodes all → HasSwept nodes told told' all edges notes has → (edges ≡ []) × (notes ≡ [])
none_after nodes told told' all edges notes has are h = (
  no_record edges (IsSameBag-length edges (left nodes all) h.edges_are ∙ ap (λ (xs : List Pair). length xs) (none_left nodes all are)),
  no_record notes (IsSameBag-length notes (waiting (level all) nodes all) h.notes_are ∙ ap (λ (xs : List Pair). length xs) (no_more nodes (level all) all are)),
)
