use Rattle.std.proofs.Common.{◌≡◌, ◌∙◌, ◌+◌, ◌*◌, ◌/◌, ◌≤◌, ℕ, List, [], ◌++◌, length, take, Option, Some, None, refl, sym, ap, subst, arith}
use Rattle.ppq_sweep.specs.ppq_record.declared.pair.Pair.{Pair}
use Rattle.ppq_sweep.specs.ppq_record.Pair.{pair_of}
use Rattle.ppq_sweep.specs.ppq_queue.Holding.{Holding}
use Rattle.ppq_engine.specs.ppq_files.Filling.{PieceEndsIn}
use Rattle.ppq_engine.specs.ppq_files.Pieces.{PieceState, IsNextPiece}
use Rattle.ppq_engine.specs.ppq_files.Reading.{ReadsFile}
use Rattle.ppq_engine.specs.ppq_load.Given.{records_of}
use Rattle.ppq_engine.specs.ppq_load.Loading.{InSession, HasGiven, IsReadRefusal}
use Rattle.ppq_engine.specs.ppq_load.declared.fault.LoadFault.{LoadFault}
use Rattle.ppq_engine.proofs.ppq_load.FileRecords.{given-none, given-next, given-stopped}
use Rattle.ppq_engine.proofs.ppq_load.Reading.{read-refused}
use Rattle.ppq_jobs.specs.Edges.{wanted_of, first_bad_from}
use Rattle.ppq_jobs.specs.Loading.{HasLooked}
use Rattle.ppq_jobs.proofs.FirstBytes.{looked-none, bad-next, good-next, looked-all}
use Rattle.ppq_jobs.proofs.LibraryKept.{reads-none, reads-then}
use Rattle.ppq_jobs.proofs.loading.deal_edges.Given as over
use Rattle.ppq_jobs.proofs.loading.deal_edges.Goals.{After-next, After-first_bad, After-deal}
use Rattle.ppq_jobs.proofs.loading.deal_edges.Goals as goal

pub pieces-init : goal.pieces-init
pieces-init g c =
    let told = g.L.Library.told c.args.library.now in
    let wanted = wanted_of c.args.graph.now in
    let start = c.new-pieces.ensures in
    let from : 0 ≡ c.new-pieces.result.from = sym (ap (λ (p : PieceState). p.from) start) in
    record {
      given = λ queue s. subst (λ k. HasGiven pair_of 16 g.S.Slot.shown queue told wanted.name k c.args.session.now) from (given-none pair_of 16 told wanted.name g.S.Slot.shown queue c.args.session.now s);
      going = c.requires.going;
      name = ap (λ (p : PieceState). p.name) start;
      said = ap (λ (p : PieceState). p.said) start;
      within = omega (arith, from);
      room = c.requires.room;
      reads = reads-none g.L.Library.told g.L.Library.replied wanted.name wanted.bytes c.args.library.now;
      stays = refl;
      looked = subst (HasLooked told (g.L.Library.replied c.args.library.now) wanted) from (looked-none told wanted (g.L.Library.replied c.args.library.now));
      counted = omega (arith, from);
    }

-- the next records of the file were read
next :
    (g : over.Over) (c : After-first_bad g)
    → IsNextPiece 16 (g.L.Library.told c.args.library.now) (g.L.Library.replied c.next.new.library) c.pieces.pieces (take c.in-Ok.bytes c.next.new.room) c.in-Ok.bytes c.next.new.self
next g c = subst (λ t. IsNextPiece 16 t (g.L.Library.replied c.next.new.library) c.pieces.pieces (take c.in-Ok.bytes c.next.new.room) c.in-Ok.bytes c.next.new.self) c.pieces.invariant.reads.told c.in-Ok.ensures.piece

-- all that was read ends within the bytes that were said
within : (g : over.Over) (c : After-first_bad g) → c.next.new.self.from * 16 ≤ c.args.graph.now.bytes
within g c = let n = next g c in omega (arith, ap (λ (p : PieceState). p.from) n.new_is, n.within, c.pieces.invariant.said)

-- no byte past the file's end was asked for
reads : (g : over.Over) (c : After-next g) → ReadsFile g.L.Library.told g.L.Library.replied c.args.graph.now.name.now c.args.graph.now.bytes c.args.library.now c.next.new.library
reads g c =
    let i = c.pieces.invariant in
    let name = c.args.graph.now.name.now in
    let bytes = c.args.graph.now.bytes in
    let Read : List ℕ → ℕ → Type 0 = λ n m. ReadsFile g.L.Library.told g.L.Library.replied n m c.pieces.library c.next.new.library in
    reads-then g.L.Library.told g.L.Library.replied name bytes c.args.library.now c.pieces.library c.next.new.library i.reads (subst (λ n. Read n bytes) i.name (subst (λ m. Read c.pieces.pieces.name m) i.said c.next.ensures.reads))

-- its records were given to the passes
given :
    (g : over.Over) (c : After-deal g)
    → IsNextPiece 16 (g.L.Library.told c.args.library.now) (g.L.Library.replied c.next.new.library) c.pieces.pieces (take c.in-Ok.bytes c.next.new.room) c.in-Ok.bytes c.next.new.self
    → (queue : Holding Pair) → InSession g.S.Slot.shown queue [] c.args.session.now
    → HasGiven pair_of 16 g.S.Slot.shown queue (g.L.Library.told c.args.library.now) c.args.graph.now.name.now c.next.new.self.from c.deal.new.self
given g c n queue s =
    let shown = g.S.Slot.shown in
    let piece = take c.in-Ok.bytes c.next.new.room in
    let i = c.pieces.invariant in
    let Deals : List ℕ → Type 0 = λ p. (records : List Pair) → InSession shown queue records c.pieces.session → InSession shown queue (records ++ records_of pair_of 16 p) c.deal.new.self in
    given-next pair_of 16 (g.L.Library.told c.args.library.now) c.args.graph.now.name.now shown queue (g.L.Library.replied c.next.new.library) c.pieces.pieces c.next.new.self piece c.in-Ok.bytes c.pieces.session c.deal.new.self
    (omega arith) i.name n (subst Deals c.new.ensures (c.deal.ensures.session queue)) (i.given queue s)

pub returns-in-Some-clause-deals : goal.returns-in-Some-clause-deals
returns-in-Some-clause-deals g c =
    let at = (goal.at.returns-in-Some-clause-deals g c).After-first_bad in
    let i = c.pieces.invariant in
    let piece = take c.in-Ok.bytes c.next.new.room in
    let found : first_bad_from c.args.graph.now.nodes (c.pieces.pieces.from + 1) (records_of pair_of 16 piece) ≡ Some c.in-Some.bad =
    ap (λ n. first_bad_from c.args.graph.now.nodes n (records_of pair_of 16 piece)) (sym i.counted) ∙ sym c.first_bad.ensures ∙ c.in-Some.is in
    record {
      all = bad-next (g.L.Library.told c.args.library.now) (wanted_of c.args.graph.now) (g.L.Library.replied c.pieces.library) (g.L.Library.replied c.next.new.library) c.pieces.pieces c.next.new.self piece c.in-Ok.bytes (next g at) i.name i.said c.next.ensures.reads.remembers i.looked c.in-Some.bad found;
      some = λ queue s. record { count = c.pieces.pieces.from; few = omega (arith, i.within); given = i.given queue s };
    }

pub returns-in-Some-clause-reads : goal.returns-in-Some-clause-reads
returns-in-Some-clause-reads g c = reads g (goal.at.returns-in-Some-clause-reads g c).After-next

pub returns-then-not-deal-clause-deals : goal.returns-then-not-deal-clause-deals
returns-then-not-deal-clause-deals g c =
    let at = (goal.at.returns-then-not-deal-clause-deals g c).After-deal in
    let read = (goal.at.returns-then-not-deal-clause-deals g c).After-first_bad in
    let n = next g read in
    let told = g.L.Library.told c.args.library.now in
    let wanted = wanted_of c.args.graph.now in
    let count = c.next.new.self.from in
    let below : count ≤ wanted.bytes / 16 = omega (arith, within g read) in
    record {
      all = (
        λ queue s. given-stopped pair_of 16 told wanted.name g.S.Slot.shown queue count (wanted.bytes / 16) c.deal.new.self below (c.deal.ensures.ended c.if-not-deal.true) (given g at n queue s),
        λ going. absurd (let yes = c.deal.ensures.all.1 going in cc (yes, c.if-not-deal.true)),
      );
      some = λ queue s. record { count = count; few = below; given = given g at n queue s };
    }

pub returns-then-not-deal-clause-reads : goal.returns-then-not-deal-clause-reads
returns-then-not-deal-clause-reads g c = reads g (goal.at.returns-then-not-deal-clause-reads g c).After-next

pub pieces-preserved : goal.pieces-preserved
pieces-preserved g c =
    let at = (goal.at.pieces-preserved g c).After-deal in
    let read = (goal.at.pieces-preserved g c).After-first_bad in
    let i = c.pieces.invariant in
    let n = next g read in
    let piece = take c.in-Ok.bytes c.next.new.room in
    let none : first_bad_from c.args.graph.now.nodes (c.pieces.pieces.from + 1) (records_of pair_of 16 piece) ≡ None =
    ap (λ k. first_bad_from c.args.graph.now.nodes k (records_of pair_of 16 piece)) (sym i.counted) ∙ sym c.first_bad.ensures ∙ c.in_default.is in
    record {
      given = given g at n;
      going = c.deal.ensures.all.0 c.if-not-deal.false;
      name = ap (λ (p : PieceState). p.name) n.new_is ∙ i.name;
      said = ap (λ (p : PieceState). p.said) n.new_is ∙ i.said;
      within = within g read;
      room = omega (arith, i.room, c.next.ensures.length);
      reads = reads g (goal.at.pieces-preserved g c).After-next;
      stays = c.in-Ok.ensures.counts.stays ∙ i.stays;
      looked = good-next (g.L.Library.told c.args.library.now) (wanted_of c.args.graph.now) (g.L.Library.replied c.pieces.library) (g.L.Library.replied c.next.new.library) c.pieces.pieces c.next.new.self piece c.in-Ok.bytes n i.name i.said c.next.ensures.reads.remembers i.looked none;
      counted = omega (arith, i.counted, n.bytes_are, ap (λ (p : PieceState). p.from) n.new_is);
    }

pub returns-in-Err-clause-deals : goal.returns-in-Err-clause-deals
returns-in-Err-clause-deals g c =
    let i = c.pieces.invariant in
    let told = g.L.Library.told c.args.library.now in
    let replied = g.L.Library.replied c.next.new.library in
    let name = c.args.graph.now.name.now in
    let said = c.args.graph.now.bytes in
    let Ends : Option (List ℕ → Option (List ℕ)) → List ℕ → ℕ → Type 0 = λ t n m. PieceEndsIn t replied n m c.in-Err.fault in
    let ended : Ends told name said = subst (λ t. Ends t name said) i.reads.told (subst (λ n. Ends (g.L.Library.told c.pieces.library) n said) i.name (subst (λ m. Ends (g.L.Library.told c.pieces.library) c.pieces.pieces.name m) i.said c.in-Err.ensures.ended)) in
    record {
      all = subst (λ (f : LoadFault). IsReadRefusal told replied name said f) (sym c.from.ensures) (read-refused told replied name said c.in-Err.fault ended);
      some = λ queue s. record { count = c.pieces.pieces.from; few = omega (arith, i.within); given = i.given queue s };
    }

pub returns-in-Err-clause-reads : goal.returns-in-Err-clause-reads
returns-in-Err-clause-reads g c = reads g (goal.at.returns-in-Err-clause-reads g c).After-next

pub returns-clause-deals : goal.returns-clause-deals
returns-clause-deals g c =
    let i = c.pieces.invariant in
    let told = g.L.Library.told c.args.library.now in
    let replied = g.L.Library.replied c.pieces.library in
    let wanted = wanted_of c.args.graph.now in
    let over = c.is_over.ensures.0 c.pieces-test.false in
    let end : c.pieces.pieces.from ≡ wanted.bytes / 16 = omega (arith, i.within, over, i.said) in
    record {
      all = (
        λ queue s. subst (λ k. HasGiven pair_of 16 g.S.Slot.shown queue told wanted.name k c.pieces.session) end (i.given queue s),
        λ going. looked-all told wanted replied c.requires.bytes c.requires.length (subst (HasLooked told replied wanted) end i.looked),
      );
      some = λ queue s. record { count = c.pieces.pieces.from; few = omega (arith, i.within); given = i.given queue s };
    }
