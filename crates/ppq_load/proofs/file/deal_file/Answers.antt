use Rattle.std.proofs.Common.{◌≡◌, ◌∙◌, ◌*◌, ◌/◌, ◌≤◌, ℕ, List, [], ◌++◌, take, Option, refl, sym, ap, subst, arith}
use Rattle.std.proofs.Math.Nat.{le-div_iff_mul-le}
use Rattle.ppq_session.specs.ppq_queue.Holding.{Holding}
use Rattle.ppq_files.specs.Filling.{PieceEndsIn}
use Rattle.ppq_files.specs.Pieces.{PieceState, IsNextPiece}
use Rattle.ppq_files.specs.Reading.{IsReadWithin, ReadsFile}
use Rattle.ppq_files.proofs.Asked.{keeps-none, keeps-then}
use Rattle.ppq_load.specs.Given.{records_of}
use Rattle.ppq_load.specs.Loading.{InSession, HasGiven, IsReadRefusal}
use Rattle.ppq_load.specs.declared.fault.LoadFault.{LoadFault}
use Rattle.ppq_load.proofs.FileRecords.{given-none, given-next, given-stopped}
use Rattle.ppq_load.proofs.Reading.{read-refused}
use Rattle.ppq_load.proofs.file.deal_file.Given as over
use Rattle.ppq_load.proofs.file.deal_file.Goals.{After-next, After-deal}
use Rattle.ppq_load.proofs.file.deal_file.Goals as goal

pub pieces-init : goal.pieces-init
pieces-init g c =
    let told = g.L.Library.told c.args.library.now in
    let name = c.args.pieces.now.name in
    record {
      given = λ queue s. subst (λ (k : ℕ). HasGiven g.R.Record.record_of g.R.Record.WIDTH g.S.Slot.shown queue told name k c.args.session.now) (sym c.requires.unread) (given-none g.R.Record.record_of g.R.Record.WIDTH told name g.S.Slot.shown queue c.args.session.now s);
      going = c.requires.going;
      name = refl;
      said = refl;
      within = subst (λ (k : ℕ). k * g.R.Record.WIDTH ≤ c.args.pieces.now.said) (sym c.requires.unread) (omega arith);
      room = c.requires.room;
      reads = keeps-none g.L.Library.told g.L.Library.replied (IsReadWithin name c.args.pieces.now.said) c.args.library.now;
      stays = refl;
    }

-- the next records of the file were read
next :
    (g : over.Over) (c : After-deal g)
    → IsNextPiece g.R.Record.WIDTH (g.L.Library.told c.args.library.now) (g.L.Library.replied c.next.new.library) c.pieces.pieces (take c.in-Ok.bytes c.next.new.room) c.in-Ok.bytes c.next.new.self
next g c = subst (λ t. IsNextPiece g.R.Record.WIDTH t (g.L.Library.replied c.next.new.library) c.pieces.pieces (take c.in-Ok.bytes c.next.new.room) c.in-Ok.bytes c.next.new.self) c.pieces.invariant.reads.told c.in-Ok.ensures.piece

-- and given to the passes
given :
    (g : over.Over) (c : After-deal g) (queue : Holding g.row.R.Denot) → InSession g.S.Slot.shown queue [] c.args.session.now
    → HasGiven g.R.Record.record_of g.R.Record.WIDTH g.S.Slot.shown queue (g.L.Library.told c.args.library.now) c.args.pieces.now.name c.next.new.self.from c.deal.new.self
given g c queue s =
    let shown = g.S.Slot.shown in
    let record_of = g.R.Record.record_of in
    let width = g.R.Record.WIDTH in
    let piece = take c.in-Ok.bytes c.next.new.room in
    let i = c.pieces.invariant in
    let Deals : List ℕ → Type 0 = λ p. (records : List g.row.R.Denot) → InSession shown queue records c.pieces.session → InSession shown queue (records ++ records_of record_of width p) c.deal.new.self in
    given-next record_of width (g.L.Library.told c.args.library.now) c.args.pieces.now.name shown queue (g.L.Library.replied c.next.new.library) c.pieces.pieces c.next.new.self piece c.in-Ok.bytes c.pieces.session c.deal.new.self
    c.record_laws.ensures.width.0 i.name (next g c) (subst Deals c.new.ensures (c.deal.ensures.session queue)) (i.given queue s)

-- all that was read ends within the bytes that were said
within : (g : over.Over) (c : After-deal g) → c.next.new.self.from * g.R.Record.WIDTH ≤ c.args.pieces.now.said
within g c = let n = next g c in omega (arith, ap (λ (p : PieceState). p.from * g.R.Record.WIDTH) n.new_is, n.within, c.pieces.invariant.said)

-- so many records are among those of the file
few : (from said width : ℕ) → 1 ≤ width → from * width ≤ said → from ≤ said / width
few from said width some read = (le-div_iff_mul-le some).1 read

-- no byte past the file's end was asked for
reads : (g : over.Over) (c : After-next g) → ReadsFile g.L.Library.told g.L.Library.replied c.args.pieces.now.name c.args.pieces.now.said c.args.library.now c.next.new.library
reads g c =
    let i = c.pieces.invariant in
    let name = c.args.pieces.now.name in
    let said = c.args.pieces.now.said in
    let Read : List ℕ → ℕ → Type 0 = λ n m. ReadsFile g.L.Library.told g.L.Library.replied n m c.pieces.library c.next.new.library in
    keeps-then g.L.Library.told g.L.Library.replied (IsReadWithin name said) i.reads (subst (λ n. Read n said) i.name (subst (λ m. Read c.pieces.pieces.name m) i.said c.next.ensures.reads))

pub pieces-preserved : goal.pieces-preserved
pieces-preserved g c =
    let at = (goal.at.pieces-preserved g c).After-deal in
    let i = c.pieces.invariant in
    let n = next g at in
    record {
      given = given g at;
      going = c.deal.ensures.all.0 c.if-not-deal.false;
      name = ap (λ (p : PieceState). p.name) n.new_is ∙ i.name;
      said = ap (λ (p : PieceState). p.said) n.new_is ∙ i.said;
      within = within g at;
      room = omega (arith, i.room, c.next.ensures.length);
      reads = reads g (goal.at.pieces-preserved g c).After-next;
      stays = c.in-Ok.ensures.counts.stays ∙ i.stays;
    }

pub returns-then-not-deal-clause-deals : goal.returns-then-not-deal-clause-deals
returns-then-not-deal-clause-deals g c =
    let at = (goal.at.returns-then-not-deal-clause-deals g c).After-deal in
    let told = g.L.Library.told c.args.library.now in
    let name = c.args.pieces.now.name in
    let count = c.next.new.self.from in
    let below = few count c.args.pieces.now.said g.R.Record.WIDTH c.record_laws.ensures.width.0 (within g at) in
    record {
      given = λ queue s.
          given-stopped g.R.Record.record_of g.R.Record.WIDTH told name g.S.Slot.shown queue count (c.args.pieces.now.said / g.R.Record.WIDTH) c.deal.new.self below (c.deal.ensures.ended c.if-not-deal.true) (given g at queue s);
      some = λ queue s. record { count = count; few = below; given = given g at queue s };
      refused = tt;
    }

pub returns-then-not-deal-clause-reads : goal.returns-then-not-deal-clause-reads
returns-then-not-deal-clause-reads g c = reads g (goal.at.returns-then-not-deal-clause-reads g c).After-next

pub returns-in-Err-clause-deals : goal.returns-in-Err-clause-deals
returns-in-Err-clause-deals g c =
    let i = c.pieces.invariant in
    let told = g.L.Library.told c.args.library.now in
    let replied = g.L.Library.replied c.next.new.library in
    let name = c.args.pieces.now.name in
    let said = c.args.pieces.now.said in
    let Ends : Option (List ℕ → Option (List ℕ)) → List ℕ → ℕ → Type 0 = λ t n m. PieceEndsIn t replied n m c.in-Err.fault in
    let ended : Ends told name said = subst (λ t. Ends t name said) i.reads.told (subst (λ n. Ends (g.L.Library.told c.pieces.library) n said) i.name (subst (λ m. Ends (g.L.Library.told c.pieces.library) c.pieces.pieces.name m) i.said c.in-Err.ensures.ended)) in
    record {
      given = tt;
      some = λ queue s. record { count = c.pieces.pieces.from; few = few c.pieces.pieces.from said g.R.Record.WIDTH c.record_laws.ensures.width.0 i.within; given = i.given queue s };
      refused = subst (λ (f : LoadFault). IsReadRefusal told replied name said f) (sym c.from.ensures) (read-refused told replied name said c.in-Err.fault ended);
    }

pub returns-in-Err-clause-reads : goal.returns-in-Err-clause-reads
returns-in-Err-clause-reads g c = reads g (goal.at.returns-in-Err-clause-reads g c).After-next

pub returns-clause-deals : goal.returns-clause-deals
returns-clause-deals g c =
    let i = c.pieces.invariant in
    let told = g.L.Library.told c.args.library.now in
    let name = c.args.pieces.now.name in
    let said = c.args.pieces.now.said in
    let below = few c.pieces.pieces.from said g.R.Record.WIDTH c.record_laws.ensures.width.0 i.within in
    let over = c.is_over.ensures.0 c.pieces-test.false in
    let end : c.pieces.pieces.from ≡ said / g.R.Record.WIDTH = omega (arith, below, over, ap (λ m. m / g.R.Record.WIDTH) i.said) in
    record {
      given = λ queue s. subst (λ k. HasGiven g.R.Record.record_of g.R.Record.WIDTH g.S.Slot.shown queue told name k c.pieces.session) end (i.given queue s);
      some = λ queue s. record { count = c.pieces.pieces.from; few = below; given = i.given queue s };
      refused = tt;
    }
