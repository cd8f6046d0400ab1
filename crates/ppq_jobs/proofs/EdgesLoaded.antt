-- What a load of edges says, by what its session and its reading said.
use Rattle.std.proofs.Common.{ℕ, List, [], Option, Some, None, All, arith}
use Rattle.std.specs.Prelude.{Result, Ok, Err, OnOk, IfErr}
use Rattle.ppq_sweep.specs.ppq_record.declared.pair.Pair.{Pair}
use Rattle.ppq_sweep.specs.ppq_record.Pair.{pair_of}
use Rattle.ppq_sweep.specs.ppq_outside.Told.{Reply}
use Rattle.ppq_sweep.specs.ppq_queue.Shown.{Shown}
use Rattle.ppq_sweep.specs.ppq_queue.Holding.{Holding}
use Rattle.ppq_engine.specs.ppq_array.declared.store_fault.StoreFault.{StoreFault as QueueFault}
use Rattle.ppq_engine.specs.ppq_files.Reading.{HasLength, CountsBy}
use Rattle.ppq_engine.specs.ppq_load.Loading.{SessionHolding, InSession, IsLoaded, IsLeftBy, LoadCountsFrom}
use Rattle.ppq_engine.specs.ppq_load.ppq_session.Dealing.{IsGoing}
use Rattle.ppq_engine.specs.ppq_load.declared.fault.LoadFault.{LoadFault}
use Rattle.ppq_engine.proofs.ppq_load.Results.{first-says, first-left}
use Rattle.ppq_jobs.specs.Edges.{Wanted, edge_count}
use Rattle.ppq_jobs.specs.Loading.{DealsEdges, LoadsEdges, answer_of}

module _ {S : Type 0} (shown : S → Shown) (told : Option (List ℕ → Option (List ℕ))) (replied : Reply → Type 0) (wanted : Wanted) (began dealt : SessionHolding S Pair) (queue new : Holding Pair) where
  -- the session ended
  pub loads-says :
      (read : Result (Option ℕ) LoadFault) (ended : Result (Unit {0}) QueueFault) → DealsEdges shown told replied wanted began dealt read → InSession shown queue [] began → HasLength told wanted.name wanted.bytes
      → ((records : List Pair) → InSession shown queue records dealt → IsLoaded queue records new ended) → IfErr ended (IsLeftBy shown dealt new) → OnOk ended (All IsGoing dealt.passes)
      → LoadsEdges told replied wanted queue new (answer_of read ended)
  loads-says (Ok None) (Ok value) deals session long loaded left going =
      let read : Result (Option ℕ) LoadFault = Ok None in
      let says = first-says pair_of 16 shown told wanted.name wanted.bytes dealt queue new (Ok value) loaded long read (deals.all.0 queue session) tt in
      record { good = deals.all.1 going; bag = says.all; size = says.size; sound = says.sound; quiet = says.quiet; peak = says.peak }
  loads-says (Ok None) (Err fault) deals session long loaded left going =
      let read : Result (Option ℕ) LoadFault = Ok None in
      let ended : Result (Unit {0}) QueueFault = Err fault in
      let all = deals.all.0 queue session in
      let says = first-says pair_of 16 shown told wanted.name wanted.bytes dealt queue new ended loaded long read all tt in
      record { stops = says.refused; ended = tt; left = first-left shown queue all.records dealt new (edge_count wanted) (omega (arith, all.are.length)) all.session read ended (loaded all.records all.session) left tt }
  loads-says (Ok (Some at)) ended deals session long loaded left going = deals.all
  loads-says (Err fault) ended deals session long loaded left going =
      let read : Result (Option ℕ) LoadFault = Err fault in
      let some = deals.some queue session in
      let says = first-says pair_of 16 shown told wanted.name wanted.bytes dealt queue new ended loaded long read tt deals.all.by_file in
      record {
        stops = says.refused;
        ended = deals.all.ended;
        left = first-left shown queue some.given.records dealt new (edge_count wanted) (omega (arith, some.given.are.length, some.few)) some.given.session read ended (loaded some.given.records some.given.session) left deals.all.by_file;
      }

-- the count of the library does what it did while the file was read
pub loads-counts : (before now : ℕ) (read : Result (Option ℕ) LoadFault) (ended : Result (Unit {0}) QueueFault) → CountsBy LoadCountsFrom before now read → CountsBy LoadCountsFrom before now (answer_of read ended)
loads-counts before now (Ok None) (Ok value) counts = record { later = counts.later; stays = counts.stays; cause = tt }
loads-counts before now (Ok None) (Err fault) counts = record { later = counts.later; stays = tt; cause = counts.stays }
loads-counts before now (Ok (Some at)) ended counts = record { later = counts.later; stays = counts.stays; cause = tt }
loads-counts before now (Err fault) ended counts = record { later = counts.later; stays = tt; cause = counts.cause }
