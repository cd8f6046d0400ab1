use Rattle.std.proofs.Common.{◌≡◌, ◌+◌, ◌<◌, ◌++◌, length, ap, sym, ◌∙◌, subst, arith, length-append}
use Rattle.std.proofs.lemmas.Bool.Decides.{nat_tests}
use Rattle.ppq_heap.proofs.ppq_record.Order.{IsSameBag-length}
use Rattle.ppq_heap.specs.Heaps.{items_of, share_at}
use Rattle.ppq_queue.specs.Resting.{Moved}
use Rattle.ppq_queue.proofs.Moves.{ok-map}
use Rattle.ppq_queue.proofs.Ready.{sorted-same}
use Rattle.ppq_queue.proofs.Shared.{share_most}
use Rattle.ppq_queue.proofs.Took.{empty_list}
use Rattle.ppq_queue.proofs.HeapStores.{changes-refl, changes-trans, changed-stay}
use Rattle.ppq_spill.proofs.ppq_counts.Accounts.{costs-same, costs-more, costs-left}
use Rattle.ppq_queue.proofs.Paying.{ok_pays, pays_ok, pays-more, pays-next, pays-beside, pays-kept, pays-given}
use Rattle.ppq_queue.proofs.Stores.{heaps-same, stays-step, same-sources, holds-heap, leaves-same, leaves-more, leaves-beside, leaves-sorted, leaves-refused, not_ok}
use Rattle.ppq_queue.proofs.store.Store.store_heap.Goals as goal

pub returns-then-is_empty : goal.returns-then-is_empty
returns-then-is_empty g c =
    let zero : length c.share.result.now ≡ 0 = grind (arith, nat_tests) in
    record {
      leaves = record { leaves = leaves-same c.requires.may.works; heaps = heaps-same; emptied = c.requires.may.emptied; pays = ok_pays (costs-more (omega arith) (omega arith) (costs-same _)) };
      only = changes-refl c.args.place c.args.heaps.now;
      share = record { emptied = sym c.share.ensures.items ∙ empty_list c.share.result.now zero; left = omega (arith, zero, ap length c.share.ensures.items) };
    }

pub store_run-requires-clause-may : goal.store_run-requires-clause-may
store_run-requires-clause-may g c κs within =
    let h = c.args.heaps.now in
    let old = share_at h c.args.place in
    let new = share_at c.sort_share.new.self c.args.place in
    let some : 0 < length c.share.result.now = grind (arith, nat_tests) in
    let long = IsSameBag-length new old (sorted-same c.record_laws.ensures.order old new c.sort_share.ensures.share) in
    let run = ap length c.share-2.ensures.items in
    record {
      runs = c.requires.may.works.runs;
      few = c.requires.may.emptied.few;
      some = omega (arith, some, ap length c.share.ensures.items, long, run);
      most = omega (arith, c.requires.may.most, share_most h c.args.place, long, run);
    }

pub returns-in_err-store_run : goal.returns-in_err-store_run
returns-in_err-store_run g c =
    let x = c.args.self.now in
    let h = c.args.heaps.now in
    let sorted = c.sort_share.new.self in
    let given = c.from_residual.ensures.1 in
    let made = c.store_run.ensures in
    let same = c.sort_share.ensures.bag in
    let long = IsSameBag-length (items_of sorted) (items_of h) same in
    let old = share_at h c.args.place in
    let run = share_at sorted c.args.place in
    let some : 0 < length c.share.result.now = grind (arith, nat_tests) in
    let run_long = IsSameBag-length run old (sorted-same c.record_laws.ensures.order old run c.sort_share.ensures.share) in
    let all = ap length c.share-2.ensures.items in
    record {
      leaves = record {
        leaves = leaves-sorted same (leaves-refused x c.store_run.new.body c.store_run.new.supply c.requires.may.works made.kept.body made.kept.no_row (items_of h) (omega (arith, some, ap length c.share.ensures.items, run_long, all)) (omega (arith, long, share_most sorted c.args.place, all)) given c.in_err-store_run.ensures);
        heaps = changed-stay c.sort_share.ensures.others (omega (arith, long));
        emptied = not_ok _ _ _ given;
        pays = pays-more (omega arith) (omega arith) (omega arith) (omega arith) (pays-given given (pays-kept (length c.share-2.result.now) (length (items_of h)) (length (items_of sorted)) (sym long) (omega (arith, long, share_most sorted c.args.place, all)) c.in_err-store_run.ensures.pays));
      };
      only = c.sort_share.ensures.others;
      share = not_ok _ _ _ given;
    }

pub settle-requires-clause-works : goal.settle-requires-clause-works
settle-requires-clause-works g c κs within =
    let x = c.args.self.now in
    let sorted = share_at c.sort_share.new.self c.args.place in
    let b = c.store_run.new.body in
    let t = c.store_run.new.supply in
    let made = c.store_run.ensures in
    let moved = subst (λ l. Moved g.S.Slot.shown g.R.Ord.cmp g.R.Record.record_of g.R.Record.WIDTH x.sizes l x.body b x.supply t) c.share-2.ensures.items c.in_ok-store_run.ensures.stored in
    (holds-heap x b t c.requires.may.works made.kept.body made.kept.no_row (items_of c.args.heaps.now) sorted (items_of c.clear_share.new.self) c.requires.may.emptied.no_extract (λ p. sym (c.sort_share.ensures.bag p) ∙ c.clear_share.ensures.bag p) moved).works

pub returns : goal.returns
returns g c =
    let x = c.args.self.now in
    let h = items_of c.args.heaps.now in
    let all = c.sort_share.new.self in
    let sorted = share_at all c.args.place in
    let left = items_of c.clear_share.new.self in
    let b = c.store_run.new.body in
    let t = c.store_run.new.supply in
    let made = c.store_run.ensures in
    let moved = subst (λ l. Moved g.S.Slot.shown g.R.Ord.cmp g.R.Record.record_of g.R.Record.WIDTH x.sizes l x.body b x.supply t) c.share-2.ensures.items c.in_ok-store_run.ensures.stored in
    let none = c.requires.may.emptied.no_extract in
    let holds = holds-heap x b t c.requires.may.works made.kept.body made.kept.no_row h sorted left none (λ p. sym (c.sort_share.ensures.bag p) ∙ c.clear_share.ensures.bag p) moved in
    let two = c.settle.ensures in
    let settled = two.levels.leaves in
    let two_long = IsSameBag-length (items_of all) h c.sort_share.ensures.bag in
    let parted = IsSameBag-length (items_of all) (sorted ++ left) c.clear_share.ensures.bag in
    let long : length left + length sorted ≡ length h = omega (arith, two_long, parted, length-append sorted left) in
    let was = share_at c.args.heaps.now c.args.place in
    let one_long = IsSameBag-length sorted was (sorted-same c.record_laws.ensures.order was sorted c.sort_share.ensures.share) in
    let given = ap length c.share-2.ensures.items in
    let only = changes-trans c.args.place c.args.heaps.now all c.clear_share.new.self c.sort_share.ensures.others c.clear_share.ensures.others in
    record {
      leaves = record {
        leaves = leaves-more (stays-step x b t x.sources made.kept.body made.kept.no_row same-sources) holds (leaves-beside left settled);
        heaps = changed-stay only (omega (arith, long));
        emptied = ok-map c.settle.result (λ few. record { no_extract = empty_list c.settle.new.self.extract.items (omega (arith, settled.stays.extract, ap length none)); few = few }) two.few;
        pays = pays-next (omega arith) (omega arith) (omega arith) (omega arith) (costs-left (length c.share-2.result.now) (length h) (length left) (omega (arith, long, given)) (pays_ok c.in_ok-store_run.ensures.pays)) (pays-beside (length left) two.levels.pays);
      };
      only = only;
      share = ok-map c.settle.result (λ few. record { emptied = c.clear_share.ensures.share; left = omega (arith, long, one_long) }) two.few;
    }

pub share-requires : goal.share-requires
share-requires g c = assumption

pub sort_share-requires : goal.sort_share-requires
sort_share-requires g c = assumption

pub share-requires-2 : goal.share-requires-2
share-requires-2 g c = omega arith

pub store_run-requires-clause-ascends : goal.store_run-requires-clause-ascends
store_run-requires-clause-ascends g c = grind arith

pub clear_share-requires : goal.clear_share-requires
clear_share-requires g c = omega arith
