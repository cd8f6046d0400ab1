use Rattle.std.proofs.Common.{◌≡◌, ℕ, ◌+◌, ◌*◌, ◌∙◌, ◌++◌, [], ◌∷◌, length, All, Option, Some, None, ap, sym, subst, refl, arith, length-append}
use Rattle.std.proofs.lemmas.List.Elements.{All-nil, All-cons}
use Rattle.std.proofs.lemmas.List.Sums.{sum_by-cons}
use Rattle.ppq_pass.specs.ppq_array.Holdings.{HasSlots, external_slots}
use Rattle.ppq_pass.specs.ppq_spill.declared.body.PassBody.{PassBody}
use Rattle.ppq_queue.specs.Slots.{with_slots}
use Rattle.ppq_queue.proofs.Slots.{SameSums-length}
use Rattle.ppq_session.specs.declared.brought.Brought.{Brought}
use Rattle.ppq_session.specs.declared.closed.Closed.{Closed}
use Rattle.ppq_session.proofs.PutIn.{PutIn, gathered-adopted, gathered-dissolved, bag-adopted, or_none, or_some}
use Rattle.ppq_session.proofs.Fits.{slots-fit, stash-sizes, runs-sizes, buffers-fit, freed-kept, freed-room, freed-stock, freed-sums, can-adopt, count-fits}
use Rattle.ppq_pass.specs.ppq_counts.Tally.{tally, joined}
use Rattle.ppq_pass.specs.ppq_heap.Heaps.{items_in}
use Rattle.ppq_session.proofs.Gathered.{items-push}
use Rattle.ppq_session.proofs.gather.gather.Given as given
use Rattle.ppq_session.proofs.gather.gather.Goals as goal

pub push_reserved-requires : goal.push_reserved-requires
push_reserved-requires g c =
    let a = c.requires.is.always in
    omega (arith, a.heaps, a.heaps_room, length-append c.requires.rest (c.args.one ∷ []))

pub free_all-requires-clause-room : goal.free_all-requires-clause-room
free_all-requires-clause-room g c =
    let q = c.args.c.now in
    omega (arith, slots-fit g.S.Slot.shown g.R.Ord.cmp g.R.Record.record_of g.R.Record.WIDTH c.requires.slots c.requires.items q c.args.one c.requires.rest c.requires.is)

pub free_all-requires-clause-sizes : goal.free_all-requires-clause-sizes
free_all-requires-clause-sizes g c =
    let q = c.args.c.now in
    stash-sizes g.S.Slot.shown g.R.Ord.cmp g.R.Record.record_of g.R.Record.WIDTH c.requires.slots c.requires.items q c.args.one c.requires.rest c.requires.is

pub adopt-requires-after_bounds : goal.adopt-requires-after_bounds
adopt-requires-after_bounds g c κs within =
    let q = c.args.c.now in
    let none = or_none q.failed c.args.one.failed (sym c.or-c.ensures ∙ c.in-None.is) in
    can-adopt g.S.Slot.shown g.R.Ord.cmp g.R.Record.record_of g.R.Record.WIDTH c.requires.slots c.requires.items q c.args.one c.requires.rest c.requires.is none.0 none.1

pub dissolve-requires-clause-room : goal.dissolve-requires-clause-room
dissolve-requires-clause-room g c κs within =
    let q = c.args.c.now in
    omega (arith, slots-fit g.S.Slot.shown g.R.Ord.cmp g.R.Record.record_of g.R.Record.WIDTH c.requires.slots c.requires.items q c.args.one c.requires.rest c.requires.is, ap (λ s. s.slot_room) c.free_all.ensures.stock)

pub dissolve-requires-clause-sizes : goal.dissolve-requires-clause-sizes
dissolve-requires-clause-sizes g c κs within =
    let q = c.args.c.now in
    let sizes = runs-sizes g.S.Slot.shown g.R.Ord.cmp g.R.Record.record_of g.R.Record.WIDTH c.requires.slots c.requires.items q c.args.one c.requires.rest c.requires.is in
    subst (λ b. All (HasSlots {S = g.row.S.Denot} {R = g.row.R.Denot} g.S.Slot.shown (b * g.R.Record.WIDTH)) c.args.one.body.runs.external.items) (sym (ap (λ s. s.block) c.free_all.ensures.stock)) sizes

pub dissolve-requires-clause-few : goal.dissolve-requires-clause-few
dissolve-requires-clause-few g c κs within =
    let q = c.args.c.now in
    omega (arith, buffers-fit g.S.Slot.shown g.R.Ord.cmp g.R.Record.record_of g.R.Record.WIDTH c.requires.slots c.requires.items q c.args.one c.requires.rest c.requires.is)

-- the parts after its runs were adopted
abbrev whole : (g : given.Over) (c : goal.After-drop-one g) → Closed g.row.S.Denot g.row.R.Denot
whole g c = record c.args.c.now { heaps = c.push_reserved.new.self; body = c.adopt.new.to; supply = c.free_all.new.supply; count = c.saturating_add-c.result; counts = c.join.new.self; failed = c.or-c.result }

-- the numbers of the pass came on top
counts_joined : (g : given.Over) (c : goal.After-drop-one g) → c.join.new.self ≡ joined c.args.c.now.counts (tally c.args.one.accepted c.args.one.stores 0)
counts_joined g c = c.join.ensures ∙ ap (joined c.args.c.now.counts) c.of_pass.ensures

put_whole : (g : given.Over) (c : goal.After-drop-one g) → PutIn c.args.c.now (whole g c) c.args.one
put_whole g c =
    let q = c.args.c.now in
    let s = c.free_all.new.supply in
    let free = c.free_all.ensures.stock in
    record {
      heaps = c.push_reserved.ensures.items;
      heaps_room = c.push_reserved.ensures.capacity;
      counts = counts_joined g c;
      stock = freed-stock g.S.Slot.shown g.R.Ord.cmp g.R.Record.record_of g.R.Record.WIDTH c.requires.slots c.requires.items q c.args.one c.requires.rest c.requires.is s free;
      room = freed-room g.S.Slot.shown g.R.Ord.cmp g.R.Record.record_of g.R.Record.WIDTH c.requires.slots c.requires.items q c.args.one c.requires.rest c.requires.is s free;
      same = refl;
    }

pub returns-in-None : goal.returns-in-None
returns-in-None g c =
    let shown = g.S.Slot.shown in
    let cmp = g.R.Ord.cmp in
    let record_of = g.R.Record.record_of in
    let width = g.R.Record.WIDTH in
    let q = c.args.c.now in
    let one = c.args.one in
    let m = c.requires in
    let none = or_none q.failed one.failed (sym c.or-c.ensures ∙ c.in-None.is) in
    let put = put_whole g c in
    let count : c.saturating_add-c.result ≡ q.count + one.accepted = omega (arith, c.saturating_add-c.ensures, count-fits shown cmp record_of width m.slots m.items q one m.rest m.is none.0 none.1) in
    record {
      gathered = λ slots items rest is.
          let stash = freed-kept shown cmp record_of width slots items q one rest is c.free_all.new.supply c.free_all.ensures.stock in
          gathered-adopted shown cmp record_of width slots items q (whole g c) one rest is put c.adopt.ensures stash count none.0 none.1 c.in-None.is;
      bag = λ still rest. bag-adopted shown cmp record_of width q (whole g c) one rest put c.adopt.ensures;
      failed = λ still. (none.0, All-cons (λ (x : Brought g.row.S.Denot g.row.R.Denot). x.failed ≡ None) one [] none.1 (All-nil (λ (x : Brought g.row.S.Denot g.row.R.Denot). x.failed ≡ None)));
      size = λ still. omega (arith, count, sum_by-cons (λ (x : Brought g.row.S.Denot g.row.R.Denot). x.accepted) one []);
      counts = λ most few. omega (arith, count, sum_by-cons (λ (x : Brought g.row.S.Denot g.row.R.Denot). x.accepted) one []);
      sizes = refl;
      peak = refl;
      limited = refl;
      tally = counts_joined g c;
      heaps = omega (arith, ap (λ l. length (items_in l)) c.push_reserved.ensures.items, items-push q.heaps.items one.heap, sum_by-cons (λ (x : Brought g.row.S.Denot g.row.R.Denot). length x.heap.items) one []);
    }

pub returns : goal.returns
returns g c =
    let shown = g.S.Slot.shown in
    let cmp = g.R.Ord.cmp in
    let record_of = g.R.Record.record_of in
    let width = g.R.Record.WIDTH in
    let q = c.args.c.now in
    let one = c.args.one in
    let d = c.dissolve.ensures in
    let s = c.dissolve.new.supply in
    let freed = c.free_all.new.supply in
    let free = c.free_all.ensures.stock in
    let ends = external_slots shown one.body.runs.external.items in
    let body : PassBody g.row.S.Denot g.row.R.Denot = record q.body { lanes = record q.body.lanes { idle = c.dissolve.new.idle } } in
    let new : Closed g.row.S.Denot g.row.R.Denot = record q { heaps = c.push_reserved.new.self; body = body; supply = s; count = c.saturating_add-c.result; counts = c.join.new.self; failed = c.or-c.result } in
    let joined_are = c.join.ensures ∙ ap (joined q.counts) c.of_pass.ensures in
    let still : length s.kept + s.slot_room ≡ length freed.kept + freed.slot_room = omega (arith, d.back.room, SameSums-length (freed.kept ++ ends) s.kept d.back.slots_are, length-append freed.kept ends) in
    let odd : new.failed ≡ None → ⊥ = λ none. (let e : ◌≡◌ {A = Option ℕ} None (Some c.in-Some.field-0) = sym none ∙ c.in-Some.is in cc) in
    record {
      gathered = λ slots items rest is.
          let put : PutIn q new one =
          record {
            heaps = c.push_reserved.ensures.items;
            heaps_room = c.push_reserved.ensures.capacity;
            counts = joined_are;
            stock = d.back.stock ∙ ap (λ x. with_slots x s.kept s.slot_room) free;
            room = still ∙ freed-room shown cmp record_of width slots items q one rest is freed free;
            same = refl;
          }
          in
          let sums = freed-sums shown cmp record_of width slots items q one rest is freed free s.kept d.back.slots_are in
          gathered-dissolved shown cmp record_of width slots items q new one rest is put sums refl d.idle (λ number some. or_some q.failed one.failed number (sym c.or-c.ensures ∙ some)) odd;
      bag = λ none. absurd (odd none);
      failed = λ none. absurd (odd none);
      size = λ none. absurd (odd none);
      counts = λ most few. omega (arith, c.saturating_add-c.ensures, few, sum_by-cons (λ (x : Brought g.row.S.Denot g.row.R.Denot). x.accepted) one []);
      sizes = refl;
      peak = refl;
      limited = refl;
      tally = joined_are;
      heaps = omega (arith, ap (λ l. length (items_in l)) c.push_reserved.ensures.items, items-push q.heaps.items one.heap, sum_by-cons (λ (x : Brought g.row.S.Denot g.row.R.Denot). length x.heap.items) one []);
    }
