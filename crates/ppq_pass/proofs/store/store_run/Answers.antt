use Rattle.std.proofs.Common.{◌≡◌, length, sym, ap, ◌∙◌, subst}
use Rattle.std.proofs.lemmas.Bool.{lt-ltb}
use Rattle.ppq_extract.specs.ppq_array.Supply.{Stock}
use Rattle.ppq_extract.specs.ppq_array.Kept.{Kept}
use Rattle.ppq_extract.specs.ppq_array.Holdings.{CanTakeBack}
use Rattle.ppq_spill.specs.Body.{held_by}
use Rattle.ppq_spill.specs.Costing.{StorePays}
use Rattle.ppq_spill.specs.Storing.{HasOneSize, NoneFree, DeviceFailed, StillTell, StillUntold, WritesFew}
use Rattle.ppq_pass.specs.Passing.{IsPass, IsSince, home_of}
use Rattle.ppq_pass.specs.PassState.{stock_of}
use Rattle.ppq_pass.proofs.store.store_run.Goals as goal

-- what is known of the stocks of the supply holds of those of the parts that it was made of, and was taken apart into
moved : {s s' t t' : Stock} (F : Stock → Stock → Type 0) → s ≡ s' → t' ≡ t → F s t → F s' t'
moved {s} {s'} {t} {t'} F a b x = subst (F s') (sym b) (subst (λ y. F y t) a x)

pub returns-clause-kept : goal.returns-clause-kept
returns-clause-kept g c =
    let shown = g.S.Slot.shown in
    let width = g.R.Record.WIDTH in
    let a = c.args.body.now in
    let b = c.store_sorted-answer.new.body in
    let p = c.args.parts in
    let q = c.into_parts.result in
    let e = c.store_sorted-answer.ensures in
    let made = c.from_parts-supply.ensures in
    let left = c.into_parts.ensures.same in
    let home = ap home_of left ∙ e.home ∙ ap home_of made in
    let s : c.from_parts-supply.result.stock ≡ stock_of shown p = ap (λ x. x.stock) made in
    let t : stock_of shown q ≡ c.store_sorted-answer.new.supply.stock = ap (λ x. x.stock) left in
    record {
      supply = subst (λ h. IsPass shown width h q.row_seat q.pool_seat q.stash q.numbers q.block q.dry q.scant) (ap (λ h. h.shared) home) c.into_parts.ensures.of;
      items = ap (λ h. h.items) home;
      row_shares = ap (λ h. h.row_shares) home;
      pool_shares = ap (λ h. h.pool_shares) home;
      dry = λ some. c.into_parts.ensures.was_dry (ap (λ h. h.was_dry) home ∙ lt-ltb 0 p.dry some);
      since = subst (λ h. IsSince h.places h.steps q.row_seat q.pool_seat) home c.into_parts.ensures.since;
      kept = moved (λ x y. Kept x y (held_by shown a) (held_by shown b)) s t e.kept;
      takes_back = moved (λ x y. CanTakeBack shown y b.runs.internal.items b.runs.external.items) s t e.takes_back;
      tells = moved (λ x y. StillTell shown a b x y) s t e.tells;
      untold = moved (λ x y. StillUntold shown a b x y) s t e.untold;
      writes = moved (λ x y. WritesFew shown (length c.args.sorted.now) a b x y) s t e.writes;
      lanes = e.lanes;
      size = moved (λ x y. HasOneSize shown width b y) s t e.size;
      rooms = e.rooms;
    }

pub returns-clause-none_free : goal.returns-clause-none_free
returns-clause-none_free g c err =
    let shown = g.S.Slot.shown in
    let s : c.from_parts-supply.result.stock ≡ stock_of shown c.args.parts = ap (λ x. x.stock) c.from_parts-supply.ensures in
    let t : stock_of shown c.into_parts.result ≡ c.store_sorted-answer.new.supply.stock = ap (λ x. x.stock) c.into_parts.ensures.same in
    moved (λ x y. NoneFree (length c.args.sorted.now) c.args.body.now c.store_sorted-answer.new.body x y) s t (c.store_sorted-answer.ensures.none_free err)

pub returns-clause-counted : goal.returns-clause-counted
returns-clause-counted g c =
    let shown = g.S.Slot.shown in
    let s : c.from_parts-supply.result.stock ≡ stock_of shown c.args.parts = ap (λ x. x.stock) c.from_parts-supply.ensures in
    let t : stock_of shown c.into_parts.result ≡ c.store_sorted-answer.new.supply.stock = ap (λ x. x.stock) c.into_parts.ensures.same in
    moved (λ x y. StorePays shown c.store_sorted-answer.result (length c.args.sorted.now) c.args.body.now c.store_sorted-answer.new.body x y) s t c.store_sorted-answer.ensures.counted

pub returns-clause-device : goal.returns-clause-device
returns-clause-device g c number err =
    let shown = g.S.Slot.shown in
    let t : stock_of shown c.into_parts.result ≡ c.store_sorted-answer.new.supply.stock = ap (λ x. x.stock) c.into_parts.ensures.same in
    subst (DeviceFailed shown number c.store_sorted-answer.new.body) (sym t) (c.store_sorted-answer.ensures.device number err).stopped.failed
