use Rattle.std.proofs.Common.{◌≡◌, inl, inr, Some, sym, ap, ◌∙◌, subst, arith}
use Rattle.std.proofs.lemmas.List.{nil_from_length}
use Rattle.std.proofs.lemmas.Option.{get_or_from_slice_get}
use Rattle.ppq_array.specs.Run.{items_of}
use Rattle.ppq_fetch.specs.Turns.{IsNext, IsLeastNext, HasBuffer, minimum_of}
use Rattle.ppq_fetch.specs.declared.edge.Edge.TheVariants.{AtMost}
use Rattle.ppq_fetch.proofs.turn.choose_load.Goals.{then-loaded-eq0-via-then-loaded-eq0, then-loaded-eq0-via-else-loaded-eq0+then-has_room_ahead}
use Rattle.ppq_fetch.proofs.turn.choose_load.Goals as goal

pub returns-then-loaded-eq0 : goal.returns-then-loaded-eq0
returns-then-loaded-eq0 g c =
    let xs = c.args.external.now in
    let b = c.in-Some.block in
    let a = c.index-external-block.result in
    let is : IsLeastNext g.R.Ord.cmp xs b = subst (IsNext g.R.Ord.cmp xs) c.in-Some.is c.requires.next in
    let e : a ≡ is.array = c.index-external-block.is ∙ get_or_from_slice_get xs b.place is.array a is.here in
    let room : HasBuffer xs c.args.ahead a = elim c.then-loaded-eq0.branch [
      | then-loaded-eq0-via-then-loaded-eq0 w ↦ inl (nil_from_length (items_of a.loaded) (sym c.loaded-loaded.ensures.loaded ∙ w.if-loaded-eq0.true))
      | then-loaded-eq0-via-else-loaded-eq0+then-has_room_ahead w ↦ inr (w.has_room_ahead.ensures.0 w.if-has_room_ahead.true)
    ] in
    record { array = is.array; here = is.here; stored = is.stored; buffer = subst (HasBuffer xs c.args.ahead) e room }

pub returns-then-safe-eq0 : goal.returns-then-safe-eq0
returns-then-safe-eq0 g c =
    let xs = c.args.external.now in
    let b = c.in-Some.block in
    let a = c.index-external-block.result in
    let is : IsLeastNext g.R.Ord.cmp xs b = subst (IsNext g.R.Ord.cmp xs) c.in-Some.is c.requires.next in
    let e : a ≡ is.array = c.index-external-block.is ∙ get_or_from_slice_get xs b.place is.array a is.here in
    let near = c.requires.near in
    let m : Some b.minimum ≡ Some near.0 = sym (ap minimum_of c.in-Some.is) ∙ c.requires.edge near.0 near.1 in
    let u : near.0 ≡ b.minimum = cc in
    record {
      none = c.if-safe-eq0.true;
      block = b;
      array = a;
      is = c.in-Some.is;
      near = near.1 ∙ ap (λ x. AtMost x) u;
      here = is.here ∙ ap (λ x. Some x) (sym e);
      loaded = omega (arith, c.loaded-loaded.ensures.loaded, c.if-loaded-eq0.false);
    }
