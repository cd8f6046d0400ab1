use Rattle.std.proofs.Common.{◌≡◌, ◌∙◌, ◌++◌, ◌∷◌, [], sym, ap, refl, subst}
use Rattle.std.proofs.lemmas.List.{append_assoc, append-nil}
use Rattle.ppq_session.specs.Dealing.{Adds}
use Rattle.ppq_session.proofs.Adding.{takes-none, takes-then, takes-ended}
use Rattle.ppq_session.proofs.dealing.add_made.Goals as goal

pub making-init : goal.making-init
making-init g c = record { going = c.requires.going; takes = ([], (refl, takes-none g.S.Slot.shown g.R.Ord.cmp c.args.pass.now c.requires.going)) }

pub making-preserved : goal.making-preserved
making-preserved g c =
    let i = c.making.invariant in
    let done = i.takes.0 in
    let r = c.in-Some.record in
    let rest = g.M.Maker.rest c.make.new.self in
    let all : g.M.Maker.rest c.args.maker ≡ (done ++ r ∷ []) ++ rest = i.takes.1.0 ∙ ap (λ xs. done ++ xs) c.in-Some.ensures.made ∙ sym (append_assoc done (r ∷ []) rest) in
    record {
      going = c.if-not-push_one.ensures.says.going.0 refl;
      takes = (done ++ r ∷ [], (all, takes-then g.S.Slot.shown g.R.Ord.cmp (done ++ r ∷ []) done (r ∷ []) refl c.args.pass.now c.making.pass c.push_one.new.pass i.takes.1.1 i.going c.push_one.ensures.takes));
    }

pub returns-then-not-push_one : goal.returns-then-not-push_one
returns-then-not-push_one g c =
    let i = c.making.invariant in
    let shown = g.S.Slot.shown in
    let cmp = g.R.Ord.cmp in
    let done = i.takes.0 in
    let r = c.in-Some.record in
    let rest = g.M.Maker.rest c.make.new.self in
    let new = c.push_one.new.pass in
    let all : g.M.Maker.rest c.args.maker ≡ (done ++ r ∷ []) ++ rest = i.takes.1.0 ∙ ap (λ xs. done ++ xs) c.in-Some.ensures.made ∙ sym (append_assoc done (r ∷ []) rest) in
    let so_far = takes-then shown cmp (done ++ r ∷ []) done (r ∷ []) refl c.args.pass.now c.making.pass new i.takes.1.1 i.going c.push_one.ensures.takes in
    (takes-ended shown cmp (g.M.Maker.rest c.args.maker) (done ++ r ∷ []) rest all c.args.pass.now new so_far (c.if-not-push_one.ensures.says.ended refl)).adds

pub returns : goal.returns
returns g c =
    let i = c.making.invariant in
    let done = i.takes.0 in
    let all : g.M.Maker.rest c.args.maker ≡ done = i.takes.1.0 ∙ ap (λ xs. done ++ xs) c.in_default.ensures.end ∙ append-nil done in
    subst (λ rs. Adds g.S.Slot.shown rs c.args.pass.now c.making.pass) (sym all) i.takes.1.1.adds
