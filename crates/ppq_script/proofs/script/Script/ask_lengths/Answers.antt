use Rattle.std.proofs.Common.{◌≡◌, ◌∙◌, List, length, map, None, true, All, sym, ap, subst}
use Rattle.std.specs.Prelude.{string_bytes}
use Rattle.std.specs.Vec.{with_items}
use Rattle.std.specs.List.{AllZip}
use Rattle.std.proofs.lemmas.List.{with_items_is}
use Rattle.ppq_script.specs.declared.numbered.Numbered.{Numbered}
use Rattle.ppq_script.specs.declared.session.Session.TheVariants.{Outside}
use Rattle.ppq_script.specs.Sessions.{are_in_place}
use Rattle.ppq_script.specs.Files.{NamesFile, HasRecords, IsBadAmong}
use Rattle.ppq_script.specs.Reading.{Reading}
use Rattle.ppq_outside.specs.Told.{RepliesOnly}
use Rattle.ppq_script.specs.Checking.{IsSameItem, IsAsked, IsKeptAmong}
use Rattle.ppq_script.specs.Words.{words}
use Rattle.ppq_script.proofs.Checks.{all_names, all_records, bad_behind, in_place_later}
use Rattle.ppq_script.proofs.script.Script.ask_lengths.Goals as goal

pub invariant_of-self : goal.invariant_of-self
invariant_of-self g c =
    let w = words g.R.PartialEq g.R.PartialOrd g.R.Ord g.R.Record g.R.Fields in
    let v = c.self.inside.commands in
    let new = c.ask_all.new.commands in
    let written : (with_items v new).items ≡ new = with_items_is v new (c.ask_all.auto.commands ∙ ap length c.deref_mut.ensures.value ∙ sym v.ok.0) in
    let same : AllZip IsSameItem v.items new = subst (λ (old : List (Numbered _)). AllZip IsSameItem old new) c.deref_mut.ensures.value c.ask_all.ensures.same in
    record {
      files = subst (λ (items : List (Numbered _)). All (λ n. NamesFile (length c.self.inside.names.items) n.command) items) (sym written) (all_names w (length c.self.inside.names.items) v.items new same c.self.invariant.files);
      good = λ e. cc;
      lengths = λ e. cc;
      in_place = subst (λ (items : List (Numbered _)). c.self.inside.bad ≡ None → are_in_place w c.self.inside.workers Outside (map (λ n. n.command) items) ≡ true) (sym written) (in_place_later w c.self.inside.workers v.items new c.self.inside.bad same c.self.invariant.in_place);
    }

pub invariant_of-self-in-Some : goal.invariant_of-self-in-Some
invariant_of-self-in-Some g c =
    let w = words g.R.PartialEq g.R.PartialOrd g.R.Ord g.R.Record g.R.Fields in
    let v = c.self.inside.commands in
    let new = c.ask_all.new.commands in
    let written : (with_items v new).items ≡ new = with_items_is v new (c.ask_all.auto.commands ∙ ap length c.deref_mut.ensures.value ∙ sym v.ok.0) in
    let same : AllZip IsSameItem v.items new = subst (λ (old : List (Numbered _)). AllZip IsSameItem old new) c.deref_mut.ensures.value c.ask_all.ensures.same in
    record {
      files = subst (λ (items : List (Numbered _)). All (λ n. NamesFile (length c.self.inside.names.items) n.command) items) (sym written) (all_names w (length c.self.inside.names.items) v.items new same c.self.invariant.files);
      good = λ e. cc;
      lengths = λ e. cc;
      in_place = subst (λ (items : List (Numbered _)). c.self.inside.bad ≡ None → are_in_place w c.self.inside.workers Outside (map (λ n. n.command) items) ≡ true) (sym written) (in_place_later w c.self.inside.workers v.items new c.self.inside.bad same c.self.invariant.in_place);
    }

pub invariant_of-self-in-None : goal.invariant_of-self-in-None
invariant_of-self-in-None g c =
    let w = words g.R.PartialEq g.R.PartialOrd g.R.Ord g.R.Record g.R.Fields in
    let v = c.self.inside.commands in
    let new = c.ask_all.new.commands in
    let written : (with_items v new).items ≡ new = with_items_is v new (c.ask_all.auto.commands ∙ ap length c.deref_mut.ensures.value ∙ sym v.ok.0) in
    let same : AllZip IsSameItem v.items new = subst (λ (old : List (Numbered _)). AllZip IsSameItem old new) c.deref_mut.ensures.value c.ask_all.ensures.same in
    let records : All (λ n. HasRecords w n.command) new = all_records w (g.L.Library.replied c.ask_all.new.library) (map string_bytes c.deref.result.now) c.deref_mut.result.now new c.in-Ok.ensures.asked in
    record {
      files = subst (λ (items : List (Numbered _)). All (λ n. NamesFile (length c.self.inside.names.items) n.command) items) (sym written) (all_names w (length c.self.inside.names.items) v.items new same c.self.invariant.files);
      good = λ e. c.in-None.is;
      lengths = λ e. subst (λ (items : List (Numbered _)). All (λ n. HasRecords w n.command) items) (sym written) records;
      in_place = subst (λ (items : List (Numbered _)). c.self.inside.bad ≡ None → are_in_place w c.self.inside.workers Outside (map (λ n. n.command) items) ≡ true) (sym written) (in_place_later w c.self.inside.workers v.items new c.self.inside.bad same c.self.invariant.in_place);
    }

pub returns-in-Some-clause-refused : goal.returns-in-Some-clause-refused
returns-in-Some-clause-refused g c =
    let w = words g.R.PartialEq g.R.PartialOrd g.R.Ord g.R.Record g.R.Fields in
    let replied = g.L.Library.replied c.ask_all.new.library in
    let s = c.self.inside in
    let asked : AllZip (IsAsked w replied (map string_bytes s.names.items)) s.commands.items c.ask_all.new.commands =
    subst (λ (names : List _). AllZip (IsAsked w replied (map string_bytes names)) s.commands.items c.ask_all.new.commands) c.deref.ensures.value
    (subst (λ (old : List (Numbered _)). AllZip (IsAsked w replied (map string_bytes c.deref.result.now)) old c.ask_all.new.commands) c.deref_mut.ensures.value c.in-Ok.ensures.asked) in
    let bad : IsBadAmong w replied (map string_bytes s.names.items) s.commands.items s.bad c.in-Some.line = bad_behind w replied (map string_bytes s.names.items) s.commands.items c.ask_all.new.commands c.in-Some.line s.bad asked c.in-Some.is in
    subst (λ (r : Reading _). IsBadAmong w replied r.names r.commands r.bad c.in-Some.line) c.self.view_is bad

pub returns-in-None-clause-once : goal.returns-in-None-clause-once
returns-in-None-clause-once g c =
    let w = words g.R.PartialEq g.R.PartialOrd g.R.Ord g.R.Record g.R.Fields in
    let before = g.L.Library.replied c.args.library.now in
    let replied = g.L.Library.replied c.ask_all.new.library in
    let v = c.self.inside.commands in
    let new = c.ask_all.new.commands in
    let written : (with_items v new).items ≡ new = with_items_is v new (c.ask_all.auto.commands ∙ ap length c.deref_mut.ensures.value ∙ sym v.ok.0) in
    subst (λ (items : List (Numbered _)). RepliesOnly before replied (IsKeptAmong (map string_bytes c.self.inside.names.items) items)) (sym written)
    (subst (λ (names : List _). RepliesOnly before replied (IsKeptAmong (map string_bytes names) new)) c.deref.ensures.value c.in-Ok.ensures.once)
