use Rattle.std.proofs.Common.{◌≡◌, true, List, length, map, sym, ap, ◌∙◌}
use Rattle.std.specs.Vec.{with_items}
use Rattle.std.proofs.lemmas.List.{with_items_is}
use Rattle.ppq_outside.specs.Entries.{files_of}
use Rattle.ppq_outside.specs.MemoryLibrary.{File, LibraryState, shrunk_file, shrunk_library}
use Rattle.ppq_outside.specs.declared.memory_library.Entry.{Entry}
use Rattle.ppq_outside.proofs.Shrunk.{files_of_shrunk}
use Rattle.ppq_outside.proofs.memory_library.MemLibrary.shrink.Goals as goal

pub returns : goal.returns
returns c =
    let v = c.self.inside.entries in
    let written : (with_items v c.end_reads.new.entries).items ≡ c.end_reads.new.entries =
    with_items_is v c.end_reads.new.entries (c.end_reads.auto.entries ∙ ap length c.deref_mut.ensures.value ∙ sym v.ok.0) in
    let files : files_of c.end_reads.new.entries ≡ map (shrunk_file c.args.name.now c.args.to) (files_of c.self.inside.entries.items) =
    files_of_shrunk c.args.name.now c.args.to c.deref_mut.result.now c.end_reads.new.entries c.end_reads.ensures
    ∙ ap (λ (entries : List Entry). map (shrunk_file c.args.name.now c.args.to) (files_of entries)) c.deref_mut.ensures.value in
    let next : List File → LibraryState = λ files. record { files = files; shrunk = true; plan = c.self.inside.plan.items; calls = c.self.inside.calls; faults = c.self.inside.faults } in
    ap (λ (entries : List Entry). next (files_of entries)) written ∙ ap next files ∙ ap (λ (library : LibraryState). shrunk_library library c.args.name.now c.args.to) c.self.view_is
