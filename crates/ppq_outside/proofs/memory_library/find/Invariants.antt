use Rattle.std.proofs.Common.{◌≡◌, drop}
use Rattle.ppq_outside.specs.MemoryLibrary.{lookup}
use Rattle.ppq_outside.specs.Entries.{files_of}
use Rattle.ppq_outside.proofs.memory_library.find.Given as goal

abbrev pub invariant-loop-entry : goal.invariant-loop-entry
invariant-loop-entry l = lookup (files_of l.entries) l.fn.name ≡ lookup (files_of (drop l.entry-index l.entries)) l.fn.name
