-- The line that reports an end, and a line that was taken.
use Rattle.std.specs.Prelude.{◌⊎◌, ℕ, List, [], ◌++◌, Option, codes, decimal}
use Rattle.ppq_words.specs.ppq_outside.Told.{TakesAll, TakesPart, Rose}
use Rattle.ppq_jobs.specs.ppq_engine.declared.end.End.{End}
use Rattle.ppq_jobs.specs.ppq_engine.declared.end.End.TheVariants.{Done, BadLine, Usage, ReadFault, WriteFault, DeviceFault, NoFreeBlock, BudgetTooSmall, Memory, FileChanged, NoDevice, NoScript, ScriptTooLong, BadAgenda, BadEdge}

-- of a file that ended before its length
abbrev pub changed_text : ℕ → ℕ → ℕ → List ℕ
changed_text line said got = (codes "ppq: line " ++ decimal line ++ codes ": file changed, said ") ++ ((codes "" ++ decimal said ++ codes ", got ") ++ (codes "" ++ decimal got ++ codes "\n"))

-- of each end; nothing for one that is done
abbrev pub report_of : End → List ℕ
report_of Done = []
report_of (BadLine line) = codes "ppq: line " ++ decimal line ++ codes ": bad line\n"
report_of Usage = codes "ppq: usage: ppq run SCRIPT --device FILE --blocks D --workers P --block B --heap H (--memory M | --memory-bytes N) [--form text|bytes]\n"
report_of ReadFault = codes "ppq: cannot read\n"
report_of WriteFault = codes "ppq: cannot write\n"
report_of (DeviceFault number) = codes "ppq: device block " ++ decimal number ++ codes " failed\n"
report_of NoFreeBlock = codes "ppq: no free block\n"
report_of (BudgetTooSmall need) = codes "ppq: memory too small, need " ++ decimal need ++ codes "\n"
report_of Memory = codes "ppq: out of memory\n"
report_of (FileChanged line said got) = changed_text line said got
report_of NoDevice = codes "ppq: cannot make the device\n"
report_of NoScript = codes "ppq: no such script\n"
report_of ScriptTooLong = codes "ppq: script too long\n"
report_of BadAgenda = codes "ppq: bad agenda\n"
report_of (BadEdge at) = codes "ppq: edge " ++ decimal at ++ codes " is bad\n"

-- where the sink tells, it took the whole line; or its count of faults rose, and it took the beginning
abbrev pub TakesLine : Option (List ℕ) → Option (List ℕ) → ℕ → ℕ → List ℕ → Type 0
TakesLine before now faults faults_now line = TakesAll before now line ⊎ (Rose faults faults_now × TakesPart before now line)
