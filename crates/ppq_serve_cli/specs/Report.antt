-- The line that reports an outcome.
use Rattle.std.specs.Prelude.{ℕ, List, [], ◌++◌, codes, decimal}
use Rattle.ppq_answer.specs.ppq_engine.declared.end.End.{End}
use Rattle.ppq_answer.specs.ppq_engine.declared.end.End.TheVariants as end
use Rattle.ppq_answer.specs.declared.outcome.Outcome.{Outcome}
use Rattle.ppq_answer.specs.declared.outcome.Outcome.TheVariants.{Ended, BadRequest}

-- of an end; those that never come have one line
abbrev pub end_line : End → List ℕ
end_line end.Done = []
end_line end.Usage = codes "ppq-serve: usage: ppq-serve --device FILE --blocks D --workers P --block B --heap H (--memory M | --memory-bytes N)\n"
end_line end.ReadFault = codes "ppq-serve: cannot read\n"
end_line end.WriteFault = codes "ppq-serve: cannot write\n"
end_line (end.DeviceFault number) = codes "ppq-serve: device block " ++ decimal number ++ codes " failed\n"
end_line end.NoFreeBlock = codes "ppq-serve: no free block\n"
end_line (end.BudgetTooSmall need) = codes "ppq-serve: memory too small, need " ++ decimal need ++ codes "\n"
end_line end.Memory = codes "ppq-serve: out of memory\n"
end_line end.NoDevice = codes "ppq-serve: cannot make the device\n"
end_line (end.BadLine line) = codes "ppq-serve: failed\n"
end_line (end.FileChanged line said got) = codes "ppq-serve: failed\n"
end_line end.NoScript = codes "ppq-serve: failed\n"
end_line end.ScriptTooLong = codes "ppq-serve: failed\n"
end_line end.BadAgenda = codes "ppq-serve: failed\n"
end_line (end.BadEdge at) = codes "ppq-serve: failed\n"

abbrev pub line_of : Outcome → List ℕ
line_of (Ended over) = end_line over
line_of (BadRequest number) = codes "ppq-serve: request " ++ decimal number ++ codes ": bad request\n"
