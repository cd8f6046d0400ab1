-- The commands of a worked script, and what it prints.
use Rattle.std.specs.Prelude.{ℕ, List, [], ◌∷◌, codes}
use Rattle.ppq_script.specs.ppq_record.declared.pair.Pair.{Pair}
use Rattle.ppq_script.specs.declared.command.Command.{Command}
use Rattle.ppq_script.specs.declared.command.Command.TheVariants.{Push, Size, BulkPop, BulkPopLimit, BulkBegin, BulkPush, BulkEnd, LimitBegin, LimitPush, LimitTop, LimitPop, LimitEnd}

-- the record of a key, with the value 0
abbrev pub keyed : ℕ → Pair
keyed key = record { key = key; value = 0 }

-- a limit session below the key 4, in which two records are pushed and two popped, and a bulk session, in which one is pushed
abbrev pub worked_commands : List (Command Pair)
worked_commands =
    Push (keyed 1) ∷ Push (keyed 3) ∷ Push (keyed 6) ∷ LimitBegin (keyed 4) ∷ LimitPush 0 (keyed 5) ∷ LimitTop ∷ LimitPop ∷ LimitPush 1 (keyed 4) ∷ LimitPop ∷ LimitPop ∷ LimitEnd ∷ Size
    ∷ BulkBegin ∷ BulkPush 0 (keyed 2) ∷ BulkEnd ∷ BulkPopLimit (keyed 5) 1 ∷ BulkPop 3 ∷ []

-- what it prints
abbrev pub worked_output : List ℕ
worked_output = codes "1 0\n1 0\n3 0\nlimit\n3\n2 0\nmore\n4 0\n5 0\n6 0\n"
