-- What the program's values show.
use Rattle.std.specs.Prelude.{ℕ, List, Option, Some, None}
use Rattle.std.specs.Borrow.{Bor}
use Rattle.ppq_script.specs.declared.line.Line.{Line}
use Rattle.ppq_script.specs.declared.line.Line.TheVariants as line
use Rattle.ppq_script.specs.Lines.{LineKind, Skipped, Plain, OfFile, Bad}

-- a text that was found
abbrev pub text_in : Option (Bor (List ℕ)) → Option (List ℕ)
text_in None = None
text_in (Some text) = Some text.now

-- what a line was read as
abbrev pub kind_in : {R : Type 0} → Line R → LineKind R
kind_in line.Skipped = Skipped
kind_in (line.Plain command) = Plain command
kind_in (line.OfFile name) = OfFile name.now
kind_in line.Bad = Bad
