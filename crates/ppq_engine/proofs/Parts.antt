-- The commands of a script up to a place, and those of the part there.
use Rattle.std.proofs.Common.{◌≡◌, ℕ, ◌+◌, ◌≤◌, List, ◌++◌, length, take, drop, ap, ◌∙◌, arith, length-append, length-drop, take-add}
use Rattle.std.proofs.Math.Seq.{take-append_seam}
use Rattle.std.proofs.lemmas.List.{take-append-le}
use Rattle.ppq_script.specs.declared.command.Command.{Command}

module _ {R : Type 0} (commands : List (Command R)) (i : ℕ) (part : List (Command R)) (whole : drop i commands ≡ part ++ drop (i + length part) commands) where
  -- those up to it, with the first of the part
  pub take-part_of : (n : ℕ) → n ≤ length part → take (i + n) commands ≡ take i commands ++ take n part
  take-part_of n h = take-add i n commands ∙ ap (λ (xs : List (Command R)). take i commands ++ xs) (ap (take n) whole ∙ take-append-le n part (drop (i + length part) commands) h)

  -- with all of it
  pub take-part : take (i + length part) commands ≡ take i commands ++ part
  take-part = take-add i (length part) commands ∙ ap (λ (xs : List (Command R)). take i commands ++ xs) (ap (take (length part)) whole ∙ take-append_seam part (drop (i + length part) commands))

  -- it ends in the script
  pub part-within : i ≤ length commands → i + length part ≤ length commands
  part-within h = omega (arith, h, ap (λ (cs : List (Command R)). length cs) whole, length-append part (drop (i + length part) commands), length-drop i commands, length-drop (i + length part) commands)
