-- Pieces of bytes that are given one after the other.
use Rattle.std.proofs.Common.{◌≡◌, ◌≤◌, ◌+◌, ◌-◌, ℕ, List, ◌++◌, length, take, drop, sym, ap, ap₂, ◌∙◌, arith, take-append-drop, length-drop}
use Rattle.std.proofs.lemmas.List.{drop-drop, take-take, take-append-le, length-take, length-take-le}
use Rattle.std.proofs.Math.Seq.{take-add}

module _ (at count : ℕ) (bytes rest : List ℕ) (fits : count ≤ length bytes - at) where
  abbrev piece : List ℕ
  piece = take count (drop at bytes)

  taken : take count (piece ++ rest) ≡ piece
  taken = take-append-le count piece rest (omega (arith, length-take count (drop at bytes), length-drop at bytes, fits)) ∙ take-take count count (drop at bytes) (omega arith)

  pub comes_first : drop at bytes ≡ take count (piece ++ rest) ++ drop (at + count) bytes
  comes_first = sym (take-append-drop count (drop at bytes)) ∙ ap₂ (λ (x y : List ℕ). x ++ y) (sym taken) (drop-drop count at bytes)

  pub comes_behind : take at bytes ++ take count (piece ++ rest) ≡ take (at + count) bytes
  comes_behind = ap (λ (x : List ℕ). take at bytes ++ x) taken ∙ sym (take-add at count bytes)

  pub taken-long : length (take count (piece ++ rest)) ≡ count
  taken-long = ap length taken ∙ length-take-le count (drop at bytes) (omega (arith, length-drop at bytes, fits))
