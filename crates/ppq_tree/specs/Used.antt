-- Which cells of a tree's memory are used.
use Rattle.std.specs.Prelude.{List, drop}

-- those after the first 32
unfoldable pub used : {X : Type 0} → List X → List X
used all = drop 32 all
