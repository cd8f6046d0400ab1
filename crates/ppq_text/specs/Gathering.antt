-- Output that is gathered before it is put.
use Rattle.std.specs.Prelude.{◌≡◌, ℕ, List, [], ◌∷◌, ◌++◌, Option, Result, OnOk, OnErr, codes, decimal, flat_map}
use Rattle.ppq_outside.specs.Told.{HasOneCause, TakesAll, TakesPart}

-- numbers in decimal, parted by one space
abbrev pub numbers_text : List ℕ → List ℕ
numbers_text [] = []
numbers_text (number ∷ numbers) = decimal number ++ flat_map (λ next. codes " " ++ decimal next) numbers

-- what was gathered and a text behind it are what the sink took and then what is gathered now
pub record Gathers (before now : Option (List ℕ)) (had text has : List ℕ) : Type 0 where
  pub put : List ℕ
  pub took : TakesAll before now put
  pub kept : had ++ text ≡ put ++ has

-- a text was gathered behind what was gathered before; or the sink failed, and took a part of what was gathered before
pub record GathersNext {T E : Type 0} (before now : Option (List ℕ)) (sink sink_now : ℕ) (had text has : List ℕ) (result : Result T E) : Type 0 where
  pub ok : OnOk result (Gathers before now had text has)
  pub part : OnErr result (TakesPart before now had)
  pub cause : HasOneCause sink sink_now result

-- a text was gathered piece by piece; or the sink failed, and took a part of what was gathered before and of the text
pub record GathersAll {T E : Type 0} (before now : Option (List ℕ)) (sink sink_now : ℕ) (had whole has : List ℕ) (result : Result T E) : Type 0 where
  pub text : OnOk result (Gathers before now had whole has)
  pub part : OnErr result (TakesPart before now (had ++ whole))
  pub cause : HasOneCause sink sink_now result
