-- How many runs in blocks there are, and how many of them are merged at once.
use Rattle.std.specs.Prelude.{ℕ}

-- a settled level has at most so many runs, and so many are merged into one of the next level
abbrev pub fan : ℕ
fan = 8

-- how many levels there are; the last one is merged into itself
abbrev pub levels : ℕ
levels = 8

-- how many runs there are at most once all levels are settled: so many a level
abbrev pub most_runs : ℕ
most_runs = 64

-- of how many runs the last block is full in part at most: of those, and of one that was just stored
abbrev pub most_odd_runs : ℕ
most_odd_runs = 65
