-- The sum of a block's bytes.
use Rattle.std.specs.Prelude.{ℕ, ◌≢◌, ◌*◌, ◌/◌, ◌%◌, ◌^◌, ◌<◌, List, [], length, drop, fold, All, slice_index_or, slice_set}
use Rattle.std.specs.Int.{w64, from_le_bytes, rotate_left}
use Rattle.std.specs.Int.Bits.{bit_xor}
use Rattle.std.specs.Simd.{first_chunks}
use Rattle.ppq_checked.specs.declared.lanes.Lanes.{Lanes}

-- a lane with one number more
unfoldable pub with_number : ℕ → ℕ → ℕ
with_number lane number = rotate_left w64 (bit_xor lane number * 11400714819323198485 % 2 ^ 64) 29

-- a lane with one word of 8 bytes more
abbrev pub with_word : ℕ → List ℕ → ℕ
with_word lane word = with_number lane (from_le_bytes w64 word)

-- four lanes with one word more each
abbrev pub with_row : Lanes → List (List ℕ) → Lanes
with_row lanes words = record {
  first = with_word lanes.first (slice_index_or words 0 []);
  second = with_word lanes.second (slice_index_or words 1 []);
  third = with_word lanes.third (slice_index_or words 2 []);
  fourth = with_word lanes.fourth (slice_index_or words 3 []);
}

-- the lanes of no rows
abbrev pub first_lanes : Lanes
first_lanes = record { first = 1; second = 2; third = 3; fourth = 4 }

-- four lanes as one number
abbrev pub joined : Lanes → ℕ
joined lanes = with_number (with_number (with_number lanes.first lanes.second) lanes.third) lanes.fourth

-- the rows of four words each
abbrev pub rows_of : List (List ℕ) → List (List (List ℕ))
rows_of words = first_chunks 4 (length words / 4) words

-- the words of 8 bytes
abbrev pub words_of : List ℕ → List (List ℕ)
words_of bytes = first_chunks 8 (length bytes / 8) bytes

-- the sum of words: of their rows in four lanes, and then of the last ones that fill no row
unfoldable pub sum_of_words : List (List ℕ) → ℕ
sum_of_words words = fold with_word (joined (fold with_row first_lanes (rows_of words))) (drop (length words / 4 * 4) words)

-- the sum of bytes: of their words, and then of the last bytes that fill no word
unfoldable pub sum_of : List ℕ → ℕ
sum_of bytes = fold with_number (sum_of_words (words_of bytes)) (drop (length bytes / 8 * 8) bytes)

-- bytes of which one is written over with another have another sum
abbrev pub OneByteIsNoticed : Type 0
OneByteIsNoticed = (bytes : List ℕ) (place other : ℕ) → All (λ byte. byte < 256) bytes → other < 256 → place < length bytes → other ≢ slice_index_or bytes place 0 → sum_of (slice_set bytes place other) ≢ sum_of bytes
