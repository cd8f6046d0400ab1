-- What a contract sees of a buffer.
use Rattle.std.specs.Prelude.{◌≡◌, ℕ, ◌-◌, ◌*◌, ◌≤◌, Bool, true, false, List, [], ◌++◌, length, flat_map, replicate, drop, Option, Some, None, refl}
use Rattle.std.specs.List.{refill}
use Rattle.std.specs.Coded.{Coded, code_by, coded×, coded_list, coded_option, coded_ℕ}
use Rattle.ppq_record.specs.Given.{records_from}

-- a buffer: how many records it can hold, and those that it holds; while its bytes are handed out,
-- they are raw and it holds no records
pub record Block (R : Type 0) : Type 0 where
  pub block : ℕ
  pub items : List R
  pub raw : Option (List ℕ)

module _ {R : Type 0} where
  abbrev pub block_of : ℕ → List R → Option (List ℕ) → Block R
  block_of block items raw = record { block = block; items = items; raw = raw }

  abbrev pub block_code : Coded R → Coded (Block R)
  block_code c = code_by (ℕ × (List R × Option (List ℕ))) (coded× coded_ℕ (coded× (coded_list c) (coded_option (coded_list coded_ℕ)))) (λ b. (b.block, (b.items, b.raw))) (λ p. block_of p.0 p.1.0 p.1.1) (λ _. refl)

  -- its bytes are those of its records
  abbrev pub IsSettled : Block R → Type 0
  IsSettled b = b.raw ≡ None

  -- a buffer with these records
  abbrev pub holding : ℕ → List R → Block R
  holding block items = block_of block items None

  -- a buffer whose bytes are handed out
  abbrev pub handed_out : ℕ → List ℕ → Block R
  handed_out block bytes = block_of block [] (Some bytes)

  -- the bytes of records, and then zeros up to a whole block
  abbrev pub padded : (R → List ℕ) → ℕ → ℕ → List R → List ℕ
  padded bytes_of width block items = flat_map bytes_of items ++ replicate (block * width - length items * width) 0

  -- the bytes of a buffer
  abbrev pub content_from : (R → List ℕ) → ℕ → ℕ → List R → Option (List ℕ) → List ℕ
  content_from bytes_of width block items None = padded bytes_of width block items
  content_from bytes_of width block items (Some bytes) = bytes

  abbrev pub content : (R → List ℕ) → ℕ → Block R → List ℕ
  content bytes_of width b = content_from bytes_of width b.block b.items b.raw

  -- a buffer whose bytes are handed out and hold these; a slice keeps its length, so `refill` changes nothing
  abbrev pub left_behind : (R → List ℕ) → ℕ → Block R → List ℕ → Block R
  left_behind bytes_of width b bytes = handed_out b.block (refill (b.block * width) (content bytes_of width b) bytes)

  -- the records of buffers, one buffer after the other
  abbrev pub all_items : List (Block R) → List R
  all_items buffers = flat_map (λ b. b.items) buffers

  -- what is seen of so many records in these bytes
  abbrev pub seen : (List ℕ → R) → ℕ → ℕ → ℕ → Bool → List ℕ → Block R
  seen record_of width block count true bytes = holding block (records_from record_of width count bytes)
  seen record_of width block count false bytes = handed_out block bytes

-- the fields of a buffer: so many bytes as a block has, no more records than fit, none while the bytes
-- are handed out, and else zeros after them
pub record IsBuffer (width block count : ℕ) (settled : Bool) (bytes : List ℕ) : Type 0 where
  pub whole : length bytes ≡ block * width
  pub fits : count ≤ block
  pub none : settled ≡ false → count ≡ 0
  pub zeros : settled ≡ true → drop (count * width) bytes ≡ replicate (block * width - count * width) 0
