-- Fields of a record, one after the other, and frames.
use Rattle.std.proofs.Common.{◌≡◌, ℕ, ◌+◌, ◌*◌, ◌<◌, List, [], ◌∷◌, ◌++◌, length, take, set, Some, sym, ap, ◌∙◌, arith, append_assoc, append-nil, length-append}
use Rattle.std.specs.Prelude.{flat_map, slice_get}
use Rattle.std.specs.Int.{w32, w64, to_be_bytes}
use Rattle.std.proofs.lemmas.List.{take_more_set}
use Rattle.std.proofs.lemmas.List.Concat.{flat_map-append}
use Rattle.ppq_engine.specs.Output.{frame}
use Rattle.ppq_engine.proofs.Running.{take-next}

-- the first fields in a list of numbers, and one more
pub numbers-next : (numbers fields : List ℕ) (i field : ℕ) → i < length numbers → i < length fields → take i numbers ≡ take i fields → slice_get fields i ≡ Some field → take (i + 1) (set numbers i field) ≡ take (i + 1) fields
numbers-next numbers fields i field room within had here = take_more_set numbers i field room ∙ ap (λ (t : List ℕ). t ++ field ∷ []) had ∙ sym (take-next fields i field within here)

-- the bytes of one field more
pub bytes-next : (fields : List ℕ) (i field : ℕ) → i < length fields → slice_get fields i ≡ Some field → flat_map (to_be_bytes w64) (take (i + 1) fields) ≡ flat_map (to_be_bytes w64) (take i fields) ++ to_be_bytes w64 field
bytes-next fields i field within here =
    ap (flat_map (to_be_bytes w64)) (take-next fields i field within here) ∙ flat_map-append (to_be_bytes w64) (take i fields) (field ∷ []) ∙ ap (λ (t : List ℕ). flat_map (to_be_bytes w64) (take i fields) ++ t) (append-nil (to_be_bytes w64 field))

-- a frame that was written part by part
pub frame-made :
    (had one two three four five count first last sum : List ℕ) (width : ℕ) → length count ≡ 8 → length first ≡ width → length last ≡ width → length sum ≡ 8
    → one ≡ had ++ to_be_bytes w32 (2 * width + 16) → two ≡ one ++ count → three ≡ two ++ first → four ≡ three ++ last → five ≡ four ++ sum
    → five ≡ had ++ frame (((count ++ first) ++ last) ++ sum)
frame-made had one two three four five count first last sum width eight long also last_eight a b c d e =
    let body : List ℕ = ((count ++ first) ++ last) ++ sum in
    let size : 2 * width + 16 ≡ length body = omega (arith, eight, long, also, last_eight, length-append ((count ++ first) ++ last) sum, length-append (count ++ first) last, length-append count first) in
    e ∙ ap (λ (t : List ℕ). t ++ sum) (d ∙ ap (λ (t : List ℕ). t ++ last) (c ∙ ap (λ (t : List ℕ). t ++ first) b ∙ append_assoc one count first) ∙ append_assoc one (count ++ first) last) ∙ append_assoc one ((count ++ first) ++ last) sum
    ∙ ap (λ (t : List ℕ). t ++ body) a ∙ append_assoc had (to_be_bytes w32 (2 * width + 16)) body ∙ ap (λ (n : ℕ). had ++ (to_be_bytes w32 n ++ body)) size

-- one part more behind what was there
pub part-more : (had one two part more : List ℕ) → one ≡ had ++ part → two ≡ one ++ more → two ≡ had ++ (part ++ more)
part-more had one two part more a b = b ∙ ap (λ (t : List ℕ). t ++ more) a ∙ append_assoc had part more
