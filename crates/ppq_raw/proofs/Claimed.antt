-- Calls that were made of a file, one after the other, as a claim of it.
use Rattle.std.proofs.Common.{◌≡◌, Bool, true, false, List, [], ◌∷◌, ◌++◌, refl, sym, ◌∙◌, subst, inl, inr, append_assoc, true≢false}
use Rattle.std.specs.Prelude.{◌↔◌, Result, Ok, Err, Contains, IsTrue, ⊤}
use Rattle.ppq_outside.specs.declared.fault.Failed.{Failed}
use Rattle.ppq_raw.specs.declared.file_data.FileData.{FileData}
use Rattle.ppq_raw.specs.declared.file_numbers.FileNumbers.{FileNumbers}
use Rattle.ppq_raw.specs.Calls.{Call, Asked, Locked, Cut, HasCalled}
use Rattle.ppq_raw.specs.Claims.{IsTaken, IsTakenIf, Takes, Claims}

called_two : (before mid now : List Call → Type 0) (xs ys : List Call) → HasCalled before mid xs → HasCalled mid now ys → HasCalled before now (xs ++ ys)
called_two before mid now xs ys first second = λ made had. subst now (append_assoc made xs ys) (second (made ++ xs) (first made had))

-- a file that is locked is cut
pub cut_takes : (before mid now : List Call → Type 0) (lock : Bool) (result : Result ⊤ Failed) → lock ≡ true → HasCalled before mid (Locked lock ∷ []) → HasCalled mid now (Cut result ∷ []) → Takes before now result
cut_takes before mid now lock result holds first second =
    let P : Bool → Type 0 = λ b. HasCalled before now (Locked b ∷ Cut result ∷ []) in
    record { calls = Locked true ∷ Cut result ∷ []; made = subst P holds (called_two before mid now (Locked lock ∷ []) (Cut result ∷ []) first second); taken = inr refl }

-- one that is not is left
pub left_takes : (before now : List Call → Type 0) (lock : Bool) (fault : Failed) → lock ≡ false → HasCalled before now (Locked lock ∷ []) → Takes before now (Err fault)
left_takes before now lock fault fails first =
    let P : Bool → Type 0 = λ b. HasCalled before now (Locked b ∷ []) in
    record { calls = Locked false ∷ []; made = subst P fails first; taken = inl (refl, refl) }

-- the machine says nothing
pub silent_claims : (spared : List FileNumbers) (before now : List Call → Type 0) (answer : Result FileData Failed) (fault other : Failed) → answer ≡ Err fault → HasCalled before now (Asked answer ∷ []) → Claims spared before now (Err other)
silent_claims spared before now answer fault other is first =
    let P : Result FileData Failed → Type 0 = λ a. HasCalled before now (Asked a ∷ []) in
    record { answer = Err fault; calls = []; made = subst P is first; claim = (refl, refl) }

-- it says that the file is a spared one
pub spared_claims : (spared : List FileNumbers) (before now : List Call → Type 0) (answer : Result FileData Failed) (said : FileData) (among : Bool) (other : Failed) → answer ≡ Ok said → among ≡ true → (IsTrue among ↔ Contains spared said.numbers) → HasCalled before now (Asked answer ∷ []) → Claims spared before now (Err other)
spared_claims spared before now answer said among other is holds says first =
    let P : Result FileData Failed → Type 0 = λ a. HasCalled before now (Asked a ∷ []) in
    record { answer = Ok said; calls = []; made = subst P is first; claim = inl (says.0 holds, refl, refl) }

not_among : (spared : List FileNumbers) (numbers : FileNumbers) (among : Bool) → among ≡ false → (IsTrue among ↔ Contains spared numbers) → Contains spared numbers → ⊥
not_among spared numbers among fails says has = true≢false (sym (says.1 has) ∙ fails)

is_taken_if : (plain : Bool) (calls : List Call) (result : Result ⊤ Failed) → plain ≡ true → IsTaken calls result → IsTakenIf plain calls result
is_taken_if plain calls result holds taken = let P : Bool → Type 0 = λ b. IsTakenIf b calls result in subst P (sym holds) taken

is_left_if : (plain : Bool) → plain ≡ false → IsTakenIf plain [] (Ok tt)
is_left_if plain fails = let P : Bool → Type 0 = λ b. IsTakenIf b [] (Ok tt) in subst P (sym fails) (refl, refl)

-- it is plain, and taken
pub taken_claims : (spared : List FileNumbers) (before mid now : List Call → Type 0) (answer : Result FileData Failed) (said : FileData) (among : Bool) (result : Result ⊤ Failed) → answer ≡ Ok said → among ≡ false → (IsTrue among ↔ Contains spared said.numbers) → said.is_plain ≡ true → HasCalled before mid (Asked answer ∷ []) → Takes mid now result → Claims spared before now result
taken_claims spared before mid now answer said among result is fails says plain first takes =
    let P : Result FileData Failed → Type 0 = λ a. HasCalled before now (Asked a ∷ takes.calls) in
    record { answer = Ok said; calls = takes.calls; made = subst P is (called_two before mid now (Asked answer ∷ []) takes.calls first takes.made); claim = inr (not_among spared said.numbers among fails says, is_taken_if said.is_plain takes.calls result plain takes.taken) }

-- it is not plain
pub left_claims : (spared : List FileNumbers) (before now : List Call → Type 0) (answer : Result FileData Failed) (said : FileData) (among : Bool) → answer ≡ Ok said → among ≡ false → (IsTrue among ↔ Contains spared said.numbers) → said.is_plain ≡ false → HasCalled before now (Asked answer ∷ []) → Claims spared before now (Ok tt)
left_claims spared before now answer said among is fails says plain first =
    let P : Result FileData Failed → Type 0 = λ a. HasCalled before now (Asked a ∷ []) in
    record { answer = Ok said; calls = []; made = subst P is first; claim = inr (not_among spared said.numbers among fails says, is_left_if said.is_plain plain) }
