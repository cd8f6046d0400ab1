-- Lemmas on the text of a line and on its fields.
use Rattle.std.proofs.Common.{◌≡◌, ◌≢◌, ℕ, suc, ◌+◌, ◌≤◌, List, [], ◌∷◌, ◌++◌, length, take, drop, get_or, Some, None, Bool, true, false, cond, not, ◌==◌, position, refl, sym, ap, ap₂, ◌∙◌, subst, arith, drop-cons}
use Rattle.std.specs.List.{prefix_len, AllByRecursion as Each}
use Rattle.std.proofs.lemmas.Bool.{ne_eqb, eqb-true}
use Rattle.std.proofs.lemmas.List.{take_all, drop_all}
use Rattle.std.proofs.lemmas.List.Quantifiers.{position-Some}
use Rattle.ppq_script.specs.Lines.{text_of, onto, joined, fields_of, BeginsField}
use Rattle.ppq_script.specs.Meaning.{IsSpace, IsField, IsApart}
use Rattle.ppq_script.proofs.LineLemmas.{place, no_place}

-- one carriage return at the end is dropped
pub text_of-return : (text : List ℕ) → text_of (text ++ 13 ∷ []) ≡ text
text_of-return [] = refl
text_of-return (b ∷ []) = refl
text_of-return (b ∷ c ∷ bs) = ap (λ (t : List ℕ). b ∷ t) (text_of-return (c ∷ bs))

pub text_of-other : (text : List ℕ) (last : ℕ) → last ≢ 13 → text_of (text ++ last ∷ []) ≡ text ++ last ∷ []
text_of-other [] last h = rw (ne_eqb last 13 h) refl
text_of-other (b ∷ []) last h = rw (ne_eqb last 13 h) refl
text_of-other (b ∷ c ∷ bs) last h = ap (λ (t : List ℕ). b ∷ t) (text_of-other (c ∷ bs) last h)

-- how many spaces a text begins with, and how many bytes that are none
abbrev spaces : List ℕ → ℕ
spaces text = prefix_len (λ b. not (not (b == 32))) text

abbrev word : List ℕ → ℕ
word text = prefix_len (λ b. not (b == 32)) text

spaces-none : (b : ℕ) (bs : List ℕ) → (b == 32) ≡ false → spaces (b ∷ bs) ≡ 0
spaces-none b bs is = rw is refl

drop_spaces : (text : List ℕ) → fields_of text ≡ fields_of (drop (spaces text) text)
drop_spaces [] = refl
drop_spaces (b ∷ bs) = by_test (b == 32) refl (drop_spaces bs)
  where
    by_test : (t : Bool) → (b == 32) ≡ t → fields_of bs ≡ fields_of (drop (spaces bs) bs) → fields_of (b ∷ bs) ≡ fields_of (drop (spaces (b ∷ bs)) (b ∷ bs))
    by_test true is h = let e : 1 + spaces bs ≡ suc (spaces bs) = omega arith in rw (is, e) h
    by_test false is h = ap (λ (n : ℕ). fields_of (drop n (b ∷ bs))) (sym (spaces-none b bs is))

-- a byte before a field
joined-more : (b c n : ℕ) (bs : List ℕ) (fields behind : List (List ℕ)) → (c == 32) ≡ false → fields ≡ (c ∷ take n bs) ∷ behind → joined b (c ∷ bs) fields ≡ (b ∷ c ∷ take n bs) ∷ behind
joined-more b c n bs fields behind is e = rw (is, e) refl

word-more : (c : ℕ) (bs : List ℕ) → (c == 32) ≡ false → word (c ∷ bs) ≡ suc (word bs)
word-more c bs is = rw is (omega arith)

word-none : (c : ℕ) (bs : List ℕ) → (c == 32) ≡ true → word (c ∷ bs) ≡ 0
word-none c bs is = rw is refl

joined-none : (b c : ℕ) (bs : List ℕ) (fields : List (List ℕ)) → (c == 32) ≡ true → joined b (c ∷ bs) fields ≡ (b ∷ []) ∷ fields
joined-none b c bs fields is = rw is refl

fields_of-joined : (b : ℕ) (bs : List ℕ) → (b == 32) ≡ false → fields_of (b ∷ bs) ≡ joined b bs (fields_of bs)
fields_of-joined b bs is = rw is refl

cut_word : (b : ℕ) (bs : List ℕ) → (b == 32) ≡ false → fields_of (b ∷ bs) ≡ (b ∷ take (word bs) bs) ∷ fields_of (drop (word bs) bs)
cut_word b [] is = rw is refl
cut_word b (c ∷ bs) is = by_test (c == 32) refl (λ (k : (c == 32) ≡ false). cut_word c bs k)
  where
    by_test : (t : Bool) → (c == 32) ≡ t → ((c == 32) ≡ false → fields_of (c ∷ bs) ≡ (c ∷ take (word bs) bs) ∷ fields_of (drop (word bs) bs))
        → fields_of (b ∷ c ∷ bs) ≡ (b ∷ take (word (c ∷ bs)) (c ∷ bs)) ∷ fields_of (drop (word (c ∷ bs)) (c ∷ bs))
    by_test true at rest =
        fields_of-joined b (c ∷ bs) is ∙ joined-none b c bs (fields_of (c ∷ bs)) at ∙ sym (ap (λ (n : ℕ). (b ∷ take n (c ∷ bs)) ∷ fields_of (drop n (c ∷ bs))) (word-none c bs at))
    by_test false at rest =
        fields_of-joined b (c ∷ bs) is ∙ joined-more b c (word bs) bs (fields_of (c ∷ bs)) (fields_of (drop (word bs) bs)) at (rest at)
        ∙ sym (ap (λ (n : ℕ). (b ∷ take n (c ∷ bs)) ∷ fields_of (drop n (c ∷ bs))) (word-more c bs at))

whole_word : (text : List ℕ) → BeginsField text → fields_of text ≡ take (word text) text ∷ fields_of (drop (word text) text)
whole_word [] h = elim h [ ]
whole_word (b ∷ bs) h = cut_word b bs h ∙ sym (ap (λ (n : ℕ). take n (b ∷ bs) ∷ fields_of (drop n (b ∷ bs))) (word-more b bs h))

not_true : (t : Bool) → not t ≡ true → t ≡ false
not_true true e = cc
not_true false e = refl

-- no field, and the first one
pub fields_of-none : (text : List ℕ) → position (λ b. not (b == 32)) text ≡ None → fields_of text ≡ []
fields_of-none text e = drop_spaces text ∙ ap fields_of (drop_all (spaces text) text (no_place (spaces text) (length text) _ refl e))

pub fields_of-from : (text : List ℕ) (i : ℕ) → position (λ b. not (b == 32)) text ≡ Some i → fields_of text ≡ fields_of (drop i text)
fields_of-from text i e = let found = place (spaces text) (length text) _ i refl e in rw (sym found.0) (drop_spaces text)

pub BeginsField-from : (text : List ℕ) (i : ℕ) → position (λ b. not (b == 32)) text ≡ Some i → BeginsField (drop i text)
BeginsField-from text i e =
    let at = position-Some (λ b. not (b == 32)) text i 0 e in
    subst BeginsField (sym (drop-cons text i 0 at.0)) (not_true (get_or text i 0 == 32) at.1)

pub fields_of-cut : (text : List ℕ) (i : ℕ) → BeginsField text → position (λ b. b == 32) text ≡ Some i → fields_of text ≡ take i text ∷ fields_of (drop i text)
fields_of-cut text i h e = let found = place (word text) (length text) _ i refl e in rw (sym found.0) (whole_word text h)

pub fields_of-last : (text : List ℕ) → BeginsField text → position (λ b. b == 32) text ≡ None → fields_of text ≡ text ∷ fields_of (drop (length text) text)
fields_of-last text h e =
    let far : length text ≤ word text = no_place (word text) (length text) _ refl e in
    whole_word text h ∙ ap₂ (λ (f t : List ℕ). f ∷ fields_of t) (take_all (word text) text far) (drop_all (word text) text far ∙ sym (drop_all (length text) text (omega arith)))

-- what fields mean: a text of spaces has none
pub fields_of-spaces : (text : List ℕ) → Each IsSpace text → fields_of text ≡ []
fields_of-spaces [] h = refl
fields_of-spaces (b ∷ bs) h = rw h.0 (fields_of-spaces bs h.1)

joined-some : (b : ℕ) (bs : List ℕ) (fields : List (List ℕ)) → joined b bs fields ≡ [] → ⊥
joined-some b [] fields e = cc
joined-some b (c ∷ bs) fields e = by_test (c == 32) fields e
  where
    by_test : (t : Bool) (fields : List (List ℕ)) → cond t ((b ∷ []) ∷ fields) (onto b fields) ≡ [] → ⊥
    by_test true fields e = cc
    by_test false [] e = cc
    by_test false (f ∷ fs) e = cc

pub spaces-fields_of : (text : List ℕ) → fields_of text ≡ [] → Each IsSpace text
spaces-fields_of [] e = tt
spaces-fields_of (b ∷ bs) e = by_test (b == 32) refl e (λ (k : fields_of bs ≡ []). spaces-fields_of bs k)
  where
    by_test : (t : Bool) → (b == 32) ≡ t → cond t (fields_of bs) (joined b bs (fields_of bs)) ≡ [] → (fields_of bs ≡ [] → Each IsSpace bs) → (b ≡ 32) × Each IsSpace bs
    by_test true is e rest = (eqb-true b 32 is, rest e)
    by_test false is e rest = absurd (joined-some b bs (fields_of bs) e)

joined-onto : (b c : ℕ) (bs : List ℕ) (fields : List (List ℕ)) → (c == 32) ≡ false → joined b (c ∷ bs) fields ≡ onto b fields
joined-onto b c bs fields is = rw is refl

-- spaces, a field, and then nothing or a space
field_first : (b : ℕ) (bs rest : List ℕ) → b ≢ 32 → Each (λ c. c ≢ 32) bs → IsApart rest → fields_of (b ∷ bs ++ rest) ≡ (b ∷ bs) ∷ fields_of rest
field_first b [] [] h each apart = rw (ne_eqb b 32 h) refl
field_first b [] (c ∷ cs) h each apart = rw (ne_eqb b 32 h, apart) refl
field_first b (c ∷ cs) rest h each apart =
    let here : (c == 32) ≡ false = ne_eqb c 32 each.0 in
    let next : fields_of (c ∷ cs ++ rest) ≡ (c ∷ cs) ∷ fields_of rest = field_first c cs rest each.0 each.1 apart in
    fields_of-joined b (c ∷ cs ++ rest) (ne_eqb b 32 h) ∙ joined-onto b c (cs ++ rest) (fields_of (c ∷ cs ++ rest)) here ∙ ap (onto b) next

pub fields_of-first : (before field rest : List ℕ) → Each IsSpace before → IsField field → IsApart rest → fields_of (before ++ field ++ rest) ≡ field ∷ fields_of rest
fields_of-first [] [] rest blank field apart = absurd (omega (arith, field.some))
fields_of-first [] (b ∷ bs) rest blank field apart = field_first b bs rest field.bytes.0 field.bytes.1 apart
fields_of-first (b ∷ bs) field rest blank is apart = rw blank.0 (fields_of-first bs field rest blank.1 is apart)
