-- Lemmas on the head of a script.
use Rattle.std.proofs.Common.{◌≡◌, ℕ, suc, Bool, true, false, cond, ◌&&◌, inl, inr, List, [], ◌∷◌, length, get_or, Option, Some, None, bytes_eq, codes, refl, sym, ap, ap₂, ◌∙◌, subst}
use Rattle.std.specs.Prelude.{unwrap_or}
use Rattle.std.proofs.lemmas.Bool.{and_parts}
use Rattle.std.proofs.lemmas.Slice.Eq.{bytes_eq-Decides}
use Rattle.ppq_script.specs.declared.head.Head.{Head}
use Rattle.ppq_script.specs.declared.kind.Kind.{Kind}
use Rattle.ppq_script.specs.declared.kind.Kind.TheVariants.{Pair, Triple}
use Rattle.ppq_script.specs.declared.order.Order.{Order}
use Rattle.ppq_script.specs.declared.order.Order.TheVariants.{Up, Down}
use Rattle.ppq_script.specs.declared.session.Session.TheVariants.{Outside}
use Rattle.ppq_script.specs.Words.{Words}
use Rattle.ppq_script.specs.Head.{plain_head, kind_word, order_word, head_fields, kind_named, order_named, head_named, kind_and_order, head_in}
use Rattle.ppq_script.specs.Lines.{LineKind, Bad, kind_of, kind_of_fields, session_behind, kinds_from, headed, head_line, head_at}
use Rattle.ppq_script.specs.Meaning.{fields_in, IsHead, HasHead, line_at}
use Rattle.ppq_script.proofs.Spelling.{by_name}

-- a word names the kind whose word it is, and the same of an order
kind_named-word : (kind : Kind) → kind_named (kind_word kind) ≡ Some kind
kind_named-word Pair = refl
kind_named-word Triple = refl

order_named-word : (order : Order) → order_named (order_word order) ≡ Some order
order_named-word Up = refl
order_named-word Down = refl

word-kind_named : (word : List ℕ) (kind : Kind) → kind_named word ≡ Some kind → word ≡ kind_word kind
word-kind_named word kind e =
    by_name word (codes "pair") _ _ kind (λ n is. (let same : Pair ≡ kind = cc in n ∙ ap kind_word same))
    (by_name word (codes "triple") _ _ kind (λ n is. (let same : Triple ≡ kind = cc in n ∙ ap kind_word same)) (λ (none : None ≡ Some kind). cc)) e

word-order_named : (word : List ℕ) (order : Order) → order_named word ≡ Some order → word ≡ order_word order
word-order_named word order e =
    by_name word (codes "up") _ _ order (λ n is. (let same : Up ≡ order = cc in n ∙ ap order_word same))
    (by_name word (codes "down") _ _ order (λ n is. (let same : Down ≡ order = cc in n ∙ ap order_word same)) (λ (none : None ≡ Some order). cc)) e

-- the fields of a head are that head, and no others are
named_parts : (kind : Option Kind) (order : Option Order) (head : Head) → head_named kind order ≡ Some head → (kind ≡ Some head.kind) × (order ≡ Some head.order)
named_parts None order head e = cc
named_parts (Some kind) None head e = cc
named_parts (Some kind) (Some order) head e =
    let made : Head = record { kind = kind; order = order } in
    let is : made ≡ head = cc in (ap (λ (h : Head). Some h.kind) is, ap (λ (h : Head). Some h.order) is)

last_fields : (fields : List (List ℕ)) (head : Head) → kind_and_order fields ≡ Some head → fields ≡ kind_word head.kind ∷ order_word head.order ∷ []
last_fields [] head e = cc
last_fields (kind ∷ []) head e = cc
last_fields (kind ∷ order ∷ []) head e =
    let parts = named_parts (kind_named kind) (order_named order) head e in
    ap₂ (λ (k o : List ℕ). k ∷ o ∷ []) (word-kind_named kind head.kind parts.0) (word-order_named order head.order parts.1)
last_fields (kind ∷ order ∷ more ∷ fields) head e = cc

fields-head_in : (fields : List (List ℕ)) (head : Head) → head_in fields ≡ Some head → fields ≡ head_fields head
fields-head_in [] head e = cc
fields-head_in (name ∷ []) head e = cc
fields-head_in (name ∷ version ∷ fields) head e = by_test (bytes_eq name (codes "ppq") && bytes_eq version (codes "2")) refl e
  where
    by_test : (t : Bool) → (bytes_eq name (codes "ppq") && bytes_eq version (codes "2")) ≡ t → cond t (kind_and_order fields) None ≡ Some head → name ∷ version ∷ fields ≡ head_fields head
    by_test true is e =
        let both = and_parts (bytes_eq name (codes "ppq")) (bytes_eq version (codes "2")) is in
        ap₂ (λ (a b : List ℕ). a ∷ b ∷ fields) ((bytes_eq-Decides name (codes "ppq")).0 both.0) ((bytes_eq-Decides version (codes "2")).0 both.1)
        ∙ ap (λ (fs : List (List ℕ)). codes "ppq" ∷ codes "2" ∷ fs) (last_fields fields head e)
    by_test false is e = cc

head_in-fields : (head : Head) → head_in (head_fields head) ≡ Some head
head_in-fields head = ap₂ (λ (k : Option Kind) (o : Option Order). head_named k o) (kind_named-word head.kind) (order_named-word head.order)

pub IsHead-head_line : (line : List ℕ) (head : Head) → head_line line ≡ Some head → IsHead line head
IsHead-head_line line head e = fields-head_in (fields_in line) head e

pub head_line-IsHead : (line : List ℕ) (head : Head) → IsHead line head → head_line line ≡ Some head
head_line-IsHead line head h = ap head_in h ∙ head_in-fields head

-- the first line tells it
first_tells : (lines : List (List ℕ)) → head_at lines ≡ head_line (line_at lines 1)
first_tells [] = refl
first_tells (l ∷ ls) = refl

pub HasHead-head_at : (lines : List (List ℕ)) (head : Head) → unwrap_or (head_at lines) plain_head ≡ head → HasHead lines head
HasHead-head_at lines head e = by_case (head_line (line_at lines 1)) refl (ap (λ (o : Option Head). unwrap_or o plain_head) (sym (first_tells lines)) ∙ e)
  where
    by_case : (o : Option Head) → head_line (line_at lines 1) ≡ o → unwrap_or o plain_head ≡ head → HasHead lines head
    by_case None is e = inr (λ other h. (let some = head_line-IsHead (line_at lines 1) other h in cc), sym e)
    by_case (Some h) is e = inl (subst (IsHead (line_at lines 1)) e (IsHead-head_line (line_at lines 1) h is))

pub head_at-HasHead : (lines : List (List ℕ)) (head : Head) → HasHead lines head → unwrap_or (head_at lines) plain_head ≡ head
head_at-HasHead lines head (inl h) = ap (λ (o : Option Head). unwrap_or o plain_head) (first_tells lines ∙ head_line-IsHead (line_at lines 1) head h)
head_at-HasHead lines head (inr h) = ap (λ (o : Option Head). unwrap_or o plain_head) (first_tells lines) ∙ by_case (head_line (line_at lines 1)) refl
  where
    by_case : (o : Option Head) → head_line (line_at lines 1) ≡ o → unwrap_or o plain_head ≡ head
    by_case None is = sym h.1
    by_case (Some other) is = absurd (h.0 other (IsHead-head_line (line_at lines 1) other is))

-- a head is no command, so behind it the lines are what they are without it
module _ {R : Type 0} (words : Words R) where
  pub head_is_bad : (line : List ℕ) (head : Head) → head_line line ≡ Some head → kind_of words line ≡ Bad
  head_is_bad line head e = ap (kind_of_fields words) (IsHead-head_line line head e)

  behind_head : (workers : ℕ) (l : List ℕ) (ls : List (List ℕ)) (head : Head) → head_line l ≡ Some head → kinds_from words workers Outside ls ≡ kinds_from words workers (session_behind Outside (kind_of words l)) ls
  behind_head workers l ls head e = ap (λ (k : LineKind R). kinds_from words workers (session_behind Outside k) ls) (sym (head_is_bad l head e))

  pub headed-rest : (workers : ℕ) (l : List ℕ) (ls : List (List ℕ)) (o : Option Head) → head_line l ≡ o → (i : ℕ) → get_or (headed words workers o l ls) (suc i) Bad ≡ get_or (kinds_from words workers Outside (l ∷ ls)) (suc i) Bad
  headed-rest workers l ls None e i = refl
  headed-rest workers l ls (Some head) e i = ap (λ (ks : List (LineKind R)). get_or ks i Bad) (behind_head workers l ls head e)

  pub headed-length : (workers : ℕ) (l : List ℕ) (ls : List (List ℕ)) (o : Option Head) → head_line l ≡ o → length (headed words workers o l ls) ≡ length (kinds_from words workers Outside (l ∷ ls))
  headed-length workers l ls None e = refl
  headed-length workers l ls (Some head) e = ap (λ (ks : List (LineKind R)). suc (length ks)) (behind_head workers l ls head e)
