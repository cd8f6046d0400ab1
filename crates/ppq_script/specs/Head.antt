-- The head of a script: which records it is about, and in which order.
use Rattle.std.specs.Prelude.{ℕ, Bool, not, ◌&&◌, ◌==◌, List, [], ◌∷◌, Option, Some, None, if◌then◌else◌, bytes_eq, codes}
use Rattle.ppq_script.specs.declared.head.Head.{Head}
use Rattle.ppq_script.specs.declared.kind.Kind.{Kind}
use Rattle.ppq_script.specs.declared.kind.Kind.TheVariants.{Pair, Triple}
use Rattle.ppq_script.specs.declared.order.Order.{Order}
use Rattle.ppq_script.specs.declared.order.Order.TheVariants.{Up, Down}
use Rattle.ppq_script.specs.Words.{Words}

-- how many numbers a record of this kind has
abbrev pub count_of : Kind → ℕ
count_of Pair = 2
count_of Triple = 3

-- records go in this order, if the greater goes first exactly where `down`
abbrev pub goes : Bool → Order → Bool
goes down Up = not down
goes down Down = down

-- the kind and the order of a script without a head
abbrev pub plain_head : Head
plain_head = record { kind = Pair; order = Up }

-- records of this type are those of which a script with this head speaks
abbrev pub is_typed : {R : Type 0} → Words R → Head → Bool
is_typed words head = (words.COUNT == count_of head.kind) && goes words.DOWN head.order

-- the word of a kind, and the one of an order
abbrev pub kind_word : Kind → List ℕ
kind_word Pair = codes "pair"
kind_word Triple = codes "triple"

abbrev pub order_word : Order → List ℕ
order_word Up = codes "up"
order_word Down = codes "down"

-- the fields of a head
abbrev pub head_fields : Head → List (List ℕ)
head_fields head = codes "ppq" ∷ codes "2" ∷ kind_word head.kind ∷ order_word head.order ∷ []

-- the kind and the order that a word names, if it names one
abbrev pub kind_named : List ℕ → Option Kind
kind_named word = if bytes_eq word (codes "pair") then Some Pair else if bytes_eq word (codes "triple") then Some Triple else None

abbrev pub order_named : List ℕ → Option Order
order_named word = if bytes_eq word (codes "up") then Some Up else if bytes_eq word (codes "down") then Some Down else None

-- both, where both are named
abbrev pub head_named : Option Kind → Option Order → Option Head
head_named None order = None
head_named (Some kind) None = None
head_named (Some kind) (Some order) = Some (record { kind = kind; order = order })

-- the kind and the order that two fields name, and no field behind them
abbrev pub kind_and_order : List (List ℕ) → Option Head
kind_and_order [] = None
kind_and_order (kind ∷ []) = None
kind_and_order (kind ∷ order ∷ []) = head_named (kind_named kind) (order_named order)
kind_and_order (kind ∷ order ∷ more ∷ fields) = None

-- the head that fields are, if they are one
abbrev pub head_in : List (List ℕ) → Option Head
head_in [] = None
head_in (name ∷ []) = None
head_in (name ∷ version ∷ fields) = if bytes_eq name (codes "ppq") && bytes_eq version (codes "2") then kind_and_order fields else None
