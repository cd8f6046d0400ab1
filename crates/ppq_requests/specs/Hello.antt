-- The first frame: it names the protocol and the records.
use Rattle.std.specs.Prelude.{ℕ, List, ◌++◌, Option, Some, None, if◌then◌else◌, bytes_eq, codes}
use Rattle.ppq_script.specs.declared.head.Head.{Head}
use Rattle.ppq_script.specs.declared.kind.Kind.{Kind}
use Rattle.ppq_script.specs.declared.kind.Kind.TheVariants.{Pair, Triple}
use Rattle.ppq_script.specs.declared.order.Order.{Order}
use Rattle.ppq_script.specs.declared.order.Order.TheVariants.{Up, Down}
use Rattle.ppq_script.specs.Head.{kind_word, order_word}

abbrev pub head_of_both : Kind → Order → Head
head_of_both kind order = record { kind = kind; order = order }

-- `ppq-serve 1 pair up`, and the like
abbrev pub hello : Kind → Order → List ℕ
hello kind order = codes "ppq-serve 1 " ++ kind_word kind ++ codes " " ++ order_word order

-- the records that the first frame names, if it is one of the four
abbrev pub hello_of : List ℕ → Option Head
hello_of bytes =
    if bytes_eq bytes (hello Pair Up) then Some (head_of_both Pair Up)
    else if bytes_eq bytes (hello Pair Down) then Some (head_of_both Pair Down)
    else if bytes_eq bytes (hello Triple Up) then Some (head_of_both Triple Up)
    else if bytes_eq bytes (hello Triple Down) then Some (head_of_both Triple Down)
    else None
