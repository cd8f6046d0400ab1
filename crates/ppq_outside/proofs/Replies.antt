-- What a library was asked since: kinds of replies that calls add, one call after the other.
use Rattle.std.proofs.Common.{◌⊎◌, inl, inr}
use Rattle.ppq_outside.specs.Told.{Reply, RepliesOnly}

or_wider : {A B C : Type 0} → (B → C) → A ⊎ B → A ⊎ C
or_wider f (inl a) = inl a
or_wider f (inr b) = inr (f b)

or_then : {A B C : Type 0} → (A → B ⊎ C) → A ⊎ C → B ⊎ C
or_then f (inl a) = f a
or_then f (inr c) = inr c

-- where nothing was asked, no reply was added
pub no_replies : (replied kind : Reply → Type 0) → RepliesOnly replied replied kind
no_replies replied kind = λ reply had. inl had

-- replies of one kind are of a wider one
pub replies_wider : (before now kind wider : Reply → Type 0) → ((reply : Reply) → kind reply → wider reply) → RepliesOnly before now kind → RepliesOnly before now wider
replies_wider before now kind wider more only = λ reply has. or_wider (more reply) (only reply has)

-- two calls, one after the other
pub replies_then : (before mid now kind : Reply → Type 0) → RepliesOnly before mid kind → RepliesOnly mid now kind → RepliesOnly before now kind
replies_then before mid now kind first next = λ reply has. or_then (first reply) (next reply has)
