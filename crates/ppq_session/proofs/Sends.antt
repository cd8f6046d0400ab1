-- What goes to other threads: a pass of a limit session, if its slots and records may, and what a closure takes along.
use denote.RattleType.{RattleType}
use denote.Param.Send.{IsSend, IsSync, view_send, param_send, arg_send}
use Rattle.std.specs.declared.cmp.Ord as Ord
use Rattle.std.specs.declared.cmp.PartialEq as PartialEq
use Rattle.std.specs.declared.cmp.PartialOrd as PartialOrd
use Rattle.ppq_pass.specs.ppq_record.declared.record.Record as Record
use Rattle.ppq_pass.specs.ppq_outside.declared.slot.Slot as Slot
use Rattle.ppq_pass.proofs.Sends.{struct_sends, pass_sends}
use Rattle.ppq_session.specs.contracts.limit_pass.LimitPass as LimitPass
use Rattle.ppq_session.specs.contracts.limit_pass.LimitPass.TheInside as limit_pass
use mathlib.Core.List.{[], ◌∷◌}
use Prim.Native.Nat.{ℕ}
use mir.Syntax.{Sym, Ty}
use denote.Exit.{Kept}
use denote.Param.{param, arg}
use denote.Struct.Tuple.{TupleAt, type_at}

module _ (S R : RattleType) (slot : Slot.Ghosts S.Denot) (of : Record.Ghosts R.Denot) (ord : Ord.Ghosts R.Denot) (eq : PartialEq.Ghosts R.Denot) (le : PartialOrd.Ghosts R.Denot) (send_S : IsSend S) (sync_S : IsSync S) (send_R : IsSend R) (sync_R : IsSync R) where
  pub limit_pass_sends : IsSend (LimitPass.the_row S R slot of ord eq le)
  limit_pass_sends =
      view_send _ _ _ _ _ (struct_sends (limit_pass.the_type S R slot of ord eq le) (pass_sends S R slot of ord eq le send_S sync_S send_R sync_R, (send_R, tt)))

-- five things
pub five_send :
    (i : ℕ) (τ : Ty) (k : Kept) (ν : Sym) (A B C D E : RattleType) → IsSend A → IsSend B → IsSend C → IsSend D → IsSend E → IsSend (param i (arg τ k (TupleAt ν (A ∷ B ∷ C ∷ D ∷ E ∷ []))))
five_send i τ k ν A B C D E a b c d e = param_send i _ (arg_send τ k _ (struct_sends (type_at ν (A ∷ B ∷ C ∷ D ∷ E ∷ [])) (a, (b, (c, (d, (e, tt)))))))
