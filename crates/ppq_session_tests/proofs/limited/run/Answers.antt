use mathlib.Core.List.{[], ◌∷◌}
use Prim.Native.Nat.{ℕ}
use Rattle.std.proofs.Common.{arith}
use mir.Syntax.{Sym, Ty}
use denote.Exit.{Kept}
use denote.RattleType.{RattleType}
use denote.Param.{param, arg}
use denote.Param.Send.{IsSend, recorded_send, struct_send, param_send, arg_send, shr_send, shr_slice_send, mut_slice_send}
use denote.Struct.Struct.{Struct}
use denote.Struct.Declared as declared
use denote.Struct.Tuple.{TupleAt, type_at}
use Rattle.ppq_session.proofs.ppq_record.pair.Pair.TheSendSync as pair
use Rattle.ppq_outside.proofs.memory_slot.MemSlot.TheSendSync as mem_slot
use Rattle.ppq_session.proofs.ppq_pass.Sends.{shared_syncs}
use Rattle.ppq_session.proofs.Sends.{limit_pass_sends}
use Rattle.ppq_session_tests.proofs.limited.run.Goals as goal

-- four things that a closure takes along
four_send : (i : ℕ) (τ : Ty) (k : Kept) (ν : Sym) (A B C D : RattleType) → IsSend A → IsSend B → IsSend C → IsSend D → IsSend (param i (arg τ k (TupleAt ν (A ∷ B ∷ C ∷ D ∷ []))))
four_send i τ k ν A B C D a b c d =
    let T = type_at ν (A ∷ B ∷ C ∷ D ∷ []) in
    param_send i _ (arg_send τ k _ (recorded_send (Struct (declared.shape T)) T.D T.to T.to_one (struct_send (declared.shape T) (a, (b, (c, (d, tt)))))))

-- the runtime, what the passes share, the records and the passes
pub join_mut-requires-send-F : goal.join_mut-requires-send-F
join_mut-requires-send-F g c κs within =
    let b = c.type_bounds in search (four_send, shr_send, shr_slice_send, mut_slice_send, shared_syncs, limit_pass_sends, mem_slot.the_send, mem_slot.the_sync, pair.the_send, pair.the_sync) depth 20

-- what the closures say is said of the passes as they are then
pub returns-clause-keys : goal.returns-clause-keys
returns-clause-keys g c key all = let m = c.join_mut.ensures.0.met.1.0 key all in grind (arith, m)

pub returns-clause-limits : goal.returns-clause-limits
returns-clause-limits g c limit all = let m = c.join_mut.ensures.0.met.1.1 limit all in grind (arith, m)
