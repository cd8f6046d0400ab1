-- Idle buffers, one of which is used and goes back.
use Rattle.std.specs.Prelude.{vec_capacity}
use Rattle.std.proofs.Common.{◌≡◌, ℕ, ◌<◌, Some, List, [], ◌∷◌, ◌++◌, length, All, sym, ap, ◌∙◌, subst, arith, length-append}
use Rattle.std.specs.List.{slice_get}
use Rattle.std.proofs.lemmas.List.Elements.{All-head, All-tail, All-push}
use Rattle.ppq_fetch.specs.ppq_block.Block.{Block}
use Rattle.ppq_fetch.specs.ppq_array.Owner.{HasBlock}
use Rattle.ppq_spill.specs.declared.body.PassBody.{PassBody}
use Rattle.ppq_spill.specs.Writing.{SameBuffers, BodyRests, block_in}

module _ {R : Type 0} where
  -- the first of buffers that are all of one block size
  pub first_block : (block : ℕ) (bufs : List (Block R)) (buf : Block R) → All (HasBlock block) bufs → slice_get bufs 0 ≡ Some buf → buf.block ≡ block
  first_block block [] buf all e = absurd (cc)
  first_block block (b ∷ bs) buf all e = let same : b ≡ buf = cc in subst (λ (b : Block R). b.block ≡ block) same (All-head (HasBlock {R = R} block) b bs all)

  -- the first buffer was used and stands after the others
  pub buffer_back : (block : ℕ) (old rest new : List (Block R)) (taken put : Block R) → old ≡ taken ∷ rest → All (HasBlock block) old → put.block ≡ taken.block → new ≡ rest ++ put ∷ [] → SameBuffers block old new
  buffer_back block old rest new taken put is all same back =
      let P = HasBlock {R = R} block in
      let all' = subst (All P) is all in
      record {
        long = omega (arith, ap length is, ap length back, length-append rest (put ∷ []));
        blocks = subst (All P) (sym back) (All-push P rest put (All-tail P taken rest all') (same ∙ All-head P taken rest all'));
      }

  -- the same buffers, twice
  pub SameBuffers-trans : (block : ℕ) (a b c : List (Block R)) → SameBuffers block a b → SameBuffers block b c → SameBuffers block a c
  SameBuffers-trans block a b c h k = record { long = k.long ∙ h.long; blocks = k.blocks }

  -- buffers that are all of one block size are of that of the first
  pub block_in_is : (block : ℕ) (bufs : List (Block R)) → 0 < length bufs → All (HasBlock block) bufs → block_in bufs ≡ block
  block_in_is block [] some all = absurd (omega (arith, some))
  block_in_is block (b ∷ bs) some all = All-head (HasBlock {R = R} block) b bs all

module _ {S R : Type 0} where
  -- a buffer of a body was used for one more block
  pub rests_on :
      (block : ℕ) (old mid new : PassBody S R) (taken put : Block R) (rest : List (Block R)) → BodyRests block old mid → mid.lanes.idle ≡ taken ∷ rest → put.block ≡ taken.block → new.lanes.idle ≡ rest ++ put ∷ []
      → length new.tree.items ≡ length mid.tree.items → vec_capacity new.runs.internal ≡ vec_capacity mid.runs.internal → new.lanes.jobs ≡ mid.lanes.jobs → new.lanes.batch ≡ mid.lanes.batch → new.runs.external ≡ mid.runs.external
      → BodyRests block old new
  rests_on block old mid new taken put rest is first same back leaves room jobs batch external =
      record {
        leaves = leaves ∙ is.leaves;
        idle = SameBuffers-trans block old.lanes.idle mid.lanes.idle new.lanes.idle is.idle (buffer_back block mid.lanes.idle rest new.lanes.idle taken put first is.idle.blocks same back);
        no_job = ap (λ v. v.items) jobs ∙ is.no_job;
        job_room = ap (λ v. vec_capacity v) jobs ∙ is.job_room;
        batch = batch ∙ is.batch;
        internal_room = room ∙ is.internal_room;
        external = external ∙ is.external;
      }
