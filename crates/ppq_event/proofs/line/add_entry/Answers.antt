use Rattle.ppq_event.proofs.Gathered.{eight_texts}
use Rattle.ppq_event.proofs.line.add_entry.Goals as goal

pub returns : goal.returns
returns c =
    eight_texts _ _ _ _ _ _ _ _ _ _ _ _ _ _ _ _ _ c.number.ensures.text c.text.ensures c.number-2.ensures.text c.text-2.ensures c.number-3.ensures.text c.text-3.ensures c.add_reply.ensures.text c.text-4.ensures
