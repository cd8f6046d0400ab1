use Rattle.ppq_event.proofs.Gathered.{three_texts}
use Rattle.ppq_event.proofs.line.add_line.Goals as goal

pub returns : goal.returns
returns c = three_texts _ _ _ _ _ _ _ c.text.ensures c.number.ensures.text c.text-2.ensures
