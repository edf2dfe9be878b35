use Rattle.leaf_spans.proofs.Calls.{answer_part, after_part, other_part}
use Rattle.leaf_spans.proofs.laws.calls_in_spans.Goals as goal

pub returns-clause-answer : goal.returns-clause-answer
returns-clause-answer c s m call up lies = answer_part s m up call lies

pub returns-clause-after : goal.returns-clause-after
returns-clause-after c s m call up lies = after_part s m up call lies

pub returns-clause-others : goal.returns-clause-others
returns-clause-others c A leaf other s m call are up is lies ne = other_part A are leaf other ne s is m up call lies
