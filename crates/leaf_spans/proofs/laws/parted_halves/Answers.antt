use Rattle.map_model.proofs.Halves.{parting_stay, parting_go, parting-map}
use Rattle.leaf_spans.proofs.Shortest.{parting_shortest}
use Rattle.leaf_spans.proofs.laws.parted_halves.Goals as goal

pub returns-clause-lower : goal.returns-clause-lower
returns-clause-lower t c m up many = parting_stay m up many

pub returns-clause-upper : goal.returns-clause-upper
returns-clause-upper t c m up many = parting_go m up many

pub returns-clause-values : goal.returns-clause-values
returns-clause-values t c f m = parting-map f m

pub returns-clause-shortest : goal.returns-clause-shortest
returns-clause-shortest t c m up many n less = parting_shortest m up many n less
