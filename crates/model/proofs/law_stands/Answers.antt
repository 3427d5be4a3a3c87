-- The law over histories.
use Rattle.model.proofs.Runs.{law}
use Rattle.model.proofs.law_stands.Goals as goal

pub returns : goal.returns
returns c = law
