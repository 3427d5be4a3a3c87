-- The law applies to something.
use Rattle.model.proofs.Witness.{witness}
use Rattle.model.proofs.law_applies.Goals as goal

pub returns : goal.returns
returns c = witness
