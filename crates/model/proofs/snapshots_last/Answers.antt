-- Snapshots last.
use Rattle.model.proofs.Lasts.{lasting}
use Rattle.model.proofs.snapshots_last.Goals as goal

pub returns : goal.returns
returns c = lasting
