use Rattle.std.proofs.Common.{length}
use Rattle.chain.proofs.layers.+read_layers.Given as goal

abbrev pub decreases-read_layers : goal.decreases-read_layers
decreases-read_layers g l = length l.layers.now
