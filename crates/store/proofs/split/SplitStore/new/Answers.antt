use Rattle.std.proofs.Common.{refl, length-append}
use Rattle.store.proofs.split.SplitStore.new.Goals as goal

pub returns : goal.returns
returns c = record { bytes = refl; limit = length-append c.args.front.now c.args.back.now }
