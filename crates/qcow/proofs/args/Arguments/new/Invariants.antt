use Rattle.std.proofs.Common.{length}
use Rattle.qcow.proofs.args.Arguments.new.Given as goal

-- the words that are left
abbrev pub decreases-loop-word : goal.decreases-loop-word
decreases-loop-word l = length l.given.rest.items
