use Rattle.std.proofs.Common.{◌-◌, length}
use Rattle.qcow.proofs.maps.print_runs.Given as goal

-- the words behind the runs that were printed
abbrev pub decreases-loop-run : goal.decreases-loop-run
decreases-loop-run l = length l.words - l.at
