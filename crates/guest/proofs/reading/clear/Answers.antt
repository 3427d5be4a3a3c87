use Rattle.std.proofs.Common.{ap, ◌∙◌}
use Rattle.byte_lists.specs.Runs.{zeros}
use Rattle.guest.proofs.reading.clear.Goals as goal

pub returns : goal.returns
unfolding zeros
returns c = record { after = c.fill.ensures.after (λ y e. e) ∙ ap zeros c.told-out }
