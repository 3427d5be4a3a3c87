use Rattle.std.proofs.Common.{◌≡◌, ◌-◌}
use Rattle.fault.specs.Outcomes.{each}
use Rattle.guest.specs.Shown.{guest_entry}
use Rattle.mapping.proofs.maps.judge_entries.Given as goal

-- what is left to judge gives what the whole gives
abbrev pub invariant-loop-g : goal.invariant-loop-g
invariant-loop-g g l = each (guest_entry l.n (g.S.Store.bytes l.s) l.l1) l.g (l.clusters - l.g) ≡ each (guest_entry l.n (g.S.Store.bytes l.s) l.l1) 0 l.clusters
