use Rattle.std.proofs.Common.{◌≡◌, ◌-◌, ◌*◌}
use Rattle.format.specs.Clusters.{per_table}
use Rattle.walk.specs.References.{gather, entry_refs, l2_at, l2_refs}
use Rattle.tally.specs.Filling.{all_touched}
use Rattle.tally.proofs.filling.touch_l2.Given as goal

-- what is left of the walk gives what the whole gives
abbrev pub invariant-loop-g : goal.invariant-loop-g
invariant-loop-g g l =
    all_touched g.P.Step.pass (gather (λ x. entry_refs l.n (l2_at l.n (g.S.Store.bytes l.s) l.l2 x)) l.g (l.g-end - l.g)) l.words
    ≡ all_touched g.P.Step.pass (l2_refs l.n (g.S.Store.bytes l.s) l.l2 (l.i * per_table l.n)) l.initial.words
