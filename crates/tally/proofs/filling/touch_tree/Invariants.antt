use Rattle.std.proofs.Common.{◌≡◌, ◌-◌}
use Rattle.walk.specs.References.{gather, branch_refs, tree_refs, entries_of}
use Rattle.tally.specs.Filling.{all_touched}
use Rattle.tally.proofs.filling.touch_tree.Given as goal

-- what is left of the walk gives what the whole gives
abbrev pub invariant-loop-i : goal.invariant-loop-i
invariant-loop-i g l =
    all_touched g.P.Step.pass (gather (branch_refs l.n (g.S.Store.bytes l.s) l.l1) l.i (entries_of l.n - l.i)) l.words
    ≡ all_touched g.P.Step.pass (tree_refs l.n (g.S.Store.bytes l.s) l.l1) l.initial.words
