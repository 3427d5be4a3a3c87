use Rattle.std.proofs.Common.{◌≡◌, ◌-◌}
use Rattle.tables.specs.Refcounts.{blocks}
use Rattle.walk.specs.References.{gather, named_block, block_at, block_refs}
use Rattle.tally.specs.Filling.{Note, all_touched}
use Rattle.tally.proofs.filling.touch_blocks.Given as goal

-- what is left of the walk gives what the whole gives
abbrev pub invariant-loop-i : goal.invariant-loop-i
invariant-loop-i g l =
    all_touched Note (gather (λ i. named_block l.n (block_at l.n (g.S.Store.bytes l.s) i)) l.i (blocks l.n - l.i)) l.words
    ≡ all_touched Note (block_refs l.n (g.S.Store.bytes l.s)) l.initial.words
