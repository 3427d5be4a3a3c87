use Rattle.std.proofs.Common.{◌≡◌, ◌+◌, ◌-◌, [], ◌∷◌}
use Rattle.walk.specs.declared.kinds.Kind.TheVariants.{RefcountTable}
use Rattle.walk.specs.References.{gather}
use Rattle.tally.specs.Filling.{Note, all_touched}
use Rattle.tally.proofs.filling.touch_row.Given as goal

-- what is left of the walk gives what the whole gives
abbrev pub invariant-loop-i : goal.invariant-loop-i
invariant-loop-i l =
    all_touched Note (gather (λ i. record { kind = RefcountTable; host = l.first + i } ∷ []) l.i (l.count - l.i)) l.words
    ≡ all_touched Note (gather (λ i. record { kind = RefcountTable; host = l.first + i } ∷ []) 0 l.count) l.initial.words
