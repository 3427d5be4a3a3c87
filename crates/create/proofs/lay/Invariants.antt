use Rattle.std.proofs.Common.{◌≡◌, drop}
use Rattle.create.specs.Laid.{laid}
use Rattle.create.proofs.lay.Given as goal

-- what is left to write gives what the whole gives
abbrev pub invariant-loop-f : goal.invariant-loop-f
invariant-loop-f g l =
    (laid (drop l.f-index l.fields) (g.S.Store.bytes l.s) ≡ laid l.fields (g.S.Store.bytes l.initial.s))
    × (g.S.Store.limit l.s ≡ g.S.Store.limit l.initial.s)
