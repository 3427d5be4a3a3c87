use Rattle.std.proofs.Common.{◌≡◌, drop}
use Rattle.store.proofs.Agreement.{Midway}
use Rattle.store.proofs.calls.agree.Given as goal

abbrev pub invariant-loop-call : goal.invariant-loop-call
invariant-loop-call g l =
    (g.A.Store.limit l.a ≡ g.A.Store.limit l.initial.a)
    × (g.B.Store.limit l.b ≡ g.B.Store.limit l.initial.b)
    × Midway l.half l.calls (g.A.Store.limit l.initial.a) (g.B.Store.limit l.initial.b) (g.A.Store.bytes l.initial.a) (g.B.Store.bytes l.initial.b) (drop l.call-index l.calls) (g.A.Store.bytes l.a) (g.B.Store.bytes l.b) l.all
