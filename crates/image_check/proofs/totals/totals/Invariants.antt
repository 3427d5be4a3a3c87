use Rattle.image_check.proofs.Found.{Left, leaking, lacking, mixing, repeating}
use Rattle.image_check.proofs.totals.totals.Given as goal

abbrev pub invariant-loop-h : goal.invariant-loop-h
invariant-loop-h g l =
    Left (leaking l.n (g.S.Store.bytes l.s)) l.words l.found.leaked l.h
    × Left (lacking l.n (g.S.Store.bytes l.s)) l.words l.found.short l.h
    × Left mixing l.words l.found.mixed l.h
    × Left repeating l.words l.found.repeated l.h
