use Rattle.std.proofs.Common.{◌≡◌, ◌-◌, ◌^◌, ◌≤◌}
use Rattle.snapshot.specs.All.{many, records, records_from, kept}
use Rattle.snapshot.proofs.all.judge_records.Given as goal

-- what is left to judge, behind what was seen, gives what the whole gives
abbrev pub invariant-loop-i : goal.invariant-loop-i
invariant-loop-i g l =
    (l.all.count ≡ l.i)
    × (l.at ≤ 2 ^ 21)
    × (records_from l.n (g.S.Store.bytes l.s) (many l.n - l.i) l.at (kept l.all) ≡ records l.n (g.S.Store.bytes l.s))
