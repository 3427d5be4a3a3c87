use Rattle.std.proofs.Common.{◌≡◌, ◌^◌, min, ltb, Ok, sym, ap, ◌∙◌, subst, true}
use Rattle.std.proofs.lemmas.Bool.{cond-true}
use Rattle.fault.proofs.Outcomes.{demand_met}
use Rattle.byte_lists.specs.Runs.{zeros}
use Rattle.disk.specs.Readings.{past_end}
use Rattle.disk.proofs.zeros.ZerosDiskDisk.read_sector.Goals as goal

pub returns : goal.returns
unfolding zeros
returns c =
    let s = c.args.sector in
    let n = min c.args.self.now.count (2 ^ 55) in
    let filled : c.fill.new.self ≡ zeros 512 = c.fill.ensures.after (λ y e. e) ∙ ap zeros c.told-out in
    let below : ltb s n ≡ true = subst (λ k. ltb s k ≡ true) c.sectors.ensures.value (demand_met _ _ _ c.in_ok-judge_within.ensures.value) in
    record { outcome = cond-true (ltb s n) (Ok (zeros 512)) (past_end s) below ∙ ap (λ l. Ok l) (sym filled) }
