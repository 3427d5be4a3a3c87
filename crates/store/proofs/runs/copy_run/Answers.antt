use Rattle.std.proofs.Common.{◌≡◌, ◌+◌, ◌-◌, length, take, drop, ap, ◌∙◌, arith}
use Rattle.byte_lists.specs.Runs.{run}
use Rattle.store.proofs.runs.copy_run.Goals as goal

pub returns : goal.returns
unfolding run
returns c =
    let n = length c.args.out.now in
    let e : (c.args.at + n) - c.args.at ≡ n = omega arith in
    record { after = c.copy_from_slice.ensures.after ∙ ap (λ k. take k (drop c.args.at c.args.list.now)) e }
