use Rattle.std.proofs.Common.{◌≡◌, ◌+◌, ◌-◌, take, drop, ap, arith, rules}
use Rattle.byte_lists.specs.Runs.{run}
use Rattle.format.proofs.numbers.Numbers.backing_name.Goals as goal

pub returns : goal.returns
unfolding run
returns c =
    let n = c.args.self in
    let e : (n.name + n.letters) - n.name ≡ n.letters = omega arith in
    record { value = (search rules, ap (λ k. take k (drop n.name c.args.first.now)) e) }
