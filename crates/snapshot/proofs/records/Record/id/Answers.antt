use Rattle.std.proofs.Common.{◌≡◌, ◌+◌, length, take, drop, ap, ◌∙◌, arith}
use Rattle.byte_lists.specs.Runs.{run, grow, zeros}
use Rattle.byte_lists.proofs.Runs.{length_run}
use Rattle.byte_lists.proofs.Lent.{front_grown}
use Rattle.snapshot.proofs.records.Record.id.Goals as goal

pub returns : goal.returns
unfolding run zeros
returns c =
    let r = c.args.self.now in
    let at = 40 + r.head.extra in
    let n = r.head.id in
    let x = c.copy_from_slice.new.self in
    let is : x ≡ run r.bytes.now at n = c.copy_from_slice.ensures.after ∙ ap (λ k. take k (drop at r.bytes.now)) (omega arith) in
    let long : length x ≡ n = ap length is ∙ length_run r.bytes.now at n (omega arith) in
    record { value = front_grown 16 n x long ∙ ap (λ l. grow l 16) is }
