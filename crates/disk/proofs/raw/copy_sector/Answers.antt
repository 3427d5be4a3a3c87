use Rattle.std.proofs.Common.{◌≡◌, ◌-◌, ◌*◌, ◌≤◌, ◌++◌, length, take, drop, ap, ◌∙◌, arith}
use borrow.Rule.Slice.PartMut.{put_mid}
use Rattle.byte_lists.specs.Runs.{run, zeros}
use Rattle.byte_lists.proofs.Runs.{length_run, length-zeros}
use Rattle.byte_lists.proofs.Lent.{both_parts, length_half, length_tail}
use Rattle.disk.proofs.Sectors.{sector_is}
use Rattle.disk.proofs.raw.copy_sector.Goals as goal

pub returns : goal.returns
unfolding run zeros
returns c =
    let bs = c.args.list.now in
    let out = c.args.out.now in
    let at = c.args.sector * 512 in
    let n = c.min-n.result in
    let x = c.copy_from_slice.new.self in
    let y = c.fill.new.self in
    let few : n ≤ 512 = omega (arith, c.min-n.ensures) in
    let size : length out ≡ 512 = c.told-out in
    let is_x : x ≡ run bs at n = c.copy_from_slice.ensures.after ∙ ap (λ k. take k (drop at bs)) (omega arith) in
    let long_x : length x ≡ n = ap length is_x ∙ length_run bs at n (omega (arith, c.min-n.ensures)) in
    let is_y : y ≡ zeros (512 - n) = c.fill.ensures.after (λ y e. e) ∙ ap zeros (length_tail (put_mid 0 (n - 0) out x) n 512 (length_half out x n 512 size long_x few)) in
    let long_y : length y ≡ 512 - n = ap length is_y ∙ length-zeros (512 - n) in
    record {
      after = both_parts out x y n 512 size long_x long_y few ∙ ap (λ l. l ++ y) is_x ∙ ap (λ l. run bs at n ++ l) is_y ∙ sector_is bs c.args.sector n c.min-n.ensures (omega arith);
    }
