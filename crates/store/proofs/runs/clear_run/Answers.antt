use Rattle.std.proofs.Common.{◌≡◌, ◌+◌, ◌-◌, length, take, drop, ap, ◌∙◌, arith, length-drop, length-take}
use Rattle.byte_lists.specs.Runs.{put, zeros}
use Rattle.byte_lists.proofs.Lent.{put_mid-is_put}
use Rattle.byte_lists.proofs.Runs.{length-zeros}
use Rattle.store.proofs.runs.clear_run.Goals as goal

pub returns : goal.returns
unfolding zeros
returns c =
    let at = c.args.at in
    let bs = c.args.list.now in
    let long : length (take ((at + c.args.n) - at) (drop at bs)) ≡ c.args.n = simp (length-take, length-drop) (omega arith) in
    let filled : c.fill.new.self ≡ zeros c.args.n = c.fill.ensures.after (λ y e. e) ∙ ap zeros long in
    let e : (at + c.args.n) - at ≡ length c.fill.new.self = omega (arith, ap length filled, length-zeros c.args.n) in
    record { after = put_mid-is_put bs at _ c.fill.new.self e ∙ ap (put bs at) filled }
