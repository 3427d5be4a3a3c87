use Rattle.std.proofs.Common.{◌≡◌, ◌+◌, ◌-◌, length, ap, ◌∙◌, arith}
use Rattle.byte_lists.specs.Runs.{put}
use Rattle.byte_lists.proofs.Lent.{put_mid-is_put}
use Rattle.store.proofs.runs.replace_run.Goals as goal

pub returns : goal.returns
returns c =
    let new = c.copy_from_slice.ensures.after in
    let e : (c.args.at + length c.args.new.now) - c.args.at ≡ length c.copy_from_slice.new.self = omega (arith, ap length new) in
    record { after = put_mid-is_put c.args.list.now c.args.at _ c.copy_from_slice.new.self e ∙ ap (put c.args.list.now c.args.at) new }
