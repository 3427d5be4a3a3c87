use Rattle.std.proofs.Common.{◌≡◌, length, sym, ◌∙◌, arith}
use Rattle.byte_lists.proofs.Numbers.{spelled_is, be_four}
use Rattle.byte_lists.proofs.big_endian.U32Number.from_bytes.Goals as goal

pub returns-in-len4 : goal.returns-in-len4
returns-in-len4 c =
    let long : length c.args.bytes.now ≡ 4 = omega (arith, c.in-len4.len_at_least, c.in-len4.len_below) in
    record { value = spelled_is c.args.bytes.now 4 c.from_be_bytes.result long (c.from_be_bytes.ensures ∙ sym (be_four c.args.bytes.now long)) }
