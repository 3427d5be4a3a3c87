use Rattle.std.proofs.Common.{◌≡◌, length, sym, ◌∙◌, arith}
use Rattle.byte_lists.proofs.Numbers.{spelled_is, be_two}
use Rattle.byte_lists.proofs.big_endian.U16Number.from_bytes.Goals as goal

pub returns-in-len2 : goal.returns-in-len2
returns-in-len2 c =
    let long : length c.args.bytes.now ≡ 2 = omega (arith, c.in-len2.len_at_least, c.in-len2.len_below) in
    record { value = spelled_is c.args.bytes.now 2 c.from_be_bytes.result long (c.from_be_bytes.ensures ∙ sym (be_two c.args.bytes.now long)) }
