use Rattle.std.proofs.Common.{◌≡◌, length, sym, ◌∙◌, arith}
use Rattle.byte_lists.proofs.Numbers.{spelled_is, be_eight}
use Rattle.byte_lists.proofs.big_endian.U64Number.from_bytes.Goals as goal

pub returns-in-len8 : goal.returns-in-len8
returns-in-len8 c =
    let long : length c.args.bytes.now ≡ 8 = omega (arith, c.in-len8.len_at_least, c.in-len8.len_below) in
    record { value = spelled_is c.args.bytes.now 8 c.from_be_bytes.result long (c.from_be_bytes.ensures ∙ sym (be_eight c.args.bytes.now long)) }
