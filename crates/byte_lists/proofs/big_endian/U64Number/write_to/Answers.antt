use Rattle.std.proofs.Common.{rules}
use Rattle.byte_lists.proofs.Numbers.{eight_bytes}
use Rattle.byte_lists.proofs.big_endian.U64Number.write_to.Goals as goal

pub returns-then-room-eq8 : goal.returns-then-room-eq8
returns-then-room-eq8 c = grind (rules, eight_bytes)
