use Rattle.std.proofs.Common.{rules}
use Rattle.byte_lists.proofs.Numbers.{two_bytes}
use Rattle.byte_lists.proofs.big_endian.U16Number.write_to.Goals as goal

pub returns-then-room-eq2 : goal.returns-then-room-eq2
returns-then-room-eq2 c = grind (rules, two_bytes)
