use Rattle.std.proofs.Common.{rules}
use Rattle.byte_lists.proofs.Numbers.{four_bytes}
use Rattle.byte_lists.proofs.big_endian.U32Number.write_to.Goals as goal

pub returns-then-room-eq4 : goal.returns-then-room-eq4
returns-then-room-eq4 c = grind (rules, four_bytes)
