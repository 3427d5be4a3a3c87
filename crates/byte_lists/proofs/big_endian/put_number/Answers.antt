use Rattle.std.proofs.Common.{◌+◌, ◌-◌, ◌≤◌, length, sym, ◌≡◌, arith}
use Rattle.std.proofs.lemmas.Bool.{leb-true}
use Rattle.byte_lists.proofs.Numbers.{spelled_in}
use Rattle.byte_lists.proofs.big_endian.put_number.Goals as goal

pub returns-clause-after : goal.returns-clause-after
returns-clause-after g c =
    let t = g.T.Number in
    let law = g.met.T.Number in
    let bs = c.args.list.now in
    let at = c.args.at in
    let x = c.args.x in
    let fits : at + c.WIDTH.result ≤ length bs = leb-true (at + c.WIDTH.result) (length bs) (sym c.if-not-within.ensures.value) in
    let wide : at + t.WIDTH ≤ length bs = omega (arith, fits, c.WIDTH.ensures) in
    let n : (at + c.WIDTH-2.result) - at ≡ t.WIDTH = omega (arith, c.WIDTH-2.ensures) in
    spelled_in t.spell t.in_bytes t.WIDTH at ((at + c.WIDTH-2.result) - at) bs c.write_to.new.room x (law.is_written bs at x) (law.as_wide x) n c.write_to.ensures.after wide
