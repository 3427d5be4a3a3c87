use Rattle.std.proofs.Common.{◌+◌, ◌-◌, ◌≤◌, length, sym, ◌∙◌, ◌≡◌, arith}
use Rattle.std.proofs.lemmas.Bool.{leb-true}
use Rattle.byte_lists.proofs.Numbers.{found_spelled}
use Rattle.byte_lists.proofs.big_endian.number_at.Goals as goal

pub returns : goal.returns
returns g c =
    let t = g.T.Number in
    let bs = c.args.list.now in
    let at = c.args.at in
    let fits : at + c.WIDTH.result ≤ length bs = leb-true (at + c.WIDTH.result) (length bs) (sym c.if-not-within.ensures.value) in
    let wide : at + t.WIDTH ≤ length bs = omega (arith, fits, c.WIDTH.ensures) in
    let n : (at + c.WIDTH-2.result) - at ≡ t.WIDTH = omega (arith, c.WIDTH-2.ensures) in
    record { value = c.from_bytes.ensures.value ∙ found_spelled t.number t.of_bytes t.WIDTH at ((at + c.WIDTH-2.result) - at) bs (g.met.T.Number.is_read bs at) n wide }
