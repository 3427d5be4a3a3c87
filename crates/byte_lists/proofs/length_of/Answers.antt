use Rattle.std.proofs.Common.{sym, refl, arith}
use Rattle.byte_lists.proofs.Octets.{octets_from}
use Rattle.byte_lists.proofs.length_of.Goals as goal

pub returns-then-list-eq0 : goal.returns-then-list-eq0
returns-then-list-eq0 c = record { value = sym c.if-list-eq0.true; octets = octets_from c.args.list.now (λ i lt. absurd (omega arith)) }

pub returns : goal.returns
returns c = record { value = refl; octets = octets_from c.args.list.now (λ i lt. omega (arith, c.type_inv.list i)) }
