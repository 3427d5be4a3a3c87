use Rattle.std.proofs.Common.{sym, arith}
use Rattle.std.proofs.lemmas.List.{take_rest}
use Rattle.format.proofs.Headers.{opens_from}
use Rattle.format.proofs.header.behind_magic.Goals as goal

pub returns-in-81 : goal.returns-in-81
returns-in-81 c =
    let bs = c.args.first.now in
    record { value = (opens_from bs c.if-first-lt512.false (omega arith) (omega arith) (omega arith) (omega arith), sym (take_rest bs 4)) }
