use Rattle.std.proofs.Common.{◌<◌, ◌^◌, arith}
use Rattle.answer.specs.Digest.{digest}
use Rattle.answer.proofs.Digits.{number_padded}
use Rattle.answer.proofs.records.record.Goals as goal

pub returns : goal.returns
returns c =
    let small : digest c.args.content.now < 2 ^ 64 = rw (← c.digest-digest.ensures.value) (omega arith) in
    record { value = simp (c.in_radix.ensures, c.laid_out.ensures, c.digest-digest.ensures.value, number_padded (digest c.args.content.now) small) at c.format.ensures.ok }
