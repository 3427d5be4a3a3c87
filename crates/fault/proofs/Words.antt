-- The words of a reason that is another are the other's.
use Rattle.std.proofs.Common.{◌≡◌, sym, ap}
use Rattle.fault.specs.declared.Reason.{Reason}
use Rattle.fault.specs.Faults.{words}

pub words_same : (r s : Reason) → r ≡ s → words s ≡ words r
words_same r s e = sym (ap words e)
