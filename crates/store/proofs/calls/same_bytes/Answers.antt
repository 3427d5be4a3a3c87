use Rattle.std.proofs.lemmas.Slice.Eq.{slice_eq-Decides}
use Rattle.store.proofs.calls.same_bytes.Goals as goal
use Rattle.std.proofs.lemmas.Bool.Decides.{Decides-eqb}

pub returns : goal.returns
returns c = record { value = slice_eq-Decides Decides-eqb c.args.x.now c.args.y.now c.eq.result c.eq.ensures }
