use Rattle.std.proofs.Common.{min, ap, ◌∙◌}
use Rattle.store.proofs.Seams.{across}
use Rattle.store.proofs.split.Cut.across.Goals as goal

pub returns : goal.returns
returns c = record {
  lies = across c.args.at c.args.n c.args.seam _ _ _ (c.min.ensures ∙ ap (min c.args.n) c.saturating_sub.ensures) c.min-2.ensures c.saturating_sub-2.ensures;
}
