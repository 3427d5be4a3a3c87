use Rattle.std.proofs.Common.{min, sym, ap, ◌∙◌, length-take}
use Rattle.store.specs.Split.{joined}
use Rattle.store.proofs.split.SplitStore.in_use.Goals as goal

pub returns : goal.returns
returns c =
    let s = c.args.self.now in
    record { value = c.min.ensures ∙ ap (min s.used) c.most.ensures.value ∙ sym (length-take s.used (joined s)) }
