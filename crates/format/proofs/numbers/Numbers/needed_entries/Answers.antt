use Rattle.std.proofs.Common.{◌≡◌, ◌*◌, ap, ◌∙◌}
use Rattle.format.specs.Clusters.{cluster, begun, span_of}
use Rattle.format.proofs.Clusters.{span_pos, ceil_begun}
use Rattle.format.proofs.numbers.Numbers.needed_entries.Goals as goal

pub div_ceil-requires : goal.div_ceil-requires
div_ceil-requires c = span_pos c.cluster_size.result c.table_entries.result c.cluster_size.ensures.least c.table_entries.ensures.least

pub returns : goal.returns
returns c =
    let n = c.args.self in
    let k = c.table_entries.result in
    let span : c.cluster_size.result * k ≡ span_of (cluster n) = ap (λ m. m * k) c.cluster_size.ensures.value ∙ ap (λ m. cluster n * m) c.table_entries.ensures.value in
    record { value = c.div_ceil.ensures ∙ ceil_begun n.size (c.cluster_size.result * k) ∙ ap (begun n.size) span }
