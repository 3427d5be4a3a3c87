-- A heap in which the fixed clusters are hidden, so that refcounts that stand in the image are no part of it.
--   mask   each fixed cluster shows the filler in place of its bytes
use Rattle.std.specs.Prelude.{ℕ, cond, ◌==◌}
use Rattle.model.specs.Clusters.{Cluster, Heap}

unfoldable pub mask : Cluster → (ℕ → ℕ) → Heap → Heap
mask filler fixed m h = cond (fixed h == 0) (m h) filler
