-- What tables lead to: clusters that are counted, that an entry can name, and that are not fixed; and how far refcounts go.
use Rattle.std.proofs.Common.{◌≡◌, ℕ, ◌+◌, ◌<◌, ◌≤◌, List, [], ◌∷◌, length, get_or, arith}
use Rattle.model.specs.Clusters.{host, Shape, Laws}
use Rattle.model.specs.References.{State, total, Weight, to_any, l1, l2, tree, snapped, weigh}
use Rattle.model.specs.Pictures.{no_snap, entry}
use Rattle.model.specs.Calls.{table_at, entry_at, table_of}
use Rattle.model.specs.Invariant.{Every, Sound}
use Rattle.model.proofs.Sums.{hit_self}
use Rattle.model.proofs.Lists.{total-without, every_at}
use Rattle.model.proofs.Frame.{at_most, low_at}
use Rattle.model.proofs.Facts.{split}

total_ones : {X : Type 0} (f : X → ℕ) (xs : List X) → Every (λ x. f x ≤ 1) xs → total f xs ≤ length xs
total_ones f [] o = omega arith
total_ones f (x ∷ xs) o = omega (arith, o.0, total_ones f xs o.1)

pub record Reached (v : Shape) (s : State) (h : ℕ) : Type 0 where
  pub counted : 0 < s.count h
  pub within : h < v.limit
  pub loose : s.fixed h ≡ 0

module _ (v : Shape) (ok : Laws v) (s : State) (sound : Sound v s) where
  pub reached : (h : ℕ) → 0 < weigh v (to_any h) s → Reached v s h
  reached h named =
      let some : 0 < s.count h = omega (arith, sound.counted h) in
      record { counted = some; within = sound.within h some; loose = omega (arith, split v ok h s, sound.once h, sound.apart h) }

  -- under any L1 table that the state has
  module _ (t : ℕ) (part : (W : Weight) → tree v W s.heap t ≤ weigh v W s) where
    under_table : (i : ℕ) → 0 < get_or (l1 v s.heap t) i 0 → Reached v s (get_or (l1 v s.heap t) i 0)
    under_table i pos =
        let x = get_or (l1 v s.heap t) i 0 in
        reached x (omega (arith, part (to_any x), at_most v ok (to_any x) s.heap (l1 v s.heap t) i, hit_self x pos))

    under-entry : (i j : ℕ) → 0 < host (entry v s.heap t i j) → Reached v s (host (entry v s.heap t i j))
    under-entry i j pos =
        let x = get_or (l1 v s.heap t) i 0 in
        let d = host (entry v s.heap t i j) in
        reached d (omega (arith, part (to_any d), at_most v ok (to_any d) s.heap (l1 v s.heap t) i, low_at v ok (to_any d) (l2 v s.heap x) j, hit_self d pos))

  pub reached_live : Reached v s s.live
  reached_live = reached s.live (omega (arith, hit_self s.live sound.there))

  pub reached-table : (i : ℕ) → 0 < table_at v s i → Reached v s (table_at v s i)
  reached-table = under_table s.live (λ W. omega arith)

  pub reached_data : (i j : ℕ) → 0 < host (entry_at v s i j) → Reached v s (host (entry_at v s i j))
  reached_data = under-entry s.live (λ W. omega arith)

  module _ (k : ℕ) (inside : k < length s.snaps) where
    part_of : (W : Weight) → tree v W s.heap (table_of v s k) ≤ weigh v W s
    part_of W = omega (arith, total-without (snapped v W s.heap) s.snaps k no_snap inside)

    pub snap_there : 0 < table_of v s k
    snap_there = every_at (λ z. 0 < z.table) s.snaps k no_snap inside sound.tables

    pub reached_snap : Reached v s (table_of v s k)
    reached_snap = reached (table_of v s k) (omega (arith, part_of (to_any (table_of v s k)), hit_self (table_of v s k) snap_there))

    pub reached_snap_table : (i : ℕ) → 0 < get_or (l1 v s.heap (table_of v s k)) i 0 → Reached v s (get_or (l1 v s.heap (table_of v s k)) i 0)
    reached_snap_table = under_table (table_of v s k) part_of

    pub reached_snap_data : (i j : ℕ) → 0 < host (entry v s.heap (table_of v s k) i j) → Reached v s (host (entry v s.heap (table_of v s k) i j))
    reached_snap_data = under-entry (table_of v s k) part_of

  pub free_loose : (p : ℕ) → s.count p ≡ 0 → s.fixed p ≡ 0
  free_loose p free = omega (arith, sound.counted p)

  pub fixed_once : (c : ℕ) → 0 < s.fixed c → (s.fixed c ≡ 1) × (s.count c ≡ 1)
  fixed_once c pos = omega (arith, sound.counted c, sound.once c, sound.apart c, split v ok c s)

  -- a cluster is named at most once by the live table and once by each snapshot
  pub count_bound : (h : ℕ) → s.count h ≤ 1 + length s.snaps
  count_bound h = omega (arith, sound.counted h, split v ok h s, sound.once h, sound.apart h, sound.single.now h, total_ones (snapped v (to_any h) s.heap) s.snaps (sound.single.past h))
