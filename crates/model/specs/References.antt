-- The state of an image with snapshots, and the references in it: as weights that add up, and as a list.
--   Snap      a snapshot: its id as bytes, and the cluster of its L1 table
--   State     clusters, refcounts, fixed clusters (header, refcount table and blocks, snapshot table), the live L1 table, snapshots
--   total     a sum over a list
--   hit       1 if a reference names the cluster; the reference 0 names none
--   Weight    what a reference counts for: top to an L1 table, mid to an L2 table, low to data; the reference 0 counts for nothing
--   lows      the weight of an L2 entry
--   nought    no weight; hit_none: the reference 0 names no cluster
--   cell2     the bytes of the L2 table that an L1 entry names; of none, a fresh one
--   l1, l2    the entries of an L1 table, and of the L2 table that an L1 entry names
--   under     the weight of an L1 entry and what is under it
--   tree      the weight of an L1 table and what is under it; snapped: that of a snapshot
--   weigh     the weight of all tables of a state
--   to_any, to_l1, to_l2, to_data   counts the references to one cluster: all, as an L1 table, as an L2 table, as data
--   refs      all references to a cluster
--   roots     the references to a cluster as a fixed cluster or as an L1 table
--   branch    the references of an L1 entry and what is under it, one by one; trunk: those of an L1 table; names: those of a state
--   flat      lists joined
--   occ       how often a cluster stands in a list of references
use Rattle.std.specs.Prelude.{◌≡◌, ℕ, zero, suc, ◌+◌, cond, List, [], ◌∷◌, ◌++◌, map, ◌==◌, refl}
use Rattle.model.specs.Clusters.{Cluster, Entry, host, Heap, Shape}

pub record Snap : Type 0 where
  pub id : List ℕ
  pub table : ℕ

pub record State : Type 0 where
  pub heap : Heap
  pub count : ℕ → ℕ
  pub fixed : ℕ → ℕ
  pub live : ℕ
  pub snaps : List Snap

abbrev pub total : {X : Type 0} → (X → ℕ) → List X → ℕ
total f [] = 0
total f (x ∷ xs) = f x + total f xs

unfoldable pub hit : ℕ → ℕ → ℕ
hit h zero = 0
hit h (suc x) = cond (h == suc x) 1 0

pub record Weight : Type 0 where
  pub top : ℕ → ℕ
  pub mid : ℕ → ℕ
  pub low : ℕ → ℕ
  pub no_mid : mid 0 ≡ 0
  pub no_low : low 0 ≡ 0

abbrev pub lows : Weight → Entry → ℕ
lows W e = W.low (host e)

abbrev pub nought : ℕ → ℕ
nought x = 0

abbrev pub hit_none : (h : ℕ) → hit h 0 ≡ 0
unfolding hit
hit_none h = refl

abbrev pub to_any : ℕ → Weight
to_any h = record { top = hit h; mid = hit h; low = hit h; no_mid = hit_none h; no_low = hit_none h }

abbrev pub to_l1 : ℕ → Weight
to_l1 h = record { top = hit h; mid = nought; low = nought; no_mid = refl; no_low = refl }

abbrev pub to_l2 : ℕ → Weight
to_l2 h = record { top = nought; mid = hit h; low = nought; no_mid = hit_none h; no_low = refl }

abbrev pub to_data : ℕ → Weight
to_data h = record { top = nought; mid = nought; low = hit h; no_mid = refl; no_low = hit_none h }

abbrev pub flat : {X : Type 0} → (X → List ℕ) → List X → List ℕ
flat f [] = []
flat f (x ∷ xs) = f x ++ flat f xs

abbrev pub occ : ℕ → List ℕ → ℕ
occ h xs = total (hit h) xs

module _ (v : Shape) where
  unfoldable pub cell2 : Heap → ℕ → Cluster
  cell2 m zero = v.fresh
  cell2 m (suc x) = m (suc x)

  abbrev pub l1 : Heap → ℕ → List ℕ
  l1 m t = v.as1 (m t)

  abbrev pub l2 : Heap → ℕ → List Entry
  l2 m x = v.as2 (cell2 m x)

  abbrev pub under : Weight → Heap → ℕ → ℕ
  under W m x = W.mid x + total (lows W) (l2 m x)

  abbrev pub tree : Weight → Heap → ℕ → ℕ
  tree W m t = W.top t + total (under W m) (l1 m t)

  abbrev pub snapped : Weight → Heap → Snap → ℕ
  snapped W m n = tree W m n.table

  abbrev pub weigh : Weight → State → ℕ
  weigh W s = tree W s.heap s.live + total (snapped W s.heap) s.snaps

  abbrev pub refs : State → ℕ → ℕ
  refs s h = s.fixed h + weigh (to_any h) s

  abbrev pub roots : State → ℕ → ℕ
  roots s h = s.fixed h + weigh (to_l1 h) s

  abbrev pub branch : Heap → ℕ → List ℕ
  branch m x = x ∷ map host (l2 m x)

  abbrev pub trunk : Heap → ℕ → List ℕ
  trunk m t = t ∷ flat (branch m) (l1 m t)

  abbrev pub names : State → List ℕ
  names s = trunk s.heap s.live ++ flat (λ n. trunk s.heap n.table) s.snaps
