-- What holds of every image between calls.
--   Every      a fact of each element of a list
--   Single     no L1 table's tree names a cluster twice
--   Marked1, Marked2   each copied flag of an L1 or L2 table whose entry refers to a cluster says whether the refcount is 1
--   Flagged    the copied flags in and under the live L1 table are right
--   Sound      refcounts are the references, kinds of clusters are apart, trees name nothing twice
--   Clean      sound, with copied flags that are right
use Rattle.std.specs.Prelude.{◌≡◌, ℕ, ◌+◌, ◌<◌, ◌≤◌, min, false, List, [], ◌∷◌, length, slice_index, slice_index_or}
use Rattle.model.specs.Clusters.{Cluster, hole, host, Shape}
use Rattle.model.specs.References.{State, to_any, to_l2, to_data, tree, weigh, refs, roots}
use Rattle.model.specs.Calls.{one, table_at}

abbrev pub Every : {X : Type 0} → (X → Type 0) → List X → Type 0
Every P [] = Unit
Every P (x ∷ xs) = P x × Every P xs

module _ (v : Shape) where
  pub record Single (s : State) : Type 0 where
    pub now : (h : ℕ) → tree v (to_any h) s.heap s.live ≤ 1
    pub past : (h : ℕ) → Every (λ n. tree v (to_any h) s.heap n.table ≤ 1) s.snaps

  abbrev pub Marked1 : (ℕ → ℕ) → Cluster → Type 0
  Marked1 n c = (i : ℕ) → i < v.wide → 0 < slice_index (v.as1 c) i → slice_index_or (v.flag1 c) i false ≡ one n (slice_index (v.as1 c) i)

  abbrev pub Marked2 : (ℕ → ℕ) → Cluster → Type 0
  Marked2 n c = (j : ℕ) → j < v.deep → 0 < host (slice_index_or (v.as2 c) j hole) → slice_index_or (v.flag2 c) j false ≡ one n (host (slice_index_or (v.as2 c) j hole))

  pub record Flagged (s : State) : Type 0 where
    pub top : Marked1 s.count (s.heap s.live)
    pub low : (i : ℕ) → i < v.wide → 0 < table_at v s i → Marked2 s.count (s.heap (table_at v s i))

  -- counted: each refcount is the number of references
  -- once: a cluster is one fixed cluster or one L1 table, or neither; apart: such a cluster is no L2 table and no data
  -- kinds: an L2 table is no data; within: what is referred to can be named by an entry
  -- shaped: each cluster has its size; there, tables: the live L1 table and those of snapshots are clusters
  pub record Sound (s : State) : Type 0 where
    pub counted : (h : ℕ) → s.count h ≡ refs v s h
    pub once : (h : ℕ) → roots v s h ≤ 1
    pub apart : (h : ℕ) → min (roots v s h) (weigh v (to_l2 h) s + weigh v (to_data h) s) ≡ 0
    pub kinds : (h : ℕ) → min (weigh v (to_l2 h) s) (weigh v (to_data h) s) ≡ 0
    pub single : Single s
    pub within : (h : ℕ) → 0 < s.count h → h < v.limit
    pub shaped : (h : ℕ) → length (s.heap h) ≡ v.size
    pub there : 0 < s.live
    pub tables : Every (λ n. 0 < n.table) s.snaps

  pub record Clean (s : State) : Type 0 where
    pub sound : Sound s
    pub flagged : Flagged s
