-- Clusters as bytes, the entries of L1 and L2 tables, and how a cluster is read and written as a table.
--   Cluster   the bytes of one cluster
--   Entry     an L2 entry: a hole, marked as reading zeros, or at a host cluster; a mark may keep a preallocated host, 0 for none
--   host      the cluster that an L2 entry refers to, 0 for none
--   Seen      what a guest cluster shows: nothing of its own, blank (zeros), or the bytes that it holds
--   Heap      the clusters of an image by their number
--   put       a heap with one cluster written
--   seen      what an L2 entry shows
--   Shape     how bytes are read and written as tables; for a byte layout to fill in
--   Laws      what a shape promises
use Rattle.std.specs.Prelude.{◌≡◌, ℕ, ◌<◌, Bool, true, false, cond, List, length, replicate, ◌==◌, slice_index, slice_index_or, slice_set}

abbrev pub Cluster : Type 0
Cluster = List ℕ

pub data Entry : Type 0 where
  hole : Entry
  zeros : ℕ → Entry
  at : ℕ → Entry

abbrev pub host : Entry → ℕ
host hole = 0
host (zeros h) = h
host (at d) = d

pub data Seen : Type 0 where
  nothing : Seen
  blank : Seen
  holds : Cluster → Seen

abbrev pub Heap : Type 0
Heap = ℕ → Cluster

unfoldable pub put : Heap → ℕ → Cluster → Heap
put m c w h = cond (h == c) w (m h)

-- a marked entry shows zeros, whatever its host has
abbrev pub seen : Heap → Entry → Seen
seen m hole = nothing
seen m (zeros h) = blank
seen m (at d) = holds (m d)

-- size: bytes in a cluster; limit: above every cluster number that an entry can hold; wide, deep: entries of an L1 and of an L2 table
-- as1, as2: the entries; flag1, flag2: the copied flags, one for each entry
-- put1, put2: one entry set to a cluster, with its flag; fresh: an L2 table of holes
-- bare: the copy of an L1 table that a snapshot keeps, with no flag set; onto: an L1 table with the entries of another
-- mark1, mark2: all flags of a table set, those of entries that refer to nothing cleared
pub record Shape : Type 0 where
  pub size : ℕ
  pub limit : ℕ
  pub wide : ℕ
  pub deep : ℕ
  pub as1 : Cluster → List ℕ
  pub as2 : Cluster → List Entry
  pub flag1 : Cluster → List Bool
  pub flag2 : Cluster → List Bool
  pub put1 : Cluster → ℕ → ℕ → Cluster
  pub put2 : Cluster → ℕ → ℕ → Cluster
  pub fresh : Cluster
  pub bare : Cluster → Cluster
  pub onto : Cluster → Cluster → Cluster
  pub mark1 : Cluster → List Bool → Cluster
  pub mark2 : Cluster → List Bool → Cluster

pub record Laws (v : Shape) : Type 0 where
  pub length1 : (c : Cluster) → length (v.as1 c) ≡ v.wide
  pub length2 : (c : Cluster) → length (v.as2 c) ≡ v.deep
  pub flags1 : (c : Cluster) → length (v.flag1 c) ≡ v.wide
  pub flags2 : (c : Cluster) → length (v.flag2 c) ≡ v.deep
  -- one entry, with its flag
  pub set1 : (c : Cluster) (i x : ℕ) → length c ≡ v.size → i < v.wide → x < v.limit → v.as1 (v.put1 c i x) ≡ slice_set (v.as1 c) i x
  pub set2 : (c : Cluster) (j x : ℕ) → length c ≡ v.size → j < v.deep → 0 < x → x < v.limit → v.as2 (v.put2 c j x) ≡ slice_set (v.as2 c) j (at x)
  pub raise1 : (c : Cluster) (i x : ℕ) → length c ≡ v.size → i < v.wide → x < v.limit → v.flag1 (v.put1 c i x) ≡ slice_set (v.flag1 c) i true
  pub raise2 : (c : Cluster) (j x : ℕ) → length c ≡ v.size → j < v.deep → 0 < x → x < v.limit → v.flag2 (v.put2 c j x) ≡ slice_set (v.flag2 c) j true
  pub size1 : (c : Cluster) (i x : ℕ) → length c ≡ v.size → i < v.wide → length (v.put1 c i x) ≡ v.size
  pub size2 : (c : Cluster) (j x : ℕ) → length c ≡ v.size → j < v.deep → length (v.put2 c j x) ≡ v.size
  -- a new L2 table
  pub fresh2 : v.as2 v.fresh ≡ replicate v.deep hole
  pub sized : length v.fresh ≡ v.size
  -- whole L1 tables
  pub bare_as1 : (c : Cluster) → length c ≡ v.size → v.as1 (v.bare c) ≡ v.as1 c
  pub bare_flag1 : (c : Cluster) → length c ≡ v.size → v.flag1 (v.bare c) ≡ replicate v.wide false
  pub bare_size : (c : Cluster) → length c ≡ v.size → length (v.bare c) ≡ v.size
  pub onto_as1 : (a b : Cluster) → length a ≡ v.size → length b ≡ v.size → v.as1 (v.onto a b) ≡ v.as1 b
  pub onto_size : (a b : Cluster) → length a ≡ v.size → length b ≡ v.size → length (v.onto a b) ≡ v.size
  -- all flags of a table
  pub mark1_as1 : (c : Cluster) (fs : List Bool) → length c ≡ v.size → length fs ≡ v.wide → v.as1 (v.mark1 c fs) ≡ v.as1 c
  pub mark1_flag : (c : Cluster) (fs : List Bool) (i : ℕ) → length c ≡ v.size → length fs ≡ v.wide → i < v.wide → 0 < slice_index (v.as1 c) i → slice_index_or (v.flag1 (v.mark1 c fs)) i false ≡ slice_index_or fs i false
  pub mark1_none : (c : Cluster) (fs : List Bool) (i : ℕ) → length c ≡ v.size → length fs ≡ v.wide → i < v.wide → slice_index (v.as1 c) i ≡ 0 → slice_index_or (v.flag1 (v.mark1 c fs)) i false ≡ false
  pub mark1_size : (c : Cluster) (fs : List Bool) → length c ≡ v.size → length fs ≡ v.wide → length (v.mark1 c fs) ≡ v.size
  pub mark2_as2 : (c : Cluster) (fs : List Bool) → length c ≡ v.size → length fs ≡ v.deep → v.as2 (v.mark2 c fs) ≡ v.as2 c
  pub mark2_flag : (c : Cluster) (fs : List Bool) (j : ℕ) → length c ≡ v.size → length fs ≡ v.deep → j < v.deep → 0 < host (slice_index_or (v.as2 c) j hole) → slice_index_or (v.flag2 (v.mark2 c fs)) j false ≡ slice_index_or fs j false
  pub mark2_none : (c : Cluster) (fs : List Bool) (j : ℕ) → length c ≡ v.size → length fs ≡ v.deep → j < v.deep → host (slice_index_or (v.as2 c) j hole) ≡ 0 → slice_index_or (v.flag2 (v.mark2 c fs)) j false ≡ false
  pub mark2_size : (c : Cluster) (fs : List Bool) → length c ≡ v.size → length fs ≡ v.deep → length (v.mark2 c fs) ≡ v.size
