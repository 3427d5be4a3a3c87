-- The calls that change an image, each as the state after it.
--   Op         a call: write one guest cluster; take, drop and restore a snapshot; claim, release and rewrite a fixed cluster
--   without    a list without one element
--   one        a refcount is 1
--   mine       a cluster has one reference; cluster 0, which an empty entry names, never
--   table_at   the L2 table of an L1 entry of the live table; entry_at: an L2 entry under the live table; table_of: a snapshot's L1 table
--   unmark     the L2 table of a write in place: written only if the entry was marked
--   in_place, move_data, move_both   a write in which nothing moves, the data moves, the L2 table and the data move
--   write      new bytes for one guest cluster: what moves is decided by the refcounts before the call
--   flagging1, flagging2   the copied flags that the refcounts ask for, of an L1 and of an L2 table
--   remark1, remark2       a heap with those flags set in an L1 table, and in the L2 table that an L1 entry names
--   sweep      a heap with the flags set in the L2 tables of a list of L1 entries, one after the other
--   settle     makes every copied flag in and under the live L1 table say whether the refcount is 1
--   copied, removed, replaced   a snapshot is taken, removed, put back as the live image, with copied flags still to settle
--   take, drop, restore         the same, settled
--   claim, release, rewrite     a free cluster becomes a fixed one; and back; a fixed cluster gets other bytes
--   step, run  the state after a call, and after a list of calls
use Rattle.std.specs.Prelude.{ℕ, zero, suc, ◌+◌, ◌-◌, Bool, false, cond, List, [], ◌∷◌, ◌++◌, map, ◌==◌, slice_index, slice_index_or}
use Rattle.model.specs.Clusters.{Cluster, Entry, hole, zeros, at, host, Seen, Heap, put, Shape}
use Rattle.model.specs.References.{State, total, hit, to_any, cell2, l1, under, tree}
use Rattle.model.specs.Pictures.{no_snap, entry, read}

-- Write i j f p q: guest cluster j under L1 entry i gets f of what it showed; p and q are new clusters for the L2 table and the data
-- Take id p: p is a new cluster for the L1 table of the snapshot; Drop k and Restore k go by the place in the list
pub data Op : Type 0 where
  Write : ℕ → ℕ → (Seen → Cluster) → ℕ → ℕ → Op
  Take : List ℕ → ℕ → Op
  Drop : ℕ → Op
  Restore : ℕ → Op
  Claim : ℕ → Cluster → Op
  Release : ℕ → Cluster → Op
  Rewrite : ℕ → Cluster → Op

abbrev pub without : {X : Type 0} → ℕ → List X → List X
without k [] = []
without zero (x ∷ xs) = xs
without (suc k) (x ∷ xs) = x ∷ without k xs

abbrev pub one : (ℕ → ℕ) → ℕ → Bool
one n x = n x == 1

abbrev pub mine : State → ℕ → Bool
mine s zero = false
mine s (suc x) = one s.count (suc x)

module _ (v : Shape) where
  abbrev pub table_at : State → ℕ → ℕ
  table_at s i = slice_index (l1 v s.heap s.live) i

  abbrev pub entry_at : State → ℕ → ℕ → Entry
  entry_at s i j = entry v s.heap s.live i j

  abbrev pub table_of : State → ℕ → ℕ
  table_of s k = (slice_index_or s.snaps k no_snap).table

  -- the table y is written only if the entry was marked: the mark goes, and a plain entry stays as it is
  abbrev pub unmark : Heap → ℕ → Cluster → Entry → Heap
  unmark m y w hole = m
  unmark m y w (zeros h) = put m y w
  unmark m y w (at d) = m

  -- neither the L2 table nor the data moves
  abbrev pub in_place : State → ℕ → ℕ → Cluster → State
  in_place s i j w = record {
    heap = unmark (put s.heap (host (entry_at s i j)) w) (table_at s i) (v.put2 (s.heap (table_at s i)) j (host (entry_at s i j))) (entry_at s i j);
    count = s.count;
    fixed = s.fixed;
    live = s.live;
    snaps = s.snaps;
  }

  -- the data goes to the free cluster q
  abbrev pub move_data : State → ℕ → ℕ → Cluster → ℕ → State
  move_data s i j w q = record {
    heap = put (put s.heap q w) (table_at s i) (v.put2 (s.heap (table_at s i)) j q);
    count = λ h. (s.count h + hit h q) - hit h (host (entry_at s i j));
    fixed = s.fixed;
    live = s.live;
    snaps = s.snaps;
  }

  -- the L2 table goes to the free cluster p, and the data to q: what was under a shared table is shared too
  abbrev pub move_both : State → ℕ → ℕ → Cluster → ℕ → ℕ → State
  move_both s i j w p q = record {
    heap = put (put (put s.heap q w) p (v.put2 (cell2 v s.heap (table_at s i)) j q)) s.live (v.put1 (s.heap s.live) i p);
    count = λ h. (s.count h + hit h p + hit h q) - hit h (table_at s i) - hit h (host (entry_at s i j));
    fixed = s.fixed;
    live = s.live;
    snaps = s.snaps;
  }

  abbrev pub write : State → ℕ → ℕ → (Seen → Cluster) → ℕ → ℕ → State
  write s i j f p q =
      cond (mine s (table_at s i))
      (cond (mine s (host (entry_at s i j)))
      (in_place s i j (f (read v s.heap s.live i j)))
      (move_data s i j (f (read v s.heap s.live i j)) q))
      (move_both s i j (f (read v s.heap s.live i j)) p q)

  abbrev pub flagging1 : (ℕ → ℕ) → Cluster → List Bool
  flagging1 n c = map (one n) (v.as1 c)

  abbrev pub flagging2 : (ℕ → ℕ) → Cluster → List Bool
  flagging2 n c = map (λ e. one n (host e)) (v.as2 c)

  abbrev pub remark1 : (ℕ → ℕ) → Heap → ℕ → Heap
  remark1 n m t = put m t (v.mark1 (m t) (flagging1 n (m t)))

  abbrev pub remark2 : (ℕ → ℕ) → Heap → ℕ → Heap
  remark2 n m zero = m
  remark2 n m (suc x) = put m (suc x) (v.mark2 (m (suc x)) (flagging2 n (m (suc x))))

  abbrev pub sweep : (ℕ → ℕ) → List ℕ → Heap → Heap
  sweep n [] m = m
  sweep n (x ∷ xs) m = sweep n xs (remark2 n m x)

  abbrev pub settle : State → State
  settle s = record {
    heap = remark1 s.count (sweep s.count (l1 v s.heap s.live) s.heap) s.live;
    count = s.count;
    fixed = s.fixed;
    live = s.live;
    snaps = s.snaps;
  }

  -- the free cluster p becomes a copy of the live L1 table
  abbrev pub copied : State → List ℕ → ℕ → State
  copied s n p = record {
    heap = put s.heap p (v.bare (s.heap s.live));
    count = λ h. s.count h + (hit h p + total (under v (to_any h) s.heap) (l1 v s.heap s.live));
    fixed = s.fixed;
    live = s.live;
    snaps = s.snaps ++ (record { id = n; table = p } ∷ []);
  }

  -- snapshot k is no more
  abbrev pub removed : State → ℕ → State
  removed s k = record {
    heap = s.heap;
    count = λ h. s.count h - tree v (to_any h) s.heap (table_of s k);
    fixed = s.fixed;
    live = s.live;
    snaps = without k s.snaps;
  }

  -- the live L1 table gets the entries of that of snapshot k
  abbrev pub replaced : State → ℕ → State
  replaced s k = record {
    heap = put s.heap s.live (v.onto (s.heap s.live) (s.heap (table_of s k)));
    count = λ h. (s.count h + total (under v (to_any h) s.heap) (l1 v s.heap (table_of s k))) - total (under v (to_any h) s.heap) (l1 v s.heap s.live);
    fixed = s.fixed;
    live = s.live;
    snaps = s.snaps;
  }

  abbrev pub take : State → List ℕ → ℕ → State
  take s n p = settle (copied s n p)

  abbrev pub drop : State → ℕ → State
  drop s k = settle (removed s k)

  abbrev pub restore : State → ℕ → State
  restore s k = settle (replaced s k)

  abbrev pub claim : State → ℕ → Cluster → State
  claim s c w = record {
    heap = put s.heap c w;
    count = λ h. s.count h + hit h c;
    fixed = λ h. s.fixed h + hit h c;
    live = s.live;
    snaps = s.snaps;
  }

  -- a cluster that is given back may have any bytes
  abbrev pub release : State → ℕ → Cluster → State
  release s c w = record {
    heap = put s.heap c w;
    count = λ h. s.count h - hit h c;
    fixed = λ h. s.fixed h - hit h c;
    live = s.live;
    snaps = s.snaps;
  }

  abbrev pub rewrite : State → ℕ → Cluster → State
  rewrite s c w = record {
    heap = put s.heap c w;
    count = s.count;
    fixed = s.fixed;
    live = s.live;
    snaps = s.snaps;
  }

  abbrev pub step : State → Op → State
  step s (Write i j f p q) = write s i j f p q
  step s (Take n p) = take s n p
  step s (Drop k) = drop s k
  step s (Restore k) = restore s k
  step s (Claim c w) = claim s c w
  step s (Release c w) = release s c w
  step s (Rewrite c w) = rewrite s c w

  abbrev pub run : State → List Op → State
  run s [] = s
  run s (o ∷ os) = run (step s o) os
