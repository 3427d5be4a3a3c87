-- What a write to one cluster leaves: all that does not refer to it.
use Rattle.std.proofs.Common.{◌≡◌, ℕ, zero, suc, ◌+◌, ◌<◌, ◌≤◌, List, [], ◌∷◌, map, get_or, refl, ap, ◌∙◌, arith}
use mathlib.Core.Path.{fun_ext}
use Rattle.model.specs.Clusters.{Cluster, Entry, hole, zeros, at, Seen, holds, Heap, put, seen, Shape, Laws}
use Rattle.model.specs.References.{Snap, total, Weight, lows, to_any, cell2, l1, l2, under, tree, snapped}
use Rattle.model.specs.Pictures.{read, kept}
use Rattle.model.specs.Invariant.{Every}
use Rattle.model.proofs.Sums.{total_at, total-replicate, total_frame, missed, put_self, put_other}

module _ (v : Shape) (ok : Laws v) where
  abbrev pub look : Heap → ℕ → ℕ → Seen
  look m x j = seen m (get_or (l2 v m x) j hole)

  pub under_zero : (W : Weight) (m : Heap) → under v W m 0 ≡ 0
  unfolding cell2
  under_zero W m = rw ok.fresh2 (omega (arith, W.no_mid, total-replicate (lows W) v.deep hole W.no_low))

  pub at_most : (W : Weight) (m : Heap) (xs : List ℕ) (i : ℕ) → under v W m (get_or xs i 0) ≤ total (under v W m) xs
  at_most W m xs i = total_at (under v W m) xs i 0 (under_zero W m)

  pub low_at : (W : Weight) (es : List Entry) (j : ℕ) → lows W (get_or es j hole) ≤ total (lows W) es
  low_at W es j = total_at (lows W) es j hole W.no_low

  module _ (m : Heap) (c : ℕ) (w : Cluster) (pos : 0 < c) where
    pub cell2_frame : (x : ℕ) → (x ≡ c → ⊥) → cell2 v (put m c w) x ≡ cell2 v m x
    unfolding cell2
    cell2_frame zero ne = refl
    cell2_frame (suc x) ne = put_other m c w (suc x) ne

    pub cell2_self : cell2 v (put m c w) c ≡ w
    unfolding cell2
    cell2_self = go c pos (put_self m c w)
      where
        go : (n : ℕ) → 0 < n → put m c w n ≡ w → cell2 v (put m c w) n ≡ w
        go zero p e = absurd (omega arith)
        go (suc n) p e = e

    pub under_frame : (W : Weight) (x : ℕ) → under v (to_any c) m x ≡ 0 → under v W (put m c w) x ≡ under v W m x
    under_frame W x z = ap (λ k. W.mid x + total (lows W) (v.as2 k)) (cell2_frame x (missed c x pos (omega arith)))

    pub unders_frame : (W : Weight) (xs : List ℕ) → total (under v (to_any c) m) xs ≡ 0 → total (under v W (put m c w)) xs ≡ total (under v W m) xs
    unders_frame W xs z = total_frame (under v (to_any c) m) (under v W (put m c w)) (under v W m) (under_frame W) xs z

    pub tree_frame : (W : Weight) (t : ℕ) → tree v (to_any c) m t ≡ 0 → tree v W (put m c w) t ≡ tree v W m t
    tree_frame W t z =
        ap (λ k. W.top t + total (under v W (put m c w)) (v.as1 k)) (put_other m c w t (missed c t pos (omega arith)))
        ∙ ap (λ n. W.top t + n) (unders_frame W (l1 v m t) (omega arith))

    pub trees_frame : (W : Weight) (ts : List Snap) → total (snapped v (to_any c) m) ts ≡ 0 → total (snapped v W (put m c w)) ts ≡ total (snapped v W m) ts
    trees_frame W ts z = total_frame (snapped v (to_any c) m) (snapped v W (put m c w)) (snapped v W m) (λ n. tree_frame W n.table) ts z

    pub seen_frame : (e : Entry) → lows (to_any c) e ≡ 0 → seen (put m c w) e ≡ seen m e
    seen_frame hole z = refl
    seen_frame (zeros h) z = refl
    seen_frame (at d) z = ap holds (put_other m c w d (missed c d pos z))

    pub look_frame : (x j : ℕ) → under v (to_any c) m x ≡ 0 → look (put m c w) x j ≡ look m x j
    look_frame x j z =
        ap (λ k. seen (put m c w) (get_or (v.as2 k) j hole)) (cell2_frame x (missed c x pos (omega arith)))
        ∙ seen_frame (get_or (l2 v m x) j hole) (omega (arith, low_at (to_any c) (l2 v m x) j))

    pub read_frame : (t : ℕ) → tree v (to_any c) m t ≡ 0 → read v (put m c w) t ≡ read v m t
    read_frame t z = fun_ext λ i. fun_ext λ j.
        ap (λ k. look (put m c w) (get_or (v.as1 k) i 0) j) (put_other m c w t (missed c t pos (omega arith)))
        ∙ look_frame (get_or (l1 v m t) i 0) j (omega (arith, at_most (to_any c) m (l1 v m t) i))

    pub kept_frame : (n : Snap) → tree v (to_any c) m n.table ≡ 0 → kept v (put m c w) n ≡ kept v m n
    kept_frame n z = let e = read_frame n.table z in λ k. record { id = n.id; shot = e k }

    pub reads_frame : (ts : List Snap) → total (snapped v (to_any c) m) ts ≡ 0 → map (kept v (put m c w)) ts ≡ map (kept v m) ts
    reads_frame [] z = refl
    reads_frame (t ∷ ts) z = cc (kept_frame t (omega arith), reads_frame ts (omega arith))

    pub singles_frame : (h : ℕ) (ts : List Snap) → total (snapped v (to_any c) m) ts ≡ 0 → Every (λ n. tree v (to_any h) m n.table ≤ 1) ts → Every (λ n. tree v (to_any h) (put m c w) n.table ≤ 1) ts
    singles_frame h [] z o = tt
    singles_frame h (t ∷ ts) z o = (omega (arith, tree_frame (to_any h) t.table (omega arith), o.0), singles_frame h ts (omega arith) o.1)
