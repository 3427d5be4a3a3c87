-- A write to a table that one reference names.
use Rattle.std.proofs.Common.{◌≡◌, ℕ, ◌+◌, ◌<◌, List, length, get_or, set, ap, ◌∙◌, subst, arith}
use Rattle.std.proofs.lemmas.List.{get_or-set_other}
use Rattle.model.specs.Clusters.{Cluster, Heap, put, Shape, Laws}
use Rattle.model.specs.References.{total, hit, Weight, to_any, l1, under, tree}
use Rattle.model.specs.Pictures.{read}
use Rattle.model.proofs.Sums.{total-set, missed, put_self, put_other}
use Rattle.model.proofs.Frame.{look, under_zero, at_most, unders_frame, look_frame}

-- an L1 table t gets the contents w, which refer to t nowhere
module _ (v : Shape) (ok : Laws v) (m : Heap) (t : ℕ) (w : Cluster) (pos : 0 < t) (clear : total (under v (to_any t) m) (v.as1 w) ≡ 0) where
  pub table-tree : (W : Weight) → tree v W (put m t w) t ≡ W.top t + total (under v W m) (v.as1 w)
  table-tree W =
      ap (λ k. W.top t + total (under v W (put m t w)) (v.as1 k)) (put_self m t w)
      ∙ ap (λ n. W.top t + n) (unders_frame v ok m t w pos W (v.as1 w) clear)

  pub table-read : (i j : ℕ) → read v (put m t w) t i j ≡ look v ok m (get_or (v.as1 w) i 0) j
  table-read i j =
      ap (λ k. look v ok (put m t w) (get_or (v.as1 k) i 0) j) (put_self m t w)
      ∙ look_frame v ok m t w pos (get_or (v.as1 w) i 0) j (omega (arith, at_most v ok (to_any t) m (v.as1 w) i))

-- a cluster c gets the contents w, which the table t, whose entries are xs, refers to under its entry i and nowhere else
module _ (v : Shape) (ok : Laws v) (m : Heap) (t i c : ℕ) (w : Cluster) (xs : List ℕ) (row : l1 v m t ≡ xs) (pos : 0 < c) (inside : i < v.wide) (off : hit c t ≡ 0) (clear : total (under v (to_any c) m) (set xs i 0) ≡ 0) where
  spot_row : l1 v (put m c w) t ≡ xs
  spot_row = ap v.as1 (put_other m c w t (missed c t pos off)) ∙ row

  pub spot_tree : (W : Weight) → tree v W (put m c w) t + under v W m (get_or xs i 0) ≡ tree v W m t + under v W (put m c w) (get_or xs i 0)
  spot_tree W =
      let short : i < length xs = omega (arith, ok.length1 (m t), ap length row) in
      let a = total-set (under v W (put m c w)) xs i 0 0 short in
      let b = total-set (under v W m) xs i 0 0 short in
      let e = unders_frame v ok m c w pos W (set xs i 0) clear in
      let z = under_zero v ok W m in
      let y = under_zero v ok W (put m c w) in
      let r : tree v W (put m c w) t ≡ W.top t + total (under v W (put m c w)) xs = ap (λ ys. W.top t + total (under v W (put m c w)) ys) spot_row in
      let q : tree v W m t ≡ W.top t + total (under v W m) xs = ap (λ ys. W.top t + total (under v W m) ys) row in
      omega arith

  pub spot_others : (k j : ℕ) → (k ≡ i → ⊥) → read v (put m c w) t k j ≡ look v ok m (get_or xs k 0) j
  spot_others k j ne =
      ap (λ ys. look v ok (put m c w) (get_or ys k 0) j) spot_row
      ∙ look_frame v ok m c w pos (get_or xs k 0) j
      (subst (λ x. under v (to_any c) m x ≡ 0) (get_or-set_other xs i k 0 0 ne) (omega (arith, at_most v ok (to_any c) m (set xs i 0) k)))

  pub spot_here : (j : ℕ) → read v (put m c w) t i j ≡ look v ok (put m c w) (get_or xs i 0) j
  spot_here j = ap (λ ys. look v ok (put m c w) (get_or ys i 0) j) spot_row
