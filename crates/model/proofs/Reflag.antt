-- A table rewritten with the same entries: no reference moves and no picture changes, though others may share the table.
use Rattle.std.proofs.Common.{◌≡◌, ℕ, ◌+◌, ◌<◌, ◌≤◌, List, [], ◌∷◌, map, length, get_or, sym, refl, ap, ◌∙◌, subst, inl, inr, arith}
use mathlib.Core.Path.{fun_ext}
use Rattle.std.proofs.lemmas.Bool.{cases_eq}
use Rattle.model.specs.Clusters.{Cluster, hole, Heap, put, seen, Shape, Laws}
use Rattle.model.specs.References.{Snap, State, total, hit, Weight, lows, to_any, to_l1, to_l2, to_data, l1, l2, under, tree, snapped, weigh}
use Rattle.model.specs.Pictures.{read, kept, view}
use Rattle.model.specs.Calls.{rewrite}
use Rattle.model.specs.Invariant.{Every, Sound}
use Rattle.model.proofs.Sums.{total_frame, missed, put_other, total_same}
use Rattle.model.proofs.Frame.{look, at_most, low_at, cell2_frame, cell2_self, trees_frame, seen_frame, reads_frame, singles_frame}
use Rattle.model.proofs.Moves.{table-tree, table-read}
use Rattle.model.proofs.Facts.{own_live, own_past, cell2_pos, same_sound}

-- c is an L2 table for whatever refers to it, and keeps its entries
module _ (v : Shape) (ok : Laws v) (m : Heap) (c : ℕ) (w : Cluster) (pos : 0 < c) (same : v.as2 w ≡ v.as2 (m c)) where
  l2_same : (x : ℕ) → l2 v (put m c w) x ≡ l2 v m x
  l2_same x = elim (cases_eq x c) [
    | inl e ↦ subst (λ k. l2 v (put m c w) k ≡ l2 v m k) (sym e) (ap v.as2 (cell2_self v ok m c w pos) ∙ same ∙ ap v.as2 (sym (cell2_pos v ok m c pos)))
    | inr ne ↦ ap v.as2 (cell2_frame v ok m c w pos x ne)
  ]

  tree_same : (W : Weight) (t : ℕ) → hit c t ≡ 0 → tree v W (put m c w) t ≡ tree v W m t
  tree_same W t off =
      ap (λ k. W.top t + total (under v W (put m c w)) (v.as1 k)) (put_other m c w t (missed c t pos off))
      ∙ ap (λ n. W.top t + n) (total_same (under v W (put m c w)) (under v W m) (λ x. ap (λ es. W.mid x + total (lows W) es) (l2_same x)) (l1 v m t))

  trees_same : (W : Weight) (ts : List Snap) → total (snapped v (to_l1 c) m) ts ≡ 0 → total (snapped v W (put m c w)) ts ≡ total (snapped v W m) ts
  trees_same W ts z = total_frame (snapped v (to_l1 c) m) (snapped v W (put m c w)) (snapped v W m) (λ n off. tree_same W n.table (omega (arith, off))) ts z

  read_same : (t : ℕ) → hit c t ≡ 0 → tree v (to_data c) m t ≡ 0 → read v (put m c w) t ≡ read v m t
  read_same t off none = fun_ext λ i. fun_ext λ j.
      let xs = l1 v m t in
      let x = get_or xs i 0 in
      ap (λ k. look v ok (put m c w) (get_or (v.as1 k) i 0) j) (put_other m c w t (missed c t pos off))
      ∙ ap (λ es. seen (put m c w) (get_or es j hole)) (l2_same x)
      ∙ seen_frame v ok m c w pos (get_or (l2 v m x) j hole) (omega (arith, none, at_most v ok (to_data c) m xs i, low_at v ok (to_data c) (l2 v m x) j))

  reads_same : (ts : List Snap) → total (snapped v (to_l1 c) m) ts ≡ 0 → total (snapped v (to_data c) m) ts ≡ 0 → map (kept v (put m c w)) ts ≡ map (kept v m) ts
  reads_same [] a b = refl
  reads_same (t ∷ ts) a b =
      let e = read_same t.table (omega arith) (omega arith) in
      let k : kept v (put m c w) t ≡ kept v m t = λ n. record { id = t.id; shot = e n } in
      cc (k, reads_same ts (omega arith) (omega arith))

  singles_same : (h : ℕ) (ts : List Snap) → total (snapped v (to_l1 c) m) ts ≡ 0 → Every (λ n. tree v (to_any h) m n.table ≤ 1) ts → Every (λ n. tree v (to_any h) (put m c w) n.table ≤ 1) ts
  singles_same h [] z o = tt
  singles_same h (t ∷ ts) z o = (omega (arith, tree_same (to_any h) t.table (omega arith), o.0), singles_same h ts (omega arith) o.1)

-- an L2 table of the image
module _ (v : Shape) (ok : Laws v) (s : State) (sound : Sound v s) (c : ℕ) (w : Cluster) (pos : 0 < c) (same : v.as2 w ≡ v.as2 (s.heap c)) (table : 0 < weigh v (to_l2 c) s) where
  reflag2_facts : (hit c s.live ≡ 0) × (total (snapped v (to_l1 c) s.heap) s.snaps ≡ 0) × (tree v (to_data c) s.heap s.live ≡ 0) × (total (snapped v (to_data c) s.heap) s.snaps ≡ 0)
  reflag2_facts = omega (arith, table, sound.apart c, sound.kinds c)

  pub reflag2_weigh : (W : Weight) → weigh v W (rewrite v s c w) ≡ weigh v W s
  reflag2_weigh W = omega (arith, tree_same v ok s.heap c w pos same W s.live reflag2_facts.0, trees_same v ok s.heap c w pos same W s.snaps reflag2_facts.1)

  pub reflag2_sound : length w ≡ v.size → Sound v (rewrite v s c w)
  reflag2_sound sized = same_sound v ok s c w sound reflag2_weigh
      (record {
        now = λ h. omega (arith, tree_same v ok s.heap c w pos same (to_any h) s.live reflag2_facts.0, sound.single.now h);
        past = λ h. singles_same v ok s.heap c w pos same h s.snaps reflag2_facts.1 (sound.single.past h);
      })
      sized

  pub reflag2_view : view v (rewrite v s c w) ≡ view v s
  reflag2_view =
      let now = read_same v ok s.heap c w pos same s.live reflag2_facts.0 reflag2_facts.2 in
      let past = reads_same v ok s.heap c w pos same s.snaps reflag2_facts.1 reflag2_facts.3 in
      λ k. record { now = now k; past = past k }

-- the live L1 table
module _ (v : Shape) (ok : Laws v) (s : State) (sound : Sound v s) (w : Cluster) (same : v.as1 w ≡ l1 v s.heap s.live) where
  clear : total (under v (to_any s.live) s.heap) (v.as1 w) ≡ 0
  clear = ap (total (under v (to_any s.live) s.heap)) same ∙ own_live v ok s sound

  reflag1_tree : (W : Weight) → tree v W (put s.heap s.live w) s.live ≡ tree v W s.heap s.live
  reflag1_tree W = table-tree v ok s.heap s.live w sound.there clear W ∙ ap (λ ys. W.top s.live + total (under v W s.heap) ys) same

  pub reflag1_sound : length w ≡ v.size → Sound v (rewrite v s s.live w)
  reflag1_sound sized = same_sound v ok s s.live w sound
      (λ W. omega (arith, reflag1_tree W, trees_frame v ok s.heap s.live w sound.there W s.snaps (own_past v ok s sound)))
      (record {
        now = λ h. omega (arith, reflag1_tree (to_any h), sound.single.now h);
        past = λ h. singles_frame v ok s.heap s.live w sound.there h s.snaps (own_past v ok s sound) (sound.single.past h);
      })
      sized

  pub reflag1_view : view v (rewrite v s s.live w) ≡ view v s
  reflag1_view =
      let now : read v (put s.heap s.live w) s.live ≡ read v s.heap s.live = fun_ext λ i. fun_ext λ j.
      table-read v ok s.heap s.live w sound.there clear i j ∙ ap (λ ys. look v ok s.heap (get_or ys i 0) j) same in
      let past = reads_frame v ok s.heap s.live w sound.there s.snaps (own_past v ok s sound) in
      λ k. record { now = now k; past = past k }
