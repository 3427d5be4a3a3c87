-- What a sound state says: of the kinds of references, of a free cluster, of the live L1 table, of a write that moves no reference.
use Rattle.std.proofs.Common.{◌≡◌, ℕ, zero, suc, ◌+◌, ◌<◌, eqb, ◌⊎◌, List, length, refl, ap, ◌∙◌, inl, inr, arith}
use Rattle.std.proofs.lemmas.Bool.{cond_both}
use Rattle.model.specs.Clusters.{Cluster, Heap, put, Shape, Laws}
use Rattle.model.specs.References.{State, total, hit, Weight, lows, to_any, to_l1, to_l2, to_data, cell2, l1, l2, under, tree, snapped, weigh}
use Rattle.model.specs.Calls.{rewrite}
use Rattle.model.specs.Invariant.{Single, Sound}
use Rattle.model.proofs.Sums.{hit_self, hit_cases, total_add, total-nought}

module _ (v : Shape) (ok : Laws v) where
  under_split : (h : ℕ) (m : Heap) (x : ℕ) → under v (to_any h) m x ≡ under v (to_l1 h) m x + under v (to_l2 h) m x + under v (to_data h) m x
  under_split h m x =
      let a : total (lows (to_l1 h)) (l2 v m x) ≡ 0 = total-nought (lows (to_l1 h)) (λ e. refl) (l2 v m x) in
      let b : total (lows (to_l2 h)) (l2 v m x) ≡ 0 = total-nought (lows (to_l2 h)) (λ e. refl) (l2 v m x) in
      omega arith

  pub tree_split : (h : ℕ) (m : Heap) (t : ℕ) → tree v (to_any h) m t ≡ tree v (to_l1 h) m t + tree v (to_l2 h) m t + tree v (to_data h) m t
  tree_split h m t = omega (arith, total_add (under v (to_any h) m) (under v (to_l1 h) m) (under v (to_l2 h) m) (under v (to_data h) m) (under_split h m) (l1 v m t))

  pub split : (h : ℕ) (s : State) → weigh v (to_any h) s ≡ weigh v (to_l1 h) s + weigh v (to_l2 h) s + weigh v (to_data h) s
  split h s = omega (arith, tree_split h s.heap s.live, total_add (snapped v (to_any h) s.heap) (snapped v (to_l1 h) s.heap) (snapped v (to_l2 h) s.heap) (snapped v (to_data h) s.heap) (λ n. tree_split h s.heap n.table) s.snaps)

  -- entries count for no L1 table
  pub no_tops : (h : ℕ) (m : Heap) (xs : List ℕ) → total (under v (to_l1 h) m) xs ≡ 0
  no_tops h m xs = total-nought (under v (to_l1 h) m) (λ x. omega (arith, total-nought (lows (to_l1 h)) (λ e. refl) (l2 v m x))) xs

module _ (v : Shape) (ok : Laws v) (s : State) (sound : Sound v s) where
  pub free_live : (p : ℕ) → s.count p ≡ 0 → tree v (to_any p) s.heap s.live ≡ 0
  free_live p free = omega (arith, sound.counted p)

  pub free_past : (p : ℕ) → s.count p ≡ 0 → total (snapped v (to_any p) s.heap) s.snaps ≡ 0
  free_past p free = omega (arith, sound.counted p)

  pub free_all : (p : ℕ) → s.count p ≡ 0 → weigh v (to_any p) s ≡ 0
  free_all p free = omega (arith, sound.counted p)

  -- the live table is referred to once, by itself
  pub own_once : s.count s.live ≡ 1
  own_once = omega (arith, sound.counted s.live, sound.once s.live, sound.apart s.live, split v ok s.live s, hit_self s.live sound.there)

  pub own_live : total (under v (to_any s.live) s.heap) (l1 v s.heap s.live) ≡ 0
  own_live = omega (arith, sound.counted s.live, own_once, hit_self s.live sound.there)

  pub own_past : total (snapped v (to_any s.live) s.heap) s.snaps ≡ 0
  own_past = omega (arith, sound.counted s.live, own_once, hit_self s.live sound.there)

  -- a cluster is not the free one, or nothing refers to it
  pub free_at : (p : ℕ) → s.count p ≡ 0 → (h : ℕ) → (hit h p ≡ 0) ⊎ (s.count h ≡ 0)
  free_at p free h = elim (hit_cases h p) [ inl z ↦ inl z | inr e ↦ inr (ap s.count e ∙ free) ]

  -- the live table is not the free cluster
  pub free_off : (p : ℕ) → s.count p ≡ 0 → s.live ≡ p → ⊥
  free_off p free e = omega (arith, own_once, ap s.count e)

pub put_shaped : (n : ℕ) (m : Heap) (c : ℕ) (w : Cluster) → ((h : ℕ) → length (m h) ≡ n) → length w ≡ n → (h : ℕ) → length (put m c w h) ≡ n
unfolding put
put_shaped n m c w shaped e h = cond_both (eqb h c) w (m h) (λ x. length x ≡ n) (λ _. e) (λ _. shaped h)

pub cell2_pos : (v : Shape) (ok : Laws v) (m : Heap) (x : ℕ) → 0 < x → cell2 v m x ≡ m x
unfolding cell2
cell2_pos v ok m zero pos = absurd (omega arith)
cell2_pos v ok m (suc x) pos = refl

pub cell2_shaped : (v : Shape) (ok : Laws v) (m : Heap) → ((h : ℕ) → length (m h) ≡ v.size) → (x : ℕ) → length (cell2 v m x) ≡ v.size
unfolding cell2
cell2_shaped v ok m shaped zero = ok.sized
cell2_shaped v ok m shaped (suc x) = shaped (suc x)

-- a write that leaves every weight as it was
pub same_sound : (v : Shape) (ok : Laws v) (s : State) (c : ℕ) (w : Cluster) → Sound v s → ((W : Weight) → weigh v W (rewrite v s c w) ≡ weigh v W s) → Single v (rewrite v s c w) → length w ≡ v.size → Sound v (rewrite v s c w)
same_sound v ok s c w sound same single sized = record {
  counted = λ h. omega (arith, same (to_any h), sound.counted h);
  once = λ h. omega (arith, same (to_l1 h), sound.once h);
  apart = λ h. omega (arith, same (to_l1 h), same (to_l2 h), same (to_data h), sound.apart h);
  kinds = λ h. omega (arith, same (to_l2 h), same (to_data h), sound.kinds h);
  single = single;
  within = sound.within;
  shaped = put_shaped v.size s.heap c w sound.shaped sized;
  there = sound.there;
  tables = sound.tables;
}
