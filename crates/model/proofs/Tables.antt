-- An L2 table of the live image goes to a new cluster, with one entry set to new data.
use Rattle.std.proofs.Common.{◌≡◌, ℕ, ◌+◌, ◌<◌, ◌≤◌, ◌⊎◌, List, get_or, set, sym, ap, ◌∙◌, subst, inl, inr, arith}
use Rattle.std.proofs.lemmas.List.{get_or-set_other, get_or-set_same}
use Rattle.model.specs.Clusters.{Cluster, hole, at, host, holds, put, seen, Shape, Laws}
use Rattle.model.specs.References.{State, total, hit, Weight, lows, to_any, to_l1, to_l2, to_data, cell2, l1, l2, under, tree, weigh}
use Rattle.model.specs.Pictures.{edit, read, view}
use Rattle.model.specs.Calls.{table_at, entry_at, rewrite}
use Rattle.model.specs.Invariant.{Marked2, Flagged, Sound}
use Rattle.model.specs.Law.{Free}
use Rattle.model.proofs.Sums.{total-set, hit_self, hit_other, hit_le, hit_cases}
use Rattle.model.proofs.Frame.{look, at_most, low_at, trees_frame, reads_frame, singles_frame}
use Rattle.model.proofs.Moves.{table-tree, table-read}
use Rattle.model.proofs.Facts.{tree_split, split, own_live, own_past, free_off, put_shaped}
use Rattle.model.proofs.Flags.{recount, flagged_count, flagged_l1_set}
use Rattle.model.proofs.InPlace.{edited, edit_image}

module _ (v : Shape) where
  -- the live L1 entry i is set to the cluster p
  abbrev pub l1-set : State → ℕ → ℕ → (ℕ → ℕ) → State
  l1-set s i p n = record {
    heap = put s.heap s.live (v.put1 (s.heap s.live) i p);
    count = n;
    fixed = s.fixed;
    live = s.live;
    snaps = s.snaps;
  }

-- p holds a copy of the L2 table with the entry j set to q; neither has a reference yet
module _ (v : Shape) (ok : Laws v) (s : State) (sound : Sound v s) (i j : ℕ) (inside : i < v.wide) (column : j < v.deep) (p q : ℕ) (freep : Free v s p) (freeq : Free v s q) (two : q ≡ p → ⊥)
    (n : ℕ → ℕ) (copy : l2 v s.heap p ≡ set (l2 v s.heap (table_at v s i)) j (at q))
    (balance : (h : ℕ) → n h + hit h (table_at v s i) + hit h (host (entry_at v s i j)) ≡ s.count h + hit h p + hit h q) where
  abbrev y : ℕ
  y = table_at v s i

  abbrev xs : List ℕ
  xs = l1 v s.heap s.live

  abbrev old : ℕ
  old = host (entry_at v s i j)

  w1 : Cluster
  w1 = v.put1 (s.heap s.live) i p

  w1_row : v.as1 w1 ≡ set xs i p
  unfolding w1
  w1_row = ok.set1 (s.heap s.live) i p (sound.shaped s.live) inside freep.fits

  l1-set-total : (W : Weight) → total (under v W s.heap) (v.as1 w1) + W.mid y + W.low old ≡ total (under v W s.heap) xs + W.mid p + W.low q
  l1-set-total W =
      let m = s.heap in
      let es = l2 v m y in
      let a = total-set (under v W m) xs i p 0 (omega (arith, ok.length1 (m s.live))) in
      let b = total-set (lows W) es j (at q) hole (omega (arith, ok.length2 (cell2 v m y))) in
      let c = ap (total (lows W)) copy in
      let r = ap (total (under v W m)) w1_row in
      omega arith

  off : (c : ℕ) → s.count c ≡ 0 → hit s.live c ≡ 0
  off c free = hit_other s.live c (free_off v ok s sound c free)

  clear : total (under v (to_any s.live) s.heap) (v.as1 w1) ≡ 0
  clear = omega (arith, l1-set-total (to_any s.live), own_live v ok s sound, off p freep.none, off q freeq.none)

  l1-set-tree : (W : Weight) → tree v W (l1-set v s i p n).heap s.live + W.mid y + W.low old ≡ tree v W s.heap s.live + W.mid p + W.low q
  unfolding w1
  l1-set-tree W = omega (arith, table-tree v ok s.heap s.live w1 sound.there clear W, l1-set-total W)

  l1-set-weigh : (W : Weight) → weigh v W (l1-set v s i p n) + W.mid y + W.low old ≡ weigh v W s + W.mid p + W.low q
  unfolding w1
  l1-set-weigh W = omega (arith, l1-set-tree W, trees_frame v ok s.heap s.live w1 sound.there W s.snaps (own_past v ok s sound))

  -- both are new, and two clusters
  new : (h : ℕ) → ((hit h p ≡ 0) × (hit h q ≡ 0)) ⊎ ((s.count h ≡ 0) × (hit h p + hit h q ≤ 1))
  new h = elim (hit_cases h p) [
    | inl zp ↦ elim (hit_cases h q) [
      | inl zq ↦ inl (zp, zq)
      | inr e ↦ inr (ap s.count e ∙ freeq.none, omega (arith, zp, hit_le h q))
    ]
    | inr e ↦ inr (ap s.count e ∙ freep.none, omega (arith, hit_le h p, hit_other h q (λ f. two (sym f ∙ e))))
  ]

  pub l1-set_sound : Sound v (l1-set v s i p n)
  unfolding w1
  l1-set_sound = record {
    counted = λ h. omega (arith, l1-set-weigh (to_any h), sound.counted h, balance h);
    once = λ h. omega (arith, l1-set-weigh (to_l1 h), sound.once h);
    apart = λ h.
        let f = new h in
        omega (arith, l1-set-weigh (to_l1 h), l1-set-weigh (to_l2 h), l1-set-weigh (to_data h), sound.apart h, sound.counted h, split v ok h s);
    kinds = λ h.
        let f = new h in
        omega (arith, l1-set-weigh (to_l2 h), l1-set-weigh (to_data h), sound.kinds h, sound.counted h, split v ok h s);
    single = record {
      now = λ h.
          let f = new h in
          omega (arith, l1-set-tree (to_any h), sound.single.now h, sound.counted h);
      past = λ h. singles_frame v ok s.heap s.live w1 sound.there h s.snaps (own_past v ok s sound) (sound.single.past h);
    };
    within = λ h some. elim (hit_cases h p) [
      | inl zp ↦ elim (hit_cases h q) [
        | inl zq ↦ sound.within h (omega (arith, balance h))
        | inr e ↦ subst (λ k. k < v.limit) (sym e) freeq.fits
      ]
      | inr e ↦ subst (λ k. k < v.limit) (sym e) freep.fits
    ];
    shaped = put_shaped v.size s.heap s.live w1 sound.shaped (ok.size1 (s.heap s.live) i p (sound.shaped s.live) inside);
    there = sound.there;
    tables = sound.tables;
  }

  l1-set_row : (l : ℕ) → read v (put s.heap s.live w1) s.live i l ≡ seen s.heap (get_or (set (l2 v s.heap y) j (at q)) l hole)
  l1-set_row l =
      let m = s.heap in
      table-read v ok m s.live w1 sound.there clear i l
      ∙ ap (λ ys. look v ok m (get_or ys i 0) l) w1_row
      ∙ ap (λ x. look v ok m x l) (get_or-set_same xs i p 0 (omega (arith, ok.length1 (m s.live))))
      ∙ ap (λ es. seen m (get_or es l hole)) copy

  l1-set_now : read v (put s.heap s.live w1) s.live ≡ edit (read v s.heap s.live) i j (holds (s.heap q))
  l1-set_now =
      let m = s.heap in
      let L = s.live in
      let es = l2 v m y in
      edited (read v (put m L w1) L) (read v m L) i j (holds (m q))
      (l1-set_row j ∙ ap (seen m) (get_or-set_same es j (at q) hole (omega (arith, ok.length2 (cell2 v m y)))))
      (λ l ne. l1-set_row l ∙ ap (seen m) (get_or-set_other es j l (at q) hole ne))
      (λ k l ne. table-read v ok m L w1 sound.there clear k l
      ∙ ap (λ ys. look v ok m (get_or ys k 0) l) w1_row
      ∙ ap (λ x. look v ok m x l) (get_or-set_other xs i k p 0 ne))

  pub l1-set-view : view v (l1-set v s i p n) ≡ edit_image i j (holds (s.heap q)) (view v s)
  unfolding w1
  l1-set-view = λ k. record { now = l1-set_now k; past = reads_frame v ok s.heap s.live w1 sound.there s.snaps (own_past v ok s sound) k }

  -- what falls to refcount 1 is no longer reached from the live table
  pub l1-set_flagged : ((l : ℕ → ℕ) → l q ≡ 1 → ((h : ℕ) → 0 < total (lows (to_data h)) (l2 v s.heap y) → l h ≡ s.count h) → Marked2 v l (s.heap p)) → Flagged v s → Flagged v (l1-set v s i p n)
  unfolding w1
  l1-set_flagged marked f =
      let l : ℕ → ℕ = λ h. s.count h + hit h p + hit h q in
      let here : (h : ℕ) → 0 < tree v (to_any h) s.heap s.live → l h ≡ s.count h = λ h named.
      let k = new h in
      omega (arith, sound.counted h) in
      let ownp : l p ≡ 1 = omega (arith, freep.none, hit_self p freep.pos, hit_other p q (λ e. two (sym e))) in
      let ownq : l q ≡ 1 = omega (arith, freeq.none, hit_self q freeq.pos, hit_other q p two) in
      let a : Flagged v (recount v ok s l) = flagged_count v ok s l here f in
      let good : Marked2 v l (s.heap p) = marked l ownq (λ h named. here h (omega (arith, named, at_most v ok (to_data h) s.heap xs i, tree_split v ok h s.heap s.live))) in
      let b = flagged_l1_set v ok (recount v ok s l) i p sound.shaped sound.there (own_live v ok s sound) inside freep.fits (λ e. free_off v ok s sound p freep.none (sym e)) ownp good a in
      let g = flagged_count v ok (rewrite v (recount v ok s l) s.live (v.put1 (s.heap s.live) i p)) n
      (λ h named.
      let k = new h in
      let c = at_most v ok (to_any h) s.heap xs i in
      let d = low_at v ok (to_any h) (l2 v s.heap y) j in
      omega (arith, balance h, l1-set-tree (to_any h), sound.single.now h, sound.counted h)) b in
      record { top = g.top; low = g.low }
