-- One entry of an L2 table set to another cluster, in a table that only the live image refers to.
use Rattle.std.proofs.Common.{◌≡◌, ℕ, ◌+◌, ◌<◌, ◌⊎◌, List, get_or, set, sym, refl, ap, ◌∙◌, subst, inl, inr, arith}
use Rattle.std.proofs.lemmas.List.{get_or-set_other, get_or-set_same}
use Rattle.model.specs.Clusters.{Cluster, hole, at, host, holds, put, seen, Shape, Laws}
use Rattle.model.specs.References.{State, total, hit, Weight, lows, to_any, to_l1, to_l2, to_data, cell2, l1, l2, under, tree, snapped, weigh}
use Rattle.model.specs.Pictures.{edit, read, view}
use Rattle.model.specs.Calls.{table_at, entry_at, rewrite}
use Rattle.model.specs.Invariant.{Flagged, Sound}
use Rattle.model.proofs.Sums.{total-set, hit_self, hit_le, missed, put_other, hit_cases}
use Rattle.model.proofs.Frame.{under_zero, at_most, low_at, cell2_self, trees_frame, seen_frame, reads_frame, singles_frame}
use Rattle.model.proofs.Moves.{spot_tree, spot_others, spot_here}
use Rattle.model.proofs.Facts.{split, free_at, put_shaped, cell2_pos}
use Rattle.model.proofs.Flags.{put_marked2, recount, flagged_count, flagged_l2_set}
use Rattle.model.proofs.InPlace.{edited, edit_image}

module _ (v : Shape) where
  -- the entry j of the L2 table under the live L1 entry i is set to the cluster x
  abbrev pub l2-set : State → ℕ → ℕ → ℕ → (ℕ → ℕ) → State
  l2-set s i j x n = record {
    heap = put s.heap (table_at v s i) (v.put2 (s.heap (table_at v s i)) j x);
    count = n;
    fixed = s.fixed;
    live = s.live;
    snaps = s.snaps;
  }

module _ (v : Shape) (ok : Laws v) (s : State) (sound : Sound v s) (i j : ℕ) (inside : i < v.wide) (column : j < v.deep) (x : ℕ) (pos : 0 < x) (fits : x < v.limit)
    (n : ℕ → ℕ) (there : 0 < table_at v s i) (once : s.count (table_at v s i) ≡ 1)
    (new : (s.count x ≡ 0) ⊎ (x ≡ host (entry_at v s i j)))
    (balance : (h : ℕ) → n h + hit h (host (entry_at v s i j)) ≡ s.count h + hit h x) where
  abbrev y : ℕ
  y = table_at v s i

  abbrev xs : List ℕ
  xs = l1 v s.heap s.live

  abbrev old : ℕ
  old = host (entry_at v s i j)

  y_facts : (hit y s.live ≡ 0) × (total (under v (to_any y) s.heap) (set xs i 0) ≡ 0) × (total (lows (to_any y)) (l2 v s.heap y) ≡ 0) × (total (snapped v (to_any y) s.heap) s.snaps ≡ 0)
  y_facts =
      let a = total-set (under v (to_any y) s.heap) xs i 0 0 (omega (arith, ok.length1 (s.heap s.live))) in
      let z = under_zero v ok (to_any y) s.heap in
      let self = hit_self y there in
      omega (arith, sound.counted y)

  w2 : Cluster
  w2 = v.put2 (s.heap y) j x

  w2_row : v.as2 w2 ≡ set (l2 v s.heap y) j (at x)
  unfolding w2
  w2_row = ok.set2 (s.heap y) j x (sound.shaped y) column pos fits ∙ ap (λ k. set (v.as2 k) j (at x)) (sym (cell2_pos v ok s.heap y there))

  -- the weights of the table's entries, after
  changed : (W : Weight) → total (lows W) (v.as2 w2) + W.low old ≡ total (lows W) (l2 v s.heap y) + W.low x
  changed W =
      let es = l2 v s.heap y in
      let a = total-set (lows W) es j (at x) hole (omega (arith, ok.length2 (cell2 v s.heap y))) in
      let b = ap (total (lows W)) w2_row in
      omega arith

  l2-set-tree : (W : Weight) → tree v W (l2-set v s i j x n).heap s.live + W.low old ≡ tree v W s.heap s.live + W.low x
  unfolding w2
  l2-set-tree W =
      let m = s.heap in
      let a = spot_tree v ok m s.live i y w2 xs refl there inside y_facts.0 y_facts.1 W in
      let e : under v W (put m y w2) y ≡ W.mid y + total (lows W) (v.as2 w2) = ap (λ k. W.mid y + total (lows W) (v.as2 k)) (cell2_self v ok m y w2 there) in
      omega (arith, changed W)

  l2-set-weigh : (W : Weight) → weigh v W (l2-set v s i j x n) + W.low old ≡ weigh v W s + W.low x
  unfolding w2
  l2-set-weigh W = omega (arith, l2-set-tree W, trees_frame v ok s.heap y w2 there W s.snaps y_facts.3)

  -- x was free, or is the entry's own cluster
  at_x : (h : ℕ) → ((hit h x ≡ 0) ⊎ (s.count h ≡ 0)) ⊎ (hit h x ≡ hit h old)
  at_x h = elim new [ inl free ↦ inl (free_at v ok s sound x free h) | inr e ↦ inr (ap (hit h) e) ]

  pub l2-set_sound : Sound v (l2-set v s i j x n)
  unfolding w2
  l2-set_sound = record {
    counted = λ h. omega (arith, l2-set-weigh (to_any h), sound.counted h, balance h);
    once = λ h. omega (arith, l2-set-weigh (to_l1 h), sound.once h);
    apart = λ h.
        let f = at_x h in
        omega (arith, l2-set-weigh (to_l1 h), l2-set-weigh (to_l2 h), l2-set-weigh (to_data h), sound.apart h, sound.counted h, split v ok h s);
    kinds = λ h.
        let f = at_x h in
        omega (arith, l2-set-weigh (to_l2 h), l2-set-weigh (to_data h), sound.kinds h, sound.counted h, split v ok h s);
    single = record {
      now = λ h.
          let f = at_x h in
          omega (arith, l2-set-tree (to_any h), sound.single.now h, sound.counted h, hit_le h x);
      past = λ h. singles_frame v ok s.heap y w2 there h s.snaps y_facts.3 (sound.single.past h);
    };
    within = λ h some. elim (hit_cases h x) [ inl z ↦ sound.within h (omega (arith, balance h)) | inr e ↦ subst (λ k. k < v.limit) (sym e) fits ];
    shaped = put_shaped v.size s.heap y w2 sound.shaped (ok.size2 (s.heap y) j x (sound.shaped y) column);
    there = sound.there;
    tables = sound.tables;
  }

  x_off : x ≡ y → ⊥
  x_off e = elim new [
    | inl free ↦ omega (arith, once, free, ap s.count e)
    | inr same ↦ missed y old there (omega (arith, y_facts.2, low_at v ok (to_any y) (l2 v s.heap y) j)) (sym same ∙ e)
  ]

  l2-set_row : (l : ℕ) → read v (put s.heap y w2) s.live i l ≡ seen (put s.heap y w2) (get_or (set (l2 v s.heap y) j (at x)) l hole)
  l2-set_row l =
      spot_here v ok s.heap s.live i y w2 xs refl there inside y_facts.0 y_facts.1 l
      ∙ ap (λ k. seen (put s.heap y w2) (get_or (v.as2 k) l hole)) (cell2_self v ok s.heap y w2 there)
      ∙ ap (λ es. seen (put s.heap y w2) (get_or es l hole)) w2_row

  l2-set_now : read v (put s.heap y w2) s.live ≡ edit (read v s.heap s.live) i j (holds (s.heap x))
  l2-set_now =
      let m = s.heap in
      let L = s.live in
      let es = l2 v m y in
      let m2 = put m y w2 in
      edited (read v m2 L) (read v m L) i j (holds (m x))
      (l2-set_row j ∙ ap (seen m2) (get_or-set_same es j (at x) hole (omega (arith, ok.length2 (cell2 v m y)))) ∙ ap holds (put_other m y w2 x x_off))
      (λ l ne. l2-set_row l ∙ ap (seen m2) (get_or-set_other es j l (at x) hole ne)
      ∙ seen_frame v ok m y w2 there (get_or es l hole) (omega (arith, y_facts.2, low_at v ok (to_any y) es l)))
      (λ k l ne. spot_others v ok m L i y w2 xs refl there inside y_facts.0 y_facts.1 k l ne)

  pub l2-set-view : view v (l2-set v s i j x n) ≡ edit_image i j (holds (s.heap x)) (view v s)
  unfolding w2
  l2-set-view = λ k. record { now = l2-set_now k; past = reads_frame v ok s.heap y w2 there s.snaps y_facts.3 k }

  -- the flag law between the raise of x and the fall of the old cluster
  l2-set-flags : (l : ℕ → ℕ) → l x ≡ 1 → Flagged v (recount v ok s l) → Flagged v (rewrite v (recount v ok s l) y (v.put2 (s.heap y) j x))
  l2-set-flags l own f = flagged_l2_set v ok (recount v ok s l) y (v.put2 (s.heap y) j x) there f y_facts.0
      (put_marked2 v ok l (s.heap y) j x (sound.shaped y) column pos fits own (f.low i inside there))

  -- a cluster that the write drops to refcount 1 is no longer reached from the live table
  pub l2-set_flagged : (s.count x ≡ 0) ⊎ (s.count x ≡ 1) → Flagged v s → Flagged v (l2-set v s i j x n)
  unfolding w2
  l2-set_flagged own f = elim new [
    | inl free ↦
        let l : ℕ → ℕ = λ h. s.count h + hit h x in
        let a : Flagged v (recount v ok s l) = flagged_count v ok s l
        (λ h named.
        let k = free_at v ok s sound x free h in
        omega (arith, sound.counted h)) f in
        let b = l2-set-flags l (omega (arith, hit_self x pos)) a in
        let g = flagged_count v ok (rewrite v (recount v ok s l) y (v.put2 (s.heap y) j x)) n
        (λ h named.
        let k = free_at v ok s sound x free h in
        omega (arith, balance h, l2-set-tree (to_any h), sound.single.now h, sound.counted h, hit_le h old, hit_le h x, at_most v ok (to_any h) s.heap xs i, low_at v ok (to_any h) (l2 v s.heap y) j)) b in
        record { top = g.top; low = g.low }
    | inr same ↦
        let one : s.count x ≡ 1 = elim own [
          | inr e ↦ e
          | inl z ↦ absurd (omega (arith, z, ap s.count same, sound.counted old, at_most v ok (to_any old) s.heap xs i, low_at v ok (to_any old) (l2 v s.heap y) j, hit_self old (omega (arith, same, pos))))
        ] in
        let b = l2-set-flags s.count one (record { top = f.top; low = f.low }) in
        let g = flagged_count v ok (rewrite v (recount v ok s s.count) y (v.put2 (s.heap y) j x)) n (λ h named. omega (arith, balance h, ap (hit h) same)) b in
        record { top = g.top; low = g.low }
  ]
