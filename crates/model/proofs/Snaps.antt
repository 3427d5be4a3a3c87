-- take, drop and restore: each is sound before the copied flags are settled, and shows what it should.
use Rattle.std.proofs.Common.{◌≡◌, ℕ, ◌+◌, ◌<◌, ◌≤◌, ◌⊎◌, List, [], ◌∷◌, ◌++◌, map, length, get_or, sym, ap, ◌∙◌, subst, inl, inr, arith}
use mathlib.Core.Path.{fun_ext}
use Rattle.std.proofs.lemmas.List.{get_or-map}
use Rattle.model.specs.Clusters.{Cluster, put, Shape, Laws}
use Rattle.model.specs.References.{State, total, hit, Weight, to_any, to_l1, to_l2, to_data, l1, under, tree, snapped, weigh}
use Rattle.model.specs.Pictures.{no_snap, no_shot, read, kept, view}
use Rattle.model.specs.Calls.{Take, Drop, Restore, without, table_of, copied, removed, replaced, take, drop, restore}
use Rattle.model.specs.Invariant.{Single, Sound, Clean}
use Rattle.model.specs.Law.{imagine, Free}
use Rattle.model.proofs.Sums.{total-append, hit_le, hit_cases}
use Rattle.model.proofs.Lists.{total-without, map-without, map_push, every_push, every_without, every_at}
use Rattle.model.proofs.Frame.{look, tree_frame, trees_frame, read_frame, reads_frame, singles_frame}
use Rattle.model.proofs.Moves.{table-tree, table-read}
use Rattle.model.proofs.Facts.{split, no_tops, free_live, free_past, own_past, free_at, put_shaped}
use Rattle.model.proofs.Settles.{settle-view, settle_clean}

module _ (v : Shape) (ok : Laws v) (s : State) (sound : Sound v s) where
  module _ (n : List ℕ) (p : ℕ) (free : Free v s p) where
    abbrev w : Cluster
    w = v.bare (s.heap s.live)

    copy_row : v.as1 w ≡ l1 v s.heap s.live
    copy_row = ok.bare_as1 (s.heap s.live) (sound.shaped s.live)

    copy_clear : total (under v (to_any p) s.heap) (v.as1 w) ≡ 0
    copy_clear = omega (arith, ap (total (under v (to_any p) s.heap)) copy_row, free_live v ok s sound p free.none)

    copy_tree : (W : Weight) → tree v W (put s.heap p w) p ≡ W.top p + total (under v W s.heap) (l1 v s.heap s.live)
    copy_tree W = table-tree v ok s.heap p w free.pos copy_clear W ∙ ap (λ ys. W.top p + total (under v W s.heap) ys) copy_row

    copy_weigh : (W : Weight) → weigh v W (copied v s n p) ≡ weigh v W s + (W.top p + total (under v W s.heap) (l1 v s.heap s.live))
    copy_weigh W =
        let m = s.heap in
        let a = copy_tree W in
        let b = tree_frame v ok m p w free.pos W s.live (free_live v ok s sound p free.none) in
        let c = trees_frame v ok m p w free.pos W s.snaps (free_past v ok s sound p free.none) in
        let d = total-append (snapped v W (put m p w)) s.snaps (record { id = n; table = p } ∷ []) in
        omega arith

    copy_single : Single v (copied v s n p)
    copy_single = record {
      now = λ h. omega (arith, tree_frame v ok s.heap p w free.pos (to_any h) s.live (free_live v ok s sound p free.none), sound.single.now h);
      past = λ h.
          let f = free_at v ok s sound p free.none h in
          every_push (λ z. tree v (to_any h) (put s.heap p w) z.table ≤ 1) s.snaps (record { id = n; table = p })
          (singles_frame v ok s.heap p w free.pos h s.snaps (free_past v ok s sound p free.none) (sound.single.past h))
          (omega (arith, copy_tree (to_any h), sound.single.now h, sound.counted h, hit_le h p));
    }

    -- a cluster that is counted after is the new one, or was counted before
    copy_within : (h : ℕ) → 0 < (copied v s n p).count h → h < v.limit
    copy_within h some = elim (hit_cases h p) [
      | inl z ↦ sound.within h (omega (arith, sound.counted h))
      | inr e ↦ subst (λ k. k < v.limit) (sym e) free.fits
    ]

    pub copy_sound : Sound v (copied v s n p)
    copy_sound =
        let m = s.heap in
        let xs = l1 v m s.live in
        record {
          counted = λ h. omega (arith, copy_weigh (to_any h), sound.counted h);
          once = λ h.
              let f = free_at v ok s sound p free.none h in
              omega (arith, copy_weigh (to_l1 h), sound.once h, no_tops v ok h m xs, sound.counted h, split v ok h s, hit_le h p);
          apart = λ h.
              let f = free_at v ok s sound p free.none h in
              omega (arith, copy_weigh (to_l1 h), copy_weigh (to_l2 h), copy_weigh (to_data h), no_tops v ok h m xs, sound.apart h, sound.counted h, split v ok h s);
          kinds = λ h. omega (arith, copy_weigh (to_l2 h), copy_weigh (to_data h), sound.kinds h);
          single = copy_single;
          within = copy_within;
          shaped = put_shaped v.size m p w sound.shaped (ok.bare_size (m s.live) (sound.shaped s.live));
          there = sound.there;
          tables = every_push (λ z. 0 < z.table) s.snaps (record { id = n; table = p }) sound.tables free.pos;
        }

    copy_view : view v (copied v s n p) ≡ imagine (view v s) (Take n p)
    copy_view =
        let m = s.heap in
        let L = s.live in
        let m2 = put m p w in
        let now : read v m2 L ≡ read v m L = read_frame v ok m p w free.pos L (free_live v ok s sound p free.none) in
        let new : read v m2 p ≡ read v m L = fun_ext λ i. fun_ext λ j. table-read v ok m p w free.pos copy_clear i j ∙ ap (λ ys. look v ok m (get_or ys i 0) j) copy_row in
        let shot : kept v m2 (record { id = n; table = p }) ≡ record { id = n; shot = read v m L } = λ k. record { id = n; shot = new k } in
        let old : map (kept v m2) s.snaps ≡ map (kept v m) s.snaps = reads_frame v ok m p w free.pos s.snaps (free_past v ok s sound p free.none) in
        let past : map (kept v m2) (s.snaps ++ (record { id = n; table = p } ∷ [])) ≡ map (kept v m) s.snaps ++ (record { id = n; shot = read v m L } ∷ []) =
        map_push (kept v m2) s.snaps (record { id = n; table = p }) ∙ cc (shot, old) in
        λ k. record { now = now k; past = past k }

    pub take_stands : Clean v (take v s n p) × (view v (take v s n p) ≡ imagine (view v s) (Take n p))
    take_stands = (settle_clean v ok (copied v s n p) copy_sound, settle-view v ok (copied v s n p) copy_sound ∙ copy_view)

  module _ (k : ℕ) (inside : k < length s.snaps) where
    abbrev t : ℕ
    t = table_of v s k

    part : (W : Weight) → total (snapped v W s.heap) (without k s.snaps) + tree v W s.heap t ≡ total (snapped v W s.heap) s.snaps
    part W = total-without (snapped v W s.heap) s.snaps k no_snap inside

    pub remove_sound : Sound v (removed v s k)
    remove_sound = record {
      counted = λ h. omega (arith, sound.counted h, part (to_any h));
      once = λ h. omega (arith, sound.once h, part (to_l1 h));
      apart = λ h. omega (arith, sound.apart h, part (to_l1 h), part (to_l2 h), part (to_data h));
      kinds = λ h. omega (arith, sound.kinds h, part (to_l2 h), part (to_data h));
      single = record { now = sound.single.now; past = λ h. every_without (λ z. tree v (to_any h) s.heap z.table ≤ 1) s.snaps k (sound.single.past h) };
      within = λ h some. sound.within h (omega arith);
      shaped = sound.shaped;
      there = sound.there;
      tables = every_without (λ z. 0 < z.table) s.snaps k sound.tables;
    }

    remove_view : view v (removed v s k) ≡ imagine (view v s) (Drop k)
    remove_view = let e = map-without (kept v s.heap) s.snaps k in λ n. record { now = read v s.heap s.live; past = e n }

    pub drop_stands : Clean v (drop v s k) × (view v (drop v s k) ≡ imagine (view v s) (Drop k))
    drop_stands = (settle_clean v ok (removed v s k) remove_sound, settle-view v ok (removed v s k) remove_sound ∙ remove_view)

    abbrev u : Cluster
    u = v.onto (s.heap s.live) (s.heap t)

    back_row : v.as1 u ≡ l1 v s.heap t
    back_row = ok.onto_as1 (s.heap s.live) (s.heap t) (sound.shaped s.live) (sound.shaped t)

    back_clear : total (under v (to_any s.live) s.heap) (v.as1 u) ≡ 0
    back_clear = omega (arith, ap (total (under v (to_any s.live) s.heap)) back_row, own_past v ok s sound, part (to_any s.live))

    back_tree : (W : Weight) → tree v W (put s.heap s.live u) s.live ≡ W.top s.live + total (under v W s.heap) (l1 v s.heap t)
    back_tree W = table-tree v ok s.heap s.live u sound.there back_clear W ∙ ap (λ ys. W.top s.live + total (under v W s.heap) ys) back_row

    back_weigh : (W : Weight) → weigh v W (replaced v s k) + total (under v W s.heap) (l1 v s.heap s.live) ≡ weigh v W s + total (under v W s.heap) (l1 v s.heap t)
    back_weigh W = omega (arith, back_tree W, trees_frame v ok s.heap s.live u sound.there W s.snaps (own_past v ok s sound))

    -- the live table is not in the tree that it gets
    back_off : (h : ℕ) → (hit h s.live ≡ 0) ⊎ (total (under v (to_any h) s.heap) (l1 v s.heap t) ≡ 0)
    back_off h = elim (hit_cases h s.live) [
      | inl z ↦ inl z
      | inr z ↦ inr (subst (λ x. total (under v (to_any x) s.heap) (l1 v s.heap t) ≡ 0) (sym z) (sym (ap (total (under v (to_any s.live) s.heap)) back_row) ∙ back_clear))
    ]

    back_single : Single v (replaced v s k)
    back_single = record {
      now = λ h.
          let b = every_at (λ z. tree v (to_any h) s.heap z.table ≤ 1) s.snaps k no_snap inside (sound.single.past h) in
          let e = back_off h in
          omega (arith, back_tree (to_any h), hit_le h s.live);
      past = λ h. singles_frame v ok s.heap s.live u sound.there h s.snaps (own_past v ok s sound) (sound.single.past h);
    }

    pub replace_sound : Sound v (replaced v s k)
    replace_sound =
        let m = s.heap in
        let xs = l1 v m s.live in
        let ys = l1 v m t in
        record {
          counted = λ h. omega (arith, back_weigh (to_any h), sound.counted h);
          once = λ h. omega (arith, back_weigh (to_l1 h), sound.once h, no_tops v ok h m xs, no_tops v ok h m ys);
          apart = λ h. omega (arith, back_weigh (to_l1 h), back_weigh (to_l2 h), back_weigh (to_data h), no_tops v ok h m xs, no_tops v ok h m ys, part (to_l2 h), part (to_data h), sound.apart h);
          kinds = λ h. omega (arith, back_weigh (to_l2 h), back_weigh (to_data h), part (to_l2 h), part (to_data h), sound.kinds h);
          single = back_single;
          within = λ h some. sound.within h (omega (arith, sound.counted h, part (to_any h)));
          shaped = put_shaped v.size m s.live u sound.shaped (ok.onto_size (m s.live) (m t) (sound.shaped s.live) (sound.shaped t));
          there = sound.there;
          tables = sound.tables;
        }

    replace_view : view v (replaced v s k) ≡ imagine (view v s) (Restore k)
    replace_view =
        let m = s.heap in
        let L = s.live in
        let now : read v (put m L u) L ≡ (get_or (map (kept v m) s.snaps) k no_shot).shot =
        (fun_ext λ i. fun_ext λ j. table-read v ok m L u sound.there back_clear i j ∙ ap (λ ys. look v ok m (get_or ys i 0) j) back_row)
        ∙ ap (λ z. z.shot) (sym (get_or-map (kept v m) s.snaps k no_snap no_shot inside)) in
        let past = reads_frame v ok m L u sound.there s.snaps (own_past v ok s sound) in
        λ n. record { now = now n; past = past n }

    pub restore_stands : Clean v (restore v s k) × (view v (restore v s k) ≡ imagine (view v s) (Restore k))
    restore_stands = (settle_clean v ok (replaced v s k) replace_sound, settle-view v ok (replaced v s k) replace_sound ∙ replace_view)
