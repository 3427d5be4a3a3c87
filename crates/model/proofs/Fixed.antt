-- Clusters that no table refers to: new bytes in a free one; claim, release and rewrite of a fixed one.
use Rattle.std.proofs.Common.{◌≡◌, ℕ, ◌+◌, ◌-◌, ◌<◌, ◌⊎◌, length, sym, subst, inl, inr, arith}
use Rattle.model.specs.Clusters.{Cluster, Shape, Laws}
use Rattle.model.specs.References.{State, total, hit, Weight, to_any, to_l1, to_l2, to_data, tree, snapped, weigh}
use Rattle.model.specs.Pictures.{view}
use Rattle.model.specs.Calls.{claim, release, rewrite}
use Rattle.model.specs.Invariant.{Single, Flagged, Sound}
use Rattle.model.specs.Law.{Free}
use Rattle.model.proofs.Sums.{hit_le, hit_cases}
use Rattle.model.proofs.Frame.{tree_frame, trees_frame, read_frame, reads_frame, singles_frame}
use Rattle.model.proofs.Facts.{tree_split, split, free_all, free_at, put_shaped, same_sound}
use Rattle.model.proofs.Flags.{flagged_count, flagged_put}

module _ (v : Shape) (ok : Laws v) (s : State) (sound : Sound v s) where
  -- no table refers to c
  module _ (c : ℕ) (w : Cluster) (pos : 0 < c) (none : weigh v (to_any c) s ≡ 0) where
    alone_live : tree v (to_any c) s.heap s.live ≡ 0
    alone_live = omega (arith, none)

    alone_past : total (snapped v (to_any c) s.heap) s.snaps ≡ 0
    alone_past = omega (arith, none)

    pub alone_weigh : (W : Weight) → weigh v W (rewrite v s c w) ≡ weigh v W s
    alone_weigh W = omega (arith, tree_frame v ok s.heap c w pos W s.live alone_live, trees_frame v ok s.heap c w pos W s.snaps alone_past)

    pub alone_view : view v (rewrite v s c w) ≡ view v s
    alone_view =
        let now = read_frame v ok s.heap c w pos s.live alone_live in
        let past = reads_frame v ok s.heap c w pos s.snaps alone_past in
        λ k. record { now = now k; past = past k }

    pub alone_single : Single v (rewrite v s c w)
    alone_single = record {
      now = λ h. omega (arith, tree_frame v ok s.heap c w pos (to_any h) s.live alone_live, sound.single.now h);
      past = λ h. singles_frame v ok s.heap c w pos h s.snaps alone_past (sound.single.past h);
    }

    pub alone_sound : length w ≡ v.size → Sound v (rewrite v s c w)
    alone_sound sized = same_sound v ok s c w sound alone_weigh alone_single sized

    pub alone_flagged : Flagged v s → Flagged v (rewrite v s c w)
    alone_flagged f = flagged_put v ok s c w pos f (omega (arith, none)) (omega (arith, none, tree_split v ok c s.heap s.live))

  fixed_none : (c : ℕ) → 0 < s.fixed c → weigh v (to_any c) s ≡ 0
  fixed_none c h = omega (arith, split v ok c s, sound.once c, sound.apart c)

  module _ (c : ℕ) (w : Cluster) (free : Free v s c) (sized : length w ≡ v.size) where
    none : weigh v (to_any c) s ≡ 0
    none = free_all v ok s sound c free.none

    pub claim-view : view v (claim v s c w) ≡ view v s
    claim-view = alone_view c w free.pos none

    pub claim_sound : Sound v (claim v s c w)
    claim_sound =
        let same = alone_weigh c w free.pos none in
        let one = alone_single c w free.pos none in
        record {
          counted = λ h. omega (arith, same (to_any h), sound.counted h);
          once = λ h.
              let f = free_at v ok s sound c free.none h in
              omega (arith, same (to_l1 h), sound.once h, sound.counted h, split v ok h s, hit_le h c);
          apart = λ h.
              let f = free_at v ok s sound c free.none h in
              omega (arith, same (to_l1 h), same (to_l2 h), same (to_data h), sound.apart h, sound.counted h, split v ok h s);
          kinds = λ h. omega (arith, same (to_l2 h), same (to_data h), sound.kinds h);
          single = record { now = one.now; past = one.past };
          within = λ h pos. elim (hit_cases h c) [ inl z ↦ sound.within h (omega arith) | inr e ↦ subst (λ n. n < v.limit) (sym e) free.fits ];
          shaped = put_shaped v.size s.heap c w sound.shaped sized;
          there = sound.there;
          tables = sound.tables;
        }

    pub claim_flagged : Flagged v s → Flagged v (claim v s c w)
    claim_flagged f =
        let g = flagged_count v ok (rewrite v s c w) (λ h. s.count h + hit h c)
        (λ h named.
        let k = free_at v ok s sound c free.none h in
        omega (arith, named, sound.counted h, alone_weigh c w free.pos none (to_any h)))
        (alone_flagged c w free.pos none f) in
        record { top = g.top; low = g.low }

  -- a cluster is not c, or stands alone
  fixed_at : (c : ℕ) → 0 < s.fixed c → (h : ℕ) → (hit h c ≡ 0) ⊎ (0 < s.fixed h)
  fixed_at c f h = elim (hit_cases h c) [ inl z ↦ inl z | inr e ↦ inr (subst (λ n. 0 < s.fixed n) (sym e) f) ]

  module _ (c : ℕ) (w : Cluster) (pos : 0 < c) (fixed : 0 < s.fixed c) (sized : length w ≡ v.size) where
    pub rewrite-view : view v (rewrite v s c w) ≡ view v s
    rewrite-view = alone_view c w pos (fixed_none c fixed)

    pub rewrite_sound : Sound v (rewrite v s c w)
    rewrite_sound = alone_sound c w pos (fixed_none c fixed) sized

    pub rewrite_flagged : Flagged v s → Flagged v (rewrite v s c w)
    rewrite_flagged = alone_flagged c w pos (fixed_none c fixed)

    pub release-view : view v (release v s c w) ≡ view v s
    release-view = rewrite-view

    pub release_sound : Sound v (release v s c w)
    release_sound =
        let same = alone_weigh c w pos (fixed_none c fixed) in
        let one = alone_single c w pos (fixed_none c fixed) in
        record {
          counted = λ h.
              let f = fixed_at c fixed h in
              omega (arith, same (to_any h), sound.counted h, hit_le h c);
          once = λ h. omega (arith, same (to_l1 h), sound.once h);
          apart = λ h. omega (arith, same (to_l1 h), same (to_l2 h), same (to_data h), sound.apart h);
          kinds = λ h. omega (arith, same (to_l2 h), same (to_data h), sound.kinds h);
          single = record { now = one.now; past = one.past };
          within = λ h some. sound.within h (omega arith);
          shaped = put_shaped v.size s.heap c w sound.shaped sized;
          there = sound.there;
          tables = sound.tables;
        }

    pub release_flagged : Flagged v s → Flagged v (release v s c w)
    release_flagged f =
        let g = flagged_count v ok (rewrite v s c w) (λ h. s.count h - hit h c)
        (λ h named.
        let k = fixed_at c fixed h in
        omega (arith, named, alone_weigh c w pos (fixed_none c fixed) (to_any h), split v ok h s, sound.once h, sound.apart h))
        (rewrite_flagged f) in
        record { top = g.top; low = g.low }
