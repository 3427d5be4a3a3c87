-- The copied flags stay right over a write elsewhere, over refcounts that change elsewhere, and over one entry set.
use Rattle.std.proofs.Common.{◌≡◌, ℕ, ◌<◌, Bool, true, false, eqb, List, length, get_or, set, sym, ap, ◌∙◌, subst, inl, inr, arith}
use Rattle.std.proofs.lemmas.List.{get_or-set_other, get_or-set_same}
use Rattle.std.proofs.lemmas.Bool.{eq-eqb, cases_eq}
use Rattle.model.specs.Clusters.{Cluster, hole, at, host, put, Shape, Laws}
use Rattle.model.specs.References.{State, total, hit, lows, to_any, to_l2, to_data, cell2, l1, under, tree}
use Rattle.model.specs.Calls.{one, rewrite}
use Rattle.model.specs.Invariant.{Marked1, Marked2, Flagged}
use Rattle.model.proofs.Sums.{total-replicate, hit_self, missed, put_self, put_other}
use Rattle.model.proofs.Frame.{at_most, low_at}
use Rattle.model.proofs.Facts.{cell2_pos}

-- an entry set to a cluster with refcount 1, with its flag
set_marked : {X : Type 0} (t : X → ℕ) (n : ℕ → ℕ) (xs : List X) (fs : List Bool) (i : ℕ) (z d : X) → i < length xs → i < length fs → n (t z) ≡ 1 → (k : ℕ) →
    (0 < t (get_or xs k d) → get_or fs k false ≡ one n (t (get_or xs k d))) → 0 < t (get_or (set xs i z) k d) → get_or (set fs i true) k false ≡ one n (t (get_or (set xs i z) k d))
set_marked t n xs fs i z d lx lf own k old = elim (cases_eq k i) [
  | inl e ↦ subst (λ l. 0 < t (get_or (set xs i z) l d) → get_or (set fs i true) l false ≡ one n (t (get_or (set xs i z) l d))) (sym e)
      (λ pos. get_or-set_same fs i true false lf ∙ sym (eq-eqb (n (t z)) 1 own) ∙ ap (λ y. one n (t y)) (sym (get_or-set_same xs i z d lx)))
  | inr ne ↦ subst (λ y. 0 < t y → get_or (set fs i true) k false ≡ one n (t y)) (sym (get_or-set_other xs i k z d ne))
      (λ pos. get_or-set_other fs i k true false ne ∙ old pos)
]

module _ (v : Shape) (ok : Laws v) where
  pub put_marked1 : (n : ℕ → ℕ) (c : Cluster) (i x : ℕ) → length c ≡ v.size → i < v.wide → x < v.limit → n x ≡ 1 → Marked1 v n c → Marked1 v n (v.put1 c i x)
  put_marked1 n c i x sized inside fits own old k lt =
      subst (λ ys. 0 < get_or ys k 0 → get_or (v.flag1 (v.put1 c i x)) k false ≡ one n (get_or ys k 0)) (sym (ok.set1 c i x sized inside fits))
      (subst (λ gs. 0 < get_or (set (v.as1 c) i x) k 0 → get_or gs k false ≡ one n (get_or (set (v.as1 c) i x) k 0)) (sym (ok.raise1 c i x sized inside fits))
      (set_marked (λ y. y) n (v.as1 c) (v.flag1 c) i x 0 (omega (arith, ok.length1 c)) (omega (arith, ok.flags1 c)) own k (old k lt)))

  pub put_marked2 : (n : ℕ → ℕ) (c : Cluster) (j x : ℕ) → length c ≡ v.size → j < v.deep → 0 < x → x < v.limit → n x ≡ 1 → Marked2 v n c → Marked2 v n (v.put2 c j x)
  put_marked2 n c j x sized inside pos fits own old k lt =
      subst (λ es. 0 < host (get_or es k hole) → get_or (v.flag2 (v.put2 c j x)) k false ≡ one n (host (get_or es k hole))) (sym (ok.set2 c j x sized inside pos fits))
      (subst (λ gs. 0 < host (get_or (set (v.as2 c) j (at x)) k hole) → get_or gs k false ≡ one n (host (get_or (set (v.as2 c) j (at x)) k hole))) (sym (ok.raise2 c j x sized inside pos fits))
      (set_marked host n (v.as2 c) (v.flag2 c) j (at x) hole (omega (arith, ok.length2 c)) (omega (arith, ok.flags2 c)) own k (old k lt)))

  -- a table of holes asks for nothing
  pub fresh_marked : (n : ℕ → ℕ) → Marked2 v n v.fresh
  fresh_marked n j lt pos = absurd (omega (arith, pos, low_at v ok (to_data (host (get_or (v.as2 v.fresh) j hole))) (v.as2 v.fresh) j, hit_self (host (get_or (v.as2 v.fresh) j hole)) pos, none (host (get_or (v.as2 v.fresh) j hole))))
    where
      none : (d : ℕ) → total (lows (to_data d)) (v.as2 v.fresh) ≡ 0
      none d = ap (total (lows (to_data d))) ok.fresh2 ∙ total-replicate (lows (to_data d)) v.deep hole (to_data d).no_low

  -- refcounts that agree where an L2 table refers
  pub recount_marked2 : (n l : ℕ → ℕ) (c : Cluster) → ((h : ℕ) → 0 < total (lows (to_data h)) (v.as2 c) → l h ≡ n h) → Marked2 v n c → Marked2 v l c
  recount_marked2 n l c same old j lt pos =
      let d = host (get_or (v.as2 c) j hole) in
      old j lt pos ∙ ap (λ k. eqb k 1) (sym (same d (omega (arith, low_at v ok (to_data d) (v.as2 c) j, hit_self d pos))))

  abbrev pub recount : State → (ℕ → ℕ) → State
  recount s n = record { heap = s.heap; count = n; fixed = s.fixed; live = s.live; snaps = s.snaps }

  -- refcounts that agree on all that the live table reaches
  pub flagged_count : (s : State) (n : ℕ → ℕ) → ((h : ℕ) → 0 < tree v (to_any h) s.heap s.live → n h ≡ s.count h) → Flagged v s → Flagged v (recount s n)
  flagged_count s n same f =
      let m = s.heap in
      let xs = l1 v m s.live in
      record {
        top = λ i lt pos.
            let x = get_or xs i 0 in
            f.top i lt pos ∙ ap (λ k. eqb k 1) (sym (same x (omega (arith, at_most v ok (to_any x) m xs i, hit_self x pos))));
        low = λ i lt pos.
            let y = get_or xs i 0 in
            recount_marked2 s.count n (m y)
            (λ h named.
            let e : total (lows (to_data h)) (v.as2 (cell2 v m y)) ≡ total (lows (to_data h)) (v.as2 (m y)) = ap (λ c. total (lows (to_data h)) (v.as2 c)) (cell2_pos v ok m y pos) in
            same h (omega (arith, at_most v ok (to_any h) m xs i)))
            (f.low i lt pos);
      }

  module _ (s : State) (c : ℕ) (w : Cluster) (pos : 0 < c) (f : Flagged v s) where
    -- bytes for a cluster that is neither the live L1 table nor an L2 table under it
    pub flagged_put : hit c s.live ≡ 0 → tree v (to_l2 c) s.heap s.live ≡ 0 → Flagged v (rewrite v s c w)
    flagged_put off none =
        let m = s.heap in
        let L = s.live in
        let xs = l1 v m L in
        let keep : put m c w L ≡ m L = put_other m c w L (missed c L pos off) in
        record {
          top = subst (λ k. Marked1 v s.count k) (sym keep) f.top;
          low = subst (λ k. (i : ℕ) → i < v.wide → 0 < get_or (v.as1 k) i 0 → Marked2 v s.count (put m c w (get_or (v.as1 k) i 0))) (sym keep)
              (λ i lt there. subst (λ k. Marked2 v s.count k) (sym (put_other m c w (get_or xs i 0) (missed c (get_or xs i 0) pos (omega (arith, at_most v ok (to_l2 c) m xs i))))) (f.low i lt there));
        }

    -- bytes for an L2 table under the live one
    pub flagged_l2_set : hit c s.live ≡ 0 → Marked2 v s.count w → Flagged v (rewrite v s c w)
    flagged_l2_set off good =
        let m = s.heap in
        let L = s.live in
        let xs = l1 v m L in
        let keep : put m c w L ≡ m L = put_other m c w L (missed c L pos off) in
        record {
          top = subst (λ k. Marked1 v s.count k) (sym keep) f.top;
          low = subst (λ k. (i : ℕ) → i < v.wide → 0 < get_or (v.as1 k) i 0 → Marked2 v s.count (put m c w (get_or (v.as1 k) i 0))) (sym keep)
              (λ i lt there. elim (cases_eq (get_or xs i 0) c) [
                | inl e ↦ subst (λ k. Marked2 v s.count k) (sym (ap (put m c w) e ∙ put_self m c w)) good
                | inr ne ↦ subst (λ k. Marked2 v s.count k) (sym (put_other m c w (get_or xs i 0) ne)) (f.low i lt there)
              ]);
        }

  -- an entry of the live L1 table set to an L2 table with refcount 1
  pub flagged_l1_set : (s : State) (i p : ℕ) → ((h : ℕ) → length (s.heap h) ≡ v.size) → 0 < s.live → total (under v (to_any s.live) s.heap) (l1 v s.heap s.live) ≡ 0 → i < v.wide → p < v.limit → (p ≡ s.live → ⊥) → s.count p ≡ 1 → Marked2 v s.count (s.heap p) → Flagged v s → Flagged v (rewrite v s s.live (v.put1 (s.heap s.live) i p))
  flagged_l1_set s i p shaped there clear inside fits off own good f =
      let m = s.heap in
      let L = s.live in
      let n = s.count in
      let xs = l1 v m L in
      let w = v.put1 (m L) i p in
      let row : v.as1 w ≡ set xs i p = ok.set1 (m L) i p (shaped L) inside fits in
      record {
        top = subst (λ k. Marked1 v n k) (sym (put_self m L w)) (put_marked1 n (m L) i p (shaped L) inside fits own f.top);
        low = subst (λ c. (k : ℕ) → k < v.wide → 0 < get_or (v.as1 c) k 0 → Marked2 v n (put m L w (get_or (v.as1 c) k 0))) (sym (put_self m L w))
            (subst (λ ys. (k : ℕ) → k < v.wide → 0 < get_or ys k 0 → Marked2 v n (put m L w (get_or ys k 0))) (sym row)
            (λ k lt. elim (cases_eq k i) [
              | inl e ↦ λ some. subst (λ c. Marked2 v n c) (sym (ap (put m L w) (ap (λ l. get_or (set xs i p) l 0) e ∙ get_or-set_same xs i p 0 (omega (arith, ok.length1 (m L)))) ∙ put_other m L w p off)) good
              | inr ne ↦ subst (λ x. 0 < x → Marked2 v n (put m L w x)) (sym (get_or-set_other xs i k p 0 ne))
                  (λ some. subst (λ c. Marked2 v n c) (sym (put_other m L w (get_or xs k 0) (missed L (get_or xs k 0) there (omega (arith, clear, at_most v ok (to_any L) m xs k))))) (f.low k lt some))
            ]));
      }
