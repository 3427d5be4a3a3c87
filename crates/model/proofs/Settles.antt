-- settle: the copied flags in and under the live L1 table are right after it, and nothing else changes.
use Rattle.std.proofs.Common.{◌≡◌, ℕ, zero, suc, ◌<◌, ◌≤◌, false, List, [], ◌∷◌, length, get_or, sym, refl, ap, ◌∙◌, subst, inl, inr, arith}
use Rattle.std.proofs.lemmas.List.{length-map, get_or-map}
use Rattle.std.proofs.lemmas.Bool.{cases_eq}
use Rattle.model.specs.Clusters.{Cluster, hole, host, Heap, put, Shape, Laws}
use Rattle.model.specs.References.{State, total, hit, to_any, to_l2, l1, under, weigh}
use Rattle.model.specs.Pictures.{view}
use Rattle.model.specs.Calls.{one, flagging1, flagging2, remark2, sweep, settle, rewrite}
use Rattle.model.specs.Invariant.{Marked1, Marked2, Flagged, Sound, Clean}
use Rattle.model.proofs.Sums.{hit_self, missed, put_self, put_other, total_mono}
use Rattle.model.proofs.Frame.{at_most}
use Rattle.model.proofs.Facts.{own_live, put_shaped}
use Rattle.model.proofs.Reflag.{reflag2_weigh, reflag2_sound, reflag2_view, reflag1_sound, reflag1_view}

module _ (v : Shape) (ok : Laws v) (n : ℕ → ℕ) where
  sized1 : (c : Cluster) → length (flagging1 v n c) ≡ v.wide
  sized1 c = length-map (v.as1 c) (one n) ∙ ok.length1 c

  sized2 : (c : Cluster) → length (flagging2 v n c) ≡ v.deep
  sized2 c = length-map (v.as2 c) (λ e. one n (host e)) ∙ ok.length2 c

  marked1 : (c : Cluster) → length c ≡ v.size → Marked1 v n (v.mark1 c (flagging1 v n c))
  marked1 c sized i lt =
      let fs = flagging1 v n c in
      subst (λ ys. 0 < get_or ys i 0 → get_or (v.flag1 (v.mark1 c fs)) i false ≡ one n (get_or ys i 0)) (sym (ok.mark1_as1 c fs sized (sized1 c)))
      (λ pos. ok.mark1_flag c fs i sized (sized1 c) lt pos ∙ get_or-map (one n) (v.as1 c) i 0 false (omega (arith, ok.length1 c)))

  marked2 : (c : Cluster) → length c ≡ v.size → Marked2 v n (v.mark2 c (flagging2 v n c))
  marked2 c sized j lt =
      let fs = flagging2 v n c in
      subst (λ es. 0 < host (get_or es j hole) → get_or (v.flag2 (v.mark2 c fs)) j false ≡ one n (host (get_or es j hole))) (sym (ok.mark2_as2 c fs sized (sized2 c)))
      (λ pos. ok.mark2_flag c fs j sized (sized2 c) lt pos ∙ get_or-map (λ e. one n (host e)) (v.as2 c) j hole false (omega (arith, ok.length2 c)))

  -- one L2 table
  remark_shaped : (m : Heap) → ((h : ℕ) → length (m h) ≡ v.size) → (x h : ℕ) → length (remark2 v n m x h) ≡ v.size
  remark_shaped m shaped zero h = shaped h
  remark_shaped m shaped (suc x) h = put_shaped v.size m (suc x) _ shaped (ok.mark2_size (m (suc x)) (flagging2 v n (m (suc x))) (shaped (suc x)) (sized2 (m (suc x)))) h

  remark_self : (m : Heap) → ((h : ℕ) → length (m h) ≡ v.size) → (x : ℕ) → 0 < x → Marked2 v n (remark2 v n m x x)
  remark_self m shaped zero pos = absurd (omega arith)
  remark_self m shaped (suc x) pos = subst (λ c. Marked2 v n c) (sym (put_self m (suc x) _)) (marked2 (m (suc x)) (shaped (suc x)))

  remark_keeps : (m : Heap) → ((h : ℕ) → length (m h) ≡ v.size) → (x y : ℕ) → Marked2 v n (m x) → Marked2 v n (remark2 v n m y x)
  remark_keeps m shaped x zero good = good
  remark_keeps m shaped x (suc y) good = elim (cases_eq x (suc y)) [
    | inl e ↦ subst (λ c. Marked2 v n c) (sym (ap (remark2 v n m (suc y)) e ∙ put_self m (suc y) _)) (marked2 (m (suc y)) (shaped (suc y)))
    | inr ne ↦ subst (λ c. Marked2 v n c) (sym (put_other m (suc y) _ x ne)) good
  ]

  remark_other : (m : Heap) (x h : ℕ) → 0 < h → hit h x ≡ 0 → remark2 v n m x h ≡ m h
  remark_other m zero h pos off = refl
  remark_other m (suc x) h pos off = put_other m (suc x) _ h (λ e. missed h (suc x) pos off (sym e))

  -- all L2 tables of a list
  sweep_keeps : (xs : List ℕ) (m : Heap) → ((h : ℕ) → length (m h) ≡ v.size) → (x : ℕ) → Marked2 v n (m x) → Marked2 v n (sweep v n xs m x)
  sweep_keeps [] m shaped x good = good
  sweep_keeps (y ∷ xs) m shaped x good = sweep_keeps xs (remark2 v n m y) (remark_shaped m shaped y) x (remark_keeps m shaped x y good)

  pub sweep_marked : (xs : List ℕ) (m : Heap) → ((h : ℕ) → length (m h) ≡ v.size) → (k : ℕ) → 0 < get_or xs k 0 → Marked2 v n (sweep v n xs m (get_or xs k 0))
  sweep_marked [] m shaped k pos = absurd (omega arith)
  sweep_marked (x ∷ xs) m shaped zero pos = sweep_keeps xs (remark2 v n m x) (remark_shaped m shaped x) x (remark_self m shaped x pos)
  sweep_marked (x ∷ xs) m shaped (suc k) pos = sweep_marked xs (remark2 v n m x) (remark_shaped m shaped x) k pos

  pub sweep_other : (xs : List ℕ) (m : Heap) (h : ℕ) → 0 < h → total (hit h) xs ≡ 0 → sweep v n xs m h ≡ m h
  sweep_other [] m h pos off = refl
  sweep_other (x ∷ xs) m h pos off = sweep_other xs (remark2 v n m x) h pos (omega arith) ∙ remark_other m x h pos (omega arith)

module _ (v : Shape) (ok : Laws v) where
  abbrev swept : State → List ℕ → State
  swept s xs = record { heap = sweep v s.count xs s.heap; count = s.count; fixed = s.fixed; live = s.live; snaps = s.snaps }

  swept_does : (xs : List ℕ) (s : State) → Sound v s → ((h : ℕ) → total (hit h) xs ≤ weigh v (to_l2 h) s) → Sound v (swept s xs) × (view v (swept s xs) ≡ view v s)
  swept_does [] s sound tables = (sound, refl)
  swept_does (zero ∷ xs) s sound tables = swept_does xs s sound (λ h. omega (arith, tables h))
  swept_does (suc x ∷ xs) s sound tables =
      let m = s.heap in
      let c = suc x in
      let fs = flagging2 v s.count (m c) in
      let w = v.mark2 (m c) fs in
      let len = sized2 v ok s.count (m c) in
      let same = ok.mark2_as2 (m c) fs (sound.shaped c) len in
      let table : 0 < weigh v (to_l2 c) s = omega (arith, tables c, hit_self c (omega arith)) in
      let one = reflag2_sound v ok s sound c w (omega arith) same table (ok.mark2_size (m c) fs (sound.shaped c) len) in
      let rest = swept_does xs (rewrite v s c w) one (λ h. omega (arith, tables h, reflag2_weigh v ok s sound c w (omega arith) same table (to_l2 h))) in
      (rest.0, rest.1 ∙ reflag2_view v ok s sound c w (omega arith) same table)

  module _ (s : State) (sound : Sound v s) where
    abbrev xs : List ℕ
    xs = l1 v s.heap s.live

    hits : (h : ℕ) → total (hit h) xs ≤ total (under v (to_any h) s.heap) xs
    hits h = total_mono (hit h) (under v (to_any h) s.heap) (λ x. omega arith) xs

    hits2 : (h : ℕ) → total (hit h) xs ≤ weigh v (to_l2 h) s
    hits2 h = omega (arith, total_mono (hit h) (under v (to_l2 h) s.heap) (λ x. omega arith) xs)

    swept_sound : Sound v (swept s xs)
    swept_sound = (swept_does xs s sound hits2).0

    -- the sweep leaves the live L1 table as it is
    pub swept_live : sweep v s.count xs s.heap s.live ≡ s.heap s.live
    swept_live = sweep_other v ok s.count xs s.heap s.live sound.there (omega (arith, hits s.live, own_live v ok s sound))

    abbrev m1 : Heap
    m1 = sweep v s.count xs s.heap

    abbrev w1 : Cluster
    w1 = v.mark1 (m1 s.live) (flagging1 v s.count (m1 s.live))

    shaped1 : length (m1 s.live) ≡ v.size
    shaped1 = swept_sound.shaped s.live

    same1 : v.as1 w1 ≡ v.as1 (m1 s.live)
    same1 = ok.mark1_as1 (m1 s.live) (flagging1 v s.count (m1 s.live)) shaped1 (sized1 v ok s.count (m1 s.live))

    pub settle_sound : Sound v (settle v s)
    settle_sound = reflag1_sound v ok (swept s xs) swept_sound w1 same1 (ok.mark1_size (m1 s.live) (flagging1 v s.count (m1 s.live)) shaped1 (sized1 v ok s.count (m1 s.live)))

    pub settle-view : view v (settle v s) ≡ view v s
    settle-view = reflag1_view v ok (swept s xs) swept_sound w1 same1 ∙ (swept_does xs s sound hits2).1

    -- the entries of the live L1 table stay
    pub settle_row : l1 v (settle v s).heap s.live ≡ xs
    settle_row = ap v.as1 (put_self m1 s.live w1) ∙ same1 ∙ ap v.as1 swept_live

    settle_flagged : Flagged v (settle v s)
    settle_flagged = record {
      top = subst (λ c. Marked1 v s.count c) (sym (put_self m1 s.live w1)) (marked1 v ok s.count (m1 s.live) shaped1);
      low = subst (λ ys. (i : ℕ) → i < v.wide → 0 < get_or ys i 0 → Marked2 v s.count (put m1 s.live w1 (get_or ys i 0))) (sym settle_row)
          (λ i lt pos. subst (λ c. Marked2 v s.count c)
          (sym (put_other m1 s.live w1 (get_or xs i 0) (missed s.live (get_or xs i 0) sound.there (omega (arith, own_live v ok s sound, at_most v ok (to_any s.live) s.heap xs i)))))
          (sweep_marked v ok s.count xs s.heap sound.shaped i pos));
    }

    pub settle_clean : Clean v (settle v s)
    settle_clean = record { sound = settle_sound; flagged = settle_flagged }
