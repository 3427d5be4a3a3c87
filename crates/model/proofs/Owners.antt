-- Which clusters are the live image's own: data with one reference stands under an L2 table with one reference.
use Rattle.std.proofs.Common.{◌≡◌, ℕ, zero, suc, ◌<◌, ◌≤◌, Bool, true, false, ◌⊎◌, get_or, sym, refl, ◌∙◌, subst, inl, inr, arith}
use Rattle.std.proofs.lemmas.Bool.{eq-eqb, ne_eqb, eqb-true, cases_eq, false≢true}
use Rattle.model.specs.Clusters.{hole, host, Shape, Laws}
use Rattle.model.specs.References.{State, total, lows, to_l2, to_data, l1, l2, under, tree, snapped, weigh}
use Rattle.model.specs.Calls.{one, mine, table_at, entry_at}
use Rattle.model.specs.Invariant.{Sound, Clean}
use Rattle.model.proofs.Sums.{hit_self, hit_le, hit_cases, total-nought, total_mono}
use Rattle.model.proofs.Frame.{under_zero, at_most, low_at}
use Rattle.model.proofs.Facts.{split}

pub mine_once : (s : State) (x : ℕ) → mine s x ≡ true → (0 < x) × (s.count x ≡ 1)
mine_once s zero e = absurd (false≢true e)
mine_once s (suc x) e = (omega arith, eqb-true (s.count (suc x)) 1 e)

pub mine_own : (s : State) (x : ℕ) → 0 < x → s.count x ≡ 1 → mine s x ≡ true
mine_own s zero pos e = absurd (omega arith)
mine_own s (suc x) pos e = eq-eqb (s.count (suc x)) 1 e

pub mine_shared : (s : State) (x : ℕ) → (s.count x ≡ 1 → ⊥) → mine s x ≡ false
mine_shared s zero ne = refl
mine_shared s (suc x) ne = ne_eqb (s.count (suc x)) 1 ne

test : (b : Bool) → (b ≡ true) ⊎ (b ≡ false)
test true = inl refl
test false = inr refl

positive : (x : ℕ) → (x ≡ 0 → ⊥) → 0 < x
positive zero ne = absurd (ne refl)
positive (suc x) ne = omega arith

module _ (v : Shape) (ok : Laws v) (s : State) (sound : Sound v s) where
  -- what refers to the L2 table t refers to the data d under it
  module _ (t d : ℕ) (named : 0 < total (lows (to_data d)) (l2 v s.heap t)) where
    under_le : (x : ℕ) → under v (to_l2 t) s.heap x ≤ under v (to_data d) s.heap x
    under_le x =
        let z = total-nought (lows (to_l2 t)) (λ e. refl) (l2 v s.heap x) in
        elim (hit_cases t x) [
          | inl none ↦ omega arith
          | inr e ↦ omega (arith, hit_le t x, subst (λ k. 0 < total (lows (to_data d)) (l2 v s.heap k)) e named)
        ]

    tree_le : (r : ℕ) → tree v (to_l2 t) s.heap r ≤ tree v (to_data d) s.heap r
    tree_le r = omega (arith, total_mono (under v (to_l2 t) s.heap) (under v (to_data d) s.heap) under_le (l1 v s.heap r))

    pub shared_down : weigh v (to_l2 t) s ≤ weigh v (to_data d) s
    shared_down = omega (arith, tree_le s.live, total_mono (snapped v (to_l2 t) s.heap) (snapped v (to_data d) s.heap) (λ n. tree_le n.table) s.snaps)

  -- so a write that moves the table moves the data too
  pub own_above : (i j : ℕ) → mine s (host (entry_at v s i j)) ≡ true → mine s (table_at v s i) ≡ true
  own_above i j own =
      let m = s.heap in
      let t = table_at v s i in
      let d = host (entry_at v s i j) in
      let o = mine_once s d own in
      let named : 0 < total (lows (to_data d)) (l2 v m t) = omega (arith, low_at v ok (to_data d) (l2 v m t) j, hit_self d o.0) in
      let pos : 0 < t = elim (cases_eq t 0) [
        | inl e ↦ absurd (omega (arith, under_zero v ok (to_data d) m, subst (λ k. 0 < total (lows (to_data d)) (l2 v m k)) e named))
        | inr ne ↦ positive t ne
      ] in
      mine_own s t pos (omega (arith, shared_down t d named, sound.counted d, split v ok d s, o.1, at_most v ok (to_l2 t) m (l1 v m s.live) i, hit_self t pos, sound.counted t, split v ok t s, sound.apart t, sound.kinds t))

  pub moves_both : (i j : ℕ) → mine s (table_at v s i) ≡ false → mine s (host (entry_at v s i j)) ≡ false
  moves_both i j e = elim (test (mine s (host (entry_at v s i j)))) [
    | inl own ↦ absurd (false≢true (sym e ∙ own_above i j own))
    | inr shared ↦ shared
  ]

-- the copied flag tells it as well as the refcount
mine-one : (s : State) (x : ℕ) → 0 < x → one s.count x ≡ mine s x
mine-one s zero pos = absurd (omega arith)
mine-one s (suc x) pos = refl

module _ (v : Shape) (s : State) (clean : Clean v s) where
  pub flag_table : (i : ℕ) → i < v.wide → 0 < table_at v s i → get_or (v.flag1 (s.heap s.live)) i false ≡ mine s (table_at v s i)
  flag_table i lt pos = clean.flagged.top i lt pos ∙ mine-one s (table_at v s i) pos

  pub flag_data : (i j : ℕ) → i < v.wide → j < v.deep → 0 < table_at v s i → 0 < host (get_or (v.as2 (s.heap (table_at v s i))) j hole) →
      get_or (v.flag2 (s.heap (table_at v s i))) j false ≡ mine s (host (get_or (v.as2 (s.heap (table_at v s i))) j hole))
  flag_data i j li lj pos some = clean.flagged.low i li pos j lj some ∙ mine-one s (host (get_or (v.as2 (s.heap (table_at v s i))) j hole)) some
