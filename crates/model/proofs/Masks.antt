-- A heap with hidden fixed clusters: what a write to a cluster, a claim and a release do to it.
use Rattle.std.proofs.Common.{◌≡◌, ℕ, ◌+◌, ◌-◌, ◌<◌, cond, eqb, sym, refl, ap, ◌∙◌, subst, inl, inr, arith}
use mathlib.Core.Path.{fun_ext}
use Rattle.std.proofs.lemmas.Bool.{cond-true, cond-false, eq-eqb, ne_eqb, cases_eq}
use Rattle.model.specs.Clusters.{Cluster, Heap, put}
use Rattle.model.specs.References.{hit}
use Rattle.model.specs.Masks.{mask}
use Rattle.model.proofs.Sums.{hit_self, hit_other, put_self, put_other}

module _ (filler : Cluster) (fixed : ℕ → ℕ) (m : Heap) where
  -- a fixed cluster shows the filler, any other its bytes
  pub mask_hides : (h : ℕ) → 0 < fixed h → mask filler fixed m h ≡ filler
  unfolding mask
  mask_hides h pos = cond-false (eqb (fixed h) 0) _ _ (ne_eqb (fixed h) 0 (λ z. omega arith))

  pub mask-shows : (h : ℕ) → fixed h ≡ 0 → mask filler fixed m h ≡ m h
  unfolding mask
  mask-shows h none = cond-true (eqb (fixed h) 0) _ _ (eq-eqb (fixed h) 0 none)

module _ (filler : Cluster) where
  -- where nothing changes at h, the mask shows the same
  mask_same : (f g : ℕ → ℕ) (m l : Heap) (h : ℕ) → f h ≡ g h → m h ≡ l h → mask filler f m h ≡ mask filler g l h
  unfolding mask
  mask_same f g m l h e d = ap (λ k. cond (eqb k 0) (m h) filler) e ∙ ap (λ x. cond (eqb (g h) 0) x filler) d

module _ (filler : Cluster) (fixed : ℕ → ℕ) (m : Heap) (c : ℕ) (w : Cluster) where
  -- a heap is a masked one with c written if it is so at c and elsewhere
  written : (g : ℕ → ℕ) (l : Heap) (z : Cluster) → mask filler g l c ≡ z → ((h : ℕ) → (h ≡ c → ⊥) → mask filler g l h ≡ mask filler fixed m h) → mask filler g l ≡ put (mask filler fixed m) c z
  written g l z here else = fun_ext λ h. elim (cases_eq h c) [
    | inl e ↦ subst (λ n. mask filler g l n ≡ put (mask filler fixed m) c z n) (sym e) (here ∙ sym (put_self (mask filler fixed m) c z))
    | inr ne ↦ else h ne ∙ sym (put_other (mask filler fixed m) c z h ne)
  ]

  -- a write to a fixed cluster is not seen
  pub mask_fixed : 0 < fixed c → mask filler fixed (put m c w) ≡ mask filler fixed m
  mask_fixed pos = fun_ext λ h. elim (cases_eq h c) [
    | inl e ↦ subst (λ n. mask filler fixed (put m c w) n ≡ mask filler fixed m n) (sym e) (mask_hides filler fixed (put m c w) c pos ∙ sym (mask_hides filler fixed m c pos))
    | inr ne ↦ mask_same filler fixed fixed (put m c w) m h refl (put_other m c w h ne)
  ]

  -- and to any other it is the write
  pub mask_free : fixed c ≡ 0 → mask filler fixed (put m c w) ≡ put (mask filler fixed m) c w
  mask_free none = written fixed (put m c w) w (mask-shows filler fixed (put m c w) c none ∙ put_self m c w) (λ h ne. mask_same filler fixed fixed (put m c w) m h refl (put_other m c w h ne))

  -- a cluster that is claimed gets the filler, whatever is written to it
  pub mask-claim : 0 < c → mask filler (λ h. fixed h + hit h c) (put m c w) ≡ put (mask filler fixed m) c filler
  mask-claim pos = written (λ h. fixed h + hit h c) (put m c w) filler (mask_hides filler (λ h. fixed h + hit h c) (put m c w) c (omega (arith, hit_self c pos)))
      (λ h ne. mask_same filler (λ k. fixed k + hit k c) fixed (put m c w) m h (omega (arith, hit_other h c ne)) (put_other m c w h ne))

  -- a cluster that is released shows its bytes
  pub mask-release : 0 < c → fixed c ≡ 1 → mask filler (λ h. fixed h - hit h c) m ≡ put (mask filler fixed m) c (m c)
  mask-release pos single = written (λ h. fixed h - hit h c) m (m c) (mask-shows filler (λ h. fixed h - hit h c) m c (omega (arith, hit_self c pos)))
      (λ h ne. mask_same filler (λ k. fixed k - hit k c) fixed m m h (omega (arith, hit_other h c ne)) refl)
