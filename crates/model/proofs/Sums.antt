-- Sums over lists, hits, and a heap with one cluster written.
use Rattle.std.proofs.Common.{◌≡◌, ℕ, zero, suc, ◌+◌, ◌<◌, ◌≤◌, ◌⊎◌, List, [], ◌∷◌, ◌++◌, length, get_or, set, replicate, sym, refl, subst, inl, inr, arith}
use Rattle.std.proofs.lemmas.Bool.{cond-true, cond-false, eq-eqb, ne_eqb, cases_eq}
use Rattle.model.specs.Clusters.{Cluster, Heap, put}
use Rattle.model.specs.References.{total, hit}

module _ {X : Type 0} (f : X → ℕ) where
  pub total-append : (xs ys : List X) → total f (xs ++ ys) ≡ total f xs + total f ys
  total-append [] ys = omega arith
  total-append (x ∷ xs) ys = omega (arith, total-append xs ys)

  pub total-set : (xs : List X) (i : ℕ) (y d : X) → i < length xs → total f (set xs i y) + f (get_or xs i d) ≡ total f xs + f y
  total-set [] i y d h = omega arith
  total-set (x ∷ xs) zero y d h = omega arith
  total-set (x ∷ xs) (suc i) y d h = omega (arith, total-set xs i y d (omega arith))

  pub total_at : (xs : List X) (i : ℕ) (d : X) → f d ≡ 0 → f (get_or xs i d) ≤ total f xs
  total_at [] i d z = omega arith
  total_at (x ∷ xs) zero d z = omega arith
  total_at (x ∷ xs) (suc i) d z = omega (arith, total_at xs i d z)

  pub total-replicate : (n : ℕ) (d : X) → f d ≡ 0 → total f (replicate n d) ≡ 0
  total-replicate zero d z = refl
  total-replicate (suc n) d z = omega (arith, total-replicate n d z)

-- two sums agree where the terms do, wherever a third sum says nothing
pub total_frame : {X : Type 0} (c f g : X → ℕ) → ((x : X) → c x ≡ 0 → f x ≡ g x) → (xs : List X) → total c xs ≡ 0 → total f xs ≡ total g xs
total_frame c f g same [] z = refl
total_frame c f g same (x ∷ xs) z = omega (arith, same x (omega arith), total_frame c f g same xs (omega arith))

pub hit_self : (c : ℕ) → 0 < c → hit c c ≡ 1
unfolding hit
hit_self zero h = omega arith
hit_self (suc c) h = cond-true _ _ _ (eq-eqb (suc c) (suc c) refl)

pub hit_other : (h x : ℕ) → (h ≡ x → ⊥) → hit h x ≡ 0
unfolding hit
hit_other h zero ne = refl
hit_other h (suc x) ne = cond-false _ _ _ (ne_eqb h (suc x) ne)

pub hit_zero : (h : ℕ) → hit h 0 ≡ 0
unfolding hit
hit_zero h = refl

pub hit_le : (h x : ℕ) → hit h x ≤ 1
hit_le h zero = omega (arith, hit_zero h)
hit_le h (suc x) = elim (cases_eq h (suc x)) [
  | inl e ↦ subst (λ y. hit y (suc x) ≤ 1) (sym e) (omega (arith, hit_self (suc x) (omega arith)))
  | inr ne ↦ omega (arith, hit_other h (suc x) ne)
]

-- a cluster that is not hit is another
pub missed : (c x : ℕ) → 0 < c → hit c x ≡ 0 → x ≡ c → ⊥
missed c x h z e = omega (arith, hit_self c h, subst (λ y. hit c y ≡ 0) e z)

pub put_self : (m : Heap) (c : ℕ) (w : Cluster) → put m c w c ≡ w
unfolding put
put_self m c w = cond-true _ _ _ (eq-eqb c c refl)

pub put_other : (m : Heap) (c : ℕ) (w : Cluster) (h : ℕ) → (h ≡ c → ⊥) → put m c w h ≡ m h
unfolding put
put_other m c w h ne = cond-false _ _ _ (ne_eqb h c ne)

pub hit_cases : (h p : ℕ) → (hit h p ≡ 0) ⊎ (h ≡ p)
hit_cases h p = elim (cases_eq h p) [ inl e ↦ inr e | inr ne ↦ inl (hit_other h p ne) ]

pub total_add : {X : Type 0} (f g k l : X → ℕ) → ((x : X) → f x ≡ g x + k x + l x) → (xs : List X) → total f xs ≡ total g xs + total k xs + total l xs
total_add f g k l e [] = omega arith
total_add f g k l e (x ∷ xs) = omega (arith, e x, total_add f g k l e xs)

pub total-nought : {X : Type 0} (f : X → ℕ) → ((x : X) → f x ≡ 0) → (xs : List X) → total f xs ≡ 0
total-nought f e [] = refl
total-nought f e (x ∷ xs) = omega (arith, e x, total-nought f e xs)

pub total_mono : {X : Type 0} (f g : X → ℕ) → ((x : X) → f x ≤ g x) → (xs : List X) → total f xs ≤ total g xs
total_mono f g le [] = omega arith
total_mono f g le (x ∷ xs) = omega (arith, le x, total_mono f g le xs)

pub total_same : {X : Type 0} (f g : X → ℕ) → ((x : X) → f x ≡ g x) → (xs : List X) → total f xs ≡ total g xs
total_same f g e [] = refl
total_same f g e (x ∷ xs) = omega (arith, e x, total_same f g e xs)
