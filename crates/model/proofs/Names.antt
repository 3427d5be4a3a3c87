-- The weight of all references to a cluster is how often it is named.
use Rattle.std.proofs.Common.{◌≡◌, ℕ, List, [], ◌∷◌, map, refl, arith}
use Rattle.model.specs.Clusters.{Entry, host, Heap, Shape}
use Rattle.model.specs.References.{Snap, State, total, hit, lows, to_any, flat, occ, l1, l2, under, tree, snapped, weigh, branch, trunk, names}
use Rattle.model.proofs.Sums.{total-append}

occ-host : (h : ℕ) (es : List Entry) → occ h (map host es) ≡ total (lows (to_any h)) es
occ-host h [] = refl
occ-host h (e ∷ es) = omega (arith, occ-host h es)

occ-flat : {X : Type 0} (h : ℕ) (f : X → List ℕ) (g : X → ℕ) → ((x : X) → occ h (f x) ≡ g x) → (xs : List X) → occ h (flat f xs) ≡ total g xs
occ-flat h f g e [] = refl
occ-flat h f g e (x ∷ xs) = omega (arith, total-append (hit h) (f x) (flat f xs), e x, occ-flat h f g e xs)

module _ (v : Shape) where
  -- of a list of L1 entries, of an L1 table, of a state
  pub occ_branches : (h : ℕ) (m : Heap) (xs : List ℕ) → occ h (flat (branch v m) xs) ≡ total (under v (to_any h) m) xs
  occ_branches h m xs = occ-flat h (branch v m) (under v (to_any h) m) (λ x. omega (arith, occ-host h (l2 v m x))) xs

  pub occ-trunk : (h : ℕ) (m : Heap) (t : ℕ) → occ h (trunk v m t) ≡ tree v (to_any h) m t
  occ-trunk h m t = omega (arith, occ_branches h m (l1 v m t))

  pub occ-names : (h : ℕ) (s : State) → occ h (names v s) ≡ weigh v (to_any h) s
  occ-names h s =
      let rest : List ℕ = flat (λ (n : Snap). trunk v s.heap n.table) s.snaps in
      omega (
        arith,
        total-append (hit h) (trunk v s.heap s.live) rest,
        occ-trunk h s.heap s.live,
        occ-flat h (λ (n : Snap). trunk v s.heap n.table) (snapped v (to_any h) s.heap) (λ n. occ-trunk h s.heap n.table) s.snaps,
      )
