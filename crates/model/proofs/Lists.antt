-- Lists with one element removed or added, and facts of each element.
use Rattle.std.proofs.Common.{◌≡◌, ℕ, zero, suc, ◌+◌, ◌<◌, List, [], ◌∷◌, ◌++◌, map, length, get_or, refl, ap, arith}
use Rattle.model.specs.References.{total}
use Rattle.model.specs.Calls.{without}
use Rattle.model.specs.Invariant.{Every}

pub total-without : {X : Type 0} (f : X → ℕ) (xs : List X) (k : ℕ) (d : X) → k < length xs → total f (without k xs) + f (get_or xs k d) ≡ total f xs
total-without f [] k d h = omega arith
total-without f (x ∷ xs) zero d h = omega arith
total-without f (x ∷ xs) (suc k) d h = omega (arith, total-without f xs k d (omega arith))

pub map-without : {X Y : Type 0} (f : X → Y) (xs : List X) (k : ℕ) → map f (without k xs) ≡ without k (map f xs)
map-without f [] k = refl
map-without f (x ∷ xs) zero = refl
map-without f (x ∷ xs) (suc k) = ap (λ ys. f x ∷ ys) (map-without f xs k)

pub map_push : {X Y : Type 0} (f : X → Y) (xs : List X) (x : X) → map f (xs ++ (x ∷ [])) ≡ map f xs ++ (f x ∷ [])
map_push f [] x = refl
map_push f (y ∷ xs) x = ap (λ ys. f y ∷ ys) (map_push f xs x)

pub every_push : {X : Type 0} (P : X → Type 0) (xs : List X) (x : X) → Every P xs → P x → Every P (xs ++ (x ∷ []))
every_push P [] x o p = (p, tt)
every_push P (y ∷ xs) x o p = (o.0, every_push P xs x o.1 p)

pub every_without : {X : Type 0} (P : X → Type 0) (xs : List X) (k : ℕ) → Every P xs → Every P (without k xs)
every_without P [] k o = tt
every_without P (x ∷ xs) zero o = o.1
every_without P (x ∷ xs) (suc k) o = (o.0, every_without P xs k o.1)

pub every_at : {X : Type 0} (P : X → Type 0) (xs : List X) (k : ℕ) (d : X) → k < length xs → Every P xs → P (get_or xs k d)
every_at P [] k d h o = absurd (omega arith)
every_at P (x ∷ xs) zero d h o = o.0
every_at P (x ∷ xs) (suc k) d h o = every_at P xs k d (omega arith) o.1
