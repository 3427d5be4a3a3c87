-- Sums of numbers in a row. Assumes nothing.
use Rattle.std.proofs.Common.{◌≡◌, ℕ, zero, suc, ◌+◌, ◌-◌, ◌*◌, ◌<◌, ◌≤◌, Bool, true, false, List, map, Option, suc-mul, refl, ap, ◌∙◌, inl, inr, arith}
use Rattle.std.specs.Bool.{⊤}
use Rattle.std.specs.List.{sum_by, range_with_len, fold}
use Rattle.std.proofs.lemmas.List.Sums.{sum_by-cons}
use Rattle.std.specs.Iterator.{Drains}
use Rattle.std.specs.Iterator.Runs.{EachRunFrom}
use Rattle.std.specs.Fn.{Called, Mut}
use Rattle.std.specs.declared.iter.Map.{Map}
use Rattle.std.specs.Iterator.Adapters.{map_source, map_callee}
use Rattle.std.proofs.lemmas.Iterator.{YieldsList, YieldsList-from_map, maps}
use Rattle.std.proofs.lemmas.Iterator.Consumers.{sum_by_from_yields_List, fits_by_from_yields_list}
use Rattle.std.specs.Int.{from_bool}
use Rattle.std.proofs.lemmas.Bool.{cases_eq}
use Rattle.image_check.specs.Totals.{sum, one}

-- up to number e: one more
module _ (f : ℕ → ℕ) (i e : ℕ) where
  pub sum_more : i < e → sum f i (e - i) ≡ f i + sum f (i + 1) (e - (i + 1))
  sum_more lt = let h : e - i ≡ suc (e - (i + 1)) = omega arith in ap (sum f i) h

-- as the library has it, and at most so much
pub sum_range : (f : ℕ → ℕ) (k i : ℕ) → sum_by f (range_with_len i k) ≡ sum f i k
sum_range f zero i = refl
sum_range f (suc k) i = sum_by-cons f i (range_with_len (i + 1) k) ∙ ap (λ x. f i + x) (sum_range f k (i + 1))

pub sum_most : (f : ℕ → ℕ) (m : ℕ) → ((j : ℕ) → f j ≤ m) → (k i : ℕ) → sum f i k ≤ k * m
sum_most f m h zero i = omega arith
sum_most f m h (suc k) i = omega (arith, h i, sum_most f m h k (i + 1), suc-mul k m)

-- a function mapped over numbers in a row, added up: what it gives, and that it fits
module _ {S F : Type 0} {steps : S → Option ℕ → S → Type 0} {g : Mut F (ℕ × Unit {0}) ℕ} {c : F} (f : ℕ → ℕ) (i k : ℕ) (s : Map S F) (row : YieldsList steps (λ x. x) (map_source s) (range_with_len i k))
    (callee : map_callee s ≡ c) (gives : (x r : ℕ) (q : F) → Called g c (x, tt) r q → (q ≡ c) × (r ≡ f x)) where
  road : YieldsList (maps steps g) (λ r. r) s (map f (range_with_len i k))
  road = YieldsList-from_map g f row callee gives

  pub sum_gives : (r : ℕ) → ((xs : List ℕ) × (⊤ → Drains (maps steps g) s xs) × (r ≡ fold (λ a x. a + x) 0 xs)) → r ≡ sum f i k
  sum_gives r ran = sum_by_from_yields_List f (range_with_len i k) s r ran road ∙ sum_range f k i

  pub sum_fits : (top : ℕ) → sum f i k < top → EachRunFrom (maps steps g) s (λ p. fold (λ a x. a + x) 0 p.items < top)
  sum_fits top few = fits_by_from_yields_list f (range_with_len i k) s top road (omega (arith, sum_range f k i))

-- of equal numbers
pub sum_same : (f g : ℕ → ℕ) (k i : ℕ) → ((j : ℕ) → i ≤ j → j < i + k → f j ≡ g j) → sum f i k ≡ sum g i k
sum_same f g zero i h = refl
sum_same f g (suc k) i h = omega (arith, h i (omega arith) (omega arith), sum_same f g k (i + 1) (λ j a b. h j (omega arith) (omega arith)))

-- a sum is zero exactly where each of its numbers is
pub sum_zero : (f : ℕ → ℕ) (k i : ℕ) → sum f i k ≡ 0 → (j : ℕ) → i ≤ j → j < i + k → f j ≡ 0
sum_zero f zero i e j a b = absurd (omega arith)
sum_zero f (suc k) i e j a b = elim (cases_eq j i) [
  | inl p ↦ ap f p ∙ omega arith
  | inr ne ↦ sum_zero f k (i + 1) (omega arith) j (omega arith) (omega arith)
]

pub zero_sum : (f : ℕ → ℕ) (k i : ℕ) → ((j : ℕ) → i ≤ j → j < i + k → f j ≡ 0) → sum f i k ≡ 0
zero_sum f zero i h = refl
zero_sum f (suc k) i h = omega (arith, h i (omega arith) (omega arith), zero_sum f k (i + 1) (λ j a b. h j (omega arith) (omega arith)))

pub one_zero : (b : Bool) → one b ≡ 0 → b ≡ false
one_zero true e = absurd (omega (arith, e))
one_zero false e = refl

pub zero_one : (b : Bool) → b ≡ false → one b ≡ 0
zero_one b e = ap one e

-- a test as a number
pub one_is : (x : ℕ) (b c : Bool) → x ≡ from_bool b → b ≡ c → x ≡ one c
one_is x true c e is = e ∙ ap one is
one_is x false c e is = e ∙ ap one is

pub one_most : (b : Bool) → one b ≤ 1
one_most true = omega arith
one_most false = omega arith
