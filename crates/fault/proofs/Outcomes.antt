-- What a judgement after another says of both. Assumes nothing.
use Rattle.std.proofs.Common.{IsErrAnd, ◌≡◌, ℕ, zero, suc, ◌+◌, ◌-◌, ◌<◌, ◌≤◌, Bool, true, false, cond, Ok, Err, Result, sym, refl, ap, ◌∙◌, add-zero, arith}
use Rattle.fault.specs.declared.Fault.{Fault}
use Rattle.fault.specs.Outcomes.{demanded, and_then, each}

-- an outcome is not both
pub not_both : {X : Type 0} {r : Result X Fault} (x : X) (f : Fault) → r ≡ Ok x → r ≡ Err f → ⊥
not_both x f p q = let z : ◌≡◌ {A = ℕ} 0 1 = cc in omega arith

-- what was answered is one value
pub ok_same : {X : Type 0} (x y : X) → ◌≡◌ {A = Result X Fault} (Ok x) (Ok y) → x ≡ y
ok_same x y e = cc

-- both judgements were good
pub then_ok : {X Y : Type 0} (r : Result X Fault) (f : X → Result Y Fault) (y : Y) → and_then r f ≡ Ok y → (x : X) × ((r ≡ Ok x) × (f x ≡ Ok y))
then_ok (Ok x) f y e = (x, (refl, e))
then_ok (Err d) f y e = absurd (not_both y d e refl)

-- what follows a good judgement
pub then_is : {X Y : Type 0} (r : Result X Fault) (f : X → Result Y Fault) (x : X) → r ≡ Ok x → and_then r f ≡ f x
then_is r f x e = ap (λ s. and_then s f) e

-- a test that was passed
pub passed : {X : Type 0} (t : Bool) (x y : X) (d : Fault) → cond t (Ok x) (Err d) ≡ Ok y → (t ≡ true) × (x ≡ y)
passed true x y d e = (refl, cc)
passed false x y d e = absurd (not_both y d e refl)

-- a demand that was met
pub demand_met : (u : Unit {0}) (passed : Bool) (f : Fault) → Ok u ≡ demanded passed f → passed ≡ true
demand_met u true f e = refl
demand_met u false f e = absurd (not_both u f refl e)

-- a ground for refusal that was not given
pub not_refused : {X : Type 0} (t : Bool) (d : Fault) (r : Result X Fault) (y : X) → cond t (Err d) r ≡ Ok y → (t ≡ false) × (r ≡ Ok y)
not_refused true d r y e = absurd (not_both y d e refl)
not_refused false d r y e = (refl, e)

-- two ways to go on after one test are the same if they are where it was passed
pub same_after : {X Y : Type 0} (t : Bool) (x : X) (d : Fault) (f g : X → Result Y Fault) → (t ≡ true → f x ≡ g x) → and_then (cond t (Ok x) (Err d)) f ≡ and_then (cond t (Ok x) (Err d)) g
same_after true x d f g h = h refl
same_after false x d f g h = refl

-- judgements in a row up to number e: one more, bad or good, and none left
module _ {X : Type 0} (f : ℕ → Result X Fault) (i e : ℕ) where
  each_more : i < e → each f i (e - i) ≡ (and_then (f i) λ _. each f (i + 1) (e - (i + 1)))
  each_more lt = let h : e - i ≡ suc (e - (i + 1)) = omega arith in ap (each f i) h

  pub each_bad : i < e → (d : Fault) → Err d ≡ f i → each f i (e - i) ≡ Err d
  each_bad lt d h = each_more lt ∙ ap (λ r. and_then r λ _. each f (i + 1) (e - (i + 1))) (sym h)

  pub each-good : i < e → (x : X) → Ok x ≡ f i → each f i (e - i) ≡ each f (i + 1) (e - (i + 1))
  each-good lt x h = each_more lt ∙ ap (λ r. and_then r λ _. each f (i + 1) (e - (i + 1))) (sym h)

  pub each_none : e ≤ i → each f i (e - i) ≡ Ok tt
  each_none le = let h : e - i ≡ 0 = omega arith in ap (each f i) h

-- what a loop answers at its first fault is what the whole gives, since what was left to judge does
pub each_stops : {X : Type 0} (f : ℕ → Result X Fault) (i e : ℕ) (d : Fault) (r whole : Result (Unit {0}) Fault) → i < e → Err d ≡ f i → IsErrAnd r (λ y. y ≡ d) → each f i (e - i) ≡ whole → r ≡ whole
each_stops f i e d (Ok u) whole lt h is left = absurd is
each_stops f i e d (Err y) whole lt h is left = ap (λ z. Err z) is ∙ sym (each_bad f i e lt d h) ∙ left

-- each of them was good
pub each_is : {X : Type 0} (f : ℕ → Result X Fault) (k i : ℕ) (u : Unit {0}) → each f i k ≡ Ok u → (j : ℕ) → j < k → (x : X) × (f (i + j) ≡ Ok x)
each_is f zero i u h j lt = absurd (omega arith)
each_is f (suc k) i u h zero lt = let a = then_ok (f i) _ u h in (a.0, ap f (add-zero i) ∙ a.1.0)
each_is f (suc k) i u h (suc j) lt =
    let a = then_ok (f i) _ u h in
    let b = each_is f k (i + 1) u a.1.1 j (omega arith) in
    let e : i + suc j ≡ i + 1 + j = omega arith in
    (b.0, ap f e ∙ b.1)
