-- What a store's calls give where they are not refused, and where they are. Assumes nothing.
use Rattle.std.proofs.Common.{◌≡◌, ℕ, ◌+◌, ◌<◌, ◌≤◌, true, ◌&&◌, leb, List, length, take, Ok, Err, Result, sym, refl, ap, ◌∙◌, subst, inl, inr, arith, length-take}
use Rattle.std.proofs.lemmas.Bool.{cond-true, cond-false, le-leb, lt-leb, leb-true, and_from, cases_lt, cond_both}
use Rattle.fault.specs.declared.Fault.{Fault}
use Rattle.fault.specs.declared.Layer.TheVariants.{Store}
use Rattle.fault.specs.declared.Reason.TheVariants.{PastStore, Growth}
use Rattle.fault.specs.Faults.{fault}
use Rattle.byte_lists.specs.Runs.{run, put, grow, Octets}
use Rattle.byte_lists.proofs.Octets.{octets_put}
use Rattle.fault.specs.Outcomes.{Gives}
use Rattle.store.specs.Calls.{after}
use Rattle.store.specs.Stores.{load, stored, grown}

never : (y : List ℕ) (f : Fault) (r : Result (List ℕ) Fault) → r ≡ Ok y → r ≡ Err f → ⊥
never y f r p q = let z : ◌≡◌ {A = ℕ} 0 1 = cc in omega arith

pub loads : (bs : List ℕ) (first n : ℕ) (out : List ℕ) → first + n ≤ length bs → run bs first n ≡ out → load bs first n ≡ Ok out
loads bs first n out h e = cond-true (leb (first + n) (length bs)) (Ok (run bs first n)) (Err (fault PastStore Store first)) (le-leb (first + n) (length bs) h) ∙ ap (λ l. Ok l) e

pub stores : (bs : List ℕ) (first : ℕ) (new after : List ℕ) → first + length new ≤ length bs → put bs first new ≡ after → stored bs first new ≡ Ok after
stores bs first new after h e =
    cond-true (leb (first + length new) (length bs)) (Ok (put bs first new)) (Err (fault PastStore Store first)) (le-leb (first + length new) (length bs) h) ∙ ap (λ l. Ok l) e

pub grows : (bs : List ℕ) (limit n : ℕ) (after : List ℕ) → length bs ≤ n → n ≤ limit → grow bs n ≡ after → grown bs limit n ≡ Ok after
grows bs limit n after h k e =
    cond-true (leb (length bs) n && leb n limit) (Ok (grow bs n)) (Err (fault Growth Store n)) (and_from (leb (length bs) n) (leb n limit) (le-leb (length bs) n h) (le-leb n limit k)) ∙ ap (λ l. Ok l) e

-- a read that was accepted: the run lies within, and is what was read
pub loaded : (bs : List ℕ) (first n : ℕ) (out : List ℕ) → load bs first n ≡ Ok out → (first + n ≤ length bs) × (run bs first n ≡ out)
loaded bs first n out e = elim (cases_lt (length bs) (first + n)) [
  | inl past ↦ let r = cond-false (leb (first + n) (length bs)) (Ok (run bs first n)) (Err (fault PastStore Store first)) (lt-leb (first + n) (length bs) past) in absurd (never out (fault PastStore Store first) (load bs first n) e r)
  | inr within ↦ (within, let r = loads bs first n (run bs first n) within refl in cc)
]

-- a read that was refused passes the end
pub unloaded : (bs : List ℕ) (first n : ℕ) (f : Fault) → load bs first n ≡ Err f → length bs < first + n
unloaded bs first n f e = elim (cases_lt (length bs) (first + n)) [
  | inl past ↦ past
  | inr within ↦ absurd (never (run bs first n) f (load bs first n) (loads bs first n (run bs first n) within refl) e)
]

-- what lies within the front of a list lies within the list
pub front_within : (bs : List ℕ) (m k : ℕ) → k ≤ length (take m bs) → (k ≤ m) × (k ≤ length bs)
front_within bs m k h = (omega (arith, length-take m bs), omega (arith, length-take m bs))

-- a test that passed, of a length that the code had by another name
pub passed : (a n m : ℕ) → true ≡ leb a n → n ≡ m → a ≤ m
passed a n m t e = omega (arith, leb-true a n (sym t), e)

-- what a call left, whether it was refused or not
pub left_after : (r : Result (Unit {0}) Fault) (outcome : Result (List ℕ) Fault) (before after' : List ℕ) → Gives r outcome before after' → after' ≡ after before outcome
left_after (Ok u) outcome before after' g = sym (ap (after before) g)
left_after (Err e) outcome before after' g = g.1 ∙ sym (ap (after before) g.0)

-- a replacement, refused or not, leaves bytes
pub octets_left : (r : Result (Unit {0}) Fault) (bs : List ℕ) (first : ℕ) (new left : List ℕ) → Gives r (stored bs first new) bs left → Octets bs → Octets new → Octets left
octets_left r bs first new left g o p =
    subst Octets (sym (left_after r (stored bs first new) bs left g))
    (cond_both (leb (first + length new) (length bs)) (Ok (put bs first new)) (Err (fault PastStore Store first)) (λ x. Octets (after bs x)) (λ _. octets_put bs first new o p) (λ _. o))
