-- Kinds and marks come back from the codes that stand for them. Assumes nothing.
use Rattle.std.proofs.Common.{◌≡◌, ℕ, zero, suc, ◌+◌, ◌-◌, ◌*◌, ◌/◌, ◌%◌, ◌^◌, ◌<◌, ◌≤◌, min, cond, eqb, ltb, leb, ◌⊎◌, sym, refl, ap, ◌∙◌, subst, inl, inr, arith}
use Rattle.std.proofs.lemmas.Bool.{cond-true, cond-false, lt-ltb, eq-eqb, ne_eqb, le-leb, lt-leb, cases_eq, cases_lt}
use Rattle.tally.specs.Tally.{merged}
use Rattle.tally.specs.Words.{code_of, kind_in, mark_in, reached, packed, noted, unseen, unmarked}

-- what a walk can meet: any kind unmarked; marked only L2 tables, data and several
pub data Fits : ℕ → ℕ → Type 0 where
  plain : {j : ℕ} → j < 9 → Fits j 0
  several : Fits 15 0
  l2 : {m : ℕ} → m < 2 → Fits 7 (suc m)
  data' : {m : ℕ} → m < 2 → Fits 8 (suc m)
  many : {m : ℕ} → m < 2 → Fits 15 (suc m)

-- a number below 2 is 0 or 1
below_2 : (m : ℕ) → m < 2 → (m ≡ 0) ⊎ (m ≡ 1)
below_2 zero lt = inl refl
below_2 (suc zero) lt = inr refl
below_2 (suc (suc m)) lt = absurd (omega arith)

pub kind_back : {j m : ℕ} → Fits j m → kind_in (code_of j m) ≡ j
kind_back {j} (plain lt) = cond-true (ltb j 9) j _ (lt-ltb j 9 lt)
kind_back several = refl
kind_back (l2 {m} lt) = elim (below_2 m lt) [ inl e ↦ subst (λ k. kind_in (code_of 7 (suc k)) ≡ 7) (sym e) refl | inr e ↦ subst (λ k. kind_in (code_of 7 (suc k)) ≡ 7) (sym e) refl ]
kind_back (data' {m} lt) = elim (below_2 m lt) [ inl e ↦ subst (λ k. kind_in (code_of 8 (suc k)) ≡ 8) (sym e) refl | inr e ↦ subst (λ k. kind_in (code_of 8 (suc k)) ≡ 8) (sym e) refl ]
kind_back (many {m} lt) = elim (below_2 m lt) [ inl e ↦ subst (λ k. kind_in (code_of 15 (suc k)) ≡ 15) (sym e) refl | inr e ↦ subst (λ k. kind_in (code_of 15 (suc k)) ≡ 15) (sym e) refl ]

pub mark_back : {j m : ℕ} → Fits j m → mark_in (code_of j m) ≡ m
mark_back {j} (plain lt) = cond-true (ltb j 9) 0 _ (lt-ltb j 9 lt)
mark_back several = refl
mark_back (l2 {m} lt) = elim (below_2 m lt) [ inl e ↦ subst (λ k. mark_in (code_of 7 (suc k)) ≡ suc k) (sym e) refl | inr e ↦ subst (λ k. mark_in (code_of 7 (suc k)) ≡ suc k) (sym e) refl ]
mark_back (data' {m} lt) = elim (below_2 m lt) [ inl e ↦ subst (λ k. mark_in (code_of 8 (suc k)) ≡ suc k) (sym e) refl | inr e ↦ subst (λ k. mark_in (code_of 8 (suc k)) ≡ suc k) (sym e) refl ]
mark_back (many {m} lt) = elim (below_2 m lt) [ inl e ↦ subst (λ k. mark_in (code_of 15 (suc k)) ≡ suc k) (sym e) refl | inr e ↦ subst (λ k. mark_in (code_of 15 (suc k)) ≡ suc k) (sym e) refl ]

-- the parts of a packed word
pub packed_high : (j m t : ℕ) → packed j m t / 2 ^ 28 ≡ code_of j m
packed_high j m t = omega arith

pub packed_low : (j m t : ℕ) → packed j m t % 2 ^ 28 ≡ min (2 ^ 28 - 1) t
packed_low j m t = omega arith

module _ {j m : ℕ} (t : ℕ) (fits : Fits j m) where
  pub word_kind : kind_in (packed j m t / 2 ^ 28) ≡ j
  word_kind = ap kind_in (packed_high j m t) ∙ kind_back fits

  pub word_mark : mark_in (packed j m t / 2 ^ 28) ≡ m
  word_mark = ap mark_in (packed_high j m t) ∙ mark_back fits

  -- one more reference
  pub noted_is : (k : ℕ) → noted k (packed j m t) ≡ packed (merged j k) (reached k m) (t + 1)
  noted_is k =
      ap (λ x. packed (merged x k) (reached k (mark_in (packed j m t / 2 ^ 28))) (packed j m t % 2 ^ 28 + 1)) word_kind
      ∙ ap (λ x. packed (merged j k) (reached k x) (packed j m t % 2 ^ 28 + 1)) word_mark
      ∙ ap (λ x. packed (merged j k) (reached k m) (x + 1)) (packed_low j m t)
      ∙ ap (λ x. code_of (merged j k) (reached k m) * 2 ^ 28 + x) (omega arith)

  pub unseen_is : unseen (packed j m t) ≡ packed j (cond (eqb m 2) 2 0) t
  unseen_is =
      ap (λ x. packed x (cond (eqb (mark_in (packed j m t / 2 ^ 28)) 2) 2 0) (packed j m t % 2 ^ 28)) word_kind
      ∙ ap (λ x. packed j (cond (eqb x 2) 2 0) (packed j m t % 2 ^ 28)) word_mark
      ∙ ap (λ x. packed j (cond (eqb m 2) 2 0) x) (packed_low j m t)
      ∙ ap (λ x. code_of j (cond (eqb m 2) 2 0) * 2 ^ 28 + x) (omega arith)

  pub unmarked_is : unmarked (packed j m t) ≡ packed j 0 t
  unmarked_is =
      ap (λ x. packed x 0 (packed j m t % 2 ^ 28)) word_kind
      ∙ ap (λ x. packed j 0 x) (packed_low j m t)
      ∙ ap (λ x. code_of j 0 * 2 ^ 28 + x) (omega arith)

-- a kind and a mark from what is known of them
mark_some : (j m : ℕ) → (j ≡ 7) ⊎ ((j ≡ 8) ⊎ (j ≡ 15)) → 0 < m → m ≤ 2 → Fits j m
mark_some j zero e some most = absurd (omega arith)
mark_some j (suc m) e some most = elim e [
  | inl p ↦ subst (λ x. Fits x (suc m)) (sym p) (l2 (omega arith))
  | inr q ↦ elim q [
    | inl p ↦ subst (λ x. Fits x (suc m)) (sym p) (data' (omega arith))
    | inr p ↦ subst (λ x. Fits x (suc m)) (sym p) (many (omega arith))
  ]
]

mark_none : (j m : ℕ) → (j < 9) ⊎ (j ≡ 15) → m ≡ 0 → Fits j m
mark_none j m e none = subst (Fits j) (sym none) (elim e [ inl lt ↦ plain lt | inr p ↦ subst (λ x. Fits x 0) (sym p) several ])

pub mark_most : {j m : ℕ} → Fits j m → m ≤ 2
mark_most (plain lt) = omega arith
mark_most several = omega arith
mark_most (l2 lt) = omega arith
mark_most (data' lt) = omega arith
mark_most (many lt) = omega arith

pub kind_some : {j m : ℕ} → Fits j m → (j < 9) ⊎ (j ≡ 15)
kind_some (plain lt) = inl lt
kind_some several = inr refl
kind_some (l2 lt) = inl (omega arith)
kind_some (data' lt) = inl (omega arith)
kind_some (many lt) = inr refl

kind_marked : {j m : ℕ} → Fits j m → 0 < m → (j ≡ 7) ⊎ ((j ≡ 8) ⊎ (j ≡ 15))
kind_marked (plain lt) some = absurd (omega arith)
kind_marked several some = absurd (omega arith)
kind_marked (l2 lt) some = inl refl
kind_marked (data' lt) some = inr (inl refl)
kind_marked (many lt) some = inr (inr refl)

-- kinds that a reference has
pub record Named (k : ℕ) : Type 0 where
  pub low : 0 < k
  pub high : k < 9

merged_cases : (j k : ℕ) → (merged j k ≡ k) ⊎ (merged j k ≡ 15)
merged_cases j k = elim (cases_eq j 0) [
  | inl e ↦ inl (cond-true (eqb j 0) k _ (eq-eqb j 0 e))
  | inr ne ↦ elim (cases_eq j k) [
    | inl e ↦ inl (cond-false (eqb j 0) k _ (ne_eqb j 0 ne) ∙ cond-true (eqb j k) k 15 (eq-eqb j k e))
    | inr no' ↦ inr (cond-false (eqb j 0) k _ (ne_eqb j 0 ne) ∙ cond-false (eqb j k) k 15 (ne_eqb j k no'))
  ]
]

merged_other : (j k : ℕ) → (j ≡ 0 → ⊥) → (j ≡ k → ⊥) → merged j k ≡ 15
merged_other j k a b = cond-false (eqb j 0) k _ (ne_eqb j 0 a) ∙ cond-false (eqb j k) k 15 (ne_eqb j k b)

pub merged_fits : {j m : ℕ} (k : ℕ) → Named k → Fits j m → Fits (merged j k) (reached k m)
merged_fits {j} {m} k named fits = elim (cases_lt k 7) [
  | inl low ↦
      let still : reached k m ≡ m = cond-false (leb 7 k) (min 2 (m + 1)) m (lt-leb 7 k low) in
      elim (cases_eq m 0) [
        | inl none ↦ mark_none (merged j k) (reached k m) (elim (merged_cases j k) [ inl e ↦ inl (omega (arith, named.high)) | inr e ↦ inr e ]) (still ∙ none)
        | inr some ↦
            let kinds = kind_marked fits (omega arith) in
            let is : merged j k ≡ 15 = merged_other j k (λ e. omega arith) (λ e. omega arith) in
            mark_some (merged j k) (reached k m) (inr (inr is)) (omega arith) (omega (arith, mark_most fits))
      ]
  | inr high ↦
      let more : reached k m ≡ min 2 (m + 1) = cond-true (leb 7 k) (min 2 (m + 1)) m (le-leb 7 k high) in
      mark_some (merged j k) (reached k m)
      (elim (merged_cases j k) [
        | inl e ↦ elim (cases_eq k 7) [ inl p ↦ inl (e ∙ p) | inr ne ↦ inr (inl (omega (arith, named.high))) ]
        | inr e ↦ inr (inr e)
      ]) (omega arith) (omega arith)
]

pub unseen_fits : {j m : ℕ} → Fits j m → Fits j (cond (eqb m 2) 2 0)
unseen_fits {j} {m} fits = elim (cases_eq m 2) [
  | inl e ↦ subst (Fits j) (e ∙ sym (cond-true (eqb m 2) 2 0 (eq-eqb m 2 e))) fits
  | inr ne ↦ mark_none j (cond (eqb m 2) 2 0) (kind_some fits) (cond-false (eqb m 2) 2 0 (ne_eqb m 2 ne))
]
