-- Counts have two bytes, and those past the store's end stand in blocks. Assumes nothing.
use Rattle.std.proofs.Common.{◌≡◌, ℕ, Option, None, Some, ◌+◌, ◌*◌, ◌/◌, ◌%◌, ◌^◌, ◌<◌, ◌≤◌, Bool, true, false, cond, not, eqb, ltb, leb, List, length, Ok, Err, Result, sym, refl, ap, ◌∙◌, subst, inl, inr, div-add-mod', arith}
use Rattle.std.proofs.lemmas.Nat.{mod_below, div-mul-add, mod-mul-add}
use Rattle.std.proofs.lemmas.Bool.{cond-true, cond-false, both_ways, and_left, lt-leb, cases_lt, eq-eqb, lt-ltb, le-ltb, le-leb, leb-true, eqb-true, and_cases, and_right, not-false, not_from_true}
use Rattle.fault.specs.declared.Fault.{Fault}
use Rattle.fault.specs.Outcomes.{and_then}
use Rattle.fault.proofs.Outcomes.{then_ok, then_is, passed, each_is}
use Rattle.byte_lists.specs.Runs.{run, Octets}
use Rattle.byte_lists.specs.Numbers.{be}
use Rattle.byte_lists.proofs.Runs.{length_run}
use Rattle.byte_lists.proofs.Octets.{octets_run}
use Rattle.byte_lists.proofs.Numbers.{be_below}
use Rattle.store.specs.Words.{word, held}
use Rattle.format.specs.declared.numbers.Numbers.{Numbers}
use Rattle.format.specs.Entries.{leads}
use Rattle.format.proofs.Clusters.{cluster_least}
use Rattle.tables.specs.Refcounts as refcounts
use Rattle.tables.specs.Refcounts.{per_block, blocks, block_place, count_under, count, value}
use Rattle.walk.specs.References.{block_at}
use Rattle.walk.specs.Walk.{blocks_judged}
use Rattle.image_check.specs.Totals.{one, clusters_of, past, past_in, leaked_past}
use Rattle.image_check.proofs.Sums.{sum_zero, zero_sum, one_zero, zero_one}

-- a number of two bytes
small : (t : Bool) (r : List ℕ) (f : Fault) → (t ≡ true → be r < 2 ^ 16) → value (and_then (cond t (Ok r) (Err f)) λ b. Ok (be b)) < 2 ^ 16
small true r f h = h refl
small false r f h = omega arith

half_below : (bs : List ℕ) (place : ℕ) → Octets bs → value (word bs place 2) < 2 ^ 16
half_below bs place o =
    small (leb (place + 2) (length bs)) (run bs place 2) _
    (λ t. let inside = leb-true (place + 2) (length bs) t in subst (λ k. be (run bs place 2) < 256 ^ k) (length_run bs place 2 inside) (be_below (run bs place 2) (octets_run bs place 2 o)))

then_below : {X : Type 0} (r : Result X Fault) (f : X → Result ℕ Fault) → ((x : X) → value (f x) < 2 ^ 16) → value (and_then r f) < 2 ^ 16
then_below (Ok b) f h = h b
then_below (Err d) f h = omega arith

under_below : (n : Numbers) (bs : List ℕ) (h : ℕ) (o : Option ℕ) → Octets bs → value (count_under n bs h o) < 2 ^ 16
under_below n bs h None o = omega arith
under_below n bs h (Some b) o = half_below bs (held (b + h % per_block n * 2)) o

pub count_below : (n : Numbers) (bs : List ℕ) (h : ℕ) → Octets bs → count n bs h < 2 ^ 16
count_below n bs h o = then_below (refcounts.block_at n bs (h / per_block n)) (count_under n bs h) (λ b. under_below n bs h b o)

-- the count that a block has for a place in it
abbrev through : List ℕ → Option ℕ → ℕ → ℕ
through bs None j = 0
through bs (Some b) j = value (word bs (held (b + j * 2)) 2)

through_is : (n : Numbers) (bs : List ℕ) (h : ℕ) (o : Option ℕ) → value (count_under n bs h o) ≡ through bs o (h % per_block n)
through_is n bs h None = refl
through_is n bs h (Some b) = refl

module _ (n : Numbers) (bs : List ℕ) where
  some : 0 < per_block n
  some = omega (arith, cluster_least n.bits)

  -- a block that was judged good is the one that counts are read through
  module _ (k : ℕ) (o : Option ℕ) (lt : k < blocks n) (is : block_at n bs k ≡ Ok o) where
    read_back : refcounts.block_at n bs k ≡ Ok o
    read_back =
        let a = then_ok (word bs (block_place n k) 8) _ o is in
        let same = (passed _ (leads a.0) o _ a.1.1).1 in
        cond-true (ltb k (blocks n)) _ (Ok None) (lt-ltb k (blocks n) lt) ∙ then_is (word bs (block_place n k) 8) (λ w. Ok (leads w)) a.0 a.1.0 ∙ ap (λ x. Ok x) same

    count_through : (h : ℕ) → h / per_block n ≡ k → count n bs h ≡ through bs o (h % per_block n)
    count_through h e =
        ap (λ j. value (and_then (refcounts.block_at n bs j) (count_under n bs h))) e
        ∙ ap (λ r. value (and_then r (count_under n bs h))) read_back ∙ through_is n bs h o

  -- past the table's reach there is no count
  out_of_reach : (h : ℕ) → blocks n ≤ h / per_block n → count n bs h ≡ 0
  out_of_reach h le = ap (λ r. value (and_then r (count_under n bs h))) (cond-false (ltb (h / per_block n) (blocks n)) _ (Ok None) (le-ltb (h / per_block n) (blocks n) le))

  zero_here : (k : ℕ) (o : Option ℕ) (j : ℕ) → j < per_block n → clusters_of n bs ≤ k * per_block n + j → past_in n bs k (Ok o) ≡ 0 → through bs o j ≡ 0
  zero_here k None j lt le here = refl
  zero_here k (Some b) j lt le here =
      let no' = one_zero (past n bs k b j) (sum_zero (λ i. one (past n bs k b i)) (per_block n) 0 here j (omega arith) (omega arith)) in
      let v = value (word bs (held (b + j * 2)) 2) in
      elim (and_cases (leb (clusters_of n bs) (k * per_block n + j)) _ no') [
        | inl under ↦ absurd (both_ways (leb (clusters_of n bs) (k * per_block n + j)) under (le-leb (clusters_of n bs) (k * per_block n + j) le))
        | inr zero' ↦ eqb-true v 0 (not-false (eqb v 0) zero')
      ]

  -- no count past the end is leaked: all are zero
  pub none_beyond : (u : Unit {0}) → blocks_judged n bs ≡ Ok u → leaked_past n bs ≡ 0 → (h : ℕ) → clusters_of n bs ≤ h → count n bs h ≡ 0
  none_beyond u judged e h le = elim (cases_lt (h / per_block n) (blocks n)) [
    | inr far ↦ out_of_reach h far
    | inl lt ↦
        let k = h / per_block n in
        let found = each_is (block_at n bs) (blocks n) 0 u judged k lt in
        let b = found.0 in
        let same : k ≡ 0 + k = omega arith in
        let is : block_at n bs k ≡ Ok b = ap (block_at n bs) same ∙ found.1 in
        let here : past_in n bs k (Ok b) ≡ 0 = ap (past_in n bs k) (sym is) ∙ sum_zero (λ i. past_in n bs i (block_at n bs i)) (blocks n) 0 e k (omega arith) (omega arith) in
        count_through k b lt is h refl ∙ zero_here k b (h % per_block n) (mod_below h (per_block n) some) (omega (arith, div-add-mod' h (per_block n))) here
  ]

  -- and the other way round
  past_zero : (i : ℕ) (o : Option ℕ) → i < blocks n → block_at n bs i ≡ Ok o → ((h : ℕ) → clusters_of n bs ≤ h → count n bs h ≡ 0) → past_in n bs i (Ok o) ≡ 0
  past_zero i None lt is none = refl
  past_zero i (Some b) lt is none =
      zero_sum (λ j. one (past n bs i b j)) (per_block n) 0
      (λ j a c. zero_one (past n bs i b j) (elim (cases_lt (i * per_block n + j) (clusters_of n bs)) [
        | inl inside ↦ and_left (leb (clusters_of n bs) (i * per_block n + j)) _ (lt-leb (clusters_of n bs) (i * per_block n + j) inside)
        | inr beyond ↦
            let small' : j < per_block n = omega arith in
            let row = div-mul-add i (per_block n) j small' in
            let column = mod-mul-add i (per_block n) j small' in
            let v = value (word bs (held (b + j * 2)) 2) in
            let is_zero : v ≡ 0 = ap (through bs (Some b)) (sym column) ∙ sym (count_through i (Some b) lt is (i * per_block n + j) row) ∙ none (i * per_block n + j) beyond in
            and_right (leb (clusters_of n bs) (i * per_block n + j)) (not (eqb v 0)) (not_from_true (eqb v 0) (eq-eqb v 0 is_zero))
      ]))

  pub beyond_none : (u : Unit {0}) → blocks_judged n bs ≡ Ok u → ((h : ℕ) → clusters_of n bs ≤ h → count n bs h ≡ 0) → leaked_past n bs ≡ 0
  beyond_none u judged none =
      zero_sum (λ i. past_in n bs i (block_at n bs i)) (blocks n) 0
      (λ i a b.
      let found = each_is (block_at n bs) (blocks n) 0 u judged i (omega arith) in
      let same : i ≡ 0 + i = omega arith in
      let is : block_at n bs i ≡ Ok found.0 = ap (block_at n bs) same ∙ found.1 in
      ap (past_in n bs i) is ∙ past_zero i found.0 (omega arith) is none)
