-- All five totals are zero exactly where the image is lawful. Assumes nothing.
use Rattle.std.proofs.Common.{◌≡◌, ℕ, Option, None, Some, IfSome, ◌+◌, ◌*◌, ◌/◌, ◌<◌, ◌≤◌, Bool, true, false, cond, not, ◌&&◌, eqb, leb, List, Ok, Err, Result, sym, refl, ap, ◌∙◌, inl, inr, arith}
use Rattle.std.proofs.lemmas.Bool.{and_parts, and_from, and_left, and_right, and_cases, or_parts, or_from, cases_Bool, eqb-true, eq-eqb, ne_eqb, eqb-false, ltb-false, le-ltb, le-leb, lt-leb, leb-false, leb-true, both_ways}
use Rattle.fault.specs.declared.Fault.{Fault}
use Rattle.fault.proofs.Outcomes.{then_ok, ok_same}
use Rattle.byte_lists.specs.Runs.{Octets}
use Rattle.format.specs.declared.numbers.Numbers.{Numbers}
use Rattle.format.specs.Clusters.{cluster, per_table}
use Rattle.format.specs.declared.entries.Entry.{Entry}
use Rattle.tables.specs.Refcounts.{count}
use Rattle.snapshot.specs.declared.records.Snapshot.{Snapshot}
use Rattle.guest.specs.Shown.{l1_at}
use Rattle.walk.specs.References.{l2_at, entries_of, references}
use Rattle.walk.specs.Walk.{blocks_judged, walk}
use Rattle.tally.specs.Tally.{times, kind_from, twice}
use Rattle.image_check.specs.Totals.{sum, one, clusters_of, held_times, leaks, lacks, repeats, leaked, short, mixed, repeated, wrong_at, wrong, wrong_in, l2_wrong, under_wrong, branch_wrong, flags}
use Rattle.image_check.specs.Outcome.{totals_of, found_clean}
use Rattle.image_check.specs.Lawful.{Flag, Lawful}
use Rattle.image_check.proofs.Sums.{sum_zero, zero_sum, one_zero, zero_one}
use Rattle.image_check.proofs.Counted.{count_below, none_beyond, beyond_none}

-- a flag that is not wrong
right : (copied q : Bool) → cond copied (not q) q ≡ false → copied ≡ q
right true true e = refl
right true false e = e
right false q e = sym e

not-wrong : (copied q : Bool) → copied ≡ q → cond copied (not q) q ≡ false
not-wrong true q e = ap not (sym e)
not-wrong false q e = sym e

module _ (n : Numbers) (bs : List ℕ) where
  right_at : (copied : Bool) (o : Option ℕ) → wrong_at n bs copied o ≡ false → IfSome o (λ at. copied ≡ eqb (count n bs (at / cluster n)) 1)
  right_at copied None w = tt
  right_at copied (Some at) w = right copied (eqb (count n bs (at / cluster n)) 1) w

  flag_right : (e : Entry) → wrong n bs e ≡ false → Flag n bs e
  flag_right e w = right_at e.copied e.offset w

  at_right : (copied : Bool) (o : Option ℕ) → IfSome o (λ at. copied ≡ eqb (count n bs (at / cluster n)) 1) → wrong_at n bs copied o ≡ false
  at_right copied None f = refl
  at_right copied (Some at) f = not-wrong copied (eqb (count n bs (at / cluster n)) 1) f

  right_flag : (e : Entry) → Flag n bs e → wrong n bs e ≡ false
  right_flag e f = at_right e.copied e.offset f

  -- the flags of a branch
  l2_zero : (r : Result Entry Fault) → ((e : Entry) → r ≡ Ok e → Flag n bs e) → wrong_in n bs r ≡ 0
  l2_zero (Ok e) h = zero_one (wrong n bs e) (right_flag e (h e refl))
  l2_zero (Err f) h = refl

  under_zero : (i : ℕ) (o : Option ℕ) → ((l2 g : ℕ) (e : Entry) → o ≡ Some l2 → i * per_table n ≤ g → g < i * per_table n + per_table n → l2_at n bs l2 g ≡ Ok e → Flag n bs e) → under_wrong n bs i o ≡ 0
  under_zero i None low = refl
  under_zero i (Some l2) low = zero_sum (λ g. wrong_in n bs (l2_at n bs l2 g)) (per_table n) (i * per_table n) (λ g a b. l2_zero (l2_at n bs l2 g) (λ e is. low l2 g e refl a b is))

  branch_zero : (i : ℕ) (r : Result Entry Fault) → ((t : Entry) → r ≡ Ok t → Flag n bs t) →
      ((t e : Entry) (l2 g : ℕ) → r ≡ Ok t → t.offset ≡ Some l2 → i * per_table n ≤ g → g < i * per_table n + per_table n → l2_at n bs l2 g ≡ Ok e → Flag n bs e) → branch_wrong n bs i r ≡ 0
  branch_zero i (Ok t) top low = omega (arith, zero_one (wrong n bs t) (right_flag t (top t refl)), under_zero i t.offset (λ l2 g e some a b is. low t e l2 g refl some a b is))
  branch_zero i (Err f) top low = refl

-- a kind of 1 to 6 that is named at most once
few : (k t : ℕ) → (1 ≤ k → k ≤ 6 → t ≤ 1) → (leb 1 k && (leb k 6 && leb 2 t)) ≡ false
few k t once = elim (cases_Bool (leb 1 k)) [
  | inr a ↦ and_left (leb 1 k) _ a
  | inl low ↦ and_right (leb 1 k) _ (elim (cases_Bool (leb k 6)) [
    | inr b ↦ and_left (leb k 6) _ b
    | inl high ↦ and_right (leb k 6) _ (lt-leb 2 t (omega (arith, once (leb-true 1 k low) (leb-true k 6 high))))
  ])
]

module _ (n : Numbers) (bs : List ℕ) (rs : List Snapshot) (o : Octets bs) (good : walk n bs ≡ Ok rs) where
  judged : (u : Unit {0}) × (blocks_judged n bs ≡ Ok u)
  judged = let a = then_ok (blocks_judged n bs) _ rs good in (a.0, a.1.0)

  -- sums over the store's clusters
  all_zero : (f : ℕ → Bool) → sum (λ h. one (f h)) 0 (clusters_of n bs) ≡ 0 → (h : ℕ) → h < clusters_of n bs → f h ≡ false
  all_zero f e h lt = one_zero (f h) (sum_zero (λ k. one (f k)) (clusters_of n bs) 0 e h (omega arith) (omega arith))

  zero_all : (f : ℕ → Bool) → ((h : ℕ) → h < clusters_of n bs → f h ≡ false) → sum (λ h. one (f h)) 0 (clusters_of n bs) ≡ 0
  zero_all f h = zero_sum (λ k. one (f k)) (clusters_of n bs) 0 (λ j a b. zero_one (f j) (h j (omega arith)))

  module _ (l : leaked n bs (references n bs rs) ≡ 0) (s : short n bs (references n bs rs) ≡ 0) where
    counts : (h : ℕ) → h < clusters_of n bs → count n bs h ≡ times h (references n bs rs)
    counts h lt =
        let refs = references n bs rs in
        let above = ltb-false (held_times refs h) (count n bs h) (all_zero (λ k. leaks (held_times refs k) (count n bs k)) (omega (arith, l)) h lt) in
        let below = ltb-false (count n bs h) (held_times refs h) (all_zero (λ k. lacks (held_times refs k) (count n bs k)) s h lt) in
        omega (arith, above, below, count_below n bs h o)

  module _ (r : repeated n bs rs (references n bs rs) ≡ 0) where
    parts : (h : ℕ) → h < clusters_of n bs → (twice n bs rs h ≡ false) × ((leb 1 (kind_from h 0 (references n bs rs)) && (leb (kind_from h 0 (references n bs rs)) 6 && leb 2 (held_times (references n bs rs) h))) ≡ false)
    parts h lt = or_parts (twice n bs rs h) _ (all_zero (λ k. repeats (kind_from k 0 (references n bs rs)) (held_times (references n bs rs) k) (twice n bs rs k)) r h lt)

    named_once : (h : ℕ) → h < clusters_of n bs → 1 ≤ kind_from h 0 (references n bs rs) → kind_from h 0 (references n bs rs) ≤ 6 → times h (references n bs rs) ≤ 1
    named_once h lt low high =
        let k = kind_from h 0 (references n bs rs) in
        elim (and_cases (leb 1 k) _ (parts h lt).1) [
          | inl a ↦ absurd (both_ways (leb 1 k) a (le-leb 1 k low))
          | inr b ↦ elim (and_cases (leb k 6) _ b) [
            | inl c ↦ absurd (both_ways (leb k 6) c (le-leb k 6 high))
            | inr d ↦ omega (arith, leb-false 2 (held_times (references n bs rs) h) d)
          ]
        ]

  module _ (f : flags n bs ≡ 0) where
    branch_none : (i : ℕ) (t : Entry) → i < entries_of n → l1_at n bs n.l1 i ≡ Ok t → branch_wrong n bs i (Ok t) ≡ 0
    branch_none i t lt is = ap (branch_wrong n bs i) (sym is) ∙ sum_zero (λ k. branch_wrong n bs k (l1_at n bs n.l1 k)) (entries_of n) 0 f i (omega arith) (omega arith)

    top_flags : (i : ℕ) (e : Entry) → i < entries_of n → l1_at n bs n.l1 i ≡ Ok e → Flag n bs e
    top_flags i e lt is = flag_right n bs e (one_zero (wrong n bs e) (omega (arith, branch_none i e lt is)))

    low_flags : (i g l2 : ℕ) (t e : Entry) → i < entries_of n → l1_at n bs n.l1 i ≡ Ok t → t.offset ≡ Some l2 → i * per_table n ≤ g → g < i * per_table n + per_table n → l2_at n bs l2 g ≡ Ok e → Flag n bs e
    low_flags i g l2 t e lt is some a b found =
        let rest : l2_wrong n bs l2 (i * per_table n) ≡ 0 = omega (arith, ap (under_wrong n bs i) some, branch_none i t lt is) in
        let here = ap (wrong_in n bs) (sym found) ∙ sum_zero (λ k. wrong_in n bs (l2_at n bs l2 k)) (per_table n) (i * per_table n) rest g a b in
        flag_right n bs e (one_zero (wrong n bs e) here)

  pub clean_lawful : found_clean (totals_of n bs rs) ≡ true → Lawful n bs rs
  clean_lawful e =
      let refs = references n bs rs in
      let a = and_parts (eqb (leaked n bs refs) 0) _ e in
      let b = and_parts (eqb (short n bs refs) 0) _ a.1 in
      let c = and_parts (eqb (mixed n bs refs) 0) _ b.1 in
      let d = and_parts (eqb (repeated n bs rs refs) 0) _ c.1 in
      let l = eqb-true (leaked n bs refs) 0 a.0 in
      let s = eqb-true (short n bs refs) 0 b.0 in
      let m = eqb-true (mixed n bs refs) 0 c.0 in
      let r = eqb-true (repeated n bs rs refs) 0 d.0 in
      let f = eqb-true (flags n bs) 0 d.1 in
      record {
        counted = counts l s;
        beyond = none_beyond n bs judged.0 judged.1 (omega (arith, l));
        kinds = λ h lt. eqb-false (kind_from h 0 refs) 15 (all_zero (λ k. eqb (kind_from k 0 refs) 15) m h lt);
        named = named_once r;
        reached = λ h lt. (parts r h lt).0;
        flags1 = top_flags f;
        flags2 = low_flags f;
      }

  pub lawful_clean : Lawful n bs rs → found_clean (totals_of n bs rs) ≡ true
  lawful_clean w =
      let refs = references n bs rs in
      let held-is : (h : ℕ) → h < clusters_of n bs → held_times refs h ≡ count n bs h = λ h lt. omega (arith, w.counted h lt, count_below n bs h o) in
      let none = zero_all (λ h. leaks (held_times refs h) (count n bs h)) (λ h lt. le-ltb (held_times refs h) (count n bs h) (omega (arith, held-is h lt))) in
      let past = beyond_none n bs judged.0 judged.1 w.beyond in
      let l : leaked n bs refs ≡ 0 = omega (arith, none, past) in
      let s : short n bs refs ≡ 0 = zero_all (λ h. lacks (held_times refs h) (count n bs h)) (λ h lt. le-ltb (count n bs h) (held_times refs h) (omega (arith, held-is h lt))) in
      let m : mixed n bs refs ≡ 0 = zero_all (λ h. eqb (kind_from h 0 refs) 15) (λ h lt. ne_eqb (kind_from h 0 refs) 15 (w.kinds h lt)) in
      let r : repeated n bs rs refs ≡ 0 = zero_all (λ h. repeats (kind_from h 0 refs) (held_times refs h) (twice n bs rs h)) (λ h lt. or_from (twice n bs rs h) _ (w.reached h lt) (few (kind_from h 0 refs) (held_times refs h) (λ p q. omega (arith, w.named h lt p q)))) in
      let f : flags n bs ≡ 0 =
      zero_sum (λ i. branch_wrong n bs i (l1_at n bs n.l1 i)) (entries_of n) 0
      (λ i a b. branch_zero n bs i (l1_at n bs n.l1 i) (λ t is. w.flags1 i t (omega arith) is) (λ t e l2 g is some low high found. w.flags2 i g l2 t e (omega arith) is some low high found)) in
      and_from (eqb (leaked n bs refs) 0) _ (eq-eqb (leaked n bs refs) 0 l)
      (and_from (eqb (short n bs refs) 0) _ (eq-eqb (short n bs refs) 0 s)
      (and_from (eqb (mixed n bs refs) 0) _ (eq-eqb (mixed n bs refs) 0 m)
      (and_from (eqb (repeated n bs rs refs) 0) _ (eq-eqb (repeated n bs rs refs) 0 r) (eq-eqb (flags n bs) 0 f))))

-- the same of what is counted under a header
module _ (header : Result Numbers Fault) (bs : List ℕ) (o : Octets bs) (m : Numbers) (kept : List Snapshot) (t : ℕ × ℕ × ℕ × ℕ × ℕ) (from : header ≡ Ok m) (walked : walk m bs ≡ Ok kept) (counted : t ≡ totals_of m bs kept) where
  pub law_of : (n : Numbers) (rs : List Snapshot) → header ≡ Ok n → walk n bs ≡ Ok rs → (found_clean t ≡ true → Lawful n bs rs) × (Lawful n bs rs → found_clean t ≡ true)
  law_of n rs is good =
      let numbers : n ≡ m = ok_same n m (sym is ∙ from) in
      let list : rs ≡ kept = ok_same rs kept (sym good ∙ ap (λ x. walk x bs) numbers ∙ walked) in
      let same : totals_of n bs rs ≡ t = ap (λ x. totals_of x bs rs) numbers ∙ ap (totals_of m bs) list ∙ sym counted in
      (λ c. clean_lawful n bs rs o good (ap found_clean same ∙ c), λ l. ap found_clean (sym same) ∙ lawful_clean n bs rs o good l)
