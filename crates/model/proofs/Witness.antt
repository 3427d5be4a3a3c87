-- The law is not about nothing: clusters of three numbers, with tables of one entry, and an empty image that is clean.
use Rattle.std.proofs.Common.{◌≡◌, ℕ, zero, suc, ◌+◌, ◌<◌, Bool, true, false, cond, eqb, ◌⊎◌, List, [], ◌∷◌, length, get_or, set, refl, inl, inr, arith}
use Rattle.std.proofs.lemmas.Bool.{cond-true, cond-false, eq-eqb, ne_eqb, cases_eq}
use Rattle.model.specs.Clusters.{Cluster, Entry, hole, zeros, at, host, put, Shape, Laws}
use Rattle.model.specs.References.{State, hit, Weight, to_any, to_l1, to_l2, to_data, cell2, weigh}
use Rattle.model.specs.Calls.{Write, Take, step}
use Rattle.model.specs.Invariant.{Clean}
use Rattle.model.specs.Law.{Free, Writable, AllowedRun, sample, Witness}
use Rattle.model.proofs.Sums.{hit_other, hit_le, hit_cases}
use Rattle.model.proofs.Frame.{under_zero}

-- what an entry is, by its first number
entry_of : ℕ → ℕ → Entry
entry_of zero h = hole
entry_of (suc zero) h = zeros h
entry_of (suc (suc k)) h = at h

-- the flag of an entry that refers to a cluster, as a number
flag_of : ℕ → Bool → ℕ
flag_of zero f = 0
flag_of (suc h) true = 1
flag_of (suc h) false = 0

abbrev marked : (Cluster → ℕ) → Cluster → List Bool → Cluster
marked f c fs = get_or c 0 0 ∷ get_or c 1 0 ∷ flag_of (f c) (get_or fs 0 false) ∷ []

abbrev host2 : Cluster → ℕ
host2 c = host (entry_of (get_or c 0 0) (get_or c 1 0))

-- a cluster: the kind of its entry, the cluster that the entry names, the copied flag
abbrev tiny : Shape
tiny = record {
  size = 3;
  limit = 100;
  wide = 1;
  deep = 1;
  as1 = λ c. get_or c 1 0 ∷ [];
  as2 = λ c. entry_of (get_or c 0 0) (get_or c 1 0) ∷ [];
  flag1 = λ c. eqb (get_or c 2 0) 1 ∷ [];
  flag2 = λ c. eqb (get_or c 2 0) 1 ∷ [];
  put1 = λ c i x. 2 ∷ x ∷ 1 ∷ [];
  put2 = λ c j x. 2 ∷ x ∷ 1 ∷ [];
  fresh = 0 ∷ 0 ∷ 0 ∷ [];
  bare = λ c. get_or c 0 0 ∷ get_or c 1 0 ∷ 0 ∷ [];
  onto = λ a b. b;
  mark1 = marked (λ c. get_or c 1 0);
  mark2 = marked host2;
}

set_first : {X : Type 0} (i : ℕ) (y x : X) → i < 1 → x ∷ [] ≡ set (y ∷ []) i x
set_first zero y x lt = refl
set_first (suc i) y x lt = absurd (omega arith)

flag_some : (h : ℕ) (f : Bool) → 0 < h → eqb (flag_of h f) 1 ≡ f
unfolding flag_of
flag_some zero f pos = absurd (omega arith)
flag_some (suc h) true pos = refl
flag_some (suc h) false pos = refl

flag_none : (h : ℕ) (f : Bool) → h ≡ 0 → eqb (flag_of h f) 1 ≡ false
unfolding flag_of
flag_none zero f e = refl
flag_none (suc h) f e = absurd (omega arith)

-- the one entry of a table, of either level
first_some : {X : Type 0} (t : X → ℕ) (x d : X) (fs : List Bool) (i : ℕ) → i < 1 → 0 < t (get_or (x ∷ []) i d) → get_or (eqb (flag_of (t x) (get_or fs 0 false)) 1 ∷ []) i false ≡ get_or fs i false
first_some t x d fs zero lt pos = flag_some (t x) (get_or fs 0 false) pos
first_some t x d fs (suc i) lt pos = absurd (omega arith)

first_none : {X : Type 0} (t : X → ℕ) (x d : X) (fs : List Bool) (i : ℕ) → i < 1 → t (get_or (x ∷ []) i d) ≡ 0 → get_or (eqb (flag_of (t x) (get_or fs 0 false)) 1 ∷ []) i false ≡ false
first_none t x d fs zero lt e = flag_none (t x) (get_or fs 0 false) e
first_none t x d fs (suc i) lt e = absurd (omega arith)

tiny_laws : Laws tiny
unfolding entry_of
tiny_laws = record {
  length1 = λ c. refl;
  length2 = λ c. refl;
  flags1 = λ c. refl;
  flags2 = λ c. refl;
  set1 = λ c i x sized lt fits. set_first i (get_or c 1 0) x lt;
  set2 = λ c j x sized lt pos fits. set_first j (entry_of (get_or c 0 0) (get_or c 1 0)) (at x) lt;
  raise1 = λ c i x sized lt fits. set_first i (eqb (get_or c 2 0) 1) true lt;
  raise2 = λ c j x sized lt pos fits. set_first j (eqb (get_or c 2 0) 1) true lt;
  size1 = λ c i x sized lt. refl;
  size2 = λ c j x sized lt. refl;
  fresh2 = refl;
  sized = refl;
  bare_as1 = λ c sized. refl;
  bare_flag1 = λ c sized. refl;
  bare_size = λ c sized. refl;
  onto_as1 = λ a b sa sb. refl;
  onto_size = λ a b sa sb. sb;
  mark1_as1 = λ c fs sized len. refl;
  mark1_flag = λ c fs i sized len lt pos. first_some (λ x. x) (get_or c 1 0) 0 fs i lt pos;
  mark1_none = λ c fs i sized len lt none. first_none (λ x. x) (get_or c 1 0) 0 fs i lt none;
  mark1_size = λ c fs sized len. refl;
  mark2_as2 = λ c fs sized len. refl;
  mark2_flag = λ c fs j sized len lt pos. first_some host (entry_of (get_or c 0 0) (get_or c 1 0)) hole fs j lt pos;
  mark2_none = λ c fs j sized len lt none. first_none host (entry_of (get_or c 0 0) (get_or c 1 0)) hole fs j lt none;
  mark2_size = λ c fs sized len. refl;
}

-- the header in cluster 0
abbrev header : ℕ → ℕ
header h = cond (eqb h 0) 1 0

-- the live L1 table, with no entry, in cluster 1
abbrev empty : State
empty = record { heap = λ h. 0 ∷ 0 ∷ 0 ∷ []; count = λ h. header h + hit h 1; fixed = header; live = 1; snaps = [] }

light : (W : Weight) → weigh tiny W empty ≡ W.top 1
light W = omega (arith, under_zero tiny tiny_laws W empty.heap)

header_cases : (h : ℕ) → ((h ≡ 0) × (header h ≡ 1) × (hit h 1 ≡ 0)) ⊎ (((h ≡ 1) × (header h ≡ 0)) ⊎ ((header h ≡ 0) × (hit h 1 ≡ 0)))
header_cases h = elim (cases_eq h 0) [
  | inl e ↦ inl (e, cond-true {A = ℕ} (eqb h 0) 1 0 (eq-eqb h 0 e), hit_other h 1 (λ f. omega arith))
  | inr ne ↦ elim (hit_cases h 1) [
    | inl z ↦ inr (inr (cond-false {A = ℕ} (eqb h 0) 1 0 (ne_eqb h 0 ne), z))
    | inr e ↦ inr (inl (e, cond-false {A = ℕ} (eqb h 0) 1 0 (ne_eqb h 0 ne)))
  ]
]

no_table : (i : ℕ) → ◌≡◌ {A = ℕ} (get_or (0 ∷ []) i 0) 0
no_table zero = refl
no_table (suc i) = refl

empty_clean : Clean tiny empty
empty_clean = record {
  sound = record {
    counted = λ h. omega (arith, light (to_any h));
    once = λ h. omega (arith, light (to_l1 h), header_cases h, hit_le h 1);
    apart = λ h. omega (arith, light (to_l2 h), light (to_data h));
    kinds = λ h. omega (arith, light (to_l2 h), light (to_data h));
    single = record { now = λ h. omega (arith, light (to_any h), hit_le h 1); past = λ h. tt };
    within = λ h some. omega (arith, header_cases h);
    shaped = λ h. refl;
    there = omega arith;
    tables = tt;
  };
  flagged = record {
    top = λ i lt pos. absurd (omega (arith, pos, no_table i));
    low = λ i lt pos. absurd (omega (arith, pos, no_table i));
  };
}

-- two clusters that no one has used, for a write
abbrev unused : (s : State) (w : Cluster) (p q : ℕ) → length w ≡ 3 → Free tiny s p → Free tiny s q → (q ≡ p → ⊥) → Writable tiny s 0 0 (λ z. w) p q
unused s w p q sized freep freeq two = record { row = omega arith; column = omega arith; size = λ z. sized; table = λ _. freep; cell = λ _. freeq; two = λ _ _. two }

sample_allowed : (w : Cluster) → length w ≡ 3 → AllowedRun tiny empty (sample w)
unfolding hit put cell2 entry_of flag_of
sample_allowed w sized =
    let s = step tiny empty (Write 0 0 (λ z. w) 2 3) in
    let t = step tiny s (Take (97 ∷ []) 4) in
    let free : (r : State) (c : ℕ) → 0 < c → c < 100 → r.count c ≡ 0 → Free tiny r c = λ r c pos fits none. record { pos = pos; fits = fits; none = none } in (
      unused empty w 2 3 sized (free empty 2 (omega arith) (omega arith) refl) (free empty 3 (omega arith) (omega arith) refl) (λ e. omega arith),
      (
        free s 4 (omega arith) (omega arith) refl,
        (
          unused t w 5 6 sized (free t 5 (omega arith) (omega arith) refl) (free t 6 (omega arith) (omega arith) refl) (λ e. omega arith),
          (omega arith, (omega arith, tt)),
        ),
      ),
    )

pub witness : Witness Clean
witness = record { shape = tiny; laws = tiny_laws; state = empty; starts = empty_clean; allowed = sample_allowed }
