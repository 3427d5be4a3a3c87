-- What a cluster's word is after a list of references. Assumes nothing.
use Rattle.std.proofs.Common.{◌≡◌, ℕ, zero, suc, ◌+◌, ◌<◌, ◌≤◌, min, Bool, true, false, cond, eqb, leb, List, [], ◌∷◌, ◌++◌, length, get_or, set, sym, refl, ap, ◌∙◌, subst, inl, inr, add-zero, arith, length-set}
use Rattle.std.proofs.lemmas.List.{get_or-set_same, get_or-set_other}
use Rattle.std.proofs.lemmas.Bool.{cond-true, cond-false, cases_eq, eq-eqb, ne_eqb, le-leb, lt-leb}
use Rattle.walk.specs.declared.kinds.Kind.{Kind}
use Rattle.walk.specs.declared.kinds.Kind.TheVariants.{Header, RefcountTable, Block, LiveL1, SnapshotTable, SnapshotL1, L2, Data}
use Rattle.walk.specs.References.{Ref, kind_number}
use Rattle.tally.specs.Tally.{times, merged, kind_from}
use Rattle.tally.specs.Words.{reached, packed, noted, unseen}
use Rattle.tally.specs.Filling.{Pass, Note, Forget, word_after, touched, all_touched}
use Rattle.tally.proofs.Marks.{Fits, Named, noted_is, unseen_is, merged_fits, unseen_fits}

-- one cluster's word after a list of references
abbrev pub at_host : Pass → ℕ → List Ref → ℕ → ℕ
at_host pass h [] w = w
at_host pass h (r ∷ rs) w = at_host pass h rs (cond (eqb h r.host) (word_after pass r.kind w) w)

pub length-touched : (pass : Pass) (rs : List Ref) (words : List ℕ) → length (all_touched pass rs words) ≡ length words
length-touched pass [] words = refl
length-touched pass (r ∷ rs) words = length-touched pass rs (touched pass r words) ∙ length-set words r.host _

touched_at : (pass : Pass) (r : Ref) (words : List ℕ) (h : ℕ) → h < length words → get_or (touched pass r words) h 0 ≡ cond (eqb h r.host) (word_after pass r.kind (get_or words h 0)) (get_or words h 0)
touched_at pass r words h lt = elim (cases_eq h r.host) [
  | inl e ↦
      ap (λ k. get_or (set words k (word_after pass r.kind (get_or words k 0))) h 0) (sym e)
      ∙ get_or-set_same words h (word_after pass r.kind (get_or words h 0)) 0 lt
      ∙ sym (cond-true (eqb h r.host) _ _ (eq-eqb h r.host e))
  | inr ne ↦ get_or-set_other words r.host h _ 0 ne ∙ sym (cond-false (eqb h r.host) _ _ (ne_eqb h r.host ne))
]

pub all_at : (pass : Pass) (rs : List Ref) (words : List ℕ) (h : ℕ) → h < length words → get_or (all_touched pass rs words) h 0 ≡ at_host pass h rs (get_or words h 0)
all_at pass [] words h lt = refl
all_at pass (r ∷ rs) words h lt =
    all_at pass rs (touched pass r words) h (subst (λ k. h < k) (sym (length-set words r.host _)) lt)
    ∙ ap (at_host pass h rs) (touched_at pass r words h lt)

pub kind_named : (k : Kind) → Named (kind_number k)
kind_named Header = record { low = omega arith; high = omega arith }
kind_named RefcountTable = record { low = omega arith; high = omega arith }
kind_named Block = record { low = omega arith; high = omega arith }
kind_named LiveL1 = record { low = omega arith; high = omega arith }
kind_named SnapshotTable = record { low = omega arith; high = omega arith }
kind_named SnapshotL1 = record { low = omega arith; high = omega arith }
kind_named L2 = record { low = omega arith; high = omega arith }
kind_named Data = record { low = omega arith; high = omega arith }

-- the mark of a cluster after a list of references
abbrev pub mark_from : ℕ → ℕ → List Ref → ℕ
mark_from h m [] = m
mark_from h m (r ∷ rs) = mark_from h (cond (eqb h r.host) (reached (kind_number r.kind) m) m) rs

-- a packed word, after references are noted
abbrev NotedAs : ℕ → List Ref → ℕ → ℕ → ℕ → Type 0
NotedAs h rs j m t = (at_host Note h rs (packed j m t) ≡ packed (kind_from h j rs) (mark_from h m rs) (t + times h rs)) × Fits (kind_from h j rs) (mark_from h m rs)

noted_step : (h : ℕ) (rs : List Ref) (kind : Kind) (j m t : ℕ) → Fits j m → ((i n u : ℕ) → Fits i n → NotedAs h rs i n u) → (b : Bool) →
    (at_host Note h rs (cond b (noted (kind_number kind) (packed j m t)) (packed j m t))
    ≡ packed (kind_from h (cond b (merged j (kind_number kind)) j) rs) (mark_from h (cond b (reached (kind_number kind) m) m) rs) (t + (cond b 1 0 + times h rs)))
    × Fits (kind_from h (cond b (merged j (kind_number kind)) j) rs) (mark_from h (cond b (reached (kind_number kind) m) m) rs)
noted_step h rs kind j m t fits rest true =
    let k = kind_number kind in
    let r = rest (merged j k) (reached k m) (t + 1) (merged_fits k (kind_named kind) fits) in
    (ap (at_host Note h rs) (noted_is t fits k) ∙ r.0 ∙ ap (packed (kind_from h (merged j k) rs) (mark_from h (reached k m) rs)) (omega arith), r.1)
noted_step h rs kind j m t fits rest false =
    let r = rest j m t fits in
    (r.0 ∙ ap (packed (kind_from h j rs) (mark_from h m rs)) (omega arith), r.1)

pub noted_all : (h : ℕ) (rs : List Ref) (j m t : ℕ) → Fits j m → NotedAs h rs j m t
noted_all h [] j m t fits = (ap (packed j m) (sym (add-zero t)), fits)
noted_all h (r ∷ rs) j m t fits = noted_step h rs r.kind j m t fits (λ i n u f. noted_all h rs i n u f) (eqb h r.host)

-- a mark that a walk takes back: 2 stays, and so does what was not reached
abbrev pub back : ℕ → ℕ
back m = cond (eqb m 2) 2 0

back_twice : (m : ℕ) → back (back m) ≡ back m
back_twice m = elim (cases_eq m 2) [
  | inl e ↦ ap back (cond-true (eqb m 2) 2 0 (eq-eqb m 2 e)) ∙ sym (cond-true (eqb m 2) 2 0 (eq-eqb m 2 e))
  | inr ne ↦ ap back (cond-false (eqb m 2) 2 0 (ne_eqb m 2 ne)) ∙ sym (cond-false (eqb m 2) 2 0 (ne_eqb m 2 ne))
]

abbrev pub taken_back : ℕ → ℕ → ℕ
taken_back zero m = m
taken_back (suc k) m = back m

back_more : (k m : ℕ) → taken_back k (back m) ≡ back m
back_more zero m = refl
back_more (suc k) m = back_twice m

abbrev ForgotAs : ℕ → List Ref → ℕ → ℕ → ℕ → Type 0
ForgotAs h rs j m t = (at_host Forget h rs (packed j m t) ≡ packed j (taken_back (times h rs) m) t) × Fits j (taken_back (times h rs) m)

forgot_step : (h : ℕ) (rs : List Ref) (j m t : ℕ) → Fits j m → ((n : ℕ) → Fits j n → ForgotAs h rs j n t) → (b : Bool) →
    (at_host Forget h rs (cond b (unseen (packed j m t)) (packed j m t)) ≡ packed j (taken_back (cond b 1 0 + times h rs) m) t) × Fits j (taken_back (cond b 1 0 + times h rs) m)
forgot_step h rs j m t fits rest true =
    let r = rest (back m) (unseen_fits fits) in
    let one : suc (times h rs) ≡ 1 + times h rs = omega arith in
    let is : taken_back (times h rs) (back m) ≡ taken_back (1 + times h rs) m = back_more (times h rs) m ∙ ap (λ k. taken_back k m) one in
    (ap (at_host Forget h rs) (unseen_is t fits) ∙ r.0 ∙ ap (λ x. packed j x t) is, subst (Fits j) is r.1)
forgot_step h rs j m t fits rest false =
    let r = rest m fits in
    let none : times h rs ≡ 0 + times h rs = omega arith in
    let is : taken_back (times h rs) m ≡ taken_back (0 + times h rs) m = ap (λ k. taken_back k m) none in
    (r.0 ∙ ap (λ x. packed j x t) is, subst (Fits j) is r.1)

pub forgot_all : (h : ℕ) (rs : List Ref) (j m t : ℕ) → Fits j m → ForgotAs h rs j m t
forgot_all h [] j m t fits = (refl, fits)
forgot_all h (r ∷ rs) j m t fits = forgot_step h rs j m t fits (λ n f. forgot_all h rs j n t f) (eqb h r.host)

-- references that are all reached from an L1 table, and such that none is
abbrev pub Deep : List Ref → Type 0
Deep [] = Unit {0}
Deep (r ∷ rs) = (7 ≤ kind_number r.kind) × Deep rs

abbrev pub Flat : List Ref → Type 0
Flat [] = Unit {0}
Flat (r ∷ rs) = (kind_number r.kind < 7) × Flat rs

deep_step : (h m k : ℕ) (rs : List Ref) → 7 ≤ k → m ≤ 2 → ((n : ℕ) → n ≤ 2 → mark_from h n rs ≡ min 2 (n + times h rs)) → (b : Bool) → mark_from h (cond b (reached k m) m) rs ≡ min 2 (m + (cond b 1 0 + times h rs))
deep_step h m k rs high le rest true =
    let is : reached k m ≡ min 2 (m + 1) = cond-true (leb 7 k) (min 2 (m + 1)) m (le-leb 7 k high) in
    ap (λ x. mark_from h x rs) is ∙ rest (min 2 (m + 1)) (omega arith) ∙ omega arith
deep_step h m k rs high le rest false = rest m le ∙ omega arith

pub mark_deep : (h m : ℕ) (rs : List Ref) → Deep rs → m ≤ 2 → mark_from h m rs ≡ min 2 (m + times h rs)
mark_deep h m [] d le = omega arith
mark_deep h m (r ∷ rs) d le = deep_step h m (kind_number r.kind) rs d.0 le (λ n f. mark_deep h n rs d.1 f) (eqb h r.host)

flat_step : (h m k : ℕ) (rs : List Ref) → k < 7 → ((n : ℕ) → mark_from h n rs ≡ n) → (b : Bool) → mark_from h (cond b (reached k m) m) rs ≡ m
flat_step h m k rs low rest true = rest (reached k m) ∙ cond-false (leb 7 k) (min 2 (m + 1)) m (lt-leb 7 k low)
flat_step h m k rs low rest false = rest m

pub mark_flat : (h m : ℕ) (rs : List Ref) → Flat rs → mark_from h m rs ≡ m
mark_flat h m [] f = refl
mark_flat h m (r ∷ rs) f = flat_step h m (kind_number r.kind) rs f.0 (λ n. mark_flat h n rs f.1) (eqb h r.host)

-- lists one behind the other
pub times-append : (h : ℕ) (xs ys : List Ref) → times h (xs ++ ys) ≡ times h xs + times h ys
times-append h [] ys = omega arith
times-append h (x ∷ xs) ys = omega (arith, times-append h xs ys)

pub kind_append : (h j : ℕ) (xs ys : List Ref) → kind_from h j (xs ++ ys) ≡ kind_from h (kind_from h j xs) ys
kind_append h j [] ys = refl
kind_append h j (x ∷ xs) ys = kind_append h (cond (eqb h x.host) (merged j (kind_number x.kind)) j) xs ys

pub deep_append : (xs ys : List Ref) → Deep xs → Deep ys → Deep (xs ++ ys)
deep_append [] ys p q = q
deep_append (x ∷ xs) ys p q = (p.0, deep_append xs ys p.1 q)

pub flat_append : (xs ys : List Ref) → Flat xs → Flat ys → Flat (xs ++ ys)
flat_append [] ys p q = q
flat_append (x ∷ xs) ys p q = (p.0, flat_append xs ys p.1 q)
