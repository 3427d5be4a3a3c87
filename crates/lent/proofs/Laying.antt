-- Content laid out in lists is in use again as far as it fits, and is read back whole. Assumes nothing.
use Rattle.std.proofs.Common.{◌≡◌, ℕ, ◌+◌, ◌-◌, ◌≤◌, min, ◌⊎◌, List, [], ◌++◌, length, take, drop, replicate, Result, sym, refl, ap, ◌∙◌, inl, inr, arith, length-drop, length-take, take-add}
use Rattle.std.proofs.lemmas.List.{append-nil, append_assoc, take_all, take_at, take_rest, drop_all}
use Rattle.std.proofs.lemmas.Bool.{cases_lt}
use Rattle.fault.specs.declared.Fault.{Fault}
use Rattle.fault.specs.Outcomes.{Gives}
use Rattle.byte_lists.specs.Runs.{run}
use Rattle.store.specs.Stores.{load}
use Rattle.store.specs.Calls.{after}
use Rattle.store.proofs.Outcomes.{loads, left_after}
use Rattle.lent.specs.Lists.{laid}

-- the front of a list, with something behind it only if all of the list is in that front
cut : (bs ys : List ℕ) (n : ℕ) → (length bs ≤ n) ⊎ (ys ≡ []) → take (length bs) (take n bs ++ ys) ≡ take n bs
cut bs ys n (inl le) = let all = take_all n bs le in ap (λ l. take (length bs) (l ++ ys)) all ∙ take_at bs ys (length bs) refl ∙ sym all
cut bs ys n (inr e) =
    let short : length (take n bs) ≤ length bs = simp length-take (omega arith) in
    ap (λ l. take (length bs) (take n bs ++ l)) e ∙ ap (take (length bs)) (append-nil (take n bs)) ∙ take_all (length bs) (take n bs) short

no_blanks : (m k : ℕ) → m ≤ k → replicate {A = ℕ} (m - k) 0xee ≡ []
no_blanks m k le = let none : m - k ≡ 0 = omega arith in ap (λ j. replicate {A = ℕ} j 0xee) none

pub flat : (bs : List ℕ) (n : ℕ) → take (length bs) (laid n bs) ≡ take n bs
flat bs n = cut bs (replicate (n - length bs) 0xee) n (elim (cases_lt n (length bs)) [ inl lt ↦ inr (no_blanks n (length bs) (omega arith)) | inr le ↦ inl le ])

in_two : (bs : List ℕ) (m n : ℕ) → take (length bs) (laid m bs ++ laid n (drop m bs)) ≡ take (m + n) bs
in_two bs m n = elim (cases_lt m (length bs)) [
  | inl lt ↦
      let r = replicate {A = ℕ} (n - length (drop m bs)) 0xee in
      let front : laid m bs ≡ take m bs = ap (λ l. take m bs ++ l) (no_blanks m (length bs) (omega arith)) ∙ append-nil (take m bs) in
      let whole : laid m bs ++ laid n (drop m bs) ≡ take (m + n) bs ++ r = ap (λ l. l ++ laid n (drop m bs)) front ∙ sym (append_assoc (take m bs) (take n (drop m bs)) r) ∙ ap (λ l. l ++ r) (sym (take-add m n bs)) in
      let rest : (length bs ≤ m + n) ⊎ (r ≡ []) = elim (cases_lt (m + n) (length bs)) [ inl past ↦ inr (no_blanks n (length (drop m bs)) (simp length-drop (omega arith))) | inr le ↦ inl le ] in
      ap (take (length bs)) whole ∙ cut bs r (m + n) rest
  | inr le ↦
      let r = replicate {A = ℕ} (m - length bs) 0xee in
      ap (take (length bs)) (append_assoc (take m bs) r (laid n (drop m bs))) ∙ cut bs (r ++ laid n (drop m bs)) m (inl le) ∙ take_all m bs le ∙ sym (take_all (m + n) bs (omega arith))
]

-- what lies behind the first list's content
behind : (bs : List ℕ) (m seam : ℕ) → seam ≡ min (length bs) m → take (length bs - seam) (drop seam bs) ≡ drop m bs
behind bs m seam e = take_rest bs seam ∙ elim (cases_lt (length bs) m) [
  | inl lt ↦ drop_all seam bs (omega arith) ∙ sym (drop_all m bs (omega arith))
  | inr le ↦ let same : seam ≡ m = omega arith in ap (λ k. drop k bs) same
]

pub split : (bs front back : List ℕ) (m n seam : ℕ) → front ≡ laid m bs → seam ≡ min (length bs) m → back ≡ laid n (take (length bs - seam) (drop seam bs)) → take (length bs) (front ++ back) ≡ take (m + n) bs
split bs front back m n seam f s b = ap (λ l. take (length bs) (l ++ back)) f ∙ ap (λ l. take (length bs) (laid m bs ++ l)) (b ∙ ap (laid n) (behind bs m seam s)) ∙ in_two bs m n

-- a run of all bytes
all_run : (bs : List ℕ) (n : ℕ) → n ≡ length bs → run bs 0 n ≡ bs
unfolding run
all_run bs n e = take_all n bs (omega arith)

-- a list that a read has written over from end to end
pub read_whole : (r : Result (Unit {0}) Fault) (bs buffer out items : List ℕ) (n : ℕ) → Gives r (load bs 0 (length buffer)) buffer out → length buffer ≡ length bs → n ≡ length bs → take n (out ++ drop (length out) items) ≡ bs
read_whole r bs buffer out items n g whole e =
    let read : out ≡ bs = left_after r (load bs 0 (length buffer)) buffer out g ∙ ap (after buffer) (loads bs 0 (length buffer) bs (omega arith) (all_run bs (length buffer) whole)) in
    take_at out (drop (length out) items) n (ap length read ∙ sym e) ∙ read
