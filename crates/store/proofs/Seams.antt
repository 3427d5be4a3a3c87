-- Runs across the seam of two lists. Assumes nothing.
use Rattle.std.proofs.Common.{◌≡◌, ℕ, ◌+◌, ◌-◌, ◌<◌, ◌≤◌, min, List, ◌++◌, length, get_or, sym, refl, ap, ◌∙◌, subst, inl, inr, arith, length-append}
use Rattle.std.proofs.lemmas.List.{ext_get_or, get_or_append_left, get_or-append_right}
use Rattle.std.proofs.lemmas.Bool.{cases_lt}
use Rattle.byte_lists.specs.Runs.{run, put, zeros}
use Rattle.store.specs.Split.{Across}
use Rattle.byte_lists.proofs.Runs.{length_run, get_or-run, length-put, get_or-put_below, get_or-put_inside, get_or-put_above, length-zeros, run-zeros}

-- the cut that takes as much before the seam as there is
pub across : (at n seam k low high : ℕ) → k ≡ min n (seam - at) → low ≡ min at seam → high ≡ at - seam → Across at n seam k low high
across at n seam k low high e f g = record {
  few = omega (arith, e);
  front = omega (arith, e, f);
  back = omega (arith, e, g);
  here = λ h. omega (arith, e, f, h);
  there = λ h. omega (arith, e, g, h);
  least = omega (arith, f);
  behind = λ h. omega (arith, g, h);
  ahead = λ h. omega (arith, g, h);
}

module _ (a b : List ℕ) (at n k low high : ℕ) (fits : at + n ≤ length a + length b) (c : Across at n (length a) k low high) where
  long_back : high + (n - k) ≤ length b
  long_back = omega (arith, c.back, c.few)

  -- a run: its bytes before the seam, then those behind it
  pub run_seam : run a low k ++ run b high (n - k) ≡ run (a ++ b) at n
  run_seam =
      let f : length (run a low k) ≡ k = length_run a low k c.front in
      let g : length (run b high (n - k)) ≡ n - k = length_run b high (n - k) long_back in
      let h : length (run (a ++ b) at n) ≡ n = length_run (a ++ b) at n (omega (arith, length-append a b)) in
      let long : length (run a low k ++ run b high (n - k)) ≡ n = length-append (run a low k) (run b high (n - k)) ∙ omega (arith, c.few) in
      ext_get_or 0 (run a low k ++ run b high (n - k)) (run (a ++ b) at n) (long ∙ sym h) λ j lt.
      elim (cases_lt j k) [
        | inl below ↦ let e = c.here (omega arith) in
            get_or_append_left (run a low k) (run b high (n - k)) 0 j (omega arith)
            ∙ get_or-run a low k j below
            ∙ ap (λ p. get_or a p 0) (omega (arith, e))
            ∙ sym (get_or-run (a ++ b) at n j (omega arith) ∙ get_or_append_left a b 0 (at + j) (omega (arith, e, c.front)))
        | inr above ↦ let e = c.there (omega arith) in
            get_or-append_right (run a low k) (run b high (n - k)) k j 0 f above
            ∙ get_or-run b high (n - k) (j - k) (omega arith)
            ∙ ap (λ p. get_or b p 0) (omega (arith, e))
            ∙ sym (get_or-run (a ++ b) at n j (omega arith) ∙ get_or-append_right a b (length a) (at + j) 0 refl (omega (arith, e)))
      ]

-- a replacement: its bytes before the seam, then those behind it
module _ (a b : List ℕ) (at k low high : ℕ) (new x y : List ℕ) (fits : at + length new ≤ length a + length b) (c : Across at (length new) (length a) k low high)
    (is_x : x ≡ run new 0 k) (is_y : y ≡ run new k (length new - k)) where
  long_x : length x ≡ k
  long_x = ap length is_x ∙ length_run new 0 k (omega (arith, c.few))

  long_y : length y ≡ length new - k
  long_y = ap length is_y ∙ length_run new k (length new - k) (omega (arith, c.few))

  at_x : (i : ℕ) → i < k → get_or x i 0 ≡ get_or new i 0
  at_x i lt = ap (λ l. get_or l i 0) is_x ∙ get_or-run new 0 k i lt ∙ ap (λ p. get_or new p 0) (omega arith)

  at_y : (i j : ℕ) → i < length new - k → k + i ≡ j → get_or y i 0 ≡ get_or new j 0
  at_y i j lt e = ap (λ l. get_or l i 0) is_y ∙ get_or-run new k (length new - k) i lt ∙ ap (λ p. get_or new p 0) e

  low_fits : low + length x ≤ length a
  low_fits = omega (arith, c.front, long_x)

  high_fits : high + length y ≤ length b
  high_fits = omega (arith, c.back, long_y)

  -- k is no less than what of the replacement lies below a place before the seam
  reach : (j : ℕ) → at ≤ j → j < at + length new → j < length a → j - at < k
  reach j le lt before = elim (cases_lt k (length new)) [ inl part ↦ omega (arith, c.there part) | inr all ↦ omega arith ]

  -- what the replacement still has at a place behind the seam
  left : (j : ℕ) → at ≤ j → j < at + length new → length a ≤ j → (k < length new) × (at + k ≤ j)
  left j le lt behind = elim (cases_lt 0 k) [
    | inl some ↦ (omega (arith, c.here some, c.front), omega (arith, c.here some, c.front))
    | inr none ↦ (omega arith, omega arith)
  ]

  wide : at + length new ≤ length (a ++ b)
  wide = omega (arith, length-append a b)

  front_part : (j : ℕ) → j < length a → get_or (put a low x) j 0 ≡ get_or (put (a ++ b) at new) j 0
  front_part j lt =
      let old : get_or (a ++ b) j 0 ≡ get_or a j 0 = get_or_append_left a b 0 j lt in
      elim (cases_lt j at) [
        | inl below ↦ (elim (cases_lt j low) [
          | inl under ↦ get_or-put_below a low x j under (omega (arith, low_fits))
          | inr over ↦ get_or-put_above a low x j (elim (cases_lt 0 k) [ inl some ↦ absurd (omega (arith, c.here some)) | inr none ↦ omega (arith, long_x) ]) (omega (arith, low_fits))
        ]) ∙ sym old ∙ sym (get_or-put_below (a ++ b) at new j below (omega (arith, wide)))
        | inr le ↦ elim (cases_lt j (at + length new)) [
          | inl mid ↦ let r = reach j le mid lt in let e = c.here (omega (arith, r)) in
              get_or-put_inside a low x (j - at) j (omega (arith, e)) (omega (arith, long_x, r)) (omega (arith, low_fits))
              ∙ at_x (j - at) r
              ∙ sym (get_or-put_inside (a ++ b) at new (j - at) j (omega arith) (omega arith) (omega (arith, wide)))
          | inr past ↦
              get_or-put_above a low x j (elim (cases_lt 0 k) [ inl some ↦ omega (arith, c.here some, c.few, long_x) | inr none ↦ omega (arith, long_x, c.least) ]) (omega (arith, low_fits))
              ∙ sym old
              ∙ sym (get_or-put_above (a ++ b) at new j past (omega (arith, wide)))
        ]
      ]

  back_part : (j : ℕ) → length a ≤ j → get_or (put b high y) (j - length a) 0 ≡ get_or (put (a ++ b) at new) j 0
  back_part j le =
      let i = j - length a in
      let old : get_or (a ++ b) j 0 ≡ get_or b i 0 = get_or-append_right a b (length a) j 0 refl le in
      elim (cases_lt j at) [
        | inl below ↦
            get_or-put_below b high y i (omega (arith, c.behind (omega arith))) (omega (arith, high_fits))
            ∙ sym old ∙ sym (get_or-put_below (a ++ b) at new j below (omega (arith, wide)))
        | inr from ↦ elim (cases_lt j (at + length new)) [
          | inl mid ↦ let r = left j from mid le in let e = c.there r.0 in
              get_or-put_inside b high y (i - high) i (omega (arith, e, r.1)) (omega (arith, e, long_y, r.1)) (omega (arith, high_fits))
              ∙ at_y (i - high) (j - at) (omega (arith, e, r.1)) (omega (arith, e, r.1))
              ∙ sym (get_or-put_inside (a ++ b) at new (j - at) j (omega arith) (omega arith) (omega (arith, wide)))
          | inr past ↦
              get_or-put_above b high y i (elim (cases_lt k (length new)) [
                | inl part ↦ omega (arith, c.there part, long_y)
                | inr all ↦ elim (cases_lt at (length a)) [ inl low ↦ omega (arith, c.ahead (omega arith), long_y) | inr up ↦ omega (arith, c.behind up, long_y) ]
              ]) (omega (arith, high_fits))
              ∙ sym old
              ∙ sym (get_or-put_above (a ++ b) at new j past (omega (arith, wide)))
        ]
      ]

  pub put_seam : put a low x ++ put b high y ≡ put (a ++ b) at new
  put_seam =
      let f : length (put a low x) ≡ length a = length-put a low x low_fits in
      let g : length (put b high y) ≡ length b = length-put b high y high_fits in
      let h : length (put (a ++ b) at new) ≡ length (a ++ b) = length-put (a ++ b) at new wide in
      let long : length (put a low x ++ put b high y) ≡ length (a ++ b) = length-append (put a low x) (put b high y) ∙ omega (arith, length-append a b) in
      ext_get_or 0 (put a low x ++ put b high y) (put (a ++ b) at new) (long ∙ sym h) λ j lt.
      elim (cases_lt j (length a)) [
        | inl before ↦ get_or_append_left (put a low x) (put b high y) 0 j (omega (arith, f)) ∙ front_part j before
        | inr behind ↦ get_or-append_right (put a low x) (put b high y) (length a) j 0 f behind ∙ back_part j behind
      ]

-- zeros written across the seam
pub clear_seam : (a b : List ℕ) (at k low high n : ℕ) → at + n ≤ length a + length b → Across at n (length a) k low high → put a low (zeros k) ++ put b high (zeros (n - k)) ≡ put (a ++ b) at (zeros n)
clear_seam a b at k low high n fits c =
    let e : length (zeros n) ≡ n = length-zeros n in
    put_seam a b at k low high (zeros n) (zeros k) (zeros (n - k)) (omega arith)
    (subst (λ m. Across at m (length a) k low high) (sym e) c)
    (sym (run-zeros n 0 k (omega (arith, c.few))))
    (sym (ap (λ m. run (zeros n) k (m - k)) e ∙ run-zeros n k (n - k) (omega (arith, c.few))))
