-- Laws of big-endian numbers: round trips, and what a number is after each edit. Assumes nothing.
use Rattle.std.proofs.Common.{◌≡◌, ℕ, zero, suc, ◌+◌, ◌*◌, ◌/◌, ◌%◌, ◌^◌, ◌<◌, ◌≤◌, leb, eqb, cond, ◌⊎◌, List, [], ◌∷◌, length, get_or, take, drop, Some, None, sym, refl, ap, ◌∙◌, subst, inl, inr, mod-eq_of_lt, mul_assoc, add-mul, zero-add, div-one, arith, length-drop}
use native.Mathlib.Nat.{pow-succ', mod-one}
use lib.Arith.{mod-mul, digits_div, digits_mod, digits_lt}
use borrow.Rule.Slice.PartMut.{put_mid}
use Rattle.std.proofs.lemmas.List.{drop_more, drop_all}
use Rattle.std.proofs.lemmas.Bool.{cond-true, le-leb, eq-eqb}
use Rattle.byte_lists.specs.Runs.{run, put, zeros, grow, Octets}
use Rattle.byte_lists.specs.Numbers.{be, be_bytes, number, spell, length-be_bytes}
use Rattle.byte_lists.specs.Found.{spelled_by, found_by}
use Rattle.byte_lists.proofs.Runs.{length_run, run-put_same, run-put_apart, run-put_inside, run-grow_old, run-grow_new, run-run, length-put}
use Rattle.byte_lists.proofs.Lent.{put_mid-is_put}
use Rattle.byte_lists.proofs.Octets.{octets_run}

big_pos : (w : ℕ) → 0 < 256 ^ w
big_pos zero = omega arith
big_pos (suc w) = omega (arith, pow-succ' 256 w, big_pos w)

-- the bytes of a number spell its low part
be_low : (w x : ℕ) → be (be_bytes w x) ≡ x % 256 ^ w
unfolding be be_bytes
be_low zero x = sym (mod-one x)
be_low (suc w) x =
    let e : x % 256 ^ suc w ≡ (x / 256 ^ w % 256) * 256 ^ w + x % 256 ^ w = ap (λ k. x % k) (pow-succ' 256 w) ∙ mod-mul x {m = 256} (omega arith) (big_pos w) in
    ap (λ k. (x / 256 ^ w % 256) * 256 ^ k + be (be_bytes w x)) (length-be_bytes w x) ∙ ap (λ k. (x / 256 ^ w % 256) * 256 ^ w + k) (be_low w x) ∙ sym e

-- a number that fits comes back from its bytes
pub be-be_bytes : (w x : ℕ) → x < 256 ^ w → be (be_bytes w x) ≡ x
be-be_bytes w x h = be_low w x ∙ mod-eq_of_lt h

-- bytes spell a number below 256 to their length
pub be_below : (bs : List ℕ) → Octets bs → be bs < 256 ^ length bs
unfolding be Octets
be_below [] o = omega arith
be_below (b ∷ bs) o = subst (λ k. b * 256 ^ length bs + be bs < k) (sym (pow-succ' 256 (length bs))) (digits_lt o.0 (be_below bs o.1))

-- zeros spell 0
pub be-zeros : (n : ℕ) → be (zeros n) ≡ 0
unfolding be zeros
be-zeros zero = refl
be-zeros (suc n) = omega (arith, be-zeros n)

-- the same under higher digits, which the bytes leave out
spelled : (bs : List ℕ) (high : ℕ) → Octets bs → be_bytes (length bs) (high * 256 ^ length bs + be bs) ≡ bs
unfolding be be_bytes Octets
spelled [] high o = refl
spelled (b ∷ bs) high o =
    let p = 256 ^ length bs in
    let x = high * 256 ^ suc (length bs) + (b * p + be bs) in
    let y = (high * 256 + b) * p + be bs in
    let e : x ≡ y = omega (arith, ap (λ k. high * k) (pow-succ' 256 (length bs)), mul_assoc high 256 p, add-mul (high * 256) b p) in
    let top : x / p ≡ high * 256 + b = ap (λ k. k / p) e ∙ digits_div (high * 256 + b) (be_below bs o.1) in
    let digit : x / p % 256 ≡ b = ap (λ k. k % 256) top ∙ digits_mod high o.0 in
    let rest : be_bytes (length bs) x ≡ bs = ap (be_bytes (length bs)) e ∙ spelled bs (high * 256 + b) o.1 in
    cc (digit, rest)

-- bytes come back from the number they spell
pub be_bytes-be : (bs : List ℕ) → Octets bs → be_bytes (length bs) (be bs) ≡ bs
be_bytes-be bs o =
    let e : be bs ≡ 0 * 256 ^ length bs + be bs = omega arith in
    ap (be_bytes (length bs)) e ∙ spelled bs 0 o

-- the number at the place of one that was set, if it fits
pub number-spell_same : (bs : List ℕ) (at w x : ℕ) → x < 256 ^ w → at + w ≤ length bs → number (spell bs at w x) at w ≡ x
unfolding number spell
number-spell_same bs at w x fits h =
    ap be (run-put_same bs at (be_bytes w x) w (sym (length-be_bytes w x)) (omega arith)) ∙ be-be_bytes w x fits

-- a number apart from a replacement is as before
pub number-put_apart : (bs : List ℕ) (at : ℕ) (new : List ℕ) (a w : ℕ) → (a + w ≤ at) ⊎ (at + length new ≤ a) → at + length new ≤ length bs → number (put bs at new) a w ≡ number bs a w
unfolding number
number-put_apart bs at new a w apart h = ap be (run-put_apart bs at new a w apart h)

-- a number inside a replacement is the new bytes' own
pub number-put_inside : (bs : List ℕ) (at : ℕ) (new : List ℕ) (i w : ℕ) → i + w ≤ length new → at ≤ length bs → number (put bs at new) (at + i) w ≡ number new i w
unfolding number
number-put_inside bs at new i w fits h = ap be (run-put_inside bs at new i w fits h)

-- a number apart from one that was set is as before
pub number-spell_apart : (bs : List ℕ) (at v x a w : ℕ) → (a + w ≤ at) ⊎ (at + v ≤ a) → at + v ≤ length bs → number (spell bs at v x) a w ≡ number bs a w
unfolding spell
number-spell_apart bs at v x a w apart h =
    let e = length-be_bytes v x in
    number-put_apart bs at (be_bytes v x) a w (elim apart [ inl l ↦ inl l | inr g ↦ inr (omega arith) ]) (omega arith)

-- a number of a run is the list's
pub number-run : (bs : List ℕ) (at n i w : ℕ) → i + w ≤ n → number (run bs at n) i w ≡ number bs (at + i) w
unfolding number
number-run bs at n i w h = ap be (run-run bs at n i w h)

-- growth leaves the numbers that stood, and adds zeros
pub number-grow_old : (bs : List ℕ) (m at w : ℕ) → at + w ≤ length bs → number (grow bs m) at w ≡ number bs at w
unfolding number
number-grow_old bs m at w h = ap be (run-grow_old bs m at w h)

pub number-grow_new : (bs : List ℕ) (m at w : ℕ) → length bs ≤ at → at + w ≤ m → number (grow bs m) at w ≡ 0
unfolding number
number-grow_new bs m at w h k = ap be (run-grow_new bs m at w h k) ∙ be-zeros w

pub length-spell : (bs : List ℕ) (at w x : ℕ) → at + w ≤ length bs → length (spell bs at w x) ≡ length bs
unfolding spell
length-spell bs at w x h = let e = length-be_bytes w x in length-put bs at (be_bytes w x) (omega arith)

-- a run apart from a number that was set is as before
pub run-spell_apart : (bs : List ℕ) (at v x a n : ℕ) → (a + n ≤ at) ⊎ (at + v ≤ a) → at + v ≤ length bs → run (spell bs at v x) a n ≡ run bs a n
unfolding spell
run-spell_apart bs at v x a n apart h =
    let e = length-be_bytes v x in
    run-put_apart bs at (be_bytes v x) a n (elim apart [ inl l ↦ inl l | inr g ↦ inr (omega arith) ]) (omega arith)

-- a number of bytes fits its width
pub number_below : (bs : List ℕ) (at w : ℕ) → Octets bs → at + w ≤ length bs → number bs at w < 256 ^ w
unfolding number
number_below bs at w o h = subst (λ k. be (run bs at w) < 256 ^ k) (length_run bs at w h) (be_below (run bs at w) (octets_run bs at w o))

-- one digit off the front
digit : (bs : List ℕ) (i n : ℕ) → i + suc n ≡ length bs → be (drop i bs) ≡ get_or bs i 0 * 256 ^ n + be (drop (i + 1) bs)
unfolding be
digit bs i n e =
    let long : length (drop (i + 1) bs) ≡ n = simp length-drop (omega arith) in
    ap be (drop_more bs i 0 (omega arith)) ∙ ap (λ k. get_or bs i 0 * 256 ^ k + be (drop (i + 1) bs)) long

none_left : (bs : List ℕ) (n : ℕ) → length bs ≡ n → be (drop n bs) ≡ 0
unfolding be
none_left bs n e = ap be (drop_all n bs (omega arith))

-- numbers of 2, 4 and 8 bytes in a list, as the machine makes them
pub be_two : (b : List ℕ) → length b ≡ 2 → be b ≡ get_or b 0 0 * 256 + get_or b 1 0
be_two b e = omega (arith, none_left b 2 e, digit b 0 1 (omega arith), digit b 1 0 (omega arith))

pub be_four : (b : List ℕ) → length b ≡ 4 → be b ≡ get_or b 0 0 * 16777216 + get_or b 1 0 * 65536 + get_or b 2 0 * 256 + get_or b 3 0
be_four b e = omega (arith, none_left b 4 e, digit b 0 3 (omega arith), digit b 1 2 (omega arith), digit b 2 1 (omega arith), digit b 3 0 (omega arith))

pub be_eight : (b : List ℕ) → length b ≡ 8 → be b ≡ get_or b 0 0 * 72057594037927936 + get_or b 1 0 * 281474976710656 + get_or b 2 0 * 1099511627776 + get_or b 3 0 * 4294967296 + get_or b 4 0 * 16777216 + get_or b 5 0 * 65536 + get_or b 6 0 * 256 + get_or b 7 0
be_eight b e = omega (arith, none_left b 8 e, digit b 0 7 (omega arith), digit b 1 6 (omega arith), digit b 2 5 (omega arith), digit b 3 4 (omega arith), digit b 4 3 (omega arith), digit b 5 2 (omega arith), digit b 6 1 (omega arith), digit b 7 0 (omega arith))

-- their bytes, as the machine makes them
pub two_bytes : (x : ℕ) → be_bytes 2 x ≡ (x / 256 % 256) ∷ (x % 256) ∷ []
unfolding be_bytes
two_bytes x = rw div-one

pub four_bytes : (x : ℕ) → be_bytes 4 x ≡ (x / 16777216 % 256) ∷ (x / 65536 % 256) ∷ (x / 256 % 256) ∷ (x % 256) ∷ []
unfolding be_bytes
four_bytes x = rw div-one

pub eight_bytes : (x : ℕ) → be_bytes 8 x ≡ (x / 72057594037927936 % 256) ∷ (x / 281474976710656 % 256) ∷ (x / 1099511627776 % 256) ∷ (x / 4294967296 % 256) ∷ (x / 16777216 % 256) ∷ (x / 65536 % 256) ∷ (x / 256 % 256) ∷ (x % 256) ∷ []
unfolding be_bytes
eight_bytes x = rw div-one

-- the low bytes of a number are its last ones
pub be_bytes_last : (k w x : ℕ) → drop k (be_bytes (k + w) x) ≡ be_bytes w x
unfolding be_bytes
be_bytes_last zero w x = ap (λ n. be_bytes n x) (zero-add w)
be_bytes_last (suc k) w x = let e : suc k + w ≡ suc (k + w) = omega arith in ap (λ n. drop (suc k) (be_bytes n x)) e ∙ be_bytes_last k w x

-- what a list of its width spells, and what a reader of any number found
pub spelled_is : (bs : List ℕ) (w x : ℕ) → length bs ≡ w → x ≡ be bs → Some x ≡ spelled_by be w bs
spelled_is bs w x h e = ap (λ n. Some n) e ∙ sym (cond-true (eqb (length bs) w) (Some (be bs)) None (eq-eqb (length bs) w h))

pub found_spelled : {N : Type 0} (number : List ℕ → ℕ → N) (of_bytes : List ℕ → N) (w at n : ℕ) (bs : List ℕ) → number bs at ≡ of_bytes (run bs at w) → n ≡ w → at + w ≤ length bs → spelled_by of_bytes w (take n (drop at bs)) ≡ found_by number w bs at
unfolding run
found_spelled number of_bytes w at n bs e m h =
    let sub = take n (drop at bs) in
    let same : sub ≡ run bs at w = ap (λ k. take k (drop at bs)) m in
    let long : length sub ≡ w = ap length same ∙ length_run bs at w h in
    cond-true (eqb (length sub) w) (Some (of_bytes sub)) None (eq-eqb (length sub) w long)
    ∙ ap (λ k. Some k) (ap of_bytes same ∙ sym e)
    ∙ sym (cond-true (leb (at + w) (length bs)) (Some (number bs at)) None (le-leb (at + w) (length bs) h))

-- a number's bytes written into a lent part of a list
pub spelled_in : {N : Type 0} (spell : List ℕ → ℕ → N → List ℕ) (in_bytes : N → List ℕ) (w at n : ℕ) (bs room : List ℕ) (x : N) → spell bs at x ≡ put bs at (in_bytes x) → length (in_bytes x) ≡ w → n ≡ w → room ≡ cond (eqb (length (take n (drop at bs))) w) (in_bytes x) (take n (drop at bs)) → at + w ≤ length bs → put_mid at n bs room ≡ spell bs at x
unfolding run
spelled_in spell in_bytes w at n bs room x e long m was h =
    let sub = take n (drop at bs) in
    let same : sub ≡ run bs at w = ap (λ k. take k (drop at bs)) m in
    let whole : length sub ≡ w = ap length same ∙ length_run bs at w h in
    let new : room ≡ in_bytes x = was ∙ cond-true (eqb (length sub) w) (in_bytes x) sub (eq-eqb (length sub) w whole) in
    put_mid-is_put bs at n room (omega (arith, long, m, ap length new)) ∙ ap (put bs at) new ∙ sym e
