-- What a list holds after parts of it were lent and written. Assumes nothing.
use Rattle.std.proofs.Common.{◌≡◌, ℕ, ◌+◌, ◌-◌, ◌≤◌, List, ◌++◌, length, take, drop, replicate, ap, ◌∙◌, arith, length-drop, length-take}
use borrow.Rule.Slice.PartMut.{put_mid}
use Rattle.std.proofs.lemmas.List.{places, same_lists, drop-drop, drop-replicate}
use Rattle.byte_lists.specs.Runs.{put, grow, zeros}

-- a copy into a lent part of a list is a replacement
pub put_mid-is_put : (bs : List ℕ) (at n : ℕ) (new : List ℕ) → n ≡ length new → put_mid at n bs new ≡ put bs at new
unfolding put
put_mid-is_put bs at n new e = ap (λ l. take at bs ++ (new ++ l)) (drop-drop n at bs ∙ ap (λ k. drop (at + k) bs) e)

-- a list written in two parts
pub both_parts : (out x y : List ℕ) (k n : ℕ) → length out ≡ n → length x ≡ k → length y ≡ n - k → k ≤ n → put_mid k (n - k) (put_mid 0 (k - 0) out x) y ≡ x ++ y
both_parts out x y k n e f g h =
    same_lists (put_mid k (n - k) (put_mid 0 (k - 0) out x) y) (x ++ y) (grind (arith, places)) (λ j d lt. grind (arith, places))

-- lengths of lent parts
pub length_head : (out : List ℕ) (k n : ℕ) → length out ≡ n → k ≤ n → length (take (k - 0) out) ≡ k
length_head out k n e h = simp length-take (omega arith)

pub length_tail : (out : List ℕ) (k n : ℕ) → length out ≡ n → length (take (n - k) (drop k out)) ≡ n - k
length_tail out k n e = simp (length-take, length-drop) (omega arith)

pub length_half : (out x : List ℕ) (k n : ℕ) → length out ≡ n → length x ≡ k → k ≤ n → length (put_mid 0 (k - 0) out x) ≡ n
length_half out x k n e f h = grind (arith, places)

-- bytes copied to the front of zeros are those bytes, grown
pub front_grown : (m n : ℕ) (new : List ℕ) → length new ≡ n → put_mid 0 (n - 0) (zeros m) new ≡ grow new m
unfolding grow zeros
front_grown m n new e = ap (λ l. new ++ l) (drop-replicate (n - 0) m 0 ∙ ap (λ k. replicate k 0) (omega arith))
