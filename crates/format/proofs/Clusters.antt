-- The cluster size lies between 512 and 2 MiB and is a multiple of 512. Assumes nothing.
use Rattle.std.proofs.Common.{◌≡◌, ℕ, zero, suc, ◌+◌, ◌-◌, ◌*◌, ◌/◌, ◌%◌, ◌^◌, ◌<◌, ◌≤◌, ◌==◌, min, cond, sym, ap, ◌∙◌, mul-pos, arith, pow_mono}
use Rattle.std.proofs.lemmas.Bool.{cond-false, ne_eqb}
use Rattle.std.specs.Int.{div_ceil}
use Rattle.std.proofs.lemmas.Nat.{pow-add, one_shl}
use Rattle.format.specs.Clusters.{cluster_of, held_bits, begun}

pub cluster_least : (b : ℕ) → 512 ≤ cluster_of b
unfolding cluster_of
cluster_least b = let h : 9 ≤ held_bits b = omega arith in pow_mono h

pub cluster_most : (b : ℕ) → cluster_of b ≤ 2 ^ 21
unfolding cluster_of
cluster_most b = let h : held_bits b ≤ 21 = omega arith in pow_mono h

-- whole sectors, and so whole entries of 8 bytes
pub cluster-sectors : (b : ℕ) → cluster_of b ≡ 2 ^ (held_bits b - 9) * 512
unfolding cluster_of
cluster-sectors b = let h : held_bits b ≡ (held_bits b - 9) + 9 = omega arith in ap (λ k. 2 ^ k) h ∙ pow-add 2 (held_bits b - 9) 9

-- as the machine shifts
pub cluster_shifted : (b k : ℕ) → k ≡ held_bits b → (1 * 2 ^ k) % 2 ^ 64 ≡ cluster_of b
unfolding cluster_of
cluster_shifted b k e = one_shl k 64 (omega arith) ∙ ap (λ j. 2 ^ j) e

-- the guest bytes under an L1 entry are some
pub span_pos : (c t : ℕ) → 512 ≤ c → 64 ≤ t → 0 < c * t
span_pos c t h k = mul-pos (omega arith) (omega arith)

-- parts that are begun are a quotient rounded up
one_more : (m : ℕ) → min 1 m ≡ cond (m == 0) 0 1
one_more zero = omega arith
one_more (suc m) = omega arith ∙ sym (cond-false (suc m == 0) 0 1 (ne_eqb (suc m) 0 (λ e. omega (arith, e))))

pub ceil_begun : (n k : ℕ) → div_ceil n k ≡ begun n k
ceil_begun n k = ap (λ m. n / k + m) (one_more (n % k))
