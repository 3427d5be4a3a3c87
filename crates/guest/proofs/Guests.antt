-- Guest sectors lie in guest clusters. Assumes nothing.
use Rattle.std.proofs.Common.{◌≡◌, ℕ, ◌+◌, ◌-◌, ◌*◌, ◌/◌, ◌%◌, ◌^◌, ◌<◌, ◌≤◌, eqb, sym, ap, ◌∙◌, inl, inr, mul-le-mul_right, mul_assoc, div-add-mod', div-mul-le_self, mul-div_cancel, arith}
use Rattle.std.proofs.lemmas.Nat.{le-div}
use Rattle.std.proofs.lemmas.Bool.{cases_eq, cases_lt, cond-true, cond-false, eq-eqb, ne_eqb}
use Rattle.format.specs.declared.numbers.Numbers.{Numbers}
use Rattle.format.specs.Clusters.{cluster, held_bits, per_cluster, begun}
use Rattle.format.proofs.Clusters.{cluster-sectors, cluster_least}
use Rattle.guest.specs.Shown.{guest_sectors, guest_clusters}

-- x parts of c that do not fill m are fewer than the parts that m begins
pub below_begun : (x c m : ℕ) → 0 < c → x * c < m → x < begun m c
below_begun x c m pos h = elim (cases_eq (m % c) 0) [
  | inl e ↦
      let all : begun m c ≡ m / c + 0 = ap (λ k. m / c + k) (cond-true (eqb (m % c) 0) 0 1 (eq-eqb (m % c) 0 e)) in
      elim (cases_lt x (m / c)) [
        | inl lt ↦ omega arith
        | inr ge ↦ absurd (omega (arith, div-add-mod' m c, mul-le-mul_right c ge))
      ]
  | inr ne ↦
      let more : begun m c ≡ m / c + 1 = ap (λ k. m / c + k) (cond-false (eqb (m % c) 0) 0 1 (ne_eqb (m % c) 0 ne)) in
      omega (arith, le-div x m c pos (omega arith))
]

-- a cluster's bytes are its sectors' bytes
pub cluster_is : (n : Numbers) → cluster n ≡ per_cluster n * 512
cluster_is n =
    let k = 2 ^ (held_bits n.bits - 9) in
    let e : cluster n ≡ k * 512 = cluster-sectors n.bits in
    e ∙ ap (λ j. j * 512) (sym (ap (λ j. j / 512) e ∙ mul-div_cancel k (omega arith)))

pub cluster-within : (n : Numbers) (s : ℕ) → s < guest_sectors n → s / per_cluster n < guest_clusters n
cluster-within n s lt =
    let p = per_cluster n in
    let c = cluster n in
    let g = s / p in
    let is : c ≡ p * 512 = cluster_is n in
    let low : g * p ≤ s = div-mul-le_self s p in
    let same : g * c ≡ g * p * 512 = ap (λ k. g * k) is ∙ sym (mul_assoc g p 512) in
    below_begun g c n.size (omega (arith, cluster_least n.bits)) (omega arith)
