use Rattle.std.proofs.Common.{◌≡◌, ◌++◌, ◌-◌, ◌^◌, ℕ, List, [], length, false, arith, ap}
use Rattle.std.proofs.lemmas.List.{append-nil, append_assoc}
use Rattle.std.proofs.Math.ListN.{replicate}
use Rattle.std.specs.Fmt.{padded_integral, char_count, format_spec}
use Rattle.listing.proofs.lines.place.Goals as goal

-- what `{:08x}` writes of a number with these digits
padded_to_eight : (ds : List ℕ) → padded_integral (format_spec 32 0 4 8 (2 ^ 64 - 1)) false [] ds ≡ replicate (8 - length ds) 48 ++ ds
unfolding padded_integral char_count
padded_to_eight ds = let same : 8 - length ds - 0 - 0 ≡ 8 - length ds = omega arith in rw append-nil (ap (λ k. replicate k 48 ++ ds) same)

pub returns : goal.returns
returns c = record { value = simp append_assoc (simp (c.in_radix.ensures, c.laid_out.ensures, padded_to_eight, append_assoc) at c.format.ensures.ok) }
