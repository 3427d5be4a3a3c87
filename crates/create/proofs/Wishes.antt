-- What is known of a wish that was not refused. Assumes nothing.
use Rattle.std.proofs.Common.{◌≡◌, ℕ, ◌*◌, ◌≤◌, true, Ok, rules, tests}
use Rattle.format.specs.declared.numbers.Numbers.{Numbers}
use Rattle.format.specs.Clusters.{cluster}
use Rattle.format.specs.Header.{version_good, bits_good, size_good}
use Rattle.create.specs.Create.{name_fits, create_judged}

pub record Granted (n : Numbers) (len limit : ℕ) : Type 0 where
  pub version : version_good n ≡ true
  pub bits : bits_good n ≡ true
  pub size : size_good n ≡ true
  pub name : name_fits n ≡ true
  pub empty : len ≡ 0
  pub fits : 4 * cluster n ≤ limit

pub granted : (n : Numbers) (len limit : ℕ) → create_judged n len limit ≡ Ok tt → Granted n len limit
granted n len limit e = search (rules, tests)
