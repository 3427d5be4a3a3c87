-- The lists of fields of a new image are in order. Assumes nothing.
use Rattle.std.proofs.Common.{ℕ, ◌*◌, ◌≤◌, rules, tests}
use Rattle.std.specs.List.{AllByRecursion as All}
use Rattle.byte_lists.specs.Fields.{Ordered}
use Rattle.format.specs.declared.numbers.Numbers.{Numbers}
use Rattle.create.specs.Create.{shared_fields, late_fields, header_fields, table_fields}

pub shared_ordered : (n : Numbers) (m : ℕ) → 72 ≤ m → Ordered 0 m (shared_fields n)
shared_ordered n m h = search (rules, tests)

pub late_ordered : (n : Numbers) (m : ℕ) → 104 ≤ m → Ordered 72 m (late_fields n)
late_ordered n m h = search (rules, tests)

pub header_ordered : (n : Numbers) (m : ℕ) → 104 ≤ m → Ordered 72 m (header_fields n)
header_ordered n m h = search (rules, tests)

pub table_ordered : (c m : ℕ) → 512 ≤ c → 4 * c ≤ m → Ordered c m (table_fields c)
table_ordered c m h k = search (rules, tests)

pub shared_narrow : (n : Numbers) → All (λ f. f.wide ≤ 8) (shared_fields n)
shared_narrow n = search (rules, tests)

pub header_narrow : (n : Numbers) → All (λ f. f.wide ≤ 8) (header_fields n)
header_narrow n = search (rules, tests)

pub table_narrow : (c : ℕ) → All (λ f. f.wide ≤ 8) (table_fields c)
table_narrow c = search (rules, tests)
