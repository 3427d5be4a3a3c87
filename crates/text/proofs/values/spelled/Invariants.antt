use Rattle.std.proofs.Common.{◌≡◌, [], drop, vec_items}
use Rattle.text.specs.Values.{spelled_on, first}
use Rattle.text.proofs.values.spelled.Given as goal

-- what is left gives what the whole gives
abbrev pub invariant-loop-c : goal.invariant-loop-c
invariant-loop-c l = spelled_on l.form (vec_items l.all) l.next (drop l.c-index l.word) ≡ spelled_on l.form [] (first l.form) l.word
