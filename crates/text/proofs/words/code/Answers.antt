use Rattle.std.proofs.Common.{◌≡◌, ◌==◌, ℕ, cond, List, Option, Some, None, MatchOption, ltb, length, take, arith, rules, tests}
use Rattle.std.proofs.lemmas.Bool.Decides.{nat_tests}
use Rattle.std.proofs.lemmas.Grind.{common_steps}
use Rattle.std.proofs.lemmas.Iterator.{YieldsList-from_slice}
use Rattle.std.proofs.lemmas.Iterator.Search.{position_from_yields_List}
use Rattle.std.specs.List.{position_or_len}
use Rattle.text.specs.Words.{code}
use Rattle.text.proofs.Parting.{code_before}
use Rattle.text.proofs.words.code.Goals as goal
use Rattle.text.proofs.words.code.Goals.{After-position}

before : (line : List ℕ) (r : Option ℕ) → r ≡ cond (ltb (position_or_len (λ b. b == 35) line) (length line)) (Some (position_or_len (λ b. b == 35) line)) None → MatchOption r (line ≡ code line) (λ n. take n line ≡ code line)
before line None e = let is = code_before line in grind (arith, nat_tests, common_steps)
before line (Some n) e = let is = code_before line in grind (arith, nat_tests, common_steps)

found : (c : After-position) → MatchOption c.position.result (c.args.line.now ≡ code c.args.line.now) (λ n. take n c.args.line.now ≡ code c.args.line.now)
found c = before _ _ (position_from_yields_List (λ b. b == 35) _ _ c.position.result c.position.ensures.ran (YieldsList-from_slice c.args.line.now cc) (λ x b q k. search (rules, tests)))

pub returns-in-Some : goal.returns-in-Some
returns-in-Some c = let value = found (goal.at.returns-in-Some c).After-position in search rules

pub returns-in-None : goal.returns-in-None
returns-in-None c = let value = found (goal.at.returns-in-None c).After-position in search rules
