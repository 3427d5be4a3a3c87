use Rattle.std.proofs.Common.{◌≡◌, ◌+◌, ◌==◌, ◌∷◌, ◌++◌, [], ◌∙◌, length, drop, ap, arith, rules, tests}
use Rattle.std.proofs.lemmas.Grind.{common_steps}
use Rattle.std.proofs.lemmas.Iterator.Consumers.{YieldsList-turn, YieldsList-end}
use Rattle.std.proofs.lemmas.Iterator.Splits.{YieldsList-from_slice_split}
use Rattle.std.proofs.lemmas.List.{at_drop_all, length_push}
use Rattle.std.specs.List.{slice_split}
use Rattle.std.specs.Prelude.{vec_items}
use Rattle.text.specs.Values.{number, opt_then}
use Rattle.text.proofs.Listing.{listed, next_part, numbers_listed}
use Rattle.text.proofs.values.numbers.Goals as goal
use Rattle.text.proofs.values.numbers.Goals.{In-Some}

pub loop-part-init : goal.loop-part-init
loop-part-init c = ap (λ v. listed v (slice_split (λ c. c == 44) c.args.word.now)) c.new-all.ensures.items ∙ numbers_listed c.args.word.now

-- this part comes to the numbers so far
turn : (c : In-Some) → listed (vec_items c.loop-part.all) (drop (length c.loop-part.yielded) (slice_split (λ c. c == 44) c.args.word.now)) ≡ opt_then (number c.in-Some.part.now) λ n. listed (vec_items c.loop-part.all ++ n ∷ []) (drop (length c.loop-part.yielded + 1) (slice_split (λ c. c == 44) c.args.word.now))
turn c =
    let all = YieldsList-from_slice_split _ (λ c. c == 44) c.args.word.now (cc) (cc) (cc) (λ x b q k. search (rules, tests)) in
    next_part (vec_items c.loop-part.all) _ _ _ (YieldsList-turn all c.loop-part.yielded _ c.loop-part.yielded_by _ _ c.in-Some.part c.in-Some.is c.next.ensures.steps)

pub returns-in_err-number : goal.returns-in_err-number
returns-in_err-number c = let e = turn (goal.at.returns-in_err-number c).In-Some in grind (arith, common_steps)

pub loop-part-preserved : goal.loop-part-preserved
loop-part-preserved c =
    let e = turn (goal.at.loop-part-preserved c).In-Some in
    let n = length_push c.loop-part.yielded c.in-Some.part in
    grind (arith, common_steps)

pub returns : goal.returns
returns c =
    let t = YieldsList-end (YieldsList-from_slice_split _ (λ c. c == 44) c.args.word.now (cc) (cc) (cc) (λ x b q k. search (rules, tests))) c.loop-part.yielded _ c.loop-part.yielded_by _ _ c.in-None.is c.next.ensures.steps in
    let e = at_drop_all (listed (vec_items c.loop-part.all)) (slice_split (λ c. c == 44) c.args.word.now) (length c.loop-part.yielded) (omega (arith, t.1)) in
    grind (arith, common_steps)
