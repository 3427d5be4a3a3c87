use Rattle.std.proofs.Common.{◌≡◌, ◌+◌, ◌<◌, ◌++◌, ◌∙◌, ℕ, List, Option, Some, None, get_or, drop, length, ap, sym, arith}
use Rattle.std.proofs.lemmas.Iterator.Consumers.{YieldsList-from_enumerate, YieldsList-turn, YieldsList-end}
use Rattle.std.proofs.lemmas.Iterator.Splits.{YieldsList-from_lines}
use Rattle.std.proofs.lemmas.List.{at_drop_more, at_drop_all, append-nil, length_push}
use Rattle.std.specs.List.{enumerate_from}
use Rattle.std.specs.Option.{option_to_list}
use Rattle.std.specs.Prelude.{vec_items}
use Rattle.std.specs.Str.Lines.{lines}
use Rattle.listing.specs.Spoiled.{bad_line, heard, listed, listed_on, or_bad}
use Rattle.listing.proofs.spoiled.spoiled_in.Goals as goal

next_line : (all : List ℕ) (es : List (ℕ × List ℕ)) (n : ℕ) (e : ℕ × List ℕ) → (n < length es) × (e ≡ get_or es n e) → (h : Option (Option ℕ)) → heard e.1 ≡ h → listed_on all (drop n es) ≡ or_bad e.0 h (λ o. listed_on (all ++ option_to_list o) (drop (n + 1) es))
next_line all es n e t h says = at_drop_more (listed_on all) es n e t.0
    ∙ ap (λ x. or_bad x.0 (heard x.1) (λ o. listed_on (all ++ option_to_list o) (drop (n + 1) es))) (sym t.1)
    ∙ ap (λ x. or_bad e.0 x (λ o. listed_on (all ++ option_to_list o) (drop (n + 1) es))) says

pub loop-i-init : goal.loop-i-init
unfolding listed
loop-i-init c = ap (λ v. listed_on v (enumerate_from 0 (lines c.args.text.now))) c.new-sectors.ensures.items

pub returns-in-Err : goal.returns-in-Err
returns-in-Err c =
    let t = YieldsList-turn (YieldsList-from_enumerate (YieldsList-from_lines c.args.text.now cc) cc) c.loop-i.yielded _ c.loop-i.yielded_by _ _ (c.in-Some.i, c.in-Some.line) c.in-Some.is c.next.ensures.steps in
    let says : heard c.in-Some.line.now ≡ None = cc (c.in-Err.ensures.value) in
    let e = next_line (vec_items c.loop-i.sectors) (enumerate_from 0 (lines c.args.text.now)) (length c.loop-i.yielded) (c.in-Some.i, c.in-Some.line.now) t None says in
    let s : c.saturating_add.result ≡ c.in-Some.i + 1 = omega (arith, c.in-Some.ensures.steps) in
    record { value = ap bad_line s ∙ sym e ∙ c.loop-i.invariant }

pub loop-i-preserved-in-Ok-None : goal.loop-i-preserved-in-Ok-None
loop-i-preserved-in-Ok-None c =
    let t = YieldsList-turn (YieldsList-from_enumerate (YieldsList-from_lines c.args.text.now cc) cc) c.loop-i.yielded _ c.loop-i.yielded_by _ _ (c.in-Some.i, c.in-Some.line) c.in-Some.is c.next.ensures.steps in
    let says : heard c.in-Some.line.now ≡ Some None = cc (c.in-Ok-None.ensures.value) in
    let e = next_line (vec_items c.loop-i.sectors) (enumerate_from 0 (lines c.args.text.now)) (length c.loop-i.yielded) (c.in-Some.i, c.in-Some.line.now) t (Some None) says in
    let n = length_push c.loop-i.yielded (c.in-Some.i, c.in-Some.line) in
    let a = append-nil (vec_items c.loop-i.sectors) in
    cc

pub loop-i-preserved : goal.loop-i-preserved
loop-i-preserved c =
    let t = YieldsList-turn (YieldsList-from_enumerate (YieldsList-from_lines c.args.text.now cc) cc) c.loop-i.yielded _ c.loop-i.yielded_by _ _ (c.in-Some.i, c.in-Some.line) c.in-Some.is c.next.ensures.steps in
    let says : heard c.in-Some.line.now ≡ Some (Some c.in-Ok-Some.sector) = cc (c.in-Ok-Some.ensures.value) in
    let e = next_line (vec_items c.loop-i.sectors) (enumerate_from 0 (lines c.args.text.now)) (length c.loop-i.yielded) (c.in-Some.i, c.in-Some.line.now) t (Some (Some c.in-Ok-Some.sector)) says in
    let n = length_push c.loop-i.yielded (c.in-Some.i, c.in-Some.line) in
    cc (c.in_ok-push-in-Ok-Some.ensures.items)

pub returns : goal.returns
returns c =
    let t = YieldsList-end (YieldsList-from_enumerate (YieldsList-from_lines c.args.text.now cc) cc) c.loop-i.yielded _ c.loop-i.yielded_by _ _ c.in-None.is c.next.ensures.steps in
    record { value = sym (at_drop_all (listed_on (vec_items c.loop-i.sectors)) (enumerate_from 0 (lines c.args.text.now)) (length c.loop-i.yielded) (omega (arith, t.1))) ∙ c.loop-i.invariant }
