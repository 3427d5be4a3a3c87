use Rattle.std.proofs.Common.{◌≡◌, ◌+◌, ◌-◌, ◌≤◌, ◌++◌, length, take, drop, sym, refl, ap, ◌∙◌, arith, length-append}
use Rattle.fault.proofs.Outcomes.{demand_met}
use Rattle.byte_lists.specs.Runs.{run, put}
use Rattle.byte_lists.proofs.Runs.{take_put, length-put}
use Rattle.byte_lists.proofs.Octets.{octets_after, octets_of, octets_take, octets_drop}
use Rattle.store.specs.Split.{joined, split_bytes}
use Rattle.store.proofs.Outcomes.{stores, front_within, passed}
use Rattle.byte_lists.proofs.Lent.{length_tail}
use Rattle.store.proofs.Seams.{put_seam}
use Rattle.store.proofs.split.SplitStoreStore.replace.Goals as goal

pub replace_run-requires-2 : goal.replace_run-requires-2
replace_run-requires-2 c =
    let s = c.args.self.now in
    let new = c.args.new.now in
    let k = c.across-before.result.before in
    let lies = c.across-before.ensures.lies in
    let fits = passed (c.args.first + length new) _ _ (sym (demand_met _ _ _ c.in_ok-judge_run.ensures.value)) c.in_use.ensures.value in
    let total = (front_within (joined s) s.used _ fits).1 in
    let sum = length-append s.front.now s.back.now in
    let part = length_tail new k (length new) refl in
    omega (arith, lies.back, lies.few)

pub returns : goal.returns
unfolding run
returns c =
    let s = c.args.self.now in
    let a = s.front.now in
    let b = s.back.now in
    let new = c.args.new.now in
    let at = c.args.first in
    let k = c.across-before.result.before in
    let low = c.across-before.result.low in
    let high = c.across-before.result.high in
    let lies = c.across-before.ensures.lies in
    let fits = passed (at + length new) _ _ (sym (demand_met _ _ _ c.in_ok-judge_run.ensures.value)) c.in_use.ensures.value in
    let front = front_within (joined s) s.used (at + length new) fits in
    let sum : at + length new ≤ length a + length b = omega (arith, length-append a b, front.1) in
    let cut : k - 0 ≡ k = omega arith in
    let x = take (k - 0) new in
    let y = take (length new - k) (drop k new) in
    let f : c.replace_run.new.list ≡ put a low x = c.replace_run.ensures.after in
    let g : c.replace_run-2.new.list ≡ put b high y = c.replace_run-2.ensures.after in
    let both : c.replace_run.new.list ++ c.replace_run-2.new.list ≡ put (joined s) at new =
    ap (λ l. l ++ c.replace_run-2.new.list) f ∙ ap (λ l. put a low x ++ l) g ∙ put_seam a b at k low high new x y sum lies (ap (λ m. take m new) cut) refl in
    record {
      outcome = stores (split_bytes s) at new _ fits (sym (take_put (joined s) s.used at new front.0 front.1) ∙ ap (take s.used) (sym both));
      limit = ap length both ∙ length-put (joined s) at new front.1;
    }

pub invariant_of-self : goal.invariant_of-self
invariant_of-self c =
    let s = c.args.self.now in
    let new = c.args.new.now in
    record {
      front_octets = octets_after s.front.now _ _ _ c.replace_run.ensures.after s.front_octets (octets_take _ new (octets_of new (λ i. omega (arith, c.type_inv.new i))));
      back_octets = s.back_octets;
    }

pub invariant_of-self-2 : goal.invariant_of-self-2
invariant_of-self-2 c =
    let s = c.args.self.now in
    let new = c.args.new.now in
    let o = octets_of new (λ i. omega (arith, c.type_inv.new i)) in
    record {
      front_octets = octets_after s.front.now _ _ _ c.replace_run.ensures.after s.front_octets (octets_take _ new o);
      back_octets = octets_after s.back.now _ _ _ c.replace_run-2.ensures.after s.back_octets (octets_take _ (drop _ new) (octets_drop _ new o));
    }
