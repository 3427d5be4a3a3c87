use Rattle.std.proofs.Common.{◌≡◌, ◌-◌, ◌≤◌, ◌++◌, length, take, sym, ap, ◌∙◌, arith, length-append}
use Rattle.std.proofs.lemmas.Bool.{leb-true}
use Rattle.fault.proofs.Outcomes.{demand_met}
use Rattle.byte_lists.specs.Runs.{put, grow, zeros}
use Rattle.byte_lists.proofs.Runs.{take-length, take-put-zeros, length-put, length-zeros}
use Rattle.byte_lists.proofs.Octets.{octets_after, octets_zeros}
use Rattle.store.specs.Split.{joined, split_bytes, split_limit}
use Rattle.store.proofs.Outcomes.{grows}
use Rattle.store.proofs.Seams.{clear_seam}
use Rattle.store.proofs.split.SplitStoreStore.grow.Goals as goal

pub clear_run-requires-2 : goal.clear_run-requires-2
clear_run-requires-2 c =
    let s = c.args.self.now in
    let lies = c.across-before.ensures.lies in
    let least = leb-true _ _ (demand_met _ _ _ c.in_ok-demand.ensures.value) in
    let most = leb-true _ _ (demand_met _ _ _ c.in_ok-demand-2.ensures.value) in
    omega (arith, least, most, c.limit.ensures.value, lies.back, lies.few, length-append s.front.now s.back.now)

pub returns : goal.returns
returns c =
    let s = c.args.self.now in
    let a = s.front.now in
    let b = s.back.now in
    let to = c.args.length in
    let used = c.in_use-used.result in
    let n = to - used in
    let k = c.across-before.result.before in
    let low = c.across-before.result.low in
    let high = c.across-before.result.high in
    let lies = c.across-before.ensures.lies in
    let is : used ≡ length (split_bytes s) = c.in_use-used.ensures.value in
    let least : used ≤ to = leb-true _ _ (demand_met _ _ _ c.in_ok-demand.ensures.value) in
    let most : to ≤ length (joined s) = omega (arith, c.limit.ensures.value, leb-true _ _ (demand_met _ _ _ c.in_ok-demand-2.ensures.value)) in
    let front = ap (λ m. take m (joined s)) is ∙ take-length (joined s) s.used in
    let both : c.clear_run.new.list ++ c.clear_run-2.new.list ≡ put (joined s) used (zeros n) =
    ap (λ l. l ++ c.clear_run-2.new.list) c.clear_run.ensures.after
    ∙ ap (λ l. put a low (zeros k) ++ l) c.clear_run-2.ensures.after
    ∙ clear_seam a b used k low high n (omega (arith, length-append a b)) lies in
    record {
      outcome = grows (split_bytes s) (split_limit s) to _ (omega arith) most
          (ap (λ l. grow l to) (sym front) ∙ sym (take-put-zeros (joined s) used to least most) ∙ ap (take to) (sym both));
      limit = ap length both ∙ length-put (joined s) used (zeros n) (omega (arith, length-zeros n));
    }

pub invariant_of-self : goal.invariant_of-self
invariant_of-self c = let s = c.args.self.now in record { front_octets = octets_after s.front.now _ _ _ c.clear_run.ensures.after s.front_octets (octets_zeros _); back_octets = s.back_octets }

pub invariant_of-self-2 : goal.invariant_of-self-2
invariant_of-self-2 c =
    let s = c.args.self.now in
    record {
      front_octets = octets_after s.front.now _ _ _ c.clear_run.ensures.after s.front_octets (octets_zeros _);
      back_octets = octets_after s.back.now _ _ _ c.clear_run-2.ensures.after s.back_octets (octets_zeros _);
    }
