use Rattle.std.proofs.Common.{◌≡◌, ◌+◌, ◌-◌, ◌≤◌, ◌++◌, length, sym, refl, ap, ◌∙◌, arith, length-append}
use borrow.Rule.Slice.PartMut.{put_mid}
use Rattle.fault.proofs.Outcomes.{demand_met}
use Rattle.byte_lists.specs.Runs.{run}
use Rattle.byte_lists.proofs.Runs.{run_take, length_run}
use Rattle.store.specs.Split.{joined, split_bytes}
use Rattle.store.proofs.Outcomes.{loads, front_within, passed}
use Rattle.byte_lists.proofs.Lent.{both_parts, length_head, length_half, length_tail}
use Rattle.store.proofs.Seams.{run_seam}
use Rattle.store.proofs.split.SplitStoreStore.read.Goals as goal

pub copy_run-requires-2 : goal.copy_run-requires-2
copy_run-requires-2 c =
    let s = c.args.self.now in
    let out = c.args.out.now in
    let n = length out in
    let k = c.across-before.result.before in
    let lies = c.across-before.ensures.lies in
    let fits = passed (c.args.first + n) _ _ (sym (demand_met _ _ _ c.in_ok-judge_run.ensures.value)) c.in_use.ensures.value in
    let total = (front_within (joined s) s.used _ fits).1 in
    let sum = length-append s.front.now s.back.now in
    let long : length c.copy_run.new.out ≡ k = ap length c.copy_run.ensures.after ∙ ap (λ m. length (run s.front.now c.across-before.result.low m)) (length_head out k n refl lies.few) ∙ length_run s.front.now c.across-before.result.low k lies.front in
    let part = length_tail (put_mid 0 (k - 0) out c.copy_run.new.out) k n (length_half out c.copy_run.new.out k n refl long lies.few) in
    omega (arith, lies.back, lies.few)

pub returns : goal.returns
returns c =
    let s = c.args.self.now in
    let a = s.front.now in
    let b = s.back.now in
    let out = c.args.out.now in
    let n = length out in
    let at = c.args.first in
    let k = c.across-before.result.before in
    let low = c.across-before.result.low in
    let high = c.across-before.result.high in
    let lies = c.across-before.ensures.lies in
    let fits = passed (at + n) _ _ (sym (demand_met _ _ _ c.in_ok-judge_run.ensures.value)) c.in_use.ensures.value in
    let front = front_within (joined s) s.used (at + n) fits in
    let sum : at + n ≤ length a + length b = omega (arith, length-append a b, front.1) in
    let x : c.copy_run.new.out ≡ run a low k = c.copy_run.ensures.after ∙ ap (run a low) (length_head out k n refl lies.few) in
    let long_x : length c.copy_run.new.out ≡ k = ap length x ∙ length_run a low k lies.front in
    let y : c.copy_run-2.new.out ≡ run b high (n - k) =
    c.copy_run-2.ensures.after ∙ ap (run b high) (length_tail (put_mid 0 (k - 0) out c.copy_run.new.out) k n (length_half out c.copy_run.new.out k n refl long_x lies.few)) in
    let long_y : length c.copy_run-2.new.out ≡ n - k = ap length y ∙ length_run b high (n - k) (omega (arith, lies.back, lies.few)) in
    record {
      outcome = loads (split_bytes s) at n _ fits
          (run_take (joined s) s.used at n front.0
          ∙ sym (run_seam a b at n k low high sum lies)
          ∙ ap (λ l. l ++ run b high (n - k)) (sym x)
          ∙ ap (λ l. c.copy_run.new.out ++ l) (sym y)
          ∙ sym (both_parts out c.copy_run.new.out c.copy_run-2.new.out k n refl long_x long_y lies.few));
    }
