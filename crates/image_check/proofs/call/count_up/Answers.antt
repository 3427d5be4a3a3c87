use Rattle.std.proofs.Common.{arith, ◌≡◌, ℕ, ◌+◌, ◌<◌, Bool, List, map, length, get_or, replicate, ap, ◌∙◌, subst}
use lib.ListN.{length-replicate}
use Rattle.std.proofs.lemmas.List.{get_or-replicate}
use Rattle.walk.specs.References.{references}
use Rattle.tally.specs.Tally.{tally}
use Rattle.tally.specs.Words.{unmarked}
use Rattle.tally.specs.Filling.{filled}
use Rattle.tally.proofs.Filled.{length-filled, filled-tally}
use Rattle.image_check.specs.Totals.{clusters_of, sum_by, leaked}
use Rattle.image_check.proofs.Found.{leaking, lacking, mixing, repeating}
use Rattle.image_check.proofs.Bounds.{past_most}
use Rattle.image_check.proofs.Added.{leaked_is, short_is, mixed_is, repeated_is}
use Rattle.image_check.proofs.call.count_up.Goals as goal

five : (a b c d e u v w x y : ℕ) → a ≡ u → b ≡ v → c ≡ w → d ≡ x → e ≡ y → ◌≡◌ {A = ℕ × ℕ × ℕ × ℕ × ℕ} (a, b, c, d, e) (u, v, w, x, y)
five a b c d e u v w x y p q r s t = λ i. (p i, q i, r i, s i, t i)

pub overflow_add-leaked : goal.overflow_add-leaked
overflow_add-leaked g c = omega (arith, c.totals-found.ensures.most, c.past_end.ensures.value, past_most c.args.n (g.S.Store.bytes c.args.s.now))

pub returns : goal.returns
returns g c =
    let n = c.args.n in
    let bs = g.S.Store.bytes c.args.s.now in
    let rs = c.args.list.now in
    let k = length c.args.words.now in
    let zero' : List ℕ = replicate k 0 in
    let cleared : c.fill.new.self ≡ zero' = c.fill.ensures.after (λ y e. e) in
    let long : length zero' ≡ k = length-replicate {A = ℕ} k 0 in
    let same : length zero' ≡ clusters_of n bs = long ∙ c.requires.words_len in
    let blank : (h : ℕ) → h < length zero' → get_or zero' h 0 ≡ 0 = λ h lt. get_or-replicate k h 0 0 (subst (λ x. h < x) long lt) in
    let words : c.fill-2.new.words ≡ filled n bs rs zero' = c.fill-2.ensures.after ∙ ap (filled n bs rs) cleared in
    let turned : (f : ℕ → ℕ → Bool) → sum_by f c.fill-2.new.words (length c.fill-2.new.words) ≡ sum_by f (filled n bs rs zero') (length zero') =
    λ f. ap (λ l. sum_by f l (length l)) words ∙ ap (sum_by f (filled n bs rs zero')) (length-filled n bs rs zero') in
    let a : c.totals-found.result.leaked + c.past_end.result ≡ leaked n bs (references n bs rs) =
    ap (λ x. x + c.past_end.result) (c.totals-found.ensures.leaked ∙ turned (leaking n bs)) ∙ ap (λ x. sum_by (leaking n bs) (filled n bs rs zero') (length zero') + x) c.past_end.ensures.value ∙ leaked_is n bs rs zero' same blank in
    let b = c.totals-found.ensures.short ∙ turned (lacking n bs) ∙ short_is n bs rs zero' same blank in
    let d = c.totals-found.ensures.mixed ∙ turned mixing ∙ mixed_is n bs rs zero' same blank in
    let e = c.totals-found.ensures.repeated ∙ turned repeating ∙ repeated_is n bs rs zero' same blank in
    record {
      answer = five _ _ _ _ _ _ _ _ _ _ a b d e c.flags.ensures.value;
      words = c.unmark_all.ensures.after ∙ ap (map unmarked) words ∙ filled-tally n bs rs zero' blank ∙ ap (tally (references n bs rs)) long;
    }
