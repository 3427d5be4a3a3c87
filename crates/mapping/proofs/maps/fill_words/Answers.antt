use Rattle.std.proofs.Common.{ℕ, length, arith}
use Rattle.std.proofs.lemmas.List.FromFn.{fill_by_all}
use Rattle.guest.specs.Shown.{guest_entry}
use Rattle.mapping.specs.Maps.{word_in}
use Rattle.mapping.proofs.maps.fill_words.Goals as goal

pub returns : goal.returns
returns g c =
    let f : ℕ → ℕ = λ k. word_in c.args.n (guest_entry c.args.n (g.S.Store.bytes c.args.s.now) c.args.l1 k) in
    record { after = fill_by_all f c.loop-g.words (length c.args.words.now) 0 c.loop-g.auto.words (λ k lt. c.loop-g.invariant k (omega (arith, c.loop-g-test.false))) }
