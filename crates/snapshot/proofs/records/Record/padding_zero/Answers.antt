use Rattle.std.proofs.Common.{◌-◌, ap, ◌∙◌, rules, tests, eqb, take, drop, length}
use Rattle.std.proofs.lemmas.Iterator.{YieldsList-from_slice}
use Rattle.std.proofs.lemmas.Iterator.Search.{all_from_yields_List}
use Rattle.byte_lists.specs.Runs.{run}
use Rattle.snapshot.specs.Records.{body, all_zero}
use Rattle.snapshot.proofs.records.Record.padding_zero.Goals as goal

pub returns : goal.returns
unfolding run
returns c =
    let r = c.args.self.now in
    let k = c.body-body.result in
    let bs = take (length r.bytes.now - k) (drop k r.bytes.now) in
    record {
      value = all_from_yields_List (λ b. eqb b 0) _ _ c.all.result c.all.ensures.ran (YieldsList-from_slice bs cc) (λ x b q k. search (rules, tests))
          ∙ ap (λ k. all_zero (run r.bytes.now k (length r.bytes.now - k))) c.body-body.ensures.value
          ∙ ap (λ n. all_zero (run r.bytes.now (body r.head) (n - body r.head))) r.whole;
    }
