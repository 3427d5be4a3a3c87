use Rattle.std.proofs.Common.{sym, ap, ◌∙◌}
use Rattle.byte_lists.specs.Runs.{run}
use Rattle.format.specs.Header.{header_of}
use Rattle.format.proofs.Headers.{header-first}
use Rattle.store.proofs.Outcomes.{loaded}
use Rattle.format.proofs.header.judge_store.Goals as goal

pub returns : goal.returns
returns g c =
    let bs = g.S.Store.bytes c.args.s.now in
    let h = loaded bs 0 512 c.read.new.out c.in-Ok.ensures.outcome in
    record {
      value = c.judge.ensures.value
          ∙ ap (λ l. header_of l c.length-length.result) (sym h.1)
          ∙ ap (header_of (run bs 0 512)) c.length-length.ensures.value
          ∙ header-first bs h.0;
    }
