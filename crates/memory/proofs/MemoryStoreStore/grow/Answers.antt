use Rattle.std.proofs.Common.{◌≡◌, length, refl, ◌∙◌, arith}
use Rattle.byte_lists.proofs.Runs.{grow_none}
use Rattle.store.proofs.Outcomes.{grows}
use Rattle.memory.specs.Memory.{memory_bytes, memory_limit}
use Rattle.memory.proofs.MemoryStoreStore.grow.Goals as goal

pub returns-then-length-len : goal.returns-then-length-len
returns-then-length-len c =
    let s = c.args.self.now in
    let bs = memory_bytes s in
    let is : c.args.length ≡ length bs = c.if-length-len.true ∙ c.len.ensures ∙ s.content.ok.0 in
    record { outcome = grows bs (memory_limit s) c.args.length bs (omega arith) (omega arith) (grow_none bs c.args.length (omega arith)); limit = refl }
