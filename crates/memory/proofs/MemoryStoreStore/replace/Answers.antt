use Rattle.std.proofs.Common.{◌≡◌, ℕ, List, ◌++◌, length, take, drop, Result, sym, ap, ◌∙◌, subst, arith}
use Rattle.std.proofs.lemmas.List.{take_at}
use Rattle.fault.specs.declared.Fault.{Fault}
use Rattle.fault.specs.Outcomes.{Gives}
use Rattle.byte_lists.specs.Runs.{Octets, EachOctet}
use Rattle.byte_lists.proofs.Octets.{octets_of, octets_in}
use Rattle.store.specs.Stores.{stored}
use Rattle.store.proofs.Outcomes.{octets_left}
use Rattle.memory.specs.Memory.{memory_bytes, memory_octets}
use Rattle.memory.proofs.MemoryStoreStore.replace.Goals as goal

-- what the vector holds after its list was written
octets_back : (n first : ℕ) (bs new out : List ℕ) (r : Result (Unit {0}) Fault) → length out ≡ n → Gives r (stored bs first new) bs out → Octets bs → Octets new → EachOctet (take n (out ++ drop (length out) bs))
octets_back n first bs new out r long g o p = octets_in (take n (out ++ drop (length out) bs)) (subst Octets (sym (take_at out (drop (length out) bs) n long)) (octets_left r bs first new out g o p))

pub invariant_of-self : goal.invariant_of-self
invariant_of-self c =
    let bs = memory_bytes c.args.self.now in
    let new = c.args.new.now in
    let out = c.replace_in.new.list in
    let r = c.replace_in.result in
    let long : length out ≡ c.args.self.now.content.len = omega (arith, c.replace_in.auto.list, c.as_mut_slice.ensures.len) in
    let given : Gives r (stored bs c.args.first new) bs out = subst (λ l. Gives r (stored l c.args.first new) l out) c.as_mut_slice.ensures.value c.replace_in.ensures.outcome in
    record { octets = octets_back c.args.self.now.content.len c.args.first bs new out r long given (memory_octets c.args.self.now) (octets_of new (λ i. omega (arith, c.type_inv.new i))) }

pub returns : goal.returns
returns c =
    let bs = memory_bytes c.args.self.now in
    let out = c.replace_in.new.list in
    let n = c.args.self.now.content.len in
    let r = c.replace_in.result in
    let long : length out ≡ n = omega (arith, c.replace_in.auto.list, c.as_mut_slice.ensures.len) in
    let is : take n (out ++ drop (length out) bs) ≡ out = take_at out (drop (length out) bs) n long in
    let given : Gives r (stored bs c.args.first c.args.new.now) bs out = subst (λ l. Gives r (stored l c.args.first c.args.new.now) l out) c.as_mut_slice.ensures.value c.replace_in.ensures.outcome in
    record { outcome = subst (λ l. Gives r (stored bs c.args.first c.args.new.now) bs l) (sym is) given; limit = ap length is ∙ long ∙ c.args.self.now.content.ok.0 }
