-- Two stores part-way through a list of calls. Assumes nothing.
use Rattle.std.proofs.Common.{◌≡◌, ℕ, Bool, true, List, [], Decides, refl}
use Rattle.store.specs.Calls.{answers, leaves}
use Rattle.store.specs.declared.calls.StoreCall.{StoreCall}

-- `rest` is still to be asked, at a and b; `all` says whether the answers were equal so far
pub record Midway (room : ℕ) (calls : List StoreCall) (limA limB : ℕ) (a₀ b₀ : List ℕ) (rest : List StoreCall) (a b : List ℕ) (all : Bool) : Type 0 where
  pub first : leaves limA rest a ≡ leaves limA calls a₀
  pub second : leaves limB rest b ≡ leaves limB calls b₀
  pub up : all ≡ true → answers room limA rest a ≡ answers room limB rest b → answers room limA calls a₀ ≡ answers room limB calls b₀
  pub down : answers room limA calls a₀ ≡ answers room limB calls b₀ → (all ≡ true) × (answers room limA rest a ≡ answers room limB rest b)

module _ (room : ℕ) (calls : List StoreCall) (limA limB : ℕ) (a₀ b₀ : List ℕ) where
  pub midway_start : Midway room calls limA limB a₀ b₀ calls a₀ b₀ true
  midway_start = record { first = refl; second = refl; up = λ _ e. e; down = λ e. (refl, e) }

  pub midway_end : (a b : List ℕ) (all : Bool) → Midway room calls limA limB a₀ b₀ [] a b all → Decides all (answers room limA calls a₀ ≡ answers room limB calls b₀)
  midway_end a b all m = (λ t. m.up t refl, λ w. (m.down w).0)

-- equal bytes and limits give equal answers and leave equal bytes
pub alike : (room : ℕ) (calls : List StoreCall) (la lb : ℕ) (a b : List ℕ) → a ≡ b → la ≡ lb → (answers room la calls a ≡ answers room lb calls b) × (leaves la calls a ≡ leaves lb calls b)
alike room calls la lb a b e l = (cc, cc)
