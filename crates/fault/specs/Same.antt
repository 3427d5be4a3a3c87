-- Numbers tell the reasons apart, letters the layers, and their parts the faults. Assumes nothing.
use Rattle.std.proofs.Common.{◌≡◌, ℕ, true, cond, ◌==◌, List, [], ◌∷◌, get_or, sym, refl, ap, subst, ◌∙◌}
use Rattle.std.proofs.lemmas.Bool.{and_parts, and_from, eqb-true, eq-eqb}
use Rattle.std.specs.Bool.{Decides}
use Rattle.std.specs.Cmp.{IsEquivalence, decided}
use Rattle.fault.specs.Faults.{number, letter, same_reason, same_fault}
use Rattle.fault.specs.declared.Fault.{Fault}
use Rattle.fault.specs.declared.Layer.{Layer}
use Rattle.fault.specs.declared.Layer.TheVariants.{Header, Tables, Disk, Store, Call}
use Rattle.fault.specs.declared.Reason.{Reason}
use Rattle.fault.specs.declared.Reason.TheVariants.{NotQcow2, Version, ClusterBits, StoreLength, Features, HeaderForm, GuestSize, TablePlace, BackingName, NameTooLong, NotEmpty, NotClean, Sectors, BadEntry, Compressed, NoRoom, BadId, IdInUse, NoSuchId, SnapshotsFull, ListTooShort, PastDisk, Spoiled, PastStore, Growth}

reasons : List Reason
reasons = NotQcow2 ∷ Version ∷ ClusterBits ∷ StoreLength ∷ Features ∷ HeaderForm ∷ GuestSize ∷ TablePlace ∷ BackingName ∷ NameTooLong ∷ NotEmpty ∷ NotClean ∷ Sectors ∷ BadEntry ∷ Compressed ∷ NoRoom ∷ BadId ∷ IdInUse ∷ NoSuchId ∷ SnapshotsFull ∷ ListTooShort ∷ PastDisk ∷ Spoiled ∷ PastStore ∷ Growth ∷ []

-- the reason of a number
reason_of : ℕ → Reason
reason_of n = get_or (Growth ∷ reasons) n Growth

reason_number : (r : Reason) → reason_of (number r) ≡ r
unfolding reason_of reasons
reason_number NotQcow2 = refl
reason_number Version = refl
reason_number ClusterBits = refl
reason_number StoreLength = refl
reason_number Features = refl
reason_number HeaderForm = refl
reason_number GuestSize = refl
reason_number TablePlace = refl
reason_number BackingName = refl
reason_number NameTooLong = refl
reason_number NotEmpty = refl
reason_number NotClean = refl
reason_number Sectors = refl
reason_number BadEntry = refl
reason_number Compressed = refl
reason_number NoRoom = refl
reason_number BadId = refl
reason_number IdInUse = refl
reason_number NoSuchId = refl
reason_number SnapshotsFull = refl
reason_number ListTooShort = refl
reason_number PastDisk = refl
reason_number Spoiled = refl
reason_number PastStore = refl
reason_number Growth = refl

pub same_number : (r s : Reason) → number r ≡ number s → r ≡ s
same_number r s e = sym (reason_number r) ∙ ap reason_of e ∙ reason_number s

pub reason_decides : (r s : Reason) → Decides (same_reason r s) (r ≡ s)
reason_decides r s = (λ e. same_number r s (eqb-true (number r) (number s) e), λ e. eq-eqb (number r) (number s) (ap number e))

pub reason_laws : IsEquivalence same_reason
reason_laws = decided same_reason reason_decides

-- the layer of a letter
layer_of : ℕ → Layer
layer_of n = cond (n == 72) Header (cond (n == 84) Tables (cond (n == 66) Disk (cond (n == 83) Store Call)))

layer_letter : (l : Layer) → layer_of (letter l) ≡ l
unfolding layer_of
layer_letter Header = refl
layer_letter Tables = refl
layer_letter Disk = refl
layer_letter Store = refl
layer_letter Call = refl

letter_same : (x y : Layer) → letter x ≡ letter y → x ≡ y
letter_same x y e = sym (layer_letter x) ∙ ap layer_of e ∙ layer_letter y

-- equal parts make equal faults
parts_same : (x y : Fault) → x.reason ≡ y.reason → x.layer ≡ y.layer → x.place ≡ y.place → x.depth ≡ y.depth → x ≡ y
parts_same x y p q r s =
    ap (λ a. record { reason = a; layer = x.layer; place = x.place; depth = x.depth }) p
    ∙ ap (λ a. record { reason = y.reason; layer = a; place = x.place; depth = x.depth }) q
    ∙ ap (λ a. record { reason = y.reason; layer = y.layer; place = a; depth = x.depth }) r
    ∙ ap (λ a. record { reason = y.reason; layer = y.layer; place = y.place; depth = a }) s

same_self : (x : Fault) → same_fault x x ≡ true
same_self x =
    and_from _ (x.depth == x.depth)
    (and_from _ (x.place == x.place) (and_from (same_reason x.reason x.reason) (letter x.layer == letter x.layer) (eq-eqb _ _ refl) (eq-eqb _ _ refl)) (eq-eqb _ _ refl))
    (eq-eqb _ _ refl)

-- four tests of which each says that two parts are equal
pub fault_decides : (x y : Fault) → Decides (same_fault x y) (x ≡ y)
fault_decides x y = (
  λ e.
      let a = and_parts _ (x.depth == y.depth) e in
      let b = and_parts _ (x.place == y.place) a.0 in
      let c = and_parts (same_reason x.reason y.reason) (letter x.layer == letter y.layer) b.0 in
      parts_same x y ((reason_decides x.reason y.reason).0 c.0) (letter_same x.layer y.layer (eqb-true _ _ c.1)) (eqb-true _ _ b.1) (eqb-true _ _ a.1),
  λ e. subst (λ z. same_fault x z ≡ true) e (same_self x),
)

pub fault_laws : IsEquivalence same_fault
fault_laws = decided same_fault fault_decides
