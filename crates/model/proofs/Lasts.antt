-- Each snapshot reads as it did when it was taken.
use Rattle.std.proofs.Common.{◌≡◌, ℕ, zero, suc, ◌⊎◌, List, [], ◌∷◌, ◌++◌, map, refl, ap, subst, inl, inr}
use Rattle.model.specs.Clusters.{Shape, Laws}
use Rattle.model.specs.References.{State}
use Rattle.model.specs.Pictures.{Kept, Image, read, kept, view}
use Rattle.model.specs.Calls.{Op, Write, Take, Drop, Restore, Claim, Release, Rewrite, without, step, run}
use Rattle.model.specs.Invariant.{Clean}
use Rattle.model.specs.Law.{imagine, AllowedRun, In, Taken, Lasting}
use Rattle.model.proofs.Runs.{one-step}

in_push : {X : Type 0} (z y : X) (xs : List X) → In z (xs ++ (y ∷ [])) → In z xs ⊎ (z ≡ y)
in_push z y [] (inl e) = inr e
in_push z y [] (inr n) = absurd n
in_push z y (x ∷ xs) (inl e) = inl (inl e)
in_push z y (x ∷ xs) (inr i) = elim (in_push z y xs i) [ inl j ↦ inl (inr j) | inr e ↦ inr e ]

in_without : {X : Type 0} (z : X) (k : ℕ) (xs : List X) → In z (without k xs) → In z xs
in_without z k [] i = i
in_without z zero (x ∷ xs) i = inr i
in_without z (suc k) (x ∷ xs) (inl e) = inl e
in_without z (suc k) (x ∷ xs) (inr i) = inr (in_without z k xs i)

now_taken : (v : Shape) (ok : Laws v) (s : State) (n : List ℕ) (p : ℕ) (os : List Op) (z : Kept) → z ≡ record { id = n; shot = read v s.heap s.live } → Taken v s (Take n p ∷ os) z
now_taken v ok s n p os z e = record { before = []; after = os; id = n; place = p; is = refl; shows = e }

-- one step back
back : (v : Shape) (ok : Laws v) (s : State) (o : Op) (os : List Op) (z : Kept) → In z (imagine (view v s) o).past → In z (view v s).past ⊎ Taken v s (o ∷ os) z
back v ok s (Write i j f p q) os z h = inl h
back v ok s (Take n p) os z h = elim (in_push z (record { id = n; shot = read v s.heap s.live }) (map (kept v s.heap) s.snaps) h) [ inl i ↦ inl i | inr e ↦ inr (now_taken v ok s n p os z e) ]
back v ok s (Drop k) os z h = inl (in_without z k (map (kept v s.heap) s.snaps) h)
back v ok s (Restore k) os z h = inl h
back v ok s (Claim c w) os z h = inl h
back v ok s (Release c w) os z h = inl h
back v ok s (Rewrite c w) os z h = inl h

earlier : (v : Shape) (ok : Laws v) (s : State) (o : Op) (os : List Op) (z : Kept) → Taken v (step v s o) os z → Taken v s (o ∷ os) z
earlier v ok s o os z t = record { before = o ∷ t.before; after = t.after; id = t.id; place = t.place; is = ap (λ l. o ∷ l) t.is; shows = t.shows }

lasts : (v : Shape) (ok : Laws v) (os : List Op) (s : State) → Clean v s → AllowedRun v s os → (z : Kept) → In z (view v (run v s os)).past → In z (view v s).past ⊎ Taken v s os z
lasts v ok [] s clean a z h = inl h
lasts v ok (o ∷ os) s clean a z h =
    let one = one-step v ok s o clean a.0 in
    elim (lasts v ok os (step v s o) one.0 a.1 z h) [
      | inl i ↦ back v ok s o os z (subst (λ (g : Image). In z g.past) one.1 i)
      | inr t ↦ inr (earlier v ok s o os z t)
    ]

pub lasting : Lasting Clean
lasting v ok s os clean a z h = lasts v ok os s clean a z h
