-- The law over a run.
use Rattle.std.proofs.Common.{◌≡◌, List, [], ◌∷◌, ◌++◌, refl, ap, ◌∙◌}
use Rattle.model.specs.Clusters.{Shape, Laws}
use Rattle.model.specs.References.{State}
use Rattle.model.specs.Pictures.{Image, view}
use Rattle.model.specs.Calls.{Op, Write, Take, Drop, Restore, Claim, Release, Rewrite, step, run}
use Rattle.model.specs.Invariant.{Clean}
use Rattle.model.specs.Law.{imagine, imagined, Allowed, AllowedRun, Stands, Law}
use Rattle.model.proofs.Fixed.{claim-view, claim_sound, claim_flagged, rewrite-view, rewrite_sound, rewrite_flagged, release-view, release_sound, release_flagged}
use Rattle.model.proofs.Writes.{write_stands}
use Rattle.model.proofs.Snaps.{take_stands, drop_stands, restore_stands}

pub one-step : (v : Shape) (ok : Laws v) (s : State) (o : Op) → Clean v s → Allowed v s o → Clean v (step v s o) × (view v (step v s o) ≡ imagine (view v s) o)
one-step v ok s (Write i j f p q) clean a = write_stands v ok s i j f p q clean a
one-step v ok s (Take n p) clean a = take_stands v ok s clean.sound n p a
one-step v ok s (Drop k) clean a = drop_stands v ok s clean.sound k a
one-step v ok s (Restore k) clean a = restore_stands v ok s clean.sound k a
one-step v ok s (Claim c w) clean a = (
  record { sound = claim_sound v ok s clean.sound c w a.0 a.1; flagged = claim_flagged v ok s clean.sound c w a.0 a.1 clean.flagged },
  claim-view v ok s clean.sound c w a.0 a.1,
)
one-step v ok s (Release c w) clean a = (
  record { sound = release_sound v ok s clean.sound c w a.0 a.1 a.2; flagged = release_flagged v ok s clean.sound c w a.0 a.1 a.2 clean.flagged },
  release-view v ok s clean.sound c w a.0 a.1 a.2,
)
one-step v ok s (Rewrite c w) clean a = (
  record { sound = rewrite_sound v ok s clean.sound c w a.0 a.1 a.2; flagged = rewrite_flagged v ok s clean.sound c w a.0 a.1 a.2 clean.flagged },
  rewrite-view v ok s clean.sound c w a.0 a.1 a.2,
)

runs : (v : Shape) (ok : Laws v) (os : List Op) (s : State) → Clean v s → AllowedRun v s os → Stands v s (run v s os) os
runs v ok [] s clean a = record { clean = clean; shown = refl }
runs v ok (o ∷ os) s clean a =
    let one = one-step v ok s o clean a.0 in
    let rest = runs v ok os (step v s o) one.0 a.1 in
    record { clean = rest.clean; shown = rest.shown ∙ ap (λ x. imagined x os) one.1 }

pub law : Law Clean
law v ok s os clean a = runs v ok os s clean a

-- a run in two parts, for a call of the program that is several calls here
module _ (v : Shape) where
  pub run-append : (os ps : List Op) (s : State) → run v s (os ++ ps) ≡ run v (run v s os) ps
  run-append [] ps s = refl
  run-append (o ∷ os) ps s = run-append os ps (step v s o)

  pub allowed_append : (os ps : List Op) (s : State) → AllowedRun v s os → AllowedRun v (run v s os) ps → AllowedRun v s (os ++ ps)
  allowed_append [] ps s a b = b
  allowed_append (o ∷ os) ps s a b = (a.0, allowed_append os ps (step v s o) a.1 b)

pub imagined-append : (os ps : List Op) (a : Image) → imagined a (os ++ ps) ≡ imagined (imagined a os) ps
imagined-append [] ps a = refl
imagined-append (o ∷ os) ps a = imagined-append os ps (imagine a o)
