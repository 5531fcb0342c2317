-- From what a step answers to what a C host is told. No place of the code is named here. Assumes nothing.
use mathlib.Core.Path.{◌≡◌, ap, ◌∙◌}
use mathlib.Core.List.{List}
use Prim.Native.Nat.{ℕ}
use lib.IntN.{ℤ}
use Rattle.night_step.specs.Says.{NextSays}
use Rattle.night_spec.specs.declared.Reported.{Reported}
use Rattle.host_numbers.specs.Numbers.{refused_of}
use Rattle.night_numbers.specs.Numbers.{progress_of, kept_by, step_answer}
use Rattle.host_night.specs.Told.{StepTold}

pub told : {s : List ℕ} {out out' : List ℤ} {ks ks' answer : List ℕ} {r : ℕ} {x : Reported} → NextSays s (progress_of ks) out out' x
    → answer ≡ step_answer x → r ≡ refused_of (step_answer x) → ks' ≡ kept_by ks x → StepTold s out out' ks ks' answer r
told {ks = ks} h a b c =
    let e = h.answers in
    record { numbers = a ∙ ap step_answer e; returned = b ∙ ap (λ x. refused_of (step_answer x)) e; kept = c ∙ ap (kept_by ks) e; leaves = h.left }
