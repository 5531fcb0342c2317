-- From the parts of what a file's labels say to the whole: no place of the code is named here. Assumes nothing.
use mathlib.Core.Path.{◌≡◌, refl, sym, ap, ◌∙◌}
use mathlib.Core.Bool.{false}
use mathlib.Core.List.{List, []}
use Prim.Native.Nat.{ℕ, ◌+◌, ◌-◌, ◌<◌, ◌≤◌}
use native.Mathlib.Omega.{arith}
use lib.ListN.{length}
use borrow.Author.Tests.{lt-leb, le-leb}
use Rattle.terms.specs.declared.Fault.{Fault}
use Rattle.label_spec.specs.Labels.{from}
use Rattle.terms.specs.Refusals.{fault_at}
use Rattle.label_spec.specs.File.{longest_file, opened, judged, placed, after_title, labelled}
use Rattle.label_title.specs.Answers.{OpenIn}
use Rattle.label_walk.specs.Answers.{LabelledIn}
use Rattle.label_walk.proofs.WalkTurns.{Answers}
use Rattle.std.specs.Prelude.{Result, Ok, Err}
use Rattle.label_spec.specs.declared.Places.{Places}
use Rattle.label_spec.specs.Parts.{edges_with, places_with}

-- What the function over a file's labels answers.
abbrev pub Labels : List ℕ → Result Places Fault → Type 0
Labels s r = (r ≡ labelled s) × LabelledIn s r

pub labels_long : (s : List ℕ) → longest_file < length s → Labels s (Err (fault_at 19 0))
labels_long s h = (unfold labelled in rw (lt-leb (length s) longest_file h) refl, omega arith)

module _ (s : List ℕ) (h : length s ≤ longest_file) where
  labels_are : labelled s ≡ after_title s (opened s)
  unfolding labelled
  labels_are = rw (le-leb (length s) longest_file h) refl

  pub labels_unopened : (r : Fault) → (Err r ≡ opened s) × OpenIn s (Err r) → Labels s (Err r)
  labels_unopened r o = (unfold after_title in sym (labels_are ∙ ap (after_title s) (sym o.0)), o.1)

  module _ (m e : ℕ) (o : (Ok (edges_with m e) ≡ opened s) × OpenIn s (Ok (edges_with m e))) where
    labels_walk : labelled s ≡ placed m e (judged (length s) [] (from s (e + 1) false))
    unfolding after_title
    labels_walk = labels_are ∙ ap (after_title s) (sym o.0)

    pub labels_fault : (r : Fault) → Answers s (e + 1) (Err r) → Labels s (Err r)
    labels_fault r a = (unfold placed in sym (labels_walk ∙ ap (placed m e) (sym a.0)), a.1)

    pub labels_ended : (x q : ℕ) → Answers s (e + 1) (Ok (edges_with x q)) → Labels s (Ok (places_with m e x))
    labels_ended x q a = (
      unfold placed in sym (labels_walk ∙ ap (placed m e) (sym a.0)),
      (o.1, omega (arith, a.1.0), omega (arith, a.1.1, a.1.2)),
    )
