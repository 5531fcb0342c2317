-- What the next label says by itself: no place of the code is named here.
use Rattle.label_spec.specs.declared.Label.{Label}
use mathlib.Core.Path.{◌≡◌, refl, sym, ap, ◌∙◌}
use mathlib.Core.Bool.{Bool, true, false}
use mathlib.Core.List.{List, [], ◌∷◌}
use Prim.Native.Nat.{ℕ, ◌+◌, ◌<◌}
use native.Mathlib.Omega.{arith}
use lib.Dec.{eqb, ltb}
use lib.ListN.{length}
use borrow.Author.Tests.{eq-eqb, ltb-true, ltb-false}
use Rattle.terms.specs.Logic.{pick, no_way}
use Rattle.label_spec.specs.SharedLaws.{pick_same}
use Rattle.label_spec.specs.Names.{name_in, sames, TITLE, END}
use Rattle.label_spec.specs.Labels.{Walk, label, from}
use Rattle.label_spec.specs.NameLaws.{name_end}
use Rattle.label_spec.specs.LabelLaws.{resume, from_end}
use Rattle.terms.specs.Refusals.{fault_at}
use Rattle.label_spec.specs.Scans.{known, clash, judge}
use Rattle.label_spec.specs.Records.{mark_of}
use Rattle.label_spec.specs.RecordLaws.{mark_hashed}
use Rattle.label_judged.specs.declared.Judged.{Judged}
use Rattle.label_names.specs.Post.{empty}
use Rattle.label_judged.specs.Post.{leads, Told}
use Rattle.label_lines.specs.Post.{Marked, Met}
use Rattle.label_judged.proofs.MarkTurns.{met_label}
use Rattle.std.specs.Prelude.{Ok, Err}
use Rattle.label_spec.specs.Parts.{edges_with}

-- The place of the next `##` is that of the next label.
module _ (s : List ℕ) (at k : ℕ) (q : Marked s at k) where
  mark_cases : (t : Bool) → ltb k (length s) ≡ t → k ≡ mark_of (length s) (from s at false)
  unfolding mark_of
  mark_cases true h = rw q.same (sym (mark_hashed s (length s) k (q.stops (ltb-true k (length s) h))))
  mark_cases false h =
      let l = ltb-false k (length s) h in
      let z : k ≡ length s = omega (arith, q.high, l) in
      rw (q.same, from_end s k true l) z

  pub mark_is : k ≡ mark_of (length s) (from s at false)
  mark_is = mark_cases (ltb k (length s)) refl

-- Empty names are excepted.
clash_empty : (m : ℕ) (v : List ℕ) (all : Walk) → empty v ≡ true → clash m v all ≡ false
unfolding empty clash
clash_empty m [] all h = refl
clash_empty m (b ∷ v) all h = cc

clash_named : (m : ℕ) (v : List ℕ) (all : Walk) → empty v ≡ false → clash m v all ≡ known m v all
unfolding empty clash
clash_named m [] all h = cc
clash_named m (b ∷ v) all h = refl

-- A walk that comes to m after a label comes to it.
pub leads_on : (m x n e : ℕ) (v : List ℕ) (k rest : Walk) → k ≡ label x n e v rest → leads m rest ≡ true → leads m k ≡ true
unfolding leads
leads_on m x n e v k rest p h = rw (p, h) (pick_same (eqb x m) true)

pub leads_here : (x n e : ℕ) (v : List ℕ) (k rest : Walk) → k ≡ label x n e v rest → leads x k ≡ true
unfolding leads
leads_here x n e v k rest p = rw (p, eq-eqb x x refl) refl

-- What the next label says by itself.
module _ (s : List ℕ) (at : ℕ) where
  pub told_none : Met s at false Label.None → Told s at (Judged.Done (Err (fault_at 22 (length s))))
  unfolding resume judge
  told_none x = record { says = (omega arith, λ all. ap (judge (length s) all) x.law) }

  pub told_bad : (m : ℕ) → Met s at false (Label.Bad m) → Told s at (Judged.Done (Err (fault_at 20 m)))
  unfolding resume judge
  told_bad m x = record { says = (omega (arith, x.good.1), λ all. ap (judge (length s) all) x.law) }

  module _ (m n e : ℕ) (x : Met s at false (Label.At m n e)) where
    told_label : (all : Walk) → judge (length s) all (from s at false)
        ≡ pick (sames (name_in s n e) END) (Ok (edges_with m e))
        (pick (sames (name_in s n e) TITLE) (Err (fault_at 24 m))
        (pick (clash m (name_in s n e) all) (Err (fault_at 23 m)) (judge (length s) all (from s (e + 1) false))))
    unfolding resume judge
    told_label all = ap (judge (length s) all) x.law

    pub told_end : sames (name_in s n e) END ≡ true → Told s at (Judged.Done (Ok (edges_with m e)))
    told_end h = record { says = ((x.good.0, omega (arith, x.good.1, x.good.2), x.good.3), λ all. told_label all ∙ rw h refl) }

    module _ (a : sames (name_in s n e) END ≡ false) where
      pub told_title : sames (name_in s n e) TITLE ≡ true → Told s at (Judged.Done (Err (fault_at 24 m)))
      told_title h = record { says = (omega (arith, x.good.1, x.good.2, x.good.3), λ all. told_label all ∙ rw (a, h) refl) }

      module _ (b : sames (name_in s n e) TITLE ≡ false) where
        pub told_empty : empty (name_in s n e) ≡ true → Told s at (Judged.Empty e)
        told_empty h = record {
          says = (
            omega (arith, x.good.0, x.good.1, x.good.2),
            x.good.3,
            λ all. told_label all ∙ rw (a, b, clash_empty m (name_in s n e) all h) refl,
            λ y. leads_on y m n e (name_in s n e) (from s at false) (from s (e + 1) false) (met_label s at false m n e x),
          );
        }

        not_empty : empty (name_in s n e) ≡ false → (t : Bool) → ltb n e ≡ t → n < e
        unfolding empty
        not_empty h true g = ltb-true n e g
        not_empty h false g = no_way (sym (rw (name_end s n e (ltb-false n e g)) at h))

        pub told_named : empty (name_in s n e) ≡ false → Told s at (Judged.Named m n e)
        told_named h = record {
          says = (
            x.good.0,
            omega (arith, x.good.1),
            not_empty h (ltb n e) refl,
            x.good.3,
            met_label s at false m n e x,
            λ all. told_label all ∙ rw (a, b, clash_named m (name_in s n e) all h) refl,
          );
        }
