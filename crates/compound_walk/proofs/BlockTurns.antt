-- The turns of `walk_block`, from what the functions that it calls ensure: no place of the code is named here.
use Rattle.label_spec.specs.declared.Label.{Label}
use mathlib.Core.Path.{◌≡◌}
use mathlib.Core.Bool.{true, false}
use mathlib.Core.List.{List}
use Prim.Native.Nat.{ℕ, suc, ◌+◌, ◌<◌, ◌≤◌}
use native.Mathlib.Omega.{arith}
use lib.ListN.{length}
use Rattle.terms.specs.Logic.{both}
use Rattle.terms.specs.Refusals.{fault_at}
use Rattle.terms.specs.declared.Fault.{Fault}
use Rattle.label_spec.specs.Names.{sames, TITLE, END, name_in}
use Rattle.label_spec.specs.Labels.{label, from}
use Rattle.label_spec.specs.LabelLaws.{resume}
use Rattle.label_lines.specs.Post.{Met, Marked}
use Rattle.label_judged.proofs.JudgeTurns.{mark_is}
use Rattle.compound_spec.specs.declared.Own.{Own}
use Rattle.compound_words.specs.Post.{note_of}
use Rattle.compound_names.specs.OwnNames.{own_clash}
use Rattle.compound_walk.specs.Turns.{counted, Closes, Gone, gone_none, gone_bad, gone_end, gone_closed, gone_deep, gone_fault, gone_inner, gone_twice, gone_table, gone_own}
use Rattle.std.specs.Prelude.{Ok, Err}
use Rattle.compound_walk.specs.Parts.{closing_with}

module _ (s : List ℕ) (m e left i : ℕ) (o : Own) (t : ℕ) (c : Gone s m e left i o t) where
  pub block_none : Met s i false Label.None → Closes s m e left (Err (fault_at 22 (length s)))
  unfolding resume
  block_none x = gone_none s m e left i o t c x.law

  pub block_bad : (a : ℕ) → Met s i false (Label.Bad a) → Closes s m e left (Err (fault_at 20 a))
  unfolding resume
  block_bad a x = gone_bad s m e left i o t c a _ x.law

  module _ (a n q : ℕ) (x : Met s i false (Label.At a n q)) where
    there : from s i false ≡ label a n q (name_in s n q) (from s (q + 1) false)
    unfolding resume
    there = x.law

    low : i ≤ a
    low = x.good.0

    mid : a < q
    mid = omega (arith, x.good)

    high : q < length s
    high = x.good.3

    pub block_end : sames (name_in s n q) END ≡ true → Closes s m e left (Ok (closing_with a q o t))
    block_end g = gone_end s m e left i o t c a n q (name_in s n q) there low mid high g

    module _ (g : sames (name_in s n q) END ≡ false) where
      module _ (h : sames (name_in s n q) TITLE ≡ true) where
        pub block_closed : o.link ≡ false → Closes s m e left (Err (fault_at 24 a))
        block_closed k = gone_closed s m e left i o t c a n q (name_in s n q) there low mid high g h k

        pub block_deep : left ≡ 0 → Closes s m e left (Err (fault_at 24 a))
        block_deep k = gone_deep s m e left i o t c a n q (name_in s n q) there low mid high g h k

        module _ (k : o.link ≡ true) (j : ℕ) (d : left ≡ suc j) where
          pub block_fault : (r : Fault) → Closes s a q j (Err r) → Closes s m e left (Err r)
          block_fault r w = gone_fault s m e left i o t c a n q (name_in s n q) there low mid high g h k j d r.number r.place w

          pub block_inner : (y p : ℕ) (w : Own) (r k : ℕ) → k ≡ counted w.link t r → Closes s a q j (Ok (closing_with y p w r)) → Gone s m e left (p + 1) o k
          block_inner y p w r l f z = rw f (gone_inner s m e left i o t c a n q (name_in s n q) there low mid high g h k j d y p w r z)

      module _ (h : sames (name_in s n q) TITLE ≡ false) where
        pub block_twice : own_clash a (name_in s n q) (from s (e + 1) false) ≡ true → Closes s m e left (Err (fault_at 23 a))
        block_twice k = gone_twice s m e left i o t c a n q (name_in s n q) there low mid high g h k

        module _ (k : own_clash a (name_in s n q) (from s (e + 1) false) ≡ false) (b : ℕ) (z : Marked s (q + 1) b) (w : Own) (y : w ≡ note_of s (name_in s n q) (q + 1) b o) where
          pub block_table : both w.link w.table ≡ true → Closes s m e left (Err (fault_at 33 a))
          block_table l = gone_table s m e left i o t c a n q (name_in s n q) there low mid high g h k b (mark_is s (q + 1) b z) z.low z.high (rw y at l)

          pub block_own : both w.link w.table ≡ false → Gone s m e left (q + 1) w t
          block_own l = rw y (gone_own s m e left i o t c a n q (name_in s n q) there low mid high g h k b (mark_is s (q + 1) b z) z.low z.high (rw y at l))
