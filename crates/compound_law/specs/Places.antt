-- 02, T-07 and T-01: the line and the column of a place of a data block, in place and in the cut. The cut begins at the place m of the file and has k bytes.
use Rattle.std.specs.Prelude.{◌≡◌, List, ℕ, suc, ◌+◌, ◌≤◌, length, take, drop}
use Rattle.std.proofs.Common.{take-append-drop, length-take-le, take-take}
use Rattle.terms.specs.Places.{line_of, column_after, column_of}
use Rattle.terms.specs.PlaceLaws.{line_before, column_before, line_shift, column_shift}

module _ (s : List ℕ) (m k a : ℕ) (h : m ≤ length s) (g : a ≤ k) where
  -- lines go on from the line where the cut begins
  pub line_cut : suc (line_of s (m + a)) ≡ line_of s m + line_of (take k (drop m s)) a
  line_cut =
      let z = line_shift (take m s) (drop m s) a in
      let y = line_before (take k (drop m s)) a in
      rw (← y, take-take a k (drop m s) g, line_before (drop m s) a) (rw (take-append-drop m s, length-take-le m s h, line_before s m) at z)

  -- columns go on from the column where it begins, up to its first line end
  pub column_cut : column_of s (m + a) ≡ column_after (column_of s m) (take k (drop m s)) a
  column_cut =
      let z = column_shift 1 (take m s) (drop m s) a in
      let y = column_before (column_of s m) (take k (drop m s)) a in
      rw (← y, take-take a k (drop m s) g, column_before (column_of s m) (drop m s) a) (rw (take-append-drop m s, length-take-le m s h, column_before 1 s m) at z)
