-- `night_totals::with_file` meets its contract: each number of the totals with the file's, and the sums fit 64 bits.
use mathlib.Core.Path.{refl}
use native.Mathlib.Numerals.{add-one}
use mir.Facts.{to_z-of_z}
use Rattle.night_totals.proofs.TotalLaws.{account_fits, totals_fits, sum_fits}
use Rattle.night_totals.proofs.with_file.Goals as goal

pub overflow_add-sum : goal.overflow_add-sum
overflow_add-sum c =
    let t = c.requires.0 in let a = c.requires.1 in
    rw (to_z-of_z (account_fits a), to_z-of_z (totals_fits t)) (sum_fits t a)

pub returns : goal.returns
returns c =
    let t = c.requires.0 in let a = c.requires.1 in
    rw (to_z-of_z (account_fits a), to_z-of_z (totals_fits t), to_z-of_z (sum_fits t a), add-one c.args.t.files) refl
