-- Totals: they add up in any order, and what they cannot go beyond. No place of the code is named here. Assumes nothing.
use mathlib.Core.Path.{◌≡◌, refl, ap, ◌∙◌}
use Prim.Native.Nat.{ℕ, suc, ◌+◌, ◌≤◌}
use native.Mathlib.Omega.{arith}
use lib.IntN.{◌+ℤ◌, +ℤ_assoc, +ℤ_comm, +ℤ_idl, +ℤ_idr}
use mir.Syntax.{w64}
use mir.Val.{SFits}
use Rattle.night_spec.specs.Night.{no_files, with_report}
use Rattle.night_spec.specs.declared.Account.{Account}
use Rattle.night_spec.specs.declared.Totals.{Totals}
use Rattle.ordinate_account.specs.Bounds.{AccountIn, ReportIn}
use Rattle.night_totals.specs.Bounds.{TotalsIn}
use Rattle.night_totals.proofs.SizeLaws.{size_add, size_fits}
use Rattle.std.specs.Prelude.{Result, Ok, Err}
use Rattle.terms.specs.declared.Refusal.{Refusal}

-- ---- in any order

abbrev pub plus : Totals → Totals → Totals
plus a b = record { files = a.files + b.files; points = a.points + b.points; missing = a.missing + b.missing; sum = a.sum +ℤ b.sum }

pub plus_report : (r : Result Account Refusal) (a b : Totals) → plus (with_report r a) b ≡ plus a (with_report r b)
unfolding with_report
plus_report (Err x) a b = refl
plus_report (Ok x) a b =
    let w : suc a.files + b.files ≡ a.files + suc b.files = omega arith in
    let p : x.points + a.points + b.points ≡ a.points + (x.points + b.points) = omega arith in
    let m : x.missing + a.missing + b.missing ≡ a.missing + (x.missing + b.missing) = omega arith in
    let s = ap (λ z. z +ℤ b.sum) (+ℤ_comm x.sum a.sum) ∙ +ℤ_assoc a.sum x.sum b.sum in
    rw (w, p, m, s) refl

pub plus_none : (a : Totals) → plus a no_files ≡ a
plus_none a =
    let w : a.files + 0 ≡ a.files = omega arith in let p : a.points + 0 ≡ a.points = omega arith in let m : a.missing + 0 ≡ a.missing = omega arith in
    rw (w, p, m, +ℤ_idr a.sum) refl

pub none_plus : (a : Totals) → plus no_files a ≡ a
none_plus a =
    let w : 0 + a.files ≡ a.files = omega arith in let p : 0 + a.points ≡ a.points = omega arith in let m : 0 + a.missing ≡ a.missing = omega arith in
    rw (w, p, m, +ℤ_idl a.sum) refl

-- ---- bounds

pub none_in : (k : ℕ) → TotalsIn k no_files
none_in k = record { files = omega arith; points = omega arith; missing = omega arith; sum = omega arith }

pub wider : {k m : ℕ} {t : Totals} → k ≤ m → TotalsIn k t → TotalsIn m t
wider l h = record { files = omega (arith, h.files); points = omega (arith, h.points); missing = h.missing; sum = omega (arith, h.sum) }

pub more_in : {k : ℕ} (r : Result Account Refusal) {t : Totals} → TotalsIn k t → ReportIn r → TotalsIn (suc k) (with_report r t)
unfolding with_report
more_in (Err x) h g = wider (omega arith) h
more_in (Ok a) {t} h g =
    let s = size_add a.sum t.sum in
    record { files = omega (arith, h.files); points = omega (arith, h.points, g.points); missing = omega (arith, h.missing, g.missing); sum = omega (arith, s, h.sum, g.sum) }

-- 64 bits hold a file's sum, that of the files before it, and both together
pub account_fits : {a : Account} → AccountIn a → SFits w64 a.sum
account_fits {a} g = size_fits a.sum (omega (arith, g.sum))

pub totals_fits : {t : Totals} → TotalsIn 1000 t → SFits w64 t.sum
totals_fits {t} h = size_fits t.sum (omega (arith, h.sum))

pub sum_fits : {t : Totals} {a : Account} → TotalsIn 1000 t → AccountIn a → SFits w64 (a.sum +ℤ t.sum)
sum_fits {t} {a} h g = let s = size_add a.sum t.sum in size_fits (a.sum +ℤ t.sum) (omega (arith, s, h.sum, g.sum))
