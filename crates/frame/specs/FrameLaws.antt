-- What the answer of the frame's constructor says of F, L and N. Assumes nothing.
use Rattle.std.specs.Prelude.{◌≡◌, true, false, ℕ, suc, ◌<◌, leb, ℤ, pos, negsuc, Option, Some, None}
use Rattle.std.proofs.Math.Path.{refl}
use Rattle.std.proofs.Common.{arith, leb-true}
use Rattle.terms.specs.Logic.{pick, by_case, zero_one, both_true}
use Rattle.table_spec.specs.Frame.{frame_legal, abscissa, abscissa_legal}
use Rattle.frame.specs.declared.Frame.{Frame}
use Rattle.frame.specs.Legal.{framed, Sound}

pub legal_abscissa : (x : ℤ) → abscissa_legal x ≡ true → (0 < abscissa x) × (abscissa x < 20000000000)
legal_abscissa (pos n) e = let l = leb-true n 9999999999 e in (omega arith, omega arith)
legal_abscissa (negsuc n) e = let l = leb-true (suc n) 9999999999 e in (omega arith, omega arith)

legal_sound : (f l : ℤ) (n : ℕ) → frame_legal f l n ≡ true → Sound (record { first = abscissa f; last = abscissa l; points = n })
unfolding frame_legal
legal_sound f l n e =
    let a = both_true (abscissa_legal f) _ e in let b = both_true (abscissa_legal l) _ a.1 in let c = both_true (leb 1 n) _ b.1 in let d = both_true (leb n 65536) _ c.1 in
    let x = legal_abscissa f a.0 in let y = legal_abscissa l b.0 in
    record { low_first = x.0; low_last = y.0; first = x.1; last = y.1; some = leb-true 1 n c.0; few = leb-true n 65536 d.0 }

-- a legal frame: F, L and N within their limits, and no other numbers than theirs
pub record Framing (f l : ℤ) (n : ℕ) (fr : Frame) : Type 0 where
  pub legal : frame_legal f l n ≡ true
  pub is : fr ≡ record { first = abscissa f; last = abscissa l; points = n }
  pub sound : Sound fr

module _ (f l : ℤ) (n : ℕ) where
  pub framed_outside : framed f l n ≡ None → frame_legal f l n ≡ false
  unfolding framed
  framed_outside =
      by_case (λ t. ◌≡◌ {A = Option Frame} (pick t (Some (record { first = abscissa f; last = abscissa l; points = n })) None) None → t ≡ false) (frame_legal f l n) (λ _ e. zero_one cc) (λ _ e. refl)

  pub framed_legal : {fr : Frame} → framed f l n ≡ Some fr → Framing f l n fr
  unfolding framed
  framed_legal {fr} =
      by_case (λ t. frame_legal f l n ≡ t → pick t (Some (record { first = abscissa f; last = abscissa l; points = n })) None ≡ Some fr → Framing f l n fr) (frame_legal f l n)
      (λ _ h e. let z : fr ≡ record { first = abscissa f; last = abscissa l; points = n } = cc in record { legal = h; is = z; sound = rw z (legal_sound f l n h) }) (λ _ h e. zero_one cc) refl
