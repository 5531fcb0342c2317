-- The stages before a file is written, one inside the other. No place of the code is named here. Assumes nothing.
use mathlib.Core.Path.{◌≡◌, refl, subst, ◌∙◌}
use mathlib.Core.Bool.{Bool, true, false}
use mathlib.Core.List.{List, [], ◌∷◌}
use Prim.Native.Nat.{ℕ, zero, suc, ◌≤◌, ◌<◌}
use native.Mathlib.Omega.{arith}
use lib.IntN.{ℤ, pos}
use lib.ListN.{length, get_or}
use borrow.Author.Tests.{lt-ltb, le-ltb}
use Rattle.table_spec.specs.Frame.{frame_legal, ordinate_of}
use Rattle.table_spec.specs.Writing.{Outcome, declined, fitted}
use Rattle.frame.specs.declared.Frame.{Frame}
use Rattle.frame.specs.Legal.{Sound}
use Rattle.frame.specs.FrameLaws.{Framing}
use Rattle.figure.specs.Bounds.{Small, Factor}
use Rattle.file_spec.specs.declared.Decimal.{Decimal}
use Rattle.file_spec.specs.declared.Numbers.{Numbers}
use Rattle.file_spec.specs.declared.Exactness.{Exactness}
use Rattle.file_spec.specs.Figures.{ratio, whole, agrees}
use Rattle.file_write_spec.specs.File.{ordinates}
use Rattle.file_pieces.specs.Decimals.{Writable}
use Rattle.file_lines.specs.Lines.{AllWritable}
use Rattle.file_plan.specs.Stages.{laid_out, body_of, Scaled, in_frame, first_from, last_from, from_numbers, Plans}
use Rattle.std.specs.Prelude.{Some, None, Result, Ok, Err}
use Rattle.terms.specs.declared.Reason.{Reason}
use Rattle.file_plan.specs.declared.Plan.{Plan}
use Rattle.decimal_spec.specs.Parts.{whole_with}

-- a stage that is what a later one is
pub plans_same : (x y : ℕ → Outcome) (e : Exactness) (title : List ℕ) (es : List ℤ) (r : Result Plan Reason) → ((space : ℕ) → x space ≡ y space) → Plans y e title es r → Plans x e title es r
plans_same x y e title es (Err z) h g = λ space. h space ∙ g space
plans_same x y e title es (Ok p) h g =
    record { titled = g.titled; writable = g.writable; framed = g.framed; exact = g.exact; text = λ space. h space ∙ g.text space }

-- what is taken can be divided
pub small : {d : Decimal} → Writable d → Small d
small w = record { mantissa = w.mantissa; power = w.high }

pub factor : {d : Decimal} → Writable d → 0 < d.mantissa → Factor d
factor w s = record { small = small w; some = s }

pub all_writable : {n : Numbers} → Scaled n → n.npoints ≤ 65536 → AllWritable n
all_writable s h = record { xfactor = s.xfactor; yfactor = s.yfactor; firstx = s.firstx; lastx = s.lastx; npoints = omega arith; firsty = s.firsty }

-- a legal frame has some points, and not too many
pub framing_points : {f l : ℤ} {n : ℕ} {fr : Frame} → Framing f l n fr → (1 ≤ n) × (n ≤ 65536)
framing_points x = let s = subst Sound x.is x.sound in (s.some, s.few)

-- the first ordinate of those that are written
pub first_ordinate : (n : ℕ) (es : List ℤ) → 0 < n → n ≤ length es → get_or (ordinates n es) 0 0 ≡ ordinate_of (get_or es 0 (pos 0))
first_ordinate zero es h l = absurd (omega arith)
first_ordinate (suc n) [] h l = absurd (omega arith)
first_ordinate (suc n) (y ∷ es) h l = refl

-- ---- 1, 2, 29, 15

module _ (title : List ℕ) (n : Numbers) (es : List ℤ) (space : ℕ) (f l : ℤ) where
  pub outside : frame_legal f l n.npoints ≡ false → in_frame title n es space f l ≡ declined 1
  unfolding in_frame
  outside h = rw h refl

  module _ (a : frame_legal f l n.npoints ≡ true) where
    pub too_few : length es < n.npoints → in_frame title n es space f l ≡ declined 2
    unfolding in_frame
    too_few h = rw (a, lt-ltb (length es) n.npoints h) refl

    module _ (b : n.npoints ≤ length es) (s : 0 < n.npoints) where
      abbrev pub fits : Bool → Type 0
      fits q = agrees (ordinate_of (get_or es 0 (pos 0))) (ratio 0 n.firsty n.yfactor).rounded ≡ q

      as_read : (q : Bool) → fits q → agrees (get_or (ordinates n.npoints es) 0 0) (ratio 0 n.firsty n.yfactor).rounded ≡ q
      as_read q h = rw (first_ordinate n.npoints es s b) h

      pub unequal : fits false → in_frame title n es space f l ≡ declined 29
      unfolding in_frame
      unequal h = rw (a, le-ltb (length es) n.npoints b, as_read false h) refl

      pub equal : fits true → in_frame title n es space f l ≡ fitted space (laid_out title n (body_of f l n.npoints es))
      unfolding in_frame
      equal h = rw (a, le-ltb (length es) n.npoints b, as_read true h) refl

-- ---- 28

module _ (title : List ℕ) (n : Numbers) (es : List ℤ) (space : ℕ) where
  pub first_beyond : first_from n ≡ None → from_numbers title n es space ≡ declined 28
  unfolding from_numbers
  first_beyond e = rw e refl

  module _ {m : Bool} {p : ℕ} (e : first_from n ≡ Some (whole_with m p)) where
    pub last_beyond : last_from n ≡ None → from_numbers title n es space ≡ declined 28
    unfolding from_numbers
    last_beyond g = rw (e, g) refl

    pub both_whole : {k : Bool} {q : ℕ} → last_from n ≡ Some (whole_with k q) → from_numbers title n es space ≡ in_frame title n es space (whole m p) (whole k q)
    unfolding from_numbers
    both_whole g = rw (e, g) refl
