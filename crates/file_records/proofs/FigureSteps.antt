-- The six numbers, two at a time: the first of two is wrong, the second is, or both are right and the rest follows. No place of the code is named here.
use mathlib.Core.Path.{◌≡◌, refl}
use mathlib.Core.List.{List}
use Prim.Native.Nat.{ℕ}
use Rattle.file_spec.specs.declared.Decimal.{Decimal}
use Rattle.file_spec.specs.declared.Needed.{Needed}
use Rattle.file_spec.specs.Texts.{text_in, mark_of}
use Rattle.file_spec.specs.Figures.{exceeding, decimal_in, count_in, figures_of}
use Rattle.file_records.specs.Order.{from_firstx, from_npoints}
use Rattle.std.specs.Prelude.{Some, None, Ok, Err}
use Rattle.decimal_spec.specs.Parts.{count_with}

module _ (s : List ℕ) (t : Needed) where
  -- XFACTOR and YFACTOR
  pub xfactor_wrong : exceeding (decimal_in (text_in s t.xfactor)) ≡ None → Err (mark_of s t.xfactor) ≡ figures_of s t
  unfolding figures_of
  xfactor_wrong e = rw e refl

  module _ {xf : Decimal} (e : exceeding (decimal_in (text_in s t.xfactor)) ≡ Some xf) where
    pub yfactor_wrong : exceeding (decimal_in (text_in s t.yfactor)) ≡ None → Err (mark_of s t.yfactor) ≡ figures_of s t
    unfolding figures_of
    yfactor_wrong f = rw (e, f) refl

    pub factors_right : {yf : Decimal} → exceeding (decimal_in (text_in s t.yfactor)) ≡ Some yf → from_firstx s t xf yf ≡ figures_of s t
    unfolding figures_of from_firstx from_npoints
    factors_right f = rw (e, f) refl

  module _ (xf yf : Decimal) where
    -- FIRSTX and LASTX
    pub firstx_wrong : decimal_in (text_in s t.firstx) ≡ None → Err (mark_of s t.firstx) ≡ from_firstx s t xf yf
    unfolding from_firstx
    firstx_wrong e = rw e refl

    module _ {fx : Decimal} (e : decimal_in (text_in s t.firstx) ≡ Some fx) where
      pub lastx_wrong : decimal_in (text_in s t.lastx) ≡ None → Err (mark_of s t.lastx) ≡ from_firstx s t xf yf
      unfolding from_firstx
      lastx_wrong f = rw (e, f) refl

      pub abscissas_right : {lx : Decimal} → decimal_in (text_in s t.lastx) ≡ Some lx → from_npoints s t xf yf fx lx ≡ from_firstx s t xf yf
      unfolding from_firstx
      abscissas_right f = rw (e, f) refl

    module _ (fx lx : Decimal) where
      -- NPOINTS and FIRSTY
      pub npoints_wrong : count_in (text_in s t.npoints) ≡ None → Err (mark_of s t.npoints) ≡ from_npoints s t xf yf fx lx
      unfolding from_npoints
      npoints_wrong e = rw e refl

      module _ {n j : ℕ} (e : count_in (text_in s t.npoints) ≡ Some (count_with n j)) where
        pub firsty_wrong : decimal_in (text_in s t.firsty) ≡ None → Err (mark_of s t.firsty) ≡ from_npoints s t xf yf fx lx
        unfolding from_npoints
        firsty_wrong f = rw (e, f) refl

        pub all_right : {fy : Decimal} → decimal_in (text_in s t.firsty) ≡ Some fy
            → Ok (record { xfactor = xf; yfactor = yf; firstx = fx; lastx = lx; npoints = n; firsty = fy }) ≡ from_npoints s t xf yf fx lx
        unfolding from_npoints
        all_right f = rw (e, f) refl
