-- Whether F and L are exact, carried from where they are divided to where the answer is made (02, T-08). Assumes nothing.
use Rattle.std.specs.Prelude.{◌≡◌, refl, Bool, ℕ}
use Rattle.file_spec.specs.declared.Numbers.{Numbers}
use Rattle.file_spec.specs.Figures.{ratio, abscissa_of, exact_with, exactness_of}

-- what is carried is what the quotients of F and L say
pub record Carried (n : Numbers) (f l : Bool) : Type 0 where
  pub first : f ≡ (abscissa_of n.firstx n.xfactor).exact
  pub last : l ≡ (abscissa_of n.lastx n.xfactor).exact

-- with FIRSTY's it is the exactness that the file's numbers have
pub carried_exact : {n : Numbers} {f l : Bool} (u : ℕ) → Carried n f l → exact_with f l (ratio 0 n.firsty n.yfactor).exact u ≡ exactness_of n u
carried_exact u k = rw (k.first, k.last) refl
