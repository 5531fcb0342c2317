-- Of the four forms DIFDUP alone does not write each value in full (02, T-02). No place of the code is named here. Assumes nothing.
use mathlib.Core.Path.{◌≡◌, refl, sym}
use mathlib.Core.Bool.{false}
use Rattle.terms.specs.Logic.{no_way}
use Rattle.table_spec.specs.declared.Style.{Style}
use Rattle.table_spec.specs.declared.Style.TheVariants.{Affn, Pac, Sqz, Difdup}
use Rattle.table_spec.specs.Groups.{in_full}

pub only_difdup : (st : Style) → in_full st ≡ false → Difdup ≡ st
only_difdup Difdup e = refl
only_difdup Affn e = no_way (sym e)
only_difdup Pac e = no_way (sym e)
only_difdup Sqz e = no_way (sym e)
