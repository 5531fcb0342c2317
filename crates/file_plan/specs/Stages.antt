-- The stages of writing a file, said of its numbers (02, T-04), and what each of them answers in all rooms at once (T-10). Assumes nothing.
use Rattle.std.specs.Prelude.{◌≡◌, true, List, [], ◌∷◌, ◌++◌, ℕ, ◌<◌, ◌≤◌, ltb, ℤ, length, get_or, Option, Result, Ok, Err}
use Rattle.terms.specs.Logic.{pick}
use Rattle.table_spec.specs.Frame.{frame_legal, abscissa}
use Rattle.table_spec.specs.Writing.{Outcome, declined, fitted, written}
use Rattle.table_spec.specs.declared.Style.TheVariants.{Difdup}
use Rattle.file_spec.specs.declared.Numbers.{Numbers}
use Rattle.file_spec.specs.declared.Exactness.{Exactness}
use Rattle.file_spec.specs.Figures.{ratio, abscissa_of, agrees, exactness_of}
use Rattle.file_write_spec.specs.Records.{entries_text}
use Rattle.file_write_spec.specs.File.{end_line, within_limit, ordinates, limited}
use Rattle.file_pieces.specs.Decimals.{Writable}
use Rattle.file_lines.specs.Lines.{AllWritable, heading_of}
use Rattle.file_plan.specs.declared.Plan.{Plan}
use Rattle.decimal_spec.specs.declared.Whole.{Whole}
use Rattle.terms.specs.declared.Reason.{Reason}
use Rattle.terms.specs.Refusals.{reason_number}

-- heading, body and END's record
abbrev pub laid_out : List ℕ → Numbers → List ℕ → List ℕ
laid_out title n body = entries_text (heading_of title n) ++ (body ++ entries_text (end_line ∷ []))

-- the body, in F and L
abbrev pub body_of : ℤ → ℤ → ℕ → List ℤ → List ℕ
body_of f l n es = written Difdup (abscissa f) (abscissa l) n (ordinates n es)

-- a table that can be written
pub record Framed (f l : ℤ) (n : ℕ) (es : List ℤ) : Type 0 where
  pub legal : frame_legal f l n ≡ true
  pub enough : n ≤ length es

-- decimals that are taken, whatever N is
pub record Scaled (n : Numbers) : Type 0 where
  pub xfactor : Writable n.xfactor
  pub yfactor : Writable n.yfactor
  pub firstx : Writable n.firstx
  pub lastx : Writable n.lastx
  pub firsty : Writable n.firsty
  pub some_x : 0 < n.xfactor.mantissa
  pub some_y : 0 < n.yfactor.mantissa

-- what is exact
abbrev pub exact_in : Numbers → List ℤ → Exactness
exact_in n es = exactness_of n (get_or (ordinates n.npoints es) 0 0)

-- 1, 2, 29, 15, in F and L
unfoldable pub in_frame : List ℕ → Numbers → List ℤ → ℕ → ℤ → ℤ → Outcome
in_frame title n es space f l =
    pick (frame_legal f l n.npoints)
    (pick (ltb (length es) n.npoints) (declined 2)
    (pick (agrees (get_or (ordinates n.npoints es) 0 0) (ratio 0 n.firsty n.yfactor).rounded)
    (fitted space (laid_out title n (body_of f l n.npoints es))) (declined 29)))
    (declined 1)

-- F and L, as they are rounded
abbrev pub first_from : Numbers → Option Whole
first_from n = (abscissa_of n.firstx n.xfactor).rounded

abbrev pub last_from : Numbers → Option Whole
last_from n = (abscissa_of n.lastx n.xfactor).rounded

-- 28, then the rest
unfoldable pub from_numbers : List ℕ → Numbers → List ℤ → ℕ → Outcome
from_numbers title n es space =
    limited (first_from n) (limited (last_from n) (in_frame title n es space (within_limit (first_from n)) (within_limit (last_from n))))

-- ---- what a stage answers

-- the plan of a file whose outcome in each room is x: a title that is taken, the numbers and the frame of what is laid, and what of it is exact
pub record Planning (x : ℕ → Outcome) (e : Exactness) (title : List ℕ) (es : List ℤ) (p : Plan) : Type 0 where
  pub titled : length title ≤ 72
  pub writable : AllWritable p.numbers
  pub framed : Framed p.first p.last p.numbers.npoints es
  pub exact : p.exact ≡ e
  pub text : (space : ℕ) → x space ≡ fitted space (laid_out title p.numbers (body_of p.first p.last p.numbers.npoints es))

-- a plan, or the number that is refused with in every room
abbrev pub Plans : (ℕ → Outcome) → Exactness → List ℕ → List ℤ → Result Plan Reason → Type 0
Plans x e title es (Ok p) = Planning x e title es p
Plans x e title es (Err y) = (space : ℕ) → x space ≡ declined (reason_number y)

-- what a stage answers of every title that is taken
abbrev pub PlansAll : (List ℕ → ℕ → Outcome) → Exactness → List ℤ → Result Plan Reason → Type 0
PlansAll x e es r = (title : List ℕ) → length title ≤ 72 → Plans (x title) e title es r
