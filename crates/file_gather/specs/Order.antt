-- The seven records in the order that 25 lists (01, "The file"). Assumes nothing.
use Rattle.std.specs.Prelude.{List, [], ◌∷◌, ℕ, get_or}
use Rattle.label_spec.specs.declared.Span.{Span}
use Rattle.file_spec.specs.declared.Needed.{Needed}
use Rattle.file_spec.specs.Texts.{XFACTOR, YFACTOR, FIRSTX, LASTX, NPOINTS, FIRSTY, XYDATA}

-- their names
abbrev pub NAMES : List (List ℕ)
NAMES = XFACTOR ∷ YFACTOR ∷ FIRSTX ∷ LASTX ∷ NPOINTS ∷ FIRSTY ∷ XYDATA ∷ []

-- the name of the k-th
abbrev pub name_at : ℕ → List ℕ
name_at k = get_or NAMES k []

-- no text
abbrev pub none : Span
none = record { from = 0; to = 0 }

-- their texts, each under its name
abbrev pub needed_of : List Span → Needed
needed_of l =
    record {
      xfactor = get_or l 0 none;
      yfactor = get_or l 1 none;
      firstx = get_or l 2 none;
      lastx = get_or l 3 none;
      npoints = get_or l 4 none;
      firsty = get_or l 5 none;
      xydata = get_or l 6 none;
    }
