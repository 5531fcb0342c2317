-- 02, T-09 and the tables of document 001 ("Core Fixed Header Information", "Core Variable Header Information", "Core Data"): the fifteen records of the profile
-- in 001's order of labels, their names as they compare, and the words that are listed for them. Each name and each list cites its place in 001. Assumes nothing.
use Rattle.std.specs.Prelude.{List, [], ◌∷◌, ℕ, get_or}

-- a record that the profile wants; where no word is listed, any text will do
pub record Wanted : Type 0 where
  pub name : List ℕ
  pub words : List (List ℕ)

abbrev wants : List ℕ → List (List ℕ) → Wanted
wants w ws = record { name = w; words = ws }

-- ---- the names

-- 3.1.2 `##JCAMP-DX=`
abbrev JCAMPDX : List ℕ
JCAMPDX = 74 ∷ 67 ∷ 65 ∷ 77 ∷ 80 ∷ 68 ∷ 88 ∷ []

-- 3.1.3 `##DATA TYPE=`
abbrev DATATYPE : List ℕ
DATATYPE = 68 ∷ 65 ∷ 84 ∷ 65 ∷ 84 ∷ 89 ∷ 80 ∷ 69 ∷ []

-- 3.1.4 `##DATA CLASS=`
abbrev DATACLASS : List ℕ
DATACLASS = 68 ∷ 65 ∷ 84 ∷ 65 ∷ 67 ∷ 76 ∷ 65 ∷ 83 ∷ 83 ∷ []

-- 3.1.5 `##ORIGIN=`
abbrev ORIGIN : List ℕ
ORIGIN = 79 ∷ 82 ∷ 73 ∷ 71 ∷ 73 ∷ 78 ∷ []

-- 3.1.6 `##OWNER=`
abbrev OWNER : List ℕ
OWNER = 79 ∷ 87 ∷ 78 ∷ 69 ∷ 82 ∷ []

-- 3.2.2 `##.IMS PRESSURE=`
abbrev PRESSURE : List ℕ
PRESSURE = 46 ∷ 73 ∷ 77 ∷ 83 ∷ 80 ∷ 82 ∷ 69 ∷ 83 ∷ 83 ∷ 85 ∷ 82 ∷ 69 ∷ []

-- 3.2.3 `##.CARRIER GAS=`
abbrev CARRIER : List ℕ
CARRIER = 46 ∷ 67 ∷ 65 ∷ 82 ∷ 82 ∷ 73 ∷ 69 ∷ 82 ∷ 71 ∷ 65 ∷ 83 ∷ []

-- 3.2.4 `##.DRIFT GAS=`
abbrev DRIFT : List ℕ
DRIFT = 46 ∷ 68 ∷ 82 ∷ 73 ∷ 70 ∷ 84 ∷ 71 ∷ 65 ∷ 83 ∷ []

-- 3.2.5 `##.ELECTRIC FIELD=`
abbrev FIELD : List ℕ
FIELD = 46 ∷ 69 ∷ 76 ∷ 69 ∷ 67 ∷ 84 ∷ 82 ∷ 73 ∷ 67 ∷ 70 ∷ 73 ∷ 69 ∷ 76 ∷ 68 ∷ []

-- 3.2.6 `##.ION POLARITY=`
abbrev POLARITY : List ℕ
POLARITY = 46 ∷ 73 ∷ 79 ∷ 78 ∷ 80 ∷ 79 ∷ 76 ∷ 65 ∷ 82 ∷ 73 ∷ 84 ∷ 89 ∷ []

-- 3.2.7 `##.IONIZATION MODE=`
abbrev MODE : List ℕ
MODE = 46 ∷ 73 ∷ 79 ∷ 78 ∷ 73 ∷ 90 ∷ 65 ∷ 84 ∷ 73 ∷ 79 ∷ 78 ∷ 77 ∷ 79 ∷ 68 ∷ 69 ∷ []

-- 3.2.8 `##.IMS TEMPERATURE=`
abbrev TEMPERATURE : List ℕ
TEMPERATURE = 46 ∷ 73 ∷ 77 ∷ 83 ∷ 84 ∷ 69 ∷ 77 ∷ 80 ∷ 69 ∷ 82 ∷ 65 ∷ 84 ∷ 85 ∷ 82 ∷ 69 ∷ []

-- 3.2.9 `##.SHUTTER OPENING TIME=`
abbrev OPENING : List ℕ
OPENING = 46 ∷ 83 ∷ 72 ∷ 85 ∷ 84 ∷ 84 ∷ 69 ∷ 82 ∷ 79 ∷ 80 ∷ 69 ∷ 78 ∷ 73 ∷ 78 ∷ 71 ∷ 84 ∷ 73 ∷ 77 ∷ 69 ∷ []

-- 3.3.1 `##XUNITS=`
abbrev XUNITS : List ℕ
XUNITS = 88 ∷ 85 ∷ 78 ∷ 73 ∷ 84 ∷ 83 ∷ []

-- 3.3.1 `##YUNITS=`
abbrev YUNITS : List ℕ
YUNITS = 89 ∷ 85 ∷ 78 ∷ 73 ∷ 84 ∷ 83 ∷ []

-- ---- the listed words, byte for byte

-- the version, 3.1.2: `5.01`
abbrev pub version : List (List ℕ)
version = (53 ∷ 46 ∷ 48 ∷ 49 ∷ []) ∷ []

-- the data type, 3.1.3; 02 takes one of the four: `ION MOBILITY SPECTRUM`
abbrev pub spectrum : List (List ℕ)
spectrum = (73 ∷ 79 ∷ 78 ∷ 32 ∷ 77 ∷ 79 ∷ 66 ∷ 73 ∷ 76 ∷ 73 ∷ 84 ∷ 89 ∷ 32 ∷ 83 ∷ 80 ∷ 69 ∷ 67 ∷ 84 ∷ 82 ∷ 85 ∷ 77 ∷ []) ∷ []

-- the data class, 3.1.4; 02 takes one of the four: `XYDATA`
abbrev pub table : List (List ℕ)
table = (88 ∷ 89 ∷ 68 ∷ 65 ∷ 84 ∷ 65 ∷ []) ∷ []

-- the polarities, 3.2.6: `POSITIVE`, `NEGATIVE`
abbrev pub polarities : List (List ℕ)
polarities = (80 ∷ 79 ∷ 83 ∷ 73 ∷ 84 ∷ 73 ∷ 86 ∷ 69 ∷ []) ∷ (78 ∷ 69 ∷ 71 ∷ 65 ∷ 84 ∷ 73 ∷ 86 ∷ 69 ∷ []) ∷ []

-- the ionisation codes, 3.2.7: `UV`, `BR`, `AL`, `PD`, `CD`, `ESI`, `LI`, `LD`, `Si`, `SY`
abbrev pub modes : List (List ℕ)
modes = (85 ∷ 86 ∷ []) ∷ (66 ∷ 82 ∷ []) ∷ (65 ∷ 76 ∷ []) ∷ (80 ∷ 68 ∷ []) ∷ (67 ∷ 68 ∷ []) ∷ (69 ∷ 83 ∷ 73 ∷ []) ∷ (76 ∷ 73 ∷ []) ∷ (76 ∷ 68 ∷ []) ∷ (83 ∷ 73 ∷ []) ∷ (83 ∷ 89 ∷ []) ∷ []

-- the X units, 3.3.1: `SECONDS`, `MILLISECONDS`, `MICROSECONDS`, `NANOSECONDS`
abbrev pub xunits : List (List ℕ)
xunits =
    (83 ∷ 69 ∷ 67 ∷ 79 ∷ 78 ∷ 68 ∷ 83 ∷ []) ∷
    (77 ∷ 73 ∷ 76 ∷ 76 ∷ 73 ∷ 83 ∷ 69 ∷ 67 ∷ 79 ∷ 78 ∷ 68 ∷ 83 ∷ []) ∷
    (77 ∷ 73 ∷ 67 ∷ 82 ∷ 79 ∷ 83 ∷ 69 ∷ 67 ∷ 79 ∷ 78 ∷ 68 ∷ 83 ∷ []) ∷
    (78 ∷ 65 ∷ 78 ∷ 79 ∷ 83 ∷ 69 ∷ 67 ∷ 79 ∷ 78 ∷ 68 ∷ 83 ∷ []) ∷
    []

-- the Y units, 3.3.1: `MICROAMPERES`, `NANOAMPERES`, `PICOAMPERES`
abbrev pub yunits : List (List ℕ)
yunits =
    (77 ∷ 73 ∷ 67 ∷ 82 ∷ 79 ∷ 65 ∷ 77 ∷ 80 ∷ 69 ∷ 82 ∷ 69 ∷ 83 ∷ []) ∷
    (78 ∷ 65 ∷ 78 ∷ 79 ∷ 65 ∷ 77 ∷ 80 ∷ 69 ∷ 82 ∷ 69 ∷ 83 ∷ []) ∷
    (80 ∷ 73 ∷ 67 ∷ 79 ∷ 65 ∷ 77 ∷ 80 ∷ 69 ∷ 82 ∷ 69 ∷ 83 ∷ []) ∷
    []

-- ---- the records

unfoldable pub wanted : List Wanted
wanted =
    wants JCAMPDX version ∷
    wants DATATYPE spectrum ∷
    wants DATACLASS table ∷
    wants ORIGIN [] ∷
    wants OWNER [] ∷
    wants PRESSURE [] ∷
    wants CARRIER [] ∷
    wants DRIFT [] ∷
    wants FIELD [] ∷
    wants POLARITY polarities ∷
    wants MODE modes ∷
    wants TEMPERATURE [] ∷
    wants OPENING [] ∷
    wants XUNITS xunits ∷
    wants YUNITS yunits ∷
    []

-- the k-th of them, counted from 0; from the fifteenth on there is none
abbrev pub kth : ℕ → Wanted
kth k = get_or wanted k (wants [] [])
