-- The entries that code works with: 16 times a byte's kind, and its digit (02, T-05: "a match with ranges over the byte gives kind and digit"). Assumes nothing.
use Rattle.std.specs.Prelude.{true, false, List, ℕ, ◌+◌, ◌-◌, eqb, ltb, length, get_or}
use Rattle.terms.specs.Logic.{pick}
use Rattle.alphabet_spec.specs.Kinds.{Lead, sqz, dif, dup, tabs_too}
use Rattle.alphabet_spec.specs.Bytes.{Byte, digit, lead, sign, quest, blank, point, lf, cr, dollar, other, kind}

abbrev pub lead_code : Lead → ℕ
lead_code dup = 16
lead_code (dif false) = 32
lead_code (dif true) = 48
lead_code (sqz false) = 64
lead_code (sqz true) = 80

-- 16 times the kind, and the digit
abbrev pub code : Byte → ℕ
code (digit d) = d
code (lead k d) = lead_code k + d
code quest = 96
code blank = 112
code (sign false) = 128
code (sign true) = 144
code point = 160
code lf = 176
code cr = 192
code dollar = 208
code other = 240

-- the entry that a byte is to have
unfoldable pub entry : ℕ → ℕ
entry b = code (kind tabs_too b)

-- the entry of the byte at a place, 256 at the end of the text
unfoldable pub entry_at : List ℕ → ℕ → ℕ
entry_at s i = pick (ltb i (length s)) (entry (get_or s i 0)) 256

-- what an entry says
abbrev pub kind_of : ℕ → Byte
kind_of e =
    pick (ltb e 16) (digit e) (pick (ltb e 32) (lead dup (e - 16)) (pick (ltb e 48) (lead (dif false) (e - 32)) (pick (ltb e 64) (lead (dif true) (e - 48))
    (pick (ltb e 80) (lead (sqz false) (e - 64)) (pick (ltb e 96) (lead (sqz true) (e - 80)) (pick (ltb e 112) quest (pick (ltb e 128) blank
    (pick (ltb e 144) (sign false) (pick (ltb e 160) (sign true) (pick (eqb e 160) point (pick (eqb e 176) lf (pick (eqb e 192) cr (pick (eqb e 208) dollar other)))))))))))))
