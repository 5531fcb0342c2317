-- A table that spells ordinates is read so, and gives N of them. Assumes nothing.
use Rattle.std.specs.Prelude.{◌≡◌, Bool, false, List, ◌++◌, ℕ, suc, ◌+◌, ◌≤◌}
use Rattle.std.proofs.Math.Path.{refl}
use Rattle.std.proofs.Common.{sym, ap, ◌∙◌, arith, zero-add}
use Rattle.std.proofs.Math.Nat.{add-zero}
use Rattle.std.proofs.Math.ListN.{length, length-append}
use borrow.Author.Tests.{le-ltb, le-leb}
use Rattle.terms.specs.Logic.{zero_one, no_way}
use Rattle.alphabet_spec.specs.Bytes.{kind}
use Rattle.alphabet_spec.proofs.KindLaws.{pseudo_kind, blank_kind}
use Rattle.table_spec.specs.Frame.{Rules}
use Rattle.table_spec.specs.Values.{Value, Form, Own, is_dif, Spot, first, after, index}
use Rattle.table_spec.specs.Reading.{fresh, inner, opening, inside, step, stop, tokens, accept, push, bare, dif_before, took, checked, finish, judge, read_lines, sooner, read}
use Rattle.table_spec.specs.ReadingLaws.{push_none, push_push}
use Rattle.table_law.specs.Spelling.{Spelled, plus, minus, plain, sqz_zero, sqz_more, dif_zero, dif_more, dup_more, missing, LineEnd, over as end_over, lf as end_lf, cr_lf}
use Rattle.table_law.specs.Spelling.{comment as end_comment, Line, done}
use Rattle.table_law.specs.Spelling.{blank as with-blank, value as with_value, EndsInDif, own_not, gap_not, dif_does, dup_as, Belongs, last_given, next_point, Body, end}
use Rattle.table_law.specs.Spelling.{indent, passed, row, Spells}
use Rattle.table_law.specs.Heads.{lengthens, Apart}
use Rattle.table_law.proofs.Heads.{head_read}
use Rattle.table_law.proofs.Tokens.{end_fresh, end_inner, value_read}
use Rattle.table_law.proofs.Meaning.{stands_says}
use Rattle.table_law.proofs.LineLengths.{spelled_short}

-- ---- "A digit run is always as long as it can be": what stands after a head or a value does not make it longer

end_apart : (tabs : Bool) {t s : List ℕ} → LineEnd t s → Apart tabs t
unfolding kind
end_apart tabs end_over = tt
end_apart tabs end_lf = refl
end_apart tabs cr_lf = refl
end_apart tabs (end_comment r) = refl

value_apart : (tabs : Bool) {q : Bool} {x : Value} {t s : List ℕ} → Spelled q x t s → q ≡ false → Apart tabs t
unfolding kind
value_apart tabs (plus i l r) e = refl
value_apart tabs (minus i l r) e = refl
value_apart tabs (plain i l r) e = no_way (sym e)
value_apart tabs sqz_zero e = refl
value_apart tabs (sqz_more g z l r) e = ap lengthens (pseudo_kind tabs g)
value_apart tabs dif_zero e = refl
value_apart tabs (dif_more g z l r) e = ap lengthens (pseudo_kind tabs g)
value_apart tabs (dup_more g l r) e = ap lengthens (pseudo_kind tabs g)
value_apart tabs missing e = refl

pub line_apart : {tabs q : Bool} {w : Spot} {p e : ℕ} {vs t s : List ℕ} {r : Form} → Line tabs q w p vs r e t s → q ≡ false → Apart tabs t
line_apart {tabs = tabs} (done h) g = end_apart tabs h
line_apart (with-blank h r) g = ap lengthens (blank_kind h)
line_apart {tabs = tabs} (with_value h m r) g = value_apart tabs h g

-- a line that is spelled has a value after its head
not_bare : {tabs q c : Bool} {w : Spot} {p e : ℕ} {vs t s : List ℕ} {r : Form} → Line tabs q w p vs r e t s → w ≡ first c → (a : ℕ) → bare (tokens tabs t 0 a (inner q)) ≡ false
unfolding tokens step inside
not_bare (done h) g a = zero_one cc
not_bare (with-blank h r) g a = rw (blank_kind h) (not_bare r g (suc a))
not_bare {tabs = tabs} (with_value h m r) g a = rw (value_read tabs a h (line_apart r refl)).1 refl

-- ---- a line, and a body

-- a line ends in DIF form, and a head belongs to an index, as reading has it
ends_is : {r : Form} {b : Bool} → EndsInDif r b → is_dif r ≡ b
ends_is own_not = refl
ends_is gap_not = refl
ends_is dif_does = refl
ends_is dup_as = refl

belongs_index : {c : Bool} {i j : ℕ} → Belongs c i j → index c i ≡ j
belongs_index last_given = refl
belongs_index next_point = refl

module _ (R : Rules) where
  -- what a line does, where its points fit: it adds them, and the body goes on after its last point, in its last form
  pub line_does : {q : Bool} {w : Spot} {p e : ℕ} {vs t s : List ℕ} {r : Form} → Line R.tabs q w p vs r e t s → (a i : ℕ) → i + length vs ≤ R.points
      → (c : ℕ) × (judge R (tokens R.tabs t 0 a (inner q)) i p w ≡ push vs (judge R (tokens R.tabs s 0 c fresh) (i + length vs) e (after r)))
  unfolding judge tokens step inside took
  line_does {q = q} {p = p} {s = s} {r = f} (done h) a i n =
      let z = end_inner R.tabs h a q in
      (z.0, rw (z.1, add-zero i) (push_none (judge R (tokens R.tabs s 0 z.0 fresh) i p (after f))))
  line_does (with-blank h r) a i n = rw (blank_kind h) (line_does r (suc a) i n)
  line_does {e = y} {s = s} {r = x} (with_value {us = us} {vs = vs} h m r) a i n =
      let z = value_read R.tabs a h (line_apart r refl) in
      let v = stands_says m in
      let l = length-append us vs in
      let e : i + length us + length vs ≡ i + length (us ++ vs) = omega (arith, l) in
      let k = line_does r z.0 (i + length us) (omega (arith, l)) in
      let j = push_push us vs (judge R (tokens R.tabs s 0 k.0 fresh) (i + length (us ++ vs)) y (after x)) in
      (k.0, rw (z.1, v.0, le-leb (i + length us) R.points (omega (arith, l)), v.1, k.1, e) j)

  pub count : {i p : ℕ} {c : Bool} {ys t : List ℕ} → Body R i p c ys t → i + length ys ≡ R.points
  count end = omega arith
  count (indent h r) = count r
  count (passed h r) = count r
  count (row {i = i} {vs = vs} {ys = ys} h b g v d r) = let x = count r in omega (arith, length-append vs ys)

  pub body_read : {i p : ℕ} {c : Bool} {ys t : List ℕ} → Body R i p c ys t → (a : ℕ) (w : Spot) → dif_before w ≡ c → judge R (tokens R.tabs t 0 a fresh) i p w ≡ accept ys
  unfolding judge tokens step opening stop finish checked push
  body_read end a w e = rw (le-ltb R.points R.points (omega arith), e) refl
  body_read (indent h r) a w e = rw (blank_kind h) (body_read r (suc a) w e)
  body_read (passed h r) a w e = let z = end_fresh R.tabs h a in rw z.1 (body_read r z.0 w e)
  body_read (row {i = i} {r = f} h b g v d r) a w e =
      let z = head_read R.tabs a h (line_apart v refl) in
      let n = count r in
      let y = line_does v z.0 i (omega arith) in
      rw (z.1, e, belongs_index b, g, not_bare v refl z.0, y.1, body_read r y.0 (after f) (ends_is d)) refl

  -- a table that spells some ordinates is read as those
  pub complete : (ys s : List ℕ) → Spells R ys s → read R s ≡ accept ys
  unfolding read read_lines sooner
  complete ys s r = rw (spelled_short r.short 0) (body_read r.body 0 (after Own) refl)

  -- as many as N
  pub spells_count : {ys s : List ℕ} → Spells R ys s → length ys ≡ R.points
  spells_count {ys = ys} r = sym (zero-add (length ys)) ∙ count r.body
