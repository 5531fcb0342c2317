-- The body of a file's table as a part of the text of XYDATA. Assumes nothing.
use Rattle.std.specs.Prelude.{◌≡◌, List, [], ◌∷◌, ℕ, zero, suc, ◌+◌, ◌-◌, take, drop}
use Rattle.std.proofs.Common.{sym, ap, ◌∙◌, arith, drop-drop}
use Rattle.std.proofs.Math.Nat.{sub-zero, zero-sub, suc-sub-suc}
use Rattle.std.proofs.Math.Seq.{take-nil}
use Rattle.label_spec.specs.declared.Span.{Span}
use Rattle.file_spec.specs.Texts.{text_in}

-- the text of XYDATA from the body's start on is the part of the file from there to the record's end
drop_take : (a m : ℕ) (l : List ℕ) → drop a (take m l) ≡ take (m - a) (drop a l)
drop_take zero m l = ap (λ (k : ℕ). take k l) (sym (sub-zero m))
drop_take (suc a) zero l = ap (λ (k : ℕ). take k (drop (suc a) l)) (sym (zero-sub (suc a)))
drop_take (suc a) (suc m) [] = sym (take-nil (suc m - suc a))
drop_take (suc a) (suc m) (x ∷ l) = drop_take a m l ∙ ap (λ (k : ℕ). take k (drop a l)) (sym (suc-sub-suc m a))

pub body_is : (s : List ℕ) (t : Span) (start : ℕ) → take (t.to - (t.from + start)) (drop (t.from + start) s) ≡ drop start (text_in s t)
body_is s t start =
    let e : t.to - (t.from + start) ≡ t.to - t.from - start = omega arith in
    rw (e, ← drop-drop start t.from s) (sym (drop_take start (t.to - t.from) (drop t.from s)))
