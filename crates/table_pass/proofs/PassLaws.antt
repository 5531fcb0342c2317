-- Line after line to the end of the body. No place of the code is named here. Assumes nothing.
use mathlib.Core.Path.{◌≡◌, refl, sym, ap, ◌∙◌}
use mathlib.Core.Bool.{Bool, true, false}
use mathlib.Core.List.{List, [], ◌++◌, append-nil, map}
use Prim.Native.Nat.{ℕ}
use native.Mathlib.Omega.{arith}
use native.Mathlib.Nat.{zero-add}
use lib.Dec.{ltb}
use lib.IntN.{ℤ}
use lib.ListN.{length, length-append}
use lib.Seq.{sets, length-sets}
use borrow.Author.Tests.{ltb-false}
use Rattle.terms.specs.Logic.{pick, no_way}
use Rattle.table_spec.specs.Frame.{Rules, entry_for}
use Rattle.table_spec.specs.Values.{Spot, after, Own}
use Rattle.table_spec.specs.Reading.{over, fault, fresh, Answer, refuse, accept, push, finish, judge, read_lines}
use Rattle.table_lines.specs.Seen.{seen}
use Rattle.table_value.proofs.Turns.{stored_then}
use Rattle.table_spec.specs.ReadingLaws.{no_accept, push_none, push_push}
use Rattle.table_pass.specs.Rows.{Between, Rests, LineSays, finished, passed_of, PassSays}
use Rattle.table_values.specs.declared.Row.{Row}
use Rattle.std.specs.Prelude.{Result, Ok, Err, ⊤}
use Rattle.terms.specs.declared.Fault.{Fault}
use Rattle.terms.specs.Refusals.{fault_at}

-- so far: reading the whole body is the points given, and reading on from here
pub record Reached (R : Rules) (s : List ℕ) (out₀ out : List ℤ) (r : Row) : Type 0 where
  pub rests : Rests R.points s r
  pub points : List ℕ
  pub ordinate : ℕ
  pub spot : Spot
  pub between : Between r ordinate spot
  pub count : r.k ≡ length points
  pub stored : out ≡ sets out₀ 0 (map entry_for points)
  pub law : read_lines R s ≡ push points (judge R (seen s r.at fresh) r.k ordinate spot)

pub reached_same : {R : Rules} {s : List ℕ} {out₀ out : List ℤ} {r : Row} → Reached R s out₀ out r → length out ≡ length out₀
reached_same {out₀ = out₀} g = ap length g.stored ∙ length-sets out₀ 0 (map entry_for g.points)

pub reached_start : (N : ℕ) (passing : ℕ → ℕ → ℕ → Bool) (s : List ℕ) (out : List ℤ)
    → Reached (record { points = N; passing = passing; tabs = Rattle.alphabet_spec.specs.Kinds.tabs_too }) s out out (record { at = 0; k = 0; q = 0; dif = false })
unfolding read_lines seen
reached_start N passing s out =
    record {
      rests = record { high = omega arith; small = omega arith; few = omega arith };
      points = [];
      ordinate = 0;
      spot = after Own;
      between = record { form = refl; last = λ x. no_way x };
      count = refl;
      stored = refl;
      law = push_none _;
    }

module _ {R : Rules} {s : List ℕ} {out₀ out : List ℤ} {r : Row} (g : Reached R s out₀ out r) where
  -- lines passed over
  moved_on : (j : ℕ) → seen s r.at fresh ≡ seen s j fresh → read_lines R s ≡ push g.points (judge R (seen s j fresh) r.k g.ordinate g.spot)
  moved_on j e = g.law ∙ ap (λ x. push g.points (judge R x r.k g.ordinate g.spot)) e

  pub reached_next : (j : ℕ) {out' : List ℤ} {n : Row} → seen s r.at fresh ≡ seen s j fresh → LineSays R s r j out out' (Ok n) → Reached R s out₀ out' n
  reached_next j {out' = out'} e l =
      let z = l.2 g.ordinate g.spot g.between in let c = g.count in let d = z.count in
      record {
        rests = l.1;
        points = g.points ++ z.points;
        ordinate = z.ordinate;
        spot = z.spot;
        between = z.between;
        count = omega (arith, length-append g.points z.points);
        stored = z.stored ∙ rw (g.stored, c, ← zero-add (length g.points)) (stored_then g.points z.points out₀ 0);
        law = moved_on j e ∙ ap (push g.points) z.law ∙ push_push g.points z.points _;
      }

  -- a refusal, of what stands here or of a line
  refused_by : {c a : ℕ} {out' : List ℤ} → read_lines R s ≡ refuse c a → PassSays R s out₀ out' (Err (fault_at c a))
  refused_by e = record { says = sym (ap passed_of e); stores = λ ys h. no_accept (sym e ∙ h); count = λ ys h. no_accept (sym e ∙ h) }

  pub reached_fault : {j : ℕ} → seen s r.at fresh ≡ fault 3 j → PassSays R s out₀ out (Err (fault_at 3 j))
  unfolding judge push
  reached_fault e = refused_by (g.law ∙ rw e refl)

  pub reached_refused : (j : ℕ) {c a : ℕ} (out' : List ℤ) → seen s r.at fresh ≡ seen s j fresh → LineSays R s r j out out' (Err (fault_at c a)) → PassSays R s out₀ out' (Err (fault_at c a))
  unfolding push
  reached_refused j out' e l = refused_by (moved_on j e ∙ ap (push g.points) (l g.ordinate g.spot g.between))

  -- the end
  at_end : seen s r.at fresh ≡ over (length s) → read_lines R s ≡ push g.points (finish R (length s) r.k r.dif)
  unfolding judge
  at_end e = g.law ∙ rw (e, g.between.form) refl

  finish_says : (x y : Bool) (us : List ℕ) (c d : Answer) → c ≡ refuse 12 (length s) → d ≡ refuse 13 (length s)
      → passed_of (push us (pick x c (pick y d (accept [])))) ≡ pick x (Err (fault_at 12 (length s))) (pick y (Err (fault_at 13 (length s))) (Ok tt))
  unfolding push
  finish_says true y us c d e f = rw e refl
  finish_says false true us c d e f = rw f refl
  finish_says false false us c d e f = refl

  accepts_none : (x y : Bool) (us ys : List ℕ) → push us (pick x (refuse 12 (length s)) (pick y (refuse 13 (length s)) (accept []))) ≡ accept ys → (us ≡ ys) × (x ≡ false)
  unfolding push
  accepts_none true y us ys e = no_accept e
  accepts_none false true us ys e = no_accept e
  accepts_none false false us ys e = let y : us ++ [] ≡ ys = cc in (sym (append-nil us) ∙ y, refl)

  pub reached_end : {v : Result ⊤ Fault} → seen s r.at fresh ≡ over (length s) → v ≡ finished R.points (length s) r.k r.dif → PassSays R s out₀ out v
  unfolding finish
  reached_end e f =
      let z = at_end e in
      record {
        says = f ∙ sym (ap passed_of z ∙ finish_says (ltb r.k R.points) r.dif g.points _ _ refl refl);
        stores = λ ys h. g.stored ∙ ap (λ (l : List ℕ). sets out₀ 0 (map entry_for l)) (accepts_none (ltb r.k R.points) r.dif g.points ys (sym z ∙ h)).0;
        count = λ ys h.
            let y = accepts_none (ltb r.k R.points) r.dif g.points ys (sym z ∙ h) in
            let l = ltb-false r.k R.points y.1 in let few = g.rests.few in let c = g.count in let n = ap length y.0 in omega arith;
      }
