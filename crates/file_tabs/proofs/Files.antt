-- T-13: the file that the converter makes reads as the file did before: number, place, ordinates, line and column, for all files and all room. Assumes nothing.
use Rattle.std.specs.Prelude.{◌≡◌, Bool, List, [], ◌∷◌, ◌++◌, ℕ, zero, suc, ◌-◌, take, Option, Some, None}
use Rattle.std.proofs.Math.Path.{refl, ap}
use Rattle.std.proofs.Math.Bool.{false}
use Rattle.std.proofs.Math.ListN.{drop}
use Rattle.std.proofs.Math.Seq.{take-nil, drop-nil}
use Rattle.table_spec.specs.Tabs.{commented, spaced}
use Rattle.file_spec.specs.Places.{found_body}
use Rattle.file_spec.specs.Tabs.{spaced_in, detabbed_at, detabbed}
use Rattle.file_tabs.specs.Files.{Keeps}
use Rattle.label_spec.specs.declared.Span.{Span}

before_part : (a n : ℕ) (s : List ℕ) → take a (take a s ++ (spaced false (take n (drop a s)) ++ drop n (drop a s))) ≡ take a s
unfolding spaced
before_part zero n s = refl
before_part (suc a) n [] = rw (take-nil n, drop-nil n) refl
before_part (suc a) n (b ∷ s) = ap (λ (l : List ℕ). b ∷ l) (before_part a n s)

beyond_part : (c : Bool) (n : ℕ) (s : List ℕ) → drop n (spaced c (take n s) ++ drop n s) ≡ drop n s
unfolding spaced
beyond_part c zero s = refl
beyond_part c (suc n) [] = refl
beyond_part c (suc n) (b ∷ s) = beyond_part (commented c b (take n s)) n s

after_part : (a n : ℕ) (s : List ℕ) → drop n (drop a (take a s ++ (spaced false (take n (drop a s)) ++ drop n (drop a s)))) ≡ drop n (drop a s)
unfolding spaced
after_part zero n s = beyond_part false n s
after_part (suc a) n [] = rw (take-nil n, drop-nil n) (drop-nil n)
after_part (suc a) n (b ∷ s) = after_part a n s

keeps_at : (s : List ℕ) (x : Option Span) → Keeps s (detabbed_at s x) x
unfolding detabbed_at spaced_in
keeps_at s None = refl
keeps_at s (Some b) = (before_part b.from (b.to - b.from) s, after_part b.from (b.to - b.from) s)

-- "keeps every other byte and the length"
pub keeps_others : (s : List ℕ) → Keeps s (detabbed s) (found_body s)
keeps_others s = keeps_at s (found_body s)
