-- The turns of finding a record of a data block: no place of the code is named here.
use mathlib.Core.Path.{◌≡◌, refl, sym, ◌∙◌}
use mathlib.Core.Bool.{true, false}
use mathlib.Core.List.{List}
use Prim.Native.Nat.{ℕ, ◌<◌, ◌≤◌}
use native.Mathlib.Omega.{arith}
use lib.ListN.{length}
use borrow.Author.Tests.{le-leb, lt-leb, lt-ltb, le-ltb}
use Rattle.terms.specs.Refusals.{refusal_in}
use Rattle.terms.specs.declared.Refusal.{Refusal}
use Rattle.label_spec.specs.Labels.{from, hashed}
use Rattle.label_spec.specs.File.{longest_file}
use Rattle.label_spec.specs.Records.{record_of, as_record}
use Rattle.label.specs.Answers.{found_in, FindIn}
use Rattle.label_page.specs.Post.{FindsFrom}
use Rattle.compound_spec.specs.Answers.{record_in_block}
use Rattle.std.specs.Prelude.{Option, Some, None, Result, Ok, Err}
use Rattle.label_spec.specs.declared.Span.{Span}

abbrev pub FindsIn : List ℕ → ℕ → ℕ → List ℕ → Result (Option Span) Refusal → Type 0
FindsIn s m end w r = (r ≡ record_in_block s m end w) × FindIn (length s) r

module _ (s : List ℕ) (m end : ℕ) (w : List ℕ) where
  pub in_long : longest_file < length s → (q : Refusal) → q ≡ refusal_in s 19 0 → FindsIn s m end w (Err q)
  in_long h q e = (sym (unfold record_in_block in rw (lt-leb (length s) longest_file h, e) refl), rw e (omega arith))

  module _ (h : length s ≤ longest_file) where
    pub in_outside : length s < end → FindsIn s m end w (Ok None)
    in_outside g = (sym (unfold record_in_block in rw (le-leb (length s) longest_file h, lt-leb end (length s) g) refl), tt)

    module _ (g : end ≤ length s) where
      pub in_crossed : end ≤ m → FindsIn s m end w (Ok None)
      in_crossed f = (sym (unfold record_in_block in rw (le-leb (length s) longest_file h, le-leb end (length s) g, le-ltb m end f) refl), tt)

      module _ (f : m < end) where
        pub in_bare : hashed s m ≡ false → FindsIn s m end w (Ok None)
        in_bare k = (sym (unfold record_in_block in rw (le-leb (length s) longest_file h, le-leb end (length s) g, lt-ltb m end f, k) refl), tt)

        module _ (k : hashed s m ≡ true) where
          there : record_in_block s m end w ≡ as_record (record_of (length s) end w (from s m true))
          there = unfold record_in_block in rw (le-leb (length s) longest_file h, le-leb end (length s) g, lt-ltb m end f, k) refl

          inside : (f : Option Span) → found_in 0 (length s) f → FindIn (length s) (Ok f)
          inside (Some y) h = (h.1, h.2)
          inside None h = tt

          pub in_found : (f : Option Span) → FindsFrom s m end w f → FindsIn s m end w (Ok f)
          unfolding as_record
          in_found f x = (sym (there ∙ rw (← x.0) refl), inside f x.1)
