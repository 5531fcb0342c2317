-- What the code's steps need of the places of labels.
use Rattle.std.specs.Prelude.{◌≡◌, refl, true, false, List, ℕ, ◌+◌, ◌-◌, leb, length, take, drop, Option, Some, None}
use Rattle.label_spec.specs.SharedLaws.{picked}
use Rattle.label_spec.specs.Names.{norm}
use Rattle.label_spec.specs.Labels.{Walk, longest_name, headed, from, hashed}
use Rattle.label_spec.specs.LabelLaws.{eq_at, label_is}
use Rattle.label_spec.specs.Records.{mark_of}

headed_mark : (len : ℕ) (s : List ℕ) (m n : ℕ) (K : Walk) (p : Option ℕ) → mark_of len (headed s m n K p) ≡ m
unfolding mark_of headed
headed_mark len s m n K None = refl
headed_mark len s m n K (Some e) = picked (λ (k : Walk). mark_of len k ≡ m) (leb (length (norm (take (e - n) s))) longest_name) refl refl

-- What stands at a `##` begins there.
pub mark_hashed : (s : List ℕ) (len i : ℕ) → hashed s i ≡ true → mark_of len (from s i true) ≡ i
mark_hashed s len i y = rw (label_is s i y) (headed_mark len (drop (i + 2) s) i (i + 2) (from s (i + 1) false) (eq_at s (i + 2)))
