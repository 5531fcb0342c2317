-- What `profile::read_profile` promises, in terms of its contract and of those of `file::read_file`, `label::find` and `profile_text::text_of`. Assumes nothing.
use Rattle.std.specs.Prelude.{◌≡◌, refl, false, List, ◌++◌, ℕ, suc, ◌+◌, ◌*◌, ◌<◌, ◌≤◌, ℤ, length, drop, Result, Ok, Err}
use Rattle.std.proofs.Common.{sym, ◌∙◌, arith}
use Rattle.std.proofs.Math.ListN.{get_or-append}
use Rattle.std.proofs.lemmas.List.Edits.{sets, sets-eq}
use Rattle.terms.specs.Logic.{zero_one}
use Rattle.terms.specs.Refusals.{refusal_in}
use Rattle.terms.specs.declared.Refusal.{Refusal}
use Rattle.label_spec.specs.Names.{norm}
use Rattle.label_spec.specs.Records.{record_for}
use Rattle.file_spec.specs.declared.FileTable.{FileTable}
use Rattle.file_spec.specs.File.{FileAnswer, refuse_file, accept_file, read_file, told_file, stored_file}
use Rattle.file.specs.Answers.{FileSays}
use Rattle.profile_spec.specs.Wanted.{wanted, kth}
use Rattle.profile_spec.specs.Profile.{text_at, shown, ProfileAnswer, refuse_profile, accept_profile, read_profile, told_profile}
use Rattle.profile_law.specs.Fifteen.{long, all_long}
use Rattle.profile_law.specs.Plain.{refused_as_file, Accepted, accepted_as_file}
use Rattle.profile_law.specs.AnyPage.{HasAll, in_file}
use Rattle.profile_law.proofs.AnyPage.{any_page, in_file_lem}
use Rattle.profile_law.specs.ShownTexts.{shown_at, shown_text}
use Rattle.profile.specs.Answers.{ProfileSays}
use Rattle.profile_spec.specs.declared.PageRefusal.{PageRefusal}
use Rattle.profile_spec.specs.Parts.{page_refusal}

module _ {s p : List ℕ} {out out' : List ℤ} {ns ns' : List ℕ} where
  -- a file that the plain reader refuses gets the plain reader's answer, and every ordinate and number is what it was
  pub refused_plainly : {left : List ℤ} {q : Refusal} {r : Result FileTable PageRefusal} → FileSays s out left (Err q) → ProfileSays s p out out' ns ns' r
      → (r ≡ Err (page_refusal false q)) × (out' ≡ out) × (ns' ≡ ns)
  refused_plainly {left} {q} {r} f g = cases (read_file s (length out)) refl f.answers
    where
      cases : (y : FileAnswer) → read_file s (length out) ≡ y → Err q ≡ told_file s y → (r ≡ Err (page_refusal false q)) × (out' ≡ out) × (ns' ≡ ns)
      cases (accept_file t ys) h e = zero_one cc
      cases (refuse_file c a) h e =
          let z : q ≡ refusal_in s c a = cc in
          let x = refused_as_file s p (length out) c a h in
          (g.answers ∙ rw (x, z) refl, g.leaves ∙ rw x refl, g.shows ∙ rw x refl)

  module _ {t : FileTable} (g : ProfileSays s p out out' ns ns' (Ok t)) where
    -- an accepted profile: the ordinates, and the numbers that show its texts
    record Said : Type 0 where
      ys : List ℕ
      ms : List ℕ
      is : read_profile s p (length out) ≡ accept_profile t ys ms

    said : Said
    said = cases (read_profile s p (length out)) refl g.answers
      where
        cases : (y : ProfileAnswer) → read_profile s p (length out) ≡ y → Ok t ≡ told_profile s p y → Said
        cases (refuse_profile q c a) h e = zero_one cc
        cases (accept_profile u ys ms) h e = let z : t ≡ u = cc in record { ys = ys; ms = ms; is = rw z h }

    fits : Accepted s p (length out) t said.ys said.ms
    fits = accepted_as_file s p (length out) t said.ys said.ms said.is

    -- what the profile's reader accepts, the plain one accepts with the same table and the same ordinates
    pub accepted_plainly : {left : List ℤ} {r : Result FileTable Refusal} → FileSays s out left r → (r ≡ Ok t) × (left ≡ out')
    accepted_plainly {left} f =
        let x : left ≡ stored_file out (accept_file t said.ys) = f.leaves ∙ rw fits.file refl in
        let y : out' ≡ stored_file out (accept_file t said.ys) = g.leaves ∙ rw said.is refl in
        (f.answers ∙ rw fits.file refl, x ∙ sym y)

    -- what is shown of the k-th record is the text that `text_of` returns for its name, however that is spelled
    pub shows_texts : 45 ≤ length ns → (k : ℕ) → k < 15 → (name : List ℕ) → norm name ≡ (kth k).name → text_at s p (shown_at ns' k) ≡ shown s p (norm name) (record_for s (norm name))
    shows_texts room k h name e =
        let ms = said.ms in
        let l : length ms ≡ 45 = rw fits.numbers (all_long s (suc fits.eq) fits.end p wanted ∙ rw long refl) in
        let z : 0 + length ms ≤ length ns = omega (arith, l, room) in
        let stored : ns' ≡ sets ns 0 ms = g.shows ∙ rw said.is refl in
        let there : ns' ≡ ms ++ drop (0 + length ms) ns = stored ∙ sets-eq ms ns 0 z in
        let a : 3 * k < length ms = omega (arith, l, h) in
        let b : suc (3 * k) < length ms = omega (arith, l, h) in
        let c : suc (suc (3 * k)) < length ms = omega (arith, l, h) in
        let rest = drop (0 + length ms) ns in
        rw (there, get_or-append ms rest 0 (3 * k) a, get_or-append ms rest 0 (suc (3 * k)) b, get_or-append ms rest 0 (suc (suc (3 * k))) c, e)
        (shown_text s p (length out) t said.ys ms fits k h)

-- a file that has all fifteen records gets one answer, whatever the page
pub whatever_page : {s p q : List ℕ} {out a b : List ℤ} {ns c d : List ℕ} {r x : Result FileTable PageRefusal} → HasAll s
    → ProfileSays s p out a ns c r → ProfileSays s q out b ns d x → (r ≡ x) × (a ≡ b) × (c ≡ d)
whatever_page {s} {p} {q} {out} h f g =
    let e = any_page s h p q (length out) in (
      f.answers ∙ rw e (told (read_profile s q (length out)) (rw e at (in_file_lem s h p (length out)))) ∙ sym g.answers,
      f.leaves ∙ rw e refl ∙ sym g.leaves,
      f.shows ∙ rw e refl ∙ sym g.shows,
    )
  where
    told : (y : ProfileAnswer) → in_file y → told_profile s p y ≡ told_profile s q y
    told (refuse_profile d c a) i = rw i refl
    told (accept_profile t ys ms) i = refl
