-- The readings of 01, The file, that concern labels: a table of texts and their answers, under one theorem. Each text stands above its line.
use Rattle.std.specs.Prelude.{◌≡◌, refl, List, [], ◌∷◌, ℕ, ◌<◌, length, Option, Some, None, Result, Ok, Err}
use Rattle.std.proofs.lemmas.Bool.{lt-leb}
use Rattle.terms.specs.Places.{line_of, column_after}
use Rattle.label_spec.specs.Names.{blank, ignored, upper, norm, sames, TITLE, END}
use Rattle.label_spec.specs.Labels.{eq_in, headed, step, walk, from, hashed}
use Rattle.label_spec.specs.Space.{space, opens, past, past_at}
use Rattle.terms.specs.Refusals.{fault_at}
use Rattle.label_spec.specs.File.{longest_file, titled, opened_at, opened, member, twice, judged, placed, after_title, labelled}
use Rattle.label_spec.specs.Records.{mark_of, record_of, as_record, record_in, record_for}
use Rattle.label_spec.specs.declared.Span.{Span}
use Rattle.label_spec.specs.declared.Places.{Places}
use Rattle.terms.specs.declared.Fault.{Fault}
use Rattle.terms.specs.declared.Refusal.{Refusal}
use Rattle.label_spec.specs.Parts.{span_of, places_with}

-- A file too long: 19 at 0, before all else.
pub too_long : (s : List ℕ) → longest_file < length s → labelled s ≡ Err (fault_at 19 0)
unfolding labelled
too_long s h = rw (lt-leb (length s) longest_file h) refl

-- A text, and what its labels answer.
pub record Sample : Type 0 where
  pub text : List ℕ
  pub answer : Result Places Fault

-- A text, a name as it is compared, and the record that is found.
pub record Search : Type 0 where
  pub text : List ℕ
  pub name : List ℕ
  pub answer : Result (Option Span) Refusal

-- TITLE and END, with blanks, an empty line and a comment before, and blanks before each `##`: ' \r\n$$c\n ##Ti-tle= a\n\t##END='
abbrev pub plain : Sample
plain =
    record {
      text =
          32 ∷ 13 ∷ 10 ∷ 36 ∷ 36 ∷ 99 ∷ 10 ∷ 32 ∷ 35 ∷ 35 ∷ 84 ∷ 105 ∷ 45 ∷ 116 ∷ 108 ∷ 101 ∷ 61 ∷ 32 ∷ 97 ∷ 10 ∷ 9 ∷ 35 ∷ 35 ∷ 69 ∷ 78 ∷ 68 ∷ 61 ∷ [];
      answer = Ok (places_with 8 16 21);
    }

-- Nothing but blanks and a comment: 21 at the length: ' \n$$c'
abbrev pub no_first : Sample
no_first =
    record {
      text =
          32 ∷ 10 ∷ 36 ∷ 36 ∷ 99 ∷ [];
      answer = Err (fault_at 21 5);
    }

-- The first byte that is no blank, line end or comment: '$$c\n x##TITLE=\n##END='
abbrev pub other_first : Sample
other_first =
    record {
      text =
          36 ∷ 36 ∷ 99 ∷ 10 ∷ 32 ∷ 120 ∷ 35 ∷ 35 ∷ 84 ∷ 73 ∷ 84 ∷ 76 ∷ 69 ∷ 61 ∷ 10 ∷ 35 ∷ 35 ∷ 69 ∷ 78 ∷ 68 ∷ 61 ∷ [];
      answer = Err (fault_at 21 5);
    }

-- A lone CR is no blank: '\r##TITLE=\n##END='
abbrev pub lone_cr : Sample
lone_cr =
    record {
      text =
          13 ∷ 35 ∷ 35 ∷ 84 ∷ 73 ∷ 84 ∷ 76 ∷ 69 ∷ 61 ∷ 10 ∷ 35 ∷ 35 ∷ 69 ∷ 78 ∷ 68 ∷ 61 ∷ [];
      answer = Err (fault_at 21 0);
    }

-- A lone `$` is no comment: ' $##TITLE=\n##END='
abbrev pub lone_dollar : Sample
lone_dollar =
    record {
      text =
          32 ∷ 36 ∷ 35 ∷ 35 ∷ 84 ∷ 73 ∷ 84 ∷ 76 ∷ 69 ∷ 61 ∷ 10 ∷ 35 ∷ 35 ∷ 69 ∷ 78 ∷ 68 ∷ 61 ∷ [];
      answer = Err (fault_at 21 1);
    }

-- `##TITLE` with no `=`: 21 comes before 20: '##TITLE\n##END='
abbrev pub title_bare : Sample
title_bare =
    record {
      text =
          35 ∷ 35 ∷ 84 ∷ 73 ∷ 84 ∷ 76 ∷ 69 ∷ 10 ∷ 35 ∷ 35 ∷ 69 ∷ 78 ∷ 68 ∷ 61 ∷ [];
      answer = Err (fault_at 21 0);
    }

-- A first label too long: 21 too: '##AAAAAAAAAAAAAAAAAAAAAAAAAAAAAAAAAAAAAAAAA=\n##END='
abbrev pub title_long : Sample
title_long =
    record {
      text =
          35 ∷ 35 ∷ 65 ∷ 65 ∷ 65 ∷ 65 ∷ 65 ∷ 65 ∷ 65 ∷ 65 ∷ 65 ∷ 65 ∷ 65 ∷ 65 ∷ 65 ∷ 65 ∷ 65 ∷ 65 ∷ 65 ∷ 65 ∷ 65 ∷ 65 ∷ 65 ∷ 65 ∷ 65 ∷ 65 ∷ 65 ∷ 65 ∷
          65 ∷ 65 ∷ 65 ∷ 65 ∷ 65 ∷ 65 ∷ 65 ∷ 65 ∷ 65 ∷ 65 ∷ 65 ∷ 65 ∷ 65 ∷ 65 ∷ 65 ∷ 61 ∷ 10 ∷ 35 ∷ 35 ∷ 69 ∷ 78 ∷ 68 ∷ 61 ∷ [];
      answer = Err (fault_at 21 0);
    }

-- `##=` before TITLE: '##=\n##TITLE=\n##END='
abbrev pub empty_first : Sample
empty_first =
    record {
      text =
          35 ∷ 35 ∷ 61 ∷ 10 ∷ 35 ∷ 35 ∷ 84 ∷ 73 ∷ 84 ∷ 76 ∷ 69 ∷ 61 ∷ 10 ∷ 35 ∷ 35 ∷ 69 ∷ 78 ∷ 68 ∷ 61 ∷ [];
      answer = Err (fault_at 21 0);
    }

-- A label without `=` on its line: '##TITLE=\n##A\n=##END='
abbrev pub bare : Sample
bare =
    record {
      text =
          35 ∷ 35 ∷ 84 ∷ 73 ∷ 84 ∷ 76 ∷ 69 ∷ 61 ∷ 10 ∷ 35 ∷ 35 ∷ 65 ∷ 10 ∷ 61 ∷ 35 ∷ 35 ∷ 69 ∷ 78 ∷ 68 ∷ 61 ∷ [];
      answer = Err (fault_at 20 9);
    }

-- A name of 40 bytes as compared: '##TITLE=\n##a_a_a_a_a_a_a_a_a_a_a_a_a_a_a_a_a_a_a_a_a_a_a_a_a_a_a_a_a_a_a_a_a_a_a_a_a_a_a_a_=\n##END='
abbrev pub forty : Sample
forty =
    record {
      text =
          35 ∷ 35 ∷ 84 ∷ 73 ∷ 84 ∷ 76 ∷ 69 ∷ 61 ∷ 10 ∷ 35 ∷ 35 ∷ 97 ∷ 95 ∷ 97 ∷ 95 ∷ 97 ∷ 95 ∷ 97 ∷ 95 ∷ 97 ∷ 95 ∷ 97 ∷ 95 ∷ 97 ∷ 95 ∷ 97 ∷ 95 ∷ 97 ∷
          95 ∷ 97 ∷ 95 ∷ 97 ∷ 95 ∷ 97 ∷ 95 ∷ 97 ∷ 95 ∷ 97 ∷ 95 ∷ 97 ∷ 95 ∷ 97 ∷ 95 ∷ 97 ∷ 95 ∷ 97 ∷ 95 ∷ 97 ∷ 95 ∷ 97 ∷ 95 ∷ 97 ∷ 95 ∷ 97 ∷ 95 ∷ 97 ∷
          95 ∷ 97 ∷ 95 ∷ 97 ∷ 95 ∷ 97 ∷ 95 ∷ 97 ∷ 95 ∷ 97 ∷ 95 ∷ 97 ∷ 95 ∷ 97 ∷ 95 ∷ 97 ∷ 95 ∷ 97 ∷ 95 ∷ 97 ∷ 95 ∷ 97 ∷ 95 ∷ 97 ∷ 95 ∷ 97 ∷ 95 ∷ 97 ∷
          95 ∷ 97 ∷ 95 ∷ 97 ∷ 95 ∷ 97 ∷ 95 ∷ 61 ∷ 10 ∷ 35 ∷ 35 ∷ 69 ∷ 78 ∷ 68 ∷ 61 ∷ [];
      answer = Ok (places_with 0 7 93);
    }

-- A name of 41 bytes: '##TITLE=\n##aaaaaaaaaaaaaaaaaaaaaaaaaaaaaaaaaaaaaaaaa=\n##END='
abbrev pub forty_one : Sample
forty_one =
    record {
      text =
          35 ∷ 35 ∷ 84 ∷ 73 ∷ 84 ∷ 76 ∷ 69 ∷ 61 ∷ 10 ∷ 35 ∷ 35 ∷ 97 ∷ 97 ∷ 97 ∷ 97 ∷ 97 ∷ 97 ∷ 97 ∷ 97 ∷ 97 ∷ 97 ∷ 97 ∷ 97 ∷ 97 ∷ 97 ∷ 97 ∷ 97 ∷ 97 ∷
          97 ∷ 97 ∷ 97 ∷ 97 ∷ 97 ∷ 97 ∷ 97 ∷ 97 ∷ 97 ∷ 97 ∷ 97 ∷ 97 ∷ 97 ∷ 97 ∷ 97 ∷ 97 ∷ 97 ∷ 97 ∷ 97 ∷ 97 ∷ 97 ∷ 97 ∷ 97 ∷ 97 ∷ 61 ∷ 10 ∷ 35 ∷ 35 ∷
          69 ∷ 78 ∷ 68 ∷ 61 ∷ [];
      answer = Err (fault_at 20 9);
    }

-- No END: 22 at the length: '##TITLE=\n##A=\n'
abbrev pub no_end : Sample
no_end =
    record {
      text =
          35 ∷ 35 ∷ 84 ∷ 73 ∷ 84 ∷ 76 ∷ 69 ∷ 61 ∷ 10 ∷ 35 ∷ 35 ∷ 65 ∷ 61 ∷ 10 ∷ [];
      answer = Err (fault_at 22 14);
    }

-- A label twice, spelled in two ways: '##TITLE=\n##A B=1\nx ##AB=\n##a_/b=\n##END='
abbrev pub again : Sample
again =
    record {
      text =
          35 ∷ 35 ∷ 84 ∷ 73 ∷ 84 ∷ 76 ∷ 69 ∷ 61 ∷ 10 ∷ 35 ∷ 35 ∷ 65 ∷ 32 ∷ 66 ∷ 61 ∷ 49 ∷ 10 ∷ 120 ∷ 32 ∷ 35 ∷ 35 ∷ 65 ∷ 66 ∷ 61 ∷ 10 ∷ 35 ∷ 35 ∷ 97 ∷
          95 ∷ 47 ∷ 98 ∷ 61 ∷ 10 ∷ 35 ∷ 35 ∷ 69 ∷ 78 ∷ 68 ∷ 61 ∷ [];
      answer = Err (fault_at 23 25);
    }

-- Empty names are excepted: '##TITLE=\n##=\n##- =\n##END='
abbrev pub empties : Sample
empties =
    record {
      text =
          35 ∷ 35 ∷ 84 ∷ 73 ∷ 84 ∷ 76 ∷ 69 ∷ 61 ∷ 10 ∷ 35 ∷ 35 ∷ 61 ∷ 10 ∷ 35 ∷ 35 ∷ 45 ∷ 32 ∷ 61 ∷ 10 ∷ 35 ∷ 35 ∷ 69 ∷ 78 ∷ 68 ∷ 61 ∷ [];
      answer = Ok (places_with 0 7 19);
    }

-- A lone CR stays in a name: '##TITLE=\n##A\r=\n##A=\n##END='
abbrev pub cr_in_name : Sample
cr_in_name =
    record {
      text =
          35 ∷ 35 ∷ 84 ∷ 73 ∷ 84 ∷ 76 ∷ 69 ∷ 61 ∷ 10 ∷ 35 ∷ 35 ∷ 65 ∷ 13 ∷ 61 ∷ 10 ∷ 35 ∷ 35 ∷ 65 ∷ 61 ∷ 10 ∷ 35 ∷ 35 ∷ 69 ∷ 78 ∷ 68 ∷ 61 ∷ [];
      answer = Ok (places_with 0 7 20);
    }

-- `$$` before the `=` is part of the name: '##TITLE=\n##A$$=\n##A=\n##END='
abbrev pub dollars_in_name : Sample
dollars_in_name =
    record {
      text =
          35 ∷ 35 ∷ 84 ∷ 73 ∷ 84 ∷ 76 ∷ 69 ∷ 61 ∷ 10 ∷ 35 ∷ 35 ∷ 65 ∷ 36 ∷ 36 ∷ 61 ∷ 10 ∷ 35 ∷ 35 ∷ 65 ∷ 61 ∷ 10 ∷ 35 ∷ 35 ∷ 69 ∷ 78 ∷ 68 ∷ 61 ∷ [];
      answer = Ok (places_with 0 7 21);
    }

-- TITLE again before END: '##TITLE=\n##A=\n##ti tle=\n##END='
abbrev pub title_again : Sample
title_again =
    record {
      text =
          35 ∷ 35 ∷ 84 ∷ 73 ∷ 84 ∷ 76 ∷ 69 ∷ 61 ∷ 10 ∷ 35 ∷ 35 ∷ 65 ∷ 61 ∷ 10 ∷ 35 ∷ 35 ∷ 116 ∷ 105 ∷ 32 ∷ 116 ∷ 108 ∷ 101 ∷ 61 ∷ 10 ∷ 35 ∷ 35 ∷ 69 ∷
          78 ∷ 68 ∷ 61 ∷ [];
      answer = Err (fault_at 24 14);
    }

-- What stands after END is not read: '##TITLE=\n##end= x\n##TITLE=\n##A\n##B=\n##B='
abbrev pub after_end : Sample
after_end =
    record {
      text =
          35 ∷ 35 ∷ 84 ∷ 73 ∷ 84 ∷ 76 ∷ 69 ∷ 61 ∷ 10 ∷ 35 ∷ 35 ∷ 101 ∷ 110 ∷ 100 ∷ 61 ∷ 32 ∷ 120 ∷ 10 ∷ 35 ∷ 35 ∷ 84 ∷ 73 ∷ 84 ∷ 76 ∷ 69 ∷ 61 ∷ 10 ∷
          35 ∷ 35 ∷ 65 ∷ 10 ∷ 35 ∷ 35 ∷ 66 ∷ 61 ∷ 10 ∷ 35 ∷ 35 ∷ 66 ∷ 61 ∷ [];
      answer = Ok (places_with 0 7 9);
    }

-- The first fault of the walk decides: '##TITLE=\n##A=\n##A=\n##TITLE=\n##B\n'
abbrev pub first_fault : Sample
first_fault =
    record {
      text =
          35 ∷ 35 ∷ 84 ∷ 73 ∷ 84 ∷ 76 ∷ 69 ∷ 61 ∷ 10 ∷ 35 ∷ 35 ∷ 65 ∷ 61 ∷ 10 ∷ 35 ∷ 35 ∷ 65 ∷ 61 ∷ 10 ∷ 35 ∷ 35 ∷ 84 ∷ 73 ∷ 84 ∷ 76 ∷ 69 ∷ 61 ∷ 10 ∷
          35 ∷ 35 ∷ 66 ∷ 10 ∷ [];
      answer = Err (fault_at 23 14);
    }

-- A text runs to the next label's `##`, blanks before it included: '##TITLE=t\n##A= 1\n $$x\n ##END='
abbrev pub text : Search
text =
    record {
      text =
          35 ∷ 35 ∷ 84 ∷ 73 ∷ 84 ∷ 76 ∷ 69 ∷ 61 ∷ 116 ∷ 10 ∷ 35 ∷ 35 ∷ 65 ∷ 61 ∷ 32 ∷ 49 ∷ 10 ∷ 32 ∷ 36 ∷ 36 ∷ 120 ∷ 10 ∷ 32 ∷ 35 ∷ 35 ∷ 69 ∷ 78 ∷ 68 ∷
          61 ∷ [];
      name = 65 ∷ [];
      answer = Ok (Some (span_of 14 23));
    }

-- TITLE's own text: '##TITLE=t\n##A= 1\n##END='
abbrev pub title_text : Search
title_text =
    record {
      text =
          35 ∷ 35 ∷ 84 ∷ 73 ∷ 84 ∷ 76 ∷ 69 ∷ 61 ∷ 116 ∷ 10 ∷ 35 ∷ 35 ∷ 65 ∷ 61 ∷ 32 ∷ 49 ∷ 10 ∷ 35 ∷ 35 ∷ 69 ∷ 78 ∷ 68 ∷ 61 ∷ [];
      name = TITLE;
      answer = Ok (Some (span_of 8 10));
    }

-- END's text is no record before END: '##TITLE=t\n##END= 1\n##A='
abbrev pub end_text : Search
end_text =
    record {
      text =
          35 ∷ 35 ∷ 84 ∷ 73 ∷ 84 ∷ 76 ∷ 69 ∷ 61 ∷ 116 ∷ 10 ∷ 35 ∷ 35 ∷ 69 ∷ 78 ∷ 68 ∷ 61 ∷ 32 ∷ 49 ∷ 10 ∷ 35 ∷ 35 ∷ 65 ∷ 61 ∷ [];
      name = END;
      answer = Ok None;
    }

-- A label after END is not looked at: '##TITLE=t\n##END= 1\n##A='
abbrev pub past_end : Search
past_end =
    record {
      text =
          35 ∷ 35 ∷ 84 ∷ 73 ∷ 84 ∷ 76 ∷ 69 ∷ 61 ∷ 116 ∷ 10 ∷ 35 ∷ 35 ∷ 69 ∷ 78 ∷ 68 ∷ 61 ∷ 32 ∷ 49 ∷ 10 ∷ 35 ∷ 35 ∷ 65 ∷ 61 ∷ [];
      name = 65 ∷ [];
      answer = Ok None;
    }

-- A `##` inside a line is no label: '##TITLE=t\n##A=##END=\n##END='
abbrev pub in_line : Search
in_line =
    record {
      text =
          35 ∷ 35 ∷ 84 ∷ 73 ∷ 84 ∷ 76 ∷ 69 ∷ 61 ∷ 116 ∷ 10 ∷ 35 ∷ 35 ∷ 65 ∷ 61 ∷ 35 ∷ 35 ∷ 69 ∷ 78 ∷ 68 ∷ 61 ∷ 10 ∷ 35 ∷ 35 ∷ 69 ∷ 78 ∷ 68 ∷ 61 ∷ [];
      name = 65 ∷ [];
      answer = Ok (Some (span_of 14 21));
    }

-- No record where the labels are refused: '##TITLE=t\n##A=\n'. The end, place 15, is where line 3 would start.
abbrev pub refused : Search
refused =
    record {
      text =
          35 ∷ 35 ∷ 84 ∷ 73 ∷ 84 ∷ 76 ∷ 69 ∷ 61 ∷ 116 ∷ 10 ∷ 35 ∷ 35 ∷ 65 ∷ 61 ∷ 10 ∷ [];
      name = 65 ∷ [];
      answer = Err (record { number = 22; place = 15; line = 3; column = 1 });
    }

-- The table, and what the definitions make of it.
abbrev pub samples : List Sample
samples =
    plain ∷ no_first ∷ other_first ∷ lone_cr ∷ lone_dollar ∷ title_bare ∷ title_long ∷ empty_first ∷ bare ∷ forty
    ∷ forty_one ∷ no_end ∷ again ∷ empties ∷ cr_in_name ∷ dollars_in_name ∷ title_again ∷ after_end ∷ first_fault ∷ []

abbrev pub searches : List Search
searches = text ∷ title_text ∷ end_text ∷ past_end ∷ in_line ∷ refused ∷ []

abbrev pub answers : List Sample → List (Result Places Fault)
answers [] = []
answers (x ∷ xs) = x.answer ∷ answers xs

abbrev pub readings : List Sample → List (Result Places Fault)
readings [] = []
readings (x ∷ xs) = labelled x.text ∷ readings xs

abbrev pub results : List Search → List (Result (Option Span) Refusal)
results [] = []
results (x ∷ xs) = x.answer ∷ results xs

abbrev pub findings : List Search → List (Result (Option Span) Refusal)
findings [] = []
findings (x ∷ xs) = record_for x.text x.name ∷ findings xs

-- Every sample holds.
pub samples_hold : readings samples ≡ answers samples
unfolding labelled after_title opened opened_at titled hashed placed judged twice member from walk step headed eq_in past past_at space opens blank ignored upper norm sames TITLE END
samples_hold = refl

pub searches_hold : findings searches ≡ results searches
unfolding line_of column_after record_for record_in as_record record_of mark_of labelled after_title opened opened_at titled hashed placed judged twice member from walk step headed eq_in past past_at
    space
    opens blank ignored upper norm sames TITLE END
searches_hold = refl
