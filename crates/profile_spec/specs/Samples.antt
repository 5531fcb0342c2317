-- 02, T-09: samples, computed from the definitions.
use Rattle.std.specs.Prelude.{◌≡◌, refl, true, false, List, [], ◌∷◌, ℕ, length, Some, None, Ok, Err}
use Rattle.label_spec.specs.Names.{blank, ignored, upper, norm, sames}
use Rattle.label_spec.specs.Labels.{eq_in, headed, step, walk, from}
use Rattle.label_spec.specs.Space.{space, opens, past, past_at}
use Rattle.label_spec.specs.Records.{mark_of, record_of}
use Rattle.keyword_spec.specs.Keywords.{word_from, is_word}
use Rattle.profile_spec.specs.Wanted.{modes, wanted}
use Rattle.profile_spec.specs.Profile.{on_page, placed, located, any_word, listed, word_at, judged, words, present, records, profiled, numbers, all_numbers}
use Rattle.profile_spec.specs.declared.Unfit.{Unfit}
use Rattle.label_spec.specs.Parts.{span_of}

-- the profile has fifteen records
fifteen : length wanted ≡ 15
unfolding wanted
fifteen = refl

-- ---- a record on a page

-- `##OWNER=me/##ORIGIN=us`: a record of a page
page_first : on_page (35 ∷ 35 ∷ 79 ∷ 87 ∷ 78 ∷ 69 ∷ 82 ∷ 61 ∷ 109 ∷ 101 ∷ 10 ∷ 35 ∷ 35 ∷ 79 ∷ 82 ∷ 73 ∷ 71 ∷ 73 ∷ 78 ∷ 61 ∷ 117 ∷ 115 ∷ []) (79 ∷ 82 ∷ 73 ∷ 71 ∷ 73 ∷ 78 ∷ []) ≡ Some (span_of 20 22)
unfolding on_page record_of mark_of from walk step headed eq_in norm ignored blank upper sames
page_first = refl

-- `##OWNER=me/##ORIGIN=us`: the label that begins the page
page_start : on_page (35 ∷ 35 ∷ 79 ∷ 87 ∷ 78 ∷ 69 ∷ 82 ∷ 61 ∷ 109 ∷ 101 ∷ 10 ∷ 35 ∷ 35 ∷ 79 ∷ 82 ∷ 73 ∷ 71 ∷ 73 ∷ 78 ∷ 61 ∷ 117 ∷ 115 ∷ []) (79 ∷ 87 ∷ 78 ∷ 69 ∷ 82 ∷ []) ≡ Some (span_of 8 11)
unfolding on_page record_of mark_of from walk step headed eq_in norm ignored blank upper sames
page_start = refl

-- `  ##X=1/`: blanks may stand before it
page_blank : on_page (32 ∷ 9 ∷ 35 ∷ 35 ∷ 88 ∷ 61 ∷ 49 ∷ 10 ∷ []) (88 ∷ []) ≡ Some (span_of 6 8)
unfolding on_page record_of mark_of from walk step headed eq_in norm ignored blank upper sames
page_blank = refl

-- `##X=1/##x=2/`: of two with one name the first counts
page_twice : on_page (35 ∷ 35 ∷ 88 ∷ 61 ∷ 49 ∷ 10 ∷ 35 ∷ 35 ∷ 120 ∷ 61 ∷ 50 ∷ 10 ∷ []) (88 ∷ []) ≡ Some (span_of 4 6)
unfolding on_page record_of mark_of from walk step headed eq_in norm ignored blank upper sames
page_twice = refl

-- `##X=1/##y/##Z=2`: a faulty label is ignored, but ends the text before it
page_fault : on_page (35 ∷ 35 ∷ 88 ∷ 61 ∷ 49 ∷ 10 ∷ 35 ∷ 35 ∷ 121 ∷ 10 ∷ 35 ∷ 35 ∷ 90 ∷ 61 ∷ 50 ∷ []) (88 ∷ []) ≡ Some (span_of 4 6)
unfolding on_page record_of mark_of from walk step headed eq_in norm ignored blank upper sames
page_fault = refl

-- `##X=1/##y/##Z=2`: the records after a faulty label count
page_after : on_page (35 ∷ 35 ∷ 88 ∷ 61 ∷ 49 ∷ 10 ∷ 35 ∷ 35 ∷ 121 ∷ 10 ∷ 35 ∷ 35 ∷ 90 ∷ 61 ∷ 50 ∷ []) (90 ∷ []) ≡ Some (span_of 14 15)
unfolding on_page record_of mark_of from walk step headed eq_in norm ignored blank upper sames
page_after = refl

-- `##END=/##Z=2`: END is another record there
page_other : on_page (35 ∷ 35 ∷ 69 ∷ 78 ∷ 68 ∷ 61 ∷ 10 ∷ 35 ∷ 35 ∷ 90 ∷ 61 ∷ 50 ∷ []) (90 ∷ []) ≡ Some (span_of 11 12)
unfolding on_page record_of mark_of from walk step headed eq_in norm ignored blank upper sames
page_other = refl

-- `##X=1/`: a record that is not there
page_none : on_page (35 ∷ 35 ∷ 88 ∷ 61 ∷ 49 ∷ 10 ∷ []) (90 ∷ []) ≡ None
unfolding on_page record_of mark_of from walk step headed eq_in norm ignored blank upper sames
page_none = refl

-- ---- words, of the ionisation codes

-- ` $$ c/ UV \r/$$ d`: blanks, line ends and comments around are dropped
word_around : listed modes (32 ∷ 36 ∷ 36 ∷ 32 ∷ 99 ∷ 10 ∷ 32 ∷ 85 ∷ 86 ∷ 32 ∷ 13 ∷ 10 ∷ 36 ∷ 36 ∷ 32 ∷ 100 ∷ []) ≡ true
unfolding is_word word_from any_word space opens past past_at blank sames
word_around = refl

-- `UV BR`: two words are not listed
word_two : listed modes (85 ∷ 86 ∷ 32 ∷ 66 ∷ 82 ∷ []) ≡ false
unfolding is_word word_from any_word space opens past past_at blank sames
word_two = refl

-- `uv`: byte for byte
word_lower : listed modes (117 ∷ 118 ∷ []) ≡ false
unfolding is_word word_from any_word space opens past past_at blank sames
word_lower = refl

-- `UVX`: no byte more
word_longer : listed modes (85 ∷ 86 ∷ 88 ∷ []) ≡ false
unfolding is_word word_from any_word space opens past past_at blank sames
word_longer = refl

-- ` /`: no word
word_none : listed modes (32 ∷ 10 ∷ []) ≡ false
unfolding is_word word_from any_word space opens past past_at blank sames
word_none = refl

-- `UV\r`: CR without LF is no blank
word_cr : listed modes (85 ∷ 86 ∷ 13 ∷ []) ≡ false
unfolding is_word word_from any_word space opens past past_at blank sames
word_cr = refl

-- 31 stands at the word, after a comment; or at the record end if there is none. Both texts stand from 3 on, one in the file and one on the page.
place_word : word_at (35 ∷ 35 ∷ 61 ∷ 32 ∷ 36 ∷ 36 ∷ 32 ∷ 99 ∷ 10 ∷ 32 ∷ 66 ∷ 82 ∷ 10 ∷ []) [] (record { page = false; from = 3; to = 13 }) ≡ 10
unfolding space opens past past_at blank
place_word = refl

place_none : word_at [] (35 ∷ 35 ∷ 61 ∷ 32 ∷ 10 ∷ []) (record { page = true; from = 3; to = 5 }) ≡ 5
unfolding space opens past past_at blank
place_none = refl

-- ---- the fifteen records

-- a page that has them all
abbrev all : List ℕ
all =
    35 ∷ 35 ∷ 74 ∷ 67 ∷ 65 ∷ 77 ∷ 80 ∷ 45 ∷ 68 ∷ 88 ∷ 61 ∷ 53 ∷ 46 ∷ 48 ∷ 49 ∷ 10 ∷ 35 ∷ 35 ∷ 68 ∷ 65 ∷ 84 ∷ 65 ∷ 32 ∷ 84 ∷ 89 ∷ 80 ∷ 69 ∷ 61 ∷ 73 ∷ 79 ∷ 78 ∷ 32 ∷ 77 ∷ 79 ∷ 66 ∷
    73 ∷ 76 ∷ 73 ∷ 84 ∷ 89 ∷ 32 ∷ 83 ∷ 80 ∷ 69 ∷ 67 ∷ 84 ∷ 82 ∷ 85 ∷ 77 ∷ 10 ∷ 35 ∷ 35 ∷ 68 ∷ 65 ∷ 84 ∷ 65 ∷ 32 ∷ 67 ∷ 76 ∷ 65 ∷ 83 ∷ 83 ∷ 61 ∷ 88 ∷ 89 ∷ 68 ∷ 65 ∷ 84 ∷ 65 ∷ 10 ∷
    35 ∷ 35 ∷ 79 ∷ 82 ∷ 73 ∷ 71 ∷ 73 ∷ 78 ∷ 61 ∷ 111 ∷ 10 ∷ 35 ∷ 35 ∷ 79 ∷ 87 ∷ 78 ∷ 69 ∷ 82 ∷ 61 ∷ 112 ∷ 10 ∷ 35 ∷ 35 ∷ 46 ∷ 73 ∷ 77 ∷ 83 ∷ 32 ∷ 80 ∷ 82 ∷ 69 ∷ 83 ∷ 83 ∷ 85 ∷ 82
    ∷ 69 ∷ 61 ∷ 49 ∷ 10 ∷ 35 ∷ 35 ∷ 46 ∷ 67 ∷ 65 ∷ 82 ∷ 82 ∷ 73 ∷ 69 ∷ 82 ∷ 32 ∷ 71 ∷ 65 ∷ 83 ∷ 61 ∷ 103 ∷ 10 ∷ 35 ∷ 35 ∷ 46 ∷ 68 ∷ 82 ∷ 73 ∷ 70 ∷ 84 ∷ 32 ∷ 71 ∷ 65 ∷ 83 ∷ 61 ∷
    104 ∷ 10 ∷ 35 ∷ 35 ∷ 46 ∷ 69 ∷ 76 ∷ 69 ∷ 67 ∷ 84 ∷ 82 ∷ 73 ∷ 67 ∷ 32 ∷ 70 ∷ 73 ∷ 69 ∷ 76 ∷ 68 ∷ 61 ∷ 50 ∷ 44 ∷ 51 ∷ 10 ∷ 35 ∷ 35 ∷ 46 ∷ 73 ∷ 79 ∷ 78 ∷ 32 ∷ 80 ∷ 79 ∷ 76 ∷ 65 ∷
    82 ∷ 73 ∷ 84 ∷ 89 ∷ 61 ∷ 80 ∷ 79 ∷ 83 ∷ 73 ∷ 84 ∷ 73 ∷ 86 ∷ 69 ∷ 10 ∷ 35 ∷ 35 ∷ 46 ∷ 73 ∷ 79 ∷ 78 ∷ 73 ∷ 90 ∷ 65 ∷ 84 ∷ 73 ∷ 79 ∷ 78 ∷ 32 ∷ 77 ∷ 79 ∷ 68 ∷ 69 ∷ 61 ∷ 80 ∷ 68 ∷
    10 ∷ 35 ∷ 35 ∷ 46 ∷ 73 ∷ 77 ∷ 83 ∷ 32 ∷ 84 ∷ 69 ∷ 77 ∷ 80 ∷ 69 ∷ 82 ∷ 65 ∷ 84 ∷ 85 ∷ 82 ∷ 69 ∷ 61 ∷ 52 ∷ 10 ∷ 35 ∷ 35 ∷ 46 ∷ 83 ∷ 72 ∷ 85 ∷ 84 ∷ 84 ∷ 69 ∷ 82 ∷ 32 ∷ 79 ∷ 80 ∷
    69 ∷ 78 ∷ 73 ∷ 78 ∷ 71 ∷ 32 ∷ 84 ∷ 73 ∷ 77 ∷ 69 ∷ 61 ∷ 53 ∷ 10 ∷ 35 ∷ 35 ∷ 88 ∷ 85 ∷ 78 ∷ 73 ∷ 84 ∷ 83 ∷ 61 ∷ 83 ∷ 69 ∷ 67 ∷ 79 ∷ 78 ∷ 68 ∷ 83 ∷ 10 ∷ 35 ∷ 35 ∷ 89 ∷ 85 ∷ 78 ∷
    73 ∷ 84 ∷ 83 ∷ 61 ∷ 80 ∷ 73 ∷ 67 ∷ 79 ∷ 65 ∷ 77 ∷ 80 ∷ 69 ∷ 82 ∷ 69 ∷ 83 ∷ 10 ∷ []

all_right : profiled [] 0 0 all ≡ Ok tt
unfolding profiled records present words judged placed located wanted on_page record_of mark_of from walk step headed eq_in norm ignored blank upper sames is_word word_from any_word space opens past past_at
all_right = refl

-- the same, with DATA CLASS of XYPOINTS: 31 at that word, on the page
abbrev wrong : List ℕ
wrong =
    35 ∷ 35 ∷ 74 ∷ 67 ∷ 65 ∷ 77 ∷ 80 ∷ 45 ∷ 68 ∷ 88 ∷ 61 ∷ 53 ∷ 46 ∷ 48 ∷ 49 ∷ 10 ∷ 35 ∷ 35 ∷ 68 ∷ 65 ∷ 84 ∷ 65 ∷ 32 ∷ 84 ∷ 89 ∷ 80 ∷ 69 ∷ 61 ∷ 73 ∷ 79 ∷ 78 ∷ 32 ∷ 77 ∷ 79 ∷ 66 ∷
    73 ∷ 76 ∷ 73 ∷ 84 ∷ 89 ∷ 32 ∷ 83 ∷ 80 ∷ 69 ∷ 67 ∷ 84 ∷ 82 ∷ 85 ∷ 77 ∷ 10 ∷ 35 ∷ 35 ∷ 68 ∷ 65 ∷ 84 ∷ 65 ∷ 32 ∷ 67 ∷ 76 ∷ 65 ∷ 83 ∷ 83 ∷ 61 ∷ 88 ∷ 89 ∷ 80 ∷ 79 ∷ 73 ∷ 78 ∷ 84 ∷
    83 ∷ 10 ∷ 35 ∷ 35 ∷ 79 ∷ 82 ∷ 73 ∷ 71 ∷ 73 ∷ 78 ∷ 61 ∷ 111 ∷ 10 ∷ 35 ∷ 35 ∷ 79 ∷ 87 ∷ 78 ∷ 69 ∷ 82 ∷ 61 ∷ 112 ∷ 10 ∷ 35 ∷ 35 ∷ 46 ∷ 73 ∷ 77 ∷ 83 ∷ 32 ∷ 80 ∷ 82 ∷ 69 ∷ 83 ∷ 83
    ∷ 85 ∷ 82 ∷ 69 ∷ 61 ∷ 49 ∷ 10 ∷ 35 ∷ 35 ∷ 46 ∷ 67 ∷ 65 ∷ 82 ∷ 82 ∷ 73 ∷ 69 ∷ 82 ∷ 32 ∷ 71 ∷ 65 ∷ 83 ∷ 61 ∷ 103 ∷ 10 ∷ 35 ∷ 35 ∷ 46 ∷ 68 ∷ 82 ∷ 73 ∷ 70 ∷ 84 ∷ 32 ∷ 71 ∷ 65 ∷ 83
    ∷ 61 ∷ 104 ∷ 10 ∷ 35 ∷ 35 ∷ 46 ∷ 69 ∷ 76 ∷ 69 ∷ 67 ∷ 84 ∷ 82 ∷ 73 ∷ 67 ∷ 32 ∷ 70 ∷ 73 ∷ 69 ∷ 76 ∷ 68 ∷ 61 ∷ 50 ∷ 44 ∷ 51 ∷ 10 ∷ 35 ∷ 35 ∷ 46 ∷ 73 ∷ 79 ∷ 78 ∷ 32 ∷ 80 ∷ 79 ∷ 76
    ∷ 65 ∷ 82 ∷ 73 ∷ 84 ∷ 89 ∷ 61 ∷ 80 ∷ 79 ∷ 83 ∷ 73 ∷ 84 ∷ 73 ∷ 86 ∷ 69 ∷ 10 ∷ 35 ∷ 35 ∷ 46 ∷ 73 ∷ 79 ∷ 78 ∷ 73 ∷ 90 ∷ 65 ∷ 84 ∷ 73 ∷ 79 ∷ 78 ∷ 32 ∷ 77 ∷ 79 ∷ 68 ∷ 69 ∷ 61 ∷ 80
    ∷ 68 ∷ 10 ∷ 35 ∷ 35 ∷ 46 ∷ 73 ∷ 77 ∷ 83 ∷ 32 ∷ 84 ∷ 69 ∷ 77 ∷ 80 ∷ 69 ∷ 82 ∷ 65 ∷ 84 ∷ 85 ∷ 82 ∷ 69 ∷ 61 ∷ 52 ∷ 10 ∷ 35 ∷ 35 ∷ 46 ∷ 83 ∷ 72 ∷ 85 ∷ 84 ∷ 84 ∷ 69 ∷ 82 ∷ 32 ∷ 79
    ∷ 80 ∷ 69 ∷ 78 ∷ 73 ∷ 78 ∷ 71 ∷ 32 ∷ 84 ∷ 73 ∷ 77 ∷ 69 ∷ 61 ∷ 53 ∷ 10 ∷ 35 ∷ 35 ∷ 88 ∷ 85 ∷ 78 ∷ 73 ∷ 84 ∷ 83 ∷ 61 ∷ 83 ∷ 69 ∷ 67 ∷ 79 ∷ 78 ∷ 68 ∷ 83 ∷ 10 ∷ 35 ∷ 35 ∷ 89 ∷ 85
    ∷ 78 ∷ 73 ∷ 84 ∷ 83 ∷ 61 ∷ 80 ∷ 73 ∷ 67 ∷ 79 ∷ 65 ∷ 77 ∷ 80 ∷ 69 ∷ 82 ∷ 69 ∷ 83 ∷ 10 ∷ []

word_wrong : profiled [] 0 0 wrong ≡ Err (Unfit.Unlisted true 63)
unfolding profiled records present words judged placed located wanted on_page record_of mark_of from walk step headed eq_in norm ignored blank upper sames is_word word_from any_word space opens past past_at
word_wrong = refl

-- the same, without YUNITS: 30 comes before 31
abbrev without : List ℕ
without =
    35 ∷ 35 ∷ 74 ∷ 67 ∷ 65 ∷ 77 ∷ 80 ∷ 45 ∷ 68 ∷ 88 ∷ 61 ∷ 53 ∷ 46 ∷ 48 ∷ 49 ∷ 10 ∷ 35 ∷ 35 ∷ 68 ∷ 65 ∷ 84 ∷ 65 ∷ 32 ∷ 84 ∷ 89 ∷ 80 ∷ 69 ∷ 61 ∷ 73 ∷ 79 ∷ 78 ∷ 32 ∷ 77 ∷ 79 ∷ 66 ∷
    73 ∷ 76 ∷ 73 ∷ 84 ∷ 89 ∷ 32 ∷ 83 ∷ 80 ∷ 69 ∷ 67 ∷ 84 ∷ 82 ∷ 85 ∷ 77 ∷ 10 ∷ 35 ∷ 35 ∷ 68 ∷ 65 ∷ 84 ∷ 65 ∷ 32 ∷ 67 ∷ 76 ∷ 65 ∷ 83 ∷ 83 ∷ 61 ∷ 88 ∷ 89 ∷ 80 ∷ 79 ∷ 73 ∷ 78 ∷ 84 ∷
    83 ∷ 10 ∷ 35 ∷ 35 ∷ 79 ∷ 82 ∷ 73 ∷ 71 ∷ 73 ∷ 78 ∷ 61 ∷ 111 ∷ 10 ∷ 35 ∷ 35 ∷ 79 ∷ 87 ∷ 78 ∷ 69 ∷ 82 ∷ 61 ∷ 112 ∷ 10 ∷ 35 ∷ 35 ∷ 46 ∷ 73 ∷ 77 ∷ 83 ∷ 32 ∷ 80 ∷ 82 ∷ 69 ∷ 83 ∷ 83
    ∷ 85 ∷ 82 ∷ 69 ∷ 61 ∷ 49 ∷ 10 ∷ 35 ∷ 35 ∷ 46 ∷ 67 ∷ 65 ∷ 82 ∷ 82 ∷ 73 ∷ 69 ∷ 82 ∷ 32 ∷ 71 ∷ 65 ∷ 83 ∷ 61 ∷ 103 ∷ 10 ∷ 35 ∷ 35 ∷ 46 ∷ 68 ∷ 82 ∷ 73 ∷ 70 ∷ 84 ∷ 32 ∷ 71 ∷ 65 ∷ 83
    ∷ 61 ∷ 104 ∷ 10 ∷ 35 ∷ 35 ∷ 46 ∷ 69 ∷ 76 ∷ 69 ∷ 67 ∷ 84 ∷ 82 ∷ 73 ∷ 67 ∷ 32 ∷ 70 ∷ 73 ∷ 69 ∷ 76 ∷ 68 ∷ 61 ∷ 50 ∷ 44 ∷ 51 ∷ 10 ∷ 35 ∷ 35 ∷ 46 ∷ 73 ∷ 79 ∷ 78 ∷ 32 ∷ 80 ∷ 79 ∷ 76
    ∷ 65 ∷ 82 ∷ 73 ∷ 84 ∷ 89 ∷ 61 ∷ 80 ∷ 79 ∷ 83 ∷ 73 ∷ 84 ∷ 73 ∷ 86 ∷ 69 ∷ 10 ∷ 35 ∷ 35 ∷ 46 ∷ 73 ∷ 79 ∷ 78 ∷ 73 ∷ 90 ∷ 65 ∷ 84 ∷ 73 ∷ 79 ∷ 78 ∷ 32 ∷ 77 ∷ 79 ∷ 68 ∷ 69 ∷ 61 ∷ 80
    ∷ 68 ∷ 10 ∷ 35 ∷ 35 ∷ 46 ∷ 73 ∷ 77 ∷ 83 ∷ 32 ∷ 84 ∷ 69 ∷ 77 ∷ 80 ∷ 69 ∷ 82 ∷ 65 ∷ 84 ∷ 85 ∷ 82 ∷ 69 ∷ 61 ∷ 52 ∷ 10 ∷ 35 ∷ 35 ∷ 46 ∷ 83 ∷ 72 ∷ 85 ∷ 84 ∷ 84 ∷ 69 ∷ 82 ∷ 32 ∷ 79
    ∷ 80 ∷ 69 ∷ 78 ∷ 73 ∷ 78 ∷ 71 ∷ 32 ∷ 84 ∷ 73 ∷ 77 ∷ 69 ∷ 61 ∷ 53 ∷ 10 ∷ 35 ∷ 35 ∷ 88 ∷ 85 ∷ 78 ∷ 73 ∷ 84 ∷ 83 ∷ 61 ∷ 83 ∷ 69 ∷ 67 ∷ 79 ∷ 78 ∷ 68 ∷ 83 ∷ 10 ∷ []

lacking_first : profiled [] 0 0 without ≡ Err Unfit.Lacking
unfolding profiled records present words judged placed located wanted on_page record_of mark_of from walk step headed eq_in norm ignored blank upper sames is_word word_from any_word space opens past past_at
lacking_first = refl

-- with a file that has OWNER and DATA CLASS, these two are taken from there, and the page's wrong word is not looked at
abbrev file : List ℕ
file =
    10 ∷ 35 ∷ 35 ∷ 79 ∷ 87 ∷ 78 ∷ 69 ∷ 82 ∷ 61 ∷ 113 ∷ 10 ∷ 35 ∷ 35 ∷ 68 ∷ 65 ∷ 84 ∷ 65 ∷ 32 ∷ 67 ∷ 76 ∷ 65 ∷ 83 ∷ 83 ∷ 61 ∷ 88 ∷ 89 ∷ 68 ∷ 65 ∷ 84 ∷ 65 ∷ 10 ∷ []

file_first : profiled file 0 31 wrong ≡ Ok tt
unfolding profiled records present words judged placed located wanted on_page record_of mark_of from walk step headed eq_in norm ignored blank upper sames is_word word_from any_word space opens past past_at
file_first = refl

-- where each text stands then, in 001's order: on the page or not, from, to
file_numbers_lem : all_numbers file 0 31 wrong wanted ≡
    1 ∷ 11 ∷ 16 ∷ 1 ∷ 28 ∷ 50 ∷ 0 ∷ 24 ∷ 31 ∷ 1 ∷ 81 ∷ 83 ∷ 0 ∷ 9 ∷ 11 ∷ 1 ∷ 109 ∷ 111 ∷ 1 ∷ 126 ∷ 128 ∷ 1 ∷ 141 ∷ 143 ∷ 1 ∷ 161 ∷ 165 ∷ 1 ∷ 181 ∷ 190 ∷ 1 ∷ 209 ∷ 212 ∷
    1 ∷ 231 ∷ 233 ∷ 1 ∷ 257 ∷ 259 ∷ 1 ∷ 268 ∷ 276 ∷ 1 ∷ 285 ∷ 297 ∷ []
unfolding all_numbers numbers placed located wanted on_page record_of mark_of from walk step headed eq_in norm ignored blank upper sames
file_numbers_lem = refl
