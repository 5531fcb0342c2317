-- Small spools and lists of ordinates, computed. Assumes nothing.
use Rattle.std.specs.Prelude.{◌≡◌, refl, [], ◌∷◌, pos, negsuc, Some, None, Ok, Err}
use Rattle.terms.specs.Refusals.{fault_at, refusal_in}
use Rattle.night_spec.specs.Spool.{record_at, refused_at, spool_from, spool_of, files_of, end_of}
use Rattle.night_spec.specs.Report.{account_of, given, missing, magnitudes, least, greatest, sum_of}
use Rattle.night_spec.specs.Night.{with_report, totals_of}
use Rattle.label_spec.specs.Parts.{span_of}

-- what stands at place 0 of a spool
record_samples :
    (record_at 1000 [] 0 ≡ Ok None)
    × (record_at 0 (74 ∷ []) 0 ≡ refused_at 36 0)
    × (record_at 1000 (74 ∷ 68 ∷ 0 ∷ 0 ∷ []) 0 ≡ refused_at 35 0)
    × (record_at 1000 (1 ∷ 2 ∷ 3 ∷ 4 ∷ []) 0 ≡ refused_at 35 0)
    × (record_at 1000 (68 ∷ 74 ∷ 0 ∷ 0 ∷ 0 ∷ []) 0 ≡ refused_at 34 0)
    × (record_at 1000 (74 ∷ 68 ∷ 0 ∷ 0 ∷ 1 ∷ []) 0 ≡ refused_at 35 0)
    × (record_at 1000 (74 ∷ 68 ∷ 0 ∷ 0 ∷ 1 ∷ 7 ∷ []) 0 ≡ Ok (Some (span_of 5 6)))
    × (record_at 1000 (74 ∷ 68 ∷ 0 ∷ 0 ∷ 0 ∷ []) 0 ≡ Ok (Some (span_of 5 5)))
unfolding record_at
record_samples = (refl, refl, refl, refl, refl, refl, refl, refl)

-- 5, missing, -3, 0; then one that is missing alone; then zeros
account_samples :
    (account_of (2147483653 ∷ 0 ∷ 2147483645 ∷ 2147483648 ∷ [])
    ≡ record { points = 4; missing = 1; lowest = Some (negsuc 2); highest = Some (pos 5); sum = pos 2; faintest = Some (pos 3) })
    × (account_of (0 ∷ []) ≡ record { points = 1; missing = 1; lowest = None; highest = None; sum = pos 0; faintest = None })
    × (account_of (2147483648 ∷ 2147483648 ∷ [])
    ≡ record { points = 2; missing = 0; lowest = Some (pos 0); highest = Some (pos 0); sum = pos 0; faintest = None })
unfolding account_of given missing magnitudes least greatest sum_of
account_samples = (refl, refl, refl)

-- two files and a third whose record is cut off: the two are reported, the totals are over the accepted ones, of which there are none, and the third refuses the spool
night_samples :
    (files_of (spool_of (74 ∷ 68 ∷ 0 ∷ 0 ∷ 1 ∷ 7 ∷ 74 ∷ 68 ∷ 0 ∷ 0 ∷ 0 ∷ 74 ∷ [])) ≡ (7 ∷ []) ∷ [] ∷ [])
    × (end_of (spool_of (74 ∷ 68 ∷ 0 ∷ 0 ∷ 1 ∷ 7 ∷ 74 ∷ 68 ∷ 0 ∷ 0 ∷ 0 ∷ 74 ∷ [])) ≡ Err (fault_at 35 11))
    × (totals_of (Ok (account_of (2147483653 ∷ 0 ∷ [])) ∷ Err (refusal_in [] 21 0) ∷ Ok (account_of (2147483640 ∷ [])) ∷ [])
    ≡ record { files = 2; points = 3; missing = 1; sum = negsuc 2 })
unfolding record_at spool_from files_of end_of totals_of with_report account_of given missing magnitudes least greatest sum_of
night_samples = (refl, refl, refl)
