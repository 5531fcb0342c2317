-- `profile_find::find_named` meets its contract: the record of the file, or else of the page.
use Rattle.profile_find.proofs.FindTurns.{named_file, named_page, named_none}
use Rattle.profile_find.proofs.find_named.Goals as goal

pub returns-in-Some : goal.returns-in-Some
returns-in-Some c = rw c.found.ensures (named_file _ _ _ _ _ _ _ (rw c.in-Some.is at c.find_record.ensures))

pub returns-in-Some-find_on_page : goal.returns-in-Some-find_on_page
returns-in-Some-find_on_page c =
    let f = rw c.in-None.is at c.find_record.ensures in
    rw c.found-in-Some-find_on_page.ensures (named_page _ _ _ _ _ f _ _ (rw c.in-Some-find_on_page.is at c.find_on_page.ensures))

pub returns-in-None-find_on_page : goal.returns-in-None-find_on_page
returns-in-None-find_on_page c =
    let f = rw c.in-None.is at c.find_record.ensures in
    named_none _ _ _ _ _ f (rw c.in-None-find_on_page.is at c.find_on_page.ensures)
