-- `profile_records::judge` meets its contract: on the page, or in the file.
use Rattle.profile_records.proofs.RecordTurns.{judged_source, inside_of}
use Rattle.profile_records.proofs.judge.Goals as goal

pub judge_in-requires : goal.judge_in-requires
judge_in-requires c = inside_of c.args.file.now c.args.page.now c.args.x _ c.if-on_page.true c.requires

pub returns-then-on_page : goal.returns-then-on_page
returns-then-on_page c = judged_source c.args.file.now c.args.page.now c.args.x _ _ c.if-on_page.true _ c.judge_in.ensures

pub judge_in-requires-else-on_page : goal.judge_in-requires-else-on_page
judge_in-requires-else-on_page c = inside_of c.args.file.now c.args.page.now c.args.x _ c.if-on_page.false c.requires

pub returns-else-on_page : goal.returns-else-on_page
returns-else-on_page c = judged_source c.args.file.now c.args.page.now c.args.x _ _ c.if-on_page.false _ c.judge_in-else-on_page.ensures
