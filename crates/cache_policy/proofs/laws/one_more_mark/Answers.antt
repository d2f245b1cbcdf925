use Rattle.cache_policy.proofs.{EntriesLemmas.entries_with_mark, OneMore.{seat_with_mark, stopped_with_mark, newest_with_mark, gone_with_mark, last_use_with_mark, is_live_with_mark}}
use Rattle.cache_policy.proofs.Growing.{entries_numbered, is_live_stored, legal_with_mark}
use Rattle.cache_policy.proofs.laws.one_more_mark.Goals as goal

pub returns-clause-seat : goal.returns-clause-seat
returns-clause-seat c = seat_with_mark

pub returns-clause-stopped : goal.returns-clause-stopped
returns-clause-stopped c = stopped_with_mark

pub returns-clause-numbers : goal.returns-clause-numbers
returns-clause-numbers c = entries_numbered

pub returns-clause-newest : goal.returns-clause-newest
returns-clause-newest c = newest_with_mark

pub returns-clause-gone : goal.returns-clause-gone
returns-clause-gone c = gone_with_mark

pub returns-clause-last_use : goal.returns-clause-last_use
returns-clause-last_use c = last_use_with_mark

pub returns-clause-live : goal.returns-clause-live
returns-clause-live c = is_live_with_mark

pub returns-clause-live_at_once : goal.returns-clause-live_at_once
returns-clause-live_at_once c = is_live_stored

pub returns-clause-legal : goal.returns-clause-legal
returns-clause-legal c = legal_with_mark

pub returns-clause-entries : goal.returns-clause-entries
returns-clause-entries c = entries_with_mark
