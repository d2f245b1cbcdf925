use Rattle.agent_conf.proofs.{LimitLemmas.{limit_counts, limit_holds, rows_are_listed}, NearestLemmas.{kept_as_written, kept_is_nearest, kept_no_laxer, refused_is_laxer}}
use Rattle.agent_conf.proofs.laws.nothing_laxer_is_kept.Goals as goal

pub returns-clause-kept : goal.returns-clause-kept
returns-clause-kept c = kept_no_laxer

pub returns-clause-nearest : goal.returns-clause-nearest
returns-clause-nearest c = kept_is_nearest

pub returns-clause-refused : goal.returns-clause-refused
returns-clause-refused c = refused_is_laxer

pub returns-clause-limited : goal.returns-clause-limited
returns-clause-limited c = limit_counts

pub returns-clause-exact : goal.returns-clause-exact
returns-clause-exact c = kept_as_written

pub returns-clause-rows : goal.returns-clause-rows
returns-clause-rows c = limit_holds

pub returns-clause-all : goal.returns-clause-all
returns-clause-all c = rows_are_listed
