use Rattle.agent_conf.proofs.WordLemmas.{alone_is}
use Rattle.agent_conf.proofs.words.alone.Goals as goal

pub returns : goal.returns
returns c = alone_is _ _ _ _ _ _ c.name_len.ensures.place c.split_at.ensures.front c.split_at.ensures.back c.without_first.ensures
