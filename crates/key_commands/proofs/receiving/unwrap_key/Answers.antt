use Rattle.key_commands.proofs.KeyData.{wrapped_usable, unwraps, not_unwrapped}
use Rattle.key_commands.proofs.receiving.unwrap_key.Goals as goal

pub returns-in-Ok-clause-unwraps : goal.returns-in-Ok-clause-unwraps
returns-in-Ok-clause-unwraps c = unwraps c.in-Ok.ensures.key

pub returns-in-Ok-clause-usable : goal.returns-in-Ok-clause-usable
returns-in-Ok-clause-usable c = (wrapped_usable c.in-Ok.ensures.key).0

pub returns-in-Ok-clause-short : goal.returns-in-Ok-clause-short
returns-in-Ok-clause-short c = (wrapped_usable c.in-Ok.ensures.key).1

pub returns-in-Err-clause-unwraps : goal.returns-in-Err-clause-unwraps
returns-in-Err-clause-unwraps c = not_unwrapped c.in-Err.code c.in-Err.ensures.fault
