-- Values and facts that have to be there, where they are and where they aren't.
use Rattle.std.proofs.Common.{◌≡◌, ℕ, Bool, true, false, [], Option, Some, None, Ok, Err, subst}
use Rattle.session_client.specs.declared.{code.Code.Code, refusal.Refusal.TheVariants.Agent}
use Rattle.agent_ask.specs.Session.Actions.{needed, wanted, returns, refuses}

module _ (E : Type 0) (code : Code) (held : Option ℕ) where
  pub wanted_there : (fact : Bool) → fact ≡ true → wanted {E = E} code fact held [] (Ok tt) held
  wanted_there true is = returns
  wanted_there false is = cc is

  pub wanted_missing : (fact : Bool) → fact ≡ false → wanted {E = E} code fact held [] (Err (Agent code)) held
  wanted_missing true is = cc is
  wanted_missing false is = refuses

  pub needed_there : {A : Type 0} {value : A} (found : Option A) → found ≡ Some value → needed {E = E} code found held [] (Ok value) held
  needed_there None is = cc is
  needed_there {A} {value} (Some other) is = let same : other ≡ value = cc is in subst (λ (v : A). needed {E = E} code (Some other) held [] (Ok v) held) same returns

  pub needed_missing : {A : Type 0} (found : Option A) → found ≡ None → needed {E = E} code found held [] (Err (Agent code)) held
  needed_missing None is = refuses
  needed_missing (Some value) is = cc is
