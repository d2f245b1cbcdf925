-- Private: shares of each ledger together.
use Rattle.std.specs.Prelude.{◌≡◌, ◌+◌, List, sum, map, length}
use Rattle.agent_lock.specs.declared.{pass.Counts.Counts, books.Shares.Shares}

module _ {M G E O : Type 0} where
  -- they have no part of a ledger, and no amount
  pub record AreNone (shares : Shares M G E O) : Type 0 where
    pub parts : (shares.calls.parts ≡ 0) × (shares.given.parts ≡ 0) × (shares.empty.parts ≡ 0) × (shares.opened.parts ≡ 0)
    pub amounts : (shares.calls.amount ≡ 0) × (shares.given.amount ≡ 0) × (shares.empty.amount ≡ 0) × (shares.opened.amount ≡ 0)

  -- with those of these passes they are those of all of them
  pub record AreShares (shares : Shares M G E O) (left all : List Counts) : Type 0 where
    pub calls_parts : shares.calls.parts + length left ≡ length all
    pub given_parts : shares.given.parts + length left ≡ length all
    pub empty_parts : shares.empty.parts + length left ≡ length all
    pub opened_parts : shares.opened.parts + length left ≡ length all
    pub calls : shares.calls.amount + sum (map (λ pass. pass.calls) left) ≡ sum (map (λ pass. pass.calls) all)
    pub given : shares.given.amount + sum (map (λ pass. pass.given) left) ≡ sum (map (λ pass. pass.given) all)
    pub empty : shares.empty.amount + sum (map (λ pass. pass.empty) left) ≡ sum (map (λ pass. pass.empty) all)
    pub opened : shares.opened.amount + sum (map (λ pass. pass.opened) left) ≡ sum (map (λ pass. pass.opened) all)
