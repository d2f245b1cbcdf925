-- The contacts of a connector with agents. This is the project's own.
use Rattle.std.specs.{Prelude.{◌≡◌, ℕ, List, [], ◌∷◌, ◌++◌, Option, Some, None, IfSome}, Option.option_map}
use Rattle.passphrase_talk.specs.declared.connector.{Agents.Agents, Place.Place, Waits.Waits}
use Rattle.passphrase_talk.specs.declared.connector.Waits.TheVariants as waits

-- a contact that was left: which agent it was, the bytes that it still had to give, and those that it was written
pub record Contact : Type 0 where
  pub place : Place
  pub left : List ℕ
  pub written : List ℕ

-- what agents were sought: of which folder, and given how many seconds, where they were named; and which were found
pub record Sought : Type 0 where
  pub folder : Option (List ℕ)
  pub seconds : Option ℕ
  pub found : Agents

-- a connection that was made: with which agent, and what its answers may take
pub record Opening : Type 0 where
  pub place : Place
  pub waits : Waits

-- A connector at some point: the links to come, each as all the bytes that it gives, the agents that were found, the connections that were
-- made, the contacts that were left, and what was handed on of pinentries, in order, where they are known; how many calls and links' calls
-- failed; and how many calls had no memory.
pub record Contacts : Type 0 where
  pub coming : Option (List (List ℕ))
  pub sought : Option (List Sought)
  pub opened : Option (List Opening)
  pub met : Option (List Contact)
  pub launches : Option (List (List ℕ))
  pub faults : ℕ
  pub shortages : ℕ

-- what was sought, and then this folder's agents, which were given so many seconds, and of which these were found
abbrev pub then_sought : Option (List Sought) → Option (List ℕ) → Option ℕ → Agents → Option (List Sought)
then_sought sought folder seconds found = option_map (λ all. all ++ (record { folder = folder; seconds = seconds; found = found }) ∷ []) sought

-- the connections, and then this one
abbrev pub then_opened : Option (List Opening) → Place → Waits → Option (List Opening)
then_opened opened place waits = option_map (λ all. all ++ (record { place = place; waits = waits }) ∷ []) opened

-- the contacts, and then one at this place, which has these bytes left to give and was written those
abbrev pub then_met : Option (List Contact) → Place → Option (List ℕ) → Option (List ℕ) → Option (List Contact)
then_met (Some met) place (Some left) (Some written) = Some (met ++ (record { place = place; left = left; written = written }) ∷ [])
then_met (Some met) place (Some left) None = None
then_met (Some met) place None written = None
then_met None place left written = None

-- the same, but for what was handed on
abbrev pub with_launches : Contacts → Option (List (List ℕ)) → Contacts
with_launches contacts launches = record contacts { launches = launches }

-- These texts of launches were handed on, one behind another; where what was is known.
abbrev pub HasLaunched : Option (List (List ℕ)) → List (List ℕ) → Option (List (List ℕ)) → Type 0
HasLaunched before texts after = IfSome after (λ all. (earlier : List (List ℕ)) × (before ≡ Some earlier) × (all ≡ earlier ++ texts))

-- What is handed on of these texts of launches, by what the contact waits for: all of them where a user may have to type, and else nothing.
abbrev pub HandsOver : Waits → List (List ℕ) → Option (List (List ℕ)) → Option (List (List ℕ)) → Type 0
HandsOver waits.Answer texts before after = after ≡ before
HandsOver waits.Prompt texts before after = HasLaunched before texts after
