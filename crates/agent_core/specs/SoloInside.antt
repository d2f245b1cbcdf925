-- What a desk in memory keeps.
use Rattle.std.specs.{Prelude.{List, Option, reverse, map, IfSome, false, ◌≡◌, ℕ}, Global.Vec}
use Rattle.{agent_ports.specs.declared.session.SessionId.SessionId, cache_policy.specs.{Histories.History, Waits.is_session}}
use Rattle.agent_core.specs.{declared.{foreign.Foreign.Foreign, holder.Holder.Holder}, Foreigners.AllForeign, Seating.Seated}

-- the lists of a script, of which the next one stands last
abbrev pub lists_of : List (Vec Foreign) → List (List Foreign)
lists_of script = map (λ list. list.items) (reverse script)

-- the ticket that is out is known, and the script and the other session are foreign
pub record IsSolo (session : SessionId) (run : List History) (out : Option ℕ) (holder : Option Holder) (script : List (List Foreign)) : Type 0 where
  pub seated : Seated run out holder
  pub script_is : AllForeign session script
  pub holder_is : IfSome holder (λ h. is_session session h.session ≡ false)
