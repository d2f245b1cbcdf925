-- Private: how a step came out at a core whose run is known.
use Rattle.std.specs.Prelude.{◌≡◌, None, Ok, ⊤}
use Rattle.cache_policy.specs.{declared.step.Step.Step, Turns.{Turn, Stand, Refused, turn_of}}
use Rattle.agent_core.specs.{declared.stepped.Stepped.Stepped, Openings.{opening_step, without_wait}}
use Rattle.agent_core.specs.declared.stepped.Stepped.TheVariants as stepped

-- the turn that it is
abbrev pub turn_of_stepped : Stepped → Turn
turn_of_stepped (stepped.Replied reply) = turn_of (Ok reply)
turn_of_stepped (stepped.Stood opening wait) = Stand wait
turn_of_stepped (stepped.Refused back) = Refused

-- the step doesn't have to be taken again
abbrev pub IsSettled : Turn → Type 0
IsSettled (Stand wait) = ⊥
IsSettled turn = ⊤

-- a step that is handed back is the one that was asked, and no reply is Stand
abbrev pub HandsBack : Step → Stepped → Type 0
HandsBack asked (stepped.Replied reply) = IsSettled (turn_of (Ok reply))
HandsBack asked (stepped.Stood opening wait) = opening_step opening None ≡ without_wait asked
HandsBack asked (stepped.Refused back) = back ≡ asked
