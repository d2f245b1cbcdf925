-- Private: what a listener gave, seen otherwise.
use Rattle.agent_ports.specs.declared.listener.Next.{Next, TheVariants.{Link, Failed, Stopped}}

abbrev pub map_next : {A B : Type 0} → (A → B) → Next A → Next B
map_next f (Link link) = Link (f link)
map_next f Failed = Failed
map_next f Stopped = Stopped
