-- What a worker does with its pass. This is the project's own.
use Rattle.std.specs.Prelude.{◌≡◌, ◌≤◌, ◌⊎◌, ◌-◌, ◌^◌, ℕ, List, true, Option, Some, None, IfSome}
use Rattle.{agent_commands.specs.declared.went.SessionEnd.{SessionEnd, TheVariants.Killed}, agent_ports.specs.{Counts.Rose, declared.{listener.Next.{Next, TheVariants.{Link, Failed, Stopped}}, session.SessionId.SessionId}, HostParts.Views}}
use Rattle.{agent_ports.specs.{Listening.NothingFailed, Sides.Side, TrustFiles.TrustState}, agent_origin.specs.declared.door.Door.{Door, TheVariants.{Home, Outer}}, counted_lock.specs.{Logs.is_stopped, Passes.AtPass}}
use Rattle.session_options.specs.declared.rules.Rules.{Rules}
use Rattle.agent_serve.specs.{Pairs.PairedTo, Serves.{LinkSides, link_of, ServesOne}}

-- the session that a pass has next
abbrev pub next_session : AtPass → SessionId
next_session pass = record { pass = pass.number; count = pass.sessions }

-- how the listeners, the ears, the links, the parts and the trust files are seen that a host has for its sessions, and of which folder they are
pub record HostViews (Ls E Li La C R K T : Type 0) : Type 1 where
  -- which links come in at a listener
  pub gives : Ls → Li → Type 0
  -- what a listener answers that is asked with an ear, and what it leaves of the ear
  pub answers : Ls → E → Next Li → E → Type 0
  -- whether a listener was told to stop
  pub is_told : Ls → Type 0
  -- what a listener that is told to stop leaves of the ear that it is told with
  pub tells : Ls → E → E → Type 0
  -- whether an ear is one of a listener's
  pub hears : Ls → E → Type 0
  -- how many calls with an ear failed
  pub faults : E → ℕ
  -- whether a listener is the daemon's own, and whether it is the one for restricted sessions
  pub is_home : Ls → Type 0
  pub is_extra : Ls → Type 0
  pub input : Li → Side
  pub output : Li → Side
  pub parts : Views La C R K
  pub trust : T → TrustState
  -- the path of the folder at which it is settled
  pub folder : List ℕ

-- where a worker stands: the door by which its links come, its listener, and the other one, which is stopped with it
pub record Post (Ls : Type 0) : Type 0 where
  pub door : Door
  pub listener : Ls
  pub other : Option Ls

abbrev pub post_at : {Ls : Type 0} → Door → Ls → Option Ls → Post Ls
post_at door listener other = record { door = door; listener = listener; other = other }

-- where the workers stand beside an extra listener, or none: the last one at the extra one, by the outer door, and all others at home
abbrev pub home_post : {Ls : Type 0} → Ls → Option Ls → Post Ls
home_post listener extra = post_at Home listener extra

abbrev pub last_post : {Ls : Type 0} → Ls → Option Ls → Post Ls
last_post listener None = home_post listener None
last_post listener (Some extra) = post_at Outer extra (Some listener)

-- the other listener, where there is one, is told with this ear
abbrev pub TellsOther : {Ls E Li La C R K T : Type 0} → HostViews Ls E Li La C R K T → Option Ls → E → E → Type 0
TellsOther host None ear next = next ≡ ear
TellsOther host (Some other) ear next = host.tells other ear next

-- both listeners are told to stop, with this ear
pub record TellsToStop {Ls E Li La C R K T : Type 0} (host : HostViews Ls E Li La C R K T) (post : Post Ls) (ear next : E) : Type 0 where
  pub own : host.is_told post.listener
  pub ported : IfSome post.other host.is_told
  pub between : E
  pub tells : host.tells post.listener ear between
  pub tells_port : TellsOther host post.other between next

-- a session that ended so has stopped the agent, or its pass, which is left so, has seen that one did
abbrev pub IsToStop : SessionEnd → AtPass → Type 0
IsToStop end now = (end ≡ Killed) ⊎ (is_stopped now.seen ≡ true)

-- Both listeners are told to stop where the agent is to be; else none is told with this ear, with which nothing is done.
pub record StopsAfter {Ls E Li La C R K T : Type 0} (host : HostViews Ls E Li La C R K T) (post : Post Ls) (end : SessionEnd) (now : AtPass) (ear next : E) : Type 0 where
  pub stops : IsToStop end now → TellsToStop host post ear next
  pub goes_on : ¬ IsToStop end now → next ≡ ear

module _ {Ls E Li La C R K T : Type 0} (host : HostViews Ls E Li La C R K T) (rules : Rules) (post : Post Ls) where
  abbrev pub sides : Li → LinkSides
  sides link = link_of (host.input link) (host.output link)

  -- The pass's next session was served by the door, on this link, which came in at the listener, and of which no read and no write had failed. Exactly
  -- where it stopped the agent, or the pass has seen that one did, both listeners are told to stop then.
  pub record ServesNext (pass : AtPass) (link : Li) (ear : E) (now : AtPass) (next : E) : Type 0 where
    pub came : host.gives post.listener link
    pub fresh : NothingFailed (host.input link) (host.output link)
    pub end : SessionEnd
    pub after : Li
    pub serves : ServesOne host.parts host.trust host.folder rules post.door (next_session pass) (sides link) pass end (sides after) now
    pub stops : StopsAfter host post end now ear next

  -- A worker asks its listener with its ear, again and again: each link that it is answered is served before it asks again, and found the pass as the session before had
  -- left it. Nothing else is done to the pass or the ear, so no link is passed over.
  pub data ServesLinks : AtPass → E → AtPass → E → Type 0 where
    none : {pass : AtPass} {ear : E} → ServesLinks pass ear pass ear
    one_more : {first pass now : AtPass} {early ear later next : E} {link : Li} → ServesLinks first early pass ear → host.answers post.listener ear (Link link) later
        → ServesNext pass link later now next → ServesLinks first early now next

  -- Why a worker asks no more: its listener failed, and its ear's count rose meanwhile; or answered that it is stopped, as it was told to be; or the pass has no number for a further session.
  pub data EndsWork (early last : E) (now : AtPass) : E → Type 0 where
    failed : {back : E} → host.answers post.listener last Failed back → Rose (host.faults early) (host.faults back) → EndsWork early last now back
    stopped : {back : E} → host.answers post.listener last Stopped back → host.is_told post.listener → EndsWork early last now back
    numbers_spent : now.sessions ≡ 2 ^ 64 - 1 → EndsWork early last now last

  -- What a worker does with its pass and its ear: it serves links, until it ends for one of these causes.
  pub record Works (pass : AtPass) (ear : E) (now : AtPass) (back : E) : Type 0 where
    pub last : E
    pub serves : ServesLinks pass ear now last
    pub ends : EndsWork ear last now back
    pub unfallen : host.faults ear ≤ host.faults back
    -- an ear of the listener's comes back as one
    pub own_ear : host.hears post.listener ear → host.hears post.listener back

-- the workers of a daemon, each with its pass and its ear, at these listeners
abbrev pub WorkEach : {Ls E Li La C R K T : Type 0} → HostViews Ls E Li La C R K T → Rules → Ls → Option Ls → List AtPass → List E → List AtPass → List E → Type 0
WorkEach host rules listener extra =
    PairedTo (λ pass ear back. Works host rules (home_post listener extra) pass ear back.0 back.1) (λ pass ear back. Works host rules (last_post listener extra) pass ear back.0 back.1)
