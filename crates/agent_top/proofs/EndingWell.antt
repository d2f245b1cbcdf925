-- Runs whose counts of faults stand still end by no fault.
use Rattle.std.proofs.Common.{◌≡◌, ℕ, Bool, true, false, refl, sym, subst}
use Rattle.{agent_ports.specs.{Counts.Rose, Sides.{Side, IsCut}, declared.link.Sent.{Sent, TheVariants.{All, Failed}}}, agent_commands.specs.declared.went.SessionEnd.SessionEnd}
use Rattle.{agent_commands.specs.declared.went.SessionEnd.TheVariants.{Bye, Killed, Ended, TooLong, Spent, ReadFault, WriteFault}, agent_serve.specs.Working.HostViews, session_options.specs.declared.rules.Rules.Rules}
use Rattle.agent_top.specs.{Completeness.{NoLinkFault, SessionEndsByClient, SessionEndsWell, DaemonEndsWell, LoadEndsWell, over, spent, too_long, by_client, no_memory, stopped, done}, Daemon.{RunsDaemon, summed, no_listener, status_after}}
use Rattle.agent_top.specs.{Load.{RunsLoad, wrote, load_status}, Top.{Machine, RunsSession, RunsServer, ran, exit_number, status_of}}
use Rattle.agent_top.specs.Daemon as daemon
use Rattle.agent_top.specs.Load as load
use Rattle.agent_top.specs.Top as top

faultless_end_is_by_client : (end : SessionEnd) → (end ≡ ReadFault → ⊥) → (end ≡ WriteFault → ⊥) → SessionEndsByClient (exit_number (status_of end))
faultless_end_is_by_client Bye unread unwritten = over
faultless_end_is_by_client Killed unread unwritten = over
faultless_end_is_by_client Ended unread unwritten = over
faultless_end_is_by_client TooLong unread unwritten = too_long
faultless_end_is_by_client Spent unread unwritten = spent
faultless_end_is_by_client ReadFault unread unwritten = absurd (unread refl)
faultless_end_is_by_client WriteFault unread unwritten = absurd (unwritten refl)

pub ends_by_client : {rules : Rules} {before after : Machine} {number : ℕ} → RunsSession rules before number after → NoLinkFault before after → SessionEndsByClient number
ends_by_client session still =
    subst SessionEndsByClient (sym session.number_is) (faultless_end_is_by_client session.end (λ is. still.input (session.served.read_fault is)) (λ is. still.output (session.served.write_fault is)))

pub server_ends_well : {rules : Rules} {before after : Machine} {number : ℕ} → RunsServer rules before number after → NoLinkFault before after → SessionEndsWell number
server_ends_well (ran session) still = by_client (ends_by_client session still)
server_ends_well top.no_memory still = no_memory

whole_summary_ends_well : (is_stopped : Bool) (sent : Sent) → (is_stopped ≡ false → ⊥) → ((count : ℕ) → sent ≡ Failed count → ⊥) → DaemonEndsWell (exit_number (status_after is_stopped sent))
whole_summary_ends_well is_stopped (Failed count) runs whole = absurd (whole count refl)
whole_summary_ends_well true All runs whole = stopped
whole_summary_ends_well false All runs whole = absurd (runs refl)

pub daemon_ends_well : {Ls E Li La C R K T : Type 0} {host : HostViews Ls E Li La C R K T} {rules : Rules} {listens listens_now : ℕ} {before after : Side} {number : ℕ}
    → RunsDaemon host rules listens before number listens_now after → ¬ Rose listens listens_now → ¬ Rose before.faults after.faults → DaemonEndsWell number
daemon_ends_well (summed sums) heard written =
    subst DaemonEndsWell (sym sums.number_is) (whole_summary_ends_well sums.tally.stopped sums.sent (λ is. heard (sums.unstopped is)) (λ count is. written (sums.cut (subst IsCut (sym is) tt))))
daemon_ends_well (no_listener rose) heard written = absurd (heard rose)
daemon_ends_well daemon.no_memory heard written = no_memory

whole_line_ends_well : (sent : Sent) → ((count : ℕ) → sent ≡ Failed count → ⊥) → LoadEndsWell (exit_number (load_status sent))
whole_line_ends_well (Failed count) whole = absurd (whole count refl)
whole_line_ends_well All whole = done

pub load_ends_well : {number result : ℕ} {before after : Side} → RunsLoad number before result after → ¬ Rose before.faults after.faults → LoadEndsWell result
load_ends_well (wrote tally sent is line number_is cut) stays =
    subst LoadEndsWell (sym number_is) (whole_line_ends_well sent (λ count is. stays (cut (subst IsCut (sym is) tt))))
load_ends_well load.no_memory stays = no_memory
